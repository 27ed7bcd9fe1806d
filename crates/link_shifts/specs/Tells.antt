-- What stands fast of a placed link. This project's.
use Rattle.link_model.specs.Members.{link_of}
use Rattle.link_values.specs.Values.{Knows}
use Rattle.link_shifts.specs.declared.moving.Image.{Image}

-- what is told of names and addresses is that of the link and its placement
pub record Tells (image : Image) : Type 0 where
  pub names : Knows (link_of image.linked.now) image.placement.now image.names
