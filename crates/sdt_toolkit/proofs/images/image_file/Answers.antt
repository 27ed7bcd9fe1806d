use Rattle.sdt_toolkit.proofs.ImageLemmas.{sized}
use Rattle.sdt_toolkit.proofs.images.image_file.Goals as goal

pub make_aif-requires : goal.make_aif-requires
make_aif-requires c = sized c.args.image.now.regions c.requires
