use Rattle.std.proofs.Common.{refl}
use Rattle.sdt_toolkit.proofs.BigAnswer.{image_by, unlinked_by}
use Rattle.sdt_toolkit.proofs.big_image.image_of.Goals as goal

pub link_scatter-requires-clause-objects : goal.link_scatter-requires-clause-objects
link_scatter-requires-clause-objects c = rw (c.in_ok-objects.ensures, c.requires.object) (c.requires.valid, tt)

pub returns-in-Err-clause-memory : goal.returns-in-Err-clause-memory
returns-in-Err-clause-memory c =
    unlinked_by c.big_law.ensures.made c.args.name.now c.args.count c.requires.some c.requires.few _ _ _ _
    (rw (c.in_ok-objects.ensures, c.requires.object) refl) c.new.ensures.items refl refl c.in-Err.fault c.in-Err.ensures.exact

pub returns-in-Ok-clause-image : goal.returns-in-Ok-clause-image
returns-in-Ok-clause-image c =
    image_by c.big_law.ensures.made c.args.name.now c.args.count c.requires.some c.requires.few _ _ _ _
    (rw (c.in_ok-objects.ensures, c.requires.object) refl) c.new.ensures.items refl refl c.in-Ok.image c.in-Ok.ensures.exact
