use Rattle.std.proofs.Common.{arith}
use Rattle.std.proofs.lemmas.Grind.{common_steps}
use Rattle.bin_image.proofs.Cuts.{cut_by}
use Rattle.bin_image.proofs.fields.cut.Goals as goal

pub returns-in-None-clause-parts : goal.returns-in-None-clause-parts
returns-in-None-clause-parts c =
    rw c.in-None.is at (cut_by c.args.separator c.args.text.now c.place_of.result c.place_of.ensures.place)

pub returns-in-Some-clause-parts : goal.returns-in-Some-clause-parts
returns-in-Some-clause-parts c =
    let parts = rw c.in-Some.is at (cut_by c.args.separator c.args.text.now c.place_of.result c.place_of.ensures.place) in
    grind (arith, common_steps)
