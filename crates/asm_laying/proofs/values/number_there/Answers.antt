use Rattle.asm_model.specs.Extents.{number_there}
use Rattle.asm_expr.specs.Seeing.{seen_names}
use Rattle.asm_laying.proofs.ReadLemmas.{number_read}
use Rattle.asm_laying.proofs.values.number_there.Goals as goal

pub returns : goal.returns
returns c =
    c.told_number.ensures (number_there (seen_names c.args.seen.now) c.args.e.now)
    (number_read (seen_names c.args.seen.now) c.args.e.now c.number_at.result c.requires c.number_at.ensures)
