use Rattle.asm_model.specs.Extents.{value_there}
use Rattle.asm_expr.specs.Seeing.{seen_names}
use Rattle.asm_laying.proofs.ReadLemmas.{value_read}
use Rattle.asm_laying.proofs.values.value_there.Goals as goal

pub returns : goal.returns
returns c =
    c.told_value.ensures (value_there (seen_names c.args.seen.now) c.args.e.now)
    (value_read (seen_names c.args.seen.now) c.args.e.now c.value_seen.result c.requires c.value_seen.ensures)
