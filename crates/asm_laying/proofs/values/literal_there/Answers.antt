use Rattle.asm_model.specs.Extents.{literal_there}
use Rattle.asm_expr.specs.Seeing.{seen_names}
use Rattle.asm_laying.proofs.ReadLemmas.{literal_read}
use Rattle.asm_laying.proofs.values.literal_there.Goals as goal

pub returns : goal.returns
returns c =
    c.told_value.ensures (literal_there (seen_names c.args.seen.now) c.args.e.now)
    (literal_read (seen_names c.args.seen.now) c.args.e.now c.literal_at.result c.requires c.literal_at.ensures)
