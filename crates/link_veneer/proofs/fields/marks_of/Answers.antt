use Rattle.std.proofs.Common.{arith}
use Rattle.std.proofs.lemmas.Grind.{common_steps}
use Rattle.link_veneer.proofs.FieldLemmas.{all_marked}
use Rattle.link_veneer.proofs.fields.marks_of.Goals as goal

pub returns : goal.returns
returns c = λ p. grind (arith, common_steps, c.loop-reloc.invariant p, all_marked p c.args.relocs.now)
