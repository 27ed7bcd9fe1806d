use Rattle.std.proofs.Common.{arith, ◌-◌}
use Rattle.expand_model.specs.States.{text_named}
use Rattle.asm_variables.proofs.SubstitutionLemmas.{dropped_byte}
use Rattle.asm_variables.proofs.substitution.pass.Goals as goal

pub returns-then-dropped-eq0 : goal.returns-then-dropped-eq0
returns-then-dropped-eq0 c = rw c.if-dropped-eq0.true c.put.ensures

pub returns : goal.returns
returns c =
    λ s bs has p. dropped_byte (text_named s) c.args.dropped (c.args.dropped - 1) (c.args.first, c.args.standing) bs c.args.out.now.items
    (omega (arith, c.if-dropped-eq0.false))
