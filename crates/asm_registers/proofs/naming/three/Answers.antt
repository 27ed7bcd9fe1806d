use Rattle.std.proofs.Common.{[], ◌∷◌}
use Rattle.asm_registers.proofs.naming.three.Goals as goal

pub returns : goal.returns
returns c = c.with_rest.ensures (c.args.b.now ∷ c.args.c.now ∷ []) c.two.ensures
