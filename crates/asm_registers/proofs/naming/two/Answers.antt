use Rattle.std.proofs.Common.{[], ◌∷◌}
use Rattle.asm_registers.proofs.naming.two.Goals as goal

pub returns : goal.returns
returns c = c.with_rest.ensures (c.args.b.now ∷ []) c.one.ensures
