use Rattle.std.proofs.Common.{refl, []}
use Rattle.asm_registers.proofs.naming.one.Goals as goal

pub returns : goal.returns
returns c = c.with_rest.ensures [] refl
