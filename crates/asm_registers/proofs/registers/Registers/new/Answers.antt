use Rattle.asm_registers.proofs.LineLemmas.{all_new}
use Rattle.asm_registers.proofs.registers.Registers.new.Goals as goal

pub returns : goal.returns
returns c = all_new c.args.statements.now _ c.in_ok-all.ensures c.new.ensures
