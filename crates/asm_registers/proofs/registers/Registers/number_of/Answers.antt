use Rattle.std.proofs.Common.{◌∙◌}
use Rattle.source_model.specs.Registers.{registers_behind}
use Rattle.asm_registers.proofs.LineLemmas.{number_same}
use Rattle.asm_registers.proofs.registers.Registers.number_of.Goals as goal

pub returns : goal.returns
returns c = λ names before k.
    c.number_of.ensures ∙ number_same c.args.self.now.known (registers_behind before) k.known c.args.register.now
