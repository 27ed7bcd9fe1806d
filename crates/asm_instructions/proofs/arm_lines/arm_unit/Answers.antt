use Rattle.source_model.specs.ArmForms.{arm_instruction}
use Rattle.source_model.specs.Units.{branch_symbol}
use Rattle.asm_instructions.proofs.AlikeLemmas.{branch_symbol_alike, instruction_alike}
use Rattle.asm_instructions.proofs.ContextLemmas.{part_shown}
use Rattle.asm_instructions.proofs.arm_lines.arm_unit.Goals as goal

pub returns-clause-instruction : goal.returns-clause-instruction
returns-clause-instruction c =
    part_shown c.args.lookup.now (λ unit. unit.0) (λ x. arm_instruction x c.args.line.now) c.unit_there.result
    (λ x same. instruction_alike _ x same c.args.line.now) c.unit_there.ensures.instruction

pub returns-clause-symbol : goal.returns-clause-symbol
returns-clause-symbol c =
    part_shown c.args.lookup.now (λ unit. unit.1) (λ x. branch_symbol x c.args.line.now) c.unit_there.result
    (λ x same. branch_symbol_alike _ x same c.args.line.now) c.unit_there.ensures.symbol
