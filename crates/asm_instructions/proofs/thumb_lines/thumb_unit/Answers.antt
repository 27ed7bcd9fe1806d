use Rattle.source_model.specs.ThumbForms.{thumb_instruction}
use Rattle.source_model.specs.Units.{link_symbol}
use Rattle.asm_instructions.proofs.AlikeLemmas.{link_symbol_alike}
use Rattle.asm_instructions.proofs.ContextLemmas.{part_shown}
use Rattle.asm_instructions.proofs.ThumbAlikeLemmas.{thumb_alike}
use Rattle.asm_instructions.proofs.thumb_lines.thumb_unit.Goals as goal

pub returns-clause-code : goal.returns-clause-code
returns-clause-code c =
    part_shown c.args.lookup.now (λ unit. unit.0) (λ x. thumb_instruction x c.args.line.now) c.unit_there.result
    (λ x same. thumb_alike _ x same c.args.line.now) c.unit_there.ensures.code

pub returns-clause-symbol : goal.returns-clause-symbol
returns-clause-symbol c =
    part_shown c.args.lookup.now (λ unit. unit.1) (λ x. link_symbol x c.args.line.now) c.unit_there.result
    (λ x same. link_symbol_alike _ x same c.args.line.now) c.unit_there.ensures.symbol
