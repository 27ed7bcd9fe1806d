use Rattle.std.proofs.Common.{sym, ap, ◌∙◌}
use Rattle.source_model.specs.ThumbForms.{thumb_instruction}
use Rattle.asm_instructions.specs.Lookups.{context_of}
use Rattle.asm_instructions.proofs.thumb_lines.instruction_there.Goals as goal

pub returns-in-PushPop : goal.returns-in-PushPop
returns-in-PushPop c =
    c.push_pop.ensures ∙ ap (thumb_instruction (context_of c.args.lookup.now)) (sym c.in-PushPop.is)

pub returns-in-TransferMultiple : goal.returns-in-TransferMultiple
returns-in-TransferMultiple c =
    c.transfer_multiple.ensures ∙ ap (thumb_instruction (context_of c.args.lookup.now)) (sym c.in-TransferMultiple.is)
