use Rattle.std.proofs.Common.{ap, ◌∙◌}
use Rattle.thumb_isa.specs.declared.instr.ThumbInstr.TheVariants as instr
use Rattle.asm_model.specs.Readings.{and_then, mapped}
use Rattle.source_model.specs.ThumbForms.{one, units_below}
use Rattle.asm_instructions.proofs.ReadingLemmas.{both_are}
use Rattle.asm_instructions.proofs.thumb_transfers.transfer_half.Goals as goal

pub returns-in-Err : goal.returns-in-Err
returns-in-Err c =
    ap (λ r. one (mapped (λ p. instr.TransferHalf c.args.load p.1 p.0.1 p.0.0) r))
    (both_are c.both.result _ _ _ _ _ c.both.ensures c.low_two.ensures
    (c.offset_below.ensures ∙ ap (λ n. and_then n (units_below 2 32)) c.in_ok-number.ensures) c.in-Err.is)

pub returns-in-Ok : goal.returns-in-Ok
returns-in-Ok c =
    ap (λ r. one (mapped (λ p. instr.TransferHalf c.args.load p.1 p.0.1 p.0.0) r))
    (both_are c.both.result _ _ _ _ _ c.both.ensures c.low_two.ensures
    (c.offset_below.ensures ∙ ap (λ n. and_then n (units_below 2 32)) c.in_ok-number.ensures) c.in-Ok.is)
