use Rattle.std.proofs.Common.{ap, ◌∙◌}
use Rattle.thumb_isa.specs.declared.instr.ThumbInstr.TheVariants as instr
use Rattle.asm_model.specs.Readings.{mapped}
use Rattle.source_model.specs.ThumbForms.{low_list, one}
use Rattle.asm_instructions.proofs.ReadingLemmas.{both_are}
use Rattle.asm_instructions.proofs.thumb_transfers.transfer_multiple.Goals as goal

pub returns : goal.returns
returns c =
    ap (λ r. one (mapped (λ p. instr.TransferMultiple c.args.load p.0 p.1) r))
    (both_are c.both.result _ _ _ _ _ c.both.ensures c.low.ensures (c.low_list.ensures ∙ ap low_list c.bits_of.ensures) c.in_ok-rn.was)
