use Rattle.std.proofs.Common.{◌≡◌, sym, ap, ◌∙◌, subst}
use Rattle.std.specs.Prelude.{IfOk, Ok}
use Rattle.arm_isa.specs.declared.instr.ArmInstr.TheVariants as instr
use Rattle.source_model.specs.ArmForms.{arm_instruction, are_saved, is_saved, mask_of}
use Rattle.asm_instructions.specs.Lookups.{context_of}
use Rattle.asm_instructions.proofs.arm_lines.instruction_there.Goals as goal

pub returns-in-DataImmediate : goal.returns-in-DataImmediate
returns-in-DataImmediate c =
    subst (λ l. IfOk c.data_number.result (λ i. i ≡ arm_instruction (context_of c.args.lookup.now) l)) (sym c.in-DataImmediate.is) c.data_number.ensures

pub returns-in-DataShifted : goal.returns-in-DataShifted
returns-in-DataShifted c =
    subst (λ l. IfOk c.data_shifted.result (λ i. i ≡ arm_instruction (context_of c.args.lookup.now) l)) (sym c.in-DataShifted.is) c.data_shifted.ensures

pub returns-in-WriteStatusImmediate : goal.returns-in-WriteStatusImmediate
returns-in-WriteStatusImmediate c =
    subst (λ l. IfOk c.status_number.result (λ i. i ≡ arm_instruction (context_of c.args.lookup.now) l)) (sym c.in-WriteStatusImmediate.is) c.status_number.ensures

pub returns-in-TransferImmediate : goal.returns-in-TransferImmediate
returns-in-TransferImmediate c =
    subst (λ l. IfOk c.transfer.result (λ i. i ≡ arm_instruction (context_of c.args.lookup.now) l)) (sym c.in-TransferImmediate.is) c.transfer.ensures

pub returns-in-TransferShifted : goal.returns-in-TransferShifted
returns-in-TransferShifted c =
    subst (λ l. IfOk c.transfer_shifted.result (λ i. i ≡ arm_instruction (context_of c.args.lookup.now) l)) (sym c.in-TransferShifted.is) c.transfer_shifted.ensures

pub returns-in-TransferHalf : goal.returns-in-TransferHalf
returns-in-TransferHalf c =
    subst (λ l. IfOk c.transfer_half.result (λ i. i ≡ arm_instruction (context_of c.args.lookup.now) l)) (sym c.in-TransferHalf.is) c.transfer_half.ensures

pub returns-in-SoftwareInterrupt : goal.returns-in-SoftwareInterrupt
returns-in-SoftwareInterrupt c =
    subst (λ l. IfOk c.interrupt.result (λ i. i ≡ arm_instruction (context_of c.args.lookup.now) l)) (sym c.in-SoftwareInterrupt.is) c.interrupt.ensures

pub returns-in-DataRegisterShifted : goal.returns-in-DataRegisterShifted
returns-in-DataRegisterShifted c = c.data_register_shifted.ensures ∙ ap (arm_instruction (context_of c.args.lookup.now)) (sym c.in-DataRegisterShifted.is)

pub returns-in-Multiply : goal.returns-in-Multiply
returns-in-Multiply c = c.multiply.ensures ∙ ap (arm_instruction (context_of c.args.lookup.now)) (sym c.in-Multiply.is)

pub returns-in-MultiplyLong : goal.returns-in-MultiplyLong
returns-in-MultiplyLong c = c.multiply_long.ensures ∙ ap (arm_instruction (context_of c.args.lookup.now)) (sym c.in-MultiplyLong.is)

pub returns-in-Swap : goal.returns-in-Swap
returns-in-Swap c = c.swap.ensures ∙ ap (arm_instruction (context_of c.args.lookup.now)) (sym c.in-Swap.is)

pub returns-in-TransferBlock : goal.returns-in-TransferBlock
returns-in-TransferBlock c = c.transfer_block.ensures ∙ ap (arm_instruction (context_of c.args.lookup.now)) (sym c.in-TransferBlock.is)

pub returns-in-BranchExchange : goal.returns-in-BranchExchange
returns-in-BranchExchange c =
    ap (λ r. Ok (instr.BranchExchange c.in-BranchExchange.condition r)) c.register-rm.ensures
    ∙ ap (arm_instruction (context_of c.args.lookup.now)) (sym c.in-BranchExchange.is)

pub returns-in-ReadStatus : goal.returns-in-ReadStatus
returns-in-ReadStatus c =
    ap (λ s. Ok (instr.ReadStatus c.in-ReadStatus.condition s c.register-rd.result)) c.is_saved.ensures
    ∙ ap (λ r. Ok (instr.ReadStatus c.in-ReadStatus.condition (is_saved c.in-ReadStatus.status) r)) c.register-rd.ensures
    ∙ ap (arm_instruction (context_of c.args.lookup.now)) (sym c.in-ReadStatus.is)

pub returns-in-WriteStatus : goal.returns-in-WriteStatus
returns-in-WriteStatus c =
    let k = c.in-WriteStatus.condition in
    let fields = c.in-WriteStatus.fields in
    let rm = c.register-rm-in-WriteStatus.result in
    ap (λ s. Ok (instr.WriteStatus k s c.mask_of.result rm)) c.are_saved.ensures
    ∙ ap (λ m. Ok (instr.WriteStatus k (are_saved fields) m rm)) c.mask_of.ensures
    ∙ ap (λ r. Ok (instr.WriteStatus k (are_saved fields) (mask_of fields) r)) c.register-rm-in-WriteStatus.ensures
    ∙ ap (arm_instruction (context_of c.args.lookup.now)) (sym c.in-WriteStatus.is)
