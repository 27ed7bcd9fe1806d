use Rattle.std.proofs.Common.{refl}
use Rattle.arm7_model.specs.ThumbStep.{thumb_effect}
use Rattle.arm7_model.specs.Transfers.{with_base, writes_back}
use Rattle.arm7_core.proofs.PartLemmas.{interrupts, row_branches, row_half, row_immediate, row_like, row_raises, row_register, row_runs, row_signed, row_stack}
use Rattle.arm7_core.proofs.thumb_effect.effect.Goals as goal

pub returns-in-ShiftImmediate-clause-done : goal.returns-in-ShiftImmediate-clause-done
unfolding thumb_effect
returns-in-ShiftImmediate-clause-done g c = row_runs _ _ _ _ _ c.in-ShiftImmediate.is c.requires.ready (λ u answers before. rw c.shift_immediate.ensures refl)

pub returns-in-AddSubtract-clause-done : goal.returns-in-AddSubtract-clause-done
unfolding thumb_effect
returns-in-AddSubtract-clause-done g c = row_runs _ _ _ _ _ c.in-AddSubtract.is c.requires.ready (λ u answers before. rw c.add_subtract.ensures refl)

pub returns-in-DataImmediate-clause-done : goal.returns-in-DataImmediate-clause-done
unfolding thumb_effect
returns-in-DataImmediate-clause-done g c = row_runs _ _ _ _ _ c.in-DataImmediate.is c.requires.ready (λ u answers before. rw c.do_immediate.ensures refl)

pub returns-in-DataRegister-clause-done : goal.returns-in-DataRegister-clause-done
unfolding thumb_effect
returns-in-DataRegister-clause-done g c = row_runs _ _ _ _ _ c.in-DataRegister.is c.requires.ready (λ u answers before. rw c.do_register.ensures refl)

pub returns-in-LoadAddress-clause-done : goal.returns-in-LoadAddress-clause-done
unfolding thumb_effect
returns-in-LoadAddress-clause-done g c = row_runs _ _ _ _ _ c.in-LoadAddress.is c.requires.ready (λ u answers before. rw c.load_address.ensures refl)

pub returns-in-AdjustStack-clause-done : goal.returns-in-AdjustStack-clause-done
unfolding thumb_effect
returns-in-AdjustStack-clause-done g c = row_runs _ _ _ _ _ c.in-AdjustStack.is c.requires.ready (λ u answers before. rw c.adjust_stack.ensures refl)

pub returns-in-Branch-clause-done : goal.returns-in-Branch-clause-done
unfolding thumb_effect
returns-in-Branch-clause-done g c = row_runs _ _ _ _ _ c.in-Branch.is c.requires.ready (λ u answers before. rw (c.branch_thumb.ensures, c.from.ensures) refl)

pub returns-in-BranchLink-clause-done : goal.returns-in-BranchLink-clause-done
unfolding thumb_effect
returns-in-BranchLink-clause-done g c = row_runs _ _ _ _ _ c.in-BranchLink.is c.requires.ready (λ u answers before. rw c.link_half.ensures refl)

pub returns-in-HighRegister-clause-done : goal.returns-in-HighRegister-clause-done
unfolding thumb_effect
returns-in-HighRegister-clause-done g c =
    row_runs _ _ _ _ _ c.in-HighRegister.is c.requires.ready
    (λ u answers before. rw (c.do_high.ensures, c.high_number-source.ensures.value, c.high_number-target.ensures.value) refl)

pub returns-in-BranchConditional-clause-done : goal.returns-in-BranchConditional-clause-done
returns-in-BranchConditional-clause-done g c =
    row_branches _ _ _ _ _ _ c.in-BranchConditional.is c.requires.ready c.branch_where.ensures

pub returns-in-SoftwareInterrupt-clause-done : goal.returns-in-SoftwareInterrupt-clause-done
unfolding thumb_effect
returns-in-SoftwareInterrupt-clause-done g c =
    row_like _ _ _ _ _ _ _ _ c.in-SoftwareInterrupt.is (λ u answers before. refl)
    (interrupts c.in-SoftwareInterrupt.number c.args.core.now _ c.interrupt_outcome.result c.requires.ready c.interrupt_outcome.ensures)

pub returns-in-Undefined-clause-done : goal.returns-in-Undefined-clause-done
unfolding thumb_effect
returns-in-Undefined-clause-done g c =
    row_raises _ _ _ _ c.in-Undefined.is c.requires.ready (λ u answers before. refl)

pub returns-in-LoadLiteral-clause-done : goal.returns-in-LoadLiteral-clause-done
unfolding thumb_effect with_base writes_back
returns-in-LoadLiteral-clause-done g c =
    row_like _ _ _ _ _ _ _ _ c.in-LoadLiteral.is
    (λ u answers before. rw (c.above.ensures, c.literal_address-a.ensures) refl) c.loaded.ensures.done

pub returns-in-PushPop-clause-done : goal.returns-in-PushPop-clause-done
unfolding thumb_effect
returns-in-PushPop-clause-done g c =
    row_like _ _ _ _ _ _ _ _ c.in-PushPop.is (λ u answers before. rw c.stack_block-by.ensures refl) c.block_moved.ensures.done

pub returns-in-TransferMultiple-clause-done : goal.returns-in-TransferMultiple-clause-done
unfolding thumb_effect
returns-in-TransferMultiple-clause-done g c =
    row_like _ _ _ _ _ _ _ _ c.in-TransferMultiple.is (λ u answers before. rw c.multiple_block-by.ensures refl) c.block_moved-in-TransferMultiple.ensures.done

pub returns-in-TransferRegister-clause-done : goal.returns-in-TransferRegister-clause-done
returns-in-TransferRegister-clause-done g c =
    let r = c.in-TransferRegister in
    row_register c.args.i.now c.args.core.now _ c.transferred.result c.transferred.new.core _ r.load r.byte r.ro r.rn r.rd c.register.result c.byte_width.result c.above-by.result
    r.is c.register.ensures c.byte_width.ensures c.above-by.ensures c.transferred.ensures.done

pub returns-in-TransferSigned-clause-done : goal.returns-in-TransferSigned-clause-done
returns-in-TransferSigned-clause-done g c =
    let r = c.in-TransferSigned in
    row_signed c.args.i.now c.args.core.now _ c.transferred-in-TransferSigned.result c.transferred-in-TransferSigned.new.core _ r.kind r.ro r.rn r.rd
    c.register-in-TransferSigned.result c.signed_load.result c.has_sign.result c.signed_width.result c.above-by-in-TransferSigned.result
    r.is c.register-in-TransferSigned.ensures c.signed_load.ensures c.has_sign.ensures c.signed_width.ensures c.above-by-in-TransferSigned.ensures c.transferred-in-TransferSigned.ensures.done

pub returns-in-TransferImmediate-clause-done : goal.returns-in-TransferImmediate-clause-done
returns-in-TransferImmediate-clause-done g c =
    let r = c.in-TransferImmediate in
    row_immediate c.args.i.now c.args.core.now _ c.transferred-in-TransferImmediate.result c.transferred-in-TransferImmediate.new.core _ r.byte r.load r.offset r.rn r.rd
    c.immediate_offset.result c.byte_width-in-TransferImmediate.result c.above-by-in-TransferImmediate.result
    r.is c.immediate_offset.ensures c.byte_width-in-TransferImmediate.ensures c.above-by-in-TransferImmediate.ensures c.transferred-in-TransferImmediate.ensures.done

pub returns-in-TransferHalf-clause-done : goal.returns-in-TransferHalf-clause-done
returns-in-TransferHalf-clause-done g c =
    let r = c.in-TransferHalf in
    row_half c.args.i.now c.args.core.now _ c.transferred-in-TransferHalf.result c.transferred-in-TransferHalf.new.core _ r.load r.offset r.rn r.rd c.from-in-TransferHalf.result c.above-by-in-TransferHalf.result
    r.is c.from-in-TransferHalf.ensures c.above-by-in-TransferHalf.ensures c.transferred-in-TransferHalf.ensures.done

pub returns-in-TransferStack-clause-done : goal.returns-in-TransferStack-clause-done
returns-in-TransferStack-clause-done g c =
    let r = c.in-TransferStack in
    row_stack c.args.i.now c.args.core.now _ c.transferred-in-TransferStack.result c.transferred-in-TransferStack.new.core _ r.load r.rd r.offset c.from-in-TransferStack.result c.above-by-in-TransferStack.result
    r.is c.from-in-TransferStack.ensures c.above-by-in-TransferStack.ensures c.transferred-in-TransferStack.ensures.done
