use Rattle.arm7_transfers.specs.declared.outcome.Outcome.TheVariants.{Ran}
use Rattle.arm7_core.proofs.ArmParts.{branched_row, data_immediate, data_shifted, done_held, done_well, row_block, row_immediate}
use Rattle.arm7_core.proofs.effect.do_arm.Goals as goal

pub returns-in-Some-clause-done : goal.returns-in-Some-clause-done
returns-in-Some-clause-done g c = done_held c.args.i.now c.args.core.now _ c.in-Some.held c.requires.ready c.in-Some.ensures

pub returns-in-Some-held_back-clause-done : goal.returns-in-Some-held_back-clause-done
returns-in-Some-held_back-clause-done g c = done_held c.args.i.now c.args.core.now _ c.in-Some-held_back.held c.requires.ready c.in-Some-held_back.ensures

pub returns-in-Some-held_back-2-clause-done : goal.returns-in-Some-held_back-2-clause-done
returns-in-Some-held_back-2-clause-done g c = done_held c.args.i.now c.args.core.now _ c.in-Some-held_back-2.held c.requires.ready c.in-Some-held_back-2.ensures

pub returns-in-Some-held_back-3-clause-done : goal.returns-in-Some-held_back-3-clause-done
returns-in-Some-held_back-3-clause-done g c = done_held c.args.i.now c.args.core.now _ c.in-Some-held_back-3.held c.requires.ready c.in-Some-held_back-3.ensures

pub returns-in-Some-held_back-4-clause-done : goal.returns-in-Some-held_back-4-clause-done
returns-in-Some-held_back-4-clause-done g c = done_held c.args.i.now c.args.core.now _ c.in-Some-held_back-4.held c.requires.ready c.in-Some-held_back-4.ensures

pub returns-in_default-held_back-clause-done : goal.returns-in_default-held_back-clause-done
returns-in_default-held_back-clause-done g c =
    let r = c.in-DataImmediate in
    done_well c.args.i.now c.args.core.now _ Ran c.calculate.new.state _ c.in_default-held_back.ensures
    (data_immediate c.args.i.now c.args.core.now c.calculate.new.state _ r.condition r.operation r.set_flags r.rn r.rd r.rotation r.byte c.immediate_operand-operand.result _ c.requires.ready r.is c.carry_in.ensures c.immediate_operand-operand.ensures c.calculate.ensures)

pub returns-in_default-held_back-2-clause-done : goal.returns-in_default-held_back-2-clause-done
returns-in_default-held_back-2-clause-done g c =
    let r = c.in-DataShifted in
    done_well c.args.i.now c.args.core.now _ Ran c.calculate-in-DataShifted.new.state _ c.in_default-held_back-2.ensures
    (data_shifted c.args.i.now c.args.core.now c.calculate-in-DataShifted.new.state _ r.condition r.operation r.set_flags r.rn r.rd r.amount r.shift r.rm c.shifted_operand-operand.result c.requires.ready r.is c.shifted_operand-operand.ensures c.calculate-in-DataShifted.ensures)

pub returns-in_default-held_back-3-clause-done : goal.returns-in_default-held_back-3-clause-done
returns-in_default-held_back-3-clause-done g c =
    let r = c.in-TransferImmediate in
    done_well c.args.i.now c.args.core.now _ c.transferred.result c.transferred.new.core _ c.in_default-held_back-3.ensures
    (row_immediate c.args.i.now c.args.core.now _ c.transferred.result c.transferred.new.core _ r.condition r.pre r.up r.byte r.write_back r.load r.rn r.rd r.offset c.from.result c.byte_width.result
    r.is c.byte_width.ensures c.from.ensures c.transferred.ensures.done)

pub returns-in_default-held_back-4-clause-done : goal.returns-in_default-held_back-4-clause-done
returns-in_default-held_back-4-clause-done g c =
    let r = c.in-TransferBlock in
    done_well c.args.i.now c.args.core.now _ c.block_moved.result c.block_moved.new.core _ c.in_default-held_back-4.ensures
    (row_block c.args.i.now c.args.core.now _ c.block_moved.result c.block_moved.new.core _ r.condition r.pre r.up r.user r.write_back r.load r.rn r.list c.from-in-TransferBlock.result
    r.is c.from-in-TransferBlock.ensures c.block_moved.ensures.done)

pub returns-in_default-held_back-5-clause-done : goal.returns-in_default-held_back-5-clause-done
returns-in_default-held_back-5-clause-done g c =
    let r = c.in-Branch in
    done_well c.args.i.now c.args.core.now _ Ran c.branch-core.new.state _ c.in_default-held_back-5.ensures
    (branched_row c.args.i.now c.args.core.now c.branch-core.new.state _ r.condition r.link r.displacement c.requires.ready r.is c.branch-core.ensures)

pub returns-in_default-clause-done : goal.returns-in_default-clause-done
returns-in_default-clause-done g c = c.do_any.ensures.done

pub returns-in_default-clause-ready : goal.returns-in_default-clause-ready
returns-in_default-clause-ready g c = c.do_any.ensures.ready

pub do_any-requires-clause-fits : goal.do_any-requires-clause-fits
do_any-requires-clause-fits g c = c.requires.fits
