use Rattle.std.proofs.Common.{inl, inr, refl}
use Rattle.arm7_core.proofs.ArmParts.{no_row, row_swap, row_immediate, row_shifted, row_half, row_block, row_interrupt, row_raises}
use Rattle.arm7_core.proofs.effect.effect_outside.Goals as goal

pub returns-in-Swap-clause-done : goal.returns-in-Swap-clause-done
returns-in-Swap-clause-done g c =
    row_swap c.args.i.now c.args.core.now _ c.swapped.result c.swapped.new.core _ c.in-Swap.condition c.in-Swap.byte c.in-Swap.rn c.in-Swap.rd c.in-Swap.rm c.byte_width.result
    c.in-Swap.is c.byte_width.ensures c.swapped.ensures.done

pub returns-in-TransferImmediate-clause-done : goal.returns-in-TransferImmediate-clause-done
returns-in-TransferImmediate-clause-done g c =
    let r = c.in-TransferImmediate in
    row_immediate c.args.i.now c.args.core.now _ c.transferred.result c.transferred.new.core _ r.condition r.pre r.up r.byte r.write_back r.load r.rn r.rd r.offset c.from.result c.byte_width-in-TransferImmediate.result
    r.is c.byte_width-in-TransferImmediate.ensures c.from.ensures c.transferred.ensures.done

pub returns-in-TransferShifted-clause-done : goal.returns-in-TransferShifted-clause-done
returns-in-TransferShifted-clause-done g c =
    let r = c.in-TransferShifted in
    row_shifted c.args.i.now c.args.core.now _ c.transferred-in-TransferShifted.result c.transferred-in-TransferShifted.new.core _ r.condition r.pre r.up r.byte r.write_back r.load r.rn r.rd r.amount r.shift r.rm c.shifted_operand-operand.result c.byte_width-in-TransferShifted.result
    r.is c.byte_width-in-TransferShifted.ensures c.shifted_operand-operand.ensures c.transferred-in-TransferShifted.ensures.done

pub returns-in-TransferHalf-clause-done : goal.returns-in-TransferHalf-clause-done
returns-in-TransferHalf-clause-done g c =
    let r = c.in-TransferHalf in
    row_half c.args.i.now c.args.core.now _ c.transferred-in-TransferHalf.result c.transferred-in-TransferHalf.new.core _ r.condition r.pre r.up r.immediate r.write_back r.load r.rn r.rd r.high r.kind r.low c.half_offset-offset.result c.half_signed.result c.half_width.result
    r.is c.half_signed.ensures c.half_width.ensures c.half_offset-offset.ensures c.transferred-in-TransferHalf.ensures.done

pub returns-in-TransferBlock-clause-done : goal.returns-in-TransferBlock-clause-done
returns-in-TransferBlock-clause-done g c =
    let r = c.in-TransferBlock in
    row_block c.args.i.now c.args.core.now _ c.block_moved.result c.block_moved.new.core _ r.condition r.pre r.up r.user r.write_back r.load r.rn r.list c.from-in-TransferBlock.result
    r.is c.from-in-TransferBlock.ensures c.block_moved.ensures.done

pub returns-in-SoftwareInterrupt-clause-done : goal.returns-in-SoftwareInterrupt-clause-done
returns-in-SoftwareInterrupt-clause-done g c =
    row_interrupt c.args.i.now c.args.core.now _ c.interrupt_outcome.result c.in-SoftwareInterrupt.condition c.in-SoftwareInterrupt.number c.requires.ready c.in-SoftwareInterrupt.is c.interrupt_outcome.ensures

pub returns-in-Undefined-clause-done : goal.returns-in-Undefined-clause-done
returns-in-Undefined-clause-done g c =
    row_raises c.args.i.now c.args.core.now _ c.in-Undefined.condition c.in-Undefined.bits c.requires.ready c.in-Undefined.is

pub returns-in-DataImmediate : goal.returns-in-DataImmediate
returns-in-DataImmediate g c =
    let off = c.requires.more in
    elim c.in-DataImmediate.is [
      | inl a ↦ no_row _ _ off refl a.7
      | inr b ↦
          elim b [
            | inl a ↦ no_row _ _ off refl a.8
            | inr b ↦
                elim b [
                  | inl a ↦ no_row _ _ off refl a.8
                  | inr b ↦
                      elim b [
                        | inl a ↦ no_row _ _ off refl a.7
                        | inr b ↦
                            elim b [
                              | inl a ↦ no_row _ _ off refl a.8
                              | inr b ↦
                                  elim b [
                                    | inl a ↦ no_row _ _ off refl a.2
                                    | inr b ↦
                                        elim b [
                                          | inl a ↦ no_row _ _ off refl a.3
                                          | inr b ↦
                                              elim b [
                                                | inl a ↦ no_row _ _ off refl a.4
                                                | inr b ↦
                                                    elim b [
                                                      | inl a ↦ no_row _ _ off refl a.5
                                                      | inr b ↦
                                                          no_row _ _ off refl b.3
                                                    ]
                                              ]
                                        ]
                                  ]
                            ]
                      ]
                ]
          ]
    ]
