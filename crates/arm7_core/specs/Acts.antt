-- The instructions of ARM state that touch registers alone (ARM Architecture Reference Manual, ARM instructions).
use Rattle.std.specs.Prelude.{Bool, true, false, if◌then◌else◌, Option, None, Some}
use Rattle.sdt_word.specs.Numbers.{operand}
use Rattle.arm_isa.specs.declared.instr.ArmInstr.{ArmInstr}
use Rattle.arm_isa.specs.declared.instr.ArmInstr.TheVariants.{DataImmediate, DataShifted, DataRegisterShifted, Multiply, MultiplyLong, BranchExchange, ReadStatus, WriteStatus, WriteStatusImmediate, Branch}
use Rattle.arm7_model.specs.declared.state.ArmState.{ArmState}
use Rattle.arm7_model.specs.Arithmetic.{carry_in, immediate_operand, passes}
use Rattle.arm7_model.specs.ArmStep.{arm_condition, arm_unpredictable, register_shifted_operand, shifted_operand}
use Rattle.arm7_model.specs.Branches.{branched, exchanged}
use Rattle.arm7_model.specs.Data.{calculated, multiplied, multiplied_long, read_status, written_status}
use Rattle.arm7_model.specs.Registers.{operand_at, register}
use Rattle.arm7_transfers.specs.declared.outcome.Outcome.{Outcome}
use Rattle.arm7_transfers.specs.declared.outcome.Outcome.TheVariants.{Ran, Unpredictable}

-- an instruction touches registers alone
abbrev pub is_on_registers : ArmInstr → Bool
is_on_registers (DataImmediate c o s n d r i) = true
is_on_registers (DataShifted c o s n d a t m) = true
is_on_registers (DataRegisterShifted c o s n d rs t m) = true
is_on_registers (Multiply c a s d n rs m) = true
is_on_registers (MultiplyLong c g a s h l rs m) = true
is_on_registers (BranchExchange c m) = true
is_on_registers (ReadStatus c p d) = true
is_on_registers (WriteStatus c p f m) = true
is_on_registers (WriteStatusImmediate c p f r i) = true
is_on_registers (Branch c l d) = true
is_on_registers _ = false

-- the registers that it leaves
abbrev pub acted : ArmInstr → ArmState → ArmState
acted (DataImmediate c o s n d r i) core = calculated o s n d (immediate_operand r i (carry_in core.cpsr)) core
acted (DataShifted c o s n d a t m) core = calculated o s n d (shifted_operand t a m core) core
acted (DataRegisterShifted c o s n d rs t m) core = calculated o s n d (register_shifted_operand t rs m core) core
acted (Multiply c a s d n rs m) core = multiplied a s d n rs m core
acted (MultiplyLong c g a s h l rs m) core = multiplied_long g a s h l rs m core
acted (BranchExchange c m) core = exchanged (operand_at core m) core
acted (ReadStatus c p d) core = read_status p d core
acted (WriteStatus c p f m) core = written_status p f (register core m) core
acted (WriteStatusImmediate c p f r i) core = written_status p f (operand r i) core
acted (Branch c l d) core = branched l d core
acted _ core = core

-- what an instruction ends with before it has an effect: where its condition fails, and where it is unpredictable
abbrev pub held_back : ArmInstr → ArmState → Option Outcome
held_back i core = if passes (arm_condition i) core.cpsr then (if arm_unpredictable i core then Some Unpredictable else None) else Some Ran
