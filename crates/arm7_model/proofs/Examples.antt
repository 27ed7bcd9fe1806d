-- Worked instructions, computed by the definitions of a step.
use Rattle.std.proofs.Common.{◌≡◌, ℕ, true, false, List, [], ◌∷◌, refl, nat_lt, cond}
use Rattle.sdt_word.specs.declared.codes.Condition.TheVariants as condition
use Rattle.sdt_word.specs.declared.codes.ShiftKind.TheVariants as shift
use Rattle.sdt_word.specs.declared.codes.Width.TheVariants as width
use Rattle.arm_isa.specs.declared.instr.ArmInstr.TheVariants as arm
use Rattle.arm_isa.specs.declared.instr.Operation.TheVariants as operation
use Rattle.arm_isa.specs.declared.instr.HalfKind.TheVariants as half
use Rattle.thumb_isa.specs.declared.instr.ThumbInstr.TheVariants as thumb
use Rattle.thumb_isa.specs.declared.instr.ThumbOperation.TheVariants as neg
use Rattle.arm7_model.specs.declared.event.Event.TheVariants as event
use Rattle.arm7_model.specs.declared.event.Exception.TheVariants as exception
use Rattle.arm7_model.specs.Memory.{Board, Bytes}
use Rattle.arm7_model.specs.Registers.{State, register, saved}
use Rattle.arm7_model.specs.Accesses.{Fetch, Store}
use Rattle.arm7_model.specs.Outcomes.{Stepped}
use Rattle.arm7_model.specs.Step.{Levels, Instruction, Arm, Thumb, Unread, stepped}
use Rattle.arm7_model.proofs.Opens.{step_opens}

-- memory from 0 to 0xFFFF, the first 256 bytes read-only, and no device
abbrev board : Board
board = record { memory = λ a. nat_lt a 0x10000; device = λ a. false; read_only = λ a. nat_lt a 0x100 }

abbrev memory : Bytes
memory a = cond (nat_lt a 0x100) 0 (cond (nat_lt a 0x200) 0x81 0x12)

-- r0 to r14 and CPSR, with pc at 0x8000, in supervisor mode
abbrev at_8000 : List ℕ → ℕ → State
at_8000 r status = record {
  core = record {
    r = r;
    cpsr = status;
    spsr = 0x10 ∷ 0x10 ∷ 0x10 ∷ 0x10 ∷ 0x10 ∷ [];
    banks = record {
      high = 0x88 ∷ 0x89 ∷ 0x8A ∷ 0x8B ∷ 0x8C ∷ [];
      r13 = 0x130 ∷ 0x131 ∷ 0x132 ∷ 0 ∷ 0x134 ∷ 0x135 ∷ [];
      r14 = 0x140 ∷ 0x141 ∷ 0x142 ∷ 0 ∷ 0x144 ∷ 0x145 ∷ [];
    };
  };
  memory = memory;
}

abbrev down : Levels
down = record { irq = false; fiq = false }

abbrev up : Levels
up = record { irq = true; fiq = false }

abbrev both : Levels
both = record { irq = true; fiq = true }

abbrev start : ℕ → ℕ → ℕ → ℕ → State
start r0 r1 r2 status = at_8000 (r0 ∷ r1 ∷ r2 ∷ 3 ∷ 4 ∷ 5 ∷ 6 ∷ 7 ∷ 8 ∷ 9 ∷ 10 ∷ 11 ∷ 12 ∷ 0x200 ∷ 0x240 ∷ 0x8000 ∷ []) status

abbrev does : State → Instruction → Stepped
does s i = stepped board s down [] i

-- ADDS r0,r1,r2 carries out of the top: Z and C
add_carries : (does (start 0 0xFFFFFFFF 1 0xD3) (Arm (arm.DataShifted condition.Al operation.Add true 1 0 0 shift.Lsl 2))).state.core.cpsr ≡ 0x600000D3
unfolding step_opens
add_carries = refl

-- ADDS of two large positive words: N and V
add_overflows : (does (start 0 0x7FFFFFFF 1 0xD3) (Arm (arm.DataShifted condition.Al operation.Add true 1 0 0 shift.Lsl 2))).state.core.cpsr ≡ 0x900000D3
unfolding step_opens
add_overflows = refl

-- SUBS r0,r1,r2 that borrows: N, and C clear
sub_borrows : (does (start 0 1 2 0xD3) (Arm (arm.DataShifted condition.Al operation.Sub true 1 0 0 shift.Lsl 2))).state.core.cpsr ≡ 0x800000D3
unfolding step_opens
sub_borrows = refl

-- SUBS of equal words: Z and C
sub_equal : (does (start 0 2 2 0xD3) (Arm (arm.DataShifted condition.Al operation.Sub true 1 0 0 shift.Lsl 2))).state.core.cpsr ≡ 0x600000D3
unfolding step_opens
sub_equal = refl

-- ADC r0,r1,r2 with C set
adc_adds_the_carry : (register (does (start 0 5 6 0x200000D3) (Arm (arm.DataShifted condition.Al operation.Adc false 1 0 0 shift.Lsl 2))).state.core 0) ≡ 12
unfolding step_opens
adc_adds_the_carry = refl

-- RSCS r0,r1,r2 is r2 - r1 less the borrow
rsc_borrows : (register (does (start 0 5 5 0xD3) (Arm (arm.DataShifted condition.Al operation.Rsc true 1 0 0 shift.Lsl 2))).state.core 0) ≡ 0xFFFFFFFF
unfolding step_opens
rsc_borrows = refl

-- MOVS r0,r1,LSL #1 puts bit 31 into C
lsl_carries : (does (start 0 0x80000001 0 0xD3) (Arm (arm.DataShifted condition.Al operation.Mov true 0 0 1 shift.Lsl 1))).state.core.cpsr ≡ 0x200000D3
unfolding step_opens
lsl_carries = refl

-- MOVS r0,r1,LSR #32, written as an amount of 0
lsr_by_32 : (does (start 0 0x80000000 0 0xD3) (Arm (arm.DataShifted condition.Al operation.Mov true 0 0 0 shift.Lsr 1))).state.core.cpsr ≡ 0x600000D3
unfolding step_opens
lsr_by_32 = refl

-- MOV r0,r1,ASR #32 is the sign everywhere
asr_by_32 : (register (does (start 0 0x80000000 0 0xD3) (Arm (arm.DataShifted condition.Al operation.Mov false 0 0 0 shift.Asr 1))).state.core 0) ≡ 0xFFFFFFFF
unfolding step_opens
asr_by_32 = refl

-- MOV r0,r1,RRX brings C in at the top
rrx : (register (does (start 0 2 0 0x200000D3) (Arm (arm.DataShifted condition.Al operation.Mov false 0 0 0 shift.Ror 1))).state.core 0) ≡ 0x80000001
unfolding step_opens
rrx = refl

-- MOVS r0,r1,ROR r2 by 32 leaves the operand, with bit 31 as C
ror_by_32 : (does (start 0 0x80000000 32 0xD3) (Arm (arm.DataRegisterShifted condition.Al operation.Mov true 0 0 2 shift.Ror 1))).state.core.cpsr ≡ 0xA00000D3
unfolding step_opens
ror_by_32 = refl

-- MOVS r0,r1,LSL r2 by 33 is 0 with carry 0
lsl_by_33 : (does (start 0 0xFFFFFFFF 33 0x200000D3) (Arm (arm.DataRegisterShifted condition.Al operation.Mov true 0 0 2 shift.Lsl 1))).state.core.cpsr ≡ 0x400000D3
unfolding step_opens
lsl_by_33 = refl

-- ADD r0,pc,#0xA0
pc_reads_8_above : (register (does (start 0 0 0 0xD3) (Arm (arm.DataImmediate condition.Al operation.Add false 15 0 0 0xA0))).state.core 0) ≡ 0x80A8
unfolding step_opens
pc_reads_8_above = refl

-- SMULL r0,r1,r2,r3 of -1 and 3: the high word
long_product : (register (does (start 0 0 0xFFFFFFFF 0xD3) (Arm (arm.MultiplyLong condition.Al true false false 1 0 2 3))).state.core 1) ≡ 0xFFFFFFFF
unfolding step_opens
long_product = refl

-- LDR r0,[r1,#1] at an odd address rotates the word
load_rotates : (register (does (start 0 0xFFE 0 0xD3) (Arm (arm.TransferImmediate condition.Al true true false false true 1 0 3))).state.core 0) ≡ 0x12121212
unfolding step_opens
load_rotates = refl

-- LDR r0,[r1] three bytes above a word rotates it by 24
load_rotates_bytes : (register (does (start 0 0xFF 0 0xD3) (Arm (arm.TransferImmediate condition.Al true true false false true 1 0 0))).state.core 0) ≡ 0x00000000
unfolding step_opens
load_rotates_bytes = refl

-- LDRSH r0,[r1]
load_half_with_sign : (register (does (start 0 0x100 0 0xD3) (Arm (arm.TransferHalf condition.Al true true true false true 1 0 0 half.SignedHalf 0))).state.core 0) ≡ 0xFFFF8181
unfolding step_opens
load_half_with_sign = refl

-- STR r0,[r1],#-4 leaves the base 4 lower
store_writes_back : (register (does (start 7 0x300 0 0xD3) (Arm (arm.TransferImmediate condition.Al false false false false false 1 0 4))).state.core 1) ≡ 0x2FC
unfolding step_opens
store_writes_back = refl

-- STR r0,[r1] to a read-only word takes the data abort: lr is the address and 8
store_to_read_only : (register (does (start 7 0x80 0 0xD3) (Arm (arm.TransferImmediate condition.Al true true false false false 1 0 0))).state.core 14) ≡ 0x8008
unfolding step_opens
store_to_read_only = refl

-- LDR r0,[r1] where nothing is takes the data abort
absent_load : (does (start 7 0x10000 0 0xD3) (Arm (arm.TransferImmediate condition.Al true true false false true 1 0 0))).event ≡ event.Took exception.DataAbort
unfolding step_opens
absent_load = refl

-- LDMDB r1!,{r4 to r11} ends 32 below
load_multiple_downwards : (register (does (start 0 0x320 0 0xD3) (Arm (arm.TransferBlock condition.Al true false false true true 1 0x0FF0))).state.core 1) ≡ 0x300
unfolding step_opens
load_multiple_downwards = refl

-- STMDB r13!,{r0,r14} stores r0 at the lower address
store_multiple_order : (does (start 7 0 0 0xD3) (Arm (arm.TransferBlock condition.Al true false false true false 13 0x4001))).accesses ≡ Fetch 0x8000 width.Word ∷ Store 0x1F8 width.Word 7 ∷ Store 0x1FC width.Word 0x240 ∷ []
unfolding step_opens
store_multiple_order = refl

-- STMIA r1!,{r0,r1} is unpredictable
base_not_lowest : (does (start 7 0x300 0 0xD3) (Arm (arm.TransferBlock condition.Al false true false true false 1 3))).event ≡ event.Unpredictable 0x12121212
unfolding step_opens
base_not_lowest = refl

-- BX r1 with bit 0 set enters Thumb state
exchange_to_thumb : (does (start 0 0x9001 0 0xD3) (Arm (arm.BranchExchange condition.Al 1))).state.core.cpsr ≡ 0xF3
unfolding step_opens
exchange_to_thumb = refl

-- BX r1 with low bits 10 is unpredictable
exchange_to_neither : (does (start 0 0x9002 0 0xD3) (Arm (arm.BranchExchange condition.Al 1))).event ≡ event.Unpredictable 0x12121212
unfolding step_opens
exchange_to_neither = refl

-- B to itself
branch_back : (register (does (start 0 0 0 0xD3) (Arm (arm.Branch condition.Al false 0xFFFFFE))).state.core 15) ≡ 0x8000
unfolding step_opens
branch_back = refl

-- BEQ with Z clear goes on
condition_fails : (register (does (start 0 0 0 0xD3) (Arm (arm.Branch condition.Eq false 0xFFFFFE))).state.core 15) ≡ 0x8004
unfolding step_opens
condition_fails = refl

-- SWI 0x11 is the host’s and changes pc alone
host_call : (does (start 0 0 0 0xD3) (Arm (arm.SoftwareInterrupt condition.Al 0x11))).event ≡ event.Host 0x11
unfolding step_opens
host_call = refl

-- SWI 5 goes to 8 with the next address in lr
software_interrupt : (register (does (start 0 0 0 0xD3) (Arm (arm.SoftwareInterrupt condition.Al 5))).state.core 14) ≡ 0x8004
unfolding step_opens
software_interrupt = refl

-- an undefined word enters undefined mode, with T clear and I set
undefined_mode : (does (start 0 0 0 0x90000053) (Arm (arm.Undefined condition.Al 0xE000000))).state.core.cpsr ≡ 0x900000DB
unfolding step_opens
undefined_mode = refl

-- MSR CPSR_c,r1 changes to IRQ mode, whose r13 comes out of its bank
control_written : (register (does (start 0 0xD2 0 0xD3) (Arm (arm.WriteStatus condition.Al false 1 1))).state.core 13) ≡ 0x132
unfolding step_opens
control_written = refl

-- MSR CPSR_c,r1 that would set T is unpredictable
thumb_bit_written : (does (start 0 0xF3 0 0xD3) (Arm (arm.WriteStatus condition.Al false 1 1))).event ≡ event.Unpredictable 0x12121212
unfolding step_opens
thumb_bit_written = refl

-- MOVS pc,lr takes CPSR from SPSR: user mode
return_restores : (does (start 0 0 0 0xD3) (Arm (arm.DataShifted condition.Al operation.Mov true 0 15 0 shift.Lsl 14))).state.core.cpsr ≡ 0x10
unfolding step_opens
return_restores = refl

-- MSR CPSR_c,r1 to FIQ mode brings its r8
fast_bank : (register (does (start 0 0xD1 0 0xD3) (Arm (arm.WriteStatus condition.Al false 1 1))).state.core 8) ≡ 0x88
unfolding step_opens
fast_bank = refl

-- Thumb NEG r0,r1
thumb_negates : (register (does (start 0 1 0 0xF3) (Thumb (thumb.DataRegister neg.Neg 1 0))).state.core 0) ≡ 0xFFFFFFFF
unfolding step_opens
thumb_negates = refl

-- Thumb BL, second half: lr has bit 0 set
thumb_link : (register (does (start 0 1 0 0xF3) (Thumb (thumb.BranchLink true 2))).state.core 14) ≡ 0x8003
unfolding step_opens
thumb_link = refl

-- Thumb PUSH {r0,lr}
thumb_push : (does (start 7 1 0 0xF3) (Thumb (thumb.PushPop false true 1))).accesses ≡ Fetch 0x8000 width.Half ∷ Store 0x1F8 width.Word 7 ∷ Store 0x1FC width.Word 0x240 ∷ []
unfolding step_opens
thumb_push = refl

-- Thumb LDR at an unaligned address is unpredictable
thumb_misaligned : (does (start 7 0x301 0 0xF3) (Thumb (thumb.TransferImmediate false true 0 1 0))).event ≡ event.Unpredictable 0x1212
unfolding step_opens
thumb_misaligned = refl

-- an IRQ comes where I is clear: lr is the next instruction and 4
irq_taken : (register (stepped board (start 0 0 0 0x13) up [] Unread).state.core 14) ≡ 0x8004
unfolding step_opens
irq_taken = refl

-- a masked IRQ does not come
irq_masked : (stepped board (start 0 0 0 0xD3) up [] Unread).event ≡ event.Unpredictable 0x12121212
unfolding step_opens
irq_masked = refl

-- FIQ comes before IRQ, and sets F
fiq_first : (stepped board (start 0 0 0 0x13) both [] Unread).state.core.cpsr ≡ 0xD1
unfolding step_opens
fiq_first = refl

-- an exception saves CPSR in the SPSR of its mode
entry_saves_status : saved (does (start 0 0 0 0x60000010) (Arm (arm.SoftwareInterrupt condition.Al 5))).state.core ≡ 0x60000010
unfolding step_opens
entry_saves_status = refl

-- STM with ^ stores user mode's r13
user_register_stored : (does (start 7 0x300 0 0xD3) (Arm (arm.TransferBlock condition.Al false true true false false 1 0x2000))).accesses
    ≡ Fetch 0x8000 width.Word ∷ Store 0x300 width.Word 0x130 ∷ []
unfolding step_opens
user_register_stored = refl
