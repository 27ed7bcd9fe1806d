-- One step of the machine: an interrupt, or the fetch of an instruction and its effect
-- (ARM Architecture Reference Manual, exceptions and their priorities; the order of the cases is this
-- project's). A step is a function of the state, the lines, the devices' answers and the instruction
-- that the fetched word reads as.
use Rattle.std.specs.Prelude.{◌≡◌, ℕ, ◌+◌, ◌%◌, ◌^◌, ◌==◌, Bool, true, false, not, ◌&&◌, if◌then◌else◌, Option, Some, None, is_none, ◌||◌, List, []}
use Rattle.sdt_word.specs.Numbers.{bit}
use Rattle.sdt_word.specs.Codes.{bytes_in}
use Rattle.sdt_word.specs.declared.codes.Width.{Width}
use Rattle.sdt_word.specs.declared.codes.Width.TheVariants as width
use Rattle.arm_isa.specs.declared.instr.ArmInstr.{ArmInstr}
use Rattle.arm_isa.specs.ArmRows.{ReadsArm}
use Rattle.thumb_isa.specs.declared.instr.ThumbInstr.{ThumbInstr}
use Rattle.thumb_isa.specs.ThumbRows.{ReadsThumb}
use Rattle.arm7_model.specs.declared.state.ArmState.{ArmState}
use Rattle.arm7_model.specs.declared.event.Exception.{Exception}
use Rattle.arm7_model.specs.declared.event.Exception.TheVariants as exception
use Rattle.arm7_model.specs.Memory.{Board, is_there}
use Rattle.arm7_model.specs.Registers.{State, register, with_register, is_thumb}
use Rattle.arm7_model.specs.Accesses.{Working, read_at, after_fetch}
use Rattle.arm7_model.specs.Outcomes.{Stepped, Under, took, given_back}
use Rattle.arm7_model.specs.ArmStep.{arm_done}
use Rattle.arm7_model.specs.ThumbStep.{thumb_done}

-- the levels of the interrupt lines
pub record Levels : Type 0 where
  pub irq : Bool
  pub fiq : Bool

-- ---- interrupts: FIQ before IRQ, each where its mask in CPSR is clear and its line is up

unfoldable pub irq_pending : Levels → ℕ → Option Exception
irq_pending lines status =
    if bit status 7 == 1 then None else if lines.irq then Some exception.Irq else None

unfoldable pub interrupt : Levels → ℕ → Option Exception
interrupt lines status =
    if bit status 6 == 1 then irq_pending lines status
    else if lines.fiq then Some exception.Fiq else irq_pending lines status

-- ---- the instruction

-- what a fetched word reads as: an instruction of its state, or nothing
pub data Instruction : Type 0 where
  Arm : ArmInstr → Instruction
  Thumb : ThumbInstr → Instruction
  Unread : Instruction

-- the word reads as this in ARM state, or in Thumb state
abbrev pub Reads : Bool → ℕ → Instruction → Type 0
Reads false w (Arm i) = ReadsArm w i
Reads false w (Thumb i) = ⊥
Reads false w Unread = (i : ArmInstr) → ReadsArm w i → ⊥
Reads true w (Arm i) = ⊥
Reads true w (Thumb i) = ReadsThumb w i
Reads true w Unread = (i : ThumbInstr) → ReadsThumb w i → ⊥

abbrev pub fetch_width : Bool → Width
fetch_width true = width.Half
fetch_width false = width.Word

-- a step begins with nothing done
abbrev pub beginning : State → List ℕ → Working
beginning s answers = record { core = s.core; memory = s.memory; answers = answers; accesses = [] }

-- in ARM state the address of an instruction is a multiple of 4
unfoldable pub can_fetch : ArmState → Bool
can_fetch s = is_thumb s.cpsr || register s 15 % 4 == 0

-- the step fetches: no interrupt is pending, and the address is one and is there
unfoldable pub fetches : Board → State → Levels → Bool
fetches board s lines =
    is_none (interrupt lines s.core.cpsr)
    && (can_fetch s.core && is_there board (register s.core 15) (bytes_in (fetch_width (is_thumb s.core.cpsr))))

-- the word that it fetches, from the memory or a device
unfoldable pub fetched : Board → State → List ℕ → ℕ
fetched board s answers =
    read_at board (beginning s answers) (register s.core 15) (fetch_width (is_thumb s.core.cpsr))

-- pc goes to the next instruction
unfoldable pub advanced : ArmState → ArmState
advanced s = with_register s 15 ((register s 15 + bytes_in (fetch_width (is_thumb s.cpsr))) % 2 ^ 32)

unfoldable pub done : Under → Instruction → Working → Stepped
done u (Arm i) w = arm_done u i w
done u (Thumb i) w = thumb_done u i w
done u Unread w = given_back u w

-- the instruction's step, after its fetch
unfoldable pub executed : Board → State → List ℕ → Instruction → Stepped
executed board s answers i =
    let w = beginning s answers in
    let a = register s.core 15 in
    done (record { board = board; before = s; word = fetched board s answers }) i
    (record (after_fetch board w a (fetch_width (is_thumb s.core.cpsr))) { core = advanced s.core })

-- an unaligned address in ARM state: nothing is fetched, and the word told is 0
unfoldable pub misaligned : Board → State → List ℕ → Stepped
misaligned board s answers = given_back (record { board = board; before = s; word = 0 }) (beginning s answers)

-- an absent fetch takes the prefetch abort, with the address and 4 as lr
unfoldable pub fetch_aborted : State → List ℕ → Stepped
fetch_aborted s answers = took exception.PrefetchAbort ((register s.core 15 + 4) % 2 ^ 32) (beginning s answers)

unfoldable pub uninterrupted : Board → State → List ℕ → Instruction → Stepped
uninterrupted board s answers i =
    if not (can_fetch s.core) then misaligned board s answers else
    if is_there board (register s.core 15) (bytes_in (fetch_width (is_thumb s.core.cpsr))) then executed board s answers i
    else fetch_aborted s answers

-- an interrupt comes in place of the next instruction, with its address and 4 as lr
abbrev pub stepped_by : Option Exception → Board → State → List ℕ → Instruction → Stepped
stepped_by (Some e) board s answers i = took e ((register s.core 15 + 4) % 2 ^ 32) (beginning s answers)
stepped_by None board s answers i = uninterrupted board s answers i

unfoldable pub stepped : Board → State → Levels → List ℕ → Instruction → Stepped
stepped board s lines answers i = stepped_by (interrupt lines s.core.cpsr) board s answers i

-- From s, with these lines and answers, the step is this one.
abbrev pub Step : Board → State → Levels → List ℕ → Stepped → Type 0
Step board s lines answers t =
    (i : Instruction)
    × (fetches board s lines ≡ true → Reads (is_thumb s.core.cpsr) (fetched board s answers) i)
    × (t ≡ stepped board s lines answers i)
