-- What devices do, as functions of their states: a timer, a serial port, and a device that does nothing. Each has
-- words of 32 bits; an access of another width acts on the word that holds it. This project's.
use Rattle.std.specs.Prelude.{◌≡◌, ◌≤◌, ℕ, ◌+◌, ◌*◌, ◌/◌, ◌%◌, ◌^◌, Bool, true, false, ◌==◌, ◌&&◌, not, if◌then◌else◌}
use Rattle.sdt_word.specs.declared.codes.Width.{Width}
use Rattle.sdt_word.specs.Codes.{bytes_in}
use Rattle.sdt_word.specs.Numbers.{bit}
use Rattle.sdt_outside.specs.declared.device.DeviceState.{DeviceState}
use Rattle.sdt_outside.specs.declared.device.DeviceState.TheVariants.{Quiet, TimerState, UartState}
use Rattle.sdt_outside.specs.declared.device.Lines.{Lines}

-- the bytes of a word that an access at this offset names, as a number
abbrev pub part_of : ℕ → ℕ → Width → ℕ
part_of word offset width = word / 2 ^ (8 * (offset % 4)) % 2 ^ (8 * bytes_in width)

-- the word with n of its bytes, from a place on, replaced by those of a number
abbrev pub with_part : ℕ → ℕ → ℕ → ℕ → ℕ
with_part word place n value =
    word % 2 ^ (8 * place) + 2 ^ (8 * place) * value + word / 2 ^ (8 * (place + n)) * 2 ^ (8 * (place + n))

-- the word with the bytes that an access at this offset names replaced by the low bytes of a value
abbrev pub replaced : ℕ → ℕ → Width → ℕ → ℕ
replaced word offset width value = with_part word (offset % 4) (bytes_in width) (value % 2 ^ (8 * bytes_in width))

-- the k-th word, as a read sees it. A timer has period, control, count and acknowledge; a serial port the last byte
-- that was written and the number of bytes
abbrev pub word_of : DeviceState → ℕ → ℕ
word_of Quiet k = 0
word_of (TimerState period control count up) k =
    if k == 0 then period else (if k == 1 then control else (if k == 2 then count else 0))
word_of (UartState last number) k = if k == 0 then last else number

-- the state once the k-th word is written
abbrev pub with_word : DeviceState → ℕ → ℕ → DeviceState
with_word Quiet k value = Quiet
with_word (TimerState period control count up) k value =
    if k == 0 then TimerState value control count up
    else (if k == 1 then TimerState period value count up
    else (if k == 2 then TimerState period control value up else TimerState period control count false))
with_word (UartState last number) k value =
    if k == 0 then UartState (value % 256) ((number + 1) % 2 ^ 32) else UartState last number

-- the answer to a read
abbrev pub answered : DeviceState → ℕ → Width → ℕ
answered state offset width = part_of (word_of state (offset / 4)) offset width

-- the state after a write
abbrev pub stored : DeviceState → ℕ → Width → ℕ → DeviceState
stored state offset width value =
    with_word state (offset / 4) (replaced (word_of state (offset / 4)) offset width value)

-- a running timer counts one; where the count comes to the period, it begins anew and the line goes up
abbrev pub counted_to : ℕ → ℕ → ℕ → Bool → DeviceState
counted_to period control count up =
    if count == period then TimerState period control 0 true else TimerState period control count up

abbrev pub ticked : DeviceState → DeviceState
ticked Quiet = Quiet
ticked (TimerState period control count up) =
    if bit control 0 == 1 && not (period == 0) then counted_to period control ((count + 1) % 2 ^ 32) up
    else TimerState period control count up
ticked (UartState last number) = UartState last number

-- the interrupt lines that a device raises
abbrev pub lines_of : DeviceState → Lines
lines_of Quiet = record { irq = false; fiq = false }
lines_of (TimerState period control count up) = record { irq = up; fiq = false }
lines_of (UartState last number) = record { irq = false; fiq = false }

-- a step of time changes nothing, and no line is up
abbrev pub is_idle : DeviceState → Bool
is_idle Quiet = true
is_idle (TimerState period control count up) = not up && not (bit control 0 == 1 && not (period == 0))
is_idle (UartState last number) = true

-- where a device of this state stands: whole words, and as many as it has
abbrev pub HasWords : DeviceState → ℕ → Type 0
HasWords Quiet size = size ≡ size
HasWords (TimerState period control count up) size = size ≡ 16
HasWords (UartState last number) size = size ≡ 8

pub record IsPlaced (state : DeviceState) (base size : ℕ) : Type 0 where
  pub base_aligned : base % 4 ≡ 0
  pub size_aligned : size % 4 ≡ 0
  pub words : HasWords state size

-- the access lies in a range of this size, and its offset is a multiple of its width
pub record IsWithin (offset : ℕ) (width : Width) (size : ℕ) : Type 0 where
  pub inside : offset + bytes_in width ≤ size
  pub aligned : offset % bytes_in width ≡ 0
