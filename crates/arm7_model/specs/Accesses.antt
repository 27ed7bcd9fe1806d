-- What an instruction reads and writes: its accesses in order, the words that devices answer, and the
-- memory (ARM Architecture Reference Manual, memory accesses; devices and their answers are this
-- project's).
use Rattle.std.specs.Prelude.{ℕ, ◌+◌, ◌-◌, ◌%◌, ◌^◌, if◌then◌else◌, List, [], ◌∷◌, ◌++◌, drop, slice_index}
use Rattle.sdt_word.specs.Bytes.{bytes_of, number_of, load}
use Rattle.sdt_word.specs.Codes.{bytes_in}
use Rattle.sdt_word.specs.declared.codes.Width.{Width}
use Rattle.arm7_model.specs.declared.state.ArmState.{ArmState}
use Rattle.arm7_model.specs.Memory.{Bytes, Board, store, in_memory}

-- one access, with its address, its width and, where it is a store, its value
pub data Access : Type 0 where
  Fetch : (address : ℕ) (width : Width) → Access
  Load : (address : ℕ) (width : Width) → Access
  Store : (address : ℕ) (width : Width) (value : ℕ) → Access

-- an instruction under way: the registers and the memory so far, the devices' answers that are still to
-- come, and the accesses made
pub record Working : Type 0 where
  pub core : ArmState
  pub memory : Bytes
  pub answers : List ℕ
  pub accesses : List Access

-- an address with the bits cleared that an access of n bytes doesn't look at
abbrev pub aligned : ℕ → ℕ → ℕ
aligned a n = a - a % n

-- the next word's address
abbrev pub next_word : ℕ → ℕ
next_word a = (a + 4) % 2 ^ 32

-- the value that a read finds: the memory's bytes, or the next answer of a device
unfoldable pub read_at : Board → Working → ℕ → Width → ℕ
read_at board w a width =
    if in_memory board a (bytes_in width) then number_of (load w.memory a (bytes_in width))
    else slice_index w.answers 0 % 256 ^ bytes_in width

-- the answers that are left after a read
unfoldable pub answers_after : Board → Working → ℕ → Width → List ℕ
answers_after board w a width = if in_memory board a (bytes_in width) then w.answers else drop 1 w.answers

-- after a fetch, a load and a store
unfoldable pub after_fetch : Board → Working → ℕ → Width → Working
after_fetch board w a width =
    record w { answers = answers_after board w a width; accesses = w.accesses ++ Fetch a width ∷ [] }

unfoldable pub after_load : Board → Working → ℕ → Width → Working
after_load board w a width =
    record w { answers = answers_after board w a width; accesses = w.accesses ++ Load a width ∷ [] }

-- a store to a device leaves the memory
unfoldable pub memory_after : Board → Bytes → ℕ → Width → ℕ → Bytes
memory_after board memory a width v =
    if in_memory board a (bytes_in width) then store memory a (bytes_of v (bytes_in width)) else memory

unfoldable pub after_store : Board → Working → ℕ → Width → ℕ → Working
after_store board w a width v =
    record w {
      memory = memory_after board w.memory a width v;
      accesses = w.accesses ++ Store a width (v % 256 ^ bytes_in width) ∷ [];
    }
