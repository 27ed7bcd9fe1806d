-- Which pages the stores of an instruction use, and whether there are frames for them. This project's.
use Rattle.std.specs.Prelude.{◌≡◌, ℕ, ◌<◌, ◌≤◌, ◌-◌, ◌/◌, ◌==◌, ◌&&◌, Bool, true, false, not, nat_le, if◌then◌else◌, List, [], ◌∷◌, Option, Some, None, Result, Ok, Err, slice_set}
use Rattle.sdt_word.specs.Codes.{bytes_in}
use Rattle.arm7_model.specs.Accesses.{Access, Fetch, Load, Store}
use Rattle.arm7_bus.specs.declared.memory.Bank.{Bank}
use Rattle.arm7_bus.specs.declared.memory.BusFault.{BusFault}
use Rattle.arm7_bus.specs.declared.memory.BusFault.TheVariants.{Absent, NoFrame, ReadOnly}
use Rattle.arm7_bus.specs.Buses.{has_whole, needs_page}
use Rattle.arm7_bus.specs.Meets.{lesser_of}
use Rattle.arm7_bus.specs.Paging.{page_used_in, used_count}
use Rattle.arm7_bus.specs.States.{State, bank_has, is_protected}

-- the addresses of the stores to memory
abbrev pub stored_to : List Bank → List Access → List ℕ
stored_to banks [] = []
stored_to banks (Fetch a width ∷ rest) = stored_to banks rest
stored_to banks (Load a width ∷ rest) = stored_to banks rest
stored_to banks (Store a width v ∷ rest) =
    if bank_has banks a (bytes_in width) then a ∷ stored_to banks rest else stored_to banks rest

-- the used pages once the pages of these addresses are used too
abbrev pub used_with : List Bool → List ℕ → List Bool
used_with used [] = used
used_with used (a ∷ rest) = used_with (slice_set used (a / 4096) true) rest

-- there are frames for the pages that the accesses store to
abbrev pub has_frames : State → List Access → Bool
has_frames s accesses =
    nat_le (used_count (used_with s.contents.used (stored_to s.contents.banks accesses))) s.contents.frames

-- the least of the addresses whose page isn't used
abbrev pub least_unused : List Bool → List ℕ → Option ℕ
least_unused used [] = None
least_unused used (a ∷ rest) =
    if page_used_in used a then least_unused used rest else lesser_of (Some a) (least_unused used rest)

-- a store of n bytes at a would use one more page, and there is no frame left
abbrev pub lacks_frame : State → ℕ → ℕ → Bool
lacks_frame s a n = needs_page s a n && (s.contents.frames - used_count s.contents.used == 0)

-- a store may be made, as far as banks, devices and protection go
abbrev pub may_be_stored : State → ℕ → ℕ → Bool
may_be_stored s a n = has_whole s a n && not (is_protected s.contents.banks a n)

-- whether a store of n bytes at a is made, and why it isn't
abbrev pub IsJudged : State → ℕ → ℕ → Result Unit BusFault → Type 0
IsJudged s a n (Ok _) = (may_be_stored s a n ≡ true) × (lacks_frame s a n ≡ false)
IsJudged s a n (Err (NoFrame _)) = (may_be_stored s a n ≡ true) × (lacks_frame s a n ≡ true)
IsJudged s a n (Err Absent) = may_be_stored s a n ≡ false
IsJudged s a n (Err ReadOnly) = may_be_stored s a n ≡ false

-- there are frames for the pages of some addresses; or there aren't, and x is the least whose page isn't used
pub record Fits (s : State) (words : List ℕ) : Type 0 where
  pub room : used_count (used_with s.contents.used words) ≤ s.contents.frames

pub record Misses (s : State) (words : List ℕ) (x : ℕ) : Type 0 where
  pub more : s.contents.frames < used_count (used_with s.contents.used words)
  pub least : least_unused s.contents.used words ≡ Some x
