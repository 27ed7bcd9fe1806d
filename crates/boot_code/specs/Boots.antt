-- What it is to start: from every permitted state the startup code reaches the entry, with the memory as
-- the view says. Load ranges, execution ranges and their bytes are maps from addresses: the files as they
-- were loaded, and the view that the program is to see. This project's.
use Rattle.std.specs.Prelude.{◌≡◌, ◌≢◌, ◌⊎◌, ℕ, ◌+◌, ◌-◌, ◌*◌, ◌%◌, ◌^◌, ◌<◌, ◌≤◌, ◌==◌, ◌&&◌, Bool, true, false, nat_le, nat_lt, if◌then◌else◌, List, [], ◌∷◌, ◌++◌, length, Option, Some, None, slice_index}
use Rattle.sdt_word.specs.Bytes.{bytes_of}
use Rattle.sdt_word.specs.Numbers.{bit, bits}
use Rattle.arm7_model.specs.Memory.{Board}
use Rattle.arm7_model.specs.Registers.{State, IsValidState, register, is_thumb}
use Rattle.arm7_model.specs.declared.event.Event.TheVariants as event
use Rattle.arm7_model.specs.Accesses.{Access}
use Rattle.arm7_model.specs.Outcomes.{Stepped}
use Rattle.arm7_model.specs.Runs.{Input, AreSteps, EachStep, accesses_of, behind}
use Rattle.boot_code.specs.declared.rows.CopyRow.{CopyRow}
use Rattle.boot_code.specs.declared.rows.ZeroRow.{ZeroRow}
use Rattle.boot_code.specs.Safety.{IsSafe}
use Rattle.boot_code.specs.Startup.{AreMasked, table_list}
use Rattle.boot_code.specs.Words.{boot_list}

-- some bytes at their addresses
abbrev pub ByteMap : Type 0
ByteMap = ℕ → Option ℕ

-- the address has a byte in the files or in the view: it lies in a load or an execution range
abbrev pub InRanges : ByteMap → ByteMap → ℕ → Type 0
InRanges files view x = ((b : ℕ) × (files x ≡ Some b)) ⊎ ((b : ℕ) × (view x ≡ Some b))

-- A state from which the code at `start` may run: it holds the files, has every execution range in its
-- memory, may write what is to be written, and is in supervisor mode and ARM state with I and F set.
pub record CanStart (files view : ByteMap) (written : ℕ → Bool) (start : ℕ) (board : Board) (s : State) : Type 0 where
  pub valid : IsValidState s
  pub loaded : (x b : ℕ) → files x ≡ Some b → (board.memory x ≡ true) × (s.memory x ≡ b)
  pub there : (x b : ℕ) → view x ≡ Some b → board.memory x ≡ true
  pub writable : (x : ℕ) → written x ≡ true → board.read_only x ≡ false
  pub supervisor : bits s.core.cpsr 0 5 ≡ 0x13
  pub arm : bit s.core.cpsr 5 ≡ 0
  pub fiq_masked : bit s.core.cpsr 6 ≡ 1
  pub irq_masked : bit s.core.cpsr 7 ≡ 1
  pub pc : register s.core 15 ≡ start

-- The entry is reached, in ARM state or, where its bit 0 is set, in Thumb state; the memory is the view
-- where that has a byte, and elsewhere what it was; each access lies in a range, and no store touches
-- the word being executed or the next two.
pub record HasBooted (files view : ByteMap) (entry : ℕ) (s t : State) (accesses : List (List Access)) : Type 0 where
  pub pc : register t.core 15 ≡ entry - entry % 2
  pub thumb : is_thumb t.core.cpsr ≡ (entry % 2 == 1)
  pub shown : (x b : ℕ) → view x ≡ Some b → t.memory x ≡ b
  pub elsewhere : (x : ℕ) → view x ≡ None → t.memory x ≡ s.memory x
  pub safe : EachStep (IsSafe (InRanges files view)) accesses

-- each is an ordinary step: no exception, and nothing that the host does
abbrev pub AreOrdinary : List Stepped → Type 0
AreOrdinary [] = Unit {0}
AreOrdinary (x ∷ xs) = (x.event ≡ event.Ran) × AreOrdinary xs

-- these are n ordinary steps from s there, which leave interrupts masked
pub record BootSteps (n : ℕ) (files view : ByteMap) (entry : ℕ) (board : Board) (s : State) (inputs : List Input) (steps : List Stepped) : Type 0 where
  pub are : AreSteps board s inputs steps
  pub ordinary : AreOrdinary steps
  pub count : length steps ≡ n
  pub booted : HasBooted files view entry s (behind s steps) (accesses_of steps)
  pub masked : AreMasked (behind s steps)

-- n ordinary steps lead from s there, whatever the inputs are
abbrev pub BootsIn : ℕ → ByteMap → ByteMap → ℕ → Board → State → Type 0
BootsIn n files view entry board s = (inputs : List Input) → (steps : List Stepped) × BootSteps n files view entry board s inputs steps

-- from every permitted state, within the bound
abbrev pub Boots : ByteMap → ByteMap → (ℕ → Bool) → ℕ → ℕ → ℕ → Type 0
Boots files view written start bound entry =
    (board : Board) (s : State) → CanStart files view written start board s
    → (n : ℕ) × (n ≤ bound) × BootsIn n files view entry board s

-- ---- a scatter image

-- the map has this word at p
pub record HoldsWord (files : ByteMap) (p w : ℕ) : Type 0 where
  pub is_word : w < 2 ^ 32
  pub each : (k : ℕ) → k < 4 → files (p + k) ≡ Some (slice_index (bytes_of w 4) k)

abbrev pub HoldsWords : ByteMap → ℕ → List ℕ → Type 0
HoldsWords files p [] = Unit {0}
HoldsWords files p (w ∷ ws) = HoldsWord files p w × HoldsWords files (p + 4) ws

-- each row of a list keeps P
abbrev pub AllCopies : (CopyRow → Type 0) → List CopyRow → Type 0
AllCopies P [] = Unit {0}
AllCopies P (r ∷ rows) = P r × AllCopies P rows

abbrev pub AllParts : (ZeroRow → Type 0) → List ZeroRow → Type 0
AllParts P [] = Unit {0}
AllParts P (r ∷ rows) = P r × AllParts P rows

-- n bytes from b on and k bytes from c on share no address
abbrev pub AreApart : ℕ → ℕ → ℕ → ℕ → Type 0
AreApart b n c k = (b + n ≤ c) ⊎ (c + k ≤ b)

-- A row of a copy: whole words, some but fewer than 2^31 bytes, from a load range to an execution range
-- that is to be written and is off the boot area from a to e.
pub record CopyPlaced (files view : ByteMap) (written : ℕ → Bool) (a e : ℕ) (r : CopyRow) : Type 0 where
  pub some : 0 < r.size
  pub small : r.size < 2 ^ 31
  pub words : r.size % 4 ≡ 0
  pub source_whole : r.source % 4 ≡ 0
  pub target_whole : r.target % 4 ≡ 0
  pub source_room : r.source + r.size ≤ 2 ^ 32
  pub target_room : r.target + r.size ≤ 2 ^ 32
  pub from_files : (k : ℕ) → k < r.size → (b : ℕ) × (files (r.source + k) ≡ Some b)
  pub to_view : (k : ℕ) → k < r.size → (b : ℕ) × (view (r.target + k) ≡ Some b)
  pub to_written : (k : ℕ) → k < r.size → written (r.target + k) ≡ true
  pub off_area : AreApart r.target r.size a (e - a)

pub record ZeroPlaced (view : ByteMap) (written : ℕ → Bool) (a e : ℕ) (r : ZeroRow) : Type 0 where
  pub some : 0 < r.size
  pub small : r.size < 2 ^ 31
  pub words : r.size % 4 ≡ 0
  pub whole : r.base % 4 ≡ 0
  pub room : r.base + r.size ≤ 2 ^ 32
  pub in_view : (k : ℕ) → k < r.size → (b : ℕ) × (view (r.base + k) ≡ Some b)
  pub to_written : (k : ℕ) → k < r.size → written (r.base + k) ≡ true
  pub off_area : AreApart r.base r.size a (e - a)

-- a copy's target meets neither a later copy's source nor its target
pub record OffLater (r later : CopyRow) : Type 0 where
  pub source : AreApart r.target r.size later.source later.size
  pub target : AreApart r.target r.size later.target later.size

abbrev pub InOrder : List CopyRow → Type 0
InOrder [] = Unit {0}
InOrder (r ∷ rows) = AllCopies (OffLater r) rows × InOrder rows

-- the address is one of the n from b on
abbrev pub covers : ℕ → ℕ → ℕ → Bool
covers b n x = nat_le b x && nat_lt x (b + n)

-- with each copied range moved to its target, and then each zero part set to zero
abbrev pub moved : {X : Type 0} → (ℕ → X) → List CopyRow → ℕ → X
moved f [] x = f x
moved f (r ∷ rows) x = if covers r.target r.size x then f (r.source + (x - r.target)) else moved f rows x

abbrev pub zeroed : {X : Type 0} → X → (ℕ → X) → List ZeroRow → ℕ → X
zeroed z f [] x = f x
zeroed z f (r ∷ rows) x = if covers r.base r.size x then z else zeroed z f rows x

-- The rows are placed: the boot area with their table lies at a in the load ranges; each row keeps its
-- rules; and the files, moved and cleared by the rows, are the view where that has a byte.
pub record Places (files view : ByteMap) (written : ℕ → Bool) (copies : List CopyRow) (parts : List ZeroRow) (entry a : ℕ) : Type 0 where
  pub multiple : a % 4 ≡ 0
  pub room : a + 4 * length (boot_list ++ table_list copies parts entry) ≤ 2 ^ 32
  pub area : HoldsWords files a (boot_list ++ table_list copies parts entry)
  pub each_copy : AllCopies (CopyPlaced files view written a (a + 4 * length (boot_list ++ table_list copies parts entry))) copies
  pub each_part : AllParts (ZeroPlaced view written a (a + 4 * length (boot_list ++ table_list copies parts entry))) parts
  pub in_order : InOrder copies
  pub shows : (x b : ℕ) → view x ≡ Some b → zeroed (Some 0) (moved files copies) parts x ≡ Some b
  pub fair : entry % 4 ≢ 2
