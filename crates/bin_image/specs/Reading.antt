-- How a map is read, line by line: what each line adds, or the offset of the first line that can't follow. The
-- laws at the end say that this is what `Maps` says. This project's.
use Rattle.std.specs.Prelude.{◌≡◌, ◌↔◌, ℕ, ◌+◌, ◌%◌, ◌^◌, ◌==◌, ◌&&◌, nat_lt, nat_le, Bool, true, false, if◌then◌else◌, List, [], ◌∷◌, ◌++◌, length, codes, bytes_eq, Option, Some, None, option_map, Result, Ok, Err}
use Rattle.std.specs.List.{list_any, slice_split}
use Rattle.std.specs.Option.{option_map_or}
use Rattle.sdt_fault.specs.declared.answer.Fault.{Fault}
use Rattle.sdt_fault.specs.declared.answer.Fault.TheVariants as fault
use Rattle.sdt_fault.specs.declared.kinds.FileKind.TheVariants as kind
use Rattle.sdt_fault.specs.declared.refusal.Refusal.{Refusal}
use Rattle.sdt_fault.specs.declared.refusal.Refusal.TheVariants.{BadImage}
use Rattle.bin_image.specs.declared.records.MapFile.{MapFile}
use Rattle.bin_image.specs.declared.records.MapLoad.{MapLoad}
use Rattle.bin_image.specs.declared.records.MapRegion.{MapRegion}
use Rattle.bin_image.specs.declared.reading.Stage.{Stage}
use Rattle.bin_image.specs.declared.reading.Stage.TheVariants.{Head, Loads, Regions, Entry, Bound, End, Done}
use Rattle.bin_image.specs.declared.reading.Reader.{Reader}
use Rattle.bin_image.specs.Fields.{◌>>=◌, cut, is_name, address_of, decimal_of}
use Rattle.bin_image.specs.Maps.{header, end_line, ReadsMap, IsValid, map_text, IsFirstWrong}
use Rattle.bin_image.specs.Ranges.{meets}

-- ---- lines

abbrev pub load_of : List ℕ → List ℕ → List ℕ → List ℕ → Option MapLoad
load_of name base size file =
    if is_name name
    then (address_of base >>= λ a. address_of size >>= λ n.
    if nat_le (a + n) (2 ^ 32) then Some (record { name = name; base = a; size = n; file = file }) else None)
    else None

abbrev pub load_in : List ℕ → Option MapLoad
load_in line =
    cut 32 line >>= λ word.
    if bytes_eq word.0 (codes "load")
    then (cut 32 word.1 >>= λ name. cut 32 name.1 >>= λ base. cut 32 base.1 >>= λ size.
    load_of name.0 base.0 size.0 size.1)
    else None

abbrev pub region_of : List ℕ → List ℕ → List ℕ → List ℕ → List ℕ → Option MapRegion
region_of name load base size zeros =
    if is_name name
    then (address_of load >>= λ l. address_of base >>= λ a. address_of size >>= λ n. address_of zeros >>= λ z.
    if nat_le (a + n + z) (2 ^ 32)
    then Some (record { name = name; load = l; base = a; length = n; zero = z }) else None)
    else None

abbrev pub region_in : List ℕ → Option MapRegion
region_in line =
    cut 32 line >>= λ word.
    if bytes_eq word.0 (codes "exec")
    then (cut 32 word.1 >>= λ name. cut 32 name.1 >>= λ load. cut 32 load.1 >>= λ base. cut 32 base.1 >>= λ size.
    region_of name.0 load.0 base.0 size.0 size.1)
    else None

abbrev pub start_in : List ℕ → Option ℕ
start_in line =
    cut 32 line >>= λ word.
    if bytes_eq word.0 (codes "start") then (address_of word.1 >>= λ a. if a % 4 == 0 then Some a else None) else None

abbrev pub state_of : List ℕ → Option Bool
state_of word = if bytes_eq word (codes "ARM") then Some false else (if bytes_eq word (codes "THUMB") then Some true else None)

abbrev pub entry_in : List ℕ → Option (ℕ × Bool)
entry_in line =
    cut 32 line >>= λ word.
    if bytes_eq word.0 (codes "entry")
    then (cut 32 word.1 >>= λ field. address_of field.0 >>= λ a. state_of field.1 >>= λ thumb. Some (a, thumb))
    else None

abbrev pub bound_in : List ℕ → Option ℕ
bound_in line = cut 32 line >>= λ word. if bytes_eq word.0 (codes "bound") then decimal_of word.1 else None

-- ---- lines in order

-- what was read last decides what may follow
abbrev pub State : Type 0
State = Stage × MapFile

abbrev pub after_head : MapFile → List ℕ → Option State
after_head m line = if bytes_eq line header then Some (Loads, m) else None

abbrev pub add_load : MapFile → MapLoad → Option State
add_load m l = if list_any (λ k. meets k l) m.loads then None else Some (Loads, record m { loads = m.loads ++ l ∷ [] })

abbrev pub after_start : MapFile → List ℕ → Option State
after_start m line = option_map (λ a. (Entry, record m { start = a })) (start_in line)

abbrev pub add_region : MapFile → MapRegion → State
add_region m r = (Regions, record m { regions = m.regions ++ r ∷ [] })

abbrev pub after_region : MapFile → List ℕ → Option State
after_region m line = option_map_or (λ r. Some (add_region m r)) (region_in line) (after_start m line)

abbrev pub after_load : MapFile → List ℕ → Option State
after_load m line = option_map_or (add_load m) (load_in line) (after_region m line)

abbrev pub after_entry : MapFile → List ℕ → Option State
after_entry m line = option_map (λ e. (Bound, record m { entry = e.0; thumb = e.1 })) (entry_in line)

abbrev pub after_bound : MapFile → List ℕ → Option State
after_bound m line = option_map (λ n. (End, record m { bound = n })) (bound_in line)

abbrev pub after_end : MapFile → List ℕ → Option State
after_end m line = if bytes_eq line end_line then Some (Done, m) else None

-- behind a line; None where it can't stand there
unfoldable pub next : Stage → MapFile → List ℕ → Option State
next Head m line = after_head m line
next Loads m line = after_load m line
next Regions m line = after_region m line
next Entry m line = after_entry m line
next Bound m line = after_bound m line
next End m line = after_end m line
next Done m line = None

abbrev pub is_done : Stage → Bool
is_done Done = true
is_done other = false

-- no lines follow: behind the last line feed nothing stands, and the map is whole
abbrev pub last : ℕ → Stage → MapFile → List ℕ → Result MapFile ℕ
last at s m piece = if is_done s && length piece == 0 then Ok m else Err at

-- the pieces of a text between its line feeds, from an offset on
abbrev pub read : ℕ → Stage → MapFile → List (List ℕ) → Result MapFile ℕ
read at s m [] = Err at
read at s m (piece ∷ []) = last at s m piece
read at s m (line ∷ piece ∷ pieces) =
    option_map_or (λ t. read (at + (length line + 1)) t.0 t.1 (piece ∷ pieces)) (next s m line) (Err at)

abbrev pub pieces_of : List ℕ → List (List ℕ)
pieces_of text = slice_split (λ b. b == 10) text

abbrev pub empty_map : MapFile
empty_map = record { loads = []; regions = []; start = 0; entry = 0; thumb = false; bound = 0 }

abbrev pub told : Result MapFile ℕ → Result MapFile Refusal
told (Ok m) = Ok m
told (Err at) = Err (BadImage [] at kind.Map)

-- the map of a text, or the refusal with the offset of the first wrong line
abbrev pub map_of : List ℕ → Result MapFile Refusal
map_of b = told (read 0 Head empty_map (pieces_of b))

-- ---- what the code's values mean

-- what the reader has read
abbrev pub shown : Reader → State
shown r = (
  r.stage,
  record {
    loads = r.loads.lines.items;
    regions = r.regions.items;
    start = r.start;
    entry = r.entry;
    thumb = r.thumb;
    bound = r.bound;
  },
)

-- what a call answers is what reading gives, unless memory was refused
abbrev pub Gives : Result MapFile Fault → Result MapFile Refusal → Type 0
Gives (Ok m) read = read ≡ Ok m
Gives (Err fault.NoMemory) read = Unit {0}
Gives (Err (fault.Refused r)) read = read ≡ Err r
Gives (Err (fault.ReadFault name)) read = ⊥

-- the error tells the first wrong line, unless memory was refused
abbrev pub IsFaultOf : List ℕ → Fault → Type 0
IsFaultOf b fault.NoMemory = Unit {0}
IsFaultOf b (fault.Refused r) = (at : ℕ) × (r ≡ BadImage [] at kind.Map) × IsFirstWrong b at
IsFaultOf b (fault.ReadFault name) = ⊥

-- ---- the laws

abbrev pub MapLaw : Type 0
MapLaw = (b : List ℕ) (m : MapFile) → (map_of b ≡ Ok m) ↔ ReadsMap b m

-- bytes have at most one record
abbrev pub OneRecord : Type 0
OneRecord = (b : List ℕ) (m n : MapFile) → ReadsMap b m → ReadsMap b n → m ≡ n

-- what is spelled is read
abbrev pub SpellingLaw : Type 0
SpellingLaw = (m : MapFile) → IsValid m → ReadsMap (map_text m) m

-- the offset that is told is that of the first wrong line
abbrev pub FirstWrongLaw : Type 0
FirstWrongLaw = (b : List ℕ) (at : ℕ) → (map_of b ≡ Err (BadImage [] at kind.Map)) ↔ IsFirstWrong b at
