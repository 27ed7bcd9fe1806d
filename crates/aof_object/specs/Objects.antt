-- An object file: its checks in their order with the offset that each tells, or the record
-- (SDT 2.50 Reference Guide, ARM Object Format; the order of the checks is this project's).
use Rattle.std.specs.Prelude.{ℕ, ◌+◌, ◌-◌, ◌*◌, Bool, ◌&&◌, nat_lt, ◌==◌, if◌then◌else◌, List, [], ◌∷◌, ◌++◌, length, take, drop, map, slice_get, Option, Some, None, Result, Ok, Err}
use Rattle.std.specs.Option.{ok_or, option_and_then}
use Rattle.sdt_word.specs.Bytes.{word_in}
use Rattle.sdt_word.specs.Numbers.{bit}
use Rattle.sdt_fault.specs.declared.kinds.FileKind.TheVariants.{Short, Magic, Version, Strings, Name}
use Rattle.sdt_fault.specs.declared.kinds.FileKind.TheVariants as kind
use Rattle.sdt_fault.specs.declared.refusal.Refusal.{Refusal}
use Rattle.sdt_fault.specs.declared.refusal.Refusal.TheVariants.{BadObject}
use Rattle.chunk_file.specs.Reading.{◌>>=◌, each}
use Rattle.chunk_file.specs.Chunks.{bytes_at, table_of}
use Rattle.aof_object.specs.declared.checks.Flaw.{Flaw}
use Rattle.aof_object.specs.declared.checks.Home.{Home}
use Rattle.aof_object.specs.declared.checks.Home.TheVariants.{Unknown, Nowhere, Within}
use Rattle.aof_object.specs.declared.parts.Parts.{Parts}
use Rattle.aof_object.specs.declared.records.Area.{Area}
use Rattle.aof_object.specs.declared.records.Entry.{Entry}
use Rattle.aof_object.specs.declared.records.Object.{Object}
use Rattle.aof_object.specs.declared.records.Reloc.{Reloc}
use Rattle.aof_object.specs.declared.records.Symbol.{Symbol}
use Rattle.aof_object.specs.declared.areas.AreaHead.{AreaHead}
use Rattle.aof_object.specs.declared.symbols.Told.{Told}
use Rattle.aof_object.specs.Names.{name_at, among, number_from}
use Rattle.aof_object.specs.Checks.{area_flaw, reloc_flaw, is_exported, symbol_flaw, entry_flaw}
use Rattle.aof_object.specs.Parts.{parts_of}

-- items one after the other, one for each head, each judged with those before it
abbrev pub each_of : {H A : Type 0} → (List A → H → Result A Refusal) → List H → List A → Result (List A) Refusal
each_of step [] before = Ok before
each_of step (h ∷ hs) before = step before h >>= λ x. each_of step hs (before ++ x ∷ [])

-- a value that was judged by its row at an offset
abbrev pub judged : {A : Type 0} → ℕ → Option Flaw → A → Result A Refusal
judged at None x = Ok x
judged at (Some f) x = Err (BadObject [] (at + f.place) f.kind)

-- ---- OBJ_HEAD and OBJ_STRT as a whole

unfoldable pub counted_areas : Parts → List ℕ → List ℕ → Result ℕ Refusal
counted_areas p head strings =
    if nat_lt (length head) 24 then Err (BadObject [] p.head.offset Short) else (
    if nat_lt (length head) (24 + 20 * word_in head 8) then Err (BadObject [] p.head.offset Short) else (
    if word_in head 0 == 0xC5E2D080 then (
    if word_in head 4 == 310 then (
    if nat_lt (length strings) 4 then Err (BadObject [] p.strings.offset Strings) else (
    if word_in strings 0 == length strings then Ok (word_in head 8)
    else Err (BadObject [] p.strings.offset Strings)))
    else Err (BadObject [] (p.head.offset + 4) Version))
    else Err (BadObject [] p.head.offset Magic)))

-- ---- the rows of areas in OBJ_HEAD

abbrev pub head_names : List AreaHead → List (List ℕ)
head_names hs = map (λ h. h.name) hs

-- the row, judged with the test of which names are taken
unfoldable pub head_at : List ℕ → (List ℕ → Bool) → ℕ → List ℕ → Result AreaHead Refusal
head_at strings taken at row =
    ok_or (name_at strings (word_in row 0)) (BadObject [] at Name) >>= λ name.
    judged at (area_flaw (taken name) (word_in row 4) (word_in row 8) (word_in row 12) (word_in row 16))
    (record { name = name; attributes = word_in row 4; size = word_in row 8; count = word_in row 12 })

abbrev pub next_head : List ℕ → ℕ → List ℕ → List AreaHead → Result AreaHead Refusal
next_head strings start head before =
    head_at strings (λ q. among q (head_names before)) (start + (24 + 20 * length before)) (drop (24 + 20 * length before) head)

-- how many bytes an area has in OBJ_AREA, without and with its relocations
abbrev pub stored : ℕ → ℕ → ℕ
stored attributes size = if bit attributes 12 == 1 then 0 else size

abbrev pub extent : AreaHead → ℕ
extent h = stored h.attributes h.size + 8 * h.count

abbrev pub total : List AreaHead → ℕ
total [] = 0
total (h ∷ hs) = extent h + total hs

unfoldable pub heads_of : Parts → List ℕ → List ℕ → List ℕ → Result (List AreaHead) Refusal
heads_of p head strings content =
    each (next_head strings p.head.offset head) (word_in head 8) [] >>= λ heads.
    if total heads == length content then Ok heads else Err (BadObject [] p.areas.offset Short)

-- ---- the areas in OBJ_AREA

unfoldable pub reloc_at : ℕ → ℕ → ℕ → List ℕ → Result Reloc Refusal
reloc_at areas symbols at row =
    judged at (reloc_flaw areas symbols (word_in row 4)) (record { offset = word_in row 0; word = word_in row 4 })

abbrev pub next_reloc : ℕ → ℕ → ℕ → List ℕ → ℕ → List Reloc → Result Reloc Refusal
next_reloc areas symbols start content at before =
    reloc_at areas symbols (start + (at + 8 * length before)) (drop (at + 8 * length before) content)

-- the area of a head, whose bytes begin at a place of OBJ_AREA and whose relocations follow them
unfoldable pub area_at : ℕ → ℕ → ℕ → List ℕ → ℕ → AreaHead → Result Area Refusal
area_at areas symbols start content at h =
    each (next_reloc areas symbols start content (at + stored h.attributes h.size)) h.count [] >>= λ relocs.
    Ok (record { name = h.name; attributes = h.attributes; size = h.size; bytes = take (stored h.attributes h.size) (drop at content); relocs = relocs })

abbrev pub next_area : List AreaHead → ℕ → ℕ → List ℕ → List Area → AreaHead → Result Area Refusal
next_area heads symbols start content before h =
    area_at (length heads) symbols start content (total (take (length before) heads)) h

-- ---- the symbols

abbrev pub within : Option AreaHead → Home
within None = Unknown
within (Some h) = Within h.size

-- the area that an area-name word tells: none where it is 0, else the one of that name
abbrev pub told_number : List AreaHead → Option ℕ → Told
told_number heads None = record { area = None; home = Unknown }
told_number heads (Some k) = record { area = Some k; home = within (slice_get heads k) }

unfoldable pub told : List ℕ → List AreaHead → ℕ → Told
told strings heads word =
    if word == 0 then record { area = None; home = Nowhere }
    else told_number heads (option_and_then (λ q. number_from 0 q (head_names heads)) (name_at strings word))

-- the names that some symbols export
abbrev pub exported : List Symbol → List (List ℕ)
exported [] = []
exported (s ∷ ss) = if is_exported s.attributes then s.name ∷ exported ss else exported ss

unfoldable pub symbol_at : List ℕ → List AreaHead → (List ℕ → Bool) → ℕ → List ℕ → Result Symbol Refusal
symbol_at strings heads taken at row =
    ok_or (name_at strings (word_in row 0)) (BadObject [] at Name) >>= λ name.
    judged at (symbol_flaw (is_exported (word_in row 4) && taken name) (word_in row 4) (word_in row 8) (told strings heads (word_in row 12)).home)
    (record { name = name; attributes = word_in row 4; value = word_in row 8; area = (told strings heads (word_in row 12)).area })

abbrev pub next_symbol : List ℕ → List AreaHead → ℕ → List ℕ → List Symbol → Result Symbol Refusal
next_symbol strings heads start content before =
    symbol_at strings heads (λ q. among q (exported before)) (start + 16 * length before) (drop (16 * length before) content)

unfoldable pub symbols_of : Parts → List ℕ → List AreaHead → List ℕ → ℕ → Result (List Symbol) Refusal
symbols_of p strings heads content count =
    if length content == 16 * count then each (next_symbol strings heads p.symbols.offset content) count []
    else Err (BadObject [] p.symbols.offset Short)

-- ---- the entry

abbrev pub entry_in : ℕ → ℕ → ℕ → Option AreaHead → Result (Option Entry) Refusal
entry_in start area offset None = Err (BadObject [] (start + 16) kind.Entry)
entry_in start area offset (Some h) = judged start (entry_flaw h.attributes h.size offset) (Some (record { area = area - 1; offset = offset }))

unfoldable pub entry_of : Parts → List ℕ → List AreaHead → Result (Option Entry) Refusal
entry_of p head heads =
    if word_in head 16 == 0 then Ok None
    else entry_in p.head.offset (word_in head 16) (word_in head 20) (slice_get heads (word_in head 16 - 1))

-- ---- the whole

-- behind the checks of OBJ_HEAD and OBJ_STRT as a whole
unfoldable pub object_behind : Parts → List ℕ → List ℕ → List ℕ → List ℕ → Result Object Refusal
object_behind p head content strings table =
    heads_of p head strings content >>= λ heads.
    each_of (next_area heads (word_in head 12) p.areas.offset content) heads [] >>= λ areas.
    symbols_of p strings heads table (word_in head 12) >>= λ symbols.
    entry_of p head heads >>= λ entry.
    Ok (record { areas = areas; symbols = symbols; entry = entry })

unfoldable pub object_in : Parts → List ℕ → List ℕ → List ℕ → List ℕ → Result Object Refusal
object_in p head content strings table = counted_areas p head strings >>= λ _. object_behind p head content strings table

unfoldable pub object_of : List ℕ → Result Object Refusal
object_of b =
    table_of b >>= λ spans. parts_of b spans >>= λ p.
    object_in p (bytes_at b p.head) (bytes_at b p.areas) (bytes_at b p.strings) (bytes_at b p.symbols)
