-- Whether an object is valid, as a test: by the checks that reading makes. This project's.
use Rattle.std.specs.Prelude.{ℕ, zero, suc, min, Bool, true, false, ◌&&◌, ◌==◌, is_none, List, [], ◌∷◌, ◌++◌, length, slice_get, Option, Some, None}
use Rattle.aof_object.specs.declared.checks.Home.{Home}
use Rattle.aof_object.specs.declared.checks.Home.TheVariants.{Unknown, Nowhere, Within}
use Rattle.aof_object.specs.declared.records.Area.{Area}
use Rattle.aof_object.specs.declared.records.Entry.{Entry}
use Rattle.aof_object.specs.declared.records.Object.{Object}
use Rattle.aof_object.specs.declared.records.Reloc.{Reloc}
use Rattle.aof_object.specs.declared.records.Symbol.{Symbol}
use Rattle.aof_object.specs.Names.{among}
use Rattle.aof_object.specs.Checks.{area_flaw, reloc_flaw, is_exported, symbol_flaw, entry_flaw}
use Rattle.aof_object.specs.Objects.{stored, exported}
use Rattle.aof_object.specs.Spelling.{area_names}

-- each item passes with those before it
abbrev pub all_pass : {A : Type 0} → (List A → A → Bool) → List A → List A → Bool
all_pass test before [] = true
all_pass test before (x ∷ xs) = test before x && all_pass test (before ++ x ∷ []) xs

abbrev pub is_text : List ℕ → Bool
is_text [] = true
is_text (zero ∷ bs) = false
is_text (suc b ∷ bs) = is_text bs

abbrev pub reloc_ok : ℕ → ℕ → List Reloc → Reloc → Bool
reloc_ok areas symbols before r = is_none (reloc_flaw areas symbols r.word)

-- an area by itself, with the test of which names are taken
unfoldable pub area_by : Bool → ℕ → ℕ → Area → Bool
area_by repeated areas symbols a =
    is_none (area_flaw repeated a.attributes a.size (min (length a.relocs) 1) 0)
    && (is_text a.name && ((length a.bytes == stored a.attributes a.size) && all_pass (reloc_ok areas symbols) [] a.relocs))

abbrev pub area_ok : ℕ → ℕ → List Area → Area → Bool
area_ok areas symbols before a = area_by (among a.name (area_names before)) areas symbols a

abbrev pub home_at : Option Area → Home
home_at None = Unknown
home_at (Some a) = Within a.size

abbrev pub home_of : List Area → Option ℕ → Home
home_of areas None = Nowhere
home_of areas (Some k) = home_at (slice_get areas k)

unfoldable pub symbol_by : Bool → List Area → Symbol → Bool
symbol_by repeated areas s = is_none (symbol_flaw repeated s.attributes s.value (home_of areas s.area)) && is_text s.name

abbrev pub symbol_ok : List Area → List Symbol → Symbol → Bool
symbol_ok areas before s = symbol_by (is_exported s.attributes && among s.name (exported before)) areas s

abbrev pub entry_at : Option Area → ℕ → Bool
entry_at None offset = false
entry_at (Some a) offset = is_none (entry_flaw a.attributes a.size offset)

abbrev pub entry_ok : List Area → Option Entry → Bool
entry_ok areas None = true
entry_ok areas (Some e) = entry_at (slice_get areas e.area) e.offset

unfoldable pub is_valid : Object → Bool
is_valid o =
    all_pass (area_ok (length o.areas) (length o.symbols)) [] o.areas
    && (all_pass (symbol_ok o.areas) [] o.symbols && entry_ok o.areas o.entry)
