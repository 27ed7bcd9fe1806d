-- The values of the symbols of linked objects where their areas stand: of a definition in an area the area's
-- address and its own offset, of an absolute one its number, of a region symbol its number, and 0 of an
-- undefined weak reference (SDT 2.50 Reference Guide, ARM Object Format and armlink).
use Rattle.std.specs.Prelude.{ℕ, ◌+◌, Bool, false, ◌==◌, if◌then◌else◌, List, Option, Some, None}
use Rattle.std.specs.Option.{option_and_then}
use Rattle.sdt_word.specs.Numbers.{bit}
use Rattle.aof_object.specs.declared.records.Object.{Object}
use Rattle.aof_object.specs.declared.records.Symbol.{Symbol}
use Rattle.aof_object.specs.Checks.{is_placed}
use Rattle.patch_model.specs.Fields.{Meant, Values}
use Rattle.link_model.specs.Meaning.{Meaning, Defined, OfRegion, Weak, meaning_of, symbol_of}
use Rattle.link_model.specs.Members.{Link}

-- the address of each area, by its object's number and its own
abbrev pub Bases : Type 0
Bases = ℕ → ℕ → ℕ

-- the area in which a symbol stands; an absolute one stands in none, whatever area it names
abbrev pub home_area : Symbol → Option ℕ
home_area s = if is_placed s.attributes then s.area else None

abbrev pub unplaced : ℕ → Bool → Bool → Meant
unplaced number thumb datum = record { number = number; thumb = thumb; datum = datum; home = None }

abbrev pub meant_at : Bases → ℕ → Symbol → Option ℕ → Meant
meant_at base_at object s None = unplaced s.value (bit s.attributes 12 == 1) (bit s.attributes 8 == 1)
meant_at base_at object s (Some area) = record {
  number = base_at object area + s.value;
  thumb = bit s.attributes 12 == 1;
  datum = bit s.attributes 8 == 1;
  home = Some (record { object = object; area = area; offset = s.value });
}

abbrev pub meant_of : Bases → ℕ → Option Symbol → Meant
meant_of base_at object None = unplaced 0 false false
meant_of base_at object (Some s) = meant_at base_at object s (home_area s)

abbrev pub meant_by : List Object → Bases → Option Meaning → Meant
meant_by os base_at None = unplaced 0 false false
meant_by os base_at (Some (Defined object k)) = meant_of base_at object (symbol_of os object k)
meant_by os base_at (Some (OfRegion n)) = unplaced n false false
meant_by os base_at (Some Weak) = unplaced 0 false false

-- the meaning of the symbol of a number of an object
abbrev pub meaning_at : Link → (List ℕ → Option ℕ) → ℕ → ℕ → Option Meaning
meaning_at l numbers object k = option_and_then (meaning_of l.definitions numbers object k) (symbol_of l.objects object k)

-- the values of an object's symbols; `numbers` has the region symbols
abbrev pub values_of : Link → (List ℕ → Option ℕ) → Bases → ℕ → Values
values_of l numbers base_at object = record {
  base = base_at object;
  symbol = λ k. meant_by l.objects base_at (meaning_at l numbers object k);
}
