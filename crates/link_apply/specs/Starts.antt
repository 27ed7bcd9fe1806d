-- What relocations do at a place, from the last one on. This project's.
use Rattle.std.specs.Prelude.{◌≡◌, ◌≢◌, ℕ, ◌+◌, ◌-◌, ◌%◌, ◌<◌, ◌^◌, ◌==◌, ◌||◌, ◌&&◌, nat_lt, is_some, Bool, true, false, not, nat_eq, max, if◌then◌else◌, List, [], ◌∷◌, slice_get, Option, Some, None}
use Rattle.std.specs.declared.hash.FoldHasher.{FoldHasher}
use Rattle.std.specs.declared.hash.BuildHasherDefault.{BuildHasherDefault}
use Rattle.indexmap.specs.IndexMap.{IndexMap, get}
use Rattle.sdt_word.specs.Numbers.{flag}
use Rattle.aof_object.specs.declared.records.Reloc.{Reloc}
use Rattle.patch_model.specs.Fields.{Values, field_of, kind_of, is_relative, is_by_symbol, is_same_kind, number_named, value_named, mark_of, size_of}
use Rattle.link_apply.specs.declared.starts.FieldDirectives.{FieldDirectives}
use Rattle.link_values.specs.declared.bases.AreaBases.{AreaBases}
use Rattle.link_values.specs.declared.values.SymbolValue.{SymbolValue}
use Rattle.link_values.specs.Bases.{base_of}

-- ---- a place

abbrev pub symbol_by : Reloc → Option ℕ → Option ℕ
symbol_by r next = if is_by_symbol r then Some (number_named r) else next

-- with a relocation before those that are there
abbrev pub started : Values → Reloc → Option FieldDirectives → FieldDirectives
started values r None = record {
  kind = kind_of r;
  is_mixed = false;
  widest = size_of (kind_of r);
  is_alone = true;
  added = value_named values r + mark_of values r;
  relative = flag (is_relative r);
  symbol = symbol_by r None;
}
started values r (Some s) = record {
  kind = kind_of r;
  is_mixed = s.is_mixed || not (is_same_kind s.kind (kind_of r));
  widest = max s.widest (size_of (kind_of r));
  is_alone = false;
  added = value_named values r + mark_of values r + s.added;
  relative = flag (is_relative r) + s.relative;
  symbol = symbol_by r s.symbol;
}

abbrev pub starts : Values → List Reloc → ℕ → Option FieldDirectives
starts values [] p = None
starts values (r ∷ rs) p = if (field_of r).place == p then Some (started values r (starts values rs p)) else starts values rs p

-- ---- an index of them

abbrev pub Starts : Type 0
Starts = IndexMap ℕ FieldDirectives (BuildHasherDefault FoldHasher)

abbrev pub AreStarts : Values → List Reloc → Starts → Type 0
AreStarts values relocs m = (p : ℕ) → get nat_eq m p ≡ starts values relocs p

-- fields begin at whole words alone
abbrev pub AreEven : Starts → Type 0
AreEven m = (p : ℕ) → p % 4 ≢ 0 → get nat_eq m p ≡ None

-- ---- numbers that fit

-- the addresses of areas
abbrev pub AreLow : AreaBases → Type 0
AreLow bases = (object area : ℕ) → base_of bases object area < 2 ^ 34

abbrev pub AreBelow : List SymbolValue → Type 0
AreBelow symbols = (k : ℕ) (s : SymbolValue) → slice_get symbols k ≡ Some s → s.number < 2 ^ 34

pub record IsSmall (s : FieldDirectives) : Type 0 where
  pub added : s.added < 2 ^ 63
  pub relative : s.relative < 2 ^ 63

abbrev pub AreSmall : Starts → Type 0
AreSmall m = (p : ℕ) (s : FieldDirectives) → get nat_eq m p ≡ Some s → IsSmall s

-- ---- fields that overlap

abbrev pub goes_on : ℕ → Option FieldDirectives → Bool
goes_on behind None = false
goes_on behind (Some s) = nat_lt behind s.widest

-- a field that begins before a place has it
abbrev pub reaches : (ℕ → Option FieldDirectives) → ℕ → ℕ → Bool
reaches start place behind = if nat_lt place behind then false else goes_on behind (start (place - behind))

-- a field of a size has the place where another begins
abbrev pub begins : (ℕ → Option FieldDirectives) → ℕ → ℕ → ℕ → Bool
begins start place size after = nat_lt after size && is_some (start (place + after))

abbrev pub is_crowded : (ℕ → Option FieldDirectives) → ℕ → ℕ → Bool → Bool
is_crowded start place size mixed =
    mixed || (reaches start place 1 || (reaches start place 2 || (reaches start place 3
    || (begins start place size 1 || (begins start place size 2 || begins start place size 3)))))
