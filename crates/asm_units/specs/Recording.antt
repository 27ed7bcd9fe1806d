-- What the record of a symbol says of a source, as code keeps it. This project's.
use Rattle.std.specs.Prelude.{◌≡◌, ℕ, List, false, get_or}
use Rattle.std.specs.List.{list_any}
use Rattle.asm_model.specs.Forms.{same}
use Rattle.asm_model.specs.Marks.{datum_names}
use Rattle.source_model.specs.Objects.{Source, is_exported, is_weak, contents_of, holds_code}
use Rattle.asm_sets.specs.Sets.{HaveSame}
use Rattle.asm_units.specs.declared.records.SymbolFlags.{SymbolFlags}

-- the flags are those of a source
pub record Shows (x : SymbolFlags) (s : Source) : Type 0 where
  pub names : x.names.now ≡ s.names
  pub exported : (q : List ℕ) → list_any (same q) x.exported.now ≡ is_exported s q
  pub weak : (q : List ℕ) → list_any (same q) x.weak.now ≡ is_weak s q
  pub labels : HaveSame x.data.now (datum_names s.statements)
  -- an area that isn't listed holds no code
  pub code : (area : ℕ) → get_or x.code.now area false ≡ holds_code (contents_of area s.lines)
