-- What more a line's values are judged by, as code keeps it and as definitions have it. This project's.
use Rattle.std.specs.Prelude.{◌≡◌, ℕ, ◌<◌, List, length, slice_index, Option, Some, Ok}
use Rattle.std.specs.List.{slice_get}
use Rattle.asm_model.specs.declared.exprs.Expr.{Expr}
use Rattle.asm_model.specs.declared.statements.What.{What}
use Rattle.asm_model.specs.declared.values.Value.{Value}
use Rattle.asm_model.specs.declared.names.LaidName.{LaidName}
use Rattle.asm_model.specs.declared.names.Names.{Names}
use Rattle.asm_model.specs.Meaning.{stands_at}
use Rattle.asm_model.specs.Extents.{value_there}
use Rattle.source_model.specs.Contexts.{Context, sees, value_of}
use Rattle.asm_sets.specs.Sets.{HaveSame}
use Rattle.asm_instructions.specs.Lookups.{Shows}
use Rattle.asm_laying.specs.Reading.{string_marks}
use Rattle.asm_units.specs.declared.tables.LineTables.{LineTables}

-- a context has these names, and its line is of this area; these labels of a source are data
pub record ShowsNames (all : List LaidName) (marked : List (List ℕ)) (own : Option ℕ) (c : Context) (data_names : List (List ℕ)) : Type
    0 where
  pub names : c.names ≡ all
  pub area : c.line.area ≡ own
  pub labels : HaveSame marked data_names

-- the tables of a line show what a context says, with these labels that are data, these sizes of areas, what
-- the line sees, and the offset of its literal's word
pub record ShowsTables (x : LineTables) (c : Context) (data_names : List (List ℕ)) (sizes : ℕ → ℕ) (s : Names) (word : Option ℕ)
    (w : What) : Type 0 where
  pub lookup : Shows x.lookup c
  pub labels : HaveSame x.data.now data_names
  pub measured : (area n : ℕ) → slice_get x.sizes.now area ≡ Some n → n ≡ sizes area
  -- each place is in an area that has a size
  pub within : (q : List ℕ) (area o : ℕ) → stands_at (sees c) q ≡ Some (area, o) → area < length x.sizes.now
  pub strings : x.strings.now ≡ string_marks s w
  pub literal : x.word ≡ word
  -- what is known at the line stays
  pub known : (e : Expr) (v : Value) → value_there s e ≡ Ok v → value_of c e ≡ Ok v

-- the size of an area; 0 of one that isn't listed
abbrev pub sizes_of : LineTables → ℕ → ℕ
sizes_of x area = slice_index x.sizes.now area
