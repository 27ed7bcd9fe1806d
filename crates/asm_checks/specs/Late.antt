-- Faults that need the whole layout, by what is kept of a source's areas. Lines are listed with the nearest first, those
-- behind a line in the order of the source. SDT 2.50 Reference Guide, chapter on the assembler; the kinds are this project's.
use Rattle.std.specs.Prelude.{◌≡◌, ℕ, ◌+◌, ◌&&◌, not, nat_lt, List, ◌∷◌, slice_get, Bool, false, Option, Some, None}
use Rattle.std.specs.Option.{option_map}
use Rattle.asm_model.specs.declared.statements.What.{What}
use Rattle.asm_model.specs.Laid.{LaidLine, taken, pieces_of, reversed, area_bytes}
use Rattle.asm_model.specs.LayoutKinds.{is_entry}
use Rattle.asm_offsets.specs.declared.extents.LaidPools.{LaidPools}
use Rattle.asm_offsets.specs.Finished.{AreLaid}
use Rattle.asm_offsets.specs.Laws.{AllExtents}
use Rattle.asm_offsets.specs.Running.{entry_behind}
use Rattle.asm_pool.specs.Pooled.{place_of}
use Rattle.asm_checks.specs.declared.late.Position.{Position}

-- ---- a source and its lines

-- areas are laid out as all lines say
pub record AreWhole (all : List LaidLine) (pools : List LaidPools) : Type 0 where
  pub laid : AreLaid (pieces_of all) pools
  pub extents : AllExtents (pieces_of all)

-- a line among all, behind those before it
pub record IsPosition (all before rest : List LaidLine) (l : LaidLine) (w : What) (x : Position) : Type 0 where
  pub parts : all ≡ reversed rest (l ∷ before)
  pub said : l.statement.what ≡ w
  pub stands : x.area ≡ l.area
  pub start : x.offset ≡ l.offset
  pub entry : x.literal ≡ entry_behind l.area (pieces_of before) (taken l.extent)

-- ---- what is asked of the areas

abbrev pub size_in : List LaidPools → ℕ → Option ℕ
size_in pools area = option_map (λ (l : LaidPools). l.size) (slice_get pools area)

abbrev pub ends_before : Option ℕ → ℕ → Bool
ends_before None offset = false
ends_before (Some size) offset = not (nat_lt offset size)

abbrev pub is_wrong_entry : What → ℕ → ℕ → List LaidPools → Bool
is_wrong_entry w area offset pools = is_entry w && ends_before (size_in pools area) offset

abbrev pub place_in : ℕ → Option LaidPools → Option ℕ
place_in literal None = None
place_in literal (Some l) = place_of literal l.pools

abbrev pub word_in : List LaidPools → ℕ → ℕ → Option ℕ
word_in pools area literal = place_in literal (slice_get pools area)

abbrev pub ends_far : Option ℕ → Bool
ends_far None = false
ends_far (Some word) = nat_lt area_bytes (word + 4)

abbrev pub is_far : List LaidPools → ℕ → Option ℕ → Bool
is_far pools area None = false
is_far pools area (Some literal) = ends_far (word_in pools area literal)
