-- What code says that a statement takes up, and what extents have that statements give. This project's.
use Rattle.std.specs.Prelude.{ℕ, ◌≤◌}
use Rattle.asm_model.specs.declared.values.Value.{Value}
use Rattle.asm_offsets.specs.declared.extents.Extent.{Extent as Code}
use Rattle.asm_offsets.specs.declared.extents.Extent.TheVariants as code
use Rattle.asm_model.specs.Extents.{Extent, Block, Padding, Loading, Pool}
use Rattle.asm_model.specs.OffsetLaws.{IsLiteral}

abbrev pub extent_of_code : Code → Extent
extent_of_code (code.Block alignment bytes) = Block alignment bytes
extent_of_code (code.Padding multiple offset) = Padding multiple offset
extent_of_code (code.Loading bytes literal) = Loading bytes literal
extent_of_code code.Pool = Pool

-- an alignment of statements is 1, 2 or 4
pub record IsAlignment (n : ℕ) : Type 0 where
  pub some : 1 ≤ n
  pub small : n ≤ 4

pub record IsLoading (n : ℕ) (v : Value) : Type 0 where
  pub alignment : IsAlignment n
  pub literal : IsLiteral v

-- what a statement takes up has an alignment, or a multiple, and what it loads is a literal
abbrev pub IsExtent : Extent → Type 0
IsExtent (Block alignment n) = IsAlignment alignment
IsExtent (Padding multiple n) = 1 ≤ multiple
IsExtent (Loading n v) = IsLoading n v
IsExtent Pool = Unit {0}
