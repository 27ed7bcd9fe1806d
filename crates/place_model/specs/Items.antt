-- What placing looks at of an area of a linked object (SDT 2.50 Reference Guide, ARM Object Format, area
-- attributes).
use Rattle.std.specs.Prelude.{ℕ, ◌%◌, ◌^◌, Bool, ◌==◌, List}
use Rattle.sdt_word.specs.Numbers.{bit}

-- the numbers of object and area, and what a scatter description selects by
pub record Item : Type 0 where
  pub object : ℕ
  pub area : ℕ
  pub «module» : List ℕ
  pub name : List ℕ
  pub attributes : ℕ
  pub size : ℕ

-- ---- the attributes

abbrev pub is_code : Item → Bool
is_code i = bit i.attributes 9 == 1

abbrev pub is_zero_initialised : Item → Bool
is_zero_initialised i = bit i.attributes 12 == 1

abbrev pub is_read_only : Item → Bool
is_read_only i = bit i.attributes 13 == 1

abbrev pub alignment : Item → ℕ
alignment i = 2 ^ (i.attributes % 256)
