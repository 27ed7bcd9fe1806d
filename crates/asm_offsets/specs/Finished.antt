-- Areas when all statements are placed: the pool at each area's end, and the area's size. SDT 2.50 Reference Guide,
-- chapter on the assembler.
use Rattle.std.specs.Prelude.{◌≡◌, ℕ, List, Option, Some, None, slice_get}
use Rattle.asm_offsets.specs.declared.extents.LaidPools.{LaidPools}
use Rattle.asm_offsets.specs.Running.{Standing, HasNone, pools_behind}
use Rattle.asm_pool.specs.Pooled.{flushed}
use Rattle.asm_model.specs.Extents.{Pool}
use Rattle.asm_model.specs.Offsets.{Piece, raised, start_from, end_from, start_in, area_size, all_pooled}

-- an area with the pool at its end
abbrev pub finished : Standing → LaidPools
finished a = record {
  size = raised (end_from a.end a.pools.waiting Pool) 4;
  pools = flushed (start_from a.end a.pools.waiting Pool) a.pools;
}

pub record IsLaid (area : ℕ) (all : List Piece) (l : LaidPools) : Type 0 where
  pub size : l.size ≡ area_size area all
  pub pools : l.pools ≡ flushed (start_in area all Pool) (pools_behind area all)
  pub words : l.pools.placed ≡ all_pooled area all

abbrev pub IsLaidOut : ℕ → List Piece → Option LaidPools → Type 0
IsLaidOut area all None = HasNone area all
IsLaidOut area all (Some l) = IsLaid area all l

-- each area of these statements is laid out, and there are no others
pub record AreLaid (all : List Piece) (areas : List LaidPools) : Type 0 where
  pub each : (area : ℕ) → IsLaidOut area all (slice_get areas area)
