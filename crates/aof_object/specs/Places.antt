-- A string table as it is built: its names so far, their bytes, and the index of where they stand.
-- This project's.
use Rattle.std.specs.Prelude.{◌≡◌, ℕ, List}
use Rattle.std.specs.List.{flat_map}
use Rattle.aof_object.specs.Index.{Numbers, number_in}
use Rattle.aof_object.specs.Spelling.{ended, spot_from}

-- the index says where each of the names stands
pub record Tells (index : Numbers) (ns : List (List ℕ)) : Type 0 where
  pub at : (q : List ℕ) → number_in index q ≡ spot_from 4 q ns

pub record IsTable (bytes : List ℕ) (index : Numbers) (ns : List (List ℕ)) : Type 0 where
  pub names : bytes ≡ flat_map ended ns
  pub tells : Tells index ns
