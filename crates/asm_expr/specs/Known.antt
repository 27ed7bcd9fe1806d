-- A map from names to their places in a list. This project's.
use Rattle.std.specs.Prelude.{◌≡◌, ℕ, nat_eq, List, Option}
use Rattle.std.specs.Cmp.Lexicographic.{pointwise}
use Rattle.std.specs.declared.hash.FoldHasher.{FoldHasher}
use Rattle.std.specs.declared.hash.BuildHasherDefault.{BuildHasherDefault}
use Rattle.indexmap.specs.IndexMap.{IndexMap, get}
use Rattle.asm_model.specs.declared.names.LaidName.{LaidName}
use Rattle.asm_expr.specs.Places.{place_of}

abbrev pub Numbers : Type 0
Numbers = IndexMap (List ℕ) ℕ (BuildHasherDefault FoldHasher)

abbrev pub place_in : Numbers → List ℕ → Option ℕ
place_in m q = get (pointwise nat_eq) m q

-- the map says where the first entry with each name stands
abbrev pub IsIndexed : List LaidName → Numbers → Type 0
IsIndexed list places = (q : List ℕ) → place_in places q ≡ place_of q list
