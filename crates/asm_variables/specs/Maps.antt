-- Maps from names, and sets of names. This project's.
use Rattle.std.specs.Prelude.{ℕ, nat_eq, List, Bool, Option}
use Rattle.std.specs.Cmp.Lexicographic.{pointwise}
use Rattle.std.specs.declared.hash.FoldHasher.{FoldHasher}
use Rattle.std.specs.declared.hash.BuildHasherDefault.{BuildHasherDefault}
use Rattle.indexmap.specs.IndexMap.{IndexMap, get}
use Rattle.indexmap.specs.IndexSet.{IndexSet, contains}

abbrev pub Map : Type 0 → Type 0
Map V = IndexMap (List ℕ) V (BuildHasherDefault FoldHasher)

abbrev pub Set : Type 0
Set = IndexSet (List ℕ) (BuildHasherDefault FoldHasher)

-- the value of a name
abbrev pub value_named : {V : Type 0} → Map V → List ℕ → Option V
value_named m q = get (pointwise nat_eq) m q

-- whether a name is among these
abbrev pub has_name : Set → List ℕ → Bool
has_name s q = contains (pointwise nat_eq) s q
