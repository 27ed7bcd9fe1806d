-- A map from borrowed names to numbers, as a function. This project's.
use Rattle.std.specs.Prelude.{◌≡◌, ℕ, nat_eq, List, Option, is_some}
use Rattle.std.specs.Borrow.{Bor}
use Rattle.std.specs.Cmp.Lexicographic.{pointwise}
use Rattle.std.specs.declared.hash.FoldHasher.{FoldHasher}
use Rattle.std.specs.declared.hash.BuildHasherDefault.{BuildHasherDefault}
use Rattle.indexmap.specs.IndexMap.{IndexMap, get_by}
use Rattle.aof_object.specs.declared.records.Object.{Object}
use Rattle.aof_object.specs.Names.{among}
use Rattle.link_model.specs.Chosen.{exporter}

abbrev pub Numbers : Type 0
Numbers = IndexMap (Bor (List ℕ)) ℕ (BuildHasherDefault FoldHasher)

abbrev pub number_in : Numbers → List ℕ → Option ℕ
number_in m q = get_by (λ k. pointwise nat_eq q k.now) m

-- each name has the number of the first of these objects that exports it, where they are counted from i on
abbrev pub IsIndexOf : ℕ → List Object → Numbers → Type 0
IsIndexOf i os m = (q : List ℕ) → number_in m q ≡ exporter i q os

-- a name has a number exactly where it is one of these
abbrev pub IsSetOf : List (List ℕ) → Numbers → Type 0
IsSetOf names m = (q : List ℕ) → is_some (number_in m q) ≡ among q names
