-- A map from borrowed names to numbers, as a function. This project's.
use Rattle.std.specs.Prelude.{ℕ, nat_eq, List, Option, Some, None, if◌then◌else◌}
use Rattle.std.specs.Str.{bytes_eq}
use Rattle.std.specs.Borrow.{Bor}
use Rattle.std.specs.Cmp.Lexicographic.{pointwise}
use Rattle.std.specs.declared.hash.FoldHasher.{FoldHasher}
use Rattle.std.specs.declared.hash.BuildHasherDefault.{BuildHasherDefault}
use Rattle.indexmap.specs.IndexMap.{IndexMap, get_by}

abbrev pub Numbers : Type 0
Numbers = IndexMap (Bor (List ℕ)) ℕ (BuildHasherDefault FoldHasher)

abbrev pub number_in : Numbers → List ℕ → Option ℕ
number_in m q = get_by (λ k. pointwise nat_eq q k.now) m

-- what was there, or the number where the name is q
abbrev pub or_number : Option ℕ → List ℕ → ℕ → List ℕ → Option ℕ
or_number (Some k) name number q = Some k
or_number None name number q = if bytes_eq name q then Some number else None
