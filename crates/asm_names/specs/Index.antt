-- A map from borrowed names to the numbers of expressions. This project's.
use Rattle.std.specs.Prelude.{◌≡◌, ℕ, suc, ◌<◌, nat_eq, List, [], ◌∷◌, Option, Some, None, if◌then◌else◌}
use Rattle.std.specs.Borrow.{Bor}
use Rattle.std.specs.Cmp.Lexicographic.{pointwise}
use Rattle.std.specs.declared.hash.FoldHasher.{FoldHasher}
use Rattle.std.specs.declared.hash.BuildHasherDefault.{BuildHasherDefault}
use Rattle.indexmap.specs.IndexMap.{IndexMap, get_by}
use Rattle.asm_model.specs.declared.exprs.Expr.{Expr}
use Rattle.asm_model.specs.Forms.{same}

abbrev pub Numbers : Type 0
Numbers = IndexMap (Bor (List ℕ)) ℕ (BuildHasherDefault FoldHasher)

abbrev pub number_in : Numbers → List ℕ → Option ℕ
number_in m q = get_by (λ k. pointwise nat_eq q k.now) m

-- the number of a name's first expression among these, which are counted from i on
abbrev pub first_from : ℕ → List (List ℕ × Expr) → List ℕ → Option ℕ
first_from i [] q = None
first_from i (e ∷ es) q = if same q e.0 then Some i else first_from (suc i) es q

abbrev pub IsIndexOf : ℕ → List (List ℕ × Expr) → Numbers → Type 0
IsIndexOf i equals m = (q : List ℕ) → number_in m q ≡ first_from i equals q

-- the numbers of names are below n
pub record IsWithin (m : Numbers) (n : ℕ) : Type 0 where
  pub below : (q : List ℕ) (k : ℕ) → number_in m q ≡ Some k → k < n
