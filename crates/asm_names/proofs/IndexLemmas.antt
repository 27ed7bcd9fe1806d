-- The first expression of each name.
use Rattle.std.proofs.Common.{◌≡◌, ℕ, zero, suc, ◌+◌, Bool, true, false, cond, true≢false, ◌||◌, length, List, [], ◌∷◌, Some, None, refl, sym, ap, ◌∙◌, arith}
use Rattle.std.specs.Prelude.{nat_eq, slice_get, is_some}
use Rattle.std.specs.Borrow.{Bor}
use Rattle.std.specs.Cmp.Lexicographic.{pointwise}
use Rattle.std.specs.List.{list_any}
use Rattle.indexmap.specs.IndexMap.{Updates}
use Rattle.std.proofs.lemmas.Option.{slice_get_within}
use Rattle.asm_model.specs.declared.exprs.Expr.{Expr}
use Rattle.asm_model.specs.Forms.{same}
use Rattle.asm_model.proofs.WordLemmas.{same_refl, same_true}
use Rattle.asm_names.specs.Index.{Numbers, number_in, first_from, IsIndexOf, IsWithin}
use Rattle.asm_model.proofs.SharedLemmas.{tests}

pub put_is : (m n : Numbers) (name : Bor (List ℕ)) (k : ℕ) → Updates (λ a b. pointwise nat_eq a.now b.now) m n name (Some k)
    → (q : List ℕ) → number_in n q ≡ cond (same q name.now) (Some k) (number_in m q)
put_is m n name k updates q =
    updates.0 (record { ref_ptr = (0, 0); now = q }) ∙ ap (λ (b : Bool). cond b (Some k) (number_in m q)) (tests name.now q)

-- ---- what has a number

pub record IsFirst (i : ℕ) (es : List (List ℕ × Expr)) (q : List ℕ) (k : ℕ) : Type 0 where
  pub place : ℕ
  pub is : k ≡ i + place
  pub one : List ℕ × Expr
  pub there : slice_get es place ≡ Some one
  pub called : one.0 ≡ q

pub first_there : (i : ℕ) (es : List (List ℕ × Expr)) (q : List ℕ) (k : ℕ) → first_from i es q ≡ Some k → IsFirst i es q k
first_there i [] q k h = absurd (cc)
first_there i (e ∷ es) q k h = by (same q e.0) refl (λ t. first_there (suc i) es q k t) h
  where
    later : IsFirst (suc i) es q k → IsFirst i (e ∷ es) q k
    later f = let n = f.is in record { place = suc f.place; is = omega arith; one = f.one; there = f.there; called = f.called }

    by : (b : Bool) → same q e.0 ≡ b → (first_from (suc i) es q ≡ Some k → IsFirst (suc i) es q k) → cond b (Some i) (first_from (suc i) es q) ≡ Some k
        → IsFirst i (e ∷ es) q k
    by true t rest f = let n : i ≡ k = cc in record { place = 0; is = omega arith; one = e; there = refl; called = sym (same_true q e.0 t) }
    by false t rest f = later (rest f)

pub first_is : (i : ℕ) (es : List (List ℕ × Expr)) (q : List ℕ) → is_some (first_from i es q) ≡ list_any (λ (e : List ℕ × Expr). same q e.0) es
first_is i [] q = refl
first_is i (e ∷ es) q = by (same q e.0) (first_is (suc i) es q)
  where
    by : (b : Bool) → is_some (first_from (suc i) es q) ≡ list_any (λ (x : List ℕ × Expr). same q x.0) es
        → is_some (cond b (Some i) (first_from (suc i) es q)) ≡ (b || list_any (λ (x : List ℕ × Expr). same q x.0) es)
    by true h = refl
    by false h = h

-- a name's number is that of an expression of this name, and of no other name
pub numbered_within : (equals : List (List ℕ × Expr)) (m : Numbers) → IsIndexOf 0 equals m → IsWithin m (length equals)
numbered_within equals m index = record {
  below = λ q k h. let f = first_there 0 equals q k (sym (index q) ∙ h) in let n = f.is in let w = slice_get_within equals f.place f.one f.there in omega arith;
}

pub numbered_once : (equals : List (List ℕ × Expr)) (m : Numbers) → IsIndexOf 0 equals m → (p q : List ℕ) (k : ℕ) → number_in m p ≡ Some k
    → number_in m q ≡ Some k → p ≡ q
numbered_once equals m index p q k a b =
    let f = first_there 0 equals p k (sym (index p) ∙ a) in
    let g = first_there 0 equals q k (sym (index q) ∙ b) in
    let x = f.is in
    let y = g.is in
    let same_place : f.place ≡ g.place = omega arith in
    let there : Some f.one ≡ Some g.one = sym f.there ∙ ap (λ (i : ℕ). slice_get equals i) same_place ∙ g.there in
    let one : f.one ≡ g.one = cc in
    sym f.called ∙ ap (λ (e : List ℕ × Expr). e.0) one ∙ g.called

-- each expression's name has a number
has_name : (es : List (List ℕ × Expr)) (i : ℕ) (e : List ℕ × Expr) → slice_get es i ≡ Some e → list_any (λ (x : List ℕ × Expr). same e.0 x.0) es ≡ true
has_name [] i e h = absurd (cc)
has_name (d ∷ es) zero e h = let s : d ≡ e = cc in by (same e.0 d.0) (ap (λ (x : List ℕ × Expr). same e.0 x.0) s ∙ same_refl e.0)
  where
    by : (b : Bool) → b ≡ true → (b || list_any (λ (x : List ℕ × Expr). same e.0 x.0) es) ≡ true
    by true t = refl
    by false t = absurd (true≢false (sym t))
has_name (d ∷ es) (suc i) e h = by (same e.0 d.0) (has_name es i e h)
  where
    by : (b : Bool) → list_any (λ (x : List ℕ × Expr). same e.0 x.0) es ≡ true → (b || list_any (λ (x : List ℕ × Expr). same e.0 x.0) es) ≡ true
    by true t = refl
    by false t = t

pub is_numbered : (equals : List (List ℕ × Expr)) (m : Numbers) → IsIndexOf 0 equals m → (i : ℕ) (e : List ℕ × Expr) → slice_get equals i ≡ Some e
    → is_some (number_in m e.0) ≡ true
is_numbered equals m index i e at = ap is_some (index e.0) ∙ first_is 0 equals e.0 ∙ has_name equals i e at

-- a name that has no number is for no expression
pub unnumbered : (equals : List (List ℕ × Expr)) (m : Numbers) → IsIndexOf 0 equals m → (q : List ℕ) → number_in m q ≡ None
    → list_any (λ (e : List ℕ × Expr). same q e.0) equals ≡ false
unnumbered equals m index q none = sym (first_is 0 equals q) ∙ ap is_some (sym (index q) ∙ none)

pub numbered : (equals : List (List ℕ × Expr)) (m : Numbers) → IsIndexOf 0 equals m → (q : List ℕ) (k : ℕ) → number_in m q ≡ Some k
    → list_any (λ (e : List ℕ × Expr). same q e.0) equals ≡ true
numbered equals m index q k some = sym (first_is 0 equals q) ∙ ap is_some (sym (index q) ∙ some)
