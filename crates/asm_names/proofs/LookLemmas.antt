-- One look at an expression: what the fields say of its names, and what is settled before the first unknown one.
use Rattle.std.proofs.Common.{◌≡◌, ℕ, zero, suc, ◌+◌, Bool, true, false, cond, ◌||◌, ◌&&◌, not, List, [], ◌∷◌, ◌++◌, take, drop, Option, Some, None, refl, sym, ap, ◌∙◌, arith}
use Rattle.std.specs.Prelude.{slice_get, slice_index_or}
use Rattle.std.specs.List.{list_any}
use Rattle.std.specs.Option.{option_map, option_or}
use Rattle.std.proofs.lemmas.Bool.{and_from, and_parts}
use Rattle.asm_model.specs.declared.exprs.Expr.{Expr}
use Rattle.asm_model.specs.declared.exprs.ExprItem.{ExprItem}
use Rattle.asm_model.specs.declared.exprs.ExprItem.TheVariants as item
use Rattle.asm_model.specs.Forms.{same}
use Rattle.asm_model.specs.LayoutKinds.{is_settled_item, are_settled}
use Rattle.asm_names.specs.declared.search.Unknown.{Unknown}
use Rattle.asm_names.specs.Index.{Numbers, number_in, IsIndexOf}
use Rattle.asm_names.specs.Search.{mark, is_known, if_unknown, unknown_in, unknown_at, unknown_from}
use Rattle.asm_names.proofs.IndexLemmas.{unnumbered, numbered}

-- the names that the fields say are known are these
pub record Knows (equals : List (List ℕ × Expr)) (m : Numbers) (known : List Bool) (names : List (List ℕ)) : Type 0 where
  pub index : IsIndexOf 0 equals m
  pub is : (q : List ℕ) → is_known m known q ≡ list_any (same q) names

-- an item that is settled as far as the fields say
free_name : (equals : List (List ℕ × Expr)) (m : Numbers) (known : List Bool) (names : List (List ℕ)) → Knows equals m known names → (q : List ℕ)
    → if_unknown known (number_in m q) ≡ None
    → is_settled_item equals names (item.Name q) ≡ true
free_name equals m known names k q h = by (number_in m q) refl h
  where
    settles : (a b : Bool) → b ≡ true → (not a || b) ≡ true
    settles true b e = e
    settles false b e = refl

    by_mark : (j : ℕ) (b : Bool) → slice_index_or known j false ≡ b → number_in m q ≡ Some j → cond b None (Some j) ≡ None
        → is_settled_item equals names (item.Name q) ≡ true
    by_mark j true t e n = settles (list_any (λ (x : List ℕ × Expr). same q x.0) equals) (list_any (same q) names) (sym (k.is q) ∙ ap (mark known) e ∙ t)
    by_mark j false t e n = absurd (cc)

    by : (o : Option ℕ) → number_in m q ≡ o → if_unknown known o ≡ None → is_settled_item equals names (item.Name q) ≡ true
    by None e n = ap (λ (b : Bool). not b || list_any (same q) names) (unnumbered equals m k.index q e)
    by (Some j) e n = by_mark j (slice_index_or known j false) refl e n

pub free_item : (equals : List (List ℕ × Expr)) (m : Numbers) (known : List Bool) (names : List (List ℕ)) → Knows equals m known names → (x : ExprItem)
    → unknown_in m known x ≡ None
    → is_settled_item equals names x ≡ true
free_item equals m known names k (item.Name q) h = free_name equals m known names k q h
free_item equals m known names k x h = refl

-- an item whose name is unknown
pub record IsUnknown (equals : List (List ℕ × Expr)) (m : Numbers) (names : List (List ℕ)) (x : ExprItem) (k : ℕ) : Type 0 where
  pub name : List ℕ
  pub is : x ≡ item.Name name
  pub numbered : number_in m name ≡ Some k
  pub unknown : is_settled_item equals names (item.Name name) ≡ false

held_name : (equals : List (List ℕ × Expr)) (m : Numbers) (known : List Bool) (names : List (List ℕ)) → Knows equals m known names → (q : List ℕ) (i : ℕ)
    → if_unknown known (number_in m q) ≡ Some i
    → IsUnknown equals m names (item.Name q) i
held_name equals m known names k q i h = by (number_in m q) refl h
  where
    by_mark : (j : ℕ) (b : Bool) → slice_index_or known j false ≡ b → number_in m q ≡ Some j → cond b None (Some j) ≡ Some i
        → IsUnknown equals m names (item.Name q) i
    by_mark j true t e n = absurd (cc)
    by_mark j false t e n =
        let s : j ≡ i = cc in
        record {
          name = q;
          is = refl;
          numbered = e ∙ ap Some s;
          unknown = ap (λ (b : Bool). not b || list_any (same q) names) (numbered equals m k.index q j e) ∙ sym (k.is q) ∙ ap (mark known) e ∙ t;
        }

    by : (o : Option ℕ) → number_in m q ≡ o → if_unknown known o ≡ Some i → IsUnknown equals m names (item.Name q) i
    by None e n = absurd (cc)
    by (Some j) e n = by_mark j (slice_index_or known j false) refl e n

pub held_item : (equals : List (List ℕ × Expr)) (m : Numbers) (known : List Bool) (names : List (List ℕ)) → Knows equals m known names → (x : ExprItem) (i : ℕ)
    → unknown_in m known x ≡ Some i
    → IsUnknown equals m names x i
held_item equals m known names k (item.Name q) i h = held_name equals m known names k q i h
held_item equals m known names k x i h = absurd (cc)

-- ---- items from a place on

pub all_free : (equals : List (List ℕ × Expr)) (m : Numbers) (known : List Bool) (names : List (List ℕ)) → Knows equals m known names
    → (i : ℕ) (xs : List ExprItem) → unknown_from m known i xs ≡ None
    → are_settled equals names xs ≡ true
all_free equals m known names k i [] h = refl
all_free equals m known names k i (x ∷ xs) h = by (unknown_in m known x) refl (λ e. all_free equals m known names k (suc i) xs e) h
  where
    by : (o : Option ℕ) → unknown_in m known x ≡ o → (unknown_from m known (suc i) xs ≡ None → are_settled equals names xs ≡ true)
        → option_or (option_map (unknown_at i) o) (unknown_from m known (suc i) xs) ≡ None
        → (is_settled_item equals names x && are_settled equals names xs) ≡ true
    by None e rest n = and_from (is_settled_item equals names x) (are_settled equals names xs) (free_item equals m known names k x e) (rest n)
    by (Some j) e rest n = absurd (cc)

pub record IsNext (equals : List (List ℕ × Expr)) (m : Numbers) (names : List (List ℕ)) (i : ℕ) (xs : List ExprItem) (u : Unknown) : Type 0 where
  pub count : ℕ
  pub at : u.item ≡ i + count
  pub before : are_settled equals names (take count xs) ≡ true
  pub one : ExprItem
  pub there : slice_get xs count ≡ Some one
  pub held : IsUnknown equals m names one u.number

pub next_is : (equals : List (List ℕ × Expr)) (m : Numbers) (known : List Bool) (names : List (List ℕ)) → Knows equals m known names
    → (i : ℕ) (xs : List ExprItem) (u : Unknown)
    → unknown_from m known i xs ≡ Some u → IsNext equals m names i xs u
next_is equals m known names k i [] u h = absurd (cc)
next_is equals m known names k i (x ∷ xs) u h = by (unknown_in m known x) refl (λ e. next_is equals m known names k (suc i) xs u e) h
  where
    later : is_settled_item equals names x ≡ true → IsNext equals m names (suc i) xs u → IsNext equals m names i (x ∷ xs) u
    later s n = let a = n.at in record {
      count = suc n.count;
      at = omega arith;
      before = and_from (is_settled_item equals names x) (are_settled equals names (take n.count xs)) s n.before;
      one = n.one;
      there = n.there;
      held = n.held;
    }

    by : (o : Option ℕ) → unknown_in m known x ≡ o → (unknown_from m known (suc i) xs ≡ Some u → IsNext equals m names (suc i) xs u)
        → option_or (option_map (unknown_at i) o) (unknown_from m known (suc i) xs) ≡ Some u → IsNext equals m names i (x ∷ xs) u
    by None e rest n = later (free_item equals m known names k x e) (rest n)
    by (Some j) e rest n =
        let s : unknown_at i j ≡ u = cc in
        let a : i ≡ u.item = ap (λ (v : Unknown). v.item) s in
        record {
          count = 0;
          at = omega arith;
          before = refl;
          one = x;
          there = refl;
          held = held_item equals m known names k x u.number (e ∙ ap (λ (v : Unknown). Some v.number) s);
        }

-- ---- items in two parts

pub settled_both : (equals : List (List ℕ × Expr)) (names : List (List ℕ)) (xs ys : List ExprItem) → are_settled equals names xs ≡ true
    → are_settled equals names ys ≡ true → are_settled equals names (xs ++ ys) ≡ true
settled_both equals names [] ys a b = b
settled_both equals names (x ∷ xs) ys a b =
    let p = and_parts (is_settled_item equals names x) (are_settled equals names xs) a in
    and_from (is_settled_item equals names x) (are_settled equals names (xs ++ ys)) p.0 (settled_both equals names xs ys p.1 b)

-- one item that isn't settled
pub unsettled : (equals : List (List ℕ × Expr)) (names : List (List ℕ)) (xs : List ExprItem) (i : ℕ) (x : ExprItem) → slice_get xs i ≡ Some x
    → is_settled_item equals names x ≡ false → are_settled equals names xs ≡ false
unsettled equals names [] i x h f = absurd (cc)
unsettled equals names (y ∷ ys) zero x h f = let e : x ≡ y = cc in
    ap (λ (b : Bool). b && are_settled equals names ys) (ap (is_settled_item equals names) (sym e) ∙ f)
unsettled equals names (y ∷ ys) (suc i) x h f = by (is_settled_item equals names y) (unsettled equals names ys i x h f)
  where
    by : (b : Bool) → are_settled equals names ys ≡ false → (b && are_settled equals names ys) ≡ false
    by true e = e
    by false e = refl

take_nothing : {X : Type 0} (k : ℕ) → take {A = X} k [] ≡ []
take_nothing zero = refl
take_nothing (suc k) = refl

pub get_drop : {X : Type 0} (n i : ℕ) (xs : List X) → slice_get (drop n xs) i ≡ slice_get xs (n + i)
get_drop zero i xs = let e : i ≡ 0 + i = omega arith in ap (λ (j : ℕ). slice_get xs j) e
get_drop (suc n) i [] = refl
get_drop (suc n) i (x ∷ xs) = let e : suc (n + i) ≡ suc n + i = omega arith in get_drop n i xs ∙ ap (λ (j : ℕ). slice_get (x ∷ xs) j) e

pub take_more : {X : Type 0} (n k : ℕ) (xs : List X) → take (n + k) xs ≡ take n xs ++ take k (drop n xs)
take_more zero k xs = let e : 0 + k ≡ k = omega arith in ap (λ (j : ℕ). take j xs) e
take_more (suc n) k [] = take_nothing (suc n + k) ∙ sym (take_nothing k)
take_more (suc n) k (x ∷ xs) = let e : suc n + k ≡ suc (n + k) = omega arith in
    ap (λ (j : ℕ). take j (x ∷ xs)) e ∙ ap (λ (l : List _). x ∷ l) (take_more n k xs)
