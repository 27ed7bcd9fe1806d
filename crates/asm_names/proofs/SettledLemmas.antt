-- Names that are settled: more names settle more, and rounds stop.
use Rattle.std.proofs.Common.{◌≡◌, ℕ, zero, suc, ◌<◌, ◌≤◌, Bool, true, false, ◌||◌, not, cond, true≢false, length, List, [], ◌∷◌, refl, sym, ap, ◌∙◌, inl, inr, arith}
use Rattle.std.specs.Prelude.{◌⊎◌, ◌≢◌, ◌==◌, slice_get, Some}
use Rattle.std.specs.List.{list_any}
use Rattle.std.proofs.lemmas.Bool.{and_from, and_parts, eqb-true, eq-eqb}
use Rattle.asm_model.specs.declared.exprs.Expr.{Expr}
use Rattle.asm_model.specs.declared.exprs.ExprItem.{ExprItem}
use Rattle.asm_model.specs.declared.exprs.ExprItem.TheVariants as item
use Rattle.asm_model.specs.Forms.{same}
use Rattle.asm_model.proofs.WordLemmas.{same_refl, same_true}
use Rattle.asm_model.specs.LayoutKinds.{is_settled_item, are_settled, settled_by, settled_after, settled}
use Rattle.asm_names.specs.Laws.{IsClosed, AreAmong}
use Rattle.base_lemmas.proofs.BaseLemmas.{or_either, true_or as or_left, or_true as or_right}

or_more : (a b c : Bool) → (b ≡ true → c ≡ true) → (a || b) ≡ true → (a || c) ≡ true
or_more true b c f h = refl
or_more false b c f h = f h

-- ---- more names settle more

pub item_more : (equals : List (List ℕ × Expr)) (a b : List (List ℕ)) → AreAmong a b → (i : ExprItem) → is_settled_item equals a i ≡ true
    → is_settled_item equals b i ≡ true
item_more equals a b more (item.Name q) h = or_more (not (list_any (λ e. same q e.0) equals)) (list_any (same q) a) (list_any (same q) b) (more q) h
item_more equals a b more i h = refl

pub items_more : (equals : List (List ℕ × Expr)) (a b : List (List ℕ)) → AreAmong a b → (is : List ExprItem) → are_settled equals a is ≡ true
    → are_settled equals b is ≡ true
items_more equals a b more [] h = refl
items_more equals a b more (i ∷ is) h =
    let p = and_parts (is_settled_item equals a i) (are_settled equals a is) h in
    and_from (is_settled_item equals b i) (are_settled equals b is) (item_more equals a b more i p.0) (items_more equals a b more is p.1)

-- ---- a round

-- the names of a round are those of the expressions that it settles
pub round_has : (equals es : List (List ℕ × Expr)) (names : List (List ℕ)) (i : ℕ) (e : List ℕ × Expr) → slice_get es i ≡ Some e
    → are_settled equals names e.1.items ≡ true → list_any (same e.0) (settled_by equals names es) ≡ true
round_has equals [] names i e at h = absurd (cc)
round_has equals (d ∷ es) names zero e at h = here d (cc) (are_settled equals names d.1.items) refl
  where
    here : (d : List ℕ × Expr) → d ≡ e → (b : Bool) → are_settled equals names d.1.items ≡ b
        → list_any (same e.0) (cond b (d.0 ∷ settled_by equals names es) (settled_by equals names es)) ≡ true
    here d same_one true t =
        or_left (same e.0 d.0) (list_any (same e.0) (settled_by equals names es)) (ap (λ (x : List ℕ × Expr). same e.0 x.0) same_one ∙ same_refl e.0)
    here d same_one false t = absurd (true≢false (sym h ∙ ap (λ (x : List ℕ × Expr). are_settled equals names x.1.items) (sym same_one) ∙ t))
round_has equals (d ∷ es) names (suc i) e at h = later (are_settled equals names d.1.items) (round_has equals es names i e at h)
  where
    later : (b : Bool) → list_any (same e.0) (settled_by equals names es) ≡ true
        → list_any (same e.0) (cond b (d.0 ∷ settled_by equals names es) (settled_by equals names es)) ≡ true
    later true r = or_right (same e.0 d.0) (list_any (same e.0) (settled_by equals names es)) r
    later false r = r

pub record Settles (equals es : List (List ℕ × Expr)) (names : List (List ℕ)) (q : List ℕ) : Type 0 where
  pub place : ℕ
  pub one : List ℕ × Expr
  pub there : slice_get es place ≡ Some one
  pub called : one.0 ≡ q
  pub items : are_settled equals names one.1.items ≡ true

pub round_only : (equals es : List (List ℕ × Expr)) (names : List (List ℕ)) (q : List ℕ) → list_any (same q) (settled_by equals names es) ≡ true
    → Settles equals es names q
round_only equals [] names q h = absurd (true≢false (sym h))
round_only equals (d ∷ es) names q h = by (are_settled equals names d.1.items) refl (λ e. round_only equals es names q e) h
  where
    Rest : Type 0
    Rest = list_any (same q) (settled_by equals names es) ≡ true → Settles equals es names q

    later : Settles equals es names q → Settles equals (d ∷ es) names q
    later s = record { place = suc s.place; one = s.one; there = s.there; called = s.called; items = s.items }

    first : are_settled equals names d.1.items ≡ true → Rest → (same q d.0 ≡ true) ⊎ (list_any (same q) (settled_by equals names es) ≡ true)
        → Settles equals (d ∷ es) names q
    first t rest (inl e) = record { place = 0; one = d; there = refl; called = sym (same_true q d.0 e); items = t }
    first t rest (inr e) = later (rest e)

    by : (b : Bool) → are_settled equals names d.1.items ≡ b → Rest → list_any (same q)
        (cond b (d.0 ∷ settled_by equals names es) (settled_by equals names es)) ≡ true → Settles equals (d ∷ es) names q
    by true t rest k = first t rest (or_either (same q d.0) (list_any (same q) (settled_by equals names es)) k)
    by false t rest k = later (rest k)

pub round_more : (equals es : List (List ℕ × Expr)) (a b : List (List ℕ)) → AreAmong a b → AreAmong (settled_by equals a es) (settled_by equals b es)
round_more equals es a b more q h =
    let s = round_only equals es a q h in
    ap (λ (n : List ℕ). list_any (same n) (settled_by equals b es)) (sym s.called)
    ∙ round_has equals es b s.place s.one s.there (items_more equals a b more s.one.1.items s.items)

-- a round with more names has no fewer, and the same ones where it has as many
pub record Grows (now next : List (List ℕ)) : Type 0 where
  pub fewer : length now ≤ length next
  pub stops : length now ≡ length next → next ≡ now

pub round_grows : (equals es : List (List ℕ × Expr)) (a b : List (List ℕ)) → AreAmong a b → Grows (settled_by equals a es) (settled_by equals b es)
round_grows equals [] a b more = record { fewer = omega arith; stops = λ e. refl }
round_grows equals (d ∷ es) a b more =
    by (are_settled equals a d.1.items) (are_settled equals b d.1.items) (items_more equals a b more d.1.items) (round_grows equals es a b more)
  where
    by : (x y : Bool) → (x ≡ true → y ≡ true) → Grows (settled_by equals a es) (settled_by equals b es)
        → Grows (cond x (d.0 ∷ settled_by equals a es) (settled_by equals a es)) (cond y (d.0 ∷ settled_by equals b es) (settled_by equals b es))
    by true true f g = let l = g.fewer in record { fewer = omega arith; stops = λ e. ap (λ (t : List (List ℕ)). d.0 ∷ t) (g.stops (omega arith)) }
    by true false f g = absurd (true≢false (sym (f refl)))
    by false true f g = let l = g.fewer in record { fewer = omega arith; stops = λ e. absurd (omega (arith, l, e)) }
    by false false f g = g

round_within : (equals es : List (List ℕ × Expr)) (names : List (List ℕ)) → length (settled_by equals names es) ≤ length es
round_within equals [] names = omega arith
round_within equals (d ∷ es) names = by (are_settled equals names d.1.items) (round_within equals es names)
  where
    by : (b : Bool) → length (settled_by equals names es) ≤ length es → length (cond b (d.0 ∷ settled_by equals names es) (settled_by equals names es)) ≤ length
        (d ∷ es)
    by true h = omega arith
    by false h = omega arith

-- ---- rounds

after_more : (k : ℕ) (equals : List (List ℕ × Expr)) → AreAmong (settled_after k equals) (settled_after (suc k) equals)
after_more zero equals q h = absurd (true≢false (sym h))
after_more (suc k) equals q h = round_more equals equals (settled_after k equals) (settled_after (suc k) equals) (after_more k equals) q h

-- until they stop, each round settles one name more at least
after_stops : (k : ℕ) (equals : List (List ℕ × Expr)) → (settled_after (suc k) equals ≡ settled_after k equals) ⊎ (k < length (settled_after (suc k) equals))
after_stops zero equals = by (settled_after 1 equals) refl
  where
    by : (l : List (List ℕ)) → settled_after 1 equals ≡ l → (l ≡ []) ⊎ (0 < length l)
    by [] e = inl refl
    by (q ∷ qs) e = inr (omega arith)
after_stops (suc k) equals = by (after_stops k equals)
  where
    grows : Grows (settled_after (suc k) equals) (settled_after (suc (suc k)) equals)
    grows = round_grows equals equals (settled_after k equals) (settled_after (suc k) equals) (after_more k equals)

    longer : (m n : ℕ) → m ≡ length (settled_after (suc k) equals) → n ≡ length (settled_after (suc (suc k)) equals) → k < m → m ≤ n
        → (settled_after (suc (suc k)) equals ≡ settled_after (suc k) equals) ⊎ (suc k < n)
    longer m n e f h le = decide (m == n) refl
      where
        decide : (b : Bool) → (m == n) ≡ b → (settled_after (suc (suc k)) equals ≡ settled_after (suc k) equals) ⊎ (suc k < n)
        decide true t = inl (grows.stops (sym e ∙ eqb-true m n t ∙ f))
        decide false t = inr (let ne : m ≢ n = λ x. true≢false (sym (eq-eqb m n x) ∙ t) in omega arith)

    by : (settled_after (suc k) equals ≡ settled_after k equals) ⊎ (k < length (settled_after (suc k) equals))
        → (settled_after (suc (suc k)) equals ≡ settled_after (suc k) equals) ⊎ (suc k < length (settled_after (suc (suc k)) equals))
    by (inl e) = inl (ap (λ (l : List (List ℕ)). settled_by equals l equals) e)
    by (inr h) = longer (length (settled_after (suc k) equals)) (length (settled_after (suc (suc k)) equals)) refl refl h grows.fewer

pub rounds_stop : (equals : List (List ℕ × Expr)) → settled_by equals (settled equals) equals ≡ settled equals
rounds_stop equals = by (after_stops (length equals) equals)
  where
    by : (settled_after (suc (length equals)) equals ≡ settled_after (length equals) equals)
        ⊎ (length equals < length (settled_after (suc (length equals)) equals)) → settled_by equals (settled equals) equals ≡ settled equals
    by (inl e) = e
    by (inr h) = let w = round_within equals equals (settled equals) in absurd (omega arith)

pub settled_is_closed : (equals : List (List ℕ × Expr)) → IsClosed equals (settled equals)
settled_is_closed equals i e at h =
    ap (λ (l : List (List ℕ)). list_any (same e.0) l) (sym (rounds_stop equals)) ∙ round_has equals equals (settled equals) i e at h

after_least : (k : ℕ) (equals : List (List ℕ × Expr)) (others : List (List ℕ)) → IsClosed equals others → AreAmong (settled_after k equals) others
after_least zero equals others closed q h = absurd (true≢false (sym h))
after_least (suc k) equals others closed q h =
    let s = round_only equals equals (settled_after k equals) q h in
    ap (λ (n : List ℕ). list_any (same n) others) (sym s.called)
    ∙ closed s.place s.one s.there (items_more equals (settled_after k equals) others (after_least k equals others closed) s.one.1.items s.items)

pub settled_is_least : (equals : List (List ℕ × Expr)) (others : List (List ℕ)) → IsClosed equals others → AreAmong (settled equals) others
settled_is_least equals others closed = after_least (length equals) equals others closed
