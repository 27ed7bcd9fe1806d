-- The end of the search: the known names are the settled ones, and the places are an order.
use Rattle.std.proofs.Common.{◌≡◌, ℕ, ◌<◌, ◌≤◌, Bool, true, false, cond, true≢false, ◌==◌, length, List, [], ◌∷◌, ◌++◌, take, Option, Some, None, refl, sym, ap, ◌∙◌, subst, inl, inr, arith, append_assoc, append-nil}
use Rattle.std.specs.Prelude.{◌⊎◌, slice_get, nat_lt, Vec}
use Rattle.std.specs.List.{AllByRecursion, list_any}
use Rattle.std.specs.declared.alloc.Global.{Global}
use Rattle.std.proofs.lemmas.Bool.{eqb-true, ltb-true}
use Rattle.std.proofs.lemmas.Option.{slice_get_within}
use Rattle.std.proofs.Math.Seq.{take-length}
use Rattle.asm_model.specs.declared.exprs.Expr.{Expr}
use Rattle.asm_model.specs.declared.exprs.ExprItem.TheVariants as item
use Rattle.asm_model.specs.Forms.{same}
use Rattle.asm_model.proofs.WordLemmas.{same_refl, same_true}
use Rattle.asm_model.specs.LayoutKinds.{are_settled, settled}
use Rattle.asm_names.specs.declared.search.Waiting.{Waiting}
use Rattle.asm_names.specs.Index.{Numbers}
use Rattle.asm_names.specs.Laws.{IsClosed, AreAmong}
use Rattle.asm_names.specs.Order.{is_settled, names_at, is_in, IsOrder}
use Rattle.asm_names.specs.Search.{Lists, is_known, items_at, items_of, WaitsFor, times_in, waits_in, one_below, known_names, Holds}
use Rattle.asm_names.proofs.ListLemmas.{all_get, times_in_it, in_it, cut_at, sum_some}
use Rattle.asm_names.proofs.LookLemmas.{unsettled}
use Rattle.asm_names.proofs.SearchLemmas.{names_more, none_more, one_more, one_yes}
use Rattle.asm_names.proofs.SettledLemmas.{items_more, settled_is_closed, settled_is_least}
use Rattle.base_lemmas.proofs.BaseLemmas.{both, or_either, or_true as or_right}

-- an expression that waits has a name that isn't known
one_waits : (i : ℕ) (ws : List Waiting) → 0 < times_in i ws → (j : ℕ) × (w : Waiting) × (slice_get ws j ≡ Some w) × (w.equal ≡ i)
one_waits i ws h = let s = sum_some (λ (w : Waiting). cond (w.equal == i) 1 0) ws h in (s.0, s.1, s.2, by (s.1.equal == i) refl s.3)
  where
    by : {j : ℕ} → (b : Bool) → (j == i) ≡ b → 0 < cond b 1 0 → j ≡ i
    by {j} true t h = eqb-true j i t
    by {j} false t h = absurd (omega (arith, h))

pub waits_unsettled : (equals : List (List ℕ × Expr)) (m : Numbers) (names : List (List ℕ)) (waits : Lists)
    → ((k : ℕ) (v : Vec Waiting Global) → slice_get waits k ≡ Some v → AllByRecursion (WaitsFor equals m names k) v.items) → (i : ℕ) → 0 < waits_in i waits
    → are_settled equals names (items_at equals i) ≡ false
waits_unsettled equals m names waits all i h =
    let s = sum_some (λ (v : Vec Waiting Global). times_in i v.items) waits h in
    let o = one_waits i s.1.items s.3 in
    let f = all_get (WaitsFor equals m names s.0) s.1.items o.0 o.1 (all s.0 s.1 s.2) o.2 in
    ap (λ (j : ℕ). are_settled equals names (items_at equals j)) (sym o.3) ∙ unsettled equals names (items_at equals o.1.equal) o.1.item (item.Name f.name)
    f.there f.unknown

pub below_only : (n i : ℕ) → 0 < one_below n i → i < n
below_only n i h = by (nat_lt i n) refl h
  where
    by : (b : Bool) → nat_lt i n ≡ b → 0 < cond b 1 0 → i < n
    by true t l = ltb-true i n t
    by false t l = absurd (omega (arith, l))

pub at_most_one : (n i : ℕ) → one_below n i ≤ 1
at_most_one n i = by (nat_lt i n)
  where
    by : (b : Bool) → cond b 1 0 ≤ 1
    by true = omega arith
    by false = omega arith

-- a number in a list of places brings its name
name_in : (equals : List (List ℕ × Expr)) (places : List ℕ) (i : ℕ) (e : List ℕ × Expr) → slice_get equals i ≡ Some e → is_in i places ≡ true
    → list_any (same e.0) (names_at equals places) ≡ true
name_in equals places i e at h =
    let c = cut_at i places h in
    let whole : places ≡ (c.0 ++ i ∷ []) ++ c.1 = c.2 ∙ sym (append_assoc c.0 (i ∷ []) c.1) in
    ap (λ (l : List ℕ). list_any (same e.0) (names_at equals l)) whole
    ∙ names_more equals (c.0 ++ i ∷ []) c.1 e.0 (one_more equals c.0 i e at e.0
    ∙ or_right (list_any (same e.0) (names_at equals c.0)) (same e.0 e.0) (same_refl e.0))

module _ (equals : List (List ℕ × Expr)) (m : Numbers) (known : List Bool) (waits : Lists) (places : List ℕ) (done : ℕ)
    (h : Holds equals m known waits places done []) (all : length places ≤ done) where
  names_all : known_names equals done places ≡ names_at equals places
  names_all = let n = h.made in let e : done ≡ length places = omega (arith, n, all) in
      ap (λ (k : ℕ). names_at equals (take k places)) e ∙ ap (names_at equals) (take-length places)

  -- where an expression's names are known it has its place
  has_place : (i : ℕ) → i < length equals → are_settled equals (names_at equals places) (items_at equals i) ≡ true → is_in i places ≡ true
  has_place i w s = by (is_in i places) refl
    where
      by : (b : Bool) → is_in i places ≡ b → is_in i places ≡ true
      by true e = e
      by false e =
          let a = in_it i places e in
          let b = h.once i in
          let c = one_yes (length equals) i w in
          let u = waits_unsettled equals m (known_names equals done places) waits h.waiting i (omega (arith, a, b, c)) in
          absurd (true≢false (sym s ∙ ap (λ (l : List (List ℕ)). are_settled equals l (items_at equals i)) (sym names_all) ∙ u))

  closed : IsClosed equals (names_at equals places)
  closed i e at s =
      name_in equals places i e at (has_place i (slice_get_within equals i e at) (ap (are_settled equals (names_at equals places)) (ap items_of at) ∙ s))

  within_places : (i : ℕ) → is_in i places ≡ true → i < length equals
  within_places i e = let a = times_in_it i places e in let b = h.once i in below_only (length equals) i (omega (arith, a, b))

  -- the names of the places are settled
  sound_from : (front rest : List ℕ) → places ≡ front ++ rest → AreAmong (names_at equals front) (settled equals)
      → AreAmong (names_at equals places) (settled equals)
  sound_from front [] e a = subst (λ (l : List ℕ). AreAmong (names_at equals l) (settled equals)) (sym (e ∙ append-nil front)) a
  sound_from front (i ∷ rest) e a = sound_from (front ++ i ∷ []) rest (e ∙ sym (append_assoc front (i ∷ []) rest)) (next (slice_get equals i) refl)
    where
      by_name : (e : List ℕ × Expr) → slice_get equals i ≡ Some e → (q : List ℕ) → (list_any (same q) (names_at equals front) ≡ true) ⊎ (same q e.0 ≡ true)
          → list_any (same q) (settled equals) ≡ true
      by_name d at q (inl t) = a q t
      by_name d at q (inr t) =
          ap (λ (n : List ℕ). list_any (same n) (settled equals)) (same_true q d.0 t)
          ∙ settled_is_closed equals i d at
          (items_more equals (names_at equals front) (settled equals) a d.1.items
          (ap (are_settled equals (names_at equals front)) (ap items_of (sym at)) ∙ h.behind front i rest e))

      next : (o : Option (List ℕ × Expr)) → slice_get equals i ≡ o → AreAmong (names_at equals (front ++ i ∷ [])) (settled equals)
      next None at q t = a q (sym (none_more equals front i at q) ∙ t)
      next (Some d) at q t = by_name d at q (or_either (list_any (same q) (names_at equals front)) (same q d.0) (sym (one_more equals front i d at q) ∙ t))

  sound : AreAmong (names_at equals places) (settled equals)
  sound = sound_from [] places refl (λ q t. absurd (true≢false (sym t)))

  least : AreAmong (settled equals) (names_at equals places)
  least = settled_is_least equals (names_at equals places) closed

  pub known_settled : (q : List ℕ) → is_known m known q ≡ is_settled equals q
  known_settled q =
      h.knows q ∙ ap (λ (l : List (List ℕ)). list_any (same q) l) names_all
      ∙ both (list_any (same q) (names_at equals places)) (list_any (same q) (settled equals)) (sound q) (least q)

  pub is_order : IsOrder equals places
  is_order = record {
    within = within_places;
    once = λ i. let a = h.once i in let b = at_most_one (length equals) i in omega (arith, a, b);
    whole = λ i e at. both (is_in i places) (are_settled equals (settled equals) e.1.items) (forth i e at) (back i e at);
    behind = λ front i rest e cut at. ap (are_settled equals (names_at equals front)) (ap items_of (sym at)) ∙ h.behind front i rest cut;
  }
    where
      forth : (i : ℕ) (e : List ℕ × Expr) → slice_get equals i ≡ Some e → is_in i places ≡ true → are_settled equals (settled equals) e.1.items ≡ true
      forth i e at t =
          let c = cut_at i places t in
          let s : are_settled equals (names_at equals c.0) (items_at equals i) ≡ true = h.behind c.0 i c.1 c.2 in
          let front : AreAmong (names_at equals c.0) (settled equals) =
          λ q u. sound q (ap (λ (l : List ℕ). list_any (same q) (names_at equals l)) c.2 ∙ names_more equals c.0 (i ∷ c.1) q u) in
          items_more equals (names_at equals c.0) (settled equals) front e.1.items (ap (are_settled equals (names_at equals c.0)) (ap items_of (sym at)) ∙ s)

      back : (i : ℕ) (e : List ℕ × Expr) → slice_get equals i ≡ Some e → are_settled equals (settled equals) e.1.items ≡ true → is_in i places ≡ true
      back i e at s =
          has_place i (slice_get_within equals i e at)
          (items_more equals (settled equals) (names_at equals places) least (items_at equals i)
          (ap (are_settled equals (settled equals)) (ap items_of at) ∙ s))
