-- The search: what holds at its start, behind each look, and when a name has become known.
use Rattle.std.proofs.Common.{◌≡◌, ◌≢◌, ℕ, zero, suc, ◌+◌, ◌<◌, ◌≤◌, Bool, true, false, cond, true≢false, ◌||◌, ◌==◌, not, length, List, [], ◌∷◌, ◌++◌, take, drop, set, replicate, Option, Some, None, refl, sym, ap, ◌∙◌, subst, inl, inr, arith, length-append, append-nil}
use Rattle.std.specs.Prelude.{◌⊎◌, slice_get, slice_index_or, nat_lt, Vec}
use Rattle.std.specs.List.{AllByRecursion, list_any}
use Rattle.std.specs.Option.{option_map}
use Rattle.std.specs.declared.alloc.Global.{Global}
use Rattle.std.proofs.lemmas.Bool.{eqb-true, eq-eqb, false_from_ne_true, lt-ltb, ltb-true, ltb-false}
use Rattle.std.proofs.lemmas.List.{length-set, get_or-set_other, get_or-set_same, length-replicate, take-append-drop, take-append-le}
use Rattle.std.proofs.lemmas.List.Sums.{sum_by-append, sum_by-cons, sum_by-set}
use Rattle.std.proofs.lemmas.List.Elements.{filter_map-append}
use Rattle.std.proofs.lemmas.List.Folds.{list_any-append}
use Rattle.std.proofs.lemmas.Option.{get_or_from_slice_get, slice_get_within}
use Rattle.asm_model.specs.declared.exprs.Expr.{Expr}
use Rattle.asm_model.specs.declared.exprs.ExprItem.TheVariants as item
use Rattle.asm_model.specs.Forms.{same}
use Rattle.asm_model.proofs.WordLemmas.{same_refl, same_true}
use Rattle.asm_model.specs.LayoutKinds.{are_settled}
use Rattle.asm_names.specs.declared.search.Waiting.{Waiting}
use Rattle.asm_names.specs.declared.search.Unknown.{Unknown}
use Rattle.asm_names.specs.Index.{Numbers, number_in, IsIndexOf}
use Rattle.asm_names.specs.Laws.{AreAmong}
use Rattle.asm_names.specs.Order.{names_at, times}
use Rattle.asm_names.specs.Search.{Lists, mark, unknown_from, items_at, IsReplaced, IsLonger, Looked, IsReached, WaitsFor, times_in, waits_in, one_below, known_names, Holds, starts, AreEmpty}
use Rattle.asm_names.proofs.IndexLemmas.{numbered_once, numbered_within}
use Rattle.asm_names.proofs.ListLemmas.{all_get, get_set, IsBefore, cut_last}
use Rattle.asm_names.proofs.LookLemmas.{Knows, all_free, next_is, settled_both, get_drop, take_more}
use Rattle.asm_names.proofs.SettledLemmas.{items_more}
use Rattle.base_lemmas.proofs.BaseLemmas.{all_append, all_back, all_front, all_weaker, true_or as or_left, or_true as or_right}

-- ---- names of more places

pub names_more : (equals : List (List ℕ × Expr)) (xs ys : List ℕ) → AreAmong (names_at equals xs) (names_at equals (xs ++ ys))
names_more equals xs ys q h =
    ap (list_any (same q)) (filter_map-append (λ i. option_map (λ (e : List ℕ × Expr). e.0) (slice_get equals i)) xs ys)
    ∙ list_any-append (same q) (names_at equals xs) (names_at equals ys) ∙ or_left (list_any (same q) (names_at equals xs))
    (list_any (same q) (names_at equals ys)) h

pub known_among : (equals : List (List ℕ × Expr)) (done : ℕ) (places : List ℕ) → AreAmong (known_names equals done places) (names_at equals places)
known_among equals done places q h =
    ap (λ (l : List ℕ). list_any (same q) (names_at equals l)) (sym (take-append-drop done places))
    ∙ names_more equals (take done places) (drop done places) q h

pub name_of_one : (equals : List (List ℕ × Expr)) (i : ℕ) (e : List ℕ × Expr) → slice_get equals i ≡ Some e → names_at equals (i ∷ []) ≡ e.0 ∷ []
name_of_one equals i e at = rw at refl

pub none_more : (equals : List (List ℕ × Expr)) (xs : List ℕ) (i : ℕ) → slice_get equals i ≡ None → (q : List ℕ)
    → list_any (same q) (names_at equals (xs ++ i ∷ [])) ≡ list_any (same q) (names_at equals xs)
none_more equals xs i at q =
    ap (list_any (same q)) (filter_map-append (λ i. option_map (λ (e : List ℕ × Expr). e.0) (slice_get equals i)) xs (i ∷ []))
    ∙ ap (λ (l : List (List ℕ)). list_any (same q) (names_at equals xs ++ l)) (no_name equals i at) ∙ ap (list_any (same q)) (append-nil (names_at equals xs))
  where
    no_name : (equals : List (List ℕ × Expr)) (i : ℕ) → slice_get equals i ≡ None → names_at equals (i ∷ []) ≡ []
    no_name equals i at = rw at refl

-- what one more name makes of a set
pub one_more : (equals : List (List ℕ × Expr)) (xs : List ℕ) (i : ℕ) (e : List ℕ × Expr) → slice_get equals i ≡ Some e → (q : List ℕ)
    → list_any (same q) (names_at equals (xs ++ i ∷ [])) ≡ (list_any (same q) (names_at equals xs) || same q e.0)
one_more equals xs i e at q =
    ap (list_any (same q)) (filter_map-append (λ i. option_map (λ (e : List ℕ × Expr). e.0) (slice_get equals i)) xs (i ∷ []))
    ∙ list_any-append (same q) (names_at equals xs) (names_at equals (i ∷ []))
    ∙ ap (λ (l : List (List ℕ)). list_any (same q) (names_at equals xs) || list_any (same q) l) (name_of_one equals i e at)
    ∙ ap (λ (b : Bool). list_any (same q) (names_at equals xs) || b) (or_false (same q e.0))
  where
    or_false : (b : Bool) → (b || false) ≡ b
    or_false true = refl
    or_false false = refl

pub take_at : {X : Type 0} (xs : List X) (i : ℕ) (x : X) → slice_get xs i ≡ Some x → take (i + 1) xs ≡ take i xs ++ x ∷ []
take_at [] i x h = absurd (cc)
take_at (y ∷ ys) zero x h = let e : y ≡ x = cc in ap (λ (z : _). z ∷ []) e
take_at (y ∷ ys) (suc i) x h = let n : suc i + 1 ≡ suc (i + 1) = omega arith in
    ap (λ (k : ℕ). take k (y ∷ ys)) n ∙ ap (λ (zs : List _). y ∷ zs) (take_at ys i x h)

-- ---- how often

pub times_more : (i : ℕ) (places : List ℕ) (j : ℕ) → times i (places ++ j ∷ []) ≡ times i places + cond (j == i) 1 0
times_more i places j = let z : 0 + cond {A = ℕ} (j == i) 1 0 ≡ cond (j == i) 1 0 = omega arith in
    sum_by-append (λ (k : ℕ). cond (k == i) 1 0) places (j ∷ []) ∙ ap (λ (n : ℕ). times i places + n) z

pub times_in_more : (i : ℕ) (ws : List Waiting) (w : Waiting) → times_in i (ws ++ w ∷ []) ≡ times_in i ws + cond (w.equal == i) 1 0
times_in_more i ws w =
    let z : 0 + cond {A = ℕ} (w.equal == i) 1 0 ≡ cond (w.equal == i) 1 0 = omega arith in
    sum_by-append (λ (v : Waiting). cond (v.equal == i) 1 0) ws (w ∷ []) ∙ ap (λ (n : ℕ). times_in i ws + n) z

pub waits_set : (i : ℕ) (waits : Lists) (k : ℕ) (old new : Vec Waiting Global) → slice_get waits k ≡ Some old → waits_in i (set waits k new)
    + times_in i old.items ≡ waits_in i waits + times_in i new.items
waits_set i waits k old new had =
    let s = sum_by-set (λ (v : Vec Waiting Global). times_in i v.items) waits k new old (slice_get_within waits k old had) in
    let g : times_in i (slice_index_or waits k old).items ≡ times_in i old.items =
    ap (λ (v : Vec Waiting Global). times_in i v.items) (get_or_from_slice_get waits k old old had) in
    omega arith

-- ---- a look

module _ (equals : List (List ℕ × Expr)) (m : Numbers) (known : List Bool) (waits : Lists) (places : List ℕ) (done : ℕ) where
  knows_of : (hand : List Waiting) → Holds equals m known waits places done hand → Knows equals m known (known_names equals done places)
  knows_of hand h = record { index = h.index; is = h.knows }

  -- it has its place
  placed : (hand : List Waiting) (w : Waiting) → Holds equals m known waits places done (hand ++ w ∷ [])
      → are_settled equals (known_names equals done places) (items_at equals w.equal) ≡ true
      → Holds equals m known waits (places ++ w.equal ∷ []) done hand
  placed hand w h settles = record {
    size = h.size;
    lists = h.lists;
    index = h.index;
    made = let a = h.made in let b = length-append places (w.equal ∷ []) in omega arith;
    knows = λ q. h.knows q ∙ ap (λ (l : List (List ℕ)). list_any (same q) l) (sym same_names);
    once = λ i. let a = h.once i in let b = times_more i places w.equal in let c = times_in_more i hand w in omega arith;
    behind = λ front i rest e. cut front i (cut_last places front w.equal i rest e);
    waiting = λ k v at. subst (λ (l : List (List ℕ)). AllByRecursion (WaitsFor equals m l k) v.items) (sym same_names) (h.waiting k v at);
    reached = subst (λ (l : List (List ℕ)). AllByRecursion (IsReached equals l) hand) (sym same_names)
        (all_front (IsReached equals (known_names equals done places)) hand (w ∷ []) h.reached);
  }
    where
      same_names : known_names equals done (places ++ w.equal ∷ []) ≡ known_names equals done places
      same_names = ap (names_at equals) (take-append-le done places (w.equal ∷ []) h.made)

      cut : (front : List ℕ) (i : ℕ) → ((front ≡ places) × (i ≡ w.equal)) ⊎ IsBefore places front i
          → are_settled equals (names_at equals front) (items_at equals i) ≡ true
      cut front i (inl e) =
          ap (λ (l : List ℕ). are_settled equals (names_at equals l) (items_at equals i)) e.0
          ∙ ap (λ (j : ℕ). are_settled equals (names_at equals places) (items_at equals j)) e.1
          ∙ items_more equals (known_names equals done places) (names_at equals places) (known_among equals done places) (items_at equals w.equal) settles
      cut front i (inr b) = h.behind front i b.behind b.is

  -- it waits for a name
  held : (hand : List Waiting) (w v : Waiting) (k : ℕ) (after : Lists) → Holds equals m known waits places done (hand ++ w ∷ []) → v.equal ≡ w.equal
      → WaitsFor equals m (known_names equals done places) k v
      → IsLonger k v waits after → Holds equals m known after places done hand
  held hand w v k after h one waits_for longer = record {
    size = h.size;
    lists = ap (λ (l : Lists). length l) longer.is ∙ length-set waits k longer.new ∙ h.lists;
    index = h.index;
    made = h.made;
    knows = h.knows;
    once = λ i.
        let a = h.once i in
        let b = times_in_more i hand w in
        let c = waits_set i waits k longer.old longer.new longer.had in
        let d : times_in i longer.new.items ≡ times_in i longer.old.items + cond {A = ℕ} (v.equal == i) 1 0 =
        ap (times_in i) longer.items ∙ times_in_more i longer.old.items v in
        let e : waits_in i after ≡ waits_in i (set waits k longer.new) = ap (waits_in i) longer.is in
        let f : cond {A = ℕ} (v.equal == i) 1 0 ≡ cond {A = ℕ} (w.equal == i) 1 0 = ap (λ (j : ℕ). cond {A = ℕ} (j == i) 1 0) one in
        omega (arith, a, b, c, d, e, f);
    behind = h.behind;
    waiting = λ j x at. list_of j x (get_set waits k j longer.new x (ap (λ (l : Lists). slice_get l j) (sym longer.is) ∙ at));
    reached = all_front (IsReached equals (known_names equals done places)) hand (w ∷ []) h.reached;
  }
    where
      list_of : (j : ℕ) (x : Vec Waiting Global) → ((j ≡ k) × (longer.new ≡ x)) ⊎ ((j ≢ k) × (slice_get waits j ≡ Some x))
          → AllByRecursion (WaitsFor equals m (known_names equals done places) j) x.items
      list_of j x (inl e) =
          subst (λ (n : ℕ). AllByRecursion (WaitsFor equals m (known_names equals done places) n) x.items) (sym e.0)
          (subst (λ (l : List Waiting). AllByRecursion (WaitsFor equals m (known_names equals done places) k) l)
          (sym longer.items ∙ ap (λ (y : Vec Waiting Global). y.items) e.1)
          (all_append (WaitsFor equals m (known_names equals done places) k) longer.old.items (v ∷ []) (h.waiting k longer.old longer.had) (waits_for, tt)))
      list_of j x (inr e) = h.waiting j x e.1

  looked_next : (hand : List Waiting) (w : Waiting) (o : Option Unknown) (after : Lists) (places_now : List ℕ)
      → Holds equals m known waits places done (hand ++ w ∷ [])
      → unknown_from m known w.item (drop w.item (items_at equals w.equal)) ≡ o → Looked o w.equal waits after places places_now
      → Holds equals m known after places_now done hand
  looked_next hand w None after places_now h e l =
      let r = all_back (IsReached equals (known_names equals done places)) hand (w ∷ []) h.reached in
      let all = all_free equals m known (known_names equals done places) (knows_of (hand ++ w ∷ []) h) w.item (drop w.item (items_at equals w.equal)) e in
      let settles = ap (are_settled equals (known_names equals done places)) (sym (take-append-drop w.item (items_at equals w.equal)))
      ∙ settled_both equals (known_names equals done places) (take w.item (items_at equals w.equal)) (drop w.item (items_at equals w.equal)) r.0.before all in
      subst (λ (l : Lists). Holds equals m known l places_now done hand) (sym l.0)
      (subst (λ (p : List ℕ). Holds equals m known waits p done hand) (sym l.1) (placed hand w h settles))
  looked_next hand w (Some u) after places_now h e l =
      let r = all_back (IsReached equals (known_names equals done places)) hand (w ∷ []) h.reached in
      let n = next_is equals m known (known_names equals done places) (knows_of (hand ++ w ∷ []) h) w.item (drop w.item (items_at equals w.equal)) u e in
      let there : slice_get (items_at equals w.equal) u.item ≡ Some (item.Name n.held.name) =
      ap (λ (j : ℕ). slice_get (items_at equals w.equal) j) n.at ∙ sym (get_drop w.item n.count (items_at equals w.equal)) ∙ n.there ∙ ap Some n.held.is in
      let within = slice_get_within (items_at equals w.equal) u.item (item.Name n.held.name) there in
      let before : are_settled equals (known_names equals done places) (take u.item (items_at equals w.equal)) ≡ true =
      ap (λ (j : ℕ). are_settled equals (known_names equals done places) (take j (items_at equals w.equal))) n.at
      ∙ ap (are_settled equals (known_names equals done places)) (take_more w.item n.count (items_at equals w.equal))
      ∙ settled_both equals (known_names equals done places) (take w.item (items_at equals w.equal)) (take n.count (drop w.item (items_at equals w.equal)))
      r.0.before n.before in
      subst (λ (p : List ℕ). Holds equals m known after p done hand) (sym l.1)
      (held hand w (record { equal = w.equal; item = u.item }) u.number after h refl
      (record {
        reached = record { can = record { within = r.0.can.within; item = omega (arith, within) }; before = before };
        name = n.held.name;
        there = there;
        numbered = n.held.numbered;
        unknown = n.held.unknown;
      }) l.0)

pub looked : (equals : List (List ℕ × Expr)) (m : Numbers) (known : List Bool) (waits after : Lists) (places places_now : List ℕ) (done : ℕ)
    (all hand : List Waiting) (w : Waiting)
    → Holds equals m known waits places done all → all ≡ hand ++ w ∷ [] → Looked (unknown_from m known w.item (drop w.item (items_at equals w.equal))) w.equal
    waits after places places_now
    → Holds equals m known after places_now done hand
looked equals m known waits after places places_now done all hand w h popped l =
    looked_next equals m known waits places done hand w (unknown_from m known w.item (drop w.item (items_at equals w.equal))) after places_now
    (subst (λ (t : List Waiting). Holds equals m known waits places done t) popped h) refl l

-- ---- a name becomes known

pub settle : (equals : List (List ℕ × Expr)) (m : Numbers) (known : List Bool) (waits after : Lists) (places : List ℕ) (done i k : ℕ) (e : List ℕ × Expr)
    (hand : List Waiting)
    → Holds equals m known waits places done [] → done < length places → slice_get places done ≡ Some i → slice_get equals i ≡ Some e → number_in m e.0 ≡ Some k
    → IsReplaced k hand waits after
    → Holds equals m (set known k true) after places (done + 1) hand
settle equals m known waits after places done i k e hand h next at there number taken = record {
  size = length-set known k true ∙ h.size;
  lists = ap (λ (l : Lists). length l) taken.is ∙ length-set waits k taken.new ∙ h.lists;
  index = h.index;
  made = omega arith;
  knows = λ q. by_number q (number_in m q) refl ∙ sym (names_now q);
  once = λ j.
      let a = h.once j in
      let b = waits_set j waits k taken.old taken.new taken.had in
      let c : times_in j taken.new.items ≡ 0 = ap (times_in j) taken.empty in
      let d : times_in j taken.old.items ≡ times_in j hand = ap (times_in j) taken.items in
      let f : waits_in j after ≡ waits_in j (set waits k taken.new) = ap (waits_in j) taken.is in
      omega arith;
  behind = h.behind;
  waiting = λ j x got. list_of j x (get_set waits k j taken.new x (ap (λ (l : Lists). slice_get l j) (sym taken.is) ∙ got));
  reached = subst (λ (l : List Waiting). AllByRecursion (IsReached equals (known_names equals (done + 1) places)) l) taken.items
      (all_weaker (WaitsFor equals m (known_names equals done places) k) (IsReached equals (known_names equals (done + 1) places))
      (λ w f. reached_more w f.reached) taken.old.items
      (h.waiting k taken.old taken.had));
}
  where
    taken_more : take (done + 1) places ≡ take done places ++ i ∷ []
    taken_more = take_at places done i at

    names_now : (q : List ℕ) → list_any (same q) (known_names equals (done + 1) places) ≡ (list_any (same q) (known_names equals done places) || same q e.0)
    names_now q = ap (λ (l : List ℕ). list_any (same q) (names_at equals l)) taken_more ∙ one_more equals (take done places) i e there q

    more : AreAmong (known_names equals done places) (known_names equals (done + 1) places)
    more q t = names_now q ∙ or_left (list_any (same q) (known_names equals done places)) (same q e.0) t

    reached_more : (w : Waiting) → IsReached equals (known_names equals done places) w → IsReached equals (known_names equals (done + 1) places) w
    reached_more w r = record {
      can = r.can;
      before = items_more equals (known_names equals done places) (known_names equals (done + 1) places) more
          (take w.item (items_at equals w.equal)) r.before;
    }

    other : (q : List ℕ) → number_in m q ≢ Some k → same q e.0 ≡ false
    other q ne = false_from_ne_true (same q e.0) (λ t. ne (ap (number_in m) (same_true q e.0 t) ∙ number))

    within : k < length known
    within = let a = (numbered_within equals m h.index).below e.0 k number in let s = h.size in omega arith

    or_no : (a b : Bool) → b ≡ false → (a || b) ≡ a
    or_no true b f = refl
    or_no false b f = f

    by_place : (q : List ℕ) (j : ℕ) (b : Bool) → (j == k) ≡ b → number_in m q ≡ Some j
        → slice_index_or (set known k true) j false ≡ (list_any (same q) (known_names equals done places) || same q e.0)
    by_place q j true t o =
        let s : j ≡ k = eqb-true j k t in
        let n : q ≡ e.0 = numbered_once equals m h.index q e.0 k (o ∙ ap Some s) number in
        ap (λ (x : ℕ). slice_index_or (set known k true) x false) s ∙ get_or-set_same known k true false within
        ∙ sym (or_right (list_any (same q) (known_names equals done places)) (same q e.0) (ap (same q) (sym n) ∙ same_refl q))
    by_place q j false t o =
        let ne : j ≢ k = λ s. true≢false (sym (eq-eqb j k s) ∙ t) in
        get_or-set_other known k j true false ne ∙ ap (mark known) (sym o) ∙ h.knows q
        ∙ sym (or_no (list_any (same q) (known_names equals done places)) (same q e.0) (other q (λ s. let x : Some j ≡ Some k = sym o ∙ s in ne (cc))))

    by_number : (q : List ℕ) (o : Option ℕ) → number_in m q ≡ o → mark (set known k true) o ≡ (list_any (same q) (known_names equals done places) || same q e.0)
    by_number q None o =
        ap (mark known) (sym o) ∙ h.knows q
        ∙ sym (or_no (list_any (same q) (known_names equals done places)) (same q e.0) (other q (λ s. let x : None ≡ Some k = sym o ∙ s in absurd (cc))))
    by_number q (Some j) o = by_place q j (j == k) refl o

    waits_more : (j : ℕ) → j ≢ k → (w : Waiting) → WaitsFor equals m (known_names equals done places) j w
        → WaitsFor equals m (known_names equals (done + 1) places) j w
    waits_more j ne w f = record {
      reached = reached_more w f.reached;
      name = f.name;
      there = f.there;
      numbered = f.numbered;
      unknown =
          ap (λ (b : Bool). not (list_any (λ (x : List ℕ × Expr). same f.name x.0) equals) || b) (names_now f.name
          ∙ or_no (list_any (same f.name) (known_names equals done places)) (same f.name e.0)
          (other f.name (λ s. let x : Some j ≡ Some k = sym f.numbered ∙ s in ne (cc))))
          ∙ f.unknown;
    }

    list_of : (j : ℕ) (x : Vec Waiting Global) → ((j ≡ k) × (taken.new ≡ x)) ⊎ ((j ≢ k) × (slice_get waits j ≡ Some x))
        → AllByRecursion (WaitsFor equals m (known_names equals (done + 1) places) j) x.items
    list_of j x (inl t) = subst (λ (l : List Waiting). AllByRecursion (WaitsFor equals m (known_names equals (done + 1) places) j) l)
        (sym taken.empty ∙ ap (λ (y : Vec Waiting Global). y.items) t.1) tt
    list_of j x (inr t) =
        all_weaker (WaitsFor equals m (known_names equals done places) j) (WaitsFor equals m (known_names equals (done + 1) places) j) (waits_more j t.0)
        x.items (h.waiting j x t.1)

-- ---- the start

pub one_yes : (n i : ℕ) → i < n → one_below n i ≡ 1
one_yes n i h = ap (λ (b : Bool). cond b 1 0) (lt-ltb i n h)

pub one_no : (n i : ℕ) → n ≤ i → one_below n i ≡ 0
one_no n i h = ap (λ (b : Bool). cond b 1 0) (false_from_ne_true (nat_lt i n) (λ t. let l = ltb-true i n t in absurd (omega (arith, l, h))))

one_suc : (n i : ℕ) → cond (n == i) 1 0 + one_below n i ≡ one_below (suc n) i
one_suc n i = by (n == i) refl
  where
    by_less : n ≢ i → (b : Bool) → nat_lt i n ≡ b → 0 + one_below n i ≡ one_below (suc n) i
    by_less ne true t =
        let l = ltb-true i n t in
        let x = one_yes n i l in
        let y = one_yes (suc n) i (omega (arith, l)) in
        omega (arith, x, y)
    by_less ne false t =
        let z : one_below n i ≡ 0 = ap (λ (b : Bool). cond b 1 0) t in
        let ge : n ≤ i = ltb-false i n t in
        let y = one_no (suc n) i (omega (arith, ge, ne)) in
        omega (arith, z, y)

    by : (b : Bool) → (n == i) ≡ b → cond b 1 0 + one_below n i ≡ one_below (suc n) i
    by true t =
        let e = eqb-true n i t in
        let x = one_no n i (omega (arith, e)) in
        let y = one_yes (suc n) i (omega (arith, e)) in
        omega (arith, x, y)
    by false t = by_less (λ e. true≢false (sym (eq-eqb n i e) ∙ t)) (nat_lt i n) refl

times_starts : (n i : ℕ) → times_in i (starts n) ≡ one_below n i
times_starts zero i = sym (one_no zero i (omega arith))
times_starts (suc n) i =
    sum_by-cons (λ (w : Waiting). cond (w.equal == i) 1 0) (record { equal = n; item = 0 }) (starts n)
    ∙ ap (λ (k : ℕ). cond (n == i) 1 0 + k) (times_starts n i) ∙ one_suc n i

reached_starts : (equals : List (List ℕ × Expr)) (names : List (List ℕ)) (n : ℕ) → n ≤ length equals → AllByRecursion (IsReached equals names) (starts n)
reached_starts equals names zero le = tt
reached_starts equals names (suc n) le =
    (record { can = record { within = omega arith; item = omega arith }; before = refl }, reached_starts equals names n (omega arith))

none_wait : (i : ℕ) (waits : Lists) → AllByRecursion (λ (v : Vec Waiting Global). v.items ≡ []) waits → waits_in i waits ≡ 0
none_wait i [] a = refl
none_wait i (v ∷ vs) a =
    let s = sum_by-cons (λ (x : Vec Waiting Global). times_in i x.items) v vs in
    let r = none_wait i vs a.1 in
    let z : times_in i v.items ≡ 0 = ap (times_in i) a.0 in
    omega arith

none_known : (n : ℕ) (o : Option ℕ) → mark (replicate n false) o ≡ false
none_known n None = refl
none_known n (Some k) = at n k
  where
    at : (n k : ℕ) → slice_index_or (replicate n false) k false ≡ false
    at zero k = refl
    at (suc n) zero = refl
    at (suc n) (suc k) = at n k

pub begun : (equals : List (List ℕ × Expr)) (m : Numbers) (known : List Bool) (waits : Lists) (places : List ℕ) (hand : List Waiting) → IsIndexOf 0 equals m
    → known ≡ replicate (length equals) false
    → AreEmpty (length equals) waits → places ≡ [] → hand ≡ starts (length equals) → Holds equals m known waits places 0 hand
begun equals m known waits places hand index none empty no_places start =
    subst (λ (l : List Bool). Holds equals m l waits places 0 hand) (sym none)
    (subst (λ (l : List ℕ). Holds equals m (replicate (length equals) false) waits l 0 hand) (sym no_places)
    (subst (λ (l : List Waiting). Holds equals m (replicate (length equals) false) waits [] 0 l) (sym start) (record {
      size = length-replicate (length equals) false;
      lists = empty.size;
      index = index;
      made = omega arith;
      knows = λ q. none_known (length equals) (number_in m q);
      once = λ i. let a = none_wait i waits empty.empty in let b = times_starts (length equals) i in omega arith;
      behind = λ front i rest e. absurd (no_cut front i rest e);
      waiting = λ k v at. subst (λ (l : List Waiting). AllByRecursion (WaitsFor equals m [] k) l)
          (sym (all_get (λ (x : Vec Waiting Global). x.items ≡ []) waits k v empty.empty at)) tt;
      reached = reached_starts equals [] (length equals) (omega arith);
    })))
  where
    no_cut : (front : List ℕ) (i : ℕ) (rest : List ℕ) → [] ≡ front ++ i ∷ rest → ⊥
    no_cut [] i rest e = absurd (cc)
    no_cut (f ∷ fs) i rest e = absurd (cc)
