-- What the calls of the search need: expressions at their numbers, and the bounds of numbers.
use Rattle.std.proofs.Common.{◌≡◌, ◌≢◌, ℕ, zero, suc, ◌+◌, ◌-◌, ◌<◌, ◌≤◌, Bool, true, false, cond, true≢false, ◌||◌, ◌==◌, length, List, [], ◌∷◌, ◌++◌, drop, map, get_or, Option, Some, None, Result, Ok, Err, refl, sym, ap, ◌∙◌, subst, arith, append_assoc}
use Rattle.std.specs.Prelude.{slice_get, OnOk, IfOk}
use Rattle.std.specs.Option.{option_map, option_or}
use Rattle.std.proofs.lemmas.Bool.{eqb-true, eq-eqb}
use Rattle.std.proofs.lemmas.List.Sums.{sum_by-cons}
use Rattle.asm_model.specs.declared.exprs.Expr.{Expr}
use Rattle.asm_model.specs.declared.exprs.ExprItem.{ExprItem}
use Rattle.asm_model.specs.declared.exprs.ExprItem.TheVariants as item
use Rattle.asm_model.specs.Forms.{same}
use Rattle.asm_names.specs.declared.equals.Equal.{Equal}
use Rattle.asm_names.specs.declared.search.Unknown.{Unknown}
use Rattle.asm_names.specs.declared.search.Waiting.{Waiting}
use Rattle.asm_names.specs.Equals.{pair_of, pairs_of}
use Rattle.asm_names.specs.Index.{Numbers, number_in, first_from, IsIndexOf, IsWithin}
use Rattle.asm_names.specs.Order.{is_in, is_settled, times}
use Rattle.asm_names.specs.Search.{Lists, is_known, if_unknown, unknown_in, unknown_at, unknown_from, items_at, starts, Holds}
use Rattle.asm_names.proofs.ListLemmas.{times_in_it}
use Rattle.asm_names.proofs.OrderLemmas.{at_most_one, below_only}

-- ---- expressions at their numbers

pub pair_there : (es : List Equal) (i : ℕ) (d : Equal) → i < length es → slice_get (pairs_of es) i ≡ Some (pair_of (get_or es i d))
pair_there [] i d h = absurd (omega (arith, h))
pair_there (e ∷ es) zero d h = refl
pair_there (e ∷ es) (suc i) d h = pair_there es i d (omega arith)

pub items_there : (es : List Equal) (i : ℕ) (d : Equal) → i < length (pairs_of es) → items_at (pairs_of es) i ≡ (get_or es i d).value.now.items
items_there [] i d h = absurd (omega (arith, h))
items_there (e ∷ es) zero d h = refl
items_there (e ∷ es) (suc i) d h = items_there es i d (omega arith)

drop_there : (es : List Equal) (i : ℕ) (d : Equal) → i < length es → drop i (pairs_of es) ≡ pair_of (get_or es i d) ∷ drop (suc i) (pairs_of es)
drop_there [] i d h = absurd (omega (arith, h))
drop_there (e ∷ es) zero d h = refl
drop_there (e ∷ es) (suc i) d h = drop_there es i d (omega arith)

index_next : (es : List Equal) (m n : Numbers) (i : ℕ) (d : Equal) → i < length es → IsIndexOf (suc i) (drop (suc i) (pairs_of es)) m
    → ((q : List ℕ) → number_in n q ≡ cond (same q (get_or es i d).name.now) (Some i) (number_in m q)) → IsIndexOf i (drop i (pairs_of es)) n
index_next es m n i d h known new q =
    new q ∙ ap (λ (o : Option ℕ). cond (same q (get_or es i d).name.now) (Some i) o) (known q)
    ∙ ap (λ (l : List (List ℕ × Expr)). first_from i l q) (sym (drop_there es i d h))

-- the expression before is noted too
pub index_back : (es : List Equal) (m n : Numbers) (i : ℕ) (d : Equal) → 0 < i → i ≤ length es → IsIndexOf i (drop i (pairs_of es)) m
    → ((q : List ℕ) → number_in n q ≡ cond (same q (get_or es (i - 1) d).name.now) (Some (i - 1)) (number_in m q))
    → IsIndexOf (i - 1) (drop (i - 1) (pairs_of es)) n
index_back es m n i d h le known new =
    let next : i ≡ suc (i - 1) = omega arith in
    index_next es m n (i - 1) d (omega arith) (subst (λ (k : ℕ). IsIndexOf k (drop k (pairs_of es)) m) next known) new

pub hand_more : (hand new all : List Waiting) (i : ℕ) → 0 < i → hand ++ starts i ≡ all → new ≡ hand ++ (record { equal = i - 1; item = 0 }) ∷ [] → new
    ++ starts (i - 1) ≡ all
hand_more hand new all i h known added =
    let next : suc (i - 1) ≡ i = omega arith in
    ap (λ (l : List Waiting). l ++ starts (i - 1)) added ∙ append_assoc hand ((record { equal = i - 1; item = 0 }) ∷ []) (starts (i - 1))
    ∙ ap (λ (k : ℕ). hand ++ starts k) next ∙ known

-- ---- bounds

pub unknown_below : (m : Numbers) (known : List Bool) (n i : ℕ) (xs : List ExprItem) (u : Unknown) → IsWithin m n → unknown_from m known i xs ≡ Some u
    → u.number < n
unknown_below m known n i [] u w h = absurd (cc)
unknown_below m known n i (x ∷ xs) u w h = by (unknown_in m known x) refl (λ e. unknown_below m known n (suc i) xs u w e) h
  where
    of_mark : (q : List ℕ) (j k : ℕ) (b : Bool) → number_in m q ≡ Some j → cond b None (Some j) ≡ Some k → k < n
    of_mark q j k true e h = absurd (cc)
    of_mark q j k false e h = let s : j ≡ k = cc in w.below q k (e ∙ ap Some s)

    of_number : (q : List ℕ) (o : Option ℕ) (k : ℕ) → number_in m q ≡ o → if_unknown known o ≡ Some k → k < n
    of_number q None k e h = absurd (cc)
    of_number q (Some j) k e h = of_mark q j k (get_or known j false) e h

    of_item : (x : ExprItem) (k : ℕ) → unknown_in m known x ≡ Some k → k < n
    of_item (item.Name q) k h = of_number q (number_in m q) k refl h
    of_item x k h = absurd (cc)

    by : (o : Option ℕ) → unknown_in m known x ≡ o → (unknown_from m known (suc i) xs ≡ Some u → u.number < n)
        → option_or (option_map (unknown_at i) o) (unknown_from m known (suc i) xs) ≡ Some u → u.number < n
    by None e rest h = rest h
    by (Some j) e rest h = let s : unknown_at i j ≡ u = cc in of_item x u.number (e ∙ ap (λ (v : Unknown). Some v.number) s)

pub ok_more : {E : Type 0} (r : Result (Unit {0}) E) (P Q : Type 0) → (P → Q) → OnOk r P → OnOk r Q
ok_more (Ok x) P Q f p = f p
ok_more (Err e) P Q f p = tt

pub if_ok_more : {X E : Type 0} → (P Q : X → Type 0) → ((x : X) → P x → Q x) → (r : Result X E) → IfOk r P → IfOk r Q
if_ok_more P Q f (Ok x) h = f x h
if_ok_more P Q f (Err e) h = tt

got_in : (is : List ℕ) (j i : ℕ) → slice_get is j ≡ Some i → is_in i is ≡ true
got_in [] j i h = absurd (cc)
got_in (k ∷ ks) zero i h = let s : k ≡ i = cc in by (k == i) (eq-eqb k i s)
  where
    by : (b : Bool) → b ≡ true → (b || is_in i ks) ≡ true
    by true e = refl
    by false e = absurd (true≢false (sym e))
got_in (k ∷ ks) (suc j) i h = by (k == i) (got_in ks j i h)
  where
    by : (b : Bool) → is_in i ks ≡ true → (b || is_in i ks) ≡ true
    by true e = refl
    by false e = e

place_in : (equals : List (List ℕ × Expr)) (m : Numbers) (known : List Bool) (waits : Lists) (places : List ℕ) (done : ℕ) (hand : List Waiting)
    → Holds equals m known waits places done hand
    → (i : ℕ) → is_in i places ≡ true → i < length equals
place_in equals m known waits places done hand h i t = let a = times_in_it i places t in let b = h.once i in below_only (length equals) i (omega (arith, a, b))

pub place_within : (equals : List (List ℕ × Expr)) (m : Numbers) (known : List Bool) (waits : Lists) (places : List ℕ) (done : ℕ) (hand : List Waiting)
    → Holds equals m known waits places done hand
    → (j i : ℕ) → slice_get places j ≡ Some i → i < length equals
place_within equals m known waits places done hand h j i at = place_in equals m known waits places done hand h i (got_in places j i at)

-- ---- there are no more places than expressions

abbrev total : (ℕ → ℕ) → ℕ → ℕ
total f zero = 0
total f (suc n) = total f n + f n

total_most : (f : ℕ → ℕ) (n : ℕ) → ((i : ℕ) → f i ≤ 1) → total f n ≤ n
total_most f zero h = omega arith
total_most f (suc n) h = let a = total_most f n h in let b = h n in omega (arith, a, b)

total_same : (f g : ℕ → ℕ) (n : ℕ) → ((i : ℕ) → f i ≡ g i) → total f n ≡ total g n
total_same f g zero h = refl
total_same f g (suc n) h = let a = total_same f g n h in let b = h n in omega (arith, a, b)

total_sum : (f g : ℕ → ℕ) (n : ℕ) → total (λ i. f i + g i) n ≡ total f n + total g n
total_sum f g zero = omega arith
total_sum f g (suc n) = let a = total_sum f g n in omega (arith, a)

abbrev one_at : ℕ → ℕ → ℕ
one_at j i = cond (j == i) 1 0

one_there : (j i : ℕ) → j ≡ i → one_at j i ≡ 1
one_there j i e = ap (λ (b : Bool). cond {A = ℕ} b 1 0) (eq-eqb j i e)

total_one : (j n : ℕ) → j < n → 1 ≤ total (one_at j) n
total_one j zero h = absurd (omega (arith, h))
total_one j (suc n) h = by (j == n) refl (λ l. total_one j n l)
  where
    by : (b : Bool) → (j == n) ≡ b → (j < n → 1 ≤ total (one_at j) n) → 1 ≤ total (one_at j) n + one_at j n
    by true t rest = let a = one_there j n (eqb-true j n t) in omega (arith, a)
    by false t rest = let ne : j ≢ n = λ e. true≢false (sym (eq-eqb j n e) ∙ t) in let a = rest (omega (arith, h, ne)) in omega (arith, a)

total_times : (n : ℕ) (places : List ℕ) → ((i : ℕ) → is_in i places ≡ true → i < n) → length places ≤ total (λ i. times i places) n
total_times n [] h = omega arith
total_times n (j ∷ js) h =
    let a = total_times n js (λ i t. h i (later i (j == i) t)) in
    let b = total_same (λ i. times i (j ∷ js)) (λ i. one_at j i + times i js) n (λ i. sum_by-cons (λ (k : ℕ). cond (k == i) 1 0) j js) in
    let c = total_sum (one_at j) (λ i. times i js) n in
    let d = total_one j n (h j (first (j == j) (eq-eqb j j refl))) in
    omega (arith, a, b, c, d)
  where
    later : (i : ℕ) (b : Bool) → is_in i js ≡ true → (b || is_in i js) ≡ true
    later i true t = refl
    later i false t = t

    first : (b : Bool) → b ≡ true → (b || is_in j js) ≡ true
    first true e = refl
    first false e = absurd (true≢false (sym e))

pub places_fit : (equals : List (List ℕ × Expr)) (m : Numbers) (known : List Bool) (waits : Lists) (places : List ℕ) (done : ℕ) (hand : List Waiting)
    → Holds equals m known waits places done hand
    → length places ≤ length equals
places_fit equals m known waits places done hand h =
    let a = total_times (length equals) places (place_in equals m known waits places done hand h) in
    let b = total_most (λ i. times i places) (length equals) (λ i. let x = h.once i in let y = at_most_one (length equals) i in omega (arith, x, y)) in
    omega (arith, a, b)

-- ---- the end

pub marks_settled : (equals : List (List ℕ × Expr)) (m : Numbers) (known : List Bool) → ((q : List ℕ) → is_known m known q ≡ is_settled equals q)
    → (es : List Equal) → map (λ (e : Equal). is_known m known e.name.now) es ≡ map (λ (e : Equal). is_settled equals e.name.now) es
marks_settled equals m known f [] = refl
marks_settled equals m known f (e ∷ es) = λ i. f e.name.now i ∷ marks_settled equals m known f es i
