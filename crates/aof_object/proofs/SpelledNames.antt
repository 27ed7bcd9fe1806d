-- What is spelled is read: names in the string table, rows, and areas behind one another.
use Rattle.std.proofs.Common.{◌≡◌, ◌≢◌, ℕ, zero, suc, ◌+◌, ◌*◌, ◌≤◌, ◌<◌, Bool, true, false, cond, List, [], ◌∷◌, ◌++◌, length, take, drop, map, Option, Some, refl, sym, ap, subst, ◌∙◌, append_assoc, arith, slice_get}
use Rattle.std.specs.Prelude.{◌||◌, unwrap_or}
use Rattle.std.specs.List.{flat_map, AllByRecursion}
use Rattle.std.specs.Str.{bytes_eq}
use Rattle.std.proofs.lemmas.List.{length-append, drop_at}
use Rattle.std.proofs.lemmas.Bool.{false_from_ne_true}
use Rattle.std.proofs.lemmas.Slice.Eq.{bytes_eq-Decides}
use Rattle.chunk_file.specs.Reading.{EachStands}
use Rattle.aof_object.specs.Names.{IsText, IsNameAt, among, Lacks, number_from}
use Rattle.aof_object.specs.Spelling.{gathered, ended, strings_of, spot_from, place}
use Rattle.base_lemmas.proofs.BaseLemmas.{true_or as or_left, or_true}

-- ---- names that were gathered

same_text : (q : List ℕ) → bytes_eq q q ≡ true
same_text q = (bytes_eq-Decides q q).1 refl

among-front : (q : List ℕ) (xs ys : List (List ℕ)) → among q xs ≡ true → among q (xs ++ ys) ≡ true
among-front q [] ys h = absurd cc
among-front q (x ∷ xs) ys h = split (bytes_eq x q) (among q xs) (among q (xs ++ ys)) h (among-front q xs ys)
  where
    split : (a b c : Bool) → (a || b) ≡ true → (b ≡ true → c ≡ true) → (a || c) ≡ true
    split true b c h k = refl
    split false b c h k = k h

among-back : (q : List ℕ) (xs ys : List (List ℕ)) → among q ys ≡ true → among q (xs ++ ys) ≡ true
among-back q [] ys h = h
among-back q (x ∷ xs) ys h = or_true (bytes_eq x q) (among q (xs ++ ys)) (among-back q xs ys h)

among-last : (xs : List (List ℕ)) (x : List ℕ) → among x (xs ++ x ∷ []) ≡ true
among-last xs x = among-back x xs (x ∷ []) (or_left (bytes_eq x x) false (same_text x))

gathered-keeps : (q : List ℕ) (before ns : List (List ℕ)) → among q before ≡ true → among q (gathered before ns) ≡ true
gathered-keeps q before [] h = h
gathered-keeps q before (n ∷ ns) h = gathered-keeps q (cond (among n before) before (before ++ n ∷ [])) ns (by (among n before))
  where
    by : (b : Bool) → among q (cond b before (before ++ n ∷ [])) ≡ true
    by true = h
    by false = among-front q before (n ∷ []) h

-- the name that is looked at is in what follows
own : (before : List (List ℕ)) (n : List ℕ) (b : Bool) → among n before ≡ b → among n (cond b before (before ++ n ∷ [])) ≡ true
own before n true e = e
own before n false e = among-last before n

pub gathered-has : (q : List ℕ) (before ns : List (List ℕ)) → among q ns ≡ true → among q (gathered before ns) ≡ true
gathered-has q before [] h = absurd cc
gathered-has q before (n ∷ ns) h = by (bytes_eq n q) refl h (gathered-has q (cond (among n before) before (before ++ n ∷ [])) ns)
  where
    by : (b : Bool) → bytes_eq n q ≡ b → (b || among q ns) ≡ true → (among q ns ≡ true → among q (gathered before (n ∷ ns)) ≡ true) → among q (gathered before (n ∷ ns)) ≡ true
    by true e k later =
        let same : n ≡ q = (bytes_eq-Decides n q).0 e in
        subst (λ (x : List ℕ). among x (gathered before (n ∷ ns)) ≡ true) same (gathered-keeps n (cond (among n before) before (before ++ n ∷ [])) ns (own before n (among n before) refl))
    by false e k later = later k

pub all_among : (pre ns : List (List ℕ)) → AllByRecursion (λ q. among q (pre ++ ns) ≡ true) ns
all_among pre [] = tt
all_among pre (n ∷ ns) = (
  among-back n pre (n ∷ ns) (or_left (bytes_eq n n) (among n ns) (same_text n)),
  subst (λ (xs : List (List ℕ)). AllByRecursion (λ q. among q xs ≡ true) ns) (append_assoc pre (n ∷ []) ns) (all_among (pre ++ n ∷ []) ns),
)

pub among-in-front : (q : List ℕ) (xs ys : List (List ℕ)) → among q xs ≡ true → among q (xs ++ ys) ≡ true
among-in-front q xs ys h = among-front q xs ys h

pub all_mapped : {A B : Type 0} (f : A → B) (P : B → Type 0) (xs : List A) → AllByRecursion P (map f xs) → AllByRecursion (λ x. P (f x)) xs
all_mapped f P [] h = tt
all_mapped f P (x ∷ xs) h = (h.0, all_mapped f P xs h.1)

-- ---- a name stands at its place

pub record Stands (file : List ℕ) (at : ℕ) (q : List ℕ) (ns : List (List ℕ)) : Type 0 where
  pub spot : ℕ
  pub found : spot_from at q ns ≡ Some spot
  pub not_before : at ≤ spot
  pub rest : List ℕ
  pub there : drop spot file ≡ q ++ (0 ∷ rest)
  pub room : spot < length file

pub stands_at : (file : List ℕ) (at : ℕ) (q : List ℕ) (front : List ℕ) (ns : List (List ℕ)) → among q ns ≡ true → file ≡ front ++ flat_map ended ns → length front ≡ at → Stands file at q ns
stands_at file at q front [] h parts len = absurd cc
stands_at file at q front (n ∷ ns) h parts len = by (bytes_eq n q) refl h (λ k p l. stands_at file (at + (length n + 1)) q (front ++ ended n) ns k p l)
  where
    by : (b : Bool) → bytes_eq n q ≡ b → (b || among q ns) ≡ true
        → (among q ns ≡ true → file ≡ (front ++ ended n) ++ flat_map ended ns → length (front ++ ended n) ≡ at + (length n + 1) → Stands file (at + (length n + 1)) q ns) → Stands file at q (n ∷ ns)
    by true e k later =
        let others : List ℕ = flat_map ended ns in
        let same : n ≡ q = (bytes_eq-Decides n q).0 e in
        let inner : ended n ++ others ≡ n ++ (0 ∷ others) = append_assoc n (0 ∷ []) others in
        let here : drop at file ≡ n ++ (0 ∷ others) = ap (drop at) parts ∙ drop_at front (ended n ++ others) at len ∙ inner in
        let long : length file ≡ length front + length (ended n ++ others) = ap (λ (x : List ℕ). length x) parts ∙ length-append front (ended n ++ others) in
        let more = length-append n (0 ∷ others) in
        record {
          spot = at;
          found = rw e refl;
          not_before = omega arith;
          rest = others;
          there = here ∙ ap (λ (x : List ℕ). x ++ (0 ∷ others)) same;
          room = omega (arith, long, more, len, ap (λ (x : List ℕ). length x) inner);
        }
    by false e k later =
        let others : List ℕ = flat_map ended ns in
        let next : length (front ++ ended n) ≡ at + (length n + 1) = omega (arith, length-append front (ended n), length-append n (0 ∷ []), len) in
        let r = later k (parts ∙ sym (append_assoc front (ended n) others)) next in
        let nb = r.not_before in
        record { spot = r.spot; found = rw e r.found; not_before = omega arith; rest = r.rest; there = r.there; room = r.room }

-- a name of the table, with its place below the end of the file
pub record Placed (ns : List (List ℕ)) (q : List ℕ) : Type 0 where
  pub stands : IsNameAt (strings_of ns) (place ns q) q
  pub below : place ns q < length (strings_of ns)

pub placed : (ns : List (List ℕ)) (q : List ℕ) → among q ns ≡ true → IsText q → Placed ns q
placed ns q h text =
    let file : List ℕ = strings_of ns in
    let s = stands_at file 4 q (take 4 file) ns h refl refl in
    let is : place ns q ≡ s.spot = ap (λ (o : Option ℕ). unwrap_or o 0) s.found in
    let after = s.not_before in
    let there : drop (place ns q) file ≡ q ++ (0 ∷ s.rest) = ap (λ (k : ℕ). drop k file) is ∙ s.there in
    record { stands = record { after_length = omega (arith, is, after); is_text = text; stands = (s.rest, there) }; below = omega (arith, is, s.room) }

-- ---- the number of a name among names that differ

lacks_front : (xs : List (List ℕ)) (y q : List ℕ) → Lacks (xs ++ y ∷ []) q → Lacks xs q × (y ≢ q)
lacks_front [] y q h = (tt, h.0)
lacks_front (x ∷ xs) y q h = let r = lacks_front xs y q h.1 in ((h.0, r.0), r.1)

later_lacks : (before ns : List (List ℕ)) (k : ℕ) (q : List ℕ) → EachStands (λ b n. Lacks b n) before ns → slice_get ns k ≡ Some q → Lacks before q
later_lacks before [] k q h e = absurd cc
later_lacks before (n ∷ ns) zero q h e = let same : n ≡ q = cc in subst (λ (x : List ℕ). Lacks before x) same h.0
later_lacks before (n ∷ ns) (suc k) q h e = (lacks_front before n q (later_lacks (before ++ n ∷ []) ns k q h.1 e)).0

pub numbered_from : (i : ℕ) (before ns : List (List ℕ)) (k : ℕ) (q : List ℕ) → EachStands (λ b n. Lacks b n) before ns → slice_get ns k ≡ Some q → number_from i q ns ≡ Some (i + k)
numbered_from i before [] k q h e = absurd cc
numbered_from i before (n ∷ ns) zero q h e =
    let same : n ≡ q = cc in
    let t : bytes_eq n q ≡ true = (bytes_eq-Decides n q).1 same in
    rw t (let z : i ≡ i + 0 = omega arith in ap (λ (m : ℕ). Some m) z)
numbered_from i before (n ∷ ns) (suc k) q h e =
    let apart : n ≢ q = (lacks_front before n q (later_lacks (before ++ n ∷ []) ns k q h.1 e)).1 in
    let t : bytes_eq n q ≡ false = false_from_ne_true (bytes_eq n q) (λ t. apart ((bytes_eq-Decides n q).0 t)) in
    rw t (numbered_from (suc i) (before ++ n ∷ []) ns k q h.1 e ∙ (let z : suc i + k ≡ i + suc k = omega arith in ap (λ (m : ℕ). Some m) z))

-- ---- rows of one length

module _ {A : Type 0} (file : List ℕ) (f : A → List ℕ) (r : ℕ) (at : ℕ → ℕ) (next : (n : ℕ) → at (n + 1) ≡ at n + r) (P : List ℕ → A → Type 0) (Q : A → Type 0)
    (long : (x : A) → length (f x) ≡ r) (each : (x : A) (rest : List ℕ) → Q x → P (f x ++ rest) x) where
  pub rows_stand : (before xs : List A) (front tail : List ℕ) → AllByRecursion Q xs → file ≡ front ++ (flat_map f xs ++ tail) → length front ≡ at (length before)
      → EachStands (λ b x. P (drop (at (length b)) file) x) before xs
  rows_stand before [] front tail all parts len = tt
  rows_stand before (x ∷ xs) front tail all parts len =
      let others : List ℕ = flat_map f xs in
      let inner : file ≡ front ++ (f x ++ (others ++ tail)) = parts ∙ ap (λ (y : List ℕ). front ++ y) (append_assoc (f x) others tail) in
      let here : drop (at (length before)) file ≡ f x ++ (others ++ tail) = ap (drop (at (length before))) inner ∙ drop_at front (f x ++ (others ++ tail)) (at (length before)) len in
      let more : length (before ++ x ∷ []) ≡ length before + 1 = length-append before (x ∷ []) in
      let behind : length (front ++ f x) ≡ at (length (before ++ x ∷ [])) =
      length-append front (f x) ∙ ap (λ (k : ℕ). k + length (f x)) len ∙ ap (λ (k : ℕ). at (length before) + k) (long x) ∙ sym (next (length before)) ∙ sym (ap at more) in (
        subst (λ (row : List ℕ). P row x) (sym here) (each x (others ++ tail) all.0),
        rows_stand (before ++ x ∷ []) xs (front ++ f x) tail all.1 (inner ∙ sym (append_assoc front (f x) (others ++ tail))) behind,
      )

pub length-rows : {A : Type 0} (f : A → List ℕ) (r : ℕ) (long : (x : A) → length (f x) ≡ r) (xs : List A) → length (flat_map f xs) ≡ r * length xs
length-rows f r long [] = omega arith
length-rows f r long (x ∷ xs) =
    let rest = length-rows f r long xs in
    let a = length-append (f x) (flat_map f xs) in
    let l = long x in
    omega (arith, a, rest, l)
