-- Places of names in a list and in its index.
use Rattle.std.proofs.Common.{◌≡◌, ℕ, ◌+◌, Bool, true, false, cond, List, [], ◌∷◌, ◌++◌, length, not, Option, Some, None, refl, sym, ap, ◌∙◌, add-one}
use Rattle.std.specs.Option.{is_some}
use Rattle.std.specs.Str.{bytes_eq}
use Rattle.std.specs.Ordering.{nat_cmp}
use Rattle.std.specs.Cmp.Lexicographic.{slice_cmp}
use Rattle.std.specs.BTreeMap.{BTreeMap, UpdatesBy}
use Rattle.std.proofs.lemmas.Map.Text.{is_eq-slice_cmp}
use Rattle.std.proofs.lemmas.Slice.Eq.{bytes_eq-Decides}
use Rattle.std.proofs.lemmas.Bool.{false_from_ne_true}
use Rattle.asm_model.specs.declared.names.LaidName.{LaidName}
use Rattle.asm_model.specs.Forms.{same}
use Rattle.asm_model.specs.Meaning.{named_in}
use Rattle.asm_model.proofs.WordLemmas.{same_refl, same_true}
use Rattle.asm_expr.specs.Places.{entry, number_in, or_number, one_later, place_of, names_of, AreFirst}

-- the two tests of words
pub tests : (a b : List ℕ) → bytes_eq a b ≡ same a b
tests a b = by_test (bytes_eq a b) refl
  where
    by_test : (t : Bool) → bytes_eq a b ≡ t → bytes_eq a b ≡ same a b
    by_test true e = let h : a ≡ b = (bytes_eq-Decides a b).0 e in e ∙ sym (rw h (same_refl b))
    by_test false e = e ∙ sym (false_from_ne_true (same a b) (λ t. let h = (bytes_eq-Decides a b).1 (same_true a b t) in cc))

set_or_kept : (name q : List ℕ) (number : ℕ) (b : Bool) (o : Option ℕ) → same name q ≡ b → (b ≡ true → o ≡ None)
    → cond b (Some number) o ≡ or_number o name number q
set_or_kept name q number true None e h = rw e refl
set_or_kept name q number false None e h = rw e refl
set_or_kept name q number true (Some k) e h = absurd (let bad : Some k ≡ None = h refl in cc)
set_or_kept name q number false (Some k) e h = refl

pub noted : (m n : BTreeMap (List ℕ) ℕ) (name : List ℕ) (number : ℕ) → number_in m name ≡ None
    → UpdatesBy (slice_cmp nat_cmp) (slice_cmp nat_cmp name) m n (Some number)
    → (q : List ℕ) → number_in n q ≡ or_number (number_in m q) name number q
noted m n name number fresh updates q =
    updates.0 q ∙ rw (is_eq-slice_cmp name q, tests name q) (set_or_kept name q number (same name q) (number_in m q) refl
    (λ t. let h : name ≡ q = same_true name q t in ap (number_in m) (sym h) ∙ fresh))

-- an entry more
pub later_or : (o : Option ℕ) (name q : List ℕ) (n : ℕ) → one_later (or_number o name n q) ≡ or_number (one_later o) name (n + 1) q
later_or (Some k) name q n = refl
later_or None name q n = by_test (same name q)
  where
    by_test : (b : Bool) → one_later (cond b (Some n) None) ≡ cond b (Some (n + 1)) None
    by_test true = refl
    by_test false = refl

place_push : (q : List ℕ) (list : List LaidName) (x : LaidName) → place_of q (list ++ x ∷ []) ≡ or_number (place_of q list) x.name (length list) q
place_push q [] x = refl
place_push q (n ∷ ns) x = by_test (same n.name q) (place_push q ns x)
  where
    by_test : (b : Bool) → place_of q (ns ++ x ∷ []) ≡ or_number (place_of q ns) x.name (length ns) q
        → cond b (Some 0) (one_later (place_of q (ns ++ x ∷ []))) ≡ or_number (cond b (Some 0) (one_later (place_of q ns))) x.name (length (n ∷ ns)) q
    by_test true h = refl
    by_test false h =
        ap one_later h ∙ later_or (place_of q ns) x.name q (length ns)
        ∙ ap (λ k. or_number (one_later (place_of q ns)) x.name k q) (add-one (length ns))

-- numbers that are the places of names, behind an entry more
pub added : (old new : List ℕ → Option ℕ) (name : List ℕ) (number : ℕ) → ((q : List ℕ) → new q ≡ or_number (old q) name number q)
    → (list : List LaidName) (x : LaidName) → ((q : List ℕ) → old q ≡ place_of q list) → length list ≡ number → x.name ≡ name
    → (q : List ℕ) → new q ≡ place_of q (list ++ x ∷ [])
added old new name number more list x index at named q =
    more q ∙ ap (λ o. or_number o name number q) (index q) ∙ ap (λ k. or_number (place_of q list) name k q) (sym at)
    ∙ ap (λ w. or_number (place_of q list) w (length list) q) (sym named) ∙ sym (place_push q list x)

-- the entry at the place of a name, of names or of the first of them
pub entry_first : (name : List ℕ) (first ns : List LaidName) → AreFirst first ns → entry first (place_of name ns) ≡ named_in name first
entry_first name [] ns h = nothing (place_of name ns)
  where
    nothing : (o : Option ℕ) → entry [] o ≡ None
    nothing None = refl
    nothing (Some i) = refl
entry_first name (f ∷ fs) [] h = absurd (cc)
entry_first name (f ∷ fs) (n ∷ ns) h =
    let heads : f.name ≡ n.name = cc in
    let tails : AreFirst fs ns = cc in
    ap (λ (w : List ℕ). entry (f ∷ fs) (cond (same w name) (Some 0) (one_later (place_of name ns)))) (sym heads)
    ∙ by_test (same f.name name) (entry_first name fs ns tails)
  where
    later : (o : Option ℕ) → entry (f ∷ fs) (one_later o) ≡ entry fs o
    later None = refl
    later (Some i) = rw add-one refl

    by_test : (b : Bool) → entry fs (place_of name ns) ≡ named_in name fs → entry (f ∷ fs) (cond b (Some 0) (one_later (place_of name ns))) ≡ cond b (Some f)
        (named_in name fs)
    by_test true h = refl
    by_test false h = later (place_of name ns) ∙ h

all_first : (ns : List LaidName) → AreFirst ns ns
all_first [] = refl
all_first (n ∷ ns) = ap (λ l. n.name ∷ l) (all_first ns)

pub entry_there : (name : List ℕ) (list : List LaidName) → entry list (place_of name list) ≡ named_in name list
entry_there name list = entry_first name list list (all_first list)

place_is : (name : List ℕ) (list : List LaidName) → is_some (place_of name list) ≡ is_some (named_in name list)
place_is name [] = refl
place_is name (n ∷ ns) = by_test (same n.name name) (place_is name ns)
  where
    later : (o : Option ℕ) → is_some (one_later o) ≡ is_some o
    later None = refl
    later (Some i) = refl

    by_test : (b : Bool) → is_some (place_of name ns) ≡ is_some (named_in name ns)
        → is_some (cond b (Some 0) (one_later (place_of name ns))) ≡ is_some (cond b (Some n) (named_in name ns))
    by_test true h = refl
    by_test false h = later (place_of name ns) ∙ h

-- a name has no place where no entry has it
pub is_new : (name : List ℕ) (list : List LaidName) (o : Option ℕ) → o ≡ place_of name list → not (is_some o) ≡ not (is_some (named_in name list))
is_new name list o e = ap (λ (p : Option ℕ). not (is_some p)) e ∙ ap not (place_is name list)

-- entries of the same names stand at the same places
pub same_places : (name : List ℕ) (xs ys : List LaidName) → names_of xs ≡ names_of ys → place_of name xs ≡ place_of name ys
same_places name [] [] h = refl
same_places name [] (y ∷ ys) h = absurd (cc)
same_places name (x ∷ xs) [] h = absurd (cc)
same_places name (x ∷ xs) (y ∷ ys) h =
    let heads : x.name ≡ y.name = cc in
    let tails : names_of xs ≡ names_of ys = cc in
    ap (λ (w : List ℕ). cond (same w name) (Some 0) (one_later (place_of name xs))) heads
    ∙ ap (λ (o : Option ℕ). cond (same y.name name) (Some 0) (one_later o)) (same_places name xs ys tails)
