-- Keys of maps and sets are told apart as names are.
use Rattle.std.proofs.Common.{◌≡◌, ℕ, ◌+◌, Bool, true, false, cond, List, [], ◌∷◌, ◌++◌, ◌||◌, length, None, Some, refl, sym, ap, ◌∙◌, map, arith, suc}
use Rattle.std.specs.Prelude.{nat_eq, nat_lt, if◌then◌else◌}
use Rattle.std.specs.Borrow.{Bor}
use Rattle.std.specs.Cmp.Lexicographic.{pointwise}
use Rattle.std.specs.List.{list_any, position, position_or_len}
use Rattle.std.specs.Map.{lookup}
use Rattle.std.proofs.lemmas.List.Folds.{list_any-append}
use Rattle.std.proofs.lemmas.List.Recursion.{is_position_or_len}
use Rattle.asm_model.specs.Before.{place_of, with_name}
use Rattle.asm_model.specs.Forms.{same}
use Rattle.asm_model.proofs.SharedLemmas.{same_back, tests}
use Rattle.asm_model.proofs.WordLemmas.{same_true}
use Rattle.asm_sets.specs.Sets.{HaveSame, found_in, number_among}
use Rattle.base_lemmas.proofs.BaseLemmas.{or_cond}
use Rattle.indexmap.specs.IndexMap.{IndexMap, insert_entry}
use Rattle.indexmap.specs.IndexSet.{insert_key}
use Rattle.indexmap.proofs.CallerLemmas.{insert_entry-new}

is_same : pointwise nat_eq ≡ same
is_same = λ i a b. (tests a b ∙ same_back b a) i

pub among : (q : List ℕ) (names : List (List ℕ)) → list_any (pointwise nat_eq q) names ≡ list_any (same q) names
among q names = ap (λ (t : List ℕ → List ℕ → Bool). list_any (t q) names) is_same

pub added : (old new : List (List ℕ)) (name copy : List ℕ) → copy ≡ name → new ≡ insert_key (pointwise nat_eq) old copy → new ≡ with_name (Some name) old
added old new name copy e h =
    h ∙ ap (λ (t : List ℕ → List ℕ → Bool). if list_any (t copy) old then old else old ++ copy ∷ []) is_same
    ∙ ap (λ (n : List ℕ). with_name (Some n) old) e

placed : (q : List ℕ) (names : List (List ℕ)) → place_of q names ≡ position_or_len (same q) names
placed q = is_position_or_len (place_of q) (same q) refl (λ m ms. by (same q m) (place_of q ms))
  where
    by : (b : Bool) (n : ℕ) → cond b 0 (n + 1) ≡ cond b 0 (1 + n)
    by true n = refl
    by false n = omega arith

within : (q : List ℕ) (names : List (List ℕ)) → nat_lt (place_of q names) (length names) ≡ list_any (same q) names
within q [] = refl
within q (m ∷ ms) = by (same q m) (within q ms)
  where
    later : (k n : ℕ) → nat_lt (k + 1) (suc n) ≡ nat_lt k n
    later k n = grind arith

    by : (b : Bool) → nat_lt (place_of q ms) (length ms) ≡ list_any (same q) ms → nat_lt (cond b 0 (place_of q ms + 1)) (length (m ∷ ms)) ≡ b
        || list_any (same q) ms
    by true h = grind arith
    by false h = later (place_of q ms) (length ms) ∙ h

pub numbered : (q : List ℕ) (names : List (List ℕ)) → position (pointwise nat_eq q) names ≡ number_among q names
numbered q names =
    ap (λ (t : List ℕ → List ℕ → Bool). position (t q) names) is_same ∙ rw (← placed q names, within q names) refl

pub with_one : (name : List ℕ) (names : List (List ℕ)) → HaveSame (with_name (Some name) names) (name ∷ names)
with_one name names q = by (list_any (same name) names) refl
  where
    by : (b : Bool) → list_any (same name) names ≡ b → list_any (same q) (if b then names else names ++ name ∷ []) ≡ (same q name || list_any (same q) names)
    by true e = by_test (same q name) refl
      where
        by_test : (t : Bool) → same q name ≡ t → list_any (same q) names ≡ (t || list_any (same q) names)
        by_test true h = let is : q ≡ name = same_true q name h in ap (λ (n : List ℕ). list_any (same n) names) is ∙ e
        by_test false h = refl
    by false e = list_any-append (same q) names (name ∷ []) ∙ either (list_any (same q) names) (same q name)
      where
        either : (a b : Bool) → a || (b || false) ≡ b || a
        either true true = refl
        either true false = refl
        either false true = refl
        either false false = refl

pub among_shown : (q : List ℕ) (keys : List (Bor (List ℕ))) → list_any (λ (k : Bor (List ℕ)). pointwise nat_eq q k.now) keys ≡ list_any (same q)
    (map (λ (k : Bor (List ℕ)). k.now) keys)
among_shown q [] = refl
among_shown q (k ∷ ks) =
    rw (among_shown q ks) (ap (λ (t : List ℕ → List ℕ → Bool). t q k.now || list_any (same q) (map (λ (x : Bor (List ℕ)). x.now) ks)) is_same)

pub ref_added : (old new : List (Bor (List ℕ))) (name : List ℕ)
    → ((q : List ℕ) → list_any (λ (k : Bor (List ℕ)). pointwise nat_eq q k.now) new
    ≡ cond (pointwise nat_eq name q) true (list_any (λ (k : Bor (List ℕ)). pointwise nat_eq q k.now) old))
    → HaveSame (map (λ (k : Bor (List ℕ)). k.now) new) (name ∷ map (λ (k : Bor (List ℕ)). k.now) old)
ref_added old new name h q =
    sym (among_shown q new) ∙ h q ∙ rw (among_shown q old, tests name q) (or_cond (same q name) (list_any (same q) (map (λ (k : Bor (List ℕ)). k.now) old)))

pub found : {V : Type 0} → (q : List ℕ) (es : List (List ℕ × V)) → lookup (pointwise nat_eq q) es ≡ found_in q es
found q es = ap (λ (t : List ℕ → Bool). lookup t es) (λ i k. tests q k i)

pub entry_added : {V S : Type 0} (m : IndexMap (List ℕ) V S) (name copy : List ℕ) (v : V) (new : List (List ℕ × V)) → copy ≡ name
    → found_in name m.entries ≡ None
    → new ≡ insert_entry (pointwise nat_eq) m.entries copy v → new ≡ m.entries ++ (name, v) ∷ []
entry_added m name copy v new e fresh h =
    h ∙ ap (λ (n : List ℕ). insert_entry (pointwise nat_eq) m.entries n v) e ∙ insert_entry-new (pointwise nat_eq) m name v (found name m.entries ∙ fresh)

pub found_more : {V : Type 0} → (old new : List (List ℕ × V)) (name copy : List ℕ) (v : V) → copy ≡ name
    → ((q : List ℕ) → lookup (pointwise nat_eq q) new ≡ cond (pointwise nat_eq copy q) (Some v) (lookup (pointwise nat_eq q) old))
    → (q : List ℕ) → found_in q new ≡ (if same q name then Some v else found_in q old)
found_more old new name copy v e h q = sym (found q new) ∙ h q ∙ rw (e, tests name q, found q old) refl
