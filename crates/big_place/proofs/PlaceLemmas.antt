-- Where the areas of a generated source are placed.
use Rattle.std.proofs.Common.{◌≡◌, ℕ, zero, suc, ◌+◌, ◌-◌, ◌*◌, ◌^◌, ◌<◌, ◌≤◌, ◌==◌, List, [], ◌∷◌, Bool, true, false, refl, arith, nat_lt}
use Rattle.std.specs.Prelude.{nat_le, min}
use Rattle.std.proofs.lemmas.Bool.{le-ltb, lt-ltb, ne_eqb}
use Rattle.place_model.specs.Plans.{table_words, first_from, suffices}
use Rattle.place_model.specs.Things.{AnArea, Startup, extent}
use Rattle.scatter_text.specs.Reading.{shift, flaw, last}
use Rattle.big_place.specs.Big.{big_kind, code_item, data_item, big_contents, TextIsRead, AreasAreAssigned, PlanHasNoFault}

pub text_is_read : TextIsRead
unfolding shift flaw last
text_is_read = refl

pub areas_are_assigned : AreasAreAssigned
areas_are_assigned home n name = (refl, refl)

-- ---- sizes

pub code_size : (home : List ℕ) (n words : ℕ) → extent 0 0 (AnArea (code_item home n) ∷ Startup words ∷ []) ≡ 4 * n + (180 + 4 * words)
code_size home n words = omega arith

pub data_size : (home : List ℕ) (n : ℕ) → extent 0 8388608 (AnArea (data_item home n) ∷ []) ≡ 4 * n
data_size home n = omega arith

-- ---- the table

same_first : (p q : ℕ → Bool) (n more : ℕ) → ((i : ℕ) → i < n + more → p i ≡ q i) → first_from p n more ≡ first_from q n more
same_first p q n zero h = refl
same_first p q n (suc more) h = rw (h n (omega arith), same_first p q (suc n) more (λ i l. h i (omega arith))) refl

room : (home : List ℕ) (n words : ℕ) → 1 ≤ n → n ≤ 50000 → words < 20 → suffices big_kind (big_contents home n) words ≡ nat_le 9 words
room home n words some few small =
    let load : ((0 + extent 0 0 (AnArea (code_item home n) ∷ Startup words ∷ [])) == 8388608) ≡ false =
    ne_eqb _ 8388608 (λ e. let c = code_size home n words in absurd (omega arith)) in
    let some_bytes : nat_lt 0 (extent 0 8388608 (AnArea (data_item home n) ∷ [])) ≡ true = (let d = data_size home n in lt-ltb _ _ (omega arith)) in
    rw (load, some_bytes) refl

pub table_is : (home : List ℕ) (n : ℕ) → 1 ≤ n → n ≤ 50000 → table_words big_kind (big_contents home n) ≡ 9
table_is home n some few = same_first (suffices big_kind (big_contents home n)) (λ w. nat_le 9 w) 0 16 (λ i l. room home n i some few (omega arith))

pub plan_has_no_fault : PlanHasNoFault
plan_has_no_fault home n some few =
    let root : nat_lt (2 ^ 32) (0 + (4 * n + 216) + 4 * n) ≡ false = le-ltb _ _ (omega arith) in
    let code : nat_lt (2 ^ 32) (4 * n + 216 + 0) ≡ false = le-ltb _ _ (omega arith) in
    let words : nat_lt (2 ^ 32 - 8388608) (4 * n + 0) ≡ false = le-ltb _ _ (omega arith) in
    let apart : nat_lt 8388608 (min (0 + (4 * n + 216 + 0)) (8388608 + (4 * n + 0))) ≡ false = le-ltb _ _ (omega arith) in
    let moved : ((0 + (4 * n + 216)) == 8388608) ≡ false = ne_eqb _ _ (λ e. omega arith) in
    let filled : nat_lt 0 (4 * n) ≡ true = lt-ltb _ _ (omega arith) in
    let fits : nat_lt (2 ^ 26) (0 + (4 * n + 216 + 0) + (4 * n + 0)) ≡ false = le-ltb _ _ (omega arith) in
    rw (table_is home n some few, code_size home n 9, data_size home n, root, code, words, apart, moved, filled, fits) refl
