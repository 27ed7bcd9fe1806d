-- The least rotation that code finds is the first of the sixteen.
use Rattle.std.proofs.Common.{◌≡◌, ℕ, zero, suc, ◌+◌, ◌^◌, ◌<◌, ◌≤◌, List, [], ◌∷◌, Bool, true, false, cond, Some, None, refl, sym, ap, ◌∙◌, subst, arith, ◌⊎◌, inl, inr}
use Rattle.std.specs.Prelude.{nat_lt}
use Rattle.std.proofs.lemmas.Bool.{ltb-true, lt-ltb}
use Rattle.sdt_word.specs.Numbers.{operand, IsLeastRotation}
use Rattle.asm_model.proofs.ImmediateLemmas.{undone_0, undone_2, undone_4, undone_6, undone_8, undone_10, undone_12, undone_14, undone_16, undone_18, undone_20, undone_22, undone_24, undone_26, undone_28, undone_30}
use Rattle.source_model.specs.Immediates.{turned_back, immediate_among, immediate}

-- ---- what holds of each number from one on, for so many

abbrev up_from : ℕ → ℕ → List ℕ
up_from k zero = []
up_from k (suc n) = k ∷ up_from (suc k) n

abbrev EachFrom : (ℕ → Type 0) → ℕ → ℕ → Type 0
EachFrom P k zero = Unit {0}
EachFrom P k (suc n) = P k × EachFrom P (suc k) n

meets_next : (k r : ℕ) → k ≤ r → (k ≡ r) ⊎ (suc k ≤ r)
meets_next k r h = by_test (nat_lt k r) refl
  where
    by_test : (b : Bool) → nat_lt k r ≡ b → (k ≡ r) ⊎ (suc k ≤ r)
    by_test true e = let x : k < r = ltb-true k r e in inr (omega arith)
    by_test false e = inl (let never : k < r → ⊥ = (λ x. let y = lt-ltb k r x in cc) in omega (arith, never))

of_each : (P : ℕ → Type 0) (k n r : ℕ) → EachFrom P k n → k ≤ r → r < k + n → P r
of_each P k zero r h low high = absurd (omega arith)
of_each P k (suc n) r h low high = by_case (meets_next k r low) (λ next. of_each P (suc k) n r h.1 next (omega arith))
  where
    by_case : (k ≡ r) ⊎ (suc k ≤ r) → (suc k ≤ r → P r) → P r
    by_case (inl e) rest = subst P e h.0
    by_case (inr next) rest = rest next

-- ---- turning back

abbrev Undone : ℕ → Type 0
Undone r = (n : ℕ) → n < 2 ^ 32 → operand r (turned_back n r) ≡ n

undone : (r : ℕ) → r < 16 → Undone r
undone r h =
    of_each Undone 0 16 r
    ((
      undone_0,
      (
        undone_30,
        (
          undone_28,
          (
            undone_26,
            (
              undone_24,
              (
                undone_22,
                (undone_20, (undone_18, (undone_16, (undone_14, (undone_12, (undone_10, (undone_8, (undone_6, (undone_4, (undone_2, tt)))))))))),
              ),
            ),
          ),
        ),
      ),
    ))
    (omega arith) (omega arith)

abbrev Back : ℕ → Type 0
Back r = (byte : ℕ) → byte < 256 → turned_back (operand r byte) r ≡ byte

back_0 : Back 0
back_0 byte h = omega arith

back_1 : Back 1
back_1 byte h = omega arith

back_2 : Back 2
back_2 byte h = omega arith

back_3 : Back 3
back_3 byte h = omega arith

back_4 : Back 4
back_4 byte h = omega arith

back_5 : Back 5
back_5 byte h = omega arith

back_6 : Back 6
back_6 byte h = omega arith

back_7 : Back 7
back_7 byte h = omega arith

back_8 : Back 8
back_8 byte h = omega arith

back_9 : Back 9
back_9 byte h = omega arith

back_10 : Back 10
back_10 byte h = omega arith

back_11 : Back 11
back_11 byte h = omega arith

back_12 : Back 12
back_12 byte h = omega arith

back_13 : Back 13
back_13 byte h = omega arith

back_14 : Back 14
back_14 byte h = omega arith

back_15 : Back 15
back_15 byte h = omega arith

back : (r : ℕ) → r < 16 → Back r
back r h =
    of_each Back 0 16 r
    ((
      back_0,
      (
        back_1,
        (
          back_2,
          (
            back_3,
            (
              back_4,
              (
                back_5,
                (
                  back_6,
                  (
                    back_7,
                    (back_8, (back_9, (back_10, (back_11, (back_12, (back_13, (back_14, (back_15, tt)))))))),
                  ),
                ),
              ),
            ),
          ),
        ),
      ),
    ))
    (omega arith) (omega arith)

-- ---- the first of the rotations

first_from : (n r byte k count : ℕ) → k ≤ r → r < k + count → ((s : ℕ) → s < r → nat_lt (turned_back n s) 256 ≡ false)
    → turned_back n r ≡ byte → nat_lt byte 256 ≡ true → immediate_among (up_from k count) n ≡ Some (r, byte)
first_from n r byte k zero low high before here fits = absurd (omega arith)
first_from n r byte k (suc count) low high before here fits =
    by_case (meets_next k r low) (λ next. first_from n r byte (suc k) count next (omega arith) before here fits)
  where
    by_case : (k ≡ r) ⊎ (suc k ≤ r) → (suc k ≤ r → immediate_among (up_from (suc k) count) n ≡ Some (r, byte))
        → immediate_among (up_from k (suc count)) n ≡ Some (r, byte)
    by_case (inl e) rest =
        let there : turned_back n k ≡ byte = ap (turned_back n) e ∙ here in
        ap (λ b. cond b (Some (k, turned_back n k)) (immediate_among (up_from (suc k) count) n)) (ap (λ t. nat_lt t 256) there ∙ fits)
        ∙ ap (λ t. Some (k, t)) there ∙ ap (λ t. Some (t, byte)) e
    by_case (inr next) rest =
        ap (λ b. cond b (Some (k, turned_back n k)) (immediate_among (up_from (suc k) count) n)) (before k (omega arith)) ∙ rest next

none_from : (n k count : ℕ) → ((s : ℕ) → s < k + count → nat_lt (turned_back n s) 256 ≡ false) → immediate_among (up_from k count) n ≡ None
none_from n k zero h = refl
none_from n k (suc count) h =
    ap (λ b. cond b (Some (k, turned_back n k)) (immediate_among (up_from (suc k) count) n)) (h k (omega arith))
    ∙ none_from n (suc k) count (λ s l. h s (omega arith))

not_below : (n s : ℕ) → (nat_lt (turned_back n s) 256 ≡ true → ⊥) → nat_lt (turned_back n s) 256 ≡ false
not_below n s never = by_test (nat_lt (turned_back n s) 256) refl
  where
    by_test : (b : Bool) → nat_lt (turned_back n s) 256 ≡ b → nat_lt (turned_back n s) 256 ≡ false
    by_test true e = absurd (never e)
    by_test false e = e

pub least_rotation : (n r byte : ℕ) → n < 2 ^ 32 → IsLeastRotation n r byte → immediate n ≡ Some (r, byte)
unfolding immediate
least_rotation n r byte word h =
    let low : r < 16 = h.rotation in
    first_from n r byte 0 16 (omega arith) (omega arith)
    (λ s l.
    not_below n s (λ t.
    let there = h.least s (turned_back n s) (omega arith) (ltb-true (turned_back n s) 256 t) (undone s (omega arith) n word) in
    omega arith))
    (ap (λ v. turned_back v r) (sym h.value) ∙ back r low byte h.is_byte)
    (lt-ltb byte 256 h.is_byte)

pub no_rotation : (n : ℕ) → n < 2 ^ 32 → ((r byte : ℕ) → r < 16 → byte < 256 → operand r byte ≡ n → ⊥) → immediate n ≡ None
unfolding immediate
no_rotation n word h =
    none_from n 0 16 (λ s l.
    not_below n s (λ t. h s (turned_back n s) (omega arith) (ltb-true (turned_back n s) 256 t) (undone s (omega arith) n word)))
