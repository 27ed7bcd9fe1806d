-- The numbers that MOV encodes.
use Rattle.std.proofs.Common.{◌≡◌, ℕ, zero, suc, ◌^◌, ◌<◌, ◌||◌, List, [], ◌∷◌, Bool, true, false, refl, arith}
use Rattle.std.specs.Prelude.{nat_lt}
use Rattle.std.specs.List.{list_any}
use Rattle.std.proofs.lemmas.Bool.{ltb-true, lt-ltb}
use Rattle.sdt_word.specs.Numbers.{rotated, operand}
use Rattle.asm_model.specs.Extents.{even_places, is_immediate}
use Rattle.asm_model.specs.Immediates.{HasRotation}

abbrev Each : (ℕ → Type 0) → List ℕ → Type 0
Each P [] = Unit {0}
Each P (x ∷ xs) = P x × Each P xs

-- one of the list passes the test, and has what each has
pub found : (p : ℕ → Bool) (P : ℕ → Type 0) (xs : List ℕ) → Each P xs → list_any p xs ≡ true → (x : ℕ) × P x × (p x ≡ true)
found p P [] h e = absurd (cc)
found p P (x ∷ xs) h e = by_test (p x) refl e (found p P xs h.1)
  where
    by_test : (b : Bool) → p x ≡ b → (b || list_any p xs) ≡ true → (list_any p xs ≡ true → (y : ℕ) × P y × (p y ≡ true)) → (y : ℕ) × P y × (p y ≡ true)
    by_test true s k rest = (x, h.0, s)
    by_test false s k rest = rest k

-- a rotation that undoes another
abbrev Undone : ℕ → Type 0
Undone k = (r : ℕ) × (r < 16) × ((n : ℕ) → n < 2 ^ 32 → operand r (rotated n k) ≡ n)

pub undone_0 : (n : ℕ) → n < 2 ^ 32 → operand 0 (rotated n 0) ≡ n
undone_0 n h = omega arith

pub undone_2 : (n : ℕ) → n < 2 ^ 32 → operand 15 (rotated n 2) ≡ n
undone_2 n h = omega arith

pub undone_4 : (n : ℕ) → n < 2 ^ 32 → operand 14 (rotated n 4) ≡ n
undone_4 n h = omega arith

pub undone_6 : (n : ℕ) → n < 2 ^ 32 → operand 13 (rotated n 6) ≡ n
undone_6 n h = omega arith

pub undone_8 : (n : ℕ) → n < 2 ^ 32 → operand 12 (rotated n 8) ≡ n
undone_8 n h = omega arith

pub undone_10 : (n : ℕ) → n < 2 ^ 32 → operand 11 (rotated n 10) ≡ n
undone_10 n h = omega arith

pub undone_12 : (n : ℕ) → n < 2 ^ 32 → operand 10 (rotated n 12) ≡ n
undone_12 n h = omega arith

pub undone_14 : (n : ℕ) → n < 2 ^ 32 → operand 9 (rotated n 14) ≡ n
undone_14 n h = omega arith

pub undone_16 : (n : ℕ) → n < 2 ^ 32 → operand 8 (rotated n 16) ≡ n
undone_16 n h = omega arith

pub undone_18 : (n : ℕ) → n < 2 ^ 32 → operand 7 (rotated n 18) ≡ n
undone_18 n h = omega arith

pub undone_20 : (n : ℕ) → n < 2 ^ 32 → operand 6 (rotated n 20) ≡ n
undone_20 n h = omega arith

pub undone_22 : (n : ℕ) → n < 2 ^ 32 → operand 5 (rotated n 22) ≡ n
undone_22 n h = omega arith

pub undone_24 : (n : ℕ) → n < 2 ^ 32 → operand 4 (rotated n 24) ≡ n
undone_24 n h = omega arith

pub undone_26 : (n : ℕ) → n < 2 ^ 32 → operand 3 (rotated n 26) ≡ n
undone_26 n h = omega arith

pub undone_28 : (n : ℕ) → n < 2 ^ 32 → operand 2 (rotated n 28) ≡ n
undone_28 n h = omega arith

pub undone_30 : (n : ℕ) → n < 2 ^ 32 → operand 1 (rotated n 30) ≡ n
undone_30 n h = omega arith

pub each_undone : Each Undone even_places
each_undone = (
  (0, omega arith, undone_0),
  (
    (15, omega arith, undone_2),
    (
      (14, omega arith, undone_4),
      (
        (13, omega arith, undone_6),
        (
          (12, omega arith, undone_8),
          (
            (11, omega arith, undone_10),
            (
              (10, omega arith, undone_12),
              (
                (9, omega arith, undone_14),
                (
                  (8, omega arith, undone_16),
                  (
                    (7, omega arith, undone_18),
                    (
                      (6, omega arith, undone_20),
                      (
                        (5, omega arith, undone_22),
                        ((4, omega arith, undone_24), ((3, omega arith, undone_26), ((2, omega arith, undone_28), ((1, omega arith, undone_30), tt)))),
                      ),
                    ),
                  ),
                ),
              ),
            ),
          ),
        ),
      ),
    ),
  ),
)

pub immediates_have_rotations : (n : ℕ) → n < 2 ^ 32 → is_immediate n ≡ true → HasRotation n
immediates_have_rotations n h e =
    let f = found (λ k. nat_lt (rotated n k) 256) Undone even_places each_undone e in
    (f.1.0, rotated n f.0, f.1.1, ltb-true (rotated n f.0) 256 f.2, f.1.2 n h)

pub passed : (b c : Bool) → c ≡ true → (b || c) ≡ true
passed true c h = refl
passed false c h = h

pub here : (b c : Bool) → b ≡ true → (b || c) ≡ true
here true c h = refl
here false c h = absurd (cc)

pub back_0 : (byte : ℕ) → byte < 256 → rotated (operand 0 byte) 0 < 256
back_0 byte h = omega arith

pub back_1 : (byte : ℕ) → byte < 256 → rotated (operand 1 byte) 30 < 256
back_1 byte h = omega arith

pub back_2 : (byte : ℕ) → byte < 256 → rotated (operand 2 byte) 28 < 256
back_2 byte h = omega arith

pub back_3 : (byte : ℕ) → byte < 256 → rotated (operand 3 byte) 26 < 256
back_3 byte h = omega arith

pub back_4 : (byte : ℕ) → byte < 256 → rotated (operand 4 byte) 24 < 256
back_4 byte h = omega arith

pub back_5 : (byte : ℕ) → byte < 256 → rotated (operand 5 byte) 22 < 256
back_5 byte h = omega arith

pub back_6 : (byte : ℕ) → byte < 256 → rotated (operand 6 byte) 20 < 256
back_6 byte h = omega arith

pub back_7 : (byte : ℕ) → byte < 256 → rotated (operand 7 byte) 18 < 256
back_7 byte h = omega arith

pub back_8 : (byte : ℕ) → byte < 256 → rotated (operand 8 byte) 16 < 256
back_8 byte h = omega arith

pub back_9 : (byte : ℕ) → byte < 256 → rotated (operand 9 byte) 14 < 256
back_9 byte h = omega arith

pub back_10 : (byte : ℕ) → byte < 256 → rotated (operand 10 byte) 12 < 256
back_10 byte h = omega arith

pub back_11 : (byte : ℕ) → byte < 256 → rotated (operand 11 byte) 10 < 256
back_11 byte h = omega arith

pub back_12 : (byte : ℕ) → byte < 256 → rotated (operand 12 byte) 8 < 256
back_12 byte h = omega arith

pub back_13 : (byte : ℕ) → byte < 256 → rotated (operand 13 byte) 6 < 256
back_13 byte h = omega arith

pub back_14 : (byte : ℕ) → byte < 256 → rotated (operand 14 byte) 4 < 256
back_14 byte h = omega arith

pub back_15 : (byte : ℕ) → byte < 256 → rotated (operand 15 byte) 2 < 256
back_15 byte h = omega arith

pub immediate_0 : (byte : ℕ) → byte < 256 → is_immediate (operand 0 byte) ≡ true
immediate_0 byte h = here (nat_lt (rotated (operand 0 byte) 0) 256) (list_any (λ k. nat_lt (rotated (operand 0 byte) k) 256)
    (2 ∷ 4 ∷ 6 ∷ 8 ∷ 10 ∷ 12 ∷ 14 ∷ 16 ∷ 18 ∷ 20 ∷ 22 ∷ 24 ∷ 26 ∷ 28 ∷ 30 ∷ [])) (lt-ltb (rotated (operand 0 byte) 0) 256 (back_0 byte h))

pub immediate_1 : (byte : ℕ) → byte < 256 → is_immediate (operand 1 byte) ≡ true
immediate_1 byte h = passed (nat_lt (rotated (operand 1 byte) 0) 256) (list_any (λ k. nat_lt (rotated (operand 1 byte) k) 256)
    (2 ∷ 4 ∷ 6 ∷ 8 ∷ 10 ∷ 12 ∷ 14 ∷ 16 ∷ 18 ∷ 20 ∷ 22 ∷ 24 ∷ 26 ∷ 28 ∷ 30 ∷ []))
    (passed (nat_lt (rotated (operand 1 byte) 2) 256) (list_any (λ k. nat_lt (rotated (operand 1 byte) k) 256)
    (4 ∷ 6 ∷ 8 ∷ 10 ∷ 12 ∷ 14 ∷ 16 ∷ 18 ∷ 20 ∷ 22 ∷ 24 ∷ 26 ∷ 28 ∷ 30 ∷ []))
    (passed (nat_lt (rotated (operand 1 byte) 4) 256) (list_any (λ k. nat_lt (rotated (operand 1 byte) k) 256)
    (6 ∷ 8 ∷ 10 ∷ 12 ∷ 14 ∷ 16 ∷ 18 ∷ 20 ∷ 22 ∷ 24 ∷ 26 ∷ 28 ∷ 30 ∷ [])) (passed (nat_lt (rotated (operand 1 byte) 6) 256)
    (list_any (λ k. nat_lt (rotated (operand 1 byte) k) 256) (8 ∷ 10 ∷ 12 ∷ 14 ∷ 16 ∷ 18 ∷ 20 ∷ 22 ∷ 24 ∷ 26 ∷ 28 ∷ 30 ∷ []))
    (passed (nat_lt (rotated (operand 1 byte) 8) 256) (list_any (λ k. nat_lt (rotated (operand 1 byte) k) 256)
    (10 ∷ 12 ∷ 14 ∷ 16 ∷ 18 ∷ 20 ∷ 22 ∷ 24 ∷ 26 ∷ 28 ∷ 30 ∷ [])) (passed (nat_lt (rotated (operand 1 byte) 10) 256)
    (list_any (λ k. nat_lt (rotated (operand 1 byte) k) 256) (12 ∷ 14 ∷ 16 ∷ 18 ∷ 20 ∷ 22 ∷ 24 ∷ 26 ∷ 28 ∷ 30 ∷ []))
    (passed (nat_lt (rotated (operand 1 byte) 12) 256) (list_any (λ k. nat_lt (rotated (operand 1 byte) k) 256)
    (14 ∷ 16 ∷ 18 ∷ 20 ∷ 22 ∷ 24 ∷ 26 ∷ 28 ∷ 30 ∷ [])) (passed (nat_lt (rotated (operand 1 byte) 14) 256)
    (list_any (λ k. nat_lt (rotated (operand 1 byte) k) 256) (16 ∷ 18 ∷ 20 ∷ 22 ∷ 24 ∷ 26 ∷ 28 ∷ 30 ∷ []))
    (passed (nat_lt (rotated (operand 1 byte) 16) 256) (list_any (λ k. nat_lt (rotated (operand 1 byte) k) 256) (18 ∷ 20 ∷ 22 ∷ 24 ∷ 26 ∷ 28 ∷ 30 ∷ []))
    (passed (nat_lt (rotated (operand 1 byte) 18) 256) (list_any (λ k. nat_lt (rotated (operand 1 byte) k) 256) (20 ∷ 22 ∷ 24 ∷ 26 ∷ 28 ∷ 30 ∷ []))
    (passed (nat_lt (rotated (operand 1 byte) 20) 256) (list_any (λ k. nat_lt (rotated (operand 1 byte) k) 256) (22 ∷ 24 ∷ 26 ∷ 28 ∷ 30 ∷ []))
    (passed (nat_lt (rotated (operand 1 byte) 22) 256) (list_any (λ k. nat_lt (rotated (operand 1 byte) k) 256) (24 ∷ 26 ∷ 28 ∷ 30 ∷ []))
    (passed (nat_lt (rotated (operand 1 byte) 24) 256) (list_any (λ k. nat_lt (rotated (operand 1 byte) k) 256) (26 ∷ 28 ∷ 30 ∷ []))
    (passed (nat_lt (rotated (operand 1 byte) 26) 256) (list_any (λ k. nat_lt (rotated (operand 1 byte) k) 256) (28 ∷ 30 ∷ []))
    (passed (nat_lt (rotated (operand 1 byte) 28) 256) (list_any (λ k. nat_lt (rotated (operand 1 byte) k) 256) (30 ∷ []))
    (here (nat_lt (rotated (operand 1 byte) 30) 256) (list_any (λ k. nat_lt (rotated (operand 1 byte) k) 256) ([]))
    (lt-ltb (rotated (operand 1 byte) 30) 256 (back_1 byte h)))))))))))))))))

pub immediate_2 : (byte : ℕ) → byte < 256 → is_immediate (operand 2 byte) ≡ true
immediate_2 byte h = passed (nat_lt (rotated (operand 2 byte) 0) 256) (list_any (λ k. nat_lt (rotated (operand 2 byte) k) 256)
    (2 ∷ 4 ∷ 6 ∷ 8 ∷ 10 ∷ 12 ∷ 14 ∷ 16 ∷ 18 ∷ 20 ∷ 22 ∷ 24 ∷ 26 ∷ 28 ∷ 30 ∷ []))
    (passed (nat_lt (rotated (operand 2 byte) 2) 256) (list_any (λ k. nat_lt (rotated (operand 2 byte) k) 256)
    (4 ∷ 6 ∷ 8 ∷ 10 ∷ 12 ∷ 14 ∷ 16 ∷ 18 ∷ 20 ∷ 22 ∷ 24 ∷ 26 ∷ 28 ∷ 30 ∷ []))
    (passed (nat_lt (rotated (operand 2 byte) 4) 256) (list_any (λ k. nat_lt (rotated (operand 2 byte) k) 256)
    (6 ∷ 8 ∷ 10 ∷ 12 ∷ 14 ∷ 16 ∷ 18 ∷ 20 ∷ 22 ∷ 24 ∷ 26 ∷ 28 ∷ 30 ∷ [])) (passed (nat_lt (rotated (operand 2 byte) 6) 256)
    (list_any (λ k. nat_lt (rotated (operand 2 byte) k) 256) (8 ∷ 10 ∷ 12 ∷ 14 ∷ 16 ∷ 18 ∷ 20 ∷ 22 ∷ 24 ∷ 26 ∷ 28 ∷ 30 ∷ []))
    (passed (nat_lt (rotated (operand 2 byte) 8) 256) (list_any (λ k. nat_lt (rotated (operand 2 byte) k) 256)
    (10 ∷ 12 ∷ 14 ∷ 16 ∷ 18 ∷ 20 ∷ 22 ∷ 24 ∷ 26 ∷ 28 ∷ 30 ∷ [])) (passed (nat_lt (rotated (operand 2 byte) 10) 256)
    (list_any (λ k. nat_lt (rotated (operand 2 byte) k) 256) (12 ∷ 14 ∷ 16 ∷ 18 ∷ 20 ∷ 22 ∷ 24 ∷ 26 ∷ 28 ∷ 30 ∷ []))
    (passed (nat_lt (rotated (operand 2 byte) 12) 256) (list_any (λ k. nat_lt (rotated (operand 2 byte) k) 256)
    (14 ∷ 16 ∷ 18 ∷ 20 ∷ 22 ∷ 24 ∷ 26 ∷ 28 ∷ 30 ∷ [])) (passed (nat_lt (rotated (operand 2 byte) 14) 256)
    (list_any (λ k. nat_lt (rotated (operand 2 byte) k) 256) (16 ∷ 18 ∷ 20 ∷ 22 ∷ 24 ∷ 26 ∷ 28 ∷ 30 ∷ []))
    (passed (nat_lt (rotated (operand 2 byte) 16) 256) (list_any (λ k. nat_lt (rotated (operand 2 byte) k) 256) (18 ∷ 20 ∷ 22 ∷ 24 ∷ 26 ∷ 28 ∷ 30 ∷ []))
    (passed (nat_lt (rotated (operand 2 byte) 18) 256) (list_any (λ k. nat_lt (rotated (operand 2 byte) k) 256) (20 ∷ 22 ∷ 24 ∷ 26 ∷ 28 ∷ 30 ∷ []))
    (passed (nat_lt (rotated (operand 2 byte) 20) 256) (list_any (λ k. nat_lt (rotated (operand 2 byte) k) 256) (22 ∷ 24 ∷ 26 ∷ 28 ∷ 30 ∷ []))
    (passed (nat_lt (rotated (operand 2 byte) 22) 256) (list_any (λ k. nat_lt (rotated (operand 2 byte) k) 256) (24 ∷ 26 ∷ 28 ∷ 30 ∷ []))
    (passed (nat_lt (rotated (operand 2 byte) 24) 256) (list_any (λ k. nat_lt (rotated (operand 2 byte) k) 256) (26 ∷ 28 ∷ 30 ∷ []))
    (passed (nat_lt (rotated (operand 2 byte) 26) 256) (list_any (λ k. nat_lt (rotated (operand 2 byte) k) 256) (28 ∷ 30 ∷ []))
    (here (nat_lt (rotated (operand 2 byte) 28) 256) (list_any (λ k. nat_lt (rotated (operand 2 byte) k) 256) (30 ∷ []))
    (lt-ltb (rotated (operand 2 byte) 28) 256 (back_2 byte h))))))))))))))))

pub immediate_3 : (byte : ℕ) → byte < 256 → is_immediate (operand 3 byte) ≡ true
immediate_3 byte h = passed (nat_lt (rotated (operand 3 byte) 0) 256) (list_any (λ k. nat_lt (rotated (operand 3 byte) k) 256)
    (2 ∷ 4 ∷ 6 ∷ 8 ∷ 10 ∷ 12 ∷ 14 ∷ 16 ∷ 18 ∷ 20 ∷ 22 ∷ 24 ∷ 26 ∷ 28 ∷ 30 ∷ []))
    (passed (nat_lt (rotated (operand 3 byte) 2) 256) (list_any (λ k. nat_lt (rotated (operand 3 byte) k) 256)
    (4 ∷ 6 ∷ 8 ∷ 10 ∷ 12 ∷ 14 ∷ 16 ∷ 18 ∷ 20 ∷ 22 ∷ 24 ∷ 26 ∷ 28 ∷ 30 ∷ []))
    (passed (nat_lt (rotated (operand 3 byte) 4) 256) (list_any (λ k. nat_lt (rotated (operand 3 byte) k) 256)
    (6 ∷ 8 ∷ 10 ∷ 12 ∷ 14 ∷ 16 ∷ 18 ∷ 20 ∷ 22 ∷ 24 ∷ 26 ∷ 28 ∷ 30 ∷ [])) (passed (nat_lt (rotated (operand 3 byte) 6) 256)
    (list_any (λ k. nat_lt (rotated (operand 3 byte) k) 256) (8 ∷ 10 ∷ 12 ∷ 14 ∷ 16 ∷ 18 ∷ 20 ∷ 22 ∷ 24 ∷ 26 ∷ 28 ∷ 30 ∷ []))
    (passed (nat_lt (rotated (operand 3 byte) 8) 256) (list_any (λ k. nat_lt (rotated (operand 3 byte) k) 256)
    (10 ∷ 12 ∷ 14 ∷ 16 ∷ 18 ∷ 20 ∷ 22 ∷ 24 ∷ 26 ∷ 28 ∷ 30 ∷ [])) (passed (nat_lt (rotated (operand 3 byte) 10) 256)
    (list_any (λ k. nat_lt (rotated (operand 3 byte) k) 256) (12 ∷ 14 ∷ 16 ∷ 18 ∷ 20 ∷ 22 ∷ 24 ∷ 26 ∷ 28 ∷ 30 ∷ []))
    (passed (nat_lt (rotated (operand 3 byte) 12) 256) (list_any (λ k. nat_lt (rotated (operand 3 byte) k) 256)
    (14 ∷ 16 ∷ 18 ∷ 20 ∷ 22 ∷ 24 ∷ 26 ∷ 28 ∷ 30 ∷ [])) (passed (nat_lt (rotated (operand 3 byte) 14) 256)
    (list_any (λ k. nat_lt (rotated (operand 3 byte) k) 256) (16 ∷ 18 ∷ 20 ∷ 22 ∷ 24 ∷ 26 ∷ 28 ∷ 30 ∷ []))
    (passed (nat_lt (rotated (operand 3 byte) 16) 256) (list_any (λ k. nat_lt (rotated (operand 3 byte) k) 256) (18 ∷ 20 ∷ 22 ∷ 24 ∷ 26 ∷ 28 ∷ 30 ∷ []))
    (passed (nat_lt (rotated (operand 3 byte) 18) 256) (list_any (λ k. nat_lt (rotated (operand 3 byte) k) 256) (20 ∷ 22 ∷ 24 ∷ 26 ∷ 28 ∷ 30 ∷ []))
    (passed (nat_lt (rotated (operand 3 byte) 20) 256) (list_any (λ k. nat_lt (rotated (operand 3 byte) k) 256) (22 ∷ 24 ∷ 26 ∷ 28 ∷ 30 ∷ []))
    (passed (nat_lt (rotated (operand 3 byte) 22) 256) (list_any (λ k. nat_lt (rotated (operand 3 byte) k) 256) (24 ∷ 26 ∷ 28 ∷ 30 ∷ []))
    (passed (nat_lt (rotated (operand 3 byte) 24) 256) (list_any (λ k. nat_lt (rotated (operand 3 byte) k) 256) (26 ∷ 28 ∷ 30 ∷ []))
    (here (nat_lt (rotated (operand 3 byte) 26) 256) (list_any (λ k. nat_lt (rotated (operand 3 byte) k) 256) (28 ∷ 30 ∷ []))
    (lt-ltb (rotated (operand 3 byte) 26) 256 (back_3 byte h)))))))))))))))

pub immediate_4 : (byte : ℕ) → byte < 256 → is_immediate (operand 4 byte) ≡ true
immediate_4 byte h = passed (nat_lt (rotated (operand 4 byte) 0) 256) (list_any (λ k. nat_lt (rotated (operand 4 byte) k) 256)
    (2 ∷ 4 ∷ 6 ∷ 8 ∷ 10 ∷ 12 ∷ 14 ∷ 16 ∷ 18 ∷ 20 ∷ 22 ∷ 24 ∷ 26 ∷ 28 ∷ 30 ∷ []))
    (passed (nat_lt (rotated (operand 4 byte) 2) 256) (list_any (λ k. nat_lt (rotated (operand 4 byte) k) 256)
    (4 ∷ 6 ∷ 8 ∷ 10 ∷ 12 ∷ 14 ∷ 16 ∷ 18 ∷ 20 ∷ 22 ∷ 24 ∷ 26 ∷ 28 ∷ 30 ∷ []))
    (passed (nat_lt (rotated (operand 4 byte) 4) 256) (list_any (λ k. nat_lt (rotated (operand 4 byte) k) 256)
    (6 ∷ 8 ∷ 10 ∷ 12 ∷ 14 ∷ 16 ∷ 18 ∷ 20 ∷ 22 ∷ 24 ∷ 26 ∷ 28 ∷ 30 ∷ [])) (passed (nat_lt (rotated (operand 4 byte) 6) 256)
    (list_any (λ k. nat_lt (rotated (operand 4 byte) k) 256) (8 ∷ 10 ∷ 12 ∷ 14 ∷ 16 ∷ 18 ∷ 20 ∷ 22 ∷ 24 ∷ 26 ∷ 28 ∷ 30 ∷ []))
    (passed (nat_lt (rotated (operand 4 byte) 8) 256) (list_any (λ k. nat_lt (rotated (operand 4 byte) k) 256)
    (10 ∷ 12 ∷ 14 ∷ 16 ∷ 18 ∷ 20 ∷ 22 ∷ 24 ∷ 26 ∷ 28 ∷ 30 ∷ [])) (passed (nat_lt (rotated (operand 4 byte) 10) 256)
    (list_any (λ k. nat_lt (rotated (operand 4 byte) k) 256) (12 ∷ 14 ∷ 16 ∷ 18 ∷ 20 ∷ 22 ∷ 24 ∷ 26 ∷ 28 ∷ 30 ∷ []))
    (passed (nat_lt (rotated (operand 4 byte) 12) 256) (list_any (λ k. nat_lt (rotated (operand 4 byte) k) 256)
    (14 ∷ 16 ∷ 18 ∷ 20 ∷ 22 ∷ 24 ∷ 26 ∷ 28 ∷ 30 ∷ [])) (passed (nat_lt (rotated (operand 4 byte) 14) 256)
    (list_any (λ k. nat_lt (rotated (operand 4 byte) k) 256) (16 ∷ 18 ∷ 20 ∷ 22 ∷ 24 ∷ 26 ∷ 28 ∷ 30 ∷ []))
    (passed (nat_lt (rotated (operand 4 byte) 16) 256) (list_any (λ k. nat_lt (rotated (operand 4 byte) k) 256) (18 ∷ 20 ∷ 22 ∷ 24 ∷ 26 ∷ 28 ∷ 30 ∷ []))
    (passed (nat_lt (rotated (operand 4 byte) 18) 256) (list_any (λ k. nat_lt (rotated (operand 4 byte) k) 256) (20 ∷ 22 ∷ 24 ∷ 26 ∷ 28 ∷ 30 ∷ []))
    (passed (nat_lt (rotated (operand 4 byte) 20) 256) (list_any (λ k. nat_lt (rotated (operand 4 byte) k) 256) (22 ∷ 24 ∷ 26 ∷ 28 ∷ 30 ∷ []))
    (passed (nat_lt (rotated (operand 4 byte) 22) 256) (list_any (λ k. nat_lt (rotated (operand 4 byte) k) 256) (24 ∷ 26 ∷ 28 ∷ 30 ∷ []))
    (here (nat_lt (rotated (operand 4 byte) 24) 256) (list_any (λ k. nat_lt (rotated (operand 4 byte) k) 256) (26 ∷ 28 ∷ 30 ∷ []))
    (lt-ltb (rotated (operand 4 byte) 24) 256 (back_4 byte h))))))))))))))

pub immediate_5 : (byte : ℕ) → byte < 256 → is_immediate (operand 5 byte) ≡ true
immediate_5 byte h = passed (nat_lt (rotated (operand 5 byte) 0) 256) (list_any (λ k. nat_lt (rotated (operand 5 byte) k) 256)
    (2 ∷ 4 ∷ 6 ∷ 8 ∷ 10 ∷ 12 ∷ 14 ∷ 16 ∷ 18 ∷ 20 ∷ 22 ∷ 24 ∷ 26 ∷ 28 ∷ 30 ∷ []))
    (passed (nat_lt (rotated (operand 5 byte) 2) 256) (list_any (λ k. nat_lt (rotated (operand 5 byte) k) 256)
    (4 ∷ 6 ∷ 8 ∷ 10 ∷ 12 ∷ 14 ∷ 16 ∷ 18 ∷ 20 ∷ 22 ∷ 24 ∷ 26 ∷ 28 ∷ 30 ∷ []))
    (passed (nat_lt (rotated (operand 5 byte) 4) 256) (list_any (λ k. nat_lt (rotated (operand 5 byte) k) 256)
    (6 ∷ 8 ∷ 10 ∷ 12 ∷ 14 ∷ 16 ∷ 18 ∷ 20 ∷ 22 ∷ 24 ∷ 26 ∷ 28 ∷ 30 ∷ [])) (passed (nat_lt (rotated (operand 5 byte) 6) 256)
    (list_any (λ k. nat_lt (rotated (operand 5 byte) k) 256) (8 ∷ 10 ∷ 12 ∷ 14 ∷ 16 ∷ 18 ∷ 20 ∷ 22 ∷ 24 ∷ 26 ∷ 28 ∷ 30 ∷ []))
    (passed (nat_lt (rotated (operand 5 byte) 8) 256) (list_any (λ k. nat_lt (rotated (operand 5 byte) k) 256)
    (10 ∷ 12 ∷ 14 ∷ 16 ∷ 18 ∷ 20 ∷ 22 ∷ 24 ∷ 26 ∷ 28 ∷ 30 ∷ [])) (passed (nat_lt (rotated (operand 5 byte) 10) 256)
    (list_any (λ k. nat_lt (rotated (operand 5 byte) k) 256) (12 ∷ 14 ∷ 16 ∷ 18 ∷ 20 ∷ 22 ∷ 24 ∷ 26 ∷ 28 ∷ 30 ∷ []))
    (passed (nat_lt (rotated (operand 5 byte) 12) 256) (list_any (λ k. nat_lt (rotated (operand 5 byte) k) 256)
    (14 ∷ 16 ∷ 18 ∷ 20 ∷ 22 ∷ 24 ∷ 26 ∷ 28 ∷ 30 ∷ [])) (passed (nat_lt (rotated (operand 5 byte) 14) 256)
    (list_any (λ k. nat_lt (rotated (operand 5 byte) k) 256) (16 ∷ 18 ∷ 20 ∷ 22 ∷ 24 ∷ 26 ∷ 28 ∷ 30 ∷ []))
    (passed (nat_lt (rotated (operand 5 byte) 16) 256) (list_any (λ k. nat_lt (rotated (operand 5 byte) k) 256) (18 ∷ 20 ∷ 22 ∷ 24 ∷ 26 ∷ 28 ∷ 30 ∷ []))
    (passed (nat_lt (rotated (operand 5 byte) 18) 256) (list_any (λ k. nat_lt (rotated (operand 5 byte) k) 256) (20 ∷ 22 ∷ 24 ∷ 26 ∷ 28 ∷ 30 ∷ []))
    (passed (nat_lt (rotated (operand 5 byte) 20) 256) (list_any (λ k. nat_lt (rotated (operand 5 byte) k) 256) (22 ∷ 24 ∷ 26 ∷ 28 ∷ 30 ∷ []))
    (here (nat_lt (rotated (operand 5 byte) 22) 256) (list_any (λ k. nat_lt (rotated (operand 5 byte) k) 256) (24 ∷ 26 ∷ 28 ∷ 30 ∷ []))
    (lt-ltb (rotated (operand 5 byte) 22) 256 (back_5 byte h)))))))))))))

pub immediate_6 : (byte : ℕ) → byte < 256 → is_immediate (operand 6 byte) ≡ true
immediate_6 byte h = passed (nat_lt (rotated (operand 6 byte) 0) 256) (list_any (λ k. nat_lt (rotated (operand 6 byte) k) 256)
    (2 ∷ 4 ∷ 6 ∷ 8 ∷ 10 ∷ 12 ∷ 14 ∷ 16 ∷ 18 ∷ 20 ∷ 22 ∷ 24 ∷ 26 ∷ 28 ∷ 30 ∷ []))
    (passed (nat_lt (rotated (operand 6 byte) 2) 256) (list_any (λ k. nat_lt (rotated (operand 6 byte) k) 256)
    (4 ∷ 6 ∷ 8 ∷ 10 ∷ 12 ∷ 14 ∷ 16 ∷ 18 ∷ 20 ∷ 22 ∷ 24 ∷ 26 ∷ 28 ∷ 30 ∷ []))
    (passed (nat_lt (rotated (operand 6 byte) 4) 256) (list_any (λ k. nat_lt (rotated (operand 6 byte) k) 256)
    (6 ∷ 8 ∷ 10 ∷ 12 ∷ 14 ∷ 16 ∷ 18 ∷ 20 ∷ 22 ∷ 24 ∷ 26 ∷ 28 ∷ 30 ∷ [])) (passed (nat_lt (rotated (operand 6 byte) 6) 256)
    (list_any (λ k. nat_lt (rotated (operand 6 byte) k) 256) (8 ∷ 10 ∷ 12 ∷ 14 ∷ 16 ∷ 18 ∷ 20 ∷ 22 ∷ 24 ∷ 26 ∷ 28 ∷ 30 ∷ []))
    (passed (nat_lt (rotated (operand 6 byte) 8) 256) (list_any (λ k. nat_lt (rotated (operand 6 byte) k) 256)
    (10 ∷ 12 ∷ 14 ∷ 16 ∷ 18 ∷ 20 ∷ 22 ∷ 24 ∷ 26 ∷ 28 ∷ 30 ∷ [])) (passed (nat_lt (rotated (operand 6 byte) 10) 256)
    (list_any (λ k. nat_lt (rotated (operand 6 byte) k) 256) (12 ∷ 14 ∷ 16 ∷ 18 ∷ 20 ∷ 22 ∷ 24 ∷ 26 ∷ 28 ∷ 30 ∷ []))
    (passed (nat_lt (rotated (operand 6 byte) 12) 256) (list_any (λ k. nat_lt (rotated (operand 6 byte) k) 256)
    (14 ∷ 16 ∷ 18 ∷ 20 ∷ 22 ∷ 24 ∷ 26 ∷ 28 ∷ 30 ∷ [])) (passed (nat_lt (rotated (operand 6 byte) 14) 256)
    (list_any (λ k. nat_lt (rotated (operand 6 byte) k) 256) (16 ∷ 18 ∷ 20 ∷ 22 ∷ 24 ∷ 26 ∷ 28 ∷ 30 ∷ []))
    (passed (nat_lt (rotated (operand 6 byte) 16) 256) (list_any (λ k. nat_lt (rotated (operand 6 byte) k) 256) (18 ∷ 20 ∷ 22 ∷ 24 ∷ 26 ∷ 28 ∷ 30 ∷ []))
    (passed (nat_lt (rotated (operand 6 byte) 18) 256) (list_any (λ k. nat_lt (rotated (operand 6 byte) k) 256) (20 ∷ 22 ∷ 24 ∷ 26 ∷ 28 ∷ 30 ∷ []))
    (here (nat_lt (rotated (operand 6 byte) 20) 256) (list_any (λ k. nat_lt (rotated (operand 6 byte) k) 256) (22 ∷ 24 ∷ 26 ∷ 28 ∷ 30 ∷ []))
    (lt-ltb (rotated (operand 6 byte) 20) 256 (back_6 byte h))))))))))))

pub immediate_7 : (byte : ℕ) → byte < 256 → is_immediate (operand 7 byte) ≡ true
immediate_7 byte h = passed (nat_lt (rotated (operand 7 byte) 0) 256) (list_any (λ k. nat_lt (rotated (operand 7 byte) k) 256)
    (2 ∷ 4 ∷ 6 ∷ 8 ∷ 10 ∷ 12 ∷ 14 ∷ 16 ∷ 18 ∷ 20 ∷ 22 ∷ 24 ∷ 26 ∷ 28 ∷ 30 ∷ []))
    (passed (nat_lt (rotated (operand 7 byte) 2) 256) (list_any (λ k. nat_lt (rotated (operand 7 byte) k) 256)
    (4 ∷ 6 ∷ 8 ∷ 10 ∷ 12 ∷ 14 ∷ 16 ∷ 18 ∷ 20 ∷ 22 ∷ 24 ∷ 26 ∷ 28 ∷ 30 ∷ []))
    (passed (nat_lt (rotated (operand 7 byte) 4) 256) (list_any (λ k. nat_lt (rotated (operand 7 byte) k) 256)
    (6 ∷ 8 ∷ 10 ∷ 12 ∷ 14 ∷ 16 ∷ 18 ∷ 20 ∷ 22 ∷ 24 ∷ 26 ∷ 28 ∷ 30 ∷ [])) (passed (nat_lt (rotated (operand 7 byte) 6) 256)
    (list_any (λ k. nat_lt (rotated (operand 7 byte) k) 256) (8 ∷ 10 ∷ 12 ∷ 14 ∷ 16 ∷ 18 ∷ 20 ∷ 22 ∷ 24 ∷ 26 ∷ 28 ∷ 30 ∷ []))
    (passed (nat_lt (rotated (operand 7 byte) 8) 256) (list_any (λ k. nat_lt (rotated (operand 7 byte) k) 256)
    (10 ∷ 12 ∷ 14 ∷ 16 ∷ 18 ∷ 20 ∷ 22 ∷ 24 ∷ 26 ∷ 28 ∷ 30 ∷ [])) (passed (nat_lt (rotated (operand 7 byte) 10) 256)
    (list_any (λ k. nat_lt (rotated (operand 7 byte) k) 256) (12 ∷ 14 ∷ 16 ∷ 18 ∷ 20 ∷ 22 ∷ 24 ∷ 26 ∷ 28 ∷ 30 ∷ []))
    (passed (nat_lt (rotated (operand 7 byte) 12) 256) (list_any (λ k. nat_lt (rotated (operand 7 byte) k) 256)
    (14 ∷ 16 ∷ 18 ∷ 20 ∷ 22 ∷ 24 ∷ 26 ∷ 28 ∷ 30 ∷ [])) (passed (nat_lt (rotated (operand 7 byte) 14) 256)
    (list_any (λ k. nat_lt (rotated (operand 7 byte) k) 256) (16 ∷ 18 ∷ 20 ∷ 22 ∷ 24 ∷ 26 ∷ 28 ∷ 30 ∷ []))
    (passed (nat_lt (rotated (operand 7 byte) 16) 256) (list_any (λ k. nat_lt (rotated (operand 7 byte) k) 256) (18 ∷ 20 ∷ 22 ∷ 24 ∷ 26 ∷ 28 ∷ 30 ∷ []))
    (here (nat_lt (rotated (operand 7 byte) 18) 256) (list_any (λ k. nat_lt (rotated (operand 7 byte) k) 256) (20 ∷ 22 ∷ 24 ∷ 26 ∷ 28 ∷ 30 ∷ []))
    (lt-ltb (rotated (operand 7 byte) 18) 256 (back_7 byte h)))))))))))

pub immediate_8 : (byte : ℕ) → byte < 256 → is_immediate (operand 8 byte) ≡ true
immediate_8 byte h = passed (nat_lt (rotated (operand 8 byte) 0) 256) (list_any (λ k. nat_lt (rotated (operand 8 byte) k) 256)
    (2 ∷ 4 ∷ 6 ∷ 8 ∷ 10 ∷ 12 ∷ 14 ∷ 16 ∷ 18 ∷ 20 ∷ 22 ∷ 24 ∷ 26 ∷ 28 ∷ 30 ∷ []))
    (passed (nat_lt (rotated (operand 8 byte) 2) 256) (list_any (λ k. nat_lt (rotated (operand 8 byte) k) 256)
    (4 ∷ 6 ∷ 8 ∷ 10 ∷ 12 ∷ 14 ∷ 16 ∷ 18 ∷ 20 ∷ 22 ∷ 24 ∷ 26 ∷ 28 ∷ 30 ∷ []))
    (passed (nat_lt (rotated (operand 8 byte) 4) 256) (list_any (λ k. nat_lt (rotated (operand 8 byte) k) 256)
    (6 ∷ 8 ∷ 10 ∷ 12 ∷ 14 ∷ 16 ∷ 18 ∷ 20 ∷ 22 ∷ 24 ∷ 26 ∷ 28 ∷ 30 ∷ [])) (passed (nat_lt (rotated (operand 8 byte) 6) 256)
    (list_any (λ k. nat_lt (rotated (operand 8 byte) k) 256) (8 ∷ 10 ∷ 12 ∷ 14 ∷ 16 ∷ 18 ∷ 20 ∷ 22 ∷ 24 ∷ 26 ∷ 28 ∷ 30 ∷ []))
    (passed (nat_lt (rotated (operand 8 byte) 8) 256) (list_any (λ k. nat_lt (rotated (operand 8 byte) k) 256)
    (10 ∷ 12 ∷ 14 ∷ 16 ∷ 18 ∷ 20 ∷ 22 ∷ 24 ∷ 26 ∷ 28 ∷ 30 ∷ [])) (passed (nat_lt (rotated (operand 8 byte) 10) 256)
    (list_any (λ k. nat_lt (rotated (operand 8 byte) k) 256) (12 ∷ 14 ∷ 16 ∷ 18 ∷ 20 ∷ 22 ∷ 24 ∷ 26 ∷ 28 ∷ 30 ∷ []))
    (passed (nat_lt (rotated (operand 8 byte) 12) 256) (list_any (λ k. nat_lt (rotated (operand 8 byte) k) 256)
    (14 ∷ 16 ∷ 18 ∷ 20 ∷ 22 ∷ 24 ∷ 26 ∷ 28 ∷ 30 ∷ [])) (passed (nat_lt (rotated (operand 8 byte) 14) 256)
    (list_any (λ k. nat_lt (rotated (operand 8 byte) k) 256) (16 ∷ 18 ∷ 20 ∷ 22 ∷ 24 ∷ 26 ∷ 28 ∷ 30 ∷ []))
    (here (nat_lt (rotated (operand 8 byte) 16) 256) (list_any (λ k. nat_lt (rotated (operand 8 byte) k) 256) (18 ∷ 20 ∷ 22 ∷ 24 ∷ 26 ∷ 28 ∷ 30 ∷ []))
    (lt-ltb (rotated (operand 8 byte) 16) 256 (back_8 byte h))))))))))

pub immediate_9 : (byte : ℕ) → byte < 256 → is_immediate (operand 9 byte) ≡ true
immediate_9 byte h = passed (nat_lt (rotated (operand 9 byte) 0) 256) (list_any (λ k. nat_lt (rotated (operand 9 byte) k) 256)
    (2 ∷ 4 ∷ 6 ∷ 8 ∷ 10 ∷ 12 ∷ 14 ∷ 16 ∷ 18 ∷ 20 ∷ 22 ∷ 24 ∷ 26 ∷ 28 ∷ 30 ∷ []))
    (passed (nat_lt (rotated (operand 9 byte) 2) 256) (list_any (λ k. nat_lt (rotated (operand 9 byte) k) 256)
    (4 ∷ 6 ∷ 8 ∷ 10 ∷ 12 ∷ 14 ∷ 16 ∷ 18 ∷ 20 ∷ 22 ∷ 24 ∷ 26 ∷ 28 ∷ 30 ∷ []))
    (passed (nat_lt (rotated (operand 9 byte) 4) 256) (list_any (λ k. nat_lt (rotated (operand 9 byte) k) 256)
    (6 ∷ 8 ∷ 10 ∷ 12 ∷ 14 ∷ 16 ∷ 18 ∷ 20 ∷ 22 ∷ 24 ∷ 26 ∷ 28 ∷ 30 ∷ [])) (passed (nat_lt (rotated (operand 9 byte) 6) 256)
    (list_any (λ k. nat_lt (rotated (operand 9 byte) k) 256) (8 ∷ 10 ∷ 12 ∷ 14 ∷ 16 ∷ 18 ∷ 20 ∷ 22 ∷ 24 ∷ 26 ∷ 28 ∷ 30 ∷ []))
    (passed (nat_lt (rotated (operand 9 byte) 8) 256) (list_any (λ k. nat_lt (rotated (operand 9 byte) k) 256)
    (10 ∷ 12 ∷ 14 ∷ 16 ∷ 18 ∷ 20 ∷ 22 ∷ 24 ∷ 26 ∷ 28 ∷ 30 ∷ [])) (passed (nat_lt (rotated (operand 9 byte) 10) 256)
    (list_any (λ k. nat_lt (rotated (operand 9 byte) k) 256) (12 ∷ 14 ∷ 16 ∷ 18 ∷ 20 ∷ 22 ∷ 24 ∷ 26 ∷ 28 ∷ 30 ∷ []))
    (passed (nat_lt (rotated (operand 9 byte) 12) 256) (list_any (λ k. nat_lt (rotated (operand 9 byte) k) 256)
    (14 ∷ 16 ∷ 18 ∷ 20 ∷ 22 ∷ 24 ∷ 26 ∷ 28 ∷ 30 ∷ [])) (here (nat_lt (rotated (operand 9 byte) 14) 256)
    (list_any (λ k. nat_lt (rotated (operand 9 byte) k) 256) (16 ∷ 18 ∷ 20 ∷ 22 ∷ 24 ∷ 26 ∷ 28 ∷ 30 ∷ []))
    (lt-ltb (rotated (operand 9 byte) 14) 256 (back_9 byte h)))))))))

pub immediate_10 : (byte : ℕ) → byte < 256 → is_immediate (operand 10 byte) ≡ true
immediate_10 byte h = passed (nat_lt (rotated (operand 10 byte) 0) 256) (list_any (λ k. nat_lt (rotated (operand 10 byte) k) 256)
    (2 ∷ 4 ∷ 6 ∷ 8 ∷ 10 ∷ 12 ∷ 14 ∷ 16 ∷ 18 ∷ 20 ∷ 22 ∷ 24 ∷ 26 ∷ 28 ∷ 30 ∷ []))
    (passed (nat_lt (rotated (operand 10 byte) 2) 256) (list_any (λ k. nat_lt (rotated (operand 10 byte) k) 256)
    (4 ∷ 6 ∷ 8 ∷ 10 ∷ 12 ∷ 14 ∷ 16 ∷ 18 ∷ 20 ∷ 22 ∷ 24 ∷ 26 ∷ 28 ∷ 30 ∷ []))
    (passed (nat_lt (rotated (operand 10 byte) 4) 256) (list_any (λ k. nat_lt (rotated (operand 10 byte) k) 256)
    (6 ∷ 8 ∷ 10 ∷ 12 ∷ 14 ∷ 16 ∷ 18 ∷ 20 ∷ 22 ∷ 24 ∷ 26 ∷ 28 ∷ 30 ∷ [])) (passed (nat_lt (rotated (operand 10 byte) 6) 256)
    (list_any (λ k. nat_lt (rotated (operand 10 byte) k) 256) (8 ∷ 10 ∷ 12 ∷ 14 ∷ 16 ∷ 18 ∷ 20 ∷ 22 ∷ 24 ∷ 26 ∷ 28 ∷ 30 ∷ []))
    (passed (nat_lt (rotated (operand 10 byte) 8) 256) (list_any (λ k. nat_lt (rotated (operand 10 byte) k) 256)
    (10 ∷ 12 ∷ 14 ∷ 16 ∷ 18 ∷ 20 ∷ 22 ∷ 24 ∷ 26 ∷ 28 ∷ 30 ∷ [])) (passed (nat_lt (rotated (operand 10 byte) 10) 256)
    (list_any (λ k. nat_lt (rotated (operand 10 byte) k) 256) (12 ∷ 14 ∷ 16 ∷ 18 ∷ 20 ∷ 22 ∷ 24 ∷ 26 ∷ 28 ∷ 30 ∷ []))
    (here (nat_lt (rotated (operand 10 byte) 12) 256) (list_any (λ k. nat_lt (rotated (operand 10 byte) k) 256)
    (14 ∷ 16 ∷ 18 ∷ 20 ∷ 22 ∷ 24 ∷ 26 ∷ 28 ∷ 30 ∷ [])) (lt-ltb (rotated (operand 10 byte) 12) 256 (back_10 byte h))))))))

pub immediate_11 : (byte : ℕ) → byte < 256 → is_immediate (operand 11 byte) ≡ true
immediate_11 byte h = passed (nat_lt (rotated (operand 11 byte) 0) 256) (list_any (λ k. nat_lt (rotated (operand 11 byte) k) 256)
    (2 ∷ 4 ∷ 6 ∷ 8 ∷ 10 ∷ 12 ∷ 14 ∷ 16 ∷ 18 ∷ 20 ∷ 22 ∷ 24 ∷ 26 ∷ 28 ∷ 30 ∷ []))
    (passed (nat_lt (rotated (operand 11 byte) 2) 256) (list_any (λ k. nat_lt (rotated (operand 11 byte) k) 256)
    (4 ∷ 6 ∷ 8 ∷ 10 ∷ 12 ∷ 14 ∷ 16 ∷ 18 ∷ 20 ∷ 22 ∷ 24 ∷ 26 ∷ 28 ∷ 30 ∷ []))
    (passed (nat_lt (rotated (operand 11 byte) 4) 256) (list_any (λ k. nat_lt (rotated (operand 11 byte) k) 256)
    (6 ∷ 8 ∷ 10 ∷ 12 ∷ 14 ∷ 16 ∷ 18 ∷ 20 ∷ 22 ∷ 24 ∷ 26 ∷ 28 ∷ 30 ∷ [])) (passed (nat_lt (rotated (operand 11 byte) 6) 256)
    (list_any (λ k. nat_lt (rotated (operand 11 byte) k) 256) (8 ∷ 10 ∷ 12 ∷ 14 ∷ 16 ∷ 18 ∷ 20 ∷ 22 ∷ 24 ∷ 26 ∷ 28 ∷ 30 ∷ []))
    (passed (nat_lt (rotated (operand 11 byte) 8) 256) (list_any (λ k. nat_lt (rotated (operand 11 byte) k) 256)
    (10 ∷ 12 ∷ 14 ∷ 16 ∷ 18 ∷ 20 ∷ 22 ∷ 24 ∷ 26 ∷ 28 ∷ 30 ∷ [])) (here (nat_lt (rotated (operand 11 byte) 10) 256)
    (list_any (λ k. nat_lt (rotated (operand 11 byte) k) 256) (12 ∷ 14 ∷ 16 ∷ 18 ∷ 20 ∷ 22 ∷ 24 ∷ 26 ∷ 28 ∷ 30 ∷ []))
    (lt-ltb (rotated (operand 11 byte) 10) 256 (back_11 byte h)))))))

pub immediate_12 : (byte : ℕ) → byte < 256 → is_immediate (operand 12 byte) ≡ true
immediate_12 byte h = passed (nat_lt (rotated (operand 12 byte) 0) 256) (list_any (λ k. nat_lt (rotated (operand 12 byte) k) 256)
    (2 ∷ 4 ∷ 6 ∷ 8 ∷ 10 ∷ 12 ∷ 14 ∷ 16 ∷ 18 ∷ 20 ∷ 22 ∷ 24 ∷ 26 ∷ 28 ∷ 30 ∷ []))
    (passed (nat_lt (rotated (operand 12 byte) 2) 256) (list_any (λ k. nat_lt (rotated (operand 12 byte) k) 256)
    (4 ∷ 6 ∷ 8 ∷ 10 ∷ 12 ∷ 14 ∷ 16 ∷ 18 ∷ 20 ∷ 22 ∷ 24 ∷ 26 ∷ 28 ∷ 30 ∷ []))
    (passed (nat_lt (rotated (operand 12 byte) 4) 256) (list_any (λ k. nat_lt (rotated (operand 12 byte) k) 256)
    (6 ∷ 8 ∷ 10 ∷ 12 ∷ 14 ∷ 16 ∷ 18 ∷ 20 ∷ 22 ∷ 24 ∷ 26 ∷ 28 ∷ 30 ∷ [])) (passed (nat_lt (rotated (operand 12 byte) 6) 256)
    (list_any (λ k. nat_lt (rotated (operand 12 byte) k) 256) (8 ∷ 10 ∷ 12 ∷ 14 ∷ 16 ∷ 18 ∷ 20 ∷ 22 ∷ 24 ∷ 26 ∷ 28 ∷ 30 ∷ []))
    (here (nat_lt (rotated (operand 12 byte) 8) 256) (list_any (λ k. nat_lt (rotated (operand 12 byte) k) 256)
    (10 ∷ 12 ∷ 14 ∷ 16 ∷ 18 ∷ 20 ∷ 22 ∷ 24 ∷ 26 ∷ 28 ∷ 30 ∷ [])) (lt-ltb (rotated (operand 12 byte) 8) 256 (back_12 byte h))))))

pub immediate_13 : (byte : ℕ) → byte < 256 → is_immediate (operand 13 byte) ≡ true
immediate_13 byte h = passed (nat_lt (rotated (operand 13 byte) 0) 256) (list_any (λ k. nat_lt (rotated (operand 13 byte) k) 256)
    (2 ∷ 4 ∷ 6 ∷ 8 ∷ 10 ∷ 12 ∷ 14 ∷ 16 ∷ 18 ∷ 20 ∷ 22 ∷ 24 ∷ 26 ∷ 28 ∷ 30 ∷ []))
    (passed (nat_lt (rotated (operand 13 byte) 2) 256) (list_any (λ k. nat_lt (rotated (operand 13 byte) k) 256)
    (4 ∷ 6 ∷ 8 ∷ 10 ∷ 12 ∷ 14 ∷ 16 ∷ 18 ∷ 20 ∷ 22 ∷ 24 ∷ 26 ∷ 28 ∷ 30 ∷ []))
    (passed (nat_lt (rotated (operand 13 byte) 4) 256) (list_any (λ k. nat_lt (rotated (operand 13 byte) k) 256)
    (6 ∷ 8 ∷ 10 ∷ 12 ∷ 14 ∷ 16 ∷ 18 ∷ 20 ∷ 22 ∷ 24 ∷ 26 ∷ 28 ∷ 30 ∷ [])) (here (nat_lt (rotated (operand 13 byte) 6) 256)
    (list_any (λ k. nat_lt (rotated (operand 13 byte) k) 256) (8 ∷ 10 ∷ 12 ∷ 14 ∷ 16 ∷ 18 ∷ 20 ∷ 22 ∷ 24 ∷ 26 ∷ 28 ∷ 30 ∷ []))
    (lt-ltb (rotated (operand 13 byte) 6) 256 (back_13 byte h)))))

pub immediate_14 : (byte : ℕ) → byte < 256 → is_immediate (operand 14 byte) ≡ true
immediate_14 byte h = passed (nat_lt (rotated (operand 14 byte) 0) 256) (list_any (λ k. nat_lt (rotated (operand 14 byte) k) 256)
    (2 ∷ 4 ∷ 6 ∷ 8 ∷ 10 ∷ 12 ∷ 14 ∷ 16 ∷ 18 ∷ 20 ∷ 22 ∷ 24 ∷ 26 ∷ 28 ∷ 30 ∷ []))
    (passed (nat_lt (rotated (operand 14 byte) 2) 256) (list_any (λ k. nat_lt (rotated (operand 14 byte) k) 256)
    (4 ∷ 6 ∷ 8 ∷ 10 ∷ 12 ∷ 14 ∷ 16 ∷ 18 ∷ 20 ∷ 22 ∷ 24 ∷ 26 ∷ 28 ∷ 30 ∷ []))
    (here (nat_lt (rotated (operand 14 byte) 4) 256) (list_any (λ k. nat_lt (rotated (operand 14 byte) k) 256)
    (6 ∷ 8 ∷ 10 ∷ 12 ∷ 14 ∷ 16 ∷ 18 ∷ 20 ∷ 22 ∷ 24 ∷ 26 ∷ 28 ∷ 30 ∷ [])) (lt-ltb (rotated (operand 14 byte) 4) 256 (back_14 byte h))))

pub immediate_15 : (byte : ℕ) → byte < 256 → is_immediate (operand 15 byte) ≡ true
immediate_15 byte h = passed (nat_lt (rotated (operand 15 byte) 0) 256) (list_any (λ k. nat_lt (rotated (operand 15 byte) k) 256)
    (2 ∷ 4 ∷ 6 ∷ 8 ∷ 10 ∷ 12 ∷ 14 ∷ 16 ∷ 18 ∷ 20 ∷ 22 ∷ 24 ∷ 26 ∷ 28 ∷ 30 ∷ []))
    (here (nat_lt (rotated (operand 15 byte) 2) 256) (list_any (λ k. nat_lt (rotated (operand 15 byte) k) 256)
    (4 ∷ 6 ∷ 8 ∷ 10 ∷ 12 ∷ 14 ∷ 16 ∷ 18 ∷ 20 ∷ 22 ∷ 24 ∷ 26 ∷ 28 ∷ 30 ∷ [])) (lt-ltb (rotated (operand 15 byte) 2) 256 (back_15 byte h)))

pub rotations_are_immediates : (r byte : ℕ) → r < 16 → byte < 256 → is_immediate (operand r byte) ≡ true
rotations_are_immediates zero byte b h = immediate_0 byte h
rotations_are_immediates (suc zero) byte b h = immediate_1 byte h
rotations_are_immediates (suc (suc zero)) byte b h = immediate_2 byte h
rotations_are_immediates (suc (suc (suc zero))) byte b h = immediate_3 byte h
rotations_are_immediates (suc (suc (suc (suc zero)))) byte b h = immediate_4 byte h
rotations_are_immediates (suc (suc (suc (suc (suc zero))))) byte b h = immediate_5 byte h
rotations_are_immediates (suc (suc (suc (suc (suc (suc zero)))))) byte b h = immediate_6 byte h
rotations_are_immediates (suc (suc (suc (suc (suc (suc (suc zero))))))) byte b h = immediate_7 byte h
rotations_are_immediates (suc (suc (suc (suc (suc (suc (suc (suc zero)))))))) byte b h = immediate_8 byte h
rotations_are_immediates (suc (suc (suc (suc (suc (suc (suc (suc (suc zero))))))))) byte b h = immediate_9 byte h
rotations_are_immediates (suc (suc (suc (suc (suc (suc (suc (suc (suc (suc zero)))))))))) byte b h = immediate_10 byte h
rotations_are_immediates (suc (suc (suc (suc (suc (suc (suc (suc (suc (suc (suc zero))))))))))) byte b h = immediate_11 byte h
rotations_are_immediates (suc (suc (suc (suc (suc (suc (suc (suc (suc (suc (suc (suc zero)))))))))))) byte b h = immediate_12 byte h
rotations_are_immediates (suc (suc (suc (suc (suc (suc (suc (suc (suc (suc (suc (suc (suc zero))))))))))))) byte b h = immediate_13 byte h
rotations_are_immediates (suc (suc (suc (suc (suc (suc (suc (suc (suc (suc (suc (suc (suc (suc zero)))))))))))))) byte b h = immediate_14 byte h
rotations_are_immediates (suc (suc (suc (suc (suc (suc (suc (suc (suc (suc (suc (suc (suc (suc (suc zero))))))))))))))) byte b h = immediate_15 byte h
rotations_are_immediates (suc (suc (suc (suc (suc (suc (suc (suc (suc (suc (suc (suc (suc (suc (suc (suc r)))))))))))))))) byte b h = absurd (omega arith)
