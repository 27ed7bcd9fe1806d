-- The bits of attributes.
use Rattle.std.proofs.Common.{◌≡◌, ◌≢◌, ℕ, ◌+◌, ◌*◌, ◌%◌, ◌^◌, ◌<◌, ◌≤◌, ◌==◌, Bool, true, false, cond, refl, sym, ◌∙◌, ap, subst, arith, ◌⊎◌, inl, inr}
use Rattle.sdt_word.specs.Numbers.{bit, bits, flag}
use Rattle.aof_object.specs.Checks.{refused_area_bits, is_placed, refused_symbol_bits}
use Rattle.asm_model.specs.declared.directives.Contents.{Contents}
use Rattle.asm_model.specs.declared.directives.Contents.TheVariants as contents
use Rattle.asm_model.specs.Fit.{MarksAgree}
use Rattle.source_model.specs.Objects.{contents_bits}

pub flag_small : (b : Bool) → flag b ≤ 1
flag_small true = omega arith
flag_small false = omega arith

-- ---- areas

abbrev pub number_of : ℕ → ℕ → ℕ → ℕ → ℕ → ℕ → ℕ → ℕ → ℕ
number_of e c r p q t h i = e + c + r * 2 ^ 13 + p * 2 ^ 14 + q * 2 ^ 17 + t * 2 ^ 20 + h * 2 ^ 21 + i * 2 ^ 22

pub low_byte : (e c r p q t h i : ℕ) → e ≤ 16 → c % 512 ≡ 0 → number_of e c r p q t h i % 256 ≡ e
low_byte e c r p q t h i small whole = omega arith

pub refused_none : (a : ℕ) → bit a 8 ≡ 0 → bit a 10 ≡ 0 → bit a 11 ≡ 0 → bit a 15 ≡ 0 → (bit a 9 ≡ 1) ⊎ (bits a 20 8 ≡ 0) → refused_area_bits a ≡ 0
refused_none a x y z w (inl k) = rw (x, y, z, w, k) refl
refused_none a x y z w (inr k) = rw (x, y, z, w, k) (nothing (bit a 9 == 1))
  where
    nothing : (b : Bool) → 0 + 0 + 0 + 0 + cond b 0 0 ≡ 0
    nothing true = refl
    nothing false = refl

abbrev pub IsExponent : ℕ → Type 0
IsExponent e = (2 ≤ e) × (e ≤ 16)

pub code_bits : (e r p q t h i : ℕ) → e ≤ 16 → r ≤ 1 → p ≤ 1 → q ≤ 1 → t ≤ 1 → h ≤ 1 → i ≤ 1
    → (bit (number_of e (2 ^ 9) r p q t h i) 8 ≡ 0) × (bit (number_of e (2 ^ 9) r p q t h i) 10 ≡ 0) × (bit (number_of e (2 ^ 9) r p q t h i) 11 ≡ 0)
    × (bit (number_of e (2 ^ 9) r p q t h i) 15 ≡ 0) × (bit (number_of e (2 ^ 9) r p q t h i) 9 ≡ 1) × (bit (number_of e (2 ^ 9) r p q t h i) 12 ≡ 0)
    × (bit (number_of e (2 ^ 9) r p q t h i) 20 ≡ t)
code_bits e r p q t h i a b c d f g k = (omega arith, omega arith, omega arith, omega arith, omega arith, omega arith, omega arith)

pub data_bits : (e r p q : ℕ) → e ≤ 16 → r ≤ 1 → p ≤ 1 → q ≤ 1
    → (bit (number_of e 0 r p q 0 0 0) 8 ≡ 0) × (bit (number_of e 0 r p q 0 0 0) 10 ≡ 0) × (bit (number_of e 0 r p q 0 0 0) 11 ≡ 0)
    × (bit (number_of e 0 r p q 0 0 0) 15 ≡ 0) × (bits (number_of e 0 r p q 0 0 0) 20 8 ≡ 0) × (bit (number_of e 0 r p q 0 0 0) 12 ≡ 0)
    × (bit (number_of e 0 r p q 0 0 0) 20 ≡ 0)
data_bits e r p q a b c d = (omega arith, omega arith, omega arith, omega arith, omega arith, omega arith, omega arith)

pub zero_bits : (e r p q : ℕ) → e ≤ 16 → r ≤ 1 → p ≤ 1 → q ≤ 1
    → (bit (number_of e (2 ^ 12) r p q 0 0 0) 8 ≡ 0) × (bit (number_of e (2 ^ 12) r p q 0 0 0) 10 ≡ 0) × (bit (number_of e (2 ^ 12) r p q 0 0 0) 11 ≡ 0)
    × (bit (number_of e (2 ^ 12) r p q 0 0 0) 15 ≡ 0) × (bits (number_of e (2 ^ 12) r p q 0 0 0) 20 8 ≡ 0) × (bit (number_of e (2 ^ 12) r p q 0 0 0) 12 ≡ 1)
    × (bit (number_of e (2 ^ 12) r p q 0 0 0) 20 ≡ 0)
zero_bits e r p q a b c d = (omega arith, omega arith, omega arith, omega arith, omega arith, omega arith, omega arith)

abbrev pub zero_flag : Contents → ℕ
zero_flag contents.Zeroes = 1
zero_flag _ = 0

-- the attributes of an area whose first instruction is of Thumb or ARM state
abbrev pub area_word : ℕ → Contents → Bool → Bool → Bool → Bool → Bool → Bool → ℕ
area_word e c r p q t h i = number_of e (contents_bits c) (flag r) (flag p) (flag q) (flag t) (flag h) (flag i)

-- only code is of Thumb state
abbrev pub StateAgrees : Contents → Bool → Type 0
StateAgrees contents.Code thumb = Unit {0}
StateAgrees _ thumb = thumb ≡ false

pub record AreIn (a e : ℕ) (c : Contents) (thumb : Bool) : Type 0 where
  pub low : a % 256 ≡ e
  pub refused : refused_area_bits a ≡ 0
  pub zero : bit a 12 ≡ zero_flag c
  pub state : bit a 20 ≡ flag thumb

pub area_bits : (e : ℕ) (c : Contents) (r p q t h i : Bool) → IsExponent e → MarksAgree c i h → StateAgrees c t
    → AreIn (area_word e c r p q t h i) e c t
area_bits e contents.Code r p q t h i x m s =
    let b = code_bits e (flag r) (flag p) (flag q) (flag t) (flag h) (flag i) x.1
    (flag_small r) (flag_small p) (flag_small q) (flag_small t) (flag_small h) (flag_small i) in
    record {
      low = low_byte e (2 ^ 9) (flag r) (flag p) (flag q) (flag t) (flag h) (flag i) x.1 refl;
      refused = refused_none (area_word e contents.Code r p q t h i) b.0 b.1 b.2 b.3 (inl b.4);
      zero = b.5;
      state = b.6;
    }
area_bits e contents.Data r p q t h i x m s =
    subst (λ y. AreIn (area_word e contents.Data r p q y h i) e contents.Data y) (sym s)
    (subst (λ z. AreIn (area_word e contents.Data r p q false z i) e contents.Data false) (sym m.1)
    (subst (λ z. AreIn (area_word e contents.Data r p q false false z) e contents.Data false) (sym m.0) unmarked))
  where
    unmarked : AreIn (area_word e contents.Data r p q false false false) e contents.Data false
    unmarked =
        let b = data_bits e (flag r) (flag p) (flag q) x.1 (flag_small r) (flag_small p) (flag_small q) in
        record {
          low = low_byte e 0 (flag r) (flag p) (flag q) 0 0 0 x.1 refl;
          refused = refused_none (area_word e contents.Data r p q false false false) b.0 b.1 b.2 b.3 (inr b.4);
          zero = b.5;
          state = b.6;
        }
area_bits e contents.Zeroes r p q t h i x m s =
    subst (λ y. AreIn (area_word e contents.Zeroes r p q y h i) e contents.Zeroes y) (sym s)
    (subst (λ z. AreIn (area_word e contents.Zeroes r p q false z i) e contents.Zeroes false) (sym m.1)
    (subst (λ z. AreIn (area_word e contents.Zeroes r p q false false z) e contents.Zeroes false) (sym m.0) unmarked))
  where
    unmarked : AreIn (area_word e contents.Zeroes r p q false false false) e contents.Zeroes false
    unmarked =
        let b = zero_bits e (flag r) (flag p) (flag q) x.1 (flag_small r) (flag_small p) (flag_small q) in
        record {
          low = low_byte e (2 ^ 12) (flag r) (flag p) (flag q) 0 0 0 x.1 refl;
          refused = refused_none (area_word e contents.Zeroes r p q false false false) b.0 b.1 b.2 b.3 (inr b.4);
          zero = b.5;
          state = b.6;
        }

-- ---- relocations

pub by_area : (n : ℕ) → n < 2 ^ 24
    → (bit (2 ^ 31 + 2 * 2 ^ 24 + n) 31 ≡ 1) × (bit (2 ^ 31 + 2 * 2 ^ 24 + n) 27 ≡ 0) × ((2 ^ 31 + 2 * 2 ^ 24 + n) % 2 ^ 24 ≡ n)
by_area n h = (omega arith, omega arith, omega arith)

pub by_symbol : (n : ℕ) → n < 2 ^ 24
    → (bit (2 ^ 31 + 2 ^ 27 + 2 * 2 ^ 24 + n) 31 ≡ 1) × (bit (2 ^ 31 + 2 ^ 27 + 2 * 2 ^ 24 + n) 27 ≡ 1) × ((2 ^ 31 + 2 ^ 27 + 2 * 2 ^ 24 + n) % 2 ^ 24 ≡ n)
by_symbol n h = (omega arith, omega arith, omega arith)

pub by_branch : (n : ℕ) → n < 2 ^ 24
    → (bit (2 ^ 31 + 2 ^ 27 + 2 ^ 26 + 3 * 2 ^ 24 + n) 31 ≡ 1) × (bit (2 ^ 31 + 2 ^ 27 + 2 ^ 26 + 3 * 2 ^ 24 + n) 27 ≡ 1)
    × ((2 ^ 31 + 2 ^ 27 + 2 ^ 26 + 3 * 2 ^ 24 + n) % 2 ^ 24 ≡ n)
by_branch n h = (omega arith, omega arith, omega arith)

-- ---- symbols

pub record IsAllowed (a : ℕ) : Type 0 where
  pub permitted : refused_symbol_bits a ≡ 0
  pub scope : a % 4 ≢ 0

pub refused_symbol_none : (a : ℕ) → bit a 3 ≡ 0 → bit a 5 ≡ 0 → bit a 6 ≡ 0 → refused_symbol_bits a ≡ 0
refused_symbol_none a x y z = rw (x, y, z) refl

pub reference_bits : (w : ℕ) → w ≤ 1 → (bit (2 + w * 2 ^ 4) 3 ≡ 0) × (bit (2 + w * 2 ^ 4) 5 ≡ 0) × (bit (2 + w * 2 ^ 4) 6 ≡ 0) × (bit (2 + w * 2 ^ 4) 0 ≡ 0)
    × ((2 + w * 2 ^ 4) % 4 ≡ 2)
reference_bits w h = (omega arith, omega arith, omega arith, omega arith, omega arith)

pub placed_bits : (s m t : ℕ) → 1 ≤ s → s ≤ 3 → m ≤ 1 → t ≤ 1
    → (bit (s + (m * 2 ^ 8 + t * 2 ^ 12)) 3 ≡ 0) × (bit (s + (m * 2 ^ 8 + t * 2 ^ 12)) 5 ≡ 0) × (bit (s + (m * 2 ^ 8 + t * 2 ^ 12)) 6 ≡ 0)
    × ((s + (m * 2 ^ 8 + t * 2 ^ 12)) % 4 ≡ s)
placed_bits s m t a b c d = (omega arith, omega arith, omega arith, omega arith)

pub absolute_bits : (s : ℕ) → 1 ≤ s → s ≤ 3
    → (bit (s + 2 ^ 2) 3 ≡ 0) × (bit (s + 2 ^ 2) 5 ≡ 0) × (bit (s + 2 ^ 2) 6 ≡ 0) × (bit (s + 2 ^ 2) 2 ≡ 1) × ((s + 2 ^ 2) % 4 ≡ s)
absolute_bits s a b = (omega arith, omega arith, omega arith, omega arith, omega arith)

pub not_none : (a s : ℕ) → a ≡ s → 1 ≤ s → a ≢ 0
not_none a s e h = λ x. let y : 0 ≡ s = sym x ∙ e in absurd (omega (arith, y, h))

pub reference_allowed : (w : Bool) → IsAllowed (2 + flag w * 2 ^ 4) × (is_placed (2 + flag w * 2 ^ 4) ≡ false)
reference_allowed w =
    let b = reference_bits (flag w) (flag_small w) in (
      record {
        permitted = refused_symbol_none (2 + flag w * 2 ^ 4) b.0 b.1 b.2;
        scope = not_none ((2 + flag w * 2 ^ 4) % 4) 2 b.4 (omega arith);
      },
      ap (λ z. cond (z == 1) (bit (2 + flag w * 2 ^ 4) 2 == 0) false) b.3,
    )

pub placed_allowed : (s : ℕ) (m t : Bool) → 1 ≤ s → s ≤ 3 → IsAllowed (s + (flag m * 2 ^ 8 + flag t * 2 ^ 12))
placed_allowed s m t a c =
    let b = placed_bits s (flag m) (flag t) a c (flag_small m) (flag_small t) in
    record {
      permitted = refused_symbol_none (s + (flag m * 2 ^ 8 + flag t * 2 ^ 12)) b.0 b.1 b.2;
      scope = not_none ((s + (flag m * 2 ^ 8 + flag t * 2 ^ 12)) % 4) s b.3 a;
    }

pub absolute_allowed : (s : ℕ) → 1 ≤ s → s ≤ 3 → IsAllowed (s + 2 ^ 2) × (is_placed (s + 2 ^ 2) ≡ false)
absolute_allowed s a c =
    let b = absolute_bits s a c in (
      record { permitted = refused_symbol_none (s + 2 ^ 2) b.0 b.1 b.2; scope = not_none ((s + 2 ^ 2) % 4) s b.4 a },
      ap (λ z. cond (bit (s + 2 ^ 2) 0 == 1) (z == 0) false) b.3 ∙ either (bit (s + 2 ^ 2) 0 == 1),
    )
  where
    either : (b : Bool) → cond b false false ≡ false
    either true = refl
    either false = refl
