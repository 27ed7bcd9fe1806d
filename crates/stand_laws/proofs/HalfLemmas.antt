-- Numbers in the fields of instructions of Thumb state: displacements of branches, and distances from pc in words.
use Rattle.std.proofs.Common.{◌≡◌, ℕ, ◌+◌, ◌-◌, ◌*◌, ◌/◌, ◌%◌, ◌^◌, ◌<◌, ◌≤◌, ◌==◌, ◌||◌, nat_lt, nat_le, Bool, true, false, cond, refl, subst, arith}
use Rattle.std.specs.Prelude.{Ok, Err}
use Rattle.std.proofs.lemmas.Bool.{ltb-true, leb-true, eqb-true}
use Rattle.sdt_fault.specs.declared.kinds.LineKind.TheVariants.{BadOperand, OutOfRange}
use Rattle.sdt_word.specs.Numbers.{sign_extended}
use Rattle.source_model.specs.ThumbForms.{half_words, units_below}
use Rattle.stand_model.specs.Stands.{word_pc}

-- how far an offset lies behind pc of a half-word at another
abbrev pub behind : ℕ → ℕ → ℕ
behind at o = (o + (2 ^ 32 - (at + 4))) % 2 ^ 32

pub behind_small : (at o d : ℕ) → d ≡ behind at o → d < 2 ^ 32
behind_small at o d h = omega (arith, h)

pub behind_leads : (base at o a d target : ℕ) → at + 8 ≤ 2 ^ 32 → a ≡ base + at → d ≡ behind at o → (base + o) % 2 ^ 32 ≡ target
    → (a + 4 + d) % 2 ^ 32 ≡ target % 2 ^ 32
behind_leads base at o a d target small e h t = omega (arith, small, e, h, t)

-- ---- displacements

-- a displacement that a field of so many bits holds
pub record HoldsHalves (size d f : ℕ) : Type 0 where
  pub spans : (x : ℕ) → (x + sign_extended f size * 2) % 2 ^ 32 ≡ (x + d) % 2 ^ 32

-- fields of so many bits, for displacements below a limit
pub record IsWidth (limit size : ℕ) : Type 0 where
  pub ahead : (d : ℕ) → d % 2 ≡ 0 → d < limit → (x : ℕ) → (x + sign_extended (d / 2 % limit) size * 2) % 2 ^ 32 ≡ (x + d) % 2 ^ 32
  pub back : (d : ℕ) → d % 2 ≡ 0 → d < 2 ^ 32 → 2 ^ 32 - limit ≤ d → (x : ℕ) → (x + sign_extended (d / 2 % limit) size * 2) % 2 ^ 32 ≡ (x + d) % 2 ^ 32

pub conditional_width : IsWidth (2 ^ 8) 8
conditional_width = record { ahead = λ d even low x. grind arith; back = λ d even small high x. grind arith }

pub short_width : IsWidth (2 ^ 11) 11
short_width = record { ahead = λ d even low x. grind arith; back = λ d even small high x. grind arith }

pub link_width : IsWidth (2 ^ 22) 22
link_width = record { ahead = λ d even low x. grind arith; back = λ d even small high x. grind arith }

pub halves_held : (limit size d f : ℕ) → IsWidth limit size → d < 2 ^ 32 → half_words limit d ≡ Ok f → HoldsHalves size d f
halves_held limit size d f width small h = by_whole (d % 2 == 0) refl h
  where
    held : d % 2 ≡ 0 → (b c : Bool) → nat_lt d limit ≡ b → nat_le (2 ^ 32 - limit) d ≡ c → (b || c) ≡ true
        → (x : ℕ) → (x + sign_extended (d / 2 % limit) size * 2) % 2 ^ 32 ≡ (x + d) % 2 ^ 32
    held even true c s t or = width.ahead d even (ltb-true d limit s)
    held even false true s t or = width.back d even small (leb-true (2 ^ 32 - limit) d t)
    held even false false s t or = absurd (cc)

    by_range : d % 2 ≡ 0 → (b : Bool) → (nat_lt d limit || nat_le (2 ^ 32 - limit) d) ≡ b → cond b (Ok (d / 2 % limit)) (Err OutOfRange) ≡ Ok f
        → HoldsHalves size d f
    by_range even true s k =
        let same : d / 2 % limit ≡ f = cc in
        subst (HoldsHalves size d) same (record { spans = held even (nat_lt d limit) (nat_le (2 ^ 32 - limit) d) refl refl s })
    by_range even false s k = absurd (cc)

    by_whole : (t : Bool) → (d % 2 == 0) ≡ t
        → cond t (cond (nat_lt d limit || nat_le (2 ^ 32 - limit) d) (Ok (d / 2 % limit)) (Err OutOfRange)) (Err BadOperand) ≡ Ok f → HoldsHalves size d f
    by_whole true s k = by_range (eqb-true (d % 2) 0 s) (nat_lt d limit || nat_le (2 ^ 32 - limit) d) refl k
    by_whole false s k = absurd (cc)

-- the fields of both halves
pub link_field : (f : ℕ) → f / 2 ^ 11 * 2 ^ 11 + f % 2 ^ 11 ≡ f
link_field f = omega arith

pub linked_leads : (at d s n m address : ℕ) → at + 8 ≤ 2 ^ 32 → d ≡ behind at n → (at + 4 + s * 2) % 2 ^ 32 ≡ (at + 4 + d) % 2 ^ 32
    → address % 2 ^ 32 ≡ m % 2 ^ 32
    → (at + 4 + s * 2 + m) % 2 ^ 32 ≡ (address + n) % 2 ^ 32
linked_leads at d s n m address small h same meet = omega (arith, small, h, same, meet)

-- ---- words behind pc

pub words_are : (n f : ℕ) → units_below 4 256 n ≡ Ok f → f * 4 ≡ n
words_are n f h = by_whole (n % 4 == 0) refl h
  where
    by_whole : (t : Bool) → (n % 4 == 0) ≡ t → cond t (cond (nat_lt (n / 4) 256) (Ok (n / 4)) (Err OutOfRange)) (Err BadOperand) ≡ Ok f → f * 4 ≡ n
    by_whole true s k = by_limit (nat_lt (n / 4) 256) k
      where
        by_limit : (b : Bool) → cond b (Ok (n / 4)) (Err OutOfRange) ≡ Ok f → f * 4 ≡ n
        by_limit true j = let same : n / 4 ≡ f = cc in let even : n % 4 ≡ 0 = eqb-true (n % 4) 0 s in omega arith
        by_limit false j = absurd (cc)
    by_whole false s k = absurd (cc)

pub words_lead : (base at o a n : ℕ) → at + 8 ≤ 2 ^ 32 → base % 4 ≡ 0 → a ≡ base + at → n ≡ (o + (2 ^ 32 - (at + 4) / 4 * 4)) % 2 ^ 32
    → (word_pc a + n) % 2 ^ 32 ≡ (base + o) % 2 ^ 32
words_lead base at o a n small whole e h = omega (arith, small, whole, e, h)
