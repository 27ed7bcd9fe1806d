-- The registers after reset are those of a valid state, in ARM and in Thumb state.
use Rattle.std.proofs.Common.{◌≡◌, ◌≢◌, ℕ, zero, suc, ◌^◌, ◌%◌, ◌<◌, Bool, true, false, List, [], ◌∷◌, ◌++◌, length, refl, subst, sym, ap, arith}
use Rattle.std.specs.Prelude.{IsTrue, slice_index}
use Rattle.arm7_model.specs.declared.state.ArmState.{ArmState}
use Rattle.arm7_model.specs.Registers.{AreWords, IsStatus, IsValid, bank_in, has_mode, is_thumb, mode_in, mode_named, register}
use Rattle.arm7_core.specs.Resets.{IsReset, reset_status}

abbrev AllZero : List ℕ → Type 0
AllZero [] = Unit {0}
AllZero (x ∷ xs) = (x ≡ 0) × AllZero xs

abbrev AllWords : List ℕ → Type 0
AllWords [] = Unit {0}
AllWords (x ∷ xs) = (x < 2 ^ 32) × AllWords xs

zero-at : (xs : List ℕ) (k : ℕ) → AllZero xs → slice_index xs k ≡ 0
zero-at [] k h = refl
zero-at (x ∷ xs) zero h = h.0
zero-at (x ∷ xs) (suc k) h = zero-at xs k h.1

word-at : (xs : List ℕ) (k : ℕ) → AllWords xs → slice_index xs k < 2 ^ 32
word-at [] k h = omega arith
word-at (x ∷ xs) zero h = h.0
word-at (x ∷ xs) (suc k) h = word-at xs k h.1

-- all but the last are 0
front-at : (xs : List ℕ) (v k : ℕ) → AllZero xs → k ≢ length xs → slice_index (xs ++ v ∷ []) k ≡ 0
front-at [] v zero h n = absurd (n refl)
front-at [] v (suc k) h n = refl
front-at (x ∷ xs) v zero h n = h.0
front-at (x ∷ xs) v (suc k) h n = front-at xs v k h.1 (λ e. n (ap suc e))

words : (xs : List ℕ) (n : ℕ) → length xs ≡ n → AllWords xs → AreWords n xs
words xs n e h = record { count = e; each = λ k. word-at xs k h }

none : IsStatus 0
none = record { is_word = omega arith; reserved = refl }

-- ---- the status, in each state

moded : (thumb : Bool) → has_mode (reset_status thumb) ≡ true
unfolding has_mode mode_in mode_named
moded true = refl
moded false = refl

fit : (thumb : Bool) → IsStatus (reset_status thumb)
fit true = record { is_word = omega arith; reserved = refl }
fit false = record { is_word = omega arith; reserved = refl }

even : (thumb : Bool) (pc : ℕ) → (IsTrue thumb → pc % 2 ≡ 0) → is_thumb (reset_status thumb) ≡ true → pc % 2 ≡ 0
unfolding is_thumb
even true pc h e = h refl
even false pc h e = absurd (let never : false ≡ true = e in cc)

-- ---- the registers

abbrev state : ℕ → Bool → ArmState
state pc thumb = record {
  r = 0 ∷ 0 ∷ 0 ∷ 0 ∷ 0 ∷ 0 ∷ 0 ∷ 0 ∷ 0 ∷ 0 ∷ 0 ∷ 0 ∷ 0 ∷ 0 ∷ 0 ∷ pc ∷ [];
  banks = record { high = 0 ∷ 0 ∷ 0 ∷ 0 ∷ 0 ∷ []; r13 = 0 ∷ 0 ∷ 0 ∷ 0 ∷ 0 ∷ 0 ∷ []; r14 = 0 ∷ 0 ∷ 0 ∷ 0 ∷ 0 ∷ 0 ∷ [] };
  cpsr = reset_status thumb;
  spsr = 0 ∷ 0 ∷ 0 ∷ 0 ∷ 0 ∷ [];
}

zeros : AllZero (0 ∷ 0 ∷ 0 ∷ 0 ∷ 0 ∷ 0 ∷ [])
zeros = (refl, (refl, (refl, (refl, (refl, (refl, tt))))))

valid : (pc : ℕ) (thumb : Bool) → pc < 2 ^ 32 → (IsTrue thumb → pc % 2 ≡ 0) → IsValid (state pc thumb)
valid pc thumb small whole = record {
  visible = words (state pc thumb).r 16 refl (omega arith, (omega arith, (omega arith, (omega arith, (omega arith, (omega arith, (omega arith, (omega arith, (omega arith, (omega arith, (omega arith, (omega arith, (omega arith, (omega arith, (omega arith, (small, tt))))))))))))))));
  high = words (state pc thumb).banks.high 5 refl (omega arith, (omega arith, (omega arith, (omega arith, (omega arith, tt)))));
  r13 = words (state pc thumb).banks.r13 6 refl (omega arith, (omega arith, (omega arith, (omega arith, (omega arith, (omega arith, tt))))));
  r14 = words (state pc thumb).banks.r14 6 refl (omega arith, (omega arith, (omega arith, (omega arith, (omega arith, (omega arith, tt))))));
  no_r13 = zero-at (state pc thumb).banks.r13 (bank_in (reset_status thumb)) zeros;
  no_r14 = zero-at (state pc thumb).banks.r14 (bank_in (reset_status thumb)) zeros;
  mode = moded thumb;
  status = fit thumb;
  saved_count = refl;
  saved_status = λ k. subst (λ (v : ℕ). IsStatus v) (sym (zero-at (state pc thumb).spsr k (refl, (refl, (refl, (refl, (refl, tt))))))) none;
  even = even thumb pc whole;
}

pub reset_state : (pc : ℕ) (thumb : Bool) → pc < 2 ^ 32 → (IsTrue thumb → pc % 2 ≡ 0) → IsReset pc thumb (state pc thumb)
unfolding register
reset_state pc thumb small whole = record {
  status = refl;
  address = refl;
  others = λ k n. front-at (0 ∷ 0 ∷ 0 ∷ 0 ∷ 0 ∷ 0 ∷ 0 ∷ 0 ∷ 0 ∷ 0 ∷ 0 ∷ 0 ∷ 0 ∷ 0 ∷ 0 ∷ []) pc k (refl, (refl, (refl, (refl, (refl, (refl, (refl, (refl, (refl, (refl, (refl, (refl, (refl, (refl, (refl, tt))))))))))))))) n;
  high = λ k. zero-at (state pc thumb).banks.high k (refl, (refl, (refl, (refl, (refl, tt)))));
  r13 = λ k. zero-at (state pc thumb).banks.r13 k zeros;
  r14 = λ k. zero-at (state pc thumb).banks.r14 k zeros;
  saved = λ k. zero-at (state pc thumb).spsr k (refl, (refl, (refl, (refl, (refl, tt)))));
  valid = valid pc thumb small whole;
}
