-- What keeps the registers valid: writes of words, of flags and of status registers.
use Rattle.std.proofs.Common.{◌≡◌, ◌≢◌, ℕ, zero, suc, ◌+◌, ◌-◌, ◌*◌, ◌/◌, ◌%◌, ◌^◌, ◌<◌, ◌≤◌, Bool, true, false, ◌==◌, if◌then◌else◌, List, [], ◌∷◌, ◌++◌, length, take, drop, refl, sym, ap, ◌∙◌, arith, get_or-set_same, get_or-set_other, length-append, length-drop, length-take-le}
use Rattle.std.specs.Prelude.{slice_index, slice_set}
use Rattle.std.proofs.lemmas.Bool.{eqb-false}
use Rattle.std.proofs.lemmas.List.{length-set}
use Rattle.sdt_word.specs.Numbers.{bit, bits}
use Rattle.arm7_model.specs.declared.state.ArmState.{ArmState}
use Rattle.arm7_model.specs.declared.state.Mode.{Mode}
use Rattle.arm7_model.specs.declared.state.Mode.TheVariants as mode
use Rattle.arm7_model.specs.Registers.{bank, AreWords, IsStatus, IsValid, register, with_register, with_pc, as_pc, with_result, operand_at, is_thumb, has_mode, bank_in, mode_in, saved, with_saved, with_cpsr, with_pair, with_high, with_other_high, bank_after, visible_after}
use Rattle.arm7_model.specs.Arithmetic.{with_flags}

-- valid but for the pc in Thumb state
pub record IsNearlyValid (s : ArmState) : Type 0 where
  pub visible : AreWords 16 s.r
  pub high : AreWords 5 s.banks.high
  pub r13 : AreWords 6 s.banks.r13
  pub r14 : AreWords 6 s.banks.r14
  pub no_r13 : slice_index s.banks.r13 (bank_in s.cpsr) ≡ 0
  pub no_r14 : slice_index s.banks.r14 (bank_in s.cpsr) ≡ 0
  pub mode : has_mode s.cpsr ≡ true
  pub status : IsStatus s.cpsr
  pub saved_count : length s.spsr ≡ 5
  pub saved_status : (k : ℕ) → IsStatus (slice_index s.spsr k)

pub nearly : (s : ArmState) → IsValid s → IsNearlyValid s
nearly s v = record {
  visible = v.visible;
  high = v.high;
  r13 = v.r13;
  r14 = v.r14;
  no_r13 = v.no_r13;
  no_r14 = v.no_r14;
  mode = v.mode;
  status = v.status;
  saved_count = v.saved_count;
  saved_status = v.saved_status;
}

pub whole : (s : ArmState) → IsNearlyValid s → (is_thumb s.cpsr ≡ true → slice_index s.r 15 % 2 ≡ 0) → IsValid s
whole s v even = record {
  visible = v.visible;
  high = v.high;
  r13 = v.r13;
  r14 = v.r14;
  no_r13 = v.no_r13;
  no_r14 = v.no_r14;
  mode = v.mode;
  status = v.status;
  saved_count = v.saved_count;
  saved_status = v.saved_status;
  even = even;
}

-- ---- lists of words

set-each : (P : ℕ → Type 0) (xs : List ℕ) (i v k : ℕ) → ((k : ℕ) → P (slice_index xs k)) → P v → P (slice_index (slice_set xs i v) k)
set-each P [] i v k each pv = each k
set-each P (x ∷ xs) zero v zero each pv = pv
set-each P (x ∷ xs) zero v (suc k) each pv = each (suc k)
set-each P (x ∷ xs) (suc i) v zero each pv = each 0
set-each P (x ∷ xs) (suc i) v (suc k) each pv = set-each P xs i v k (λ j. each (suc j)) pv

pub words-set : (n : ℕ) (xs : List ℕ) (i v : ℕ) → AreWords n xs → v < 2 ^ 32 → AreWords n (slice_set xs i v)
words-set n xs i v w small = record {
  count = length-set xs i v ∙ w.count;
  each = λ k. let P : ℕ → Type 0 = λ x. x < 2 ^ 32 in set-each P xs i v k w.each small;
}

-- ---- one register

pub nearly-register : (s : ArmState) (k v : ℕ) → IsNearlyValid s → v < 2 ^ 32 → IsNearlyValid (with_register s k v)
unfolding with_register
nearly-register s k v h small = record {
  visible = words-set 16 s.r k v h.visible small;
  high = h.high;
  r13 = h.r13;
  r14 = h.r14;
  no_r13 = h.no_r13;
  no_r14 = h.no_r14;
  mode = h.mode;
  status = h.status;
  saved_count = h.saved_count;
  saved_status = h.saved_status;
}

pub valid-register : (s : ArmState) (k v : ℕ) → IsValid s → v < 2 ^ 32 → k ≢ 15 → IsValid (with_register s k v)
unfolding with_register
valid-register s k v h small other =
    whole (with_register s k v) (nearly-register s k v (nearly s h) small)
    (λ t. let same : slice_index (slice_set s.r k v) 15 ≡ slice_index s.r 15 = get_or-set_other s.r k 15 v 0 (λ e. other (sym e)) in rw same (h.even t))

-- pc takes an even address, or any in ARM state
pub valid-at : (s : ArmState) (v : ℕ) → IsNearlyValid s → v < 2 ^ 32 → (is_thumb s.cpsr ≡ true → v % 2 ≡ 0) → IsValid (with_register s 15 v)
unfolding with_register
valid-at s v h small even =
    let count = h.visible.count in
    let inside : 15 < length s.r = omega arith in
    whole (with_register s 15 v) (nearly-register s 15 v h small)
    (λ t. let same : slice_index (slice_set s.r 15 v) 15 ≡ v = get_or-set_same s.r 15 v 0 inside in rw same (even t))

as_pc-small : (status v : ℕ) → v < 2 ^ 32 → as_pc status v < 2 ^ 32
unfolding as_pc
as_pc-small status v small = go (is_thumb status)
  where
    go : (b : Bool) → (if b then v - v % 2 else v - v % 4) < 2 ^ 32
    go true = omega arith
    go false = omega arith

as_pc-even : (status v : ℕ) → as_pc status v % 2 ≡ 0
unfolding as_pc
as_pc-even status v = go (is_thumb status)
  where
    go : (b : Bool) → (if b then v - v % 2 else v - v % 4) % 2 ≡ 0
    go true = omega arith
    go false = omega arith

pub valid-pc : (s : ArmState) (v : ℕ) → IsNearlyValid s → v < 2 ^ 32 → IsValid (with_pc s v)
unfolding with_pc
valid-pc s v h small = valid-at s (as_pc s.cpsr v) h (as_pc-small s.cpsr v small) (λ t. as_pc-even s.cpsr v)

pub valid-result : (s : ArmState) (k v : ℕ) → IsValid s → v < 2 ^ 32 → IsValid (with_result s k v)
unfolding with_result
valid-result s k v h small = go (k == 15) refl
  where
    go : (b : Bool) → (k == 15) ≡ b → IsValid (if b then with_pc s v else with_register s k v)
    go true e = valid-pc s v (nearly s h) small
    go false e = valid-register s k v h small (eqb-false k 15 e)

-- ---- reads

pub register-small : (s : ArmState) (k : ℕ) → IsNearlyValid s → register s k < 2 ^ 32
unfolding register
register-small s k h = h.visible.each k

pub operand-small : (s : ArmState) (k : ℕ) → IsNearlyValid s → operand_at s k < 2 ^ 32
unfolding operand_at
operand-small s k h = go (k == 15)
  where
    go : (b : Bool) → (if b then (register s 15 + (if is_thumb s.cpsr then 2 else 4)) % 2 ^ 32 else register s k) < 2 ^ 32
    go true = omega arith
    go false = register-small s k h

-- a status with the same low 28 bits is of the same mode and state
same-fields : (x y : ℕ) → x % 2 ^ 28 ≡ y % 2 ^ 28 → (bits x 0 5 ≡ bits y 0 5) × (bit x 5 ≡ bit y 5) × (bits x 8 20 ≡ bits y 8 20)
same-fields x y h = (omega arith, omega arith, omega arith)

flags-small : (status v c o : ℕ) → c ≤ 1 → o ≤ 1 → with_flags status v c o < 2 ^ 32
unfolding with_flags
flags-small status v c o hc ho = go (v == 0)
  where
    go : (b : Bool) → v / 2 ^ 31 % 2 * 2 ^ 31 + (if b then 1 else 0) * 2 ^ 30 + c * 2 ^ 29 + o * 2 ^ 28 + status % 2 ^ 28 < 2 ^ 32
    go true = omega arith
    go false = omega arith

flags-low : (status v c o : ℕ) → with_flags status v c o % 2 ^ 28 ≡ status % 2 ^ 28
unfolding with_flags
flags-low status v c o = omega arith

-- CPSR may change in its flags
pub nearly-status : (s : ArmState) (x : ℕ) → IsNearlyValid s → x < 2 ^ 32 → x % 2 ^ 28 ≡ s.cpsr % 2 ^ 28 → IsNearlyValid (record s { cpsr = x })
unfolding bank_in mode_in has_mode
nearly-status s x h small low =
    let same = same-fields x s.cpsr low in
    record {
      visible = h.visible;
      high = h.high;
      r13 = h.r13;
      r14 = h.r14;
      no_r13 = rw same.0 h.no_r13;
      no_r14 = rw same.0 h.no_r14;
      mode = rw same.0 h.mode;
      status = record { is_word = small; reserved = same.2 ∙ h.status.reserved };
      saved_count = h.saved_count;
      saved_status = h.saved_status;
    }

pub valid-status : (s : ArmState) (x : ℕ) → IsValid s → x < 2 ^ 32 → x % 2 ^ 28 ≡ s.cpsr % 2 ^ 28 → IsValid (record s { cpsr = x })
unfolding is_thumb
valid-status s x h small low =
    let same = same-fields x s.cpsr low in
    whole (record s { cpsr = x }) (nearly-status s x (nearly s h) small low) (λ t. h.even (ap (λ (b : ℕ). b == 1) (sym same.1) ∙ t))

pub valid-flags : (s : ArmState) (v c o : ℕ) → IsValid s → c ≤ 1 → o ≤ 1 → IsValid (record s { cpsr = with_flags s.cpsr v c o })
valid-flags s v c o h hc ho = valid-status s (with_flags s.cpsr v c o) h (flags-small s.cpsr v c o hc ho) (flags-low s.cpsr v c o)

-- ---- the banks

each-append : (P : ℕ → Type 0) (xs ys : List ℕ) (k : ℕ) → ((k : ℕ) → P (slice_index xs k)) → ((k : ℕ) → P (slice_index ys k)) → P (slice_index (xs ++ ys) k)
each-append P [] ys k hx hy = hy k
each-append P (x ∷ xs) ys zero hx hy = hx 0
each-append P (x ∷ xs) ys (suc k) hx hy = each-append P xs ys k (λ j. hx (suc j)) hy

each-take : (P : ℕ → Type 0) (n : ℕ) (xs : List ℕ) (k : ℕ) → P 0 → ((k : ℕ) → P (slice_index xs k)) → P (slice_index (take n xs) k)
each-take P zero xs k z h = z
each-take P (suc n) [] k z h = z
each-take P (suc n) (x ∷ xs) zero z h = h 0
each-take P (suc n) (x ∷ xs) (suc k) z h = each-take P n xs k z (λ j. h (suc j))

each-drop : (P : ℕ → Type 0) (n : ℕ) (xs : List ℕ) (k : ℕ) → P 0 → ((k : ℕ) → P (slice_index xs k)) → P (slice_index (drop n xs) k)
each-drop P zero xs k z h = h k
each-drop P (suc n) [] k z h = z
each-drop P (suc n) (x ∷ xs) k z h = each-drop P n xs k z (λ j. h (suc j))

visible-swapped : (r high : List ℕ) → AreWords 16 r → AreWords 5 high → AreWords 16 (take 8 r ++ (high ++ drop 13 r))
visible-swapped r high hr hh =
    let nr = hr.count in let nh = hh.count in
    let P : ℕ → Type 0 = λ x. x < 2 ^ 32 in
    record {
      count = omega (arith, length-append (take 8 r) (high ++ drop 13 r), length-append high (drop 13 r), length-take-le 8 r (omega arith), length-drop 13 r);
      each = λ k. each-append P (take 8 r) (high ++ drop 13 r) k
          (λ j. each-take P 8 r j (omega arith) hr.each)
          (λ j. each-append P high (drop 13 r) j hh.each (λ i. each-drop P 13 r i (omega arith) hr.each));
    }

high-swapped : (r : List ℕ) → AreWords 16 r → AreWords 5 (take 5 (drop 8 r))
high-swapped r hr =
    let nr = hr.count in
    let P : ℕ → Type 0 = λ x. x < 2 ^ 32 in
    record {
      count = length-take-le 5 (drop 8 r) (omega (arith, length-drop 8 r));
      each = λ k. each-take P 5 (drop 8 r) k (omega arith) (λ j. each-drop P 8 r j (omega arith) hr.each);
    }

-- the registers and their banks as words, whatever the mode
pub record AreBanked (s : ArmState) : Type 0 where
  pub visible : AreWords 16 s.r
  pub high : AreWords 5 s.banks.high
  pub r13 : AreWords 6 s.banks.r13
  pub r14 : AreWords 6 s.banks.r14
  pub saved_count : length s.spsr ≡ 5
  pub saved_status : (k : ℕ) → IsStatus (slice_index s.spsr k)

pub banked : (s : ArmState) → IsNearlyValid s → AreBanked s
banked s h = record { visible = h.visible; high = h.high; r13 = h.r13; r14 = h.r14; saved_count = h.saved_count; saved_status = h.saved_status }

banked-high : (from to : ℕ) (s : ArmState) → AreBanked s → AreBanked (with_high from to s)
unfolding with_high with_other_high
banked-high from to s h = go (from == 1) (to == 1)
  where
    swapped : AreBanked (record s { r = take 8 s.r ++ (s.banks.high ++ drop 13 s.r); banks = record s.banks { high = take 5 (drop 8 s.r) } })
    swapped = record {
      visible = visible-swapped s.r s.banks.high h.visible h.high;
      high = high-swapped s.r h.visible;
      r13 = h.r13;
      r14 = h.r14;
      saved_count = h.saved_count;
      saved_status = h.saved_status;
    }

    go : (f t : Bool) → AreBanked (if f then (if t then s else with_other_high s) else (if t then with_other_high s else s))
    go true true = h
    go true false = swapped
    go false true = swapped
    go false false = h

banked-pair : (from to : ℕ) (s : ArmState) → AreBanked s → AreBanked (with_pair from to s)
unfolding with_pair
banked-pair from to s h = record {
  visible = words-set 16 (slice_set s.r 13 (visible_after from to (slice_index s.r 13) s.banks.r13)) 14 (visible_after from to (slice_index s.r 14) s.banks.r14)
      (words-set 16 s.r 13 (visible_after from to (slice_index s.r 13) s.banks.r13) h.visible ((words-set 6 s.banks.r13 from (slice_index s.r 13) h.r13 (h.visible.each 13)).each to))
      ((words-set 6 s.banks.r14 from (slice_index s.r 14) h.r14 (h.visible.each 14)).each to);
  high = h.high;
  r13 = words-set 6 (slice_set s.banks.r13 from (slice_index s.r 13)) to 0 (words-set 6 s.banks.r13 from (slice_index s.r 13) h.r13 (h.visible.each 13)) (omega arith);
  r14 = words-set 6 (slice_set s.banks.r14 from (slice_index s.r 14)) to 0 (words-set 6 s.banks.r14 from (slice_index s.r 14) h.r14 (h.visible.each 14)) (omega arith);
  saved_count = h.saved_count;
  saved_status = h.saved_status;
}

bank-lt : (m : Mode) → bank m < 6
bank-lt mode.User = omega arith
bank-lt mode.Fiq = omega arith
bank-lt mode.Irq = omega arith
bank-lt mode.Supervisor = omega arith
bank-lt mode.Abort = omega arith
bank-lt mode.Undefined = omega arith
bank-lt mode.System = omega arith

pub bank_in-lt : (x : ℕ) → bank_in x < 6
unfolding bank_in
bank_in-lt x = bank-lt (mode_in x)

left-zero : (from to v : ℕ) (xs : List ℕ) → length xs ≡ 6 → to < 6 → slice_index (bank_after from to v xs) to ≡ 0
left-zero from to v xs n lt = let inside : to < length (slice_set xs from v) = omega (arith, length-set xs from v) in get_or-set_same (slice_set xs from v) to 0 0 inside

pub nearly-cpsr : (s : ArmState) (x : ℕ) → AreBanked s → IsStatus x → has_mode x ≡ true → IsNearlyValid (with_cpsr s x)
unfolding with_cpsr with_pair
nearly-cpsr s x h status mode =
    let from = bank_in s.cpsr in
    let to = bank_in x in
    let first = with_high from to s in
    let hf = banked-high from to s h in
    let hp = banked-pair from to first hf in
    record {
      visible = hp.visible;
      high = hp.high;
      r13 = hp.r13;
      r14 = hp.r14;
      no_r13 = left-zero from to (slice_index first.r 13) first.banks.r13 hf.r13.count (bank_in-lt x);
      no_r14 = left-zero from to (slice_index first.r 14) first.banks.r14 hf.r14.count (bank_in-lt x);
      mode = mode;
      status = status;
      saved_count = hp.saved_count;
      saved_status = hp.saved_status;
    }

-- ---- SPSR

pub nearly-saved : (s : ArmState) (x : ℕ) → IsNearlyValid s → IsStatus x → IsNearlyValid (with_saved s x)
unfolding with_saved
nearly-saved s x h status = record {
  visible = h.visible;
  high = h.high;
  r13 = h.r13;
  r14 = h.r14;
  no_r13 = h.no_r13;
  no_r14 = h.no_r14;
  mode = h.mode;
  status = h.status;
  saved_count = length-set s.spsr (bank_in s.cpsr - 1) x ∙ h.saved_count;
  saved_status = λ k. set-each IsStatus s.spsr (bank_in s.cpsr - 1) x k h.saved_status status;
}

pub valid-saved : (s : ArmState) (x : ℕ) → IsValid s → IsStatus x → IsValid (with_saved s x)
unfolding with_saved
valid-saved s x h status = whole (with_saved s x) (nearly-saved s x (nearly s h) status) h.even

pub saved-status : (s : ArmState) → IsNearlyValid s → IsStatus (saved s)
unfolding saved
saved-status s h = h.saved_status (bank_in s.cpsr - 1)

-- ---- user mode's registers
