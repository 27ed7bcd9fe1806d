-- The loops of the startup code: single words and bursts of eight, upwards and downwards, and the zero
-- fill. Each leads to the head of its part with the memory as the copy or the fill leaves it.
use Rattle.std.proofs.Common.{◌≡◌, ℕ, zero, suc, ◌+◌, ◌-◌, ◌*◌, ◌/◌, ◌%◌, ◌^◌, ◌<◌, ◌≤◌, Bool, true, false, ◌==◌, nat_lt, if◌then◌else◌, List, ◌∷◌, ◌++◌, get_or, refl, sym, ap, ap₂, ◌∙◌, arith, ltb-true, ltb-false, ◌⊎◌, inl, inr}
use Rattle.sdt_word.specs.Numbers.{bit}
use Rattle.sdt_word.specs.Bytes.{bytes_of, load, word}
use Rattle.sdt_word.specs.declared.codes.Condition.TheVariants.{Al}
use Rattle.arm_isa.specs.declared.instr.ArmInstr.TheVariants.{SoftwareInterrupt}
use Rattle.arm7_model.specs.Memory.{Bytes, store}
use Rattle.arm7_model.specs.Registers.{State}
use Rattle.arm7_model.specs.ArmStep.{arm_condition}
use Rattle.arm7_model.proofs.Steps.{compared, compared-equal, compared-other, compared-below, compared-above}
use Rattle.arm7_model.proofs.MemoryLemmas.{not-eq, store-append, copy_up, copy_down, bytes_of-word, below_or_not}
use Rattle.arm7_model.proofs.TransferLemmas.{store_words-copy}
use Rattle.boot_code.specs.Words.{boot_instructions}
use Rattle.boot_code.specs.Startup.{zeros, upward_steps}
use Rattle.boot_code.proofs.CodeSteps.{World, still, IsReadable, Code, IsFree, Reads, Low, Go, longer, narrowed, narrowed_free, skip, branch, computes, loads, stores}
use Rattle.boot_code.proofs.CodeSteps.Computes.{count, compare, compare_targets, add, add_1, add_2}
use Rattle.boot_code.proofs.CodeSteps.Loads.{load_up, load_down, take_up, take_down, take_three}
use Rattle.boot_code.proofs.CodeSteps.Stores.{store_up, store_down, give_up, give_down}

-- a copy of n bytes from s to t has its place
pub record Copying {W : World} (S : Code W) (s t n : ℕ) : Type 0 where
  pub source_whole : s % 4 ≡ 0
  pub target_whole : t % 4 ≡ 0
  pub from : IsReadable W s (s + n)
  pub to : IsFree S t (t + n)

part : {W : World} {S : Code W} {s t n s' t' n' : ℕ} → Copying S s t n → s ≤ s' → t + s' ≡ s + t' → s' + n' ≤ s + n → (s' - s) % 4 ≡ 0 → Copying S s' t' n'
part c low beside high whole =
    let s_whole = c.source_whole in let t_whole = c.target_whole in
    record { source_whole = omega arith; target_whole = omega arith; from = narrowed c.from (omega arith) (omega arith); to = narrowed_free c.to (omega arith) (omega arith) }

-- a copy by parts: d bytes, and then what is left
up : (m k : Bytes) (s t d c s' t' c' : ℕ) → k ≡ store m t (load m s d) → s' ≡ s + d → t' ≡ t + d → c ≡ d + c' → t ≤ s → store k t' (load k s' c') ≡ store m t (load m s c)
up m k s t d c s' t' c' same e1 e2 e3 order = rw (same, e1, e2, e3) (copy_up m s t d c' order)

down : (m k : Bytes) (s t d c c' : ℕ) → k ≡ store m (t + c') (load m (s + c') d) → c ≡ c' + d → s ≤ t → store k t (load k s c') ≡ store m t (load m s c)
down m k s t d c c' same e order = rw (same, e) (copy_down m s t c' d order)

last : (m : Bytes) (s t d : ℕ) → d ≡ 0 → store m (t + d) (load m (s + d) 32) ≡ store m t (load m s (d + 32))
last m s t d none =
    let source : s + d ≡ s = omega arith in let target : t + d ≡ t = omega arith in let count : d + 32 ≡ 32 = omega arith in
    rw (source, target, count) refl

word_moved : (m : Bytes) (s t : ℕ) → ((x : ℕ) → m x < 256) → store m t (bytes_of (word m s) 4) ≡ store m t (load m s 4)
word_moved m s t bytes = ap (store m t) (bytes_of-word m s bytes)

either : {A : Type 0} (d : ℕ) → (d ≡ 0 → A) → (0 < d → A) → A
either zero none some = none refl
either (suc d) none some = some (omega arith)

-- the steps of the last x words: a branch, or the words one by one
abbrev pub tail_steps : ℕ → ℕ
tail_steps x = if x == 0 then 1 else 4 + 4 * x

zeros-append : (n k : ℕ) → zeros (n + k) ≡ zeros n ++ zeros k
zeros-append zero k = ap zeros (omega arith)
zeros-append (suc n) k =
    let more : suc n + k ≡ suc (n + k) = omega arith in
    ap zeros more ∙ ap (λ (l : List ℕ). 0 ∷ l) (zeros-append n k)

-- a zero fill by parts: a word, and then what is left
pub fill : (m : Bytes) (v t c t' c' : ℕ) → v ≡ 0 → t' ≡ t + 4 → c ≡ 4 + c' → store (store m t (bytes_of v 4)) t' (zeros c') ≡ store m t (zeros c)
fill m v t c t' c' none e1 e2 = rw (none, e1, e2) (sym (store-append m t (zeros 4) (zeros c')) ∙ ap (store m t) (sym (zeros-append 4 c')))

tail-zero : (x : ℕ) → x ≡ 0 → tail_steps x ≡ 1
tail-zero x h = rw h refl

tail-some : (x : ℕ) → 0 < x → tail_steps x ≡ 4 + 4 * x
tail-some x h = let other = not-eq x 0 (λ e. omega arith) in rw other refl

up-steps : (q t : ℕ) → upward_steps q t ≡ 5 + (5 * q + tail_steps t)
up-steps q t = go (t == 0)
  where
    go : (b : Bool) → (if b then 6 + 5 * q else 9 + 5 * q + 4 * t) ≡ 5 + (5 * q + (if b then 1 else 4 + 4 * t))
    go true = omega arith
    go false = omega arith

-- the word at place i is the startup code's
abbrev pub IsBoot : {W : World} → Code W → Type 0
IsBoot S = (i : ℕ) → nat_lt i 42 ≡ true → Reads S i (get_or boot_instructions i (SoftwareInterrupt Al 0))

module _ {W : World} {S : Code W} (w : IsBoot S) where
  -- n steps lead on from the head of the copies, with the table at p and this memory
  abbrev pub Head : ℕ → ℕ → Bytes → (State → Type 0) → Type 0
  Head n p m Q = (g : Low) (status : ℕ) (k : Bytes) → g.r0 ≡ p → k ≡ m → Go S n g 1 status k Q

  -- ---- single words, upwards
  words_up : (j : ℕ) {n p status : ℕ} {g : Low} {m : Bytes} {Q : State → Type 0}
      → g.r3 ≡ 4 * suc j → g.r3 < 2 ^ 32 → g.r2 ≤ g.r1 → Copying S g.r1 g.r2 g.r3 → g.r0 ≡ p
      → Head n p (store m g.r2 (load m g.r1 g.r3)) Q → Go S (g.r3 + 1 + n) g 13 status m Q
  unfolding arm_condition
  words_up zero {g = g} {m} e small order c at next good =
      let s_whole = c.source_whole in let t_whole = c.target_whole in
      longer (omega arith)
      (loads (w 13 refl) load_up tt refl c.from (omega arith) (omega arith) s_whole
      (stores (w 14 refl) (w 15 refl) store_up tt refl c.to (omega arith) (omega arith) t_whole
      (computes (w 15 refl) count tt
      (skip (w 16 refl) (compared-equal _ g.r3 4 small (omega arith) e)
      (branch (w 17 refl) (w 1 refl) tt refl
      (next _ _ _ at (word_moved m g.r1 g.r2 good.bytes ∙ ap (λ (k : ℕ). store m g.r2 (load m g.r1 k)) (sym e)))))))) good
  words_up (suc j) {g = g} {m} e small order c at next good =
      let s_whole = c.source_whole in let t_whole = c.target_whole in
      let s_room = c.from.room in let t_room = c.to.readable.room in
      longer (omega arith)
      (loads (w 13 refl) load_up tt refl c.from (omega arith) (omega arith) s_whole
      (stores (w 14 refl) (w 15 refl) store_up tt refl c.to (omega arith) (omega arith) t_whole
      (computes (w 15 refl) count tt
      (branch (w 16 refl) (w 13 refl) (compared-other _ g.r3 4 small (omega arith) (λ h. omega arith)) refl
      (words_up j (omega arith) (omega arith) (omega arith) (part c (omega arith) (omega arith) (omega arith) (omega arith)) at
      (λ g' s k at' same. next g' s k at' (same ∙ up m _ g.r1 g.r2 4 g.r3 _ _ _ (word_moved m g.r1 g.r2 good.bytes) (omega arith) (omega arith) (omega arith) order))))))) good

  -- ---- single words, downwards: r1 and r2 are the ends of what is left
  words_down : (j s t : ℕ) {n p status : ℕ} {g : Low} {m : Bytes} {Q : State → Type 0}
      → g.r3 ≡ 4 * suc j → g.r3 < 2 ^ 32 → s ≤ t → Copying S s t g.r3 → g.r1 ≡ (s + g.r3) % 2 ^ 32 → g.r2 ≡ (t + g.r3) % 2 ^ 32 → g.r0 ≡ p
      → Head n p (store m t (load m s g.r3)) Q → Go S (g.r3 + 1 + n) g 27 status m Q
  unfolding arm_condition
  words_down zero s t {g = g} {m} e small order c source target at next good =
      let s_room = c.from.room in let t_room = c.to.readable.room in
      longer (omega arith)
      (loads {x = s} (w 27 refl) load_down tt (omega arith) c.from (omega arith) (omega arith) c.source_whole
      (stores {x = t} (w 28 refl) (w 29 refl) store_down tt (omega arith) c.to (omega arith) (omega arith) c.target_whole
      (computes (w 29 refl) count tt
      (skip (w 30 refl) (compared-equal _ g.r3 4 small (omega arith) e)
      (branch (w 31 refl) (w 1 refl) tt refl
      (next _ _ _ at (word_moved m s t good.bytes ∙ ap (λ (k : ℕ). store m t (load m s k)) (sym e)))))))) good
  words_down (suc j) s t {g = g} {m} e small order c source target at next good =
      let s_whole = c.source_whole in let t_whole = c.target_whole in
      let s_room = c.from.room in let t_room = c.to.readable.room in
      let d = (g.r3 + 4294967291 + 1) % 4294967296 in
      longer (omega arith)
      (loads {x = s + d} (w 27 refl) load_down tt (omega arith) c.from (omega arith) (omega arith) (omega arith)
      (stores {x = t + d} (w 28 refl) (w 29 refl) store_down tt (omega arith) c.to (omega arith) (omega arith) (omega arith)
      (computes (w 29 refl) count tt
      (branch (w 30 refl) (w 27 refl) (compared-other _ g.r3 4 small (omega arith) (λ h. omega arith)) refl
      (words_down j s t (omega arith) (omega arith) order (part c (omega arith) (omega arith) (omega arith) (omega arith)) (omega arith) (omega arith) at
      (λ g' f k at' same. next g' f k at' (same ∙ down m _ s t 4 g.r3 d (word_moved m (s + d) (t + d) good.bytes) (omega arith) order))))))) good

  -- ---- bursts of eight words
  bursts_up : (b x : ℕ) {n p status : ℕ} {g : Low} {m : Bytes} {Q : State → Type 0}
      → g.r3 ≡ 32 * b + 4 * x → x < 8 → 0 < g.r3 → g.r3 < 2 ^ 32 → g.r2 ≤ g.r1 → Copying S g.r1 g.r2 g.r3 → g.r0 ≡ p
      → Head n p (store m g.r2 (load m g.r1 g.r3)) Q → Go S (5 * b + tail_steps x + n) g 6 status m Q
  unfolding arm_condition
  bursts_up zero x {g = g} {m} e few some small order c at next good =
      longer (omega (arith, tail-some x))
      (computes (w 6 refl) count tt
      (branch (w 7 refl) (w 12 refl) (compared-above _ g.r3 32 small (omega arith) (omega arith)) refl
      (computes (w 12 refl) add tt
      (words_up (x - 1) (omega arith) (omega arith) order (part c (omega arith) (omega arith) (omega arith) (omega arith)) at
      (λ g' f k at' same. next g' f k at' (same ∙ ap (λ (k : ℕ). store m g.r2 (load m g.r1 k)) (omega arith))))))) good
  bursts_up (suc b) x {n = n} {g = g} {m} e few some small order c at next good =
      let s_whole = c.source_whole in let t_whole = c.target_whole in
      let s_room = c.from.room in let t_room = c.to.readable.room in
      let d = (g.r3 + 4294967263 + 1) % 4294967296 in
      let all = up m _ g.r1 g.r2 32 g.r3 _ _ d (store_words-copy m m g.r2 g.r1 8 good.bytes) in
      longer (omega arith)
      (computes (w 6 refl) count tt
      (skip (w 7 refl) (compared-below _ g.r3 32 small (omega arith) (omega arith))
      (loads {x = g.r1} (w 8 refl) take_up tt (omega arith) c.from (omega arith) (omega arith) s_whole
      (stores {x = g.r2} (w 9 refl) (w 10 refl) give_up tt (omega arith) c.to (omega arith) (omega arith) t_whole
      (either d
      (λ none. let left : 32 ≡ g.r3 = omega arith in longer {k = suc (5 * b + tail_steps x + n)} (omega (arith, tail-zero x))
      (skip (w 10 refl) (compared-equal _ g.r3 32 small (omega arith) (omega arith))
      (branch (w 11 refl) (w 1 refl) tt refl
      (next _ _ _ at (store_words-copy m m g.r2 g.r1 8 good.bytes ∙ ap (λ (k : ℕ). store m g.r2 (load m g.r1 k)) left)))))
      (λ more. branch (w 10 refl) (w 6 refl) (compared-other _ g.r3 32 small (omega arith) (λ h. omega arith)) refl
      (bursts_up b x (omega arith) few more (omega arith) (omega arith) (part c (omega arith) (omega arith) (omega arith) (omega arith)) at
      (λ g' f k at' same. next g' f k at' (same ∙ all (omega arith) (omega arith) (omega arith) order))))))))) good

  bursts_down : (b x s t : ℕ) {n p status : ℕ} {g : Low} {m : Bytes} {Q : State → Type 0}
      → g.r3 ≡ 32 * b + 4 * x → x < 8 → 0 < g.r3 → g.r3 < 2 ^ 32 → s ≤ t → Copying S s t g.r3 → g.r1 ≡ (s + g.r3) % 2 ^ 32 → g.r2 ≡ (t + g.r3) % 2 ^ 32 → g.r0 ≡ p
      → Head n p (store m t (load m s g.r3)) Q → Go S (5 * b + tail_steps x + n) g 20 status m Q
  unfolding arm_condition
  bursts_down zero x s t {g = g} {m} e few some small order c source target at next good =
      longer (omega (arith, tail-some x))
      (computes (w 20 refl) count tt
      (branch (w 21 refl) (w 26 refl) (compared-above _ g.r3 32 small (omega arith) (omega arith)) refl
      (computes (w 26 refl) add tt
      (words_down (x - 1) s t (omega arith) (omega arith) order (part c (omega arith) (omega arith) (omega arith) (omega arith)) (omega arith) (omega arith) at
      (λ g' f k at' same. next g' f k at' (same ∙ ap (λ (k : ℕ). store m t (load m s k)) (omega arith))))))) good
  bursts_down (suc b) x s t {n = n} {g = g} {m} e few some small order c source target at next good =
      let s_whole = c.source_whole in let t_whole = c.target_whole in
      let s_room = c.from.room in let t_room = c.to.readable.room in
      let d = (g.r3 + 4294967263 + 1) % 4294967296 in
      let moved = store_words-copy m m (t + d) (s + d) 8 good.bytes in
      longer (omega arith)
      (computes (w 20 refl) count tt
      (skip (w 21 refl) (compared-below _ g.r3 32 small (omega arith) (omega arith))
      (loads {x = s + d} (w 22 refl) take_down tt (omega arith) c.from (omega arith) (omega arith) (omega arith)
      (stores {x = t + d} (w 23 refl) (w 24 refl) give_down tt (omega arith) c.to (omega arith) (omega arith) (omega arith)
      (either d
      (λ none. let left : d + 32 ≡ g.r3 = omega arith in longer {k = suc (5 * b + tail_steps x + n)} (omega (arith, tail-zero x))
      (skip (w 24 refl) (compared-equal _ g.r3 32 small (omega arith) (omega arith))
      (branch (w 25 refl) (w 1 refl) tt refl
      (next _ _ _ at (moved ∙ last m s t d none ∙ ap (λ (k : ℕ). store m t (load m s k)) left)))))
      (λ more. branch (w 24 refl) (w 20 refl) (compared-other _ g.r3 32 small (omega arith) (λ h. omega arith)) refl
      (bursts_down b x s t (omega arith) few more (omega arith) order (part c (omega arith) (omega arith) (omega arith) (omega arith)) (omega arith) (omega arith) at
      (λ g' f k at' same. next g' f k at' (same ∙ down m _ s t 32 g.r3 d moved (omega arith) order))))))))) good

  -- ---- the rows of copies

  -- BHI goes on where the target is not above the source: C is clear, or Z is set
  not_above : (s t status : ℕ) → t ≤ s → t < 2 ^ 32 → s < 2 ^ 32 → (bit (compared status t s) 29 ≡ 0) ⊎ (bit (compared status t s) 30 ≡ 1)
  not_above s t status le ts ss = go (below_or_not t s)
    where
      go : (t < s) ⊎ (s ≤ t) → (bit (compared status t s) 29 ≡ 0) ⊎ (bit (compared status t s) 30 ≡ 1)
      go (inl h) = inl (compared-above _ t s ts ss h)
      go (inr h) = inr (compared-equal _ t s ts ss (omega arith))

  -- a copy's row is next at p
  pub copy_row : (s t c p : ℕ) {n : ℕ} {m : Bytes} {Q : State → Type 0} → word S.origin p ≡ s → word S.origin (p + 4) ≡ t → word S.origin (p + 4 + 4) ≡ c
      → S.start ≤ p → p + 12 < S.end → p % 4 ≡ 0 → 0 < c → c % 4 ≡ 0 → c < 2 ^ 32 → s < 2 ^ 32 → t < 2 ^ 32 → Copying S s t c
      → Head n (p + 4 + 4 + 4) (store m t (load m s c)) Q → Head (upward_steps (c / 32) (c % 32 / 4) + (if nat_lt s t then 2 else 0) + n) p m Q
  unfolding arm_condition
  copy_row s t c p {n} {m} {Q} e1 e2 e3 low high whole some words small s_small t_small place next g status k at same good =
      let room = S.readable.room in let c_at = c_is in
      longer (omega (arith, up-steps (c / 32) (c % 32 / 4)))
      (loads {x = g.r0} (w 1 refl) take_three tt (omega arith) S.readable (omega arith) (omega arith) (omega arith)
      (computes (w 2 refl) compare tt
      (skip (w 3 refl) (compared-other _ (word k (g.r0 + 4 + 4)) 0 (omega arith) (omega arith) (λ e. omega arith))
      (computes (w 4 refl) compare_targets tt
      (turn (nat_lt s t) refl))))) good
    where
      s_is : word k g.r0 ≡ s
      s_is = still g.r0 good (omega arith) (omega arith) ∙ ap (word S.origin) at ∙ e1

      t_is : word k (g.r0 + 4) ≡ t
      t_is = still (g.r0 + 4) good (omega arith) (omega arith) ∙ ap (λ (x : ℕ). word S.origin (x + 4)) at ∙ e2

      c_is : word k (g.r0 + 4 + 4) ≡ c
      c_is = still (g.r0 + 4 + 4) good (omega arith) (omega arith) ∙ ap (λ (x : ℕ). word S.origin (x + 4 + 4)) at ∙ e3

      turn : (b : Bool) → nat_lt s t ≡ b
          → Go S ((if b then 2 else 0) + (1 + (5 * (c / 32) + tail_steps (c % 32 / 4))) + n) (record g { r0 = (g.r0 + 12) % 4294967296; r1 = word k g.r0; r2 = word k (g.r0 + 4); r3 = word k (g.r0 + 4 + 4) })
          5 (compared (compared status (word k (g.r0 + 4 + 4)) 0) (word k (g.r0 + 4)) (word k g.r0)) k Q
      turn true h =
          let below : s < t = ltb-true s t h in let room = S.readable.room in let s_at = s_is in let t_at = t_is in let c_at = c_is in
          longer (omega arith)
          (branch (w 5 refl) (w 18 refl) (compared-below _ (word k (g.r0 + 4)) (word k g.r0) (omega arith) (omega arith) (omega arith), compared-other _ (word k (g.r0 + 4)) (word k g.r0) (omega arith) (omega arith) (λ e. omega arith)) refl
          (computes (w 18 refl) add_1 tt
          (computes (w 19 refl) add_2 tt
          (bursts_down (c / 32) (c % 32 / 4) s t (omega arith) (omega arith) (omega arith) (omega arith) (omega arith) (part place (omega arith) (omega arith) (omega arith) (omega arith)) (omega arith) (omega arith) (omega arith)
          (λ g' f k' at' same'. next g' f k' at' (same' ∙ ap₂ (λ (m : Bytes) (c : ℕ). store m t (load m s c)) same c_is))))))
      turn false h =
          let above : t ≤ s = ltb-false s t h in let room = S.readable.room in let s_at = s_is in let t_at = t_is in let c_at = c_is in
          longer (omega arith)
          (skip (w 5 refl) (not_above (word k g.r0) (word k (g.r0 + 4)) _ (omega arith) (omega arith) (omega arith))
          (bursts_up (c / 32) (c % 32 / 4) (omega arith) (omega arith) (omega arith) (omega arith) (omega arith) (part place (omega arith) (omega arith) (omega arith) (omega arith)) (omega arith)
          (λ g' f k' at' same'. next g' f k' at' (same' ∙ rw (s_is, t_is, c_is, same) refl))))

  -- ---- a zero fill

  -- n steps lead on from the head of the zero parts, with the table at p and this memory; r4 is 0
  abbrev pub Parts : ℕ → ℕ → Bytes → (State → Type 0) → Type 0
  Parts n p m Q = (g : Low) (status : ℕ) (k : Bytes) → g.r0 ≡ p → g.r4 ≡ 0 → k ≡ m → Go S n g 33 status k Q

  pub clears : (j : ℕ) {n p status : ℕ} {g : Low} {m : Bytes} {Q : State → Type 0}
      → g.r3 ≡ 4 * suc j → g.r3 < 2 ^ 32 → g.r4 ≡ 0 → g.r2 % 4 ≡ 0 → IsFree S g.r2 (g.r2 + g.r3) → g.r0 ≡ p
      → Parts n p (store m g.r2 (zeros g.r3)) Q → Go S (3 * suc j + 1 + n) g 36 status m Q
  unfolding arm_condition
  clears zero {g = g} {m} e small none whole f at next =
      longer (omega arith)
      (stores (w 36 refl) (w 37 refl) store_up tt refl f (omega arith) (omega arith) whole
      (computes (w 37 refl) count tt
      (skip (w 38 refl) (compared-equal _ g.r3 4 small (omega arith) e)
      (branch (w 39 refl) (w 33 refl) tt refl
      (next _ _ _ at none (fill m g.r4 g.r2 g.r3 _ 0 none refl e))))))
  clears (suc j) {g = g} {m} e small none whole f at next =
      let room = f.readable.room in
      longer (omega arith)
      (stores (w 36 refl) (w 37 refl) store_up tt refl f (omega arith) (omega arith) whole
      (computes (w 37 refl) count tt
      (branch (w 38 refl) (w 36 refl) (compared-other _ g.r3 4 small (omega arith) (λ h. omega arith)) refl
      (clears j (omega arith) (omega arith) none (omega arith) (narrowed_free f (omega arith) (omega arith)) at
      (λ g' f k at' none' same. next g' f k at' none' (same ∙ fill m g.r4 g.r2 g.r3 _ _ none (omega arith) (omega arith)))))))
