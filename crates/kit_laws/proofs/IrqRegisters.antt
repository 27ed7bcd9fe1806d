-- What functions on registers make beside other IRQ registers.
use Rattle.std.proofs.Common.{◌≡◌, ◌≢◌, ℕ, ◌-◌, ◌==◌, Bool, true, false, List, refl, sym, ap, ◌∙◌, arith, if◌then◌else◌, get_or-set_other, Some, None}
use Rattle.std.specs.Prelude.{slice_index, slice_set, unwrap_or}
use Rattle.std.proofs.lemmas.List.{set_comm}
use Rattle.arm7_model.specs.declared.state.ArmState.{ArmState}
use Rattle.arm7_model.specs.Registers.{bank, bank_after, bank_in, mode_in, mode_named, register, restored, saved, visible_after, with_cpsr, with_high, with_other_high, with_pair, with_register, with_saved}
use Rattle.arm7_model.specs.declared.state.Mode.TheVariants as mode
use Rattle.arm7_model.proofs.MemoryLemmas.{not-eq}
use Rattle.sdt_word.specs.Numbers.{bits}
use Rattle.kit_laws.specs.Beside.{Scratch, with_irq}

pub irq-register : (k : Scratch) (s : ArmState) (n : ℕ) → register (with_irq k s) n ≡ register s n
unfolding with_irq register
irq-register k s n = refl

pub irq-with_register : (k : Scratch) (s : ArmState) (n v : ℕ) → with_register (with_irq k s) n v ≡ with_irq k (with_register s n v)
unfolding with_irq with_register
irq-with_register k s n v = refl

pub irq-cpsr : (k : Scratch) (s : ArmState) → (with_irq k s).cpsr ≡ s.cpsr
unfolding with_irq
irq-cpsr k s = refl

visible-irq : (from to v w : ℕ) (xs : List ℕ) → from ≢ 2 → to ≢ 2 → visible_after from to v (slice_set xs 2 w) ≡ visible_after from to v xs
visible-irq from to v w xs f t =
    ap (λ (l : List ℕ). slice_index l to) (set_comm xs 2 from w v (λ e. f (sym e)))
    ∙ get_or-set_other (slice_set xs from v) 2 to w 0 t

bank-irq : (from to v w : ℕ) (xs : List ℕ) → from ≢ 2 → to ≢ 2 → bank_after from to v (slice_set xs 2 w) ≡ slice_set (bank_after from to v xs) 2 w
bank-irq from to v w xs f t =
    ap (λ (l : List ℕ). slice_set l to 0) (set_comm xs 2 from w v (λ e. f (sym e)))
    ∙ set_comm (slice_set xs from v) 2 to w 0 (λ e. t (sym e))

irq-high : (k : Scratch) (from to : ℕ) (s : ArmState) → with_high from to (with_irq k s) ≡ with_irq k (with_high from to s)
unfolding with_irq with_high with_other_high
irq-high k from to s = go (from == 1) (to == 1)
  where
    go : (f t : Bool) → (if f then (if t then with_irq k s else with_other_high (with_irq k s)) else (if t then with_other_high (with_irq k s) else with_irq k s))
        ≡ with_irq k (if f then (if t then s else with_other_high s) else (if t then with_other_high s else s))
    go true true = refl
    go true false = refl
    go false true = refl
    go false false = refl

irq-pair : (k : Scratch) (from to : ℕ) (s : ArmState) → from ≢ 2 → to ≢ 2 → with_pair from to (with_irq k s) ≡ with_irq k (with_pair from to s)
unfolding with_irq with_pair
irq-pair k from to s f t =
    rw (
      visible-irq from to (slice_index s.r 13) k.r13 s.banks.r13 f t,
      visible-irq from to (slice_index s.r 14) k.r14 s.banks.r14 f t,
      bank-irq from to (slice_index s.r 13) k.r13 s.banks.r13 f t,
      bank-irq from to (slice_index s.r 14) k.r14 s.banks.r14 f t,
    ) refl

pub irq-with_cpsr : (k : Scratch) (s : ArmState) (x : ℕ) → bank_in s.cpsr ≢ 2 → bank_in x ≢ 2 → with_cpsr (with_irq k s) x ≡ with_irq k (with_cpsr s x)
unfolding with_irq with_cpsr
irq-with_cpsr k s x f t =
    ap (λ (c : ArmState). record c { cpsr = x })
    (ap (with_pair (bank_in s.cpsr) (bank_in x)) (irq-high k (bank_in s.cpsr) (bank_in x) s)
    ∙ irq-pair k (bank_in s.cpsr) (bank_in x) (with_high (bank_in s.cpsr) (bank_in x) s) f t)

pub irq-saved : (k : Scratch) (s : ArmState) → bank_in s.cpsr ≢ 2 → saved (with_irq k s) ≡ saved s
unfolding with_irq saved
irq-saved k s f = get_or-set_other s.spsr 1 (bank_in s.cpsr - 1) k.saved 0 (λ e. f (omega arith))

pub irq-with_saved : (k : Scratch) (s : ArmState) (x : ℕ) → bank_in s.cpsr ≢ 2 → with_saved (with_irq k s) x ≡ with_irq k (with_saved s x)
unfolding with_irq with_saved
irq-with_saved k s x f = rw (set_comm s.spsr 1 (bank_in s.cpsr - 1) k.saved x (λ e. f (omega arith))) refl

pub irq-restored : (k : Scratch) (s : ArmState) → bank_in s.cpsr ≢ 2 → bank_in (saved s) ≢ 2 → restored (with_irq k s) ≡ with_irq k (restored s)
unfolding restored
irq-restored k s f t = ap (with_cpsr (with_irq k s)) (irq-saved k s f) ∙ irq-with_cpsr k s (saved s) f t

-- the bank of no other mode than IRQ's is 2
pub other-bank : (x : ℕ) → bits x 0 5 ≢ 0x12 → bank_in x ≢ 2
unfolding bank_in mode_in mode_named
other-bank x h = go (bits x 0 5 == 0x10) (bits x 0 5 == 0x11) (bits x 0 5 == 0x12) (eq-false (bits x 0 5) 0x12 h) (bits x 0 5 == 0x13) (bits x 0 5 == 0x17) (bits x 0 5 == 0x1B) (bits x 0 5 == 0x1F)
  where
    eq-false : (a b : ℕ) → a ≢ b → (a == b) ≡ false
    eq-false a b n = not-eq a b n

    go : (a b c : Bool) → c ≡ false → (d e f g : Bool)
        → bank (unwrap_or (if a then Some mode.User else if b then Some mode.Fiq else if c then Some mode.Irq else if d then Some mode.Supervisor else if e then Some mode.Abort else if f then Some mode.Undefined else if g then Some mode.System else None) mode.System) ≢ 2
    go true b c n d e f g = omega arith
    go false true c n d e f g = omega arith
    go false false true n d e f g = absurd cc
    go false false false n true e f g = omega arith
    go false false false n false true f g = omega arith
    go false false false n false false true g = omega arith
    go false false false n false false false true = omega arith
    go false false false n false false false false = omega arith
