-- Steps of a processor in ARM state with both interrupts masked: a step is then what its instruction
-- does, whatever the lines are. Runs of such steps join, and are runs by `After`.
use Rattle.std.proofs.Common.{◌≡◌, ◌≢◌, ℕ, ◌+◌, ◌-◌, ◌%◌, ◌^◌, ◌<◌, ◌≤◌, Bool, true, false, ◌==◌, List, [], ◌∷◌, refl, sym, ◌∙◌, arith, cond}
use Rattle.std.specs.Prelude.{slice_index, slice_set}
use Rattle.sdt_word.specs.Numbers.{bit, flag}
use Rattle.sdt_word.specs.Bytes.{word}
use Rattle.sdt_word.specs.declared.codes.Width.TheVariants.{Word}
use Rattle.arm_isa.specs.declared.instr.ArmInstr.{ArmInstr}
use Rattle.arm_isa.specs.ArmRows.{ReadsArm}
use Rattle.arm7_model.specs.declared.state.ArmState.{ArmState}
use Rattle.arm7_model.specs.Memory.{Bytes, Board, in_memory}
use Rattle.arm7_model.specs.Registers.{State}
use Rattle.arm7_model.specs.Arithmetic.{with_flags, zero_of, sum_with, inverted}
use Rattle.arm7_model.specs.Accesses.{Fetch, Working}
use Rattle.arm7_model.specs.Outcomes.{Stepped}
use Rattle.arm7_model.specs.ArmStep.{arm_done}
use Rattle.arm7_model.specs.Step.{Levels, Step, Arm}
use Rattle.arm7_model.proofs.MemoryLemmas.{not-eq}
use Rattle.arm7_model.proofs.Opens.{step_opens}

-- ARM state, with IRQ and FIQ masked
pub record IsQuiet (status : ℕ) : Type 0 where
  pub arm : bit status 5 ≡ 0
  pub fiq_masked : bit status 6 ≡ 1
  pub irq_masked : bit status 7 ≡ 1

-- ---- flags
low-with_flags : (status v c o : ℕ) → with_flags status v c o % 2 ^ 28 ≡ status % 2 ^ 28
unfolding with_flags
low-with_flags status v c o = omega arith

pub quiet-with_flags : (status v c o : ℕ) → IsQuiet status → IsQuiet (with_flags status v c o)
quiet-with_flags status v c o q =
    let low = low-with_flags status v c o in
    record {
      arm = omega (arith, low, q.arm);
      fiq_masked = omega (arith, low, q.fiq_masked);
      irq_masked = omega (arith, low, q.irq_masked);
    }

zero_of-le : (v : ℕ) → zero_of v ≤ 1
zero_of-le v = go (v == 0)
  where
    go : (b : Bool) → cond b 1 0 ≤ 1
    go true = omega arith
    go false = omega arith

pub zero-with_flags : (status v c o : ℕ) → c ≤ 1 → o ≤ 1 → bit (with_flags status v c o) 30 ≡ zero_of v
unfolding with_flags
zero-with_flags status v c o hc ho = let z = zero_of-le v in omega arith

pub carry-with_flags : (status v c o : ℕ) → c ≤ 1 → o ≤ 1 → bit (with_flags status v c o) 29 ≡ c
unfolding with_flags
carry-with_flags status v c o hc ho = let z = zero_of-le v in omega arith

flag-le : (b : Bool) → flag b ≤ 1
flag-le true = omega arith
flag-le false = omega arith

-- CPSR after a comparison of a and b, or a difference with S
abbrev pub compared : ℕ → ℕ → ℕ → ℕ
compared status a b =
    with_flags status (sum_with a (inverted b) 1).value (sum_with a (inverted b) 1).carry (sum_with a (inverted b) 1).overflow

module _ (status a b : ℕ) (ha : a < 2 ^ 32) (hb : b < 2 ^ 32) where
  carry-small : (sum_with a (inverted b) 1).carry ≤ 1
  unfolding sum_with
  carry-small = omega arith

  overflow-small : (sum_with a (inverted b) 1).overflow ≤ 1
  unfolding sum_with
  overflow-small = flag-le _

  pub difference-below : b ≤ a → (sum_with a (inverted b) 1).value ≡ a - b
  unfolding sum_with
  difference-below h = omega arith

  pub difference-above : a < b → (sum_with a (inverted b) 1).value ≡ a + 2 ^ 32 - b
  unfolding sum_with
  difference-above h = omega arith

  value-zero : a ≡ b → (sum_with a (inverted b) 1).value ≡ 0
  unfolding sum_with
  value-zero h = omega arith

  value-other : a ≢ b → (sum_with a (inverted b) 1).value ≢ 0
  unfolding sum_with
  value-other h e = h (omega arith)

  -- Z says that they are equal, and C that there is no borrow
  pub compared-equal : a ≡ b → bit (compared status a b) 30 ≡ 1
  compared-equal h =
      let none = value-zero h in
      zero-with_flags status _ _ _ carry-small overflow-small ∙ rw none refl

  pub compared-other : a ≢ b → bit (compared status a b) 30 ≡ 0
  compared-other h =
      let some = not-eq _ 0 (value-other h) in
      zero-with_flags status _ _ _ carry-small overflow-small ∙ rw some refl

  carry-below : b ≤ a → (sum_with a (inverted b) 1).carry ≡ 1
  unfolding sum_with
  carry-below h = omega arith

  carry-above : a < b → (sum_with a (inverted b) 1).carry ≡ 0
  unfolding sum_with
  carry-above h = omega arith

  pub compared-below : b ≤ a → bit (compared status a b) 29 ≡ 1
  compared-below h = carry-with_flags status _ _ _ carry-small overflow-small ∙ carry-below h

  pub compared-above : a < b → bit (compared status a b) 29 ≡ 0
  compared-above h = carry-with_flags status _ _ _ carry-small overflow-small ∙ carry-above h

-- CPSR after a sum of a and b with S
abbrev pub added : ℕ → ℕ → ℕ → ℕ
added status a b = with_flags status (sum_with a b 0).value (sum_with a b 0).carry (sum_with a b 0).overflow

module _ (status a b : ℕ) (ha : a < 2 ^ 32) (hb : b < 2 ^ 32) where
  sum_carry-small : (sum_with a b 0).carry ≤ 1
  unfolding sum_with
  sum_carry-small = omega arith

  sum_overflow-small : (sum_with a b 0).overflow ≤ 1
  unfolding sum_with
  sum_overflow-small = flag-le _

  sum-wraps : a + b ≡ 2 ^ 32 → (sum_with a b 0).value ≡ 0
  unfolding sum_with
  sum-wraps h = omega arith

  sum-other : 0 < a + b → a + b ≢ 2 ^ 32 → (sum_with a b 0).value ≢ 0
  unfolding sum_with
  sum-other h d e = d (omega arith)

  -- Z says that the sum is 0
  pub added-zero : a + b ≡ 2 ^ 32 → bit (added status a b) 30 ≡ 1
  added-zero h =
      let none = sum-wraps h in
      zero-with_flags status _ _ _ sum_carry-small sum_overflow-small ∙ rw none refl

  pub added-other : 0 < a + b → a + b ≢ 2 ^ 32 → bit (added status a b) 30 ≡ 0
  added-other h d =
      let some = not-eq _ 0 (sum-other h d) in
      zero-with_flags status _ _ _ sum_carry-small sum_overflow-small ∙ rw some refl

-- ---- a step

-- the registers and CPSR over the rest of a processor, and a memory
abbrev pub state_of : ArmState → List ℕ → ℕ → Bytes → State
state_of rest r status m = record { core = record rest { r = r; cpsr = status }; memory = m }

-- From s the step is this, whatever the lines are and the devices answer.
abbrev pub OneStep : Board → State → Stepped → Type 0
OneStep board s first = (lines : Levels) (answers : List ℕ) → Step board s lines answers first

-- the instruction under way, after its fetch
abbrev pub under_way : ArmState → List ℕ → ℕ → Bytes → ℕ → List ℕ → Working
under_way rest r status m pc answers = record {
  core = record rest { r = slice_set r 15 ((pc + 4) % 2 ^ 32); cpsr = status };
  memory = m;
  answers = answers;
  accesses = Fetch pc Word ∷ [];
}

pub arm_step : (board : Board) (rest : ArmState) (r : List ℕ) (status : ℕ) (m : Bytes) (pc w : ℕ) (i : ArmInstr) (first : Stepped)
    → IsQuiet status → slice_index r 15 ≡ pc → pc % 4 ≡ 0 → in_memory board pc 4 ≡ true → word m pc ≡ w → ReadsArm w i
    → ((answers : List ℕ) → arm_done (record { board = board; before = state_of rest r status m; word = w }) i (under_way rest r status m pc answers) ≡ first)
    → OneStep board (state_of rest r status m) first
unfolding step_opens
arm_step board rest r status m pc w i first q at_pc whole there here reads does lines answers =
    (Arm i, λ _. rw (q.arm, at_pc, there) (rw here reads), sym (rw (q.fiq_masked, q.irq_masked, q.arm, at_pc, whole, there, here) (does answers)))
