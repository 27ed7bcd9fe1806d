-- A program that keeps the rules, over a level that is up twice: a loop of ten turns, at once after a return again.
--     54 MOV r1,#10
--     58 SUBS r1,r1,#1
--     5C BNE 58
--     60 SWI 0x11
use Rattle.std.proofs.Common.{◌≡◌, ◌≢◌, ℕ, zero, suc, ◌+◌, ◌*◌, ◌/◌, ◌%◌, ◌^◌, ◌<◌, ◌≤◌, true, false, List, [], ◌∷◌, length, refl, sym, subst, arith, nat_lt}
use Rattle.std.specs.Prelude.{slice_index}
use Rattle.std.specs.List.{AllByRecursion}
use Rattle.sdt_word.specs.Numbers.{bit, bits}
use Rattle.sdt_word.specs.declared.codes.Condition.TheVariants.{Al, Ne}
use Rattle.sdt_word.specs.declared.codes.Width.TheVariants.{Word}
use Rattle.arm_isa.specs.declared.instr.ArmInstr.TheVariants.{Branch, DataImmediate, SoftwareInterrupt}
use Rattle.arm_isa.specs.declared.instr.Operation.TheVariants.{Mov, Sub}
use Rattle.arm7_model.specs.declared.state.ArmState.{ArmState}
use Rattle.arm7_model.specs.declared.event.Event.{Event}
use Rattle.arm7_model.specs.declared.event.Event.TheVariants as event
use Rattle.arm7_model.specs.Accesses.{Fetch}
use Rattle.arm7_model.specs.Arithmetic.{with_flags, zero_of}
use Rattle.arm7_model.specs.Laws.{StepIsOne, StepIsValid}
use Rattle.arm7_model.specs.Memory.{in_memory}
use Rattle.arm7_model.specs.Outcomes.{Stepped}
use Rattle.arm7_model.specs.Registers.{AreWords, IsStatus, IsValidState, State, bank_in, has_mode, is_thumb, mode_in, mode_named}
use Rattle.arm7_model.specs.Runs.{Input, IsCounted, quiet}
use Rattle.arm7_model.specs.Step.{Step}
use Rattle.arm7_model.proofs.Opens.{row_opens}
use Rattle.arm7_model.proofs.Steps.{state_of}
use Rattle.kit_laws.specs.Handler.{IsKit}
use Rattle.kit_laws.specs.Laws.{MayBeInterrupted}
use Rattle.kit_laws.specs.Rules.{IsOutOfIrq, IsOwnStep, KeepsRules}
use Rattle.kit_laws.proofs.Examples.{board, exit-step, exits, kit-there, bytes, memory, own-word, rules-of}
use Rattle.kit_laws.proofs.BesideStates.{beside-self, own_scratch}
use Rattle.kit_laws.proofs.HandlerSteps.{code_step}
use Rattle.kit_laws.proofs.Interrupted.{Run, Runs, comes, exits-here, goes-on}
use Rattle.kit_laws.proofs.OwnFetch.{no-lines}

abbrev rest : ArmState
rest = record {
  r = [];
  cpsr = 0;
  spsr = 0x10 ∷ 0x10 ∷ 0x10 ∷ 0x10 ∷ 0x10 ∷ [];
  banks = record { high = 0 ∷ 0 ∷ 0 ∷ 0 ∷ 0 ∷ []; r13 = 0 ∷ 1 ∷ 2 ∷ 3 ∷ 4 ∷ 5 ∷ []; r14 = 0 ∷ 1 ∷ 2 ∷ 3 ∷ 4 ∷ 5 ∷ [] };
}

abbrev registers : ℕ → ℕ → List ℕ
registers pc n = 1 ∷ n ∷ 3 ∷ 4 ∷ 5 ∷ 6 ∷ 7 ∷ 8 ∷ 9 ∷ 10 ∷ 11 ∷ 12 ∷ 13 ∷ 14 ∷ 15 ∷ pc ∷ []

-- at pc, with n in r1
abbrev pub at : ℕ → ℕ → ℕ → State
at pc n status = state_of rest (registers pc n) status memory

abbrev to : State → Event → ℕ → Stepped
to s e pc = record { state = s; event = e; accesses = Fetch pc Word ∷ [] }

-- system mode in ARM state, with interrupts unmasked; the flags are free
pub record IsOpen (status : ℕ) : Type 0 where
  pub mode : bits status 0 5 ≡ 0x1F
  pub arm : bit status 5 ≡ 0
  pub irq : bit status 7 ≡ 0

-- CPSR behind SUBS
abbrev after : ℕ → ℕ → ℕ
after n status = with_flags status n 1 0

open-after : (n status : ℕ) → IsOpen status → IsOpen (after n status)
unfolding with_flags
open-after n status o =
    let m = o.mode in let a = o.arm in let i = o.irq in record { mode = omega arith; arm = omega arith; irq = omega arith }

there : (a : ℕ) → a < 0x1000 → in_memory board a 4 ≡ true
unfolding in_memory
there a lt =
    let m0 : nat_lt a 0x10000 ≡ true = grind arith in
    let m1 : nat_lt (suc a) 0x10000 ≡ true = grind arith in
    let m2 : nat_lt (suc (suc a)) 0x10000 ≡ true = grind arith in
    let m3 : nat_lt (suc (suc (suc a))) 0x10000 ≡ true = grind arith in
    rw (m0, m1, m2, m3) refl

mov-step : (status : ℕ) → IsOpen status → Step board (at 0x54 2 status) quiet.lines quiet.answers (to (at 0x58 10 status) event.Ran 0x54)
unfolding row_opens
mov-step status o =
    code_step board rest (registers 0x54 2) status memory 0x54 0xE3A0100A (DataImmediate Al Mov false 0 1 0 10) _ quiet.lines [] (no-lines status) o.arm refl refl (there 0x54 (omega arith)) refl (grind arith)
    refl

subs-step : (n status : ℕ) → n < 10 → IsOpen status → Step board (at 0x58 (suc n) status) quiet.lines quiet.answers (to (at 0x5C n (after n status)) event.Ran 0x58)
unfolding row_opens
subs-step n status lt o =
    let value : (suc n + 4294967294 + 1) % 4294967296 ≡ n = omega arith in
    let carry : (suc n + 4294967294 + 1) / 4294967296 ≡ 1 = omega arith in
    let top : suc n / 2147483648 % 2 ≡ 0 = omega arith in
    code_step board rest (registers 0x58 (suc n)) status memory 0x58 0xE2511001 (DataImmediate Al Sub true 1 1 0 1) _ quiet.lines [] (no-lines status) o.arm refl refl (there 0x58 (omega arith)) refl (grind arith)
    (rw (value, carry, top) refl)

-- BNE, taken or not
bne-step : (n status : ℕ) → bit status 30 ≡ 0 → IsOpen status → Step board (at 0x5C n status) quiet.lines quiet.answers (to (at 0x58 n status) event.Ran 0x5C)
unfolding row_opens
bne-step n status z o =
    code_step board rest (registers 0x5C n) status memory 0x5C 0x1AFFFFFD (Branch Ne false 0xFFFFFD) _ quiet.lines [] (no-lines status) o.arm refl refl (there 0x5C (omega arith)) refl (grind arith)
    (rw (z, o.arm) refl)

fall-step : (n status : ℕ) → bit status 30 ≡ 1 → IsOpen status → Step board (at 0x5C n status) quiet.lines quiet.answers (to (at 0x60 n status) event.Ran 0x5C)
unfolding row_opens
fall-step n status z o =
    code_step board rest (registers 0x5C n) status memory 0x5C 0x1AFFFFFD (Branch Ne false 0xFFFFFD) _ quiet.lines [] (no-lines status) o.arm refl refl (there 0x5C (omega arith)) refl (grind arith)
    (rw z refl)

swi-step : (n status : ℕ) → IsOpen status → Step board (at 0x60 n status) quiet.lines quiet.answers (to (at 0x64 n status) (event.Host 0x11) 0x60)
unfolding row_opens
swi-step n status o =
    code_step board rest (registers 0x60 n) status memory 0x60 0xEF000011 (SoftwareInterrupt Al 0x11) _ quiet.lines [] (no-lines status) o.arm refl refl (there 0x60 (omega arith)) refl (grind arith)
    refl

-- ---- the rules are kept

own : (pc to_pc n status : ℕ) (e : Event) → pc + 4 ≤ 0x100 → IsCounted e → e ≢ event.Host 0x02 → IsOpen status → IsOwnStep board 0x100 (to (at to_pc n status) e pc)
own pc to_pc n status e low counted other o = record {
  accesses = (own-word pc low, tt);
  counted = counted;
  mode = out status o;
  string = λ i. absurd (other i);
}
  where
    out : (c : ℕ) → IsOpen c → bits c 0 5 ≢ 0x12
    out c q = let m = q.mode in omega arith

out-of-irq : (status : ℕ) → IsOpen status → bits status 0 5 ≢ 0x12
out-of-irq status o = let m = o.mode in omega arith

not-host : event.Ran ≢ event.Host 0x02
not-host e = cc

not-exit : event.Ran ≢ event.Host 0x11
not-exit e = cc

not-print : event.Host 0x11 ≢ event.Host 0x02
not-print e = absurd cc

zero-flag : (n status : ℕ) → n < 9 → bit (after (suc n) status) 30 ≡ 0
unfolding with_flags
zero-flag n status lt = let z : zero_of (suc n) ≡ 0 = grind arith in omega arith

one-flag : (status : ℕ) → bit (after 0 status) 30 ≡ 1
unfolding with_flags
one-flag status = omega arith

-- ---- the states before are valid

all-small : (bound : ℕ) (xs : List ℕ) → 0 < bound → AllByRecursion (λ x. x < bound) xs → (k : ℕ) → slice_index xs k < bound
all-small bound [] some h k = some
all-small bound (x ∷ xs) some h zero = h.0
all-small bound (x ∷ xs) some h (suc k) = all-small bound xs some h.1 k

small : (xs : List ℕ) → AllByRecursion (λ x. x < 2 ^ 32) xs → (n : ℕ) → length xs ≡ n → AreWords n xs
small xs h n e = record { count = e; each = all-small (2 ^ 32) xs (omega arith) h }

statuses : (k : ℕ) → IsStatus (slice_index rest.spsr k)
statuses zero = record { is_word = omega arith; reserved = refl }
statuses (suc zero) = record { is_word = omega arith; reserved = refl }
statuses (suc (suc zero)) = record { is_word = omega arith; reserved = refl }
statuses (suc (suc (suc zero))) = record { is_word = omega arith; reserved = refl }
statuses (suc (suc (suc (suc zero)))) = record { is_word = omega arith; reserved = refl }
statuses (suc (suc (suc (suc (suc k))))) = record { is_word = omega arith; reserved = refl }

valid-at : (pc : ℕ) → pc < 2 ^ 32 → IsValidState (at pc 2 0x1F)
unfolding bank_in mode_in mode_named has_mode is_thumb
valid-at pc lt = record {
  core = record {
    visible = small (registers pc 2) (grind arith) 16 refl;
    high = small rest.banks.high (grind arith) 5 refl;
    r13 = small rest.banks.r13 (grind arith) 6 refl;
    r14 = small rest.banks.r14 (grind arith) 6 refl;
    no_r13 = refl;
    no_r14 = refl;
    mode = refl;
    status = record { is_word = omega arith; reserved = refl };
    saved_count = refl;
    saved_status = statuses;
    even = λ e. absurd cc;
  };
  memory = bytes;
}

module _ (one : StepIsOne) (valid : StepIsValid) where
  -- the program keeps the rules from here on, and there is a run of n steps
  abbrev Fine : State → ℕ → Type 0
  Fine s n = KeepsRules board 0x100 s × Runs board 0x100 s n

  goes-before : (s : State) (x : Stepped) (n : ℕ) → Step board s quiet.lines quiet.answers x → IsOutOfIrq s → IsOwnStep board 0x100 x → x.event ≢ event.Host 0x11
      → Fine x.state n → Fine s (suc n)
  goes-before s x n st out owned more (rules, runs) =
      let kept = rules-of board 0x100 s x one st out owned (λ _. rules) in
      (kept, goes-on board 0x100 0xF000000C valid s kept x n st more runs)

  exit : (s : State) (x : Stepped) → Step board s quiet.lines quiet.answers x → IsOutOfIrq s → IsOwnStep board 0x100 x → x.event ≡ event.Host 0x11 → Fine s 1
  exit s x st out owned is =
      let kept = rules-of board 0x100 s x one st out owned (λ more. absurd (more is)) in
      (kept, exits-here board 0x100 0xF000000C valid s kept x st)

  interrupted : (s : State) (n : ℕ) → bit s.core.cpsr 7 ≡ 0 → s.memory ≡ memory → Fine s n → Fine s (12 + n)
  interrupted s n unmasked same (rules, runs) =
      (rules, comes board 0x100 0xF000000C valid s rules n unmasked (subst (IsKit board 0x100 0xF000000C) (sym same) kit-there) runs)

  subs : (n status m : ℕ) → n < 10 → IsOpen status → Fine (at 0x5C n (after n status)) m → Fine (at 0x58 (suc n) status) (suc m)
  subs n status m lt o later =
      goes-before (at 0x58 (suc n) status) (to (at 0x5C n (after n status)) event.Ran 0x58) m (subs-step n status lt o) (out-of-irq status o)
      (own 0x58 0x5C n (after n status) event.Ran (omega arith) tt not-host (open-after n status o)) not-exit later

  back : (n status m : ℕ) → bit status 30 ≡ 0 → IsOpen status → Fine (at 0x58 n status) m → Fine (at 0x5C n status) (suc m)
  back n status m z o later =
      goes-before (at 0x5C n status) (to (at 0x58 n status) event.Ran 0x5C) m (bne-step n status z o) (out-of-irq status o)
      (own 0x5C 0x58 n status event.Ran (omega arith) tt not-host o) not-exit later

  swi : (n status : ℕ) → IsOpen status → Fine (at 0x60 n status) 1
  swi n status o =
      exit (at 0x60 n status) (to (at 0x64 n status) (event.Host 0x11) 0x60) (swi-step n status o) (out-of-irq status o)
      (own 0x60 0x64 n status (event.Host 0x11) (omega arith) tt not-print o) refl

  fall : (n status : ℕ) → bit status 30 ≡ 1 → IsOpen status → Fine (at 0x5C n status) (suc 1)
  fall n status z o =
      goes-before (at 0x5C n status) (to (at 0x60 n status) event.Ran 0x5C) 1 (fall-step n status z o) (out-of-irq status o)
      (own 0x5C 0x60 n status event.Ran (omega arith) tt not-host o) not-exit (swi n status o)

  loop : (n status : ℕ) → n < 10 → IsOpen status → Fine (at 0x58 (suc n) status) (2 * n + 3)
  loop zero status lt o =
      subst (Fine (at 0x58 1 status)) (omega arith) (subs 0 status (suc 1) lt o (fall 0 (after 0 status) (one-flag status) (open-after 0 status o)))
  loop (suc n) status lt o =
      let now = after (suc n) status in
      let p = open-after (suc n) status o in
      subst (Fine (at 0x58 (suc (suc n)) status)) (omega arith)
      (subs (suc n) status (suc (2 * n + 3)) lt o (back (suc n) now (2 * n + 3) (zero-flag n status (omega arith)) p (loop n now (omega arith) p)))

  open-first : IsOpen 0x1F
  open-first = record { mode = refl; arm = refl; irq = refl }

  -- the level is up twice before the loop's first turn, the second time at once after the return
  twice : Fine (at 0x54 2 0x1F) 46
  twice =
      goes-before (at 0x54 2 0x1F) (to (at 0x58 10 0x1F) event.Ran 0x54) 45 (mov-step 0x1F open-first) (out-of-irq 0x1F open-first)
      (own 0x54 0x58 10 0x1F event.Ran (omega arith) tt not-host open-first) not-exit
      (interrupted (at 0x58 10 0x1F) 33 refl refl (interrupted (at 0x58 10 0x1F) 21 refl refl (loop 9 0x1F (omega arith) open-first)))

  -- SWI 0x11 with an interrupt before it
  once : Fine (at 0x50 2 0x1F) 13
  unfolding exits
  once =
      interrupted (at 0x50 2 0x1F) 1 refl refl
      (exit (at 0x50 2 0x1F) exits exit-step (out-of-irq 0x1F open-first)
      (own 0x50 0x54 2 0x1F (event.Host 0x11) (omega arith) tt not-print open-first) refl)

  -- ---- the programs may be interrupted

  abbrev Example : State → ℕ → Type 0
  Example s n = (inputs : List Input) × (steps : List Stepped) × (length steps ≡ n) × MayBeInterrupted board 0x100 s inputs steps

  example : (s : State) (n : ℕ) → IsValidState s → Fine s n → Example s n
  example s n v (rules, runs) =
      let self = beside-self 0x100 s in
      let r = subst (λ (t : State). Run board t n) self (runs (own_scratch 0x100 s) (subst IsValidState (sym self) v)) in
      (r.inputs, r.steps, r.long, record { valid = v; rules = rules; down = r.down; run = r.run; exits = r.exits })

  pub with-one-interrupt : Example (at 0x50 2 0x1F) 13
  with-one-interrupt = example (at 0x50 2 0x1F) 13 (valid-at 0x50 (omega arith)) once

  pub with-two-interrupts : Example (at 0x54 2 0x1F) 46
  with-two-interrupts = example (at 0x54 2 0x1F) 46 (valid-at 0x54 (omega arith)) twice
