-- Runs with interrupts, put together from the end: a step of the program's own, or an interrupt, and what is behind it.
use Rattle.std.proofs.Common.{◌≡◌, ◌≢◌, ℕ, suc, ◌+◌, ◌==◌, Bool, true, false, if◌then◌else◌, Option, List, [], ◌∷◌, Some, length, refl, sym, ap, subst, ◌∙◌, arith}
use Rattle.sdt_word.specs.Numbers.{bit}
use Rattle.arm7_model.specs.declared.event.Event.TheVariants as event
use Rattle.arm7_model.specs.declared.event.Exception.{Exception}
use Rattle.arm7_model.specs.declared.event.Exception.TheVariants as exception
use Rattle.arm7_model.specs.Laws.{StepIsValid}
use Rattle.arm7_model.specs.Memory.{Board}
use Rattle.arm7_model.specs.Outcomes.{Stepped}
use Rattle.arm7_model.specs.Registers.{IsValidState, State, register}
use Rattle.arm7_model.specs.Runs.{AreSteps, Input, IsCounted, quiet}
use Rattle.arm7_model.specs.Step.{Step, can_fetch, interrupt, irq_pending}
use Rattle.kit_laws.specs.Beside.{Scratch, beside, beside_step, with_irq}
use Rattle.kit_laws.specs.Handler.{IsKit}
use Rattle.kit_laws.specs.Rules.{FiqIsDown, KeepsRules, MayExit}
use Rattle.kit_laws.proofs.BesideStates.{beside-twice, kit-beside}
use Rattle.kit_laws.proofs.BesideStep.{made-beside}
use Rattle.kit_laws.proofs.Interrupt.{Handles, last, on, scratch_of, taken}
use Rattle.kit_laws.proofs.IrqRegisters.{other-bank}
use Rattle.kit_laws.proofs.OwnFetch.{can, own-fetch}

-- a run of n steps from a state, over levels with FIQ down, none of whose steps but the last is SWI 0x11
pub record Run (b : Board) (s : State) (n : ℕ) : Type 0 where
  pub inputs : List Input
  pub steps : List Stepped
  pub long : length steps ≡ n
  pub down : FiqIsDown inputs
  pub run : AreSteps b s inputs steps
  pub exits : MayExit steps

-- from beside a state, whatever the scratch is
abbrev pub Runs : Board → ℕ → State → ℕ → Type 0
Runs b work s n = (k : Scratch) → IsValidState (beside work k s) → Run b (beside work k s) n

-- the level of IRQ is up
abbrev pub up : Input
up = record { lines = record { irq = true; fiq = false }; answers = [] }

may-cons : (x : Stepped) (xs : List Stepped) → x.event ≢ event.Host 0x11 → MayExit xs → MayExit (x ∷ xs)
may-cons x [] more may = tt
may-cons x (y ∷ ys) more may = (more, may)

before : (b : Board) (s : State) (i : Input) (x : Stepped) (n : ℕ) → i.lines.fiq ≡ false → Step b s i.lines i.answers x → IsCounted x.event → x.event ≢ event.Host 0x11
    → Run b x.state n → Run b s (suc n)
before b s i x n down st counted more r = record {
  inputs = i ∷ r.inputs;
  steps = x ∷ r.steps;
  long = ap suc r.long;
  down = (down, r.down);
  run = (st, counted, r.run);
  exits = may-cons x r.steps more r.exits;
}

pending-of : (status : ℕ) → bit status 7 ≡ 0 → interrupt up.lines status ≡ Some exception.Irq
unfolding interrupt irq_pending
pending-of status e = rw e (go (bit status 6 == 1))
  where
    irq : Option Exception
    irq = Some exception.Irq

    go : (f : Bool) → (if f then irq else irq) ≡ irq
    go true = refl
    go false = refl

module _ (b : Board) (work ack : ℕ) (valid : StepIsValid) where
  ran : (x : Stepped) → x.event ≡ event.Ran → IsCounted x.event
  ran x e = subst IsCounted (sym e) tt

  stays : (x : Stepped) → x.event ≡ event.Ran → x.event ≢ event.Host 0x11
  stays x e i = differ (sym e ∙ i)
    where
      differ : event.Ran ≡ event.Host 0x11 → ⊥
      differ j = cc

  -- the handler's steps
  through : {m : ℕ} {u t : State} (n : ℕ) → Handles b work ack m u t → Run b t n → Run b u (m + n)
  through {u = u} n (last x st h irq) r = subst (Run b u) (omega arith) (before b u quiet x n refl (st quiet.lines quiet.answers refl) (ran x h.ran) (stays x h.ran) r)
  through {u = u} n (on {n = m} x st h irq more) r = subst (Run b u) (omega arith) (before b u quiet x (m + n) refl (st quiet.lines quiet.answers refl) (ran x h.ran) (stays x h.ran) (through n more r))

  valid-through : {m : ℕ} {u t : State} → Handles b work ack m u t → IsValidState u → IsValidState t
  valid-through {u = u} (last x st h irq) v = valid b u quiet.lines quiet.answers x v (st quiet.lines quiet.answers refl)
  valid-through {u = u} (on x st h irq more) v = valid-through more (valid b u quiet.lines quiet.answers x v (st quiet.lines quiet.answers refl))

  module _ (p : State) (rules : KeepsRules b work p) where
    own-step : (x : Stepped) (k : Scratch) → Step b p quiet.lines quiet.answers x → Step b (beside work k p) quiet.lines quiet.answers (beside_step work k x)
    own-step x k st =
        let made = rules.step [] x tt tt st in
        made-beside b work k p [] (other-bank p.core.cpsr rules.mode) (own-fetch b work p rules) x st made.accesses (other-bank x.state.core.cpsr made.mode)

    -- a step of the program's own, or the last one
    pub goes-on : (x : Stepped) (n : ℕ) → Step b p quiet.lines quiet.answers x → x.event ≢ event.Host 0x11 → Runs b work x.state n → Runs b work p (suc n)
    goes-on x n st more rest k v =
        let st' = own-step x k st in
        before b (beside work k p) quiet (beside_step work k x) n refl st' (rules.step [] x tt tt st).counted more
        (rest k (valid b (beside work k p) quiet.lines quiet.answers (beside_step work k x) v st'))

    pub exits-here : (x : Stepped) → Step b p quiet.lines quiet.answers x → Runs b work p 1
    exits-here x st k v = record {
      inputs = [];
      steps = beside_step work k x ∷ [];
      long = refl;
      down = tt;
      run = (own-step x k st, (rules.step [] x tt tt st).counted, tt);
      exits = tt;
    }

    -- an interrupt
    pub comes : (n : ℕ) → bit p.core.cpsr 7 ≡ 0 → IsKit b work ack p.memory → Runs b work p n → Runs b work p (12 + n)
    unfolding with_irq can_fetch register
    comes n unmasked kit rest k v =
        let s = beside work k p in
        let l = scratch_of work s in
        let pending = pending-of p.core.cpsr unmasked in
        let (x, st, took, silent, handles) = taken b work ack s (kit-beside k p kit) v.core (other-bank p.core.cpsr rules.mode) (can b work p rules) up.lines up.answers pending in
        let fine = valid b s up.lines up.answers x v st in
        let handles' : Handles b work ack 11 x.state (beside work l p) = subst (Handles b work ack 11 x.state) (beside-twice work k l p) handles in
        subst (Run b s) (omega arith) (before b s up x (11 + n) refl st (subst IsCounted (sym took) tt) (λ i. differ (sym took ∙ i)) (through n handles' (rest l (valid-through handles' fine))))
      where
        differ : event.Took exception.Irq ≡ event.Host 0x11 → ⊥
        differ j = cc
