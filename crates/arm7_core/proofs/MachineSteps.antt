-- The machine's step over the bus after its tick.
use Rattle.std.proofs.Common.{◌≡◌, ℕ, ◌+◌, ◌%◌, ◌^◌, ◌<◌, Bool, true, false, List, [], Option, Some, None, refl, sym, ap, ◌∙◌, subst, append-nil}
use Rattle.arm7_model.specs.declared.state.ArmState.{ArmState}
use Rattle.arm7_model.specs.declared.event.Event.{Event}
use Rattle.arm7_model.specs.declared.event.Event.TheVariants as event
use Rattle.arm7_model.specs.declared.event.Exception.{Exception}
use Rattle.arm7_model.specs.Accesses.{Access}
use Rattle.arm7_model.specs.Outcomes.{Stepped, entered, took}
use Rattle.arm7_model.specs.Registers.{IsValid, IsValidState, State as Whole, register}
use Rattle.arm7_model.specs.Laws.{StepIsValid}
use Rattle.arm7_model.specs.Step.{Step, Unread, fetches, interrupt, stepped}
use Rattle.sdt_outside.specs.declared.device.Lines.{Lines}
use Rattle.arm7_bus.specs.Buses.{after_tick}
use Rattle.arm7_bus.specs.Seats.{lines_up}
use Rattle.arm7_bus.specs.States.{State}
use Rattle.arm7_transfers.specs.Boards.{board_of, over}
use Rattle.arm7_transfers.specs.Frames.{has_frames}
use Rattle.arm7_transfers.specs.Ready.{IsReady}
use Rattle.arm7_transfers.specs.Served.{answers_to}
use Rattle.arm7_transfers.proofs.DoneLemmas.{fits}
use Rattle.arm7_transfers.proofs.ReadyLemmas.{ready-tick}
use Rattle.arm7_transfers.specs.Steps.{IsStepped, MakesStep, LacksFrame}
use Rattle.arm7_core.specs.Machines.{Ends, IsStep, IsStepFrom, levels}

-- no interrupt comes
made-step : (core : ArmState) (s : State) (e : Event) (core' : ArmState) (s' : State) → MakesStep core s e core' s'
    → interrupt (levels (lines_up s.devices)) core.cpsr ≡ None → IsStepFrom core s e core' s'
made-step core s e core' s' m n = record {
  first = record { state = over core' s'; event = e; accesses = m.made };
  step = subst (λ (l : List ℕ). Step (board_of s) (over core s) (levels (lines_up s.devices)) l (record { state = over core' s'; event = e; accesses = m.made }))
      (append-nil (answers_to s m.made)) (m.exact (levels (lines_up s.devices)) [] n);
  ends = rw m.frames (refl, refl, m.after);
}

lacked-step : (core : ArmState) (s : State) (a : ℕ) (core' : ArmState) (s' : State) → LacksFrame core s a core' s'
    → interrupt (levels (lines_up s.devices)) core.cpsr ≡ None → IsStepFrom core s (event.NoFrame a) core' s'
lacked-step core s a core' s' m n =
    let x = m.exact (levels (lines_up s.devices)) [] n in
    record {
      first = x.0;
      step = subst (λ (l : List ℕ). Step (board_of s) (over core s) (levels (lines_up s.devices)) l x.0)
          (append-nil (answers_to s m.asked) ∙ ap (λ (l : List Access). answers_to s l) (sym x.2)) x.1;
      ends = rw (x.2, m.frames) (a, refl, m.least, m.registers, m.fetched);
    }

pub step_plain : (core : ArmState) (s : State) (e : Event) (core' : ArmState) (s' : State) (o : Option Exception) → IsStepped core s e core' s'
    → o ≡ interrupt (levels (lines_up s.devices)) core.cpsr → o ≡ None → IsStepFrom core s e core' s'
step_plain core s event.Ran core' s' o m h n = made-step core s event.Ran core' s' m (sym h ∙ n)
step_plain core s (event.Took x) core' s' o m h n = made-step core s (event.Took x) core' s' m (sym h ∙ n)
step_plain core s (event.Host x) core' s' o m h n = made-step core s (event.Host x) core' s' m (sym h ∙ n)
step_plain core s (event.Unpredictable x) core' s' o m h n = made-step core s (event.Unpredictable x) core' s' m (sym h ∙ n)
step_plain core s (event.NoFrame a) core' s' o m h n = lacked-step core s a core' s' m (sym h ∙ n)

-- an interrupt comes
pub step_taken : (core core' : ArmState) (s : State) (x : Exception) (at : ℕ) (o : Option Exception) → IsReady s
    → o ≡ interrupt (levels (lines_up s.devices)) core.cpsr → o ≡ Some x → at ≡ register core 15 → core' ≡ entered x ((at + 4) % 2 ^ 32) core
    → IsStepFrom core s (event.Took x) core' s
unfolding stepped took fetches
step_taken core core' s x at o r h n a e =
    let now = sym h ∙ n in
    let entry : core' ≡ entered x ((register core 15 + 4) % 2 ^ 32) core = e ∙ ap (λ (v : ℕ). entered x ((v + 4) % 2 ^ 32) core) a in
    record {
      first = record { state = over core' s; event = event.Took x; accesses = [] };
      step = (Unread, λ f. absurd (never (rw now at f)), rw now (ap (λ (c : ArmState). record { state = over c s; event = event.Took x; accesses = [] }) entry));
      ends = rw (fits _ _ r.room) (refl, refl, refl);
    }
  where
    never : false ≡ true → ⊥
    never e = cc

-- ---- by what the calls of the code gave
pub ready_ticked : (s t : State) → t ≡ after_tick s → IsReady s → IsReady t
ready_ticked s t e r = subst (λ (x : State). IsReady x) (sym e) (ready-tick s r)

pub plain_step : (core core' : ArmState) (s t s' : State) (e : Event) (o : Option Exception) (lines : Lines) → IsReady s → t ≡ after_tick s → lines ≡ lines_up t.devices
    → o ≡ interrupt (levels lines) core.cpsr → o ≡ None → IsStepped core t e core' s' → IsStepFrom core (after_tick s) e core' s'
plain_step core core' s t s' e o lines r after l h n m =
    subst (λ (x : State). IsStepFrom core x e core' s') after
    (step_plain core t e core' s' o m (h ∙ ap (λ (y : Lines). interrupt (levels y) core.cpsr) l) n)

pub taken_step : (core core' : ArmState) (s t : State) (x : Exception) (at : ℕ) (o : Option Exception) (lines : Lines) → IsReady s → t ≡ after_tick s → lines ≡ lines_up t.devices
    → o ≡ interrupt (levels lines) core.cpsr → o ≡ Some x → at ≡ register core 15 → core' ≡ entered x ((at + 4) % 2 ^ 32) core
    → IsStepFrom core (after_tick s) (event.Took x) core' t
taken_step core core' s t x at o lines r after l h n a e =
    subst (λ (y : State). IsStepFrom core y (event.Took x) core' t) after
    (step_taken core core' t x at o (ready_ticked s t after r) (h ∙ ap (λ (y : Lines). interrupt (levels y) core.cpsr) l) n a e)

-- ---- the state stays valid
pub valid_step : (core core' : ArmState) (s s' : State) (e : Event) → IsReady s → StepIsValid → IsValid core → ((a : ℕ) → (after_tick s).contents.memory a < 256)
    → IsStep core s e core' s' → IsValid core'
valid_step core core' s s' e r law valid bytes m =
    let after = law (board_of (after_tick s)) (over core (after_tick s)) (levels (lines_up (after_tick s).devices)) (answers_to (after_tick s) m.first.accesses) m.first
    (record { core = valid; memory = bytes }) m.step in
    go (has_frames (after_tick s) m.first.accesses) m.first after m.ends
  where
    go : (b : Bool) (first : Stepped) → IsValidState first.state → Ends b core (after_tick s) first e core' s' → IsValid core'
    go true first v ends = subst (λ (c : ArmState). IsValid c) (sym (ap (λ (x : Whole). x.core) ends.1)) v.core
    go false first v (a, named, least, same, fetched) = subst (λ (c : ArmState). IsValid c) (sym same) valid
