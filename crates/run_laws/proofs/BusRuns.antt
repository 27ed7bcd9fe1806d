-- A run over a bus and a run of the model, each made of the other.
use Rattle.std.proofs.Common.{◌≡◌, ℕ, zero, suc, Bool, true, false, List, [], ◌∷◌, ◌++◌, length, refl, sym, ap, ◌∙◌, subst, append-nil, append_assoc}
use Rattle.arm7_model.specs.declared.state.ArmState.{ArmState}
use Rattle.arm7_model.specs.declared.event.Event.{Event}
use Rattle.arm7_model.specs.declared.event.Event.TheVariants as event
use Rattle.arm7_model.specs.Accesses.{Access}
use Rattle.arm7_model.specs.Memory.{Board, Bytes}
use Rattle.arm7_model.specs.Outcomes.{Stepped}
use Rattle.arm7_model.specs.Registers.{State as Whole}
use Rattle.arm7_model.specs.Runs.{AreSteps, EachStep, IsCounted, accesses_of, behind}
use Rattle.arm7_model.specs.Step.{Levels, Step, fetched}
use Rattle.arm7_bus.specs.Buses.{after_tick}
use Rattle.arm7_bus.specs.Seats.{lines_up}
use Rattle.arm7_bus.specs.States.{Contents, State}
use Rattle.arm7_transfers.specs.Boards.{board_of, over}
use Rattle.arm7_transfers.specs.Frames.{has_frames}
use Rattle.arm7_transfers.specs.Ready.{IsReady}
use Rattle.arm7_transfers.specs.Served.{answers_to, served}
use Rattle.arm7_transfers.proofs.ReadyLemmas.{board-same, places-tick, ready-tick}
use Rattle.arm7_core.specs.Machines.{Ends, IsStep, IsStepFrom, levels}
use Rattle.arm7_run.specs.Runs.{GoesOn, Leads, goes, stays}
use Rattle.run_laws.specs.Laws.{BusRunsAreRuns, RunsAreBusRuns}
use Rattle.run_laws.specs.Steps.{IsRunOf, IsStepOf, Print, StoresAreUsed, given_by, left_by}
use Rattle.run_laws.proofs.ServedMemory.{board-served, frames-used, ready-served, serves, used-as}
use Rattle.kit_laws.proofs.StepAdded.{step-adds}

-- ---- time and the board

pub board-tick : (s : State) → board_of (after_tick s) ≡ board_of s
board-tick s = board-same s (after_tick s) (places-tick s)

-- a bus behind one more step
abbrev pub next : State → List Access → State
next s xs = served (after_tick s) xs

pub board-next : (s : State) (xs : List Access) → board_of (next s xs) ≡ board_of s
board-next s xs = board-served (after_tick s) xs ∙ board-tick s

pub ready-next : (s : State) (xs : List Access) → IsReady s → IsReady (next s xs)
ready-next s xs r = ready-served (after_tick s) xs (ready-tick s r)

pub board-left : (s : State) (xs : List (List Access)) → board_of (left_by s xs) ≡ board_of s
board-left s [] = refl
board-left s (x ∷ xs) = board-left (next s x) xs ∙ board-next s x

-- ---- one more step at the end

-- the step of the model that a bus behind some steps makes
abbrev pub Own : Board → Whole → State → Stepped → Type 0
Own board st s x = Step board st (levels (lines_up (after_tick s).devices)) (answers_to (after_tick s) x.accesses) x

steps-end : (board : Board) (st : Whole) (s : State) (steps : List Stepped) (x : Stepped) → AreSteps board st (given_by s (accesses_of steps)) steps
    → Own board (behind st steps) (left_by s (accesses_of steps)) x → IsCounted x.event
    → AreSteps board st (given_by s (accesses_of (steps ++ x ∷ []))) (steps ++ x ∷ [])
steps-end board st s [] x are one counted = (one, counted, tt)
steps-end board st s (y ∷ ys) x (first, more, rest) one counted = (first, more, steps-end board y.state (next s y.accesses) ys x rest one counted)

behind-end : (st : Whole) (steps : List Stepped) (x : Stepped) → behind st (steps ++ x ∷ []) ≡ x.state
behind-end st [] x = refl
behind-end st (y ∷ ys) x = behind-end y.state ys x

left-end : (s : State) (steps : List Stepped) (x : Stepped) → left_by s (accesses_of (steps ++ x ∷ [])) ≡ next (left_by s (accesses_of steps)) x.accesses
left-end s [] x = refl
left-end s (y ∷ ys) x = left-end (next s y.accesses) ys x

count-end : (steps : List Stepped) (x : Stepped) → length (steps ++ x ∷ []) ≡ suc (length steps)
count-end [] x = refl
count-end (y ∷ ys) x = ap suc (count-end ys x)

print-end : (s : State) (steps : List Stepped) (x : Stepped) (text piece : List ℕ) → Print s steps text
    → GoesOn x.event x.state.core (next (left_by s (accesses_of steps)) x.accesses) piece → Print s (steps ++ x ∷ []) (text ++ piece)
print-end s [] x text piece none on = (piece, [], on, refl, ap (λ (l : List ℕ). l ++ piece) none ∙ sym (append-nil piece))
print-end s (y ∷ ys) x text piece (first, rest, goes_on, more, e) on =
    (first, rest ++ piece, goes_on, print-end (next s y.accesses) ys x rest piece more on, ap (λ (l : List ℕ). l ++ piece) e ∙ append_assoc first rest piece)

counts : (e : Event) (core : ArmState) (s : State) (piece : List ℕ) → GoesOn e core s piece → IsCounted e
counts event.Ran core s piece h = tt
counts (event.Took x) core s piece h = tt
counts (event.Host n) core s piece h = tt
counts (event.Unpredictable w) core s piece h = h
counts (event.NoFrame a) core s piece h = h

-- a step behind which a run goes on is made whole
pub record IsWhole (core : ArmState) (s : State) (e : Event) (core' : ArmState) (s' : State) : Type 0 where
  pub first : Stepped
  pub step : Step (board_of s) (over core s) (levels (lines_up s.devices)) (answers_to s first.accesses) first
  pub is_event : e ≡ first.event
  pub state : over core' s' ≡ first.state
  pub bus : s' ≡ served s first.accesses

is-whole : (core : ArmState) (s : State) (e : Event) (core' : ArmState) (s' : State) (piece : List ℕ) → IsStepFrom core s e core' s' → GoesOn e core' s' piece
    → IsWhole core s e core' s'
is-whole core s e core' s' piece x on = go (has_frames s x.first.accesses) x.ends
  where
    go : (b : Bool) → Ends b core s x.first e core' s' → IsWhole core s e core' s'
    go true (p, q, r) = record { first = x.first; step = x.step; is_event = p; state = q; bus = r }
    go false (a, p, l, c, f) = absurd (subst (λ (y : Event). GoesOn y core' s' piece) p on)

-- ---- a run over a bus is one of the model

one-more : (core : ArmState) (s : State) (n : ℕ) (text piece : List ℕ) (core1 core2 : ArmState) (s1 s2 : State) (e : Event) (steps : List Stepped)
    → IsRunOf core s n text core1 s1 steps → IsStep core1 s1 e core2 s2 → GoesOn e core2 s2 piece
    → (all : List Stepped) × IsRunOf core s (suc n) (text ++ piece) core2 s2 all
one-more core s n text piece core1 core2 s1 s2 e steps run step on =
    let w = is-whole core1 (after_tick s1) e core2 s2 piece step on in
    let x = w.first in
    let t = left_by s (accesses_of steps) in
    let board : board_of (after_tick s1) ≡ board_of s =
    board-tick s1 ∙ ap board_of run.bus ∙ board-left s (accesses_of steps) in
    let own1 : Own (board_of s) (over core1 s1) s1 x =
    subst (λ (b : Board). Step b (over core1 (after_tick s1)) (levels (lines_up (after_tick s1).devices)) (answers_to (after_tick s1) x.accesses) x) board w.step in
    let own2 : Own (board_of s) (behind (over core s) steps) s1 x = subst (λ (y : Whole). Own (board_of s) y s1 x) (sym run.state) own1 in
    let own : Own (board_of s) (behind (over core s) steps) t x = subst (λ (y : State). Own (board_of s) (behind (over core s) steps) y x) run.bus own2 in
    let core_is : core2 ≡ x.state.core = ap (λ (y : Whole). y.core) w.state in
    let bus_is : s2 ≡ next t x.accesses = w.bus ∙ ap (λ (y : State). next y x.accesses) run.bus in
    let on1 : GoesOn x.event core2 s2 piece = subst (λ (y : Event). GoesOn y core2 s2 piece) w.is_event on in
    let on2 : GoesOn x.event x.state.core s2 piece = subst (λ (c : ArmState). GoesOn x.event c s2 piece) core_is on1 in
    let on3 : GoesOn x.event x.state.core (next t x.accesses) piece = subst (λ (y : State). GoesOn x.event x.state.core y piece) bus_is on2 in (
      steps ++ x ∷ [],
      record {
        count = count-end steps x ∙ ap suc run.count;
        steps_are = steps-end (board_of s) (over core s) s steps x run.steps_are own (counts x.event x.state.core (next t x.accesses) piece on3);
        print = print-end s steps x text piece run.print on3;
        state = behind-end (over core s) steps x ∙ sym w.state;
        bus = bus_is ∙ sym (left-end s steps x);
      },
    )

pub bus-runs-are-runs : BusRunsAreRuns
bus-runs-are-runs core s zero text core' s' r stays =
    ([], record { count = refl; steps_are = tt; print = refl; state = refl; bus = refl })
bus-runs-are-runs core s (suc n) whole core' s' r (goes {text = text} piece {core1 = core1} {s1 = s1} e before step on) =
    let (steps, run) = bus-runs-are-runs core s n text core1 s1 r before in
    one-more core s n text piece core1 core' s1 s' e steps run step on

-- ---- and the other way round

pub first-step : (core : ArmState) (s : State) (n : ℕ) (piece text : List ℕ) (e : Event) (core1 core2 : ArmState) (s1 s2 : State)
    → IsStep core s e core1 s1 → GoesOn e core1 s1 piece → Leads core1 s1 n text core2 s2 → Leads core s (suc n) (piece ++ text) core2 s2
first-step core s zero piece text e core1 core2 s1 s2 step on stays =
    subst (λ (l : List ℕ). Leads core s 1 l core1 s1) (sym (append-nil piece)) (goes piece e stays step on)
first-step core s (suc n) piece whole e core1 core2 s1 s2 step on (goes {text = text} later {core1 = core3} {s1 = s3} e' before step' on') =
    subst (λ (l : List ℕ). Leads core s (suc (suc n)) l core2 s2) (append_assoc piece text later)
    (goes later e' (first-step core s n piece text e core1 core3 s1 s3 step on before) step' on')

-- the memory of a step is what the bus has served
step-memory : (core : ArmState) (s : State) (x : Stepped) (lines : Levels) → IsReady s → StoresAreUsed s.contents x.accesses
    → Step (board_of s) (over core s) lines (answers_to s x.accesses) x
    → (served s x.accesses).contents.memory ≡ x.state.memory
step-memory core s x lines r used (i, read, e) =
    let a = answers_to s x.accesses in
    let p = step-adds (board_of s) (over core s) lines i (fetched (board_of s) (over core s) a) in
    let made : x.accesses ≡ p.made = ap (λ (t : Stepped). t.accesses) e ∙ p.accesses a (λ f. refl) in
    let h = serves s p.made r p.sound (subst (λ (xs : List Access). StoresAreUsed s.contents xs) made used) in
    ap (λ (xs : List Access). (served s xs).contents.memory) made ∙ h.memory
    ∙ sym (ap (λ (t : Stepped). t.state.memory) e ∙ p.memory a (λ f. refl))

-- and it stays in the used pages
pub step-used : (core : ArmState) (s : State) (x : Stepped) (lines : Levels) → IsReady s → StoresAreUsed s.contents x.accesses
    → Step (board_of s) (over core s) lines (answers_to s x.accesses) x
    → ((served s x.accesses).contents.used ≡ s.contents.used) × ((served s x.accesses).contents.banks ≡ s.contents.banks)
step-used core s x lines r used (i, read, e) =
    let a = answers_to s x.accesses in
    let p = step-adds (board_of s) (over core s) lines i (fetched (board_of s) (over core s) a) in
    let made : x.accesses ≡ p.made = ap (λ (t : Stepped). t.accesses) e ∙ p.accesses a (λ f. refl) in
    let h = serves s p.made r p.sound (subst (λ (xs : List Access). StoresAreUsed s.contents xs) made used) in (
      ap (λ (xs : List Access). (served s xs).contents.used) made ∙ h.used,
      ap (λ (xs : List Access). (served s xs).contents.banks) made ∙ h.banks,
    )

pub each-as : (c d : Contents) (xs : List (List Access)) → d.used ≡ c.used → d.banks ≡ c.banks → EachStep (StoresAreUsed c) xs → EachStep (StoresAreUsed d) xs
each-as c d [] e f h = tt
each-as c d (x ∷ xs) e f h = (used-as c d x e f h.0, each-as c d xs e f h.1)

abbrev pub Back : ArmState → State → List ℕ → List Stepped → Type 0
Back core s text steps =
    (core' : ArmState) × (s' : State) × Leads core s (length steps) text core' s' × IsRunOf core s (length steps) text core' s' steps

pub one-step-back : (core : ArmState) (s : State) (x : Stepped) → IsReady s → Own (board_of s) (over core s) s x → StoresAreUsed s.contents x.accesses
    → IsStepOf core (after_tick s) x x.event x.state.core (next s x.accesses) × (over x.state.core (next s x.accesses) ≡ x.state)
one-step-back core s x r one used =
    let t = after_tick s in
    let ready = ready-tick s r in
    let step : Step (board_of t) (over core t) (levels (lines_up t.devices)) (answers_to t x.accesses) x =
    subst (λ (b : Board). Step b (over core t) (levels (lines_up t.devices)) (answers_to t x.accesses) x) (sym (board-tick s)) one in
    let memory = step-memory core t x (levels (lines_up t.devices)) ready used step in
    let state : over x.state.core (next s x.accesses) ≡ x.state = ap (λ (m : Bytes). record { core = x.state.core; memory = m }) memory in
    (record { step = step; ends = rw (frames-used t x.accesses ready used) (refl, state, refl) }, state)

pub runs-are-bus-runs : RunsAreBusRuns
runs-are-bus-runs core s text [] r are print used =
    (core, s, subst (λ (l : List ℕ). Leads core s 0 l core s) (sym print) stays, record { count = refl; steps_are = tt; print = print; state = refl; bus = refl })
runs-are-bus-runs core s text (x ∷ xs) r (one, counted, rest) (piece, more, on, others, e) (used, later) =
    let t = next s x.accesses in
    let (made, state) = one-step-back core s x r one used in
    let step : IsStep core s x.event x.state.core t = record { first = x; step = made.step; ends = made.ends } in
    let kept = step-used core (after_tick s) x (levels (lines_up (after_tick s).devices)) (ready-tick s r) used
    (subst (λ (b : Board). Step b (over core (after_tick s)) (levels (lines_up (after_tick s).devices)) (answers_to (after_tick s) x.accesses) x) (sym (board-tick s)) one) in
    let rest1 : AreSteps (board_of s) (over x.state.core t) (given_by t (accesses_of xs)) xs =
    subst (λ (y : Whole). AreSteps (board_of s) y (given_by t (accesses_of xs)) xs) (sym state) rest in
    let rest2 : AreSteps (board_of t) (over x.state.core t) (given_by t (accesses_of xs)) xs =
    subst (λ (b : Board). AreSteps b (over x.state.core t) (given_by t (accesses_of xs)) xs) (sym (board-next s x.accesses)) rest1 in
    let (core', s', leads, run) = runs-are-bus-runs x.state.core t more xs (ready-next s x.accesses r) rest2 others
    (each-as s.contents t.contents (accesses_of xs) kept.0 kept.1 later) in (
      core',
      s',
      subst (λ (l : List ℕ). Leads core s (suc (length xs)) l core' s') (sym e) (first-step core s (length xs) piece more x.event x.state.core core' t s' step on leads),
      record {
        count = refl;
        steps_are = (one, counted, rest);
        print = (piece, more, on, others, e);
        state = ap (λ (y : Whole). behind y xs) (sym state) ∙ run.state;
        bus = run.bus;
      },
    )
