-- The steps that a run made, and what they leave of devices that they don't access.
use Rattle.std.proofs.Common.{◌≡◌, ℕ, zero, suc, ◌+◌, Bool, true, false, List, [], ◌∷◌, ◌++◌, length, refl, sym, ap, ◌∙◌, subst, arith}
use Rattle.sdt_fault.specs.declared.answer.Stop.{Stop}
use Rattle.sdt_fault.specs.declared.answer.Stop.TheVariants as stop
use Rattle.arm7_model.specs.declared.state.ArmState.{ArmState}
use Rattle.arm7_model.specs.declared.event.Event.{Event}
use Rattle.arm7_model.specs.Accesses.{Access, Fetch}
use Rattle.arm7_model.specs.Memory.{Board}
use Rattle.arm7_model.specs.Outcomes.{Stepped}
use Rattle.arm7_model.specs.Registers.{State as Whole, register}
use Rattle.arm7_model.specs.Runs.{AreSteps, EachStep, accesses_of, behind}
use Rattle.arm7_model.specs.Step.{Levels, Step, fetched, fetches}
use Rattle.arm7_bus.specs.Buses.{after_tick}
use Rattle.arm7_bus.specs.Seats.{lines_up}
use Rattle.arm7_bus.specs.States.{State}
use Rattle.arm7_transfers.specs.Boards.{board_of, over}
use Rattle.arm7_transfers.specs.Frames.{has_frames}
use Rattle.arm7_transfers.specs.Ready.{IsReady}
use Rattle.arm7_transfers.specs.Served.{answers_to}
use Rattle.arm7_transfers.proofs.DoneLemmas.{fits}
use Rattle.arm7_transfers.proofs.ReadyLemmas.{board-read, ready-read, ready-tick}
use Rattle.arm7_transfers.proofs.StepLemmas.{width_of}
use Rattle.arm7_core.specs.Machines.{Ends, IsStep, levels}
use Rattle.arm7_run.specs.Runs.{EndsWith, Leads, goes, stays}
use Rattle.run_laws.specs.Devices.{AreOffDevices, ticked_for, touches_of}
use Rattle.run_laws.specs.Laws.{RunLeavesDevices, StepsAreMade}
use Rattle.run_laws.specs.Steps.{AreMade, IsStepOf, given_by, steps_made}
use Rattle.run_laws.proofs.BusRuns.{board-next, board-tick, each-as, next, one-step-back, ready-next, step-used}
use Rattle.run_laws.proofs.Devices.{each-board, off-board, one-read, touches-kept, untouched}
use Rattle.run_laws.proofs.ServedMemory.{board-served, ready-served}
use Rattle.kit_laws.proofs.StepAdded.{step-adds}

-- ---- a run made steps

step-of : (core : ArmState) (s : State) (e : Event) (core' : ArmState) (s' : State) → IsStep core s e core' s'
    → (x : Stepped) × IsStepOf core (after_tick s) x e core' s'
step-of core s e core' s' m = (m.first, record { step = m.step; ends = m.ends })

made-end : (core : ArmState) (s : State) (xs : List Stepped) (core1 : ArmState) (s1 : State) (x : Stepped) (e : Event) (core2 : ArmState) (s2 : State)
    → AreMade core s xs core1 s1 → IsStepOf core1 (after_tick s1) x e core2 s2 → AreMade core s (xs ++ x ∷ []) core2 s2
made-end core s [] core1 s1 x e core2 s2 (c, b) step =
    (e, core2, s2, subst (λ (y : State). IsStepOf core (after_tick y) x e core2 s2) b (subst (λ (y : ArmState). IsStepOf y (after_tick s1) x e core2 s2) c step), (refl, refl))
made-end core s (y ∷ ys) core1 s1 x e core2 s2 (d, core3, s3, first, rest) step =
    (d, core3, s3, first, made-end core3 s3 ys core1 s1 x e core2 s2 rest step)

count-end : (xs : List Stepped) (x : Stepped) → length (xs ++ x ∷ []) ≡ length xs + 1
count-end [] x = refl
count-end (y ∷ ys) x = let c = count-end ys x in omega arith

abbrev Made : ArmState → State → ℕ → ArmState → State → Type 0
Made core s n core' s' = (steps : List Stepped) × (length steps ≡ n) × AreMade core s steps core' s'

one-more : (core : ArmState) (s : State) (n k : ℕ) (core1 : ArmState) (s1 : State) (e : Event) (core2 : ArmState) (s2 : State)
    → Made core s n core1 s1 → IsStep core1 s1 e core2 s2 → k ≡ n + 1 → Made core s k core2 s2
one-more core s n k core1 s1 e core2 s2 (xs, count, are) m more =
    let (x, step) = step-of core1 s1 e core2 s2 m in
    (xs ++ x ∷ [], count-end xs x ∙ ap (λ (i : ℕ). i + 1) count ∙ sym more, made-end core s xs core1 s1 x e core2 s2 are step)

lead-made : (core : ArmState) (s : State) (n : ℕ) (text : List ℕ) (core' : ArmState) (s' : State) → Leads core s n text core' s' → Made core s n core' s'
lead-made core s zero text core' s' stays = ([], refl, (refl, refl))
lead-made core s (suc n) whole core' s' (goes {text = text} piece {core1 = core1} {s1 = s1} e before step on) =
    one-more core s n (suc n) core1 s1 e core' s' (lead-made core s n text core1 s1 before) step (omega arith)

end-made : (why : Stop) (most n made : ℕ) (core : ArmState) (s : State) (core1 : ArmState) (s1 : State) (core' : ArmState) (s' : State)
    → Made core s n core1 s1 → EndsWith most n why core1 s1 made core' s' → Made core s (steps_made why made) core' s'
end-made stop.Budget most n made core s core1 s1 core' s' m (all, count, c, b) =
    subst (λ (k : ℕ). Made core s k core' s') (sym count)
    (subst (λ (y : State). Made core s n core' y) (sym b) (subst (λ (y : ArmState). Made core s n y s1) (sym c) m))
end-made stop.Exit most n made core s core1 s1 core' s' m (few, count, step) = one-more core s n made core1 s1 _ core' s' m step count
end-made (stop.BadString a) most n made core s core1 s1 core' s' m (few, count, step, broken) = one-more core s n made core1 s1 _ core' s' m step count
end-made (stop.Unpredictable a w) most n made core s core1 s1 core' s' m (few, count, at, step) =
    one-more core s n (made + 1) core1 s1 _ core' s' m step (ap (λ (i : ℕ). i + 1) count)
end-made (stop.NoFrame a) most n made core s core1 s1 core' s' m (few, count, step) =
    one-more core s n (made + 1) core1 s1 _ core' s' m step (ap (λ (i : ℕ). i + 1) count)
end-made stop.Sink most n made core s core1 s1 core' s' m h = absurd h

-- ---- devices that no step accesses

-- what a step leaves of the board, of a bus that is ready, and of devices that it doesn't access
record Leaves (s s' : State) (x : Stepped) : Type 0 where
  pub board : board_of s' ≡ board_of s
  pub ready : IsReady s'
  pub devices : AreOffDevices (board_of s) x.accesses → s'.devices ≡ s.devices

no-frames : (s : State) → IsReady s → has_frames s [] ≡ false → ⊥
no-frames s r h = let e : true ≡ false = sym (fits _ _ r.room) ∙ h in cc

-- a step that lacks a frame fetches
fetch-first : (core : ArmState) (s : State) (x : Stepped) (lines : Levels) → IsReady s → has_frames s x.accesses ≡ false
    → Step (board_of s) (over core s) lines (answers_to s x.accesses) x
    → (rest : List Access) × (x.accesses ≡ Fetch (register core 15) (width_of core) ∷ rest)
fetch-first core s x lines r lacks (i, read, e) = go (fetches (board_of s) (over core s) lines) refl
  where
    go : (b : Bool) → fetches (board_of s) (over core s) lines ≡ b → (rest : List Access) × (x.accesses ≡ Fetch (register core 15) (width_of core) ∷ rest)
    go true f =
        let p = step-adds (board_of s) (over core s) lines i (fetched (board_of s) (over core s) (answers_to s x.accesses)) in
        let made = ap (λ (t : Stepped). t.accesses) e ∙ p.accesses (answers_to s x.accesses) (λ g. refl) in
        let (rest, first) = p.first f in
        (rest, made ∙ first)
    go false f =
        let p = step-adds (board_of s) (over core s) lines i (fetched (board_of s) (over core s) (answers_to s x.accesses)) in
        let made = ap (λ (t : Stepped). t.accesses) e ∙ p.accesses (answers_to s x.accesses) (λ g. refl) in
        absurd (no-frames s r (ap (has_frames s) (sym (made ∙ p.none f)) ∙ lacks))

step-leaves : (core : ArmState) (s : State) (x : Stepped) (e : Event) (core' : ArmState) (s' : State) → IsReady s → IsStepOf core s x e core' s' → Leaves s s' x
step-leaves core s x e core' s' r m = go (has_frames s x.accesses) refl m.ends
  where
    go : (b : Bool) → has_frames s x.accesses ≡ b → Ends b core s x e core' s' → Leaves s s' x
    go true f (p, q, bus) = subst (λ (y : State). Leaves s y x) (sym bus) (record {
      board = board-served s x.accesses;
      ready = ready-served s x.accesses r;
      devices = λ off. (untouched s x.accesses (off-board s x.accesses off)).1;
    })
    go false f (a, p, least, c, bus) = subst (λ (y : State). Leaves s y x) (sym bus) (record {
      board = board-read s (register core 15) (width_of core);
      ready = ready-read s (register core 15) (width_of core) r;
      devices = λ off.
          let (rest, first) = fetch-first core s x (levels (lines_up s.devices)) r f m.step in
          one-read s (register core 15) (width_of core) rest (off-board s (Fetch (register core 15) (width_of core) ∷ rest)
          (subst (λ (xs : List Access). AreOffDevices (board_of s) xs) first off));
    })

made-leaves : (core : ArmState) (s : State) (xs : List Stepped) (core' : ArmState) (s' : State) → IsReady s → AreMade core s xs core' s'
    → EachStep (AreOffDevices (board_of s)) (accesses_of xs) → s'.devices ≡ ticked_for (length xs) s.devices
made-leaves core s [] core' s' r (c, b) off = ap (λ (y : State). y.devices) b
made-leaves core s (x ∷ xs) core' s' r (e, core1, s1, step, rest) (first, later) =
    let t = after_tick s in
    let l = step-leaves core t x e core1 s1 (ready-tick s r) step in
    let kept = l.devices (subst (λ (b : Board). AreOffDevices b x.accesses) (sym (board-tick s)) first) in
    made-leaves core1 s1 xs core' s' l.ready rest (each-board (board_of s) (board_of s1) (accesses_of xs) (sym (l.board ∙ board-tick s)) later)
    ∙ ap (ticked_for (length xs)) kept

pub run-leaves-devices : RunLeavesDevices
run-leaves-devices most core s why made text core' s' r run =
    let (steps, count, are) = end-made why most run.count made core s run.core1 run.s1 core' s' (lead-made core s run.count text run.core1 run.s1 run.leads) run.ends in (
      steps,
      count,
      are,
      λ off.
          let devices = made-leaves core s steps core' s' r are off ∙ ap (λ (n : ℕ). ticked_for n s.devices) count in
          (devices, ap touches_of devices ∙ touches-kept (steps_made why made) s.devices),
    )

-- ---- steps of the model that the machine makes

pub steps-are-made : StepsAreMade
steps-are-made core s [] r are used = (core, s, (refl, refl), refl, refl)
steps-are-made core s (x ∷ xs) r (one, counted, rest) (used, later) =
    let t = next s x.accesses in
    let (step, state) = one-step-back core s x r one used in
    let kept = step-used core (after_tick s) x (levels (lines_up (after_tick s).devices)) (ready-tick s r) used step.step in
    let rest1 : AreSteps (board_of s) (over x.state.core t) (given_by t (accesses_of xs)) xs =
    subst (λ (y : Whole). AreSteps (board_of s) y (given_by t (accesses_of xs)) xs) (sym state) rest in
    let rest2 : AreSteps (board_of t) (over x.state.core t) (given_by t (accesses_of xs)) xs =
    subst (λ (b : Board). AreSteps b (over x.state.core t) (given_by t (accesses_of xs)) xs) (sym (board-next s x.accesses)) rest1 in
    let (core', s', made, behind_is, left_is) = steps-are-made x.state.core t xs (ready-next s x.accesses r) rest2
    (each-as s.contents t.contents (accesses_of xs) kept.0 kept.1 later) in
    (core', s', (x.event, x.state.core, t, step, made), ap (λ (y : Whole). behind y xs) (sym state) ∙ behind_is, left_is)
