-- A run that ends by Exit over devices ends so over silent ones.
use Rattle.std.proofs.Common.{◌≡◌, ◌≢◌, ℕ, zero, suc, ◌+◌, ◌≤◌, false, List, [], ◌∷◌, ◌++◌, length, refl, sym, ap, subst, ◌∙◌, arith, inl, inr, append-nil, append_assoc}
use Rattle.std.specs.List.{AllByRecursion}
use Rattle.std.proofs.lemmas.List.{length-append}
use Rattle.sdt_outside.specs.declared.device.DeviceState.{DeviceState}
use Rattle.sdt_outside.specs.declared.device.DeviceState.TheVariants as device
use Rattle.sdt_outside.specs.Devices.{lines_of}
use Rattle.arm7_model.specs.declared.state.ArmState.{ArmState}
use Rattle.arm7_model.specs.declared.event.Event.{Event}
use Rattle.arm7_model.specs.declared.event.Event.TheVariants as event
use Rattle.arm7_model.specs.declared.event.Exception.TheVariants as exception
use Rattle.arm7_model.specs.Accesses.{Access}
use Rattle.arm7_model.specs.Memory.{Board, Bytes}
use Rattle.arm7_model.specs.Outcomes.{Stepped}
use Rattle.arm7_model.specs.Registers.{State as Whole}
use Rattle.arm7_model.specs.Runs.{AreSteps, IsCounted, accesses_of}
use Rattle.arm7_model.specs.Step.{Step}
use Rattle.arm7_bus.specs.Buses.{after_tick}
use Rattle.arm7_bus.specs.Seats.{Seat, lines_up}
use Rattle.arm7_bus.specs.States.{Contents, State}
use Rattle.arm7_transfers.specs.Boards.{board_of, over}
use Rattle.arm7_transfers.specs.Served.{answers_to, served}
use Rattle.arm7_core.specs.Machines.{IsStep, levels}
use Rattle.arm7_run.specs.Runs.{GoesOn, Leads, goes, stays}
use Rattle.run_laws.specs.Steps.{IsStepOf, given_by}
use Rattle.run_laws.proofs.BusRuns.{board-next, board-tick}
use Rattle.kit_laws.specs.Aligned.{Aligned, IsInHandler, ends as aligned-ends, goes as aligned-goes, returns, stops}
use Rattle.kit_laws.specs.Beside.{Scratch, beside}
use Rattle.kit_laws.specs.Rules.{FiqIsDown, GoOn, MayExit}
use Rattle.kit_laws.specs.Laws.{RunsAreTransparent}
use Rattle.run_laws.specs.Laws.{ExitsAlike}
use Rattle.run_laws.proofs.BusBeside.{AreTwins, GoesOrExits, Prints, beside_contents}
use Rattle.run_laws.proofs.BusAlike.{alike, is-whole}

-- ---- the steps of a run, forwards

prints-end : (core : ArmState) (s : State) (xs : List Stepped) (text : List ℕ) (core1 : ArmState) (s1 : State) (x : Stepped) (e : Event) (core2 : ArmState) (s2 : State) (piece : List ℕ)
    → Prints core s xs text core1 s1 → IsStepOf core1 (after_tick s1) x e core2 s2 → GoesOrExits e core2 s2 piece → Prints core s (xs ++ x ∷ []) (text ++ piece) core2 s2
prints-end core s [] text core1 s1 x e core2 s2 piece (none, c, b) step on = (
  e,
  core2,
  s2,
  piece,
  [],
  subst (λ (y : State). IsStepOf core (after_tick y) x e core2 s2) b (subst (λ (y : ArmState). IsStepOf y (after_tick s1) x e core2 s2) c step),
  on,
  (refl, refl, refl),
  ap (λ (l : List ℕ). l ++ piece) none ∙ sym (append-nil piece),
)
prints-end core s (y ∷ ys) text core1 s1 x e core2 s2 piece (d, core3, s3, first, rest, m, goes-on, more, is) step on = (
  d,
  core3,
  s3,
  first,
  rest ++ piece,
  m,
  goes-on,
  prints-end core3 s3 ys rest core1 s1 x e core2 s2 piece more step on,
  ap (λ (l : List ℕ). l ++ piece) is ∙ append_assoc first rest piece,
)

count-end : (xs : List Stepped) (x : Stepped) → length (xs ++ x ∷ []) ≡ suc (length xs)
count-end [] x = refl
count-end (y ∷ ys) x = ap suc (count-end ys x)

go-on-end : (xs : List Stepped) (x : Stepped) → GoOn xs → x.event ≢ event.Host 0x11 → GoOn (xs ++ x ∷ [])
go-on-end [] x all h = (h, tt)
go-on-end (y ∷ ys) x all h = (all.0, go-on-end ys x all.1 h)

may-exit-end : (xs : List Stepped) (x : Stepped) → GoOn xs → MayExit (xs ++ x ∷ [])
may-exit-end [] x all = tt
may-exit-end (y ∷ []) x all = (all.0, tt)
may-exit-end (y ∷ z ∷ ys) x all = (all.0, may-exit-end (z ∷ ys) x all.1)

no-exit : (e : Event) (core : ArmState) (s : State) (piece : List ℕ) → GoesOn e core s piece → e ≢ event.Host 0x11
no-exit e core s piece on is = subst (λ (y : Event). GoesOn y core s piece) is on

abbrev Steps : ArmState → State → ℕ → List ℕ → ArmState → State → Type 0
Steps core s n text core' s' = (xs : List Stepped) × (length xs ≡ n) × GoOn xs × Prints core s xs text core' s'

leads-prints : (core : ArmState) (s : State) (n : ℕ) (text : List ℕ) (core' : ArmState) (s' : State) → Leads core s n text core' s' → Steps core s n text core' s'
leads-prints core s zero text core' s' stays = ([], refl, tt, (refl, refl, refl))
leads-prints core s (suc n) whole core' s' (goes {text = text} piece {core1 = core1} {s1 = s1} e before step on) =
    further (leads-prints core s n text core1 s1 before)
  where
    m : IsStepOf core1 (after_tick s1) step.first e core' s'
    m = record { step = step.step; ends = step.ends }

    further : Steps core s n text core1 s1 → Steps core s (suc n) (text ++ piece) core' s'
    further (xs, count, all, run) =
        let w = is-whole core1 (after_tick s1) step.first e core' s' piece m (inl on) in
        (xs ++ step.first ∷ [], count-end xs step.first ∙ ap suc count, go-on-end xs step.first all (λ i. no-exit e core' s' piece on (w.event ∙ i)), prints-end core s xs text core1 s1 step.first e core' s' piece run m (inl on))

-- ---- they are steps of the model

counts : (e : Event) (core : ArmState) (s : State) (piece : List ℕ) → GoesOrExits e core s piece → IsCounted e
counts event.Ran core s piece h = tt
counts (event.Took x) core s piece h = tt
counts (event.Host n) core s piece h = tt
counts (event.Unpredictable w) core s piece (inl h) = h
counts (event.Unpredictable w) core s piece (inr (h, none)) = absurd cc
counts (event.NoFrame a) core s piece (inl h) = h
counts (event.NoFrame a) core s piece (inr (h, none)) = absurd cc

prints-steps : (core : ArmState) (s : State) (xs : List Stepped) (text : List ℕ) (core' : ArmState) (s' : State) → Prints core s xs text core' s'
    → AreSteps (board_of s) (over core s) (given_by s (accesses_of xs)) xs
prints-steps core s [] text core' s' run = tt
prints-steps core s (x ∷ xs) text core' s' (e, core1, s1, piece, rest, m, on, more, is) =
    let tick = after_tick s in
    let w = is-whole core tick x e core1 s1 piece m on in
    let next = served tick x.accesses in
    let first : Step (board_of s) (over core s) (levels (lines_up tick.devices)) (answers_to tick x.accesses) x =
    subst (λ (b : Board). Step b (over core s) (levels (lines_up tick.devices)) (answers_to tick x.accesses) x) (board-tick s) m.step in
    let later : AreSteps (board_of s1) (over core1 s1) (given_by s1 (accesses_of xs)) xs = prints-steps core1 s1 xs rest core' s' more in
    let later2 : AreSteps (board_of next) (over core1 s1) (given_by next (accesses_of xs)) xs =
    subst (λ (y : State). AreSteps (board_of y) (over core1 s1) (given_by y (accesses_of xs)) xs) w.bus later in
    let later3 : AreSteps (board_of s) x.state (given_by next (accesses_of xs)) xs =
    subst (λ (b : Board). AreSteps b x.state (given_by next (accesses_of xs)) xs) (board-next s x.accesses)
    (subst (λ (y : Whole). AreSteps (board_of next) y (given_by next (accesses_of xs)) xs) w.state later2) in
    (first, subst IsCounted w.event (counts e core1 s1 piece on), later3)

-- no device raises FIQ
device-fiq : (d : DeviceState) → (lines_of d).fiq ≡ false
device-fiq device.Quiet = refl
device-fiq (device.TimerState period control count up) = refl
device-fiq (device.UartState last number) = refl

lines-fiq : (ds : List Seat) → (lines_up ds).fiq ≡ false
lines-fiq [] = refl
lines-fiq (d ∷ ds) = rw (device-fiq d.state, lines-fiq ds) refl

given-down : (s : State) (xs : List (List Access)) → FiqIsDown (given_by s xs)
given-down s [] = tt
given-down s (x ∷ xs) = (lines-fiq (after_tick s).devices, given-down (served (after_tick s) x) xs)

-- ---- the exit

abbrev EndsInExit : List Stepped → Type 0
EndsInExit [] = ⊥
EndsInExit (x ∷ []) = x.event ≡ event.Host 0x11
EndsInExit (x ∷ y ∷ ys) = EndsInExit (y ∷ ys)

ends-end : (xs : List Stepped) (x : Stepped) → x.event ≡ event.Host 0x11 → EndsInExit (xs ++ x ∷ [])
ends-end [] x h = h
ends-end (y ∷ []) x h = h
ends-end (y ∷ z ∷ ys) x h = ends-end (z ∷ ys) x h

-- the handler's steps don't exit
handler-stays : (work ack : ℕ) (x : Stepped) (front : List Stepped) → x.event ≢ event.Host 0x11 → AllByRecursion (IsInHandler work ack) front → EndsInExit (x ∷ front) → ⊥
handler-stays work ack x [] h all e = h e
handler-stays work ack x (y ∷ front) h all e = handler-stays work ack y front (λ i. differ (sym all.0.ran ∙ i)) all.1 e
  where
    differ : event.Ran ≡ event.Host 0x11 → ⊥
    differ i = cc

took-stays : (x : Stepped) → x.event ≡ event.Took exception.Irq → x.event ≢ event.Host 0x11
took-stays x took i = differ (sym took ∙ i)
  where
    differ : event.Took exception.Irq ≡ event.Host 0x11 → ⊥
    differ j = cc

ends-behind : (x : Stepped) (xs : List Stepped) (y : Stepped) (ys : List Stepped) → xs ≡ y ∷ ys → EndsInExit (x ∷ xs) → EndsInExit xs
ends-behind x xs y ys e h = subst EndsInExit (sym e) (subst (λ (zs : List Stepped). EndsInExit (x ∷ zs)) e h)

-- behind whole interrupts
ends-past : (work ack : ℕ) (x : Stepped) (front zs : List Stepped) → x.event ≢ event.Host 0x11 → AllByRecursion (IsInHandler work ack) front → EndsInExit (x ∷ (front ++ zs)) → EndsInExit zs
ends-past work ack x [] [] h all e = absurd (h e)
ends-past work ack x [] (z ∷ zs) h all e = e
ends-past work ack x (y ∷ front) zs h all e = ends-past work ack y front zs (λ i. differ (sym all.0.ran ∙ i)) all.1 e
  where
    differ : event.Ran ≡ event.Host 0x11 → ⊥
    differ i = cc

may-later : (x : Stepped) (xs : List Stepped) → MayExit (x ∷ xs) → MayExit xs
may-later x [] m = tt
may-later x (y ∷ ys) m = m.1

may-past : (front zs : List Stepped) → MayExit (front ++ zs) → MayExit zs
may-past [] zs m = m
may-past (x ∷ front) zs m = may-past front zs (may-later x (front ++ zs) m)

none-aligned : {b : Board} {work ack : ℕ} {k : Scratch} {p : Whole} (xs ps : List Stepped) → xs ≡ [] → Aligned b work ack k p xs ps → ps ≡ []
none-aligned xs ps e aligned-ends = refl
none-aligned xs ps e (stops x ys int short) = refl
none-aligned xs ps e (aligned-goes x0 made more) = absurd cc
none-aligned xs ps e (returns l x front int long reach more) = absurd cc

-- the run beside exits too, and not before
record ExitsToo (ps : List Stepped) : Type 0 where
  pub last : EndsInExit ps
  pub before : MayExit ps

exits-too : {b : Board} {work ack : ℕ} {k : Scratch} {p : Whole} {xs ps : List Stepped} → Aligned b work ack k p xs ps → EndsInExit xs → MayExit xs → ExitsToo ps
exits-too aligned-ends e m = absurd e
exits-too {work = work} {ack = ack} (stops x xs int short) e m = absurd (handler-stays work ack x xs (took-stays x int.taken) int.handler e)
exits-too {work = work} {ack = ack} (returns {zs = zs} l x front int long reach more) e m =
    exits-too more (ends-past work ack x front zs (took-stays x int.taken) int.handler e) (may-past (x ∷ front) zs m)
exits-too {k = k} (aligned-goes {xs = []} {ps = ps} x0 made more) e m =
    let none = none-aligned [] ps refl more in
    subst (λ (zs : List Stepped). ExitsToo (x0 ∷ zs)) (sym none) (record { last = e; before = tt })
exits-too {k = k} (aligned-goes {xs = y ∷ ys} {ps = ps} x0 made more) e m =
    joined ps (exits-too more e m.1)
  where
    joined : (zs : List Stepped) → ExitsToo zs → ExitsToo (x0 ∷ zs)
    joined [] h = absurd h.last
    joined (z ∷ zs) h = record { last = h.last; before = (m.0, h.before) }

-- and has no more steps
no-longer : {b : Board} {work ack : ℕ} {k : Scratch} {p : Whole} {xs ps : List Stepped} → Aligned b work ack k p xs ps → length ps ≤ length xs
no-longer aligned-ends = omega arith
no-longer (stops x xs int short) = omega arith
no-longer (aligned-goes x0 made more) = let h = no-longer more in omega arith
no-longer (returns {zs = zs} l x front int long reach more) =
    let h = no-longer more in
    let all = length-append front zs in
    omega (arith, h, all)

-- ---- back to a run

first-step : (core : ArmState) (s : State) (n : ℕ) (piece text : List ℕ) (e : Event) (core1 core2 : ArmState) (s1 s2 : State)
    → IsStep core s e core1 s1 → GoesOn e core1 s1 piece → Leads core1 s1 n text core2 s2 → Leads core s (suc n) (piece ++ text) core2 s2
first-step core s zero piece text e core1 core2 s1 s2 step on stays =
    subst (λ (l : List ℕ). Leads core s 1 l core1 s1) (sym (append-nil piece)) (goes piece e stays step on)
first-step core s (suc n) piece whole e core1 core2 s1 s2 step on (goes {text = text} later {core1 = core3} {s1 = s3} e' before step' on') =
    subst (λ (l : List ℕ). Leads core s (suc (suc n)) l core2 s2) (append_assoc piece text later)
    (goes later e' (first-step core s n piece text e core1 core3 s1 s3 step on before) step' on')

abbrev Exits : ℕ → ArmState → State → List ℕ → ArmState → State → Type 0
Exits count core s text core' s' =
    (n : ℕ) × (suc n ≡ count) × (core1 : ArmState) × (s1 : State) × Leads core s n text core1 s1 × IsStep core1 s1 (event.Host 0x11) core' s'

prints-exits : (core : ArmState) (s : State) (ps : List Stepped) (text : List ℕ) (core' : ArmState) (s' : State) → EndsInExit ps → MayExit ps → Prints core s ps text core' s' → Exits (length ps) core s text core' s'
prints-exits core s [] text core' s' last before run = absurd last
prints-exits core s (x ∷ []) text core' s' last before (e, core1, s1, piece, rest, m, on, (none, c, b), is) =
    let w = is-whole core (after_tick s) x e core1 s1 piece m on in
    let exit : e ≡ event.Host 0x11 = w.event ∙ last in
    let step : IsStep core s e core1 s1 = record { first = x; step = m.step; ends = m.ends } in
    let step2 : IsStep core s (event.Host 0x11) core' s' =
    subst (λ (y : State). IsStep core s (event.Host 0x11) core' y) (sym b)
    (subst (λ (y : ArmState). IsStep core s (event.Host 0x11) y s1) (sym c) (subst (λ (y : Event). IsStep core s y core1 s1) exit step)) in
    let empty : text ≡ [] = is ∙ ap (λ (l : List ℕ). piece ++ l) none ∙ append-nil piece ∙ silent exit on in
    (0, refl, core, s, subst (λ (l : List ℕ). Leads core s 0 l core s) (sym empty) stays, step2)
  where
    silent : e ≡ event.Host 0x11 → GoesOrExits e core1 s1 piece → piece ≡ []
    silent i (inl h) = absurd (no-exit e core1 s1 piece h i)
    silent i (inr (h, none)) = none
prints-exits core s (x ∷ y ∷ ys) text core' s' last before (e, core1, s1, piece, rest, m, on, more, is) =
    let w = is-whole core (after_tick s) x e core1 s1 piece m on in
    let goes-on : GoesOn e core1 s1 piece = still w.event on in
    let (n, count, core2, s2, leads, exit) = prints-exits core1 s1 (y ∷ ys) rest core' s' last before.1 more in (
      suc n,
      ap suc count,
      core2,
      s2,
      subst (λ (l : List ℕ). Leads core s (suc n) l core2 s2) (sym is)
          (first-step core s n piece rest e core1 core2 s1 s2 (record { first = x; step = m.step; ends = m.ends }) goes-on leads),
      exit,
    )
  where
    still : e ≡ x.event → GoesOrExits e core1 s1 piece → GoesOn e core1 s1 piece
    still i (inl h) = h
    still i (inr (h, none)) = absurd (before.0 (sym i ∙ h))

-- ---- the law

pub exits-alike : RunsAreTransparent → ExitsAlike
exits-alike law work ack most made core core_t' q t t' text ready_q ready_t silent has contents board kit fine rules run =
    let (xs, length_is, all, prints) = leads-prints core t run.count text run.core1 run.s1 run.leads in
    let step = run.ends.2 in
    let m : IsStepOf run.core1 (after_tick run.s1) step.first (event.Host 0x11) core_t' t' = record { step = step.step; ends = step.ends } in
    let w = is-whole run.core1 (after_tick run.s1) step.first (event.Host 0x11) core_t' t' [] m (inr (refl, refl)) in
    let every = xs ++ step.first ∷ [] in
    let may = may-exit-end xs step.first all in
    let printed : Prints core t every text core_t' t' =
    subst (λ (l : List ℕ). Prints core t every l core_t' t') (append-nil text) (prints-end core t xs text run.core1 run.s1 step.first (event.Host 0x11) core_t' t' [] prints m (inr (refl, refl))) in
    let same : over core t ≡ over core q = ap (λ (c : Contents). record { core = core; memory = c.memory }) contents in
    let steps : AreSteps (board_of q) (over core q) (given_by t (accesses_of every)) every =
    subst (λ (s : Whole). AreSteps (board_of q) s (given_by t (accesses_of every)) every) same
    (subst (λ (b : Board). AreSteps b (over core t) (given_by t (accesses_of every)) every) board (prints-steps core t every text core_t' t' printed)) in
    let hides = law (board_of q) work ack (over core q) (given_by t (accesses_of every)) every kit (record { valid = fine; rules = rules; down = given-down t (accesses_of every); run = steps; exits = may }) in
    let k = hides.first in
    let self = hides.same in
    let aligned = hides.aligned in
    let ps = hides.plain in
    let plain = hides.run in
    let memory : store-of work k q ≡ q.contents.memory = ap (λ (s : Whole). s.memory) self in
    let twins : AreTwins work k q t = record {
      contents = contents-are work k q.contents t.contents contents (sym memory);
      board = board;
    } in
    let (core_q', q', printed_q) = alike work ack aligned core core core_t' q t t' text refl refl
    (record { ready_q = ready_q; ready_t = ready_t; silent = silent; work_t = has; twins = twins; state = same ∙ sym self }) plain printed in
    let too = exits-too aligned (ends-end xs step.first (sym w.event)) may in
    let (n, counted, core1, s1, leads, exit) = prints-exits core q ps text core_q' q' too.last too.before printed_q in
    let fewer = no-longer aligned in
    let all_made = count-end xs step.first in
    let few = run.ends.0 in
    let is_made = run.ends.1 in (
      n + 1,
      omega (arith, counted, fewer, all_made, length_is, is_made),
      core_q',
      q',
      record { count = n; core1 = core1; s1 = s1; leads = leads; ends = (omega (arith, counted, fewer, all_made, length_is, few), refl, exit) },
    )
  where
    store-of : ℕ → Scratch → State → Bytes
    store-of work k q = (beside work k (over core q)).memory

    contents-are : (work : ℕ) (k : Scratch) (c d : Contents) → d ≡ c → c.memory ≡ (beside work k (record { core = core; memory = c.memory })).memory → d ≡ beside_contents work k d.stores c
    contents-are work k c d e f =
        let stores : c.stores ≡ d.stores = sym (ap (λ (x : Contents). x.stores) e) in
        e ∙ ap (λ (x : Bytes). record c { memory = x }) f ∙ ap (λ (x : List (ℕ × ℕ)). record (beside_contents work k c.stores c) { stores = x }) stores
