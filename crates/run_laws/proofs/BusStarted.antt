-- A run whose first steps are quiet: over silent devices these are the same, and so is what follows up to the exit.
use Rattle.std.proofs.Common.{◌≡◌, ℕ, zero, suc, ◌+◌, ◌-◌, ◌<◌, ◌≤◌, Bool, true, false, List, [], ◌∷◌, ◌++◌, length, map, Option, None, Some, refl, sym, ap, subst, ◌∙◌, arith, cond, ◌⊎◌, inl, inr, append-nil, append_assoc}
use Rattle.std.specs.List.{AllByRecursion}
use Rattle.sdt_fault.specs.declared.answer.Stop.TheVariants as stop
use Rattle.sdt_word.specs.Codes.{bytes_in}
use Rattle.sdt_word.specs.declared.codes.Width.{Width}
use Rattle.arm7_model.specs.declared.state.ArmState.{ArmState}
use Rattle.arm7_model.specs.declared.event.Event.{Event}
use Rattle.arm7_model.specs.declared.event.Event.TheVariants as event
use Rattle.arm7_model.specs.declared.event.Exception.{Exception}
use Rattle.arm7_model.specs.Accesses.{Access, Fetch, Load, Store}
use Rattle.arm7_model.specs.Laws.{StepIsValid}
use Rattle.arm7_model.specs.Memory.{Board}
use Rattle.arm7_model.specs.Outcomes.{Stepped, took}
use Rattle.arm7_model.specs.Registers.{IsValidState, State as Whole}
use Rattle.arm7_model.specs.Runs.{AreSteps, EachStep, Input, accesses_of, behind, first_of_inputs, later_inputs}
use Rattle.arm7_model.specs.Step.{Levels, Step, fetches, interrupt, stepped}
use Rattle.arm7_model.proofs.MemoryLemmas.{below_or_not}
use Rattle.arm7_bus.specs.Buses.{after_read, after_tick, after_write}
use Rattle.arm7_bus.specs.Seats.{Seat, device_at, lines_up, seat_ticked}
use Rattle.arm7_bus.specs.States.{Contents, State, after_store, bank_has, store_fault, store_leaves}
use Rattle.arm7_transfers.specs.Boards.{board_of, over}
use Rattle.arm7_transfers.specs.Ready.{IsReady}
use Rattle.arm7_transfers.specs.Served.{answers_to, served}
use Rattle.arm7_transfers.proofs.BoardLemmas.{contents-read, some-bytes}
use Rattle.arm7_core.specs.Machines.{levels}
use Rattle.arm7_run.specs.Runs.{GoesOn, Leads, Runs, goes, stays}
use Rattle.kit_laws.specs.Handler.{IsKit}
use Rattle.kit_laws.specs.Rules.{KeepsRules}
use Rattle.kit_laws.proofs.OwnFetch.{no-lines}
use Rattle.run_laws.specs.Devices.{AreOffDevices, ticked_for}
use Rattle.run_laws.specs.Laws.{BusRunIsOne, ExitsAlike, StartedExitsAlike}
use Rattle.run_laws.specs.Silent.{AreQuiet, AreSilent, HasWork}
use Rattle.run_laws.specs.Steps.{Print, StoresAreUsed, given_by, left_by}
use Rattle.run_laws.proofs.BusAlike.{work-served}
use Rattle.run_laws.proofs.BusRuns.{board-left, board-next, board-tick, next, ready-next, runs-are-bus-runs}
use Rattle.run_laws.proofs.Devices.{AreOff, devices-are-left, none-at, off-board, read-left, untouched, write-left}

-- ---- the lines make no difference to an ordinary step

-- what is stepped by an interrupt isn't ordinary
not-taken : (e : Exception) → event.Took e ≡ event.Ran → ⊥
not-taken e h = cc

any-lines : (b : Board) (s : Whole) (lines lines' : Levels) (answers : List ℕ) (x : Stepped) → interrupt lines' s.core.cpsr ≡ None → x.event ≡ event.Ran
    → Step b s lines answers x → Step b s lines' answers x
unfolding stepped fetches took
any-lines b s lines lines' answers x none ran (i, read, e) = go (interrupt lines s.core.cpsr) refl
  where
    go : (o : Option Exception) → interrupt lines s.core.cpsr ≡ o → Step b s lines' answers x
    go None f = (i, (λ h. read (rw f (rw none at h))), e ∙ rw (f, none) refl)
    go (Some ex) f = let is : x.event ≡ event.Took ex = ap (λ (t : Stepped). t.event) e ∙ rw f refl in absurd (not-taken ex (sym is ∙ ran))

-- ---- accesses that no device has

-- what is written where no device has the access
written : (s : State) (a : ℕ) (w : Width) (v : ℕ) → device_at s.devices a (bytes_in w) ≡ None
    → (after_write s a w v).contents ≡ cond (bank_has s.contents.banks a (bytes_in w)) (store_leaves (store_fault s.contents a (bytes_in w)) s.contents (after_store s.contents a w v)) s.contents
written s a w v none = rw none (go (bank_has s.contents.banks a (bytes_in w)))
  where
    go : (b : Bool) → (cond b (record s { contents = store_leaves (store_fault s.contents a (bytes_in w)) s.contents (after_store s.contents a w v) }) s).contents
        ≡ cond b (store_leaves (store_fault s.contents a (bytes_in w)) s.contents (after_store s.contents a w v)) s.contents
    go true = refl
    go false = refl

off-as : {ds es : List Seat} (xs : List Access) → es ≡ ds → AreOff ds xs → AreOff es xs
off-as xs e off = subst (λ (seats : List Seat). AreOff seats xs) (sym e) off

-- two buses with one memory have one behind them
one-memory : (q t : State) (xs : List Access) → t.contents ≡ q.contents → AreOff q.devices xs → AreOff t.devices xs → (served t xs).contents ≡ (served q xs).contents
one-memory q t [] same off_q off_t = same
one-memory q t (Fetch a w ∷ rest) same off_q off_t =
    one-memory (after_read q a w) (after_read t a w) rest (contents-read t a w ∙ same ∙ sym (contents-read q a w))
    (off-as rest (read-left q a w (none-at q.devices a (bytes_in w) (some-bytes w) off_q.0)) off_q.1)
    (off-as rest (read-left t a w (none-at t.devices a (bytes_in w) (some-bytes w) off_t.0)) off_t.1)
one-memory q t (Load a w ∷ rest) same off_q off_t =
    one-memory (after_read q a w) (after_read t a w) rest (contents-read t a w ∙ same ∙ sym (contents-read q a w))
    (off-as rest (read-left q a w (none-at q.devices a (bytes_in w) (some-bytes w) off_q.0)) off_q.1)
    (off-as rest (read-left t a w (none-at t.devices a (bytes_in w) (some-bytes w) off_t.0)) off_t.1)
one-memory q t (Store a w v ∷ rest) same off_q off_t =
    let none_q = none-at q.devices a (bytes_in w) (some-bytes w) off_q.0 in
    let none_t = none-at t.devices a (bytes_in w) (some-bytes w) off_t.0 in
    let one = ap (λ (c : Contents). cond (bank_has c.banks a (bytes_in w)) (store_leaves (store_fault c a (bytes_in w)) c (after_store c a w v)) c) same in
    one-memory (after_write q a w v) (after_write t a w v) rest (written t a w v none_t ∙ one ∙ sym (written q a w v none_q))
    (off-as rest (write-left q a w v none_q) off_q.1) (off-as rest (write-left t a w v none_t) off_t.1)

-- ---- quiet steps over silent devices

-- the devices of a bus behind a step
devices-next : (s : State) (xs : List Access) → AreOffDevices (board_of s) xs → (next s xs).devices ≡ map seat_ticked s.devices
devices-next s xs off =
    (untouched (after_tick s) xs (off-board (after_tick s) xs (subst (λ (b : Board). AreOffDevices b xs) (sym (board-tick s)) off))).1

answers-none : (s : State) (xs : List Access) → AreOffDevices (board_of s) xs → answers_to (after_tick s) xs ≡ []
answers-none s xs off =
    (untouched (after_tick s) xs (off-board (after_tick s) xs (subst (λ (b : Board). AreOffDevices b xs) (sym (board-tick s)) off))).0

silent-next : (s : State) (xs : List Access) → AreOffDevices (board_of s) xs → AreSilent s.devices → AreSilent (next s xs).devices
silent-next s xs off silent = subst AreSilent (sym (devices-next s xs off ∙ silent.still)) silent

down : (s : State) → AreSilent s.devices → levels (lines_up (after_tick s).devices) ≡ levels (record { irq = false; fiq = false })
down s silent = ap (λ (ds : List Seat). levels (lines_up ds)) silent.still ∙ ap levels silent.down

silent-steps : (b : Board) (st : Whole) (q t : State) (steps : List Stepped) → board_of q ≡ b → board_of t ≡ b → AreSilent q.devices
    → AllByRecursion (λ x. x.event ≡ event.Ran) steps → EachStep (AreOffDevices b) (accesses_of steps)
    → AreSteps b st (given_by t (accesses_of steps)) steps → AreSteps b st (given_by q (accesses_of steps)) steps
silent-steps b st q t [] board_q board_t silent ran off are = tt
silent-steps b st q t (x ∷ xs) board_q board_t silent ran off (one, counted, rest) =
    let off_q = subst (λ (c : Board). AreOffDevices c x.accesses) (sym board_q) off.0 in
    let off_t = subst (λ (c : Board). AreOffDevices c x.accesses) (sym board_t) off.0 in
    let lines_t : Levels = levels (lines_up (after_tick t).devices) in
    let lines_q : Levels = levels (lines_up (after_tick q).devices) in
    let none : interrupt lines_q st.core.cpsr ≡ None = ap (λ (l : Levels). interrupt l st.core.cpsr) (down q silent) ∙ no-lines st.core.cpsr in
    let same = answers-none t x.accesses off_t ∙ sym (answers-none q x.accesses off_q) in
    let here : Step b st lines_q (answers_to (after_tick q) x.accesses) x =
    any-lines b st lines_t lines_q (answers_to (after_tick q) x.accesses) x none ran.0 (subst (λ (l : List ℕ). Step b st lines_t l x) same one) in (
      here,
      counted,
      silent-steps b x.state (next q x.accesses) (next t x.accesses) xs (board-next q x.accesses ∙ board_q) (board-next t x.accesses ∙ board_t)
          (silent-next q x.accesses off_q silent) ran.1 off.1 rest,
    )

-- and they leave one memory
memory-left : (b : Board) (q t : State) (xs : List (List Access)) → board_of q ≡ b → board_of t ≡ b → t.contents ≡ q.contents → EachStep (AreOffDevices b) xs
    → (left_by t xs).contents ≡ (left_by q xs).contents
memory-left b q t [] board_q board_t same off = same
memory-left b q t (x ∷ xs) board_q board_t same off =
    let off_q = off-board (after_tick q) x (subst (λ (c : Board). AreOffDevices c x) (sym (board-tick q ∙ board_q)) off.0) in
    let off_t = off-board (after_tick t) x (subst (λ (c : Board). AreOffDevices c x) (sym (board-tick t ∙ board_t)) off.0) in
    memory-left b (next q x) (next t x) xs (board-next q x ∙ board_q) (board-next t x ∙ board_t)
    (one-memory (after_tick q) (after_tick t) x (ap (λ (c : Contents). record c { stores = [] }) same) off_q off_t) off.1

-- ---- what they print, and where they lead

print-none : (s : State) (xs : List Stepped) → AllByRecursion (λ x. x.event ≡ event.Ran) xs → Print s xs []
print-none s [] h = refl
print-none s (x ∷ xs) (one, h) =
    let t = next s x.accesses in
    let on : GoesOn x.event x.state.core t [] = subst (λ (e : Event). GoesOn e x.state.core t []) (sym one) refl in
    ([], [], on, print-none t xs h, refl)

ready-left : (s : State) (xs : List (List Access)) → IsReady s → IsReady (left_by s xs)
ready-left s [] r = r
ready-left s (x ∷ xs) r = ready-left (next s x) xs (ready-next s x r)

valid-behind : StepIsValid → (b : Board) (st : Whole) (inputs : List Input) (steps : List Stepped) → IsValidState st → AreSteps b st inputs steps → IsValidState (behind st steps)
valid-behind law b st inputs [] v are = v
valid-behind law b st inputs (x ∷ xs) v (one, counted, rest) =
    valid-behind law b x.state (later_inputs inputs) xs (law b st (first_of_inputs inputs).lines (first_of_inputs inputs).answers x v one) rest

still-for : (n : ℕ) (seats : List Seat) → map seat_ticked seats ≡ seats → ticked_for n seats ≡ seats
still-for zero seats e = refl
still-for (suc n) seats e = ap (ticked_for n) e ∙ still-for n seats e

work-left : (work ack : ℕ) (s : State) (xs : List (List Access)) → HasWork work ack s.contents → HasWork work ack (left_by s xs).contents
work-left work ack s [] h = h
work-left work ack s (x ∷ xs) h =
    work-left work ack (next s x) xs (work-served work ack (after_tick s) x (record { first = h.first; second = h.second; third = h.third; device = h.device }))

-- ---- runs, one behind the other

record Split (core : ArmState) (s : State) (n m : ℕ) (text : List ℕ) (core' : ArmState) (s' : State) : Type 0 where
  pub front : List ℕ
  pub rest : List ℕ
  pub core1 : ArmState
  pub s1 : State
  pub first : Leads core s n front core1 s1
  pub later : Leads core1 s1 m rest core' s'
  pub all : text ≡ front ++ rest

split : (core : ArmState) (s : State) (n m total : ℕ) → total ≡ n + m → (text : List ℕ) (core' : ArmState) (s' : State) → Leads core s total text core' s' → Split core s n m text core' s'
split core s n zero total e text core' s' leads = record {
  front = text;
  rest = [];
  core1 = core';
  s1 = s';
  first = (let same : total ≡ n = omega (arith, e) in subst (λ (k : ℕ). Leads core s k text core' s') same leads);
  later = stays;
  all = sym (append-nil text);
}
split core s n (suc m) zero e text core' s' stays = absurd (omega (arith, e))
split core s n (suc m) (suc k) e whole core' s' (goes {text = text} piece {core1 = core2} {s1 = s2} ev before step on) =
    let p = split core s n m k (omega (arith, e)) text core2 s2 before in
    record {
      front = p.front;
      rest = p.rest ++ piece;
      core1 = p.core1;
      s1 = p.s1;
      first = p.first;
      later = goes piece ev p.later step on;
      all = ap (λ (l : List ℕ). l ++ piece) p.all ∙ append_assoc p.front p.rest piece;
    }

joined : (core : ArmState) (s : State) (n m : ℕ) (front rest : List ℕ) (core1 core2 : ArmState) (s1 s2 : State) → Leads core s n front core1 s1 → Leads core1 s1 m rest core2 s2
    → Leads core s (n + m) (front ++ rest) core2 s2
joined core s n zero front rest core1 core2 s1 s2 first stays =
    let same : n ≡ n + 0 = omega arith in
    subst (λ (k : ℕ). Leads core s k (front ++ []) core1 s1) same (subst (λ (l : List ℕ). Leads core s n l core1 s1) (sym (append-nil front)) first)
joined core s n (suc m) front whole core1 core2 s1 s2 first (goes {text = text} piece {core1 = core3} {s1 = s3} e before step on) =
    let same : suc (n + m) ≡ n + suc m = omega arith in
    subst (λ (k : ℕ). Leads core s k (front ++ (text ++ piece)) core2 s2) same
    (subst (λ (l : List ℕ). Leads core s (suc (n + m)) l core2 s2) (append_assoc front text piece)
    (goes piece e (joined core s n m front text core1 core3 s1 s3 first before) step on))

-- ---- the quiet steps over both buses

pub record BothLead (core : ArmState) (q t : State) (steps : List Stepped) : Type 0 where
  pub core1 : ArmState
  pub q1 : State
  pub t1 : State
  pub leads_q : Leads core q (length steps) [] core1 q1
  pub leads_t : Leads core t (length steps) [] core1 t1
  pub there : behind (over core t) steps ≡ over core1 t1
  pub bus_q : q1 ≡ left_by q (accesses_of steps)
  pub bus_t : t1 ≡ left_by t (accesses_of steps)

module _ (core : ArmState) (q t : State) (steps : List Stepped) (ready_q : IsReady q) (ready_t : IsReady t) (silent : AreSilent q.devices) (same : t.contents ≡ q.contents)
    (board : board_of t ≡ board_of q) (quiet : AreQuiet core t steps) where
  abbrev xs : List (List Access)
  xs = accesses_of steps

  state : over core t ≡ over core q
  state = ap (λ (c : Contents). record { core = core; memory = c.memory }) same

  off_q : EachStep (AreOffDevices (board_of q)) xs
  off_q = subst (λ (b : Board). EachStep (AreOffDevices b) xs) board quiet.off

  are_q : AreSteps (board_of q) (over core q) (given_by q xs) steps
  are_q =
      silent-steps (board_of q) (over core q) q t steps refl board silent quiet.ordinary off_q
      (subst (λ (s : Whole). AreSteps (board_of q) s (given_by t xs) steps) state (subst (λ (b : Board). AreSteps b (over core t) (given_by t xs) steps) board quiet.are))

  used_q : EachStep (StoresAreUsed q.contents) xs
  used_q = subst (λ (c : Contents). EachStep (StoresAreUsed c) xs) same quiet.used

  both : BothLead core q t steps
  both =
      let (core_q, q1, leads_q, is_q) = runs-are-bus-runs core q [] steps ready_q are_q (print-none q steps quiet.ordinary) used_q in
      let (core1, t1, leads_t, is_t) = runs-are-bus-runs core t [] steps ready_t quiet.are (print-none t steps quiet.ordinary) quiet.used in
      let states : over core_q q1 ≡ over core1 t1 = sym is_q.state ∙ ap (λ (s : Whole). behind s steps) (sym state) ∙ is_t.state in
      record {
        core1 = core1;
        q1 = q1;
        t1 = t1;
        leads_q = subst (λ (c : ArmState). Leads core q (length steps) [] c q1) (ap (λ (s : Whole). s.core) states) leads_q;
        leads_t = leads_t;
        there = is_t.state;
        bus_q = is_q.bus;
        bus_t = is_t.bus;
      }

-- ---- the law

differ : stop.Exit ≡ stop.Budget → ⊥
differ e = cc

pub started-exits-alike : StepIsValid → BusRunIsOne → ExitsAlike → StartedExitsAlike
started-exits-alike valid one alike work ack most made core core_t' q t t' steps text ready_q ready_t silent has same board fine quiet kit rules run =
    go (below_or_not run.count k)
  where
    xs : List (List Access)
    xs = accesses_of steps

    k : ℕ
    k = length steps

    b : BothLead core q t steps
    b = both core q t steps ready_q ready_t silent same board quiet

    Ends : Type 0
    Ends = (made' : ℕ) × (made' ≤ made) × (core_q' : ArmState) × (q' : State) × Runs most core q stop.Exit made' text core_q' q'

    mine : Runs k core t stop.Budget k [] b.core1 b.t1
    mine = record { count = k; core1 = b.core1; s1 = b.t1; leads = b.leads_t; ends = (refl, refl, refl, refl) }

    contents : b.t1.contents ≡ b.q1.contents
    contents =
        ap (λ (s : State). s.contents) b.bus_t ∙ memory-left (board_of q) q t xs refl board same (off_q core q t steps ready_q ready_t silent same board quiet)
        ∙ sym (ap (λ (s : State). s.contents) b.bus_q)

    board_q : board_of b.q1 ≡ board_of q
    board_q = ap board_of b.bus_q ∙ board-left q xs

    board_t : board_of b.t1 ≡ board_of t
    board_t = ap board_of b.bus_t ∙ board-left t xs

    still : b.q1.devices ≡ q.devices
    still =
        ap (λ (s : State). s.devices) b.bus_q ∙ (devices-are-left q xs (off_q core q t steps ready_q ready_t silent same board quiet)).1
        ∙ still-for (length xs) q.devices silent.still

    reach : behind (over core t) steps ≡ over b.core1 b.q1
    reach = b.there ∙ ap (λ (c : Contents). record { core = b.core1; memory = c.memory }) contents

    kit1 : IsKit (board_of b.q1) work ack b.q1.contents.memory
    kit1 =
        subst (λ (x : Board). IsKit x work ack b.q1.contents.memory) (sym board_q)
        (subst (λ (s : Whole). IsKit (board_of q) work ack s.memory) reach kit)

    rules1 : KeepsRules (board_of b.q1) work (over b.core1 b.q1)
    rules1 =
        subst (λ (x : Board). KeepsRules x work (over b.core1 b.q1)) (sym board_q)
        (subst (λ (s : Whole). KeepsRules (board_of q) work s) reach rules)

    valid1 : IsValidState (over b.core1 b.q1)
    valid1 = subst IsValidState reach (valid-behind valid (board_of t) (over core t) (given_by t xs) steps fine quiet.are)

    go : (run.count < k) ⊎ (k ≤ run.count) → Ends
    go (inl less) =
        let short : Runs k core t stop.Exit made text core_t' t' =
        record { count = run.count; core1 = run.core1; s1 = run.s1; leads = run.leads; ends = (less, run.ends.1, run.ends.2) } in
        absurd (differ (one k core t stop.Exit stop.Budget made k text [] core_t' b.core1 t' b.t1 ready_t fine short mine).0)
    go (inr more) =
        let m = run.count - k in
        let count : run.count ≡ k + m = omega (arith, more) in
        let p = split core t k m run.count count text run.core1 run.s1 run.leads in
        let first : Runs k core t stop.Budget k p.front p.core1 p.s1 = record { count = k; core1 = p.core1; s1 = p.s1; leads = p.first; ends = (refl, refl, refl, refl) } in
        let (w, n, front_is, core_is, bus_is) = one k core t stop.Budget stop.Budget k k p.front [] p.core1 b.core1 p.s1 b.t1 ready_t fine first mine in
        let text_is : p.rest ≡ text = sym (p.all ∙ ap (λ (l : List ℕ). l ++ p.rest) front_is) in
        let later : Leads b.core1 b.t1 m text run.core1 run.s1 =
        subst (λ (l : List ℕ). Leads b.core1 b.t1 m l run.core1 run.s1) text_is
        (subst (λ (s : State). Leads b.core1 s m p.rest run.core1 run.s1) bus_is (subst (λ (c : ArmState). Leads c p.s1 m p.rest run.core1 run.s1) core_is p.later)) in
        let few = run.ends.0 in
        let rest : Runs (most - k) b.core1 b.t1 stop.Exit (m + 1) text core_t' t' =
        record { count = m; core1 = run.core1; s1 = run.s1; leads = later; ends = (omega (arith, few, count), refl, run.ends.2) } in
        let (made1, fewer, core_q', q', end) =
        alike work ack (most - k) (m + 1) b.core1 core_t' b.q1 b.t1 t' text (subst IsReady (sym b.bus_q) (ready-left q xs ready_q)) (subst IsReady (sym b.bus_t) (ready-left t xs ready_t))
        (subst AreSilent (sym still) silent) (subst (λ (s : State). HasWork work ack s.contents) (sym b.bus_t) (work-left work ack t xs has)) contents (board_t ∙ board ∙ sym board_q)
        kit1 valid1 rules1 rest in
        let less = end.ends.0 in
        let made_is = end.ends.1 in
        let all_made = run.ends.1 in (
          k + made1,
          omega (arith, fewer, count, all_made),
          core_q',
          q',
          record {
            count = k + end.count;
            core1 = end.core1;
            s1 = end.s1;
            leads = joined core q k end.count [] text b.core1 end.core1 b.q1 end.s1 b.leads_q end.leads;
            ends = (omega (arith, less, few, more), omega (arith, made_is), end.ends.2);
          },
        )
