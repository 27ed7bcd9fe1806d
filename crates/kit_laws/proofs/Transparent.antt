-- The run of a program beside its run without interrupts.
use Rattle.std.proofs.Common.{◌≡◌, ◌≢◌, ℕ, zero, suc, ◌+◌, ◌%◌, ◌^◌, ◌<◌, ◌≤◌, ◌==◌, Bool, true, false, List, [], ◌∷◌, ◌++◌, Option, Some, None, length, refl, sym, ap, subst, ◌∙◌, arith, ◌⊎◌, inl, inr, if◌then◌else◌}
use Rattle.std.specs.Prelude.{map}
use Rattle.std.specs.List.{AllByRecursion}
use Rattle.sdt_word.specs.Bytes.{word}
use Rattle.sdt_word.proofs.BytesLemmas.{word-lt}
use Rattle.sdt_word.specs.Numbers.{bit}
use Rattle.arm7_model.specs.declared.event.Event.TheVariants as event
use Rattle.arm7_model.specs.declared.event.Exception.{Exception}
use Rattle.arm7_model.specs.declared.event.Exception.TheVariants as exception
use Rattle.arm7_model.specs.Laws.{StepIsOne, StepIsValid}
use Rattle.arm7_model.specs.Memory.{Board}
use Rattle.arm7_model.specs.Outcomes.{Stepped}
use Rattle.arm7_model.specs.Registers.{IsValidState, State, bank_in, register}
use Rattle.arm7_model.specs.Runs.{AreSteps, Input, IsCounted, behind, first_of_inputs, later_inputs, quiet}
use Rattle.arm7_model.specs.Step.{Levels, Step, can_fetch, interrupt, irq_pending}
use Rattle.kit_laws.specs.Handler.{IsKit}
use Rattle.kit_laws.specs.Aligned.{Aligned, IsInHandler, ends, goes, returns, stops}
use Rattle.kit_laws.specs.Beside.{Scratch, beside, beside_step, with_irq}
use Rattle.kit_laws.specs.Rules.{IsOwn, FiqIsDown, IsOwnStep, KeepsRules, MayExit}
use Rattle.kit_laws.specs.Struck.{AreMoments, in_irq, struck, took_irq}
use Rattle.kit_laws.specs.Laws.{RunsAreTransparent}
use Rattle.kit_laws.proofs.BesideStates.{agree-beside, beside-self, beside-twice, count-next, count-same, in-irq, kit-beside, kit-same, low-kept, out-of-irq, own_scratch}
use Rattle.kit_laws.proofs.BesideStep.{plain-step}
use Rattle.kit_laws.proofs.Events.{step-other}
use Rattle.kit_laws.proofs.IrqRegisters.{other-bank}
use Rattle.kit_laws.proofs.OwnFetch.{can, own-fetch}
use Rattle.kit_laws.proofs.Interrupt.{Handles, last, on, scratch_of, taken}

-- with no FIQ up an interrupt is IRQ
only-irq : (lines : Levels) (status : ℕ) (e : Exception) → lines.fiq ≡ false → interrupt lines status ≡ Some e → e ≡ exception.Irq
unfolding interrupt irq_pending
only-irq lines status e fiq h = go (bit status 6 == 1) (bit status 7 == 1) lines.irq (rw fiq at h)
  where
    nothing : Option Exception
    nothing = None

    pend : (i l : Bool) → (if i then nothing else if l then Some exception.Irq else nothing) ≡ Some e → e ≡ exception.Irq
    pend true l h = absurd cc
    pend false true h = cc
    pend false false h = absurd cc

    go : (f i l : Bool)
        → (if f then (if i then nothing else if l then Some exception.Irq else nothing) else (if i then nothing else if l then Some exception.Irq else nothing)) ≡ Some e → e ≡ exception.Irq
    go true i l h = pend i l h
    go false i l h = pend i l h

first-down : (inputs : List Input) → FiqIsDown inputs → (first_of_inputs inputs).lines.fiq ≡ false
first-down [] d = refl
first-down (i ∷ is) d = d.0

later-down : (inputs : List Input) → FiqIsDown inputs → FiqIsDown (later_inputs inputs)
later-down [] d = tt
later-down (i ∷ is) d = d.1

module _ (b : Board) (work ack : ℕ) (one : StepIsOne) (valid : StepIsValid) where
  -- what is left of a run behind the handler's steps, if it gets there
  pub record Left (n c : ℕ) (u t : State) (xs : List Stepped) : Type 0 where
    pub steps : List Stepped
    pub inputs : List Input
    pub same : struck true c u xs ≡ struck false (c + 1) t steps
    pub run : AreSteps b t inputs steps
    pub down : FiqIsDown inputs
    pub fine : IsValidState t
    pub fewer : length steps < length xs
    pub front : List Stepped
    pub long : length front ≡ n
    pub whole : xs ≡ front ++ steps
    pub handler : AllByRecursion (IsInHandler work ack) front
    pub reaches : behind u front ≡ t

  -- or it ends in the handler
  abbrev Stops : ℕ → ℕ → State → List Stepped → Type 0
  Stops n c u xs = (struck true c u xs ≡ []) × AllByRecursion (IsInHandler work ack) xs × (length xs < n)

  positive : {n : ℕ} {u t : State} → Handles b work ack n u t → 0 < n
  positive (last x s r i) = omega arith
  positive (on x s r i h) = omega arith

  handled-bank : {n : ℕ} {u t : State} → Handles b work ack n u t → bank_in u.core.cpsr ≡ 2
  handled-bank (last x s r i) = i
  handled-bank (on x s r i h) = i

  through : {n : ℕ} {u t : State} (c : ℕ) (inputs : List Input) (xs : List Stepped) → Handles b work ack n u t → bank_in t.core.cpsr ≢ 2
      → IsValidState u → FiqIsDown inputs → AreSteps b u inputs xs → Stops n c u xs ⊎ Left n c u t xs
  through c inputs [] h out v d run = inl (refl, tt, positive h)
  through {u = u} c inputs (x ∷ xs) (last y steps ran irq) out v d (st, counted, run) =
      let lines = (first_of_inputs inputs).lines in
      let answers = (first_of_inputs inputs).answers in
      let same : y ≡ x = one b u lines answers y x (steps lines answers (first-down inputs d)) st in
      let left : in_irq x.state ≡ false = subst (λ (z : Stepped). in_irq z.state ≡ false) same (out-of-irq y.state out) in
      inr (record {
        steps = xs;
        inputs = later_inputs inputs;
        same = rw left (ap (λ (z : Stepped). struck false (c + 1) z.state xs) (sym same));
        run = subst (λ (z : Stepped). AreSteps b z.state (later_inputs inputs) xs) (sym same) run;
        down = later-down inputs d;
        fine = subst (λ (z : Stepped). IsValidState z.state) (sym same) (valid b u lines answers x v st);
        fewer = omega arith;
        front = x ∷ [];
        long = refl;
        whole = refl;
        handler = (subst (IsInHandler work ack) same ran, tt);
        reaches = ap (λ (z : Stepped). z.state) (sym same);
      })
  through {u = u} {t = t} c inputs (x ∷ xs) (on {n = m} y steps ran irq h) out v d (st, counted, run) =
      let lines = (first_of_inputs inputs).lines in
      let answers = (first_of_inputs inputs).answers in
      let same : y ≡ x = one b u lines answers y x (steps lines answers (first-down inputs d)) st in
      let within : in_irq x.state ≡ true = subst (λ (z : Stepped). in_irq z.state ≡ true) same (in-irq y.state (handled-bank h)) in
      let next : Handles b work ack m x.state t = subst (λ (z : Stepped). Handles b work ack m z.state t) same h in
      go within (through c (later_inputs inputs) xs next out (valid b u lines answers x v st) (later-down inputs d) run)
    where
      here : IsInHandler work ack x
      here = subst (IsInHandler work ack) (one b u (first_of_inputs inputs).lines (first_of_inputs inputs).answers y x (steps (first_of_inputs inputs).lines (first_of_inputs inputs).answers (first-down inputs d)) st) ran

      go : in_irq x.state ≡ true → Stops m c x.state xs ⊎ Left m c x.state t xs → Stops (suc m) c u (x ∷ xs) ⊎ Left (suc m) c u t (x ∷ xs)
      go w (inl (e, all, short)) = inl (rw w e, (here, all), omega arith)
      go w (inr l) = let fewer = l.fewer in inr (record {
        steps = l.steps;
        inputs = l.inputs;
        same = rw w l.same;
        run = l.run;
        down = l.down;
        fine = l.fine;
        fewer = omega arith;
        front = x ∷ l.front;
        long = ap suc l.long;
        whole = ap (λ (zs : List Stepped). x ∷ zs) l.whole;
        handler = (here, l.handler);
        reaches = l.reaches;
      })

  module _ (first : ℕ) where
    -- a run beside, and what is to be shown of it
    pub record Beside (c : ℕ) (k : Scratch) (p : State) (inputs : List Input) (steps : List Stepped) : Type 0 where
      pub kit : IsKit b work ack p.memory
      pub fine : IsValidState (beside work k p)
      pub rules : KeepsRules b work p
      pub down : FiqIsDown inputs
      pub run : AreSteps b (beside work k p) inputs steps
      pub exits : MayExit steps
      pub count : word (beside work k p).memory (work + 8) ≡ (first + c) % 2 ^ 32

    abbrev Shown : ℕ → Scratch → State → List Stepped → Type 0
    Shown c k p steps = (ps : List Stepped) × AreSteps b p [] ps × AreMoments work first (struck false c (beside work k p) steps) (p ∷ map (λ x. x.state) ps) × Aligned b work ack k p steps ps

    later-rules : (p : State) (x : Stepped) → Step b p quiet.lines quiet.answers x → IsCounted x.event → x.event ≢ event.Host 0x11 → KeepsRules b work p → KeepsRules b work x.state
    later-rules p x st counted more rules = record {
      mode = (rules.step [] x tt tt st).mode;
      step = λ ps y run on next. rules.step (x ∷ ps) y (st, counted, run) (more, on) next;
    }

    may-later : (x : Stepped) (xs : List Stepped) → MayExit (x ∷ xs) → MayExit xs
    may-later x [] m = tt
    may-later x (y ∷ ys) m = m.1

    may-behind : (front zs : List Stepped) → MayExit (front ++ zs) → MayExit zs
    may-behind [] zs m = m
    may-behind (x ∷ front) zs m = may-behind front zs (may-later x (front ++ zs) m)

    -- shorter runs
    abbrev Again : ℕ → Type 0
    Again fuel = (c : ℕ) (k : Scratch) (p : State) (inputs : List Input) (steps : List Stepped) → length steps ≤ fuel → Beside c k p inputs steps → Shown c k p steps

    module _ (fuel c : ℕ) (k : Scratch) (p : State) (inputs : List Input) (x : Stepped) (xs : List Stepped) (le : length xs ≤ fuel) (h : Beside c k p inputs (x ∷ xs)) (again : Again fuel) where
      abbrev lines : Levels
      lines = (first_of_inputs inputs).lines

      abbrev answers : List ℕ
      answers = (first_of_inputs inputs).answers

      mode : bank_in p.core.cpsr ≢ 2
      mode = other-bank p.core.cpsr h.rules.mode

      fine-after : IsValidState x.state
      fine-after = valid b (beside work k p) lines answers x h.fine h.run.0

      -- what is shown behind the handler is shown of the whole, and what is shown behind a step with the state before it
      finish : (l : Scratch) → took_irq x.event ≡ true → x.event ≡ event.Took exception.Irq → x.accesses ≡ [] → (left : Left 11 c x.state (beside work l p) xs) → Shown (c + 1) l p left.steps → Shown c k p (x ∷ xs)
      finish l took-it is none left (ps, run, moments, aligned) = (
        ps,
        run,
        rw (took-it, left.same) moments,
        subst (λ (zs : List Stepped). Aligned b work ack k p (x ∷ zs) ps) (sym left.whole) (returns l x left.front (record { taken = is; silent = none; handler = left.handler }) left.long left.reaches aligned),
      )

      extend : (x0 : Stepped) → took_irq x.event ≡ false → x ≡ beside_step work k x0 → Step b p quiet.lines quiet.answers x0 → IsOwnStep b work x0 → Shown c k x0.state xs → Shown c k p (x ∷ xs)
      extend x0 other is st made (ps, run, moments, aligned) = (
        x0 ∷ ps,
        (st, made.counted, run),
        rw other (
          agree-beside work k p,
          h.count,
          subst (λ (z : State). AreMoments work first (struck false c z xs) (x0.state ∷ map (λ y. y.state) ps)) (sym (ap (λ (z : Stepped). z.state) is)) moments,
        ),
        subst (λ (z : Stepped). Aligned b work ack k p (z ∷ xs) (x0 ∷ ps)) (sym is) (goes x0 made aligned),
      )

      irq : interrupt lines p.core.cpsr ≡ Some exception.Irq → Shown c k p (x ∷ xs)
      unfolding with_irq can_fetch register
      irq up =
          let (y, steps, took, silent, handles) = taken b work ack (beside work k p) (kit-beside k p h.kit) h.fine.core mode (can b work p h.rules) lines answers up in
          let same : y ≡ x = one b (beside work k p) lines answers y x steps h.run.0 in
          let l = scratch_of work (beside work k p) in
          let took-it : took_irq x.event ≡ true = subst (λ (z : Stepped). took_irq z.event ≡ true) same (ap took_irq took) in
          let inside : Handles b work ack 11 x.state (beside work l (beside work k p)) = subst (λ (z : Stepped). Handles b work ack 11 z.state (beside work l (beside work k p))) same handles in
          go took-it (subst (λ (z : Stepped). z.event ≡ event.Took exception.Irq) same took) (subst (λ (z : Stepped). z.accesses ≡ []) same silent) (through c (later_inputs inputs) xs (subst (Handles b work ack 11 x.state) (beside-twice work k l p) inside) mode fine-after (later-down inputs h.down) h.run.2)
        where
          go : took_irq x.event ≡ true → x.event ≡ event.Took exception.Irq → x.accesses ≡ [] → Stops 11 c x.state xs ⊎ Left 11 c x.state (beside work (scratch_of work (beside work k p)) p) xs → Shown c k p (x ∷ xs)
          go took-it is none (inl (e, all, short)) = ([], tt, rw (took-it, e) tt, stops x xs (record { taken = is; silent = none; handler = all }) short)
          go took-it is none (inr left) =
              let s = beside work k p in
              let l = scratch_of work s in
              let fewer = left.fewer in
              let counts : word (beside work l p).memory (work + 8) ≡ (first + (c + 1)) % 2 ^ 32 =
              count-same work l p.memory s.memory ∙ count-next work s ∙ ap (λ (v : ℕ). (v + 1) % 2 ^ 32) h.count ∙ omega arith in
              finish l took-it is none left (again (c + 1) l p left.inputs left.steps (omega arith) (record {
                kit = h.kit;
                fine = left.fine;
                rules = h.rules;
                down = left.down;
                run = left.run;
                exits = may-behind left.front left.steps (subst MayExit left.whole (may-later x xs h.exits));
                count = counts;
              }))

      -- an ordinary step
      pub record Own : Type 0 where
        pub x0 : Stepped
        pub step : Step b p quiet.lines quiet.answers x0
        pub made : IsOwnStep b work x0
        pub is : x ≡ beside_step work k x0

      own-step : interrupt lines p.core.cpsr ≡ None → Own
      unfolding with_irq
      own-step none =
          let (x0, st0, beside-it) = plain-step b work k p answers mode (own-fetch b work p h.rules) lines x none h.run.0 in
          let made = h.rules.step [] x0 tt tt st0 in
          record { x0 = x0; step = st0; made = made; is = beside-it made.accesses (other-bank x0.state.core.cpsr made.mode) }

      not-taken : interrupt lines p.core.cpsr ≡ None → Step b (beside work k p) lines answers x → took_irq x.event ≡ false
      unfolding with_irq
      not-taken none (i, reads, is) = subst (λ (z : Stepped). took_irq z.event ≡ false) (sym is) (step-other b (beside work k p) lines answers i none)

      low : (x0 : Stepped) → Step b p quiet.lines quiet.answers x0 → AllByRecursion (IsOwn b work) x0.accesses → (a : ℕ) → a < 0x50 → x0.state.memory a ≡ p.memory a
      low x0 (i, reads, is) accesses a lt =
          ap (λ (z : Stepped). z.state.memory a) is
          ∙ low-kept b work p quiet.lines quiet.answers i (subst (λ (z : Stepped). AllByRecursion (IsOwn b work) z.accesses) is accesses) a lt

      ordinary : interrupt lines p.core.cpsr ≡ None → Shown c k p (x ∷ xs)
      ordinary none = go xs refl
        where
          o : Own
          o = own-step none

          count-after : word (beside work k o.x0.state).memory (work + 8) ≡ (first + c) % 2 ^ 32
          count-after = count-same work k o.x0.state.memory p.memory ∙ h.count

          later : (more : o.x0.event ≢ event.Host 0x11) → Beside c k o.x0.state (later_inputs inputs) xs
          later more =
              let state-is : x.state ≡ beside work k o.x0.state = ap (λ (z : Stepped). z.state) o.is in
              record {
                kit = kit-same o.x0.state.memory h.kit (low o.x0 o.step o.made.accesses);
                fine = subst IsValidState state-is fine-after;
                rules = later-rules p o.x0 o.step o.made.counted more h.rules;
                down = later-down inputs h.down;
                run = subst (λ (z : State). AreSteps b z (later_inputs inputs) xs) state-is h.run.2;
                exits = may-later x xs h.exits;
                count = count-after;
              }

          go : (ys : List Stepped) → xs ≡ ys → Shown c k p (x ∷ xs)
          go [] e =
              let last : Shown c k o.x0.state [] = ([], tt, (agree-beside work k o.x0.state, count-after, tt), ends) in
              extend o.x0 (not-taken none h.run.0) o.is o.step o.made (subst (Shown c k o.x0.state) (sym e) last)
          go (y ∷ ys) e =
              let may : MayExit (x ∷ y ∷ ys) = subst (λ (zs : List Stepped). MayExit (x ∷ zs)) e h.exits in
              let more : o.x0.event ≢ event.Host 0x11 = λ i. may.0 (ap (λ (z : Stepped). z.event) o.is ∙ i) in
              extend o.x0 (not-taken none h.run.0) o.is o.step o.made (again c k o.x0.state (later_inputs inputs) xs le (later more))

      one-more : Shown c k p (x ∷ xs)
      one-more = by (interrupt lines p.core.cpsr) refl
        where
          by : (o : Option Exception) → interrupt lines p.core.cpsr ≡ o → Shown c k p (x ∷ xs)
          by None e = ordinary e
          by (Some y) e =
              let is : y ≡ exception.Irq = only-irq lines p.core.cpsr y (first-down inputs h.down) e in
              irq (e ∙ ap Some is)

    shows : (fuel c : ℕ) (k : Scratch) (p : State) (inputs : List Input) (steps : List Stepped) → length steps ≤ fuel → Beside c k p inputs steps → Shown c k p steps
    shows fuel c k p inputs [] le h = ([], tt, (agree-beside work k p, h.count, tt), ends)
    shows zero c k p inputs (x ∷ xs) le h = absurd (omega arith)
    shows (suc fuel) c k p inputs (x ∷ xs) le h = one-more fuel c k p inputs x xs (omega arith) h (shows fuel)

-- the theorem over the model: the struck run of a program with the handler is its run without interrupts
pub transparent : StepIsOne → StepIsValid → RunsAreTransparent
transparent one valid b work ack s inputs steps kit h =
    let k = own_scratch work s in
    let self : beside work k s ≡ s = beside-self work s in
    let back : s ≡ beside work k s = sym self in
    let small : word s.memory (work + 8) < 2 ^ 32 = word-lt s.memory (work + 8) h.valid.memory in
    let (ps, plain, moments, aligned) = shows b work ack one valid (word s.memory (work + 8)) (length steps) 0 k s inputs steps (omega arith) (record {
      kit = kit;
      fine = subst IsValidState back h.valid;
      rules = h.rules;
      down = h.down;
      run = subst (λ (z : State). AreSteps b z inputs steps) back h.run;
      exits = h.exits;
      count = ap (λ (z : State). word z.memory (work + 8)) self ∙ omega arith;
    }) in
    record {
      plain = ps;
      run = plain;
      moments = subst (λ (z : State). AreMoments work (word s.memory (work + 8)) (struck false 0 z steps) (s ∷ map (λ x. x.state) ps)) self moments;
      first = k;
      same = self;
      aligned = aligned;
    }
