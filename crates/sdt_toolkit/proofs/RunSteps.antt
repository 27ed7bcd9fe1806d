-- A run of an image, and the startup's steps at its beginning.
use Rattle.std.proofs.Common.{◌≡◌, ℕ, ◌+◌, ◌<◌, ◌≤◌, Bool, true, false, List, [], ◌∷◌, ◌++◌, length, take, drop, Option, refl, sym, ap, ◌∙◌, subst, arith, ◌⊎◌, inl, inr}
use Rattle.std.specs.Prelude.{MatchBool}
use Rattle.std.proofs.lemmas.List.{take-append-drop}
use Rattle.sdt_fault.specs.declared.answer.Stop.{Stop}
use Rattle.sdt_fault.specs.declared.answer.Stop.TheVariants as stop
use Rattle.sdt_outside.specs.Counts.{Rose}
use Rattle.sdt_outside.specs.Sinks.{Got}
use Rattle.arm7_model.specs.declared.state.ArmState.{ArmState}
use Rattle.arm7_model.specs.Outcomes.{Stepped}
use Rattle.arm7_model.specs.Registers.{State as Whole}
use Rattle.arm7_model.specs.Runs.{accesses_of}
use Rattle.arm7_model.proofs.MemoryLemmas.{below_or_not}
use Rattle.arm7_bus.specs.States.{State}
use Rattle.arm7_core.specs.Resets.{IsReset}
use Rattle.arm7_run.specs.Runs.{EndsWith, Leads, RunChokes, Runs, is_sink}
use Rattle.arm7_run.proofs.ChokeLemmas.{choked}
use Rattle.arm7_transfers.specs.Boards.{board_of, over}
use Rattle.boot_code.specs.Safety.{IsSafe}
use Rattle.run_laws.specs.Devices.{AreOffDevices, touches_of}
use Rattle.run_laws.specs.Laws.{BusRunIsOne, MadeStepsAreOne}
use Rattle.run_laws.specs.Steps.{AreMade, steps_made}
use Rattle.run_laws.proofs.Devices.{devices-are-left}
use Rattle.run_laws.proofs.MadeSteps.{run-leaves-devices}
use Rattle.sdt_toolkit.specs.Runs.{Booting, CanBoot, IsLong, IsShort, RunStarts, RunsStart}
use Rattle.sdt_toolkit.proofs.RunOpened.{IsOpened, opened, ready, valid}
use Rattle.sdt_toolkit.proofs.RunStartup.{Allowed, IsStartup, are_led, each_taken, goes_back, length_taken, ordinary_taken, print_none, startup, steps_taken}

-- ---- stops

pub sink_made : (why : Stop) (made : ℕ) → is_sink why ≡ true → steps_made stop.Budget made ≡ steps_made why made
sink_made stop.Exit made e = refl
sink_made stop.Budget made e = refl
sink_made (stop.Unpredictable a w) made e = absurd (let bad : false ≡ true = e in cc)
sink_made (stop.BadString a) made e = refl
sink_made (stop.NoFrame a) made e = absurd (let bad : false ≡ true = e in cc)
sink_made stop.Sink made e = refl

-- a run made no fewer steps than went on
at_least : (why : Stop) (most n made : ℕ) (core : ArmState) (s : State) (core' : ArmState) (s' : State) → EndsWith most n why core s made core' s' → n ≤ steps_made why made
at_least stop.Exit most n made core s core' s' (few, count, step) = omega arith
at_least stop.Budget most n made core s core' s' (all, count, c, b) = omega arith
at_least (stop.Unpredictable a w) most n made core s core' s' (few, count, at, step) = omega arith
at_least (stop.BadString a) most n made core s core' s' (few, count, step, broken) = omega arith
at_least (stop.NoFrame a) most n made core s core' s' (few, count, step) = omega arith
at_least stop.Sink most n made core s core' s' h = absurd h

-- and one more than those, where it was not cut
made_more : (why : Stop) (most n made k : ℕ) (core : ArmState) (s : State) (core' : ArmState) (s' : State) → EndsWith most n why core s made core' s' → k ≤ n → k < most → k < steps_made why made
made_more stop.Exit most n made k core s core' s' (few, count, step) le lt = omega arith
made_more stop.Budget most n made k core s core' s' (all, count, c, b) le lt = omega arith
made_more (stop.Unpredictable a w) most n made k core s core' s' (few, count, at, step) le lt = omega arith
made_more (stop.BadString a) most n made k core s core' s' (few, count, step, broken) le lt = omega arith
made_more (stop.NoFrame a) most n made k core s core' s' (few, count, step) le lt = omega arith
made_more stop.Sink most n made k core s core' s' h le lt = absurd h

-- where a run stopped before so many steps, it ended, or so does the run of one step more than went on
stops_by : (why : Stop) (most n made : ℕ) (core : ArmState) (s : State) (core' : ArmState) (s' : State) → EndsWith most n why core s made core' s'
    → (n ≡ most) ⊎ ((why ≡ stop.Budget → ⊥) × EndsWith (n + 1) n why core s made core' s')
stops_by stop.Exit most n made core s core' s' (few, count, step) = inr ((λ e. cc), (omega arith, count, step))
stops_by stop.Budget most n made core s core' s' (all, count, c, b) = inl all
stops_by (stop.Unpredictable a w) most n made core s core' s' (few, count, at, step) = inr ((λ e. cc), (omega arith, count, at, step))
stops_by (stop.BadString a) most n made core s core' s' (few, count, step, broken) = inr ((λ e. cc), (omega arith, count, step, broken))
stops_by (stop.NoFrame a) most n made core s core' s' (few, count, step) = inr ((λ e. cc), (omega arith, count, step))
stops_by stop.Sink most n made core s core' s' h = absurd h

-- ---- text

got_none : (before after : Option (List ℕ)) (text : List ℕ) → text ≡ [] → Got before after text → Got before after []
got_none before after text e got = subst (λ (t : List ℕ). Got before after t) e got

no_back : (xs ys : List ℕ) → xs ++ ys ≡ [] → ys ≡ []
no_back [] ys e = e
no_back (x ∷ xs) ys e = absurd (let bad : length (x ∷ (xs ++ ys)) ≡ 0 = ap (λ (zs : List ℕ). length zs) e in omega arith)

-- ---- the run

record IsQuiet (core : ArmState) (s : State) (core' : ArmState) (s' : State) (steps : List Stepped) (most : ℕ) (why : Stop) (made : ℕ) (text : List ℕ) : Type 0 where
  pub cut : why ≡ stop.Budget
  pub all : made ≡ most
  pub are : AreMade core s (take most steps) core' s'
  pub nothing : text ≡ []
  pub touches : touches_of s'.devices ≡ touches_of s.devices

module _ (one : BusRunIsOne) (once : MadeStepsAreOne) {b : Booting} {s : State} (o : IsOpened b s)
    (can : CanBoot b) (core : ArmState) (reset : IsReset b.run.start false core) (steps : List Stepped) (p : IsStartup o can core steps) where
  -- a run of no more steps than the startup's
  quiet : (most : ℕ) (why : Stop) (made : ℕ) (text : List ℕ) (core' : ArmState) (s' : State) → Runs most core s why made text core' s' → most ≤ length steps → IsQuiet core s core' s' steps most why made text
  quiet most why made text core' s' run le =
      let xs = take most steps in
      let count = length_taken most steps le in
      let given = steps_taken (board_of s) (over core s) s most steps p.given in
      let safe = each_taken (IsSafe (Allowed o can)) most steps p.are.boot.booted.safe in
      let (core2, s2, leads, is) = goes_back o can core xs given (print_none s xs (ordinary_taken most steps p.are.boot.ordinary)) safe in
      let (core3, s3, are, behind_is, left_is) = are_led o can core xs given safe in
      let mine : Runs most core s stop.Budget most [] core2 s2 =
      record { count = most; core1 = core2; s1 = s2; leads = subst (λ (k : ℕ). Leads core s k [] core2 s2) count leads; ends = (refl, refl, refl, refl) } in
      let (why_is, made_is, text_is, core_is, s_is) = one most core s why stop.Budget made most text [] core' core2 s' s2 (ready o) (valid o can core reset) run mine in
      let (lines, left, touches) = devices-are-left s (accesses_of xs) (each_taken (AreOffDevices (board_of s)) most steps p.are.off) in
      let same_core : core' ≡ core3 = core_is ∙ ap (λ (x : Whole). x.core) (sym is.state ∙ behind_is) in
      let same_bus : s' ≡ s3 = s_is ∙ is.bus ∙ sym left_is in
      record {
        cut = why_is;
        all = made_is;
        are = subst (λ (c : ArmState). AreMade core s xs c s') (sym same_core) (subst (λ (t : State). AreMade core s xs core3 t) (sym same_bus) are);
        nothing = text_is;
        touches = ap (λ (t : State). touches_of t.devices) (s_is ∙ is.bus) ∙ touches;
      }

  -- a longer one goes on as long
  goes_on : (most : ℕ) (why : Stop) (made : ℕ) (text : List ℕ) (core' : ArmState) (s' : State) (run : Runs most core s why made text core' s') → length steps ≤ most → length steps ≤ run.count
  goes_on most why made text core' s' run le = go (below_or_not run.count (length steps)) (stops_by why most run.count made run.core1 run.s1 core' s' run.ends)
    where
      go : (run.count < length steps) ⊎ (length steps ≤ run.count)
          → (run.count ≡ most) ⊎ ((why ≡ stop.Budget → ⊥) × EndsWith (run.count + 1) run.count why run.core1 run.s1 made core' s') → length steps ≤ run.count
      go (inr long) e = long
      go (inl short) (inl all) = omega arith
      go (inl short) (inr (other, ends)) =
          let again : Runs (run.count + 1) core s why made text core' s' = record { count = run.count; core1 = run.core1; s1 = run.s1; leads = run.leads; ends = ends } in
          absurd (other (quiet (run.count + 1) why made text core' s' again (omega arith)).cut)

  begins : (most : ℕ) (why : Stop) (made : ℕ) (text : List ℕ) (core' : ArmState) (s' : State) → Runs most core s why made text core' s' → length steps ≤ most → IsLong why most made core s core' s' steps
  begins most why made text core' s' run le =
      let (ys, count, are, left) = run-leaves-devices most core s why made text core' s' (ready o) run in
      let (core1, s1, mine, behind, bus) = are_led o can core steps p.given p.are.boot.booted.safe in
      let least = at_least why most run.count made run.core1 run.s1 core' s' run.ends in
      let long = goes_on most why made text core' s' run le in
      let front = once core s steps ys core1 core' s1 s' (ready o) (valid o can core reset) mine are (omega arith) in
      let whole : steps ++ drop (length steps) ys ≡ ys = ap (λ (xs : List Stepped). xs ++ drop (length steps) ys) front ∙ take-append-drop (length steps) ys in
      record {
        rest = drop (length steps) ys;
        count = ap (λ (xs : List Stepped). length xs) whole ∙ count;
        are = subst (λ (xs : List Stepped). AreMade core s xs core' s') (sym whole) are;
        more = made_more why most run.count made (length steps) run.core1 run.s1 core' s' run.ends long;
      }

  module _ (most : ℕ) (why : Stop) (made : ℕ) (core' : ArmState) (s' : State) (before after : Option (List ℕ)) (rose : Type 0) where
    -- a sink fails behind the startup's steps, which print nothing
    chokes_later : (c : RunChokes most core s made core' s' before after rose) → length steps ≤ c.count
    chokes_later c = go (below_or_not c.count (length steps))
      where
        go : (c.count < length steps) ⊎ (length steps ≤ c.count) → length steps ≤ c.count
        go (inr long) = long
        go (inl short) =
            let x = choked most core s made core' s' before after rose c in
            let is = c.made_is in
            absurd (c.chokes.printed (no_back c.text c.chokes.piece (quiet made stop.Budget made (c.text ++ c.chokes.piece) core' s' x.runs (omega arith)).nothing))

    abbrev Ended : Bool → Type 0
    Ended e = MatchBool e (RunChokes most core s made core' s' before after rose) ((text : List ℕ) × Runs most core s why made text core' s' × Got before after text)

    short_by : (e : Bool) → Ended e → most ≤ length steps → IsShort why most made core s core' s' before after steps
    short_by true c le = absurd (let later = chokes_later c in let few = c.few in omega arith)
    short_by false (text, run, got) le =
        let q = quiet most why made text core' s' run le in
        record { cut = q.cut; all = q.all; are = q.are; unprinted = got_none before after text q.nothing got; touches = q.touches }

    long_by : (e : Bool) → is_sink why ≡ e → Ended e → length steps ≤ most → IsLong why most made core s core' s' steps
    long_by true e c le =
        let later = chokes_later c in
        let is = c.made_is in
        let x = choked most core s made core' s' before after rose c in
        let l = begins made stop.Budget made (c.text ++ c.chokes.piece) core' s' x.runs (omega arith) in
        let same = sink_made why made e in
        record { rest = l.rest; count = l.count ∙ same; are = l.are; more = λ lt. subst (λ (n : ℕ). length steps < n) same (omega arith) }
    long_by false e (text, run, got) le = begins most why made text core' s' run le

    pub starts : Ended (is_sink why) → RunStarts b why most made core s core' s' before after steps
    starts ended = record { startup = p.are; short = short_by (is_sink why) ended; long = long_by (is_sink why) refl ended }

pub runs_start : BusRunIsOne → MadeStepsAreOne → RunsStart
runs_start one once b banks seats left most why before after faults faults_now can has allow ran =
    let run = ran.is_run in
    let o = opened b banks seats ran.begin ran.roomy allow has ran.opening in
    let reset = subst (λ (t : Bool). IsReset b.run.start t run.core) can.arm run.reset in
    let (steps, p) = startup o can run.core reset in
    record {
      ran = ran;
      steps = steps;
      starts = starts one once o can run.core reset steps p most why run.made run.core' run.end before after (Rose faults faults_now) run.runs;
      devices = ran.opening.devices;
      devices_left = run.devices;
    }
