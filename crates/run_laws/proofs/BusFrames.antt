-- Steps of the model that a bus makes, where it has a frame for each page that a store can use.
use Rattle.std.proofs.Common.{◌≡◌, ℕ, suc, ◌+◌, ◌^◌, ◌<◌, ◌≤◌, Bool, true, false, not, ◌||◌, List, [], ◌∷◌, length, refl, sym, ap, ◌∙◌, subst, arith}
use Rattle.std.proofs.lemmas.Bool.Decides.{nat_tests}
use Rattle.sdt_word.specs.declared.codes.Width.{Width}
use Rattle.sdt_word.specs.declared.codes.Width.TheVariants.{Byte, Half, Word}
use Rattle.sdt_word.specs.Codes.{bytes_in}
use Rattle.arm7_model.specs.declared.state.ArmState.{ArmState}
use Rattle.arm7_model.specs.Accesses.{Access, Fetch, Load, Store, memory_after}
use Rattle.arm7_model.specs.Memory.{Board, Bytes}
use Rattle.arm7_model.specs.Outcomes.{Stepped}
use Rattle.arm7_model.specs.Registers.{State as Whole}
use Rattle.arm7_model.specs.Runs.{AreSteps, accesses_of, behind}
use Rattle.arm7_model.specs.Step.{Levels, Step, fetched}
use Rattle.arm7_bus.specs.declared.memory.Bank.{Bank}
use Rattle.arm7_bus.specs.Buses.{after_read, after_tick, after_write, has_whole}
use Rattle.arm7_bus.specs.Seats.{has_access, lines_up}
use Rattle.arm7_bus.specs.States.{Contents, State, bank_has, is_protected}
use Rattle.arm7_bus.proofs.MeetLemmas.{and_left as and-left, and_right as and-right}
use Rattle.arm7_core.specs.Machines.{IsStep, levels}
use Rattle.arm7_run.specs.Runs.{Leads, stays}
use Rattle.arm7_transfers.specs.Boards.{board_of, over}
use Rattle.arm7_transfers.specs.Frames.{lacks_frame}
use Rattle.arm7_transfers.specs.Ready.{IsReady}
use Rattle.arm7_transfers.specs.Served.{answers_to, served}
use Rattle.arm7_transfers.proofs.BoardLemmas.{contents-read, may-whole}
use Rattle.arm7_transfers.proofs.ReadyLemmas.{board-read, board-same, ready-read, ready-tick, ready-write}
use Rattle.arm7_transfers.proofs.StoreLemmas.{CanStore, can-store as can-be-stored, memory-write, one-frame}
use Rattle.kit_laws.proofs.Added.{AreSound, IsSound, moved}
use Rattle.kit_laws.proofs.StepAdded.{step-adds}
use Rattle.run_laws.specs.Steps.{AreMade, IsStepOf, Print, given_by, left_by}
use Rattle.run_laws.proofs.BusRuns.{Back, Own, board-next, board-tick, first-step, next, ready-next}
use Rattle.run_laws.proofs.ServedMemory.{places-any}
use Rattle.run_laws.proofs.SmallBanks.{HasAll, all-read, all-served, all-write, frames-for}

-- ---- stores

not-true : (b : Bool) → not b ≡ true → b ≡ false
not-true true e = sym e
not-true false e = refl

end-in : (base size a n : ℕ) → has_access base size a n ≡ true → a + n ≤ base + size
end-in base size a n e = grind (arith, nat_tests)

-- what a bank has lies below 2^32
bank-low : (banks : List Bank) (a n : ℕ) → 0 < n → bank_has banks a n ≡ true → a < 2 ^ 32
bank-low [] a n some e = absurd (let bad : false ≡ true = e in cc)
bank-low (b ∷ bs) a n some e = go (has_access b.range.base b.range.size a n) refl e (bank-low bs a n some)
  where
    go : (h : Bool) → has_access b.range.base b.range.size a n ≡ h → (h || bank_has bs a n) ≡ true → (bank_has bs a n ≡ true → a < 2 ^ 32) → a < 2 ^ 32
    go true f g more = let top = end-in b.range.base b.range.size a n f in let room = b.range.in_space in omega arith
    go false f g more = more g

some-bytes : (width : Width) → 0 < bytes_in width
some-bytes Byte = omega arith
some-bytes Half = omega arith
some-bytes Word = omega arith

can-store : (s : State) (a : ℕ) (width : Width) (v : ℕ) → IsReady s → HasAll s.contents → IsSound (board_of s) a width v → CanStore s a (bytes_in width)
can-store s a width v r all sound =
    let may = sym (may-whole s a width r sound.aligned) ∙ sound.may in
    let there = and-left (has_whole s a (bytes_in width)) (not (is_protected s.contents.banks a (bytes_in width))) may in
    let free = not-true (is_protected s.contents.banks a (bytes_in width)) (and-right (has_whole s a (bytes_in width)) (not (is_protected s.contents.banks a (bytes_in width))) may) in
    record {
      there = there;
      free = free;
      frame = λ e.
          let low = bank-low s.contents.banks a (bytes_in width) (some-bytes width) e in
          let none = not-true (lacks_frame s a (bytes_in width)) (sym (one-frame s a width v r low) ∙ frames-for s (Store a width v ∷ []) all) in
          (can-be-stored s a (bytes_in width) there free none).frame e;
    }

abbrev Serves : State → List Access → Type 0
Serves s xs = AreSound (board_of s) xs → HasAll s.contents → (served s xs).contents.memory ≡ moved (board_of s) s.contents.memory xs

behind-read : (s : State) (a : ℕ) (width : Width) (rest : List Access) → Serves (after_read s a width) rest
    → AreSound (board_of s) rest → HasAll s.contents → (served (after_read s a width) rest).contents.memory ≡ moved (board_of s) s.contents.memory rest
behind-read s a width rest more sound all =
    let t = after_read s a width in
    let b = board-read s a width in
    more (subst (λ (x : Board). AreSound x rest) (sym b) sound) (all-read s a width all)
    ∙ ap (λ (x : Board). moved x t.contents.memory rest) b ∙ ap (λ (x : Contents). moved (board_of s) x.memory rest) (contents-read s a width)

behind-write : (s : State) (a : ℕ) (width : Width) (v : ℕ) (rest : List Access) → IsReady s → Serves (after_write s a width v) rest
    → AreSound (board_of s) (Store a width v ∷ rest) → HasAll s.contents
    → (served (after_write s a width v) rest).contents.memory ≡ moved (board_of s) s.contents.memory (Store a width v ∷ rest)
behind-write s a width v rest r more sound all =
    let t = after_write s a width v in
    let b = board-same s t (places-any s a width v) in
    let memory : t.contents.memory ≡ memory_after (board_of s) s.contents.memory a width v =
    ap (λ (x : ℕ). (after_write s a width x).contents.memory) (sym sound.0.small) ∙ memory-write s a width v r sound.0.aligned (can-store s a width v r all sound.0) in
    more (subst (λ (x : Board). AreSound x rest) (sym b) sound.1) (all-write s a width v all)
    ∙ ap (λ (x : Board). moved x t.contents.memory rest) b ∙ ap (λ (m : Bytes). moved (board_of s) m rest) memory

serves : (s : State) (xs : List Access) → IsReady s → Serves s xs
serves s [] r sound all = refl
serves s (Fetch a width ∷ rest) r sound all = behind-read s a width rest (serves (after_read s a width) rest (ready-read s a width r)) sound all
serves s (Load a width ∷ rest) r sound all = behind-read s a width rest (serves (after_read s a width) rest (ready-read s a width r)) sound all
serves s (Store a width v ∷ rest) r sound all = behind-write s a width v rest r (serves (after_write s a width v) rest (ready-write s a width v r)) sound all

-- ---- steps

step-memory : (core : ArmState) (s : State) (x : Stepped) (lines : Levels) → IsReady s → HasAll s.contents
    → Step (board_of s) (over core s) lines (answers_to s x.accesses) x → (served s x.accesses).contents.memory ≡ x.state.memory
step-memory core s x lines r all (i, read, e) =
    let a = answers_to s x.accesses in
    let p = step-adds (board_of s) (over core s) lines i (fetched (board_of s) (over core s) a) in
    let made : x.accesses ≡ p.made = ap (λ (t : Stepped). t.accesses) e ∙ p.accesses a (λ f. refl) in
    ap (λ (xs : List Access). (served s xs).contents.memory) made ∙ serves s p.made r p.sound all
    ∙ sym (ap (λ (t : Stepped). t.state.memory) e ∙ p.memory a (λ f. refl))

all-ticked : (s : State) → HasAll s.contents → HasAll (after_tick s).contents
all-ticked s all = record { touched = all.touched; frames = all.frames }

all-next : (s : State) (xs : List Access) → HasAll s.contents → HasAll (next s xs).contents
all-next s xs all = all-served (after_tick s) xs (all-ticked s all)

one-step : (core : ArmState) (s : State) (x : Stepped) → IsReady s → HasAll s.contents → Own (board_of s) (over core s) s x
    → IsStepOf core (after_tick s) x x.event x.state.core (next s x.accesses) × (over x.state.core (next s x.accesses) ≡ x.state)
one-step core s x r all one =
    let t = after_tick s in
    let step : Step (board_of t) (over core t) (levels (lines_up t.devices)) (answers_to t x.accesses) x =
    subst (λ (b : Board). Step b (over core t) (levels (lines_up t.devices)) (answers_to t x.accesses) x) (sym (board-tick s)) one in
    let memory = step-memory core t x (levels (lines_up t.devices)) (ready-tick s r) (all-ticked s all) step in
    let state : over x.state.core (next s x.accesses) ≡ x.state = ap (λ (m : Bytes). record { core = x.state.core; memory = m }) memory in
    (record { step = step; ends = rw (frames-for t x.accesses (all-ticked s all)) (refl, state, refl) }, state)

-- the steps behind one that was made
later : (core : ArmState) (s : State) (x : Stepped) (xs : List Stepped) → over x.state.core (next s x.accesses) ≡ x.state
    → AreSteps (board_of s) x.state (given_by (next s x.accesses) (accesses_of xs)) xs
    → AreSteps (board_of (next s x.accesses)) (over x.state.core (next s x.accesses)) (given_by (next s x.accesses) (accesses_of xs)) xs
later core s x xs state rest =
    let t = next s x.accesses in
    subst (λ (b : Board). AreSteps b (over x.state.core t) (given_by t (accesses_of xs)) xs) (sym (board-next s x.accesses))
    (subst (λ (y : Whole). AreSteps (board_of s) y (given_by t (accesses_of xs)) xs) (sym state) rest)

-- a run of the model is one over such a bus
pub runs-with-frames : (core : ArmState) (s : State) (text : List ℕ) (steps : List Stepped) → IsReady s → HasAll s.contents
    → AreSteps (board_of s) (over core s) (given_by s (accesses_of steps)) steps → Print s steps text → Back core s text steps
runs-with-frames core s text [] r all are print =
    (core, s, subst (λ (l : List ℕ). Leads core s 0 l core s) (sym print) stays, record { count = refl; steps_are = tt; print = print; state = refl; bus = refl })
runs-with-frames core s text (x ∷ xs) r all (one, counted, rest) (piece, more, on, others, e) =
    let t = next s x.accesses in
    let (made, state) = one-step core s x r all one in
    let step : IsStep core s x.event x.state.core t = record { first = x; step = made.step; ends = made.ends } in
    let (core', s', leads, run) = runs-with-frames x.state.core t more xs (ready-next s x.accesses r) (all-next s x.accesses all) (later core s x xs state rest) others in (
      core',
      s',
      subst (λ (l : List ℕ). Leads core s (suc (length xs)) l core' s') (sym e) (first-step core s (length xs) piece more x.event x.state.core core' t s' step on leads),
      record {
        count = refl;
        steps_are = (one, counted, rest);
        print = (piece, more, on, others, e);
        state = ap (λ (y : Whole). behind y xs) (sym state) ∙ run.state;
        bus = run.bus;
      },
    )

-- and its steps are those that the machine makes
pub made-with-frames : (core : ArmState) (s : State) (steps : List Stepped) → IsReady s → HasAll s.contents
    → AreSteps (board_of s) (over core s) (given_by s (accesses_of steps)) steps
    → (core' : ArmState) × (s' : State) × AreMade core s steps core' s'
    × (behind (over core s) steps ≡ over core' s') × (s' ≡ left_by s (accesses_of steps))
made-with-frames core s [] r all are = (core, s, (refl, refl), refl, refl)
made-with-frames core s (x ∷ xs) r all (one, counted, rest) =
    let t = next s x.accesses in
    let (step, state) = one-step core s x r all one in
    let (core', s', made, behind_is, left_is) = made-with-frames x.state.core t xs (ready-next s x.accesses r) (all-next s x.accesses all) (later core s x xs state rest) in
    (core', s', (x.event, x.state.core, t, step, made), ap (λ (y : Whole). behind y xs) (sym state) ∙ behind_is, left_is)
