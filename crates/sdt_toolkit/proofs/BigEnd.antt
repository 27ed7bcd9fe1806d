-- How a run over a bus ends that comes to a generated source's program: its steps are the defined ones, and a run is one.
use Rattle.std.proofs.Common.{◌≡◌, ℕ, zero, suc, ◌+◌, ◌*◌, ◌<◌, ◌≤◌, Bool, true, false, List, [], ◌∷◌, ◌++◌, length, refl, sym, ap, ◌∙◌, subst, arith, length-append, map}
use Rattle.std.proofs.lemmas.List.FromFn.{length-map-range_with_len}
use Rattle.std.specs.List.{AllByRecursion, range_with_len}
use Rattle.sdt_fault.specs.declared.answer.Stop.TheVariants as stop
use Rattle.sdt_word.specs.declared.codes.Width.TheVariants.{Word}
use Rattle.arm7_model.specs.declared.state.ArmState.{ArmState}
use Rattle.arm7_model.specs.declared.event.Event.{Event}
use Rattle.arm7_model.specs.declared.event.Event.TheVariants as event
use Rattle.arm7_model.specs.Accesses.{Access, Fetch}
use Rattle.arm7_model.specs.Memory.{Board, Bytes, in_memory}
use Rattle.arm7_model.specs.Outcomes.{Stepped}
use Rattle.arm7_model.specs.Registers.{State as Whole, register}
use Rattle.arm7_model.specs.Runs.{AreSteps, EachStep, Input, accesses_of, behind}
use Rattle.arm7_model.specs.Step.{Step}
use Rattle.arm7_bus.specs.Buses.{after_tick}
use Rattle.arm7_bus.specs.Seats.{lines_up}
use Rattle.arm7_bus.specs.States.{Contents, State}
use Rattle.arm7_transfers.specs.Boards.{board_of, over}
use Rattle.arm7_transfers.specs.Ready.{IsReady}
use Rattle.arm7_transfers.specs.Served.{answers_to}
use Rattle.arm7_core.specs.Machines.{IsStep, levels}
use Rattle.arm7_run.specs.Runs.{GoesOn, Runs}
use Rattle.run_laws.specs.Boards.{IsBoard}
use Rattle.run_laws.specs.Devices.{AreOffDevices, ticked_for, touches_of}
use Rattle.run_laws.specs.Laws.{BoardIsOne, BusRunIsOne, DevicesAreLeft, RunsAreBusRuns}
use Rattle.run_laws.specs.Silent.{AreQuiet}
use Rattle.run_laws.specs.Steps.{Print, StoresAreUsed, given_by, left_by}
use Rattle.run_laws.proofs.BusRuns.{board-left, next, one-step-back, ready-next}
use Rattle.big_model.specs.Words.{code_words, step_word}
use Rattle.big_run.specs.Runs.{AreFetches, BigRuns, HoldWords, IsBigRun, IsEntered}
use Rattle.sdt_toolkit.specs.BigEnds.{BigRunEnds}

-- ---- steps one behind the other

join : (board : Board) (w : Whole) (s : State) (xs ys : List Stepped) → AreSteps board w (given_by s (accesses_of xs)) xs
    → ((inputs : List Input) → AreSteps board (behind w xs) inputs ys) → AreSteps board w (given_by s (accesses_of (xs ++ ys))) (xs ++ ys)
join board w s [] ys h more = more (given_by s (accesses_of ys))
join board w s (x ∷ xs) ys (one, counted, h) more = (one, counted, join board x.state (next s x.accesses) xs ys h more)

behind-both : (w : Whole) (xs ys : List Stepped) → behind w (xs ++ ys) ≡ behind (behind w xs) ys
behind-both w [] ys = refl
behind-both w (x ∷ xs) ys = behind-both x.state xs ys

each-both : (P : List Access → Type 0) (xs ys : List Stepped) → EachStep P (accesses_of xs) → EachStep P (accesses_of ys) → EachStep P (accesses_of (xs ++ ys))
each-both P [] ys h more = more
each-both P (x ∷ xs) ys (one, h) more = (one, each-both P xs ys h more)

abbrev AreRan : List Stepped → Type 0
AreRan xs = AllByRecursion (λ x. x.event ≡ event.Ran) xs

ran-both : (xs ys : List Stepped) → AreRan xs → AreRan ys → AreRan (xs ++ ys)
ran-both [] ys h more = more
ran-both (x ∷ xs) ys (one, h) more = (one, ran-both xs ys h more)

print-none : (s : State) (xs : List Stepped) → AreRan xs → Print s xs []
print-none s [] h = refl
print-none s (x ∷ xs) (one, h) =
    let t = next s x.accesses in
    ([], [], subst (λ (d : Event). GoesOn d x.state.core t []) (sym one) refl, print-none t xs h, refl)

left-end : (s : State) (xs : List Stepped) (x : Stepped) → left_by s (accesses_of (xs ++ x ∷ [])) ≡ next (left_by s (accesses_of xs)) x.accesses
left-end s [] x = refl
left-end s (y ∷ ys) x = left-end (next s y.accesses) ys x

ready-left : (s : State) (xs : List (List Access)) → IsReady s → IsReady (left_by s xs)
ready-left s [] r = r
ready-left s (x ∷ xs) r = ready-left (next s x) xs (ready-next s x r)

count-of : (xs : List Stepped) → length (accesses_of xs) ≡ length xs
count-of [] = refl
count-of (x ∷ xs) = ap suc (count-of xs)

-- ---- fetches

fetches-ran : (a : ℕ) (xs : List Stepped) → AreFetches a xs → AreRan xs
fetches-ran a [] h = tt
fetches-ran a (x ∷ xs) (one, made, h) = (one, fetches-ran (a + 4) xs h)

fetch-used : (c : Contents) (x : Stepped) (a : ℕ) → x.accesses ≡ Fetch a Word ∷ [] → StoresAreUsed c x.accesses
fetch-used c x a e = subst (λ (l : List Access). StoresAreUsed c l) (sym e) tt

fetches-used : (c : Contents) (a : ℕ) (xs : List Stepped) → AreFetches a xs → EachStep (StoresAreUsed c) (accesses_of xs)
fetches-used c a [] h = tt
fetches-used c a (x ∷ xs) (one, made, h) = (fetch-used c x a made, fetches-used c (a + 4) xs h)

module _ (board : Board) (b : IsBoard board) (m : Bytes) where
  memory-off : (d e : Bool) → (d ≡ true → e ≡ false) → e ≡ true → d ≡ false
  memory-off true e h t = absurd (let bad = h refl in cc)
  memory-off false e h t = refl

  first-there : (a : ℕ) → in_memory board a 4 ≡ true → board.memory a ≡ true
  unfolding in_memory
  first-there a h = go (board.memory a) refl
    where
      go : (c : Bool) → board.memory a ≡ c → board.memory a ≡ true
      go true e = e
      go false e = absurd (let k = rw e at h in cc)

  fetch-off : (a : ℕ) (x : Stepped) → in_memory board a 4 ≡ true → x.accesses ≡ Fetch a Word ∷ [] → AreOffDevices board x.accesses
  fetch-off a x there e =
      subst (λ (l : List Access). AreOffDevices board l) (sym e) (memory-off (board.device a) (board.memory a) (b.apart a) (first-there a there), tt)

  word-there : (ws : List ℕ) (a k : ℕ) → HoldWords board m a ws → k < length ws → in_memory board (a + 4 * k) 4 ≡ true
  word-there [] a k h lt = absurd (omega arith)
  word-there (w ∷ ws) a zero h lt = let e : a + 4 * 0 ≡ a = omega arith in rw e h.0
  word-there (w ∷ ws) a (suc k) h lt =
      let e : a + 4 * suc k ≡ a + 4 + 4 * k = omega arith in rw e (word-there ws (a + 4) k h.2 (omega arith))

  fetches-off : (ws : List ℕ) (a : ℕ) (xs : List Stepped) → HoldWords board m a ws → length xs ≤ length ws → AreFetches a xs
      → EachStep (AreOffDevices board) (accesses_of xs)
  fetches-off ws a [] h few f = tt
  fetches-off [] a (x ∷ xs) h few f = absurd (omega arith)
  fetches-off (w ∷ ws) a (x ∷ xs) h few (one, made, f) = (fetch-off a x h.0 made, fetches-off ws (a + 4) xs h.2 (omega arith) f)

-- ---- the whole run

module _ (n a : ℕ) (core : ArmState) (s : State) (front : List Stepped) (r : IsReady s) (b : IsBoard (board_of s)) (q : AreQuiet core s front)
    (e : IsEntered n a (board_of s) (behind (over core s) front)) (steps : List Stepped) (last : Stepped)
    (run : IsBigRun n a (board_of s) (behind (over core s) front) steps last) where
  abbrev all : List Stepped
  all = front ++ steps

  abbrev memory : Bytes
  memory = (behind (over core s) front).memory

  words : length (code_words n) ≡ n + 3
  words = ap suc (length-append (map step_word (range_with_len 0 n)) (0xE1A00004 ∷ 0xEF000011 ∷ []) ∙ ap (λ (k : ℕ). k + 2) (length-map-range_with_len step_word 0 n)) ∙ omega arith

  all-ran : AreRan all
  all-ran = ran-both front steps q.ordinary (fetches-ran a steps run.fetches)

  all-used : EachStep (StoresAreUsed s.contents) (accesses_of all)
  all-used = each-both (StoresAreUsed s.contents) front steps q.used (fetches-used s.contents a steps run.fetches)

  steps-off : EachStep (AreOffDevices (board_of s)) (accesses_of steps)
  steps-off = let c = run.count in let w = words in fetches-off (board_of s) b memory (code_words n) a steps e.code (omega arith) run.fetches

  last-off : AreOffDevices (board_of s) last.accesses
  last-off = let w = words in fetch-off (board_of s) b memory (a + 4 * (n + 2)) last (word-there (board_of s) b memory (code_words n) a (n + 2) e.code (omega arith)) run.fetch

  ends-off : EachStep (AreOffDevices (board_of s)) (accesses_of (all ++ last ∷ []))
  ends-off = each-both (AreOffDevices (board_of s)) all (last ∷ []) (each-both (AreOffDevices (board_of s)) front steps q.off steps-off) (last-off, tt)

  count-all : length all ≡ length front + (n + 2)
  count-all = length-append front steps ∙ ap (λ (k : ℕ). length front + k) run.count

  -- the run that the machine makes
  abbrev Ended : ℕ → Type 0
  Ended most = (core' : ArmState) × (s' : State) × Runs most core s stop.Exit (length all + 1) [] core' s' × (core' ≡ last.state.core) × (s' ≡ left_by s (accesses_of (all ++ last ∷ [])))

  ended : RunsAreBusRuns → (most : ℕ) → length front + (n + 3) ≤ most → Ended most
  ended back most few =
      let given = join (board_of s) (over core s) s front steps q.are run.are in
      let (core1, s1, leads, is_run) = back core s [] all r given (print-none s all all-ran) all-used in
      let bus : s1 ≡ left_by s (accesses_of all) = is_run.bus in
      let board : board_of s1 ≡ board_of s = ap board_of bus ∙ board-left s (accesses_of all) in
      let ready : IsReady s1 = subst IsReady (sym bus) (ready-left s (accesses_of all) r) in
      let here : behind (behind (over core s) front) steps ≡ over core1 s1 = sym (behind-both (over core s) front steps) ∙ is_run.state in
      let own = step-here s1 core1 board here in
      let (made, state) = one-step-back core1 s1 last ready own (fetch-used s1.contents last (a + 4 * (n + 2)) run.fetch) in
      let step : IsStep core1 s1 last.event last.state.core (next s1 last.accesses) = record { first = last; step = made.step; ends = made.ends } in
      let exit : IsStep core1 s1 (event.Host 0x11) last.state.core (next s1 last.accesses) =
      subst (λ (x : Event). IsStep core1 s1 x last.state.core (next s1 last.accesses)) run.exit step in
      let few_all = count-all in (
        last.state.core,
        next s1 last.accesses,
        record { count = length all; core1 = core1; s1 = s1; leads = leads; ends = (omega arith, refl, exit) },
        refl,
        ap (λ (y : State). next y last.accesses) bus ∙ sym (left-end s all last),
      )
    where
      step-here : (s1 : State) (core1 : ArmState) → board_of s1 ≡ board_of s → behind (behind (over core s) front) steps ≡ over core1 s1
          → Step (board_of s1) (over core1 s1) (levels (lines_up (after_tick s1).devices)) (answers_to (after_tick s1) last.accesses) last
      step-here s1 core1 board here =
          let one = run.ends (levels (lines_up (after_tick s1).devices)) (answers_to (after_tick s1) last.accesses) in
          let at : Step (board_of s) (over core1 s1) (levels (lines_up (after_tick s1).devices)) (answers_to (after_tick s1) last.accesses) last =
          subst (λ (w : Whole). Step (board_of s) w (levels (lines_up (after_tick s1).devices)) (answers_to (after_tick s1) last.accesses) last) here one in
          subst (λ (d : Board). Step d (over core1 s1) (levels (lines_up (after_tick s1).devices)) (answers_to (after_tick s1) last.accesses) last) (sym board) at

pub big_run_ends : BigRuns → BoardIsOne → BusRunIsOne → DevicesAreLeft → RunsAreBusRuns → BigRunEnds
big_run_ends runs boards one left back n a most made core core' s s' front why text few r v q e enough h =
    let (steps, last, run) = runs n a (board_of s) (behind (over core s) front) few e in
    let b = boards s r in
    let (core2, s2, whole, core_is, bus_is) = ended n a core s front r b q e steps last run back most enough in
    let (why_is, made_is, text_is, same_core, same_bus) = one most core s why stop.Exit made (length (front ++ steps) + 1) text [] core' core2 s' s2 r v h whole in
    let (lines, devices, touches) = left s (accesses_of ((front ++ steps) ++ last ∷ [])) (ends-off n a core s front r b q e steps last run) in
    let bus : s' ≡ left_by s (accesses_of ((front ++ steps) ++ last ∷ [])) = same_bus ∙ bus_is in
    let count = count-all n a core s front r b q e steps last run in
    let total : length (accesses_of ((front ++ steps) ++ last ∷ [])) ≡ made =
    count-of ((front ++ steps) ++ last ∷ []) ∙ length-append (front ++ steps) (last ∷ []) ∙ sym made_is in
    record {
      exits = why_is;
      count = made_is ∙ ap (λ (k : ℕ). k + 1) count ∙ omega arith;
      unprinted = text_is;
      sum = ap (λ (c : ArmState). register c 4) (same_core ∙ core_is) ∙ run.sum;
      devices = ap (λ (y : State). y.devices) bus ∙ devices ∙ ap (λ (k : ℕ). ticked_for k s.devices) total;
      touches = ap (λ (y : State). touches_of y.devices) bus ∙ touches;
    }
