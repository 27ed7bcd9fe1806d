-- The startup's steps over an opened bus: no device is touched, nothing printed, and each store is in a used page.
use Rattle.std.proofs.Common.{◌≡◌, ℕ, zero, suc, ◌+◌, ◌<◌, ◌≤◌, Bool, true, false, cond, List, [], ◌∷◌, length, take, Some, refl, sym, ap, ◌∙◌, subst, arith, inl, inr}
use Rattle.sdt_word.specs.declared.codes.Width.{Width}
use Rattle.sdt_word.specs.declared.codes.Width.TheVariants as width
use Rattle.sdt_word.specs.Codes.{bytes_in}
use Rattle.arm7_model.specs.declared.state.ArmState.{ArmState}
use Rattle.arm7_model.specs.declared.event.Event.{Event}
use Rattle.arm7_model.specs.declared.event.Event.TheVariants as event
use Rattle.arm7_model.specs.Accesses.{Access, Fetch, Load, Store}
use Rattle.arm7_model.specs.Memory.{Board}
use Rattle.arm7_model.specs.Outcomes.{Stepped}
use Rattle.arm7_model.specs.Registers.{State as Whole}
use Rattle.arm7_model.specs.Runs.{AreSteps, EachStep, Input, accesses_of, behind}
use Rattle.arm7_bus.specs.Buses.{after_tick}
use Rattle.arm7_bus.specs.Paging.{page_used_in}
use Rattle.arm7_bus.specs.States.{State, bank_has}
use Rattle.arm7_core.specs.Resets.{IsReset}
use Rattle.arm7_run.specs.Runs.{GoesOn}
use Rattle.arm7_transfers.specs.Boards.{board_of, over}
use Rattle.arm7_transfers.specs.Frames.{stored_to}
use Rattle.arm7_transfers.specs.Served.{served}
use Rattle.boot_code.specs.Boots.{AreOrdinary, BootSteps, BootsIn, InRanges}
use Rattle.boot_code.specs.Safety.{AreSafe, IsSafe, IsSafeAccess, Lies}
use Rattle.run_laws.specs.Devices.{AreOffDevices, address, lines_for}
use Rattle.run_laws.specs.Steps.{AreMade, AreUsed, Print, StoresAreUsed, given_by, left_by}
use Rattle.run_laws.proofs.Boards.{board-is-one}
use Rattle.run_laws.proofs.BusFrames.{made-with-frames, runs-with-frames}
use Rattle.run_laws.proofs.BusRuns.{Back, runs-are-bus-runs}
use Rattle.run_laws.proofs.MadeSteps.{steps-are-made}
use Rattle.run_laws.proofs.Devices.{devices-are-left}
use Rattle.sdt_toolkit.specs.RunImages.{is_needed}
use Rattle.sdt_toolkit.specs.Runs.{AreStartup, Booting, CanBoot}
use Rattle.sdt_toolkit.proofs.RunNeeds.{needed_page}
use Rattle.sdt_toolkit.proofs.RunOpened.{IsOpened, IsViewed, bank_there, can_start, ready, view_there}

-- ---- beginnings of lists of steps

pub each_taken : (P : List Access → Type 0) (k : ℕ) (xs : List Stepped) → EachStep P (accesses_of xs) → EachStep P (accesses_of (take k xs))
each_taken P zero xs h = tt
each_taken P (suc k) [] h = tt
each_taken P (suc k) (x ∷ xs) (one, h) = (one, each_taken P k xs h)

pub ordinary_taken : (k : ℕ) (xs : List Stepped) → AreOrdinary xs → AreOrdinary (take k xs)
ordinary_taken zero xs h = tt
ordinary_taken (suc k) [] h = tt
ordinary_taken (suc k) (x ∷ xs) (one, h) = (one, ordinary_taken k xs h)

pub steps_taken : (board : Board) (w : Whole) (s : State) (k : ℕ) (xs : List Stepped) → AreSteps board w (given_by s (accesses_of xs)) xs
    → AreSteps board w (given_by s (accesses_of (take k xs))) (take k xs)
steps_taken board w s zero xs h = tt
steps_taken board w s (suc k) [] h = tt
steps_taken board w s (suc k) (x ∷ xs) (one, counts, h) = (one, counts, steps_taken board x.state (served (after_tick s) x.accesses) k xs h)

pub length_taken : (k : ℕ) (xs : List Stepped) → k ≤ length xs → length (take k xs) ≡ k
length_taken zero xs h = refl
length_taken (suc k) [] h = absurd (omega arith)
length_taken (suc k) (x ∷ xs) h = let same = length_taken k xs (omega arith) in omega arith

-- ---- ordinary steps print nothing

goes_on : (e : Event) (core : ArmState) (s : State) → e ≡ event.Ran → GoesOn e core s []
goes_on e core s h = subst (λ (d : Event). GoesOn d core s []) (sym h) refl

pub print_none : (s : State) (xs : List Stepped) → AreOrdinary xs → Print s xs []
print_none s [] h = refl
print_none s (x ∷ xs) (one, h) =
    let t = served (after_tick s) x.accesses in
    ([], [], goes_on x.event x.state.core t one, print_none t xs h, refl)

-- ---- accesses

some_bytes : (w : Width) → 0 < bytes_in w
some_bytes width.Byte = omega arith
some_bytes width.Half = omega arith
some_bytes width.Word = omega arith

first_lies : (Allowed : ℕ → Type 0) (a : ℕ) (w : Width) → Lies Allowed a (bytes_in w) → Allowed a
first_lies Allowed a w h = let start : a + 0 ≡ a = omega arith in subst Allowed start (h 0 (some_bytes w))

address_lies : (Allowed : ℕ → Type 0) (f : ℕ) (x : Access) → IsSafeAccess Allowed f x → Allowed (address x)
address_lies Allowed f (Fetch a w) h = first_lies Allowed a w h
address_lies Allowed f (Load a w) h = first_lies Allowed a w h
address_lies Allowed f (Store a w v) h = first_lies Allowed a w h.0

same_length : (xs : List Stepped) → length (accesses_of xs) ≡ length xs
same_length [] = refl
same_length (x ∷ xs) = ap suc (same_length xs)

not_device : (b : Bool) (m : Bool) → (b ≡ true → m ≡ false) → m ≡ true → b ≡ false
not_device true m h e = absurd (let bad : true ≡ false = sym e ∙ h refl in cc)
not_device false m h e = refl

module _ {b : Booting} {s : State} (o : IsOpened b s) (can : CanBoot b) where
  abbrev pub Allowed : ℕ → Type 0
  Allowed = InRanges b.files b.view

  there : (x : ℕ) → Allowed x → (board_of s).memory x ≡ true
  there x (inl (v, e)) = bank_there o x (can.needed x v e)
  there x (inr (v, e)) = view_there o x v e

  off_device : (x : ℕ) → Allowed x → (board_of s).device x ≡ false
  off_device x h = not_device ((board_of s).device x) ((board_of s).memory x) ((board-is-one s (ready o)).apart x) (there x h)

  off : (f : ℕ) (xs : List Access) → AreSafe Allowed f xs → AreOffDevices (board_of s) xs
  off f [] h = tt
  off f (x ∷ xs) (one, h) = (off_device (address x) (address_lies Allowed f x one), off f xs h)

  step_off : (xs : List Access) → IsSafe Allowed xs → AreOffDevices (board_of s) xs
  step_off [] h = tt
  step_off (Fetch f w ∷ xs) h = off f (Fetch f w ∷ xs) h
  step_off (Load a w ∷ xs) h = absurd h
  step_off (Store a w v ∷ xs) h = absurd h

  each_off : (xs : List (List Access)) → EachStep (IsSafe Allowed) xs → EachStep (AreOffDevices (board_of s)) xs
  each_off [] h = tt
  each_off (x ∷ xs) (one, h) = (step_off x one, each_off xs h)

  -- where the image uses the view's pages, stores lie in used pages
  module _ (ranged : (x v : ℕ) → b.view x ≡ Some v → is_needed b.run.needs x ≡ true) where
    in_needed : (x : ℕ) → Allowed x → is_needed b.run.needs x ≡ true
    in_needed x (inl (v, e)) = can.needed x v e
    in_needed x (inr (v, e)) = ranged x v e

    used : (f : ℕ) (xs : List Access) → AreSafe Allowed f xs → StoresAreUsed s.contents xs
    used f [] h = tt
    used f (Fetch a w ∷ xs) (one, h) = used f xs h
    used f (Load a w ∷ xs) (one, h) = used f xs h
    used f (Store a w v ∷ xs) (one, h) =
        go (bank_has s.contents.banks a (bytes_in w)) (used f xs h)
        (needed_page s.contents.banks b.run.needs o.roomy.room s.contents.used a o.used (in_needed a (first_lies Allowed a w one.0)))
      where
        go : (c : Bool) → StoresAreUsed s.contents xs → page_used_in s.contents.used a ≡ true
            → AreUsed s.contents.used (cond c (a ∷ stored_to s.contents.banks xs) (stored_to s.contents.banks xs))
        go true rest page = (page, rest)
        go false rest page = rest

    step_used : (xs : List Access) → IsSafe Allowed xs → StoresAreUsed s.contents xs
    step_used [] h = tt
    step_used (Fetch f w ∷ xs) h = used f (Fetch f w ∷ xs) h
    step_used (Load a w ∷ xs) h = absurd h
    step_used (Store a w v ∷ xs) h = absurd h

    pub each_used : (xs : List (List Access)) → EachStep (IsSafe Allowed) xs → EachStep (StoresAreUsed s.contents) xs
    each_used [] h = tt
    each_used (x ∷ xs) (one, h) = (step_used x one, each_used xs h)

  -- the steps, and what a run needs of them
  pub record IsStartup (core : ArmState) (steps : List Stepped) : Type 0 where
    pub are : AreStartup b core s steps
    pub given : AreSteps (board_of s) (over core s) (given_by s (accesses_of steps)) steps

  -- as many steps as lead to the entry, with what a run needs of them
  pub exact_startup : (core : ArmState) (n : ℕ) → n ≤ b.bound → BootsIn n b.files b.view b.entry (board_of s) (over core s)
      → (steps : List Stepped) × (length steps ≡ n) × IsStartup core steps
  exact_startup core n few booted =
      let (steps, p) = booted (lines_for n s.devices) in
      let boot : BootSteps (length steps) b.files b.view b.entry (board_of s) (over core s) (lines_for (length steps) s.devices) steps =
      subst (λ (k : ℕ). BootSteps k b.files b.view b.entry (board_of s) (over core s) (lines_for k s.devices) steps) (sym p.count) p in
      let offs = each_off (accesses_of steps) p.booted.safe in
      let (lines, left, touches) = devices-are-left s (accesses_of steps) offs in (
        steps,
        p.count,
        record {
          are = record { few = subst (λ (k : ℕ). k ≤ b.bound) (sym p.count) few; boot = boot; off = offs };
          given = subst (λ (is : List Input). AreSteps (board_of s) (over core s) is steps)
              (sym (lines ∙ ap (λ (k : ℕ). lines_for k s.devices) (same_length steps))) boot.are;
        },
      )

  pub startup : (core : ArmState) → IsReset b.run.start false core → (steps : List Stepped) × IsStartup core steps
  startup core reset =
      let (n, few, booted) = can.boots (board_of s) (over core s) (can_start o can core reset) in
      let (steps, count, is) = exact_startup core n few booted in (steps, is)

  -- steps that lie in the ranges are made, and those that print nothing go on
  pub goes_back : (core : ArmState) (xs : List Stepped) → AreSteps (board_of s) (over core s) (given_by s (accesses_of xs)) xs → Print s xs []
      → EachStep (IsSafe Allowed) (accesses_of xs) → Back core s [] xs
  goes_back core xs given print safe = go o.viewed
    where
      go : IsViewed b s → Back core s [] xs
      go (inl ranged) = runs-are-bus-runs core s [] xs (ready o) given print (each_used ranged (accesses_of xs) safe)
      go (inr t) = runs-with-frames core s [] xs (ready o) t.all given print

  abbrev pub AreLed : ArmState → List Stepped → Type 0
  AreLed core xs =
      (core' : ArmState) × (s' : State) × AreMade core s xs core' s'
      × (behind (over core s) xs ≡ over core' s') × (s' ≡ left_by s (accesses_of xs))

  pub are_led : (core : ArmState) (xs : List Stepped) → AreSteps (board_of s) (over core s) (given_by s (accesses_of xs)) xs
      → EachStep (IsSafe Allowed) (accesses_of xs) → AreLed core xs
  are_led core xs given safe = go o.viewed
    where
      go : IsViewed b s → AreLed core xs
      go (inl ranged) = steps-are-made core s xs (ready o) given (each_used ranged (accesses_of xs) safe)
      go (inr t) = made-with-frames core s xs (ready o) t.all given
