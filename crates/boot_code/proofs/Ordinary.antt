-- Runs that hold whatever the lines are, as lists of ordinary steps.
use Rattle.std.proofs.Common.{◌≡◌, ℕ, suc, List, [], ◌∷◌, length, refl, sym, ap, subst}
use Rattle.arm7_model.specs.Memory.{Board}
use Rattle.arm7_model.specs.Registers.{State}
use Rattle.arm7_model.specs.Accesses.{Access}
use Rattle.arm7_model.specs.Outcomes.{Stepped}
use Rattle.arm7_model.specs.Runs.{Input, AreSteps, EachStep, accesses_of, behind, first_of_inputs, later_inputs}
use Rattle.arm7_model.proofs.Leading.{Leads, here, on, counted}
use Rattle.boot_code.specs.Boots.{ByteMap, InRanges, AreOrdinary, BootSteps, HasBooted}
use Rattle.boot_code.specs.Safety.{IsSafe}
use Rattle.boot_code.specs.Startup.{AreMasked}

record Steps (board : Board) (P : List Access → Type 0) (n : ℕ) (s t : State) (inputs : List Input) (steps : List Stepped) : Type 0 where
  pub are : AreSteps board s inputs steps
  pub ordinary : AreOrdinary steps
  pub count : length steps ≡ n
  pub end : behind s steps ≡ t
  pub each : EachStep P (accesses_of steps)

steps_of : {board : Board} {P : List Access → Type 0} {n : ℕ} {s t : State} → Leads board P n s t → (inputs : List Input)
    → (steps : List Stepped) × Steps board P n s t inputs steps
steps_of here inputs = ([], record { are = tt; ordinary = tt; count = refl; end = refl; each = tt })
steps_of (on first one ran p rest) inputs =
    let (steps, r) = steps_of rest (later_inputs inputs) in (
      first ∷ steps,
      record {
        are = (one (first_of_inputs inputs).lines (first_of_inputs inputs).answers, counted first.event ran, r.are);
        ordinary = (ran, r.ordinary);
        count = ap suc r.count;
        end = r.end;
        each = (p, r.each);
      },
    )

-- what such a run has done, whatever the inputs are
pub booted_by : {files view : ByteMap} {entry n : ℕ} {board : Board} {s t : State} → Leads board (IsSafe (InRanges files view)) n s t
    → AreMasked t → ((accesses : List (List Access)) → EachStep (IsSafe (InRanges files view)) accesses → HasBooted files view entry s t accesses)
    → (inputs : List Input) → (steps : List Stepped) × BootSteps n files view entry board s inputs steps
booted_by {files} {view} {entry} {s = s} run masked booted inputs =
    let (steps, r) = steps_of run inputs in (
      steps,
      record {
        are = r.are;
        ordinary = r.ordinary;
        count = r.count;
        booted = subst (λ (y : State). HasBooted files view entry s y (accesses_of steps)) (sym r.end) (booted (accesses_of steps) r.each);
        masked = subst AreMasked (sym r.end) masked;
      },
    )
