-- Runs of steps that hold whatever the lines are: they join, and each is a run by `After`. A predicate
-- on the accesses of each step goes along.
use Rattle.std.proofs.Common.{◌≡◌, ℕ, zero, suc, List, [], ◌∷◌, sym, subst}
use Rattle.arm7_model.specs.declared.event.Event.{Event}
use Rattle.arm7_model.specs.declared.event.Event.TheVariants as event
use Rattle.arm7_model.specs.Memory.{Board}
use Rattle.arm7_model.specs.Registers.{State}
use Rattle.arm7_model.specs.Accesses.{Access}
use Rattle.arm7_model.specs.Outcomes.{Stepped}
use Rattle.arm7_model.specs.Runs.{Input, After, EachStep, IsCounted, stays, goes, first_of_inputs, later_inputs}
use Rattle.arm7_model.proofs.Steps.{OneStep}

-- n ordinary steps lead from s to t, and the accesses of each keep P
pub data Leads (board : Board) (P : List Access → Type 0) : ℕ → State → State → Type 0 where
  here : {s : State} → Leads board P zero s s
  on : {s t : State} {n : ℕ} (first : Stepped) → OneStep board s first → first.event ≡ event.Ran → P first.accesses
      → Leads board P n first.state t → Leads board P (suc n) s t

pub counted : (e : Event) → e ≡ event.Ran → IsCounted e
counted e h = let P : Event → Type 0 = IsCounted in subst P (sym h) tt

-- the number of steps under another name
pub lasting : {board : Board} {P : List Access → Type 0} {n k : ℕ} {s t : State} → n ≡ k → Leads board P n s t → Leads board P k s t
lasting {board} {P} {s = s} {t = t} e run = let Run : ℕ → Type 0 = λ n. Leads board P n s t in subst Run e run

-- whatever the inputs are
pub after : {board : Board} {P : List Access → Type 0} {n : ℕ} {s t : State} → Leads board P n s t → (inputs : List Input)
    → (accesses : List (List Access)) × After board s n inputs accesses t × EachStep P accesses
after here inputs = ([], stays, tt)
after (on first one ran p rest) inputs =
    let (accesses, run, each) = after rest (later_inputs inputs) in
    (first.accesses ∷ accesses, goes first (one (first_of_inputs inputs).lines (first_of_inputs inputs).answers) (counted first.event ran) run, (p, each))
