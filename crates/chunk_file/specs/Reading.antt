-- How the formats are read: a value, or the first check that fails; items one after the other, each
-- judged with those before it; and what a call answers by that. This project's.
use Rattle.std.specs.Prelude.{◌≡◌, ℕ, zero, suc, List, [], ◌∷◌, ◌++◌, Result, Ok, Err}
use Rattle.sdt_fault.specs.declared.answer.Fault.{Fault}
use Rattle.sdt_fault.specs.declared.answer.Fault.TheVariants as fault
use Rattle.sdt_fault.specs.declared.refusal.Refusal.{Refusal}

-- the next step, where the one before did not fail
infixl 10 ◌>>=◌
abbrev pub ◌>>=◌ : {A B : Type 0} → Result A Refusal → (A → Result B Refusal) → Result B Refusal
(Ok x) >>= f = f x
(Err e) >>= f = Err e

-- what a call answers is what reading gives, unless memory was refused
abbrev pub Gives : {A : Type 0} → Result A Fault → Result A Refusal → Type 0
Gives (Ok x) read = read ≡ Ok x
Gives (Err fault.NoMemory) read = Unit {0}
Gives (Err (fault.Refused r)) read = read ≡ Err r
Gives (Err (fault.ReadFault name)) read = ⊥

-- n more items behind those that were read, up to the first that fails
abbrev pub each : {A : Type 0} → (List A → Result A Refusal) → ℕ → List A → Result (List A) Refusal
each step zero before = Ok before
each step (suc n) before = step before >>= λ x. each step n (before ++ x ∷ [])

-- each item stands in the relation to the list of those before it
abbrev pub EachStands : {A : Type 0} → (List A → A → Type 0) → List A → List A → Type 0
EachStands stands before [] = Unit {0}
EachStands stands before (x ∷ xs) = stands before x × EachStands stands (before ++ x ∷ []) xs
