-- Lines without dollars.
use Rattle.std.proofs.Common.{◌≡◌, ℕ, ◌-◌, ◌==◌, ◌||◌, Bool, true, false, List, [], ◌∷◌, ◌++◌, refl, zero, suc, Option}
use Rattle.std.specs.List.{list_any}
use Rattle.std.specs.Prelude.{Result, Ok}
use Rattle.sdt_fault.specs.declared.kinds.LineKind.{LineKind}
use Rattle.asm_model.specs.Readings.{mapped}
use Rattle.expand_model.specs.declared.standing.Standing.{Standing}
use Rattle.expand_model.specs.declared.standing.Standing.TheVariants.{Open}
use Rattle.expand_model.specs.Standing.{standing, standing_from, begun_at}
use Rattle.expand_model.specs.States.{State, text_named}
use Rattle.expand_model.specs.Substitution.{substituted_from, substituted}

no_first : (a b : Bool) → (a || b) ≡ false → (a ≡ false) × (b ≡ false)
no_first false b e = (refl, e)
no_first true b e = absurd (cc)

put_one : (c : ℕ) (cs : List ℕ) (r : Result (List ℕ) LineKind) → r ≡ Ok cs → mapped (λ t. (c ∷ []) ++ t) r ≡ Ok (c ∷ cs)
put_one c cs r e = rw e refl

-- bytes without dollars become themselves
without_dollar : (texts : List ℕ → Option (List ℕ)) (st : Standing) (n : ℕ) (cs : List ℕ) → list_any (λ c. c == 36) cs ≡ false
    → substituted_from texts 0 (standing_from st n cs) ≡ Ok cs
without_dollar texts st n [] e = refl
without_dollar texts st zero (c ∷ cs) e =
    let parts = no_first (c == 36) (list_any (λ d. d == 36) cs) e in
    rw parts.0 (put_one c cs _ (without_dollar texts (begun_at c cs).0 ((begun_at c cs).1 - 1) cs parts.1))
without_dollar texts st (suc n) (c ∷ cs) e =
    let parts = no_first (c == 36) (list_any (λ d. d == 36) cs) e in
    rw parts.0 (put_one c cs _ (without_dollar texts st n cs parts.1))

pub without_dollar_line : (s : State) (text : List ℕ) → list_any (λ c. c == 36) text ≡ false → substituted s text ≡ Ok text
unfolding substituted standing
without_dollar_line s text e = without_dollar (text_named s) Open 0 text e
