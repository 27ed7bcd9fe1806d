-- Lines that are skipped are visited.
use Rattle.std.proofs.Common.{◌≡◌, ℕ, zero, suc, ◌<◌, List, [], ◌∷◌, arith}
use Rattle.asm_model.specs.declared.lines.Line.{Line}
use Rattle.expand_model.specs.declared.operations.Opening.{Opening}
use Rattle.expand_model.specs.Pairing.{OpeningAfter, Stays, Closes, Turns, Unpaired, Turned, skipped, skipped_line, behind_line, raw_operation}

behind : (n : ℕ) (l : Line) (ls : List Line) (m : ℕ) (rest : List Line) (b : OpeningAfter)
    → ((p : Opening) (ps : List Opening) → skipped p ps n ls ≡ Turned m rest → m < n)
    → skipped_line b l n ls (λ p ps. skipped p ps n ls) ≡ Turned m rest → m < suc n
behind n l ls m rest (Stays p ps) later h = let r = later p ps h in omega arith
behind n l ls m rest Closes later h = absurd (cc)
behind n l ls m rest Turns later h = let e : n ≡ m = cc in omega arith
behind n l ls m rest Unpaired later h = absurd (cc)

-- an ELSE is one of the lines that are passed
pub turned_fewer : (o : Opening) (os : List Opening) (n : ℕ) (ls : List Line) (m : ℕ) (rest : List Line) → skipped o os n ls ≡ Turned m rest → m < n
unfolding skipped
turned_fewer o os n [] m rest h = absurd (cc)
turned_fewer o os zero (l ∷ ls) m rest h = absurd (cc)
turned_fewer o os (suc n) (l ∷ ls) m rest h =
    behind n l ls m rest (behind_line o os (raw_operation l)) (λ p ps k. turned_fewer p ps n ls m rest k) h
