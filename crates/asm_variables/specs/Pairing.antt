-- Steps of the code that pairs lines. This project's.
use Rattle.std.specs.Prelude.{◌≡◌, ℕ, ◌+◌, ◌-◌, List, [], ◌∷◌, take, drop, reverse}
use Rattle.sdt_fault.specs.declared.kinds.LineKind.TheVariants.{Nesting}
use Rattle.asm_model.specs.declared.lines.Line.{Line}
use Rattle.expand_model.specs.declared.operations.Opening.{Opening}
use Rattle.expand_model.specs.declared.operations.Operation.{Operation}
use Rattle.expand_model.specs.Pairing as model
use Rattle.asm_variables.specs.declared.pairing.OpeningAfter.{OpeningAfter}
use Rattle.asm_variables.specs.declared.pairing.OpeningAfter.TheVariants as behind
use Rattle.asm_variables.specs.declared.pairing.Effect.{Effect}
use Rattle.asm_variables.specs.declared.pairing.Effect.TheVariants as effect
use Rattle.asm_variables.specs.declared.pairing.BodyPart.{BodyPart}
use Rattle.asm_variables.specs.declared.pairing.BodyPart.TheVariants as inside
use Rattle.asm_variables.specs.declared.pairing.Skipping.{Skipping}
use Rattle.asm_variables.specs.declared.pairing.Skipping.TheVariants as skipping
use Rattle.asm_variables.specs.declared.pairing.Taking.{Taking}
use Rattle.asm_variables.specs.declared.pairing.Taking.TheVariants as taking

-- what is open behind a word with this effect
abbrev pub applied : Effect → Opening → List Opening → model.OpeningAfter
applied effect.Nothing o os = model.Stays o os
applied (effect.Opens p) o os = model.Stays p (o ∷ os)
applied effect.Turns o os = model.turned os
applied effect.Closes o os = model.closed os
applied effect.Unpaired o os = model.Unpaired

-- a word has this effect on the innermost opening
abbrev pub HasEffect : Effect → Opening → Operation → Type 0
HasEffect e o w = (os : List Opening) → model.behind_word o os w ≡ applied e o os

-- what a step gives, and what it leaves open
abbrev pub behind_shown : OpeningAfter → Opening → List Opening → model.OpeningAfter
behind_shown behind.Stays o os = model.Stays o os
behind_shown behind.Turns o os = model.Turns
behind_shown behind.Closes o os = model.Closes
behind_shown behind.Unpaired o os = model.Unpaired

-- the line with this number
abbrev pub IsAt : List Line → ℕ → Line → Type 0
IsAt ls k l = (rest : List Line) × (drop k ls ≡ l ∷ rest)

-- where lines that are skipped end, of which so many may be visited
abbrev pub Shows : Skipping → ℕ → List Line → model.Skipped → Type 0
Shows (skipping.Closed k) n ls s = s ≡ model.Closed (n - k) (drop k ls)
Shows (skipping.Turned k) n ls s = s ≡ model.Turned (n - k) (drop k ls)
Shows (skipping.Faulty k kind) n ls s = (l : Line) × IsAt ls k l × (s ≡ model.Faulty l kind)
Shows skipping.Endless n ls s = s ≡ model.Endless

-- where a body's lines end, of which so many may be visited
abbrev pub ShowsTaken : Taking → ℕ → List Line → model.Taken → Type 0
ShowsTaken (taking.Whole k) n ls t = t ≡ model.Whole (take k ls) (n - (k + 1)) (drop (k + 1) ls)
ShowsTaken (taking.Bad k kind) n ls t = (l : Line) × IsAt ls k l × (t ≡ model.Bad l kind)
ShowsTaken taking.Open n ls t = t ≡ model.Open

-- what a line inside a definition makes of the lines behind it
abbrev pub inside_shown : BodyPart → Line → ℕ → List Line → model.Taken → model.Taken
inside_shown inside.Stays l n ls rest = model.with_line l rest
inside_shown inside.Ends l n ls rest = model.Whole [] n ls
inside_shown inside.Nested l n ls rest = model.Bad l Nesting

-- an effect leaves this open, where openings are listed with the innermost last
abbrev pub Puts : Effect → Opening → List Opening → Opening → List Opening → OpeningAfter → Type 0
Puts e o os p ps b = applied e o (reverse os) ≡ behind_shown b p (reverse ps)

-- a line leaves this open
abbrev pub Passes : Line → Opening → List Opening → Opening → List Opening → OpeningAfter → Type 0
Passes l o os p ps b = model.behind_line o (reverse os) (model.raw_operation l) ≡ behind_shown b p (reverse ps)

-- what a line is inside a definition
abbrev pub IsBodyPart : BodyPart → Line → Type 0
IsBodyPart part line =
    (l : Line) (n : ℕ) (ls : List Line) (rest : model.Taken)
    → model.taken_line (model.raw_operation line) l n ls rest ≡ inside_shown part l n ls rest
