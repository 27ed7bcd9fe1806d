-- Steps of the code behind lines that ended. This project's.
use Rattle.std.specs.Prelude.{◌≡◌, List, ◌∷◌, Bool, true, false, Option, Some}
use Rattle.asm_model.specs.declared.lines.Line.{Line}
use Rattle.expand_model.specs.declared.operations.Operation.{Operation}
use Rattle.expand_model.specs.declared.operations.Operation.TheVariants.{While}
use Rattle.expand_model.specs.States.{State, with_scope}
use Rattle.expand_model.specs.States as states
use Rattle.expand_model.specs.Steps.{Sources, Context}
use Rattle.expand_model.specs.Steps as model
use Rattle.expand_model.specs.Substitution.{substituted}
use Rattle.asm_variables.specs.declared.expansion.Expansion.{Expansion}
use Rattle.asm_variables.specs.declared.expansion.Scope.{Scope}
use Rattle.asm_expand.specs.declared.line_cursors.LineCursor.{LineCursor}
use Rattle.asm_expand.specs.declared.steps.End.{End}
use Rattle.asm_expand.specs.declared.steps.Frame.{Frame}
use Rattle.asm_expand.specs.declared.steps.Next.{Next}
use Rattle.asm_variables.specs.Expanding.{HasScope, Represents}
use Rattle.asm_expand.specs.LineCursors.{cursor_lines}
use Rattle.asm_expand.specs.Saying.{IsEnd, IsFirst, IsFrame, Shows}

-- what follows the lines of a construct that a word closes
abbrev pub Closes : LineCursor → Operation → LineCursor → Expansion → Expansion → Next → (Line → model.End → model.Next) → Type 0
Closes at o word old new n f =
    (sources : Sources) (l m : Line) (s : State) (rest : List Line)
    → IsFirst at l → cursor_lines word ≡ m ∷ rest → Represents old s
    → Shows sources new n (f l (model.Closed o m s rest))

-- what follows the lines of a construct
abbrev pub Answers : LineCursor → End → Expansion → Expansion → Next → (Line → model.End → model.Next) → Type 0
Answers at end old new n f =
    (sources : Sources) (l : Line) (e : model.End) → IsFirst at l → IsEnd old end e → Shows sources new n (f l e)

abbrev pub names_while : Option Operation → Bool
names_while (Some While) = true
names_while _ = false

abbrev pub IsWhile : Expansion → Line → Bool → Type 0
IsWhile c l holds = (s : State) → Represents c s → holds ≡ model.is_while (substituted s l.text)

abbrev pub Repeats : LineCursor → LineCursor → Expansion → Next → Type 0
Repeats at word c n =
    (sources : Sources) (l m : Line) (ls rest : List Line) (s : State)
    → cursor_lines at ≡ l ∷ ls → cursor_lines word ≡ m ∷ rest → Represents c s
    → Shows sources c n (model.again l ls m s)

abbrev pub ClosesLoop : LineCursor → Operation → LineCursor → Expansion → Next → Type 0
ClosesLoop at o word c n =
    (sources : Sources) (l m : Line) (ls rest : List Line) (s : State)
    → cursor_lines at ≡ l ∷ ls → cursor_lines word ≡ m ∷ rest → Represents c s
    → Shows sources c n (model.behind_turn l ls (model.Closed o m s rest))

abbrev pub TurnsLoop : LineCursor → End → Expansion → Next → Type 0
TurnsLoop at end c n =
    (sources : Sources) (l : Line) (ls : List Line) (e : model.End) → cursor_lines at ≡ l ∷ ls → IsEnd c end e
    → Shows sources c n (model.behind_turn l ls e)

-- the call that was open around is open again
abbrev pub Leaves : Scope → Expansion → Expansion → Type 0
Leaves c old new =
    (scope : Option states.Scope) (s : State) → HasScope c scope → Represents old s → Represents new (with_scope scope s)

-- what follows the body of a macro
abbrev pub Returns : Scope → LineCursor → End → Expansion → Expansion → Next → Type 0
Returns c behind end old new n =
    (sources : Sources) (scope : Option states.Scope) (e : model.End) → HasScope c scope → IsEnd old end e
    → Shows sources new n (model.behind_call scope (cursor_lines behind) e)

-- what follows a file
abbrev pub Resumes : LineCursor → End → Expansion → Next → Type 0
Resumes behind end c n =
    (sources : Sources) (e : model.End) → IsEnd c end e → Shows sources c n (model.behind_file (cursor_lines behind) e)

abbrev pub Turns : Frame → End → Expansion → Expansion → Next → Type 0
Turns frame end old new n =
    (sources : Sources) (context : Context) (e : model.End) → IsFrame frame context → IsEnd old end e
    → Shows sources new n (model.turn context e)
