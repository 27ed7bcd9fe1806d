-- Steps of the code that reads lines. This project's.
use Rattle.std.specs.Prelude.{◌≡◌, ℕ, ◌≤◌, ◌<◌, List, ◌∷◌, Option, Ok, Err, MatchBool}
use Rattle.sdt_fault.specs.declared.kinds.LineKind.TheVariants.{Syntax}
use Rattle.asm_model.specs.declared.lines.Line.{Line}
use Rattle.asm_model.specs.Kinds.{told_kind}
use Rattle.expand_model.specs.Known.{Operand, ReadsExpression}
use Rattle.expand_model.specs.States.{State}
use Rattle.expand_model.specs.Steps.{Sources, Depth, alone_kinds, file_kinds, got, judged, macro_called, said_text}
use Rattle.expand_model.specs.Steps as model
use Rattle.expand_model.specs.Substitution.{substituted}
use Rattle.expand_model.specs.Words.{Words, as_name, operand_text}
use Rattle.asm_variables.specs.declared.expansion.Definition.{Definition}
use Rattle.asm_variables.specs.declared.expansion.Expansion.{Expansion}
use Rattle.asm_expand.specs.declared.line_cursors.LineCursor.{LineCursor}
use Rattle.asm_expand.specs.declared.first_lines.Kind.{Kind}
use Rattle.asm_expand.specs.declared.first_lines.Kind.TheVariants as kind
use Rattle.asm_expand.specs.declared.steps.Next.{Next}
use Rattle.asm_expand.specs.declared.steps.Next.TheVariants as next
use Rattle.asm_variables.specs.Expanding.{Represents, macro_of, maybe_macro}
use Rattle.asm_expand.specs.LineCursors.{cursor_lines}
use Rattle.asm_expand.specs.Saying.{Shows}
use Rattle.asm_variables.specs.Valued.{Values}

abbrev pub kind_shown : Kind → model.Kind
kind_shown (kind.Worded o) = model.Worded o
kind_shown (kind.Called d) = model.Called (macro_of d)
kind_shown kind.Plain = model.Plain

abbrev pub IsCalled : Expansion → List ℕ → Option Definition → Type 0
IsCalled c word called = Values c (λ s. maybe_macro called ≡ macro_called (as_name word) s.macros)

abbrev pub IsKind : Expansion → Words → Kind → Type 0
IsKind c w k = Values c (λ s. kind_shown k ≡ model.kind_of s.macros w)

-- the operand of a line of this kind with this operation
abbrev pub TakesOperand : model.Kind → List ℕ → List ℕ → Operand → Type 0
TakesOperand k word text x = MatchBool (model.takes_expression k word) (ReadsExpression text x) (x ≡ Err Syntax)

-- what a line with these words says
abbrev pub said_by : Sources → Depth → Line → List ℕ → Words → Operand → State → List Line → model.Kind → model.Next
said_by sources d l text w x s ls (model.Worded o) = model.said_word sources d l w x s ls o
said_by sources d l text w x s ls (model.Called m) = model.call d l w s ls m
said_by sources d l text w x s ls model.Plain = model.plain_line l text w x s ls

-- what a GET says
abbrev pub SaysGet : LineCursor → Depth → Words → Next → Type 0
SaysGet at d w n =
    (sources : Sources) (c : Expansion) (s : State) (l : Line) (ls : List Line) → cursor_lines at ≡ l ∷ ls → Represents c s
    → Shows sources c n (judged l (told_kind (file_kinds d w)) (got (operand_text w.behind) s ls (sources (operand_text w.behind))))

-- what a word says that stands alone
abbrev pub SaysAlone : LineCursor → Words → Next → (State → Line → List Line → model.Next) → Type 0
SaysAlone at w n f =
    (sources : Sources) (c : Expansion) (s : State) (l : Line) (ls : List Line) → cursor_lines at ≡ l ∷ ls → Represents c s
    → Shows sources c n (judged l (told_kind (alone_kinds w)) (f s l ls))

-- what the first line says, with this text and some operand that it has
abbrev pub ReadsText : LineCursor → List ℕ → Depth → Expansion → Expansion → Next → Type 0
ReadsText at text d old new n =
    (sources : Sources) (s : State) (l : Line) (ls : List Line) → cursor_lines at ≡ l ∷ ls → Represents old s
    → (x : Operand) × model.ReadsText s.macros (Ok text) x × Shows sources new n (said_text sources d l x s ls (Ok text))

-- a text that substitution leaves as it is
abbrev pub Stays : List ℕ → Type 0
Stays text = (s : State) → substituted s text ≡ Ok text

-- the same of a line with this text before substitution
abbrev pub ReadsLine : LineCursor → List ℕ → Depth → Expansion → Expansion → Next → Type 0
ReadsLine at text d old new n =
    (sources : Sources) (s : State) (l : Line) (ls : List Line) → cursor_lines at ≡ l ∷ ls → Represents old s
    → (x : Operand) × model.ReadsText s.macros (substituted s text) x
    × Shows sources new n (said_text sources d l x s ls (substituted s text))

-- what the first line says, with some operand that it has
abbrev pub Reads : LineCursor → Depth → Expansion → Expansion → Next → Type 0
Reads at d old new n =
    (sources : Sources) (s : State) → Represents old s
    → (x : Operand) × model.Reads s (cursor_lines at) x × Shows sources new n (model.first_line sources d s (cursor_lines at) x)

-- a line that is read is visited
abbrev pub IsRead : Next → ℕ → ℕ → Type 0
IsRead (next.Stop e) old new = new ≤ old
IsRead (next.Bad p k) old new = new ≤ old
IsRead _ old new = new < old
