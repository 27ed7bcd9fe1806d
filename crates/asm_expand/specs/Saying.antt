-- What the code has of contexts and ends, and what it says of lines. This project's.
use Rattle.std.specs.Prelude.{◌≡◌, ℕ, ◌+◌, ◌<◌, ◌≤◌, List, [], ◌∷◌, length, Option, Some, None, Result, Ok, Err}
use Rattle.sdt_fault.specs.declared.kinds.LineKind.{LineKind}
use Rattle.asm_model.specs.declared.lines.Line.{Line}
use Rattle.asm_model.specs.Kinds.{earlier}
use Rattle.expand_model.specs.declared.operations.Opening.{Opening}
use Rattle.expand_model.specs.Pairing.{skipped}
use Rattle.expand_model.specs.States.{State}
use Rattle.expand_model.specs.Steps.{Sources, Context, Condition, Alternative, Loop, Call, File, Over, Closed, Left, Ended, Cut, Unclosed, Bad, Stop, Go, Under, got, behind_skipped}
use Rattle.expand_model.specs.Steps as model
use Rattle.asm_variables.specs.declared.expansion.Expansion.{Expansion}
use Rattle.asm_expand.specs.declared.line_cursors.LineCursor.{LineCursor}
use Rattle.asm_expand.specs.declared.steps.Depth.{Depth}
use Rattle.asm_expand.specs.declared.steps.End.{End}
use Rattle.asm_expand.specs.declared.steps.End.TheVariants as end
use Rattle.asm_expand.specs.declared.steps.Frame.{Frame}
use Rattle.asm_expand.specs.declared.steps.Frame.TheVariants as frame
use Rattle.asm_expand.specs.declared.steps.Next.{Next}
use Rattle.asm_expand.specs.declared.steps.Next.TheVariants as next
use Rattle.asm_variables.specs.Expanding.{HasScope, Represents}
use Rattle.asm_expand.specs.LineCursors.{cursor_lines}

abbrev pub depth_of : Depth → model.Depth
depth_of d = record { constructs = d.constructs; files = d.files }

-- the line stands first there
abbrev pub IsFirst : LineCursor → Line → Type 0
IsFirst p l = (ls : List Line) × (cursor_lines p ≡ l ∷ ls)

abbrev pub IsFrame : Frame → Context → Type 0
IsFrame (frame.Condition p) (Condition l) = IsFirst p l
IsFrame (frame.Alternative p) (Alternative l) = IsFirst p l
IsFrame (frame.Loop p) (Loop l ls) = cursor_lines p ≡ l ∷ ls
IsFrame (frame.Call c p) (Call scope ls) = HasScope c.value scope × (cursor_lines p ≡ ls)
IsFrame (frame.File p) (File ls) = cursor_lines p ≡ ls
IsFrame _ _ = ⊥

abbrev pub IsEnd : Expansion → End → model.End → Type 0
IsEnd c end.Over (Over s) = Represents c s
IsEnd c (end.Closed o p) (Closed q l s ls) = (o ≡ q) × (cursor_lines p ≡ l ∷ ls) × Represents c s
IsEnd c (end.Left p) (Left l s) = IsFirst p l × Represents c s
IsEnd c end.Ended (Ended s) = Represents c s
IsEnd c (end.Cut p) (Cut l) = IsFirst p l
IsEnd c (end.Unclosed p) (Unclosed l) = IsFirst p l
IsEnd c _ _ = ⊥

-- a fault of the first line there
abbrev pub IsBad : LineCursor → LineKind → model.End → Type 0
IsBad p k (Bad name n j) = (k ≡ j) × ((l : Line) × IsFirst p l × (l.source ≡ name) × (l.number ≡ n))
IsBad p k _ = ⊥

-- what the code says follows, with what it has of the state
abbrev pub Shows : Sources → Expansion → Next → model.Next → Type 0
Shows sources c (next.Stop e) (Stop m) = IsEnd c e m
Shows sources c (next.Bad p k) (Stop m) = IsBad p k m
Shows sources c (next.Go p) (Go s ls) = Represents c s × (cursor_lines p ≡ ls)
Shows sources c (next.Under f p) (Under m s ls) = IsFrame f m × Represents c s × (cursor_lines p ≡ ls)
Shows sources c (next.Get name p) m = (s : State) × Represents c s × (m ≡ got name s (cursor_lines p) (sources name))
Shows sources c _ _ = ⊥

-- the first line there says this, of each state that the code has
abbrev pub Says : LineCursor → Expansion → Expansion → Next → (State → Line → List Line → model.Next) → Type 0
Says at old new n f =
    (sources : Sources) (s : State) (l : Line) (ls : List Line) → cursor_lines at ≡ l ∷ ls → Represents old s
    → Shows sources new n (f s l ls)

-- the same, where what it says depends on files
abbrev pub SaysFrom : LineCursor → Expansion → Expansion → Next → (Sources → State → Line → List Line → model.Next) → Type 0
SaysFrom at old new n f =
    (sources : Sources) (s : State) (l : Line) (ls : List Line) → cursor_lines at ≡ l ∷ ls → Represents old s
    → Shows sources new n (f sources s l ls)

-- what follows the lines from a place on that the word at another place skips
abbrev pub SkipsFrom : LineCursor → LineCursor → Opening → Expansion → Expansion → Next → Type 0
SkipsFrom at from opening old new n =
    (sources : Sources) (s : State) (l : Line) → IsFirst at l → Represents old s
    → Shows sources new n (behind_skipped l s (skipped opening [] s.visits (cursor_lines from)))

-- fewer lines may be visited where a construct is opened, and never more
abbrev pub Shortens : Next → ℕ → ℕ → Type 0
Shortens (next.Under f p) old new = new < old
Shortens (next.Get name p) old new = new < old
Shortens _ old new = new ≤ old

-- the most flat lines that there can be: those that are there, and one for each line that may still be visited
abbrev pub most_flats : Expansion → ℕ
most_flats c = length c.flats.items + c.visits

-- a value, unless a fault is told of its line
abbrev pub settled : {A : Type 0} → Option LineKind → Result A LineKind → Result A LineKind
settled None r = r
settled (Some k) (Ok a) = Err k
settled (Some k) (Err j) = Err (earlier j k)
