-- What a line of either state says, as its tokens and its text have it: nothing for a blank line, a label alone, a directive, or
-- else an instruction or a pseudo-instruction of its state; or the kind of its faults that is told. All faults of a line count,
-- and of several kinds the first in the order of the kinds is told; a statement tells whether a name on its line is beyond the
-- limit. The operands of an operation that nothing names are not read. ARM SDT 2.50 Reference Guide, chapter on the assembler.
use Rattle.std.specs.Prelude.{◌≡◌, ℕ, List, Bool, true, false, Option, Some, None, Result, Ok, Err}
use Rattle.std.specs.List.{list_any}
use Rattle.sdt_fault.specs.declared.kinds.LineKind.{LineKind}
use Rattle.sdt_fault.specs.declared.kinds.LineKind.TheVariants.{Syntax}
use Rattle.asm_model.specs.declared.lines.Flat.{Flat}
use Rattle.asm_model.specs.declared.tokens.Token.{Token}
use Rattle.asm_model.specs.declared.directives.LabelNeed.TheVariants as need
use Rattle.asm_model.specs.declared.statements.What.{What}
use Rattle.asm_model.specs.declared.statements.What.TheVariants as what
use Rattle.asm_model.specs.Parts.{piece}
use Rattle.asm_model.specs.Readings.{mapped, on_both}
use Rattle.asm_model.specs.Says.{Said, statement, label_field, Sentence, sentence, unnamed, SaysDirective}
use Rattle.asm_model.specs.Tokens.{is_long, AreTokens}
use Rattle.asm_arm.specs.LineForms as arm_lines
use Rattle.asm_arm.specs.Mnemonics as arm_words
use Rattle.asm_thumb.specs.LineForms as thumb_lines
use Rattle.asm_thumb.specs.Mnemonics as thumb_words

-- a line without an operation: a label alone, or nothing
abbrev pub alone : Flat → Option Token → Said
alone flat None = Ok None
alone flat (Some t) = mapped (λ label. statement flat label what.Nothing) (label_field need.Optional flat.text (Some t))

-- ---- a line of a state, whose operations and what stands behind them read so

-- a line with an operation
abbrev pub SaysOperation : (List ℕ → Token → List Token → Result What LineKind → Type 0) → Flat → Option Token → Token → List Token → Said
    → Type 0
SaysOperation Operation flat label t ts r =
    (w : Result What LineKind) × Operation flat.text t ts w × (r ≡ on_both (statement flat) (label_field need.Optional flat.text label) w)

abbrev pub SaysWords : (List ℕ → Token → List Token → Result What LineKind → Type 0) → Flat → Option Token → Option Token → List Token
    → Said → Type 0
SaysWords Operation flat label None ts r = r ≡ alone flat label
SaysWords Operation flat label (Some t) ts r = SaysOperation Operation flat label t ts r

-- a line that is no directive
abbrev pub SaysInstruction : (List ℕ → Token → List Token → Result What LineKind → Type 0) → Flat → Sentence → Said → Type 0
SaysInstruction Operation flat s r = SaysWords Operation flat s.label s.operation s.behind r

abbrev pub SaysOr : (List ℕ → Token → List Token → Result What LineKind → Type 0) → Flat → List Token → Said → Said → Type 0
SaysOr Operation flat ts (Ok None) r = SaysInstruction Operation flat (sentence ts) r
SaysOr Operation flat ts (Ok (Some s)) r = r ≡ Ok (Some s)
SaysOr Operation flat ts (Err k) r = r ≡ Err k

-- what tokens say: a directive, or else an instruction
abbrev pub SaysTokens : (List ℕ → Token → List Token → Result What LineKind → Type 0) → Flat → List Token → Said → Type 0
SaysTokens Operation flat ts r = (d : Said) × SaysDirective flat ts d × SaysOr Operation flat ts d r

-- the same, where a name among them may be beyond the limit
abbrev pub with_long : Bool → Said → Said
with_long long (Ok (Some s)) = Ok (Some (record s { is_long = long }))
with_long long r = r

-- the same of an outcome
abbrev pub marked : {E : Type 0} → Bool → Result Said E → Result Said E
marked long (Ok s) = Ok (with_long long s)
marked long (Err e) = Err e

abbrev pub SaysAll : (List ℕ → Token → List Token → Result What LineKind → Type 0) → Flat → Option (List Token) → Said → Type 0
SaysAll Operation flat None r = r ≡ Err Syntax
SaysAll Operation flat (Some ts) r = (s : Said) × SaysTokens Operation flat ts s × (r ≡ with_long (list_any is_long ts) s)

-- what a line says
abbrev pub SaysLine : (List ℕ → Token → List Token → Result What LineKind → Type 0) → Flat → Said → Type 0
SaysLine Operation flat r = (o : Option (List Token)) × AreTokens flat.text o × SaysAll Operation flat o r

-- ---- ARM state

-- what an operation and the tokens behind it say
abbrev pub ReadsArm : List ℕ → Token → List Token → Result What LineKind → Type 0
ReadsArm text t ts w = arm_lines.Reads text (unnamed t.kind) (arm_words.operation_named (piece text t)) ts w

-- what a line of ARM state says
abbrev pub SaysArm : Flat → Said → Type 0
SaysArm flat r = SaysLine ReadsArm flat r

-- ---- Thumb state

-- what an operation and the tokens behind it say
abbrev pub ReadsThumb : List ℕ → Token → List Token → Result What LineKind → Type 0
ReadsThumb text t ts w = thumb_lines.Reads text (unnamed t.kind) (thumb_words.operation_named (piece text t)) ts w

-- what a line of Thumb state says
abbrev pub SaysThumb : Flat → Said → Type 0
SaysThumb flat r = SaysLine ReadsThumb flat r

-- ---- Thumb or ARM state

abbrev pub ReadsBy : Bool → List ℕ → Token → List Token → Result What LineKind → Type 0
ReadsBy true text t ts w = ReadsThumb text t ts w
ReadsBy false text t ts w = ReadsArm text t ts w

abbrev pub SaysBy : Bool → Flat → Said → Type 0
SaysBy thumb flat r = SaysLine (ReadsBy thumb) flat r
