-- What a line says is a statement of its state, as layout and emission ask for it.
use Rattle.std.proofs.Common.{ℕ, List, [], ◌++◌, Bool, true, false, refl, Option, Some, None}
use Rattle.std.specs.Prelude.{Result, Ok, Err}
use Rattle.std.specs.List.{list_any, AllByRecursion}
use Rattle.sdt_fault.specs.declared.kinds.LineKind.{LineKind}
use Rattle.sdt_fault.specs.declared.kinds.LineKind.TheVariants.{Syntax}
use Rattle.asm_model.specs.declared.lines.Flat.{Flat}
use Rattle.asm_model.specs.declared.tokens.Token.{Token}
use Rattle.asm_model.specs.declared.directives.Directive.{Directive}
use Rattle.asm_model.specs.declared.directives.DirectiveLine.{DirectiveLine}
use Rattle.asm_model.specs.declared.directives.LabelNeed.TheVariants as need
use Rattle.asm_model.specs.declared.statements.Statement.{Statement}
use Rattle.asm_model.specs.declared.statements.What.{What}
use Rattle.asm_model.specs.declared.statements.What.TheVariants as what
use Rattle.asm_model.specs.Directives.{label_need}
use Rattle.asm_model.specs.Parts.{piece}
use Rattle.asm_model.specs.Readings.{on_both}
use Rattle.asm_model.specs.Says.{label_field, Sentence, sentence, directive_of, unnamed, Said, statement, statement_of, SaysAs}
use Rattle.asm_model.specs.Tokens.{is_long, first_due, Tokens}
use Rattle.asm_arm.specs.Mnemonics as arm_words
use Rattle.asm_thumb.specs.Mnemonics as thumb_words
use Rattle.asm_model.specs.Said.{label_names, directive_names}
use Rattle.asm_model.proofs.SaidLemmas.{IsText, IsFine}
use Rattle.source_laws.specs.Laws.{IsOfState}
use Rattle.asm_reading.specs.Says.{alone, SaysWords, SaysOr, SaysTokens, with_long, SaysLine, ReadsArm, ReadsThumb, SaysBy}
use Rattle.asm_reading.proofs.ArmLemmas.{instruction_said}
use Rattle.asm_reading.proofs.DirectiveLemmas.{field_text, DirectiveFine, directive_fine}
use Rattle.asm_reading.proofs.GivesLemmas.{Gives, OptionGives, equal_gives, mapped_gives, both_give}
use Rattle.asm_reading.proofs.InstructionLemmas.{InstructionIn}
use Rattle.asm_reading.proofs.ThumbLemmas.{thumb_instruction_said}
use Rattle.asm_reading.proofs.ThumbWordLemmas.{thumb_operation_said}
use Rattle.asm_reading.proofs.TokenLemmas.{EachHasForm, OptionHasForm, tokens_form, sentence_form}

-- what is asked of a statement of a state
abbrev pub LineFine : Bool → Statement → Type 0
LineFine state s = IsFine s × IsOfState state s.what

abbrev SaidFine : Bool → Said → Type 0
SaidFine state r = Gives (OptionGives (LineFine state)) r

-- what is asked of what an operation and the tokens behind it say in a state
abbrev OperationIn : Bool → (List ℕ → Token → List Token → Result What LineKind → Type 0) → Type 0
OperationIn state Operation =
    (text : List ℕ) (t : Token) (ts : List Token) (w : Result What LineKind) → EachHasForm text ts → Operation text t ts w → Gives (InstructionIn state) w

arm_in : OperationIn false ReadsArm
arm_in text t ts w f h = instruction_said text (unnamed t.kind) (arm_words.operation_named (piece text t)) ts w f h

thumb_in : OperationIn true ReadsThumb
thumb_in text t ts w f h =
    let word = piece text t in
    thumb_instruction_said text (unnamed t.kind) (thumb_words.operation_named word) ts w (thumb_operation_said word) f h

-- ---- statements

with_label : (o : Option (List ℕ)) (ns : List (List ℕ)) → OptionGives IsText o → AllByRecursion IsText ns → AllByRecursion IsText (label_names o ++ ns)
with_label None ns h k = k
with_label (Some n) ns h k = (h, k)

either_state : (l : DirectiveLine) (state : Bool) → IsOfState state (what.Directive l)
either_state l true = tt
either_state l false = tt

instruction_fine : (state : Bool) (flat : Flat) (o : Option (List ℕ)) (w : What) → OptionGives IsText o → InstructionIn state w
    → OptionGives (LineFine state) (statement flat o w)
instruction_fine state flat o what.Nothing h k = absurd k
instruction_fine true flat o (what.Arm l) h k = absurd k
instruction_fine false flat o (what.Arm l) h k = (record { read = k; texts = with_label o [] h tt; marks = tt }, tt)
instruction_fine true flat o (what.Thumb l) h k = (record { read = k; texts = with_label o [] h tt; marks = tt }, tt)
instruction_fine false flat o (what.Thumb l) h k = absurd k
instruction_fine true flat o (what.Pseudo l) h k = (record { read = k; texts = with_label o [] h tt; marks = tt }, tt)
instruction_fine false flat o (what.Pseudo l) h k = (record { read = k; texts = with_label o [] h tt; marks = tt }, tt)
instruction_fine state flat o (what.Directive l) h k = absurd k

nothing_fine : (state : Bool) (flat : Flat) (o : Option (List ℕ)) → OptionGives IsText o → OptionGives (LineFine state) (statement flat o what.Nothing)
nothing_fine true flat o h = (record { read = tt; texts = with_label o [] h tt; marks = tt }, tt)
nothing_fine false flat o h = (record { read = tt; texts = with_label o [] h tt; marks = tt }, tt)

-- ---- lines

alone_fine : (state : Bool) (flat : Flat) (label : Option Token) → OptionHasForm flat.text label → SaidFine state (alone flat label)
alone_fine state flat None f = tt
alone_fine state flat (Some t) f =
    mapped_gives (OptionGives IsText) (OptionGives (LineFine state)) (λ o. statement flat o what.Nothing) (label_field need.Optional flat.text (Some t))
    (nothing_fine state flat) (field_text need.Optional flat.text (Some t) f)

directive_said : (state : Bool) (flat : Flat) (s : Sentence) (d : Option Directive) (r : Said) → OptionHasForm flat.text s.label
    → EachHasForm flat.text s.behind → SaysAs flat s d r → SaidFine state r
directive_said state flat s None r f g h = equal_gives (OptionGives (LineFine state)) r (Ok None) h tt
directive_said state flat s (Some d) r f g h =
    let label = label_field (label_need d) flat.text s.label in
    equal_gives (OptionGives (LineFine state)) r (on_both (statement_of flat) label h.0) h.2
    (both_give (OptionGives IsText) DirectiveFine (OptionGives (LineFine state)) (statement_of flat) label h.0
    (λ o l p q. (record { read = q.0; texts = with_label o (directive_names l) p q.1; marks = q.2 }, either_state l state))
    (field_text (label_need d) flat.text s.label f) (directive_fine flat.text d s.behind h.0 g h.1))

words_fine : (state : Bool) (Operation : List ℕ → Token → List Token → Result What LineKind → Type 0) → OperationIn state Operation
    → (flat : Flat) (label o : Option Token) (ts : List Token) (r : Said) → OptionHasForm flat.text label → EachHasForm flat.text ts
    → SaysWords Operation flat label o ts r → SaidFine state r
words_fine state Operation law flat label None ts r f g h = equal_gives (OptionGives (LineFine state)) r (alone flat label) h (alone_fine state flat label f)
words_fine state Operation law flat label (Some t) ts r f g h =
    let field = label_field need.Optional flat.text label in
    equal_gives (OptionGives (LineFine state)) r (on_both (statement flat) field h.0) h.2
    (both_give (OptionGives IsText) (InstructionIn state) (OptionGives (LineFine state)) (statement flat) field h.0 (instruction_fine state flat)
    (field_text need.Optional flat.text label f) (law flat.text t ts h.0 g h.1))

or_fine : (state : Bool) (Operation : List ℕ → Token → List Token → Result What LineKind → Type 0) → OperationIn state Operation
    → (flat : Flat) (ts : List Token) (d r : Said) → OptionHasForm flat.text (sentence ts).label → EachHasForm flat.text (sentence ts).behind
    → SaidFine state d → SaysOr Operation flat ts d r → SaidFine state r
or_fine state Operation law flat ts (Ok None) r f g k h =
    words_fine state Operation law flat (sentence ts).label (sentence ts).operation (sentence ts).behind r f g h
or_fine state Operation law flat ts (Ok (Some s)) r f g k h = equal_gives (OptionGives (LineFine state)) r (Ok (Some s)) h k
or_fine state Operation law flat ts (Err j) r f g k h = equal_gives (OptionGives (LineFine state)) r (Err j) h tt

tokens_fine : (state : Bool) (Operation : List ℕ → Token → List Token → Result What LineKind → Type 0) → OperationIn state Operation
    → (flat : Flat) (ts : List Token) (r : Said) → Tokens flat.text ts → SaysTokens Operation flat ts r → SaidFine state r
tokens_fine state Operation law flat ts r tokens h =
    let forms = sentence_form flat.text ts (tokens_form flat.text ts (first_due flat.text) 0 flat.text refl tokens) in
    or_fine state Operation law flat ts h.0 r forms.0 forms.1
    (directive_said state flat (sentence ts) (directive_of flat.text (sentence ts).operation) h.0 forms.0 forms.1 h.1) h.2

with_long_fine : (state b : Bool) (s : Said) → SaidFine state s → SaidFine state (with_long b s)
with_long_fine state b (Ok (Some s)) h = (record { read = h.0.read; texts = h.0.texts; marks = h.0.marks }, h.1)
with_long_fine state b (Ok None) h = h
with_long_fine state b (Err k) h = h

line_fine : (state : Bool) (Operation : List ℕ → Token → List Token → Result What LineKind → Type 0) → OperationIn state Operation
    → (flat : Flat) (r : Said) → SaysLine Operation flat r → SaidFine state r
line_fine state Operation law flat r (None, tokens, h) = equal_gives (OptionGives (LineFine state)) r (Err Syntax) h tt
line_fine state Operation law flat r (Some ts, tokens, h) =
    equal_gives (OptionGives (LineFine state)) r (with_long (list_any is_long ts) h.0) h.2
    (with_long_fine state (list_any is_long ts) h.0 (tokens_fine state Operation law flat ts h.0 tokens h.1))

pub lines_are_fine : (state : Bool) (flat : Flat) (s : Statement) → SaysBy state flat (Ok (Some s)) → LineFine state s
lines_are_fine true flat s h = line_fine true ReadsThumb thumb_in flat (Ok (Some s)) h
lines_are_fine false flat s h = line_fine false ReadsArm arm_in flat (Ok (Some s)) h
