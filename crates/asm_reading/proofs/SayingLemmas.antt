-- What a line says, in either state.
use Rattle.std.proofs.Common.{◌≡◌, ℕ, List, sym, ◌∙◌, ap, refl, subst, Option, Some, None}
use Rattle.std.specs.Prelude.{Result, Ok, Err, IfOk}
use Rattle.std.specs.List.{list_any}
use Rattle.sdt_fault.specs.declared.kinds.LineKind.{LineKind}
use Rattle.asm_model.specs.declared.lines.Flat.{Flat}
use Rattle.asm_model.specs.declared.tokens.Token.{Token}
use Rattle.asm_model.specs.declared.statements.What.{What}
use Rattle.asm_model.specs.declared.directives.Directive.{Directive}
use Rattle.asm_model.specs.declared.directives.DirectiveLine.{DirectiveLine}
use Rattle.asm_model.specs.declared.directives.LabelNeed.TheVariants as need
use Rattle.asm_model.specs.Readings.{on_both}
use Rattle.asm_model.specs.Says.{Said, Sentence, SaysAs, statement, statement_of, label_field, directive_of, sentence, OneDirective}
use Rattle.asm_model.specs.Tokens.{is_long, Tokens, OneScan}
use Rattle.asm_reading.specs.Says.{with_long, marked, SaysOperation, SaysWords, SaysInstruction, SaysOr, SaysTokens, SaysAll, SaysLine}

-- ---- a line with an operation

pub operation_said : (Operation : List ℕ → Token → List Token → Result What LineKind → Type 0) (flat : Flat) (label : Option Token) (t : Token)
    (ts : List Token) (text : List ℕ) (l : Result (Option (List ℕ)) LineKind) (w : Result What LineKind) (r : Said)
    → text ≡ flat.text → l ≡ label_field need.Optional text label → Operation text t ts w → r ≡ on_both (statement flat) l w
    → SaysOperation Operation flat label t ts r
operation_said Operation flat label t ts text l w r e le h k = (
  w,
  subst (λ z. Operation z t ts w) e h,
  k ∙ ap (λ z. on_both (statement flat) z w) (le ∙ ap (λ z. label_field need.Optional z label) e),
)

-- ---- a directive, or another operation

told_directive : (Operation : List ℕ → Token → List Token → Result What LineKind → Type 0) (flat : Flat) (ts : List Token)
    (label : Result (Option (List ℕ)) LineKind) (l : Result DirectiveLine LineKind)
    → SaysOr Operation flat ts (on_both (statement_of flat) label l) (on_both (statement_of flat) label l)
told_directive Operation flat ts (Ok label) (Ok l) = refl
told_directive Operation flat ts (Ok label) (Err k) = refl
told_directive Operation flat ts (Err k) (Ok l) = refl
told_directive Operation flat ts (Err k) (Err j) = refl

pub directive_said : {E : Type 0} (Operation : List ℕ → Token → List Token → Result What LineKind → Type 0) (flat : Flat) (ts : List Token)
    (s : Sentence) (o : Option Directive) (d : Directive) (r : Result Said E)
    → s ≡ sentence ts → o ≡ directive_of flat.text s.operation → o ≡ Some d → IfOk r (λ x. SaysAs flat s (Some d) x)
    → IfOk r (λ x. SaysTokens Operation flat ts x)
directive_said Operation flat ts s o d (Err e) es eo ed h = tt
directive_said Operation flat ts s o d (Ok r) es eo ed h =
    let named : Some d ≡ directive_of flat.text (sentence ts).operation = rw es at (sym ed ∙ eo) in
    let read : SaysAs flat (sentence ts) (Some d) r = rw es at h in
    (r, subst (λ x. SaysAs flat (sentence ts) x r) named read, subst (λ x. SaysOr Operation flat ts x x) (sym read.2) (told_directive Operation flat ts _ read.0))

pub other_said : {E : Type 0} (Operation : List ℕ → Token → List Token → Result What LineKind → Type 0) (flat : Flat) (ts : List Token)
    (s : Sentence) (o : Option Directive) (r : Result Said E)
    → s ≡ sentence ts → o ≡ directive_of flat.text s.operation → o ≡ None → IfOk r (λ x. SaysInstruction Operation flat s x)
    → IfOk r (λ x. SaysTokens Operation flat ts x)
other_said Operation flat ts s o (Err e) es eo en h = tt
other_said Operation flat ts s o (Ok r) es eo en h =
    let none : None ≡ directive_of flat.text (sentence ts).operation = rw es at (sym en ∙ eo) in
    let read : SaysInstruction Operation flat (sentence ts) r = rw es at h in
    (Ok None, subst (λ x. SaysAs flat (sentence ts) x (Ok None)) none refl, read)

-- ---- a line says one thing

-- an operation and the tokens behind it say one thing
abbrev pub OneOperation : (List ℕ → Token → List Token → Result What LineKind → Type 0) → Type 0
OneOperation Operation = (text : List ℕ) (t : Token) (ts : List Token) (a b : Result What LineKind) → Operation text t ts a → Operation text t ts b → a ≡ b

one_words : (Operation : List ℕ → Token → List Token → Result What LineKind → Type 0) → OneOperation Operation
    → (flat : Flat) (label o : Option Token) (ts : List Token) (a b : Said)
    → SaysWords Operation flat label o ts a → SaysWords Operation flat label o ts b → a ≡ b
one_words Operation law flat label None ts a b p q = p ∙ sym q
one_words Operation law flat label (Some t) ts a b p q = p.2 ∙ ap (on_both (statement flat) _) (law flat.text t ts p.0 q.0 p.1 q.1) ∙ sym q.2

one_or : (Operation : List ℕ → Token → List Token → Result What LineKind → Type 0) → OneOperation Operation → (flat : Flat) (ts : List Token) (d a b : Said)
    → SaysOr Operation flat ts d a → SaysOr Operation flat ts d b → a ≡ b
one_or Operation law flat ts (Ok None) a b p q = one_words Operation law flat (sentence ts).label (sentence ts).operation (sentence ts).behind a b p q
one_or Operation law flat ts (Ok (Some s)) a b p q = p ∙ sym q
one_or Operation law flat ts (Err k) a b p q = p ∙ sym q

one_of_tokens : (Operation : List ℕ → Token → List Token → Result What LineKind → Type 0) → OneOperation Operation → OneDirective
    → (flat : Flat) (ts : List Token) (a b : Said)
    → SaysTokens Operation flat ts a → SaysTokens Operation flat ts b → a ≡ b
one_of_tokens Operation law directive flat ts a b p q =
    one_or Operation law flat ts p.0 a b p.2 (subst (λ d. SaysOr Operation flat ts d b) (sym (directive flat ts p.0 q.0 p.1 q.1)) q.2)

one_all : (Operation : List ℕ → Token → List Token → Result What LineKind → Type 0) → OneOperation Operation → OneDirective
    → (flat : Flat) (o : Option (List Token)) (a b : Said)
    → SaysAll Operation flat o a → SaysAll Operation flat o b → a ≡ b
one_all Operation law directive flat None a b p q = p ∙ sym q
one_all Operation law directive flat (Some ts) a b p q = p.2 ∙ ap (with_long _) (one_of_tokens Operation law directive flat ts p.0 q.0 p.1 q.1) ∙ sym q.2

pub one_saying : (Operation : List ℕ → Token → List Token → Result What LineKind → Type 0) → OneOperation Operation → OneDirective → OneScan
    → (flat : Flat) (a b : Said)
    → SaysLine Operation flat a → SaysLine Operation flat b → a ≡ b
one_saying Operation law directive scan flat a b p q =
    one_all Operation law directive flat p.0 a b p.2 (subst (λ o. SaysAll Operation flat o b) (sym (scan flat.text p.0 q.0 p.1 q.1)) q.2)

-- ---- a line

pub line_said : {E : Type 0} (Operation : List ℕ → Token → List Token → Result What LineKind → Type 0) (flat : Flat) (text : List ℕ) (ts us vs : List Token)
    (q r : Result Said E)
    → text ≡ flat.text → Tokens text ts → us ≡ ts → vs ≡ ts → IfOk q (λ s. SaysTokens Operation flat us s) → r ≡ marked (list_any is_long vs) q
    → IfOk r (λ s. SaysLine Operation flat s)
line_said Operation flat text ts us vs (Err f) r e t u v h k = rw k tt
line_said Operation flat text ts us vs (Ok s) r e t u v h k =
    rw k (
      Some ts,
      subst (λ x. Tokens x ts) e t,
      (s, subst (λ x. SaysTokens Operation flat x s) u h, ap (λ x. with_long (list_any is_long x) s) v),
    )
