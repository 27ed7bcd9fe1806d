-- All kinds of faults that an expression or a line with a directive has, as sets, and the kind that is told of a set:
-- the first in the order of the kinds. This project's.
use Rattle.std.specs.Prelude.{◌≡◌, ℕ, ◌≤◌, List, [], ◌∷◌, Option, Some, None, Result, Ok, Err, MatchBool, ◌⊎◌}
use Rattle.sdt_fault.specs.declared.kinds.LineKind.{LineKind}
use Rattle.sdt_fault.specs.declared.kinds.LineKind.TheVariants.{Syntax}
use Rattle.asm_model.specs.declared.lines.Flat.{Flat}
use Rattle.asm_model.specs.declared.tokens.Token.{Token}
use Rattle.asm_model.specs.declared.exprs.UnaryOp.{UnaryOp}
use Rattle.asm_model.specs.declared.exprs.BinaryOp.{BinaryOp}
use Rattle.asm_model.specs.declared.values.Value.{Value}
use Rattle.asm_model.specs.declared.names.Names.{Names}
use Rattle.asm_model.specs.declared.directives.Directive.{Directive}
use Rattle.asm_model.specs.declared.statements.Statement.{Statement}
use Rattle.asm_model.specs.Areas.{word_attribute, begins_alignment}
use Rattle.asm_model.specs.Directives.{label_need}
use Rattle.asm_model.specs.Grammar.{Tree, Leaf, Before, Between, ParsesTokens}
use Rattle.asm_model.specs.Kinds.{rank, earlier, told_kind}
use Rattle.asm_model.specs.Meaning.{unary_of, binary, applied, known, operand_of_item, meaning}
use Rattle.asm_model.specs.Operands.{operands}
use Rattle.asm_model.specs.Parts.{piece}
use Rattle.asm_model.specs.Says.{Form, bare, name, imported, expression, expressions, area, register, boundary}
use Rattle.asm_model.specs.Says.{refused, form_of_directive, bare_of, name_of, name_alone, import_mark}
use Rattle.asm_model.specs.Says.{register_alone, label_field, Sentence, sentence, directive_of, SaysDirective}

-- what is told of a set of kinds: nothing where it is empty, and else its first kind
abbrev pub IsToldOf : Option LineKind → (LineKind → Type 0) → Type 0
IsToldOf None Kinds = (k : LineKind) → Kinds k → ⊥
IsToldOf (Some k) Kinds = Kinds k × ((j : LineKind) → Kinds j → rank k ≤ rank j)

-- the fault of a result
abbrev pub fault : {X : Type 0} → Result X LineKind → Option LineKind
fault (Ok x) = None
fault (Err k) = Some k

-- what is told of two sets, from what is told of each
abbrev pub first_told : Option LineKind → Option LineKind → Option LineKind
first_told None b = b
first_told (Some k) None = Some k
first_told (Some k) (Some j) = Some (earlier k j)

-- the kind is among these
abbrev pub Among : List LineKind → LineKind → Type 0
Among [] k = ⊥
Among (j ∷ js) k = (k ≡ j) ⊎ Among js k

-- the kind that is told of a list is the first of its set
abbrev pub ToldOfAll : Type 0
ToldOfAll = (ks : List LineKind) → IsToldOf (told_kind ks) (Among ks)

-- an operator before a value fails with the kind
abbrev pub FailsBefore : UnaryOp → Result Value LineKind → LineKind → Type 0
FailsBefore op x k = (v : Value) × (x ≡ Ok v) × (unary_of op v ≡ Err k)

-- an operator between values fails with the kind
abbrev pub FailsBetween : Names → BinaryOp → Result Value LineKind → Result Value LineKind → LineKind → Type 0
FailsBetween names op x y k = (v w : Value) × (x ≡ Ok v) × (y ≡ Ok w) × (binary names op v w ≡ Err k)

-- the kinds of an expression: those of its operands, and those of each operator whose operands have values
abbrev pub HasKind : Names → Tree → LineKind → Type 0
HasKind names (Leaf i) k = known (operand_of_item names i) ≡ Err k
HasKind names (Before op (Leaf i)) k = applied op (operand_of_item names i) ≡ Err k
HasKind names (Before op t) k = HasKind names t k ⊎ FailsBefore op (meaning names t) k
HasKind names (Between op t u) k =
    HasKind names t k ⊎ (HasKind names u k ⊎ FailsBetween names op (meaning names t) (meaning names u) k)

-- the fault of an expression's value is what is told of its kinds
abbrev pub ToldOfValues : Type 0
ToldOfValues = (names : Names) (t : Tree) → IsToldOf (fault (meaning names t)) (HasKind names t)

-- the kinds of operands, each of them an expression
abbrev pub OperandsKind : List ℕ → List (List Token) → LineKind → Type 0
OperandsKind text [] k = ⊥
OperandsKind text (o ∷ os) k = ParsesTokens text o (Err k) ⊎ OperandsKind text os k

-- the same, of one operand or more
abbrev pub SomeOperandsKind : List ℕ → List (List Token) → LineKind → Type 0
SomeOperandsKind text [] k = k ≡ Syntax
SomeOperandsKind text (o ∷ os) k = OperandsKind text (o ∷ os) k

abbrev pub ImportKind : List ℕ → List Token → LineKind → Type 0
ImportKind text [] k = k ≡ Syntax
ImportKind text (t ∷ ts) k = (name_of t.kind (piece text t) ≡ Err k) ⊎ (import_mark text ts ≡ Err k)

abbrev pub AttributeKind : List ℕ → List Token → LineKind → Type 0
AttributeKind text [] k = k ≡ Syntax
AttributeKind text (t ∷ []) k = word_attribute t.kind (piece text t) ≡ Err k
AttributeKind text (t ∷ u ∷ ts) k = MatchBool (begins_alignment text t u) (ParsesTokens text ts (Err k)) (k ≡ Syntax)

abbrev pub AttributesKind : List ℕ → List (List Token) → LineKind → Type 0
AttributesKind text [] k = ⊥
AttributesKind text (o ∷ os) k = AttributeKind text o k ⊎ AttributesKind text os k

abbrev pub AreaKind : List ℕ → List (List Token) → LineKind → Type 0
AreaKind text [] k = k ≡ Syntax
AreaKind text (o ∷ os) k =
    (name_alone text o ≡ Err k) ⊎ AttributesKind text os k

abbrev pub RegisterKind : List ℕ → Option ℕ → List Token → LineKind → Type 0
RegisterKind text (Some n) ts k = ⊥
RegisterKind text None ts k = ParsesTokens text ts (Err k)

abbrev pub BoundaryKind : List ℕ → List (List Token) → LineKind → Type 0
BoundaryKind text [] k = ⊥
BoundaryKind text (o ∷ []) k = ParsesTokens text o (Err k)
BoundaryKind text (o ∷ p ∷ []) k = ParsesTokens text o (Err k) ⊎ ParsesTokens text p (Err k)
BoundaryKind text (o ∷ p ∷ q ∷ os) k = k ≡ Syntax

-- the kinds of what stands behind an operation, in a form
abbrev pub FormKind : List ℕ → Form → List Token → LineKind → Type 0
FormKind text (bare l) ts k = bare_of l ts ≡ Err k
FormKind text (name make) ts k = name_alone text ts ≡ Err k
FormKind text (imported make) ts k = ImportKind text ts k
FormKind text (expression make) ts k = ParsesTokens text ts (Err k)
FormKind text (expressions make) ts k = SomeOperandsKind text (operands text ts) k
FormKind text area ts k = AreaKind text (operands text ts) k
FormKind text register ts k = RegisterKind text (register_alone text ts) ts k
FormKind text boundary ts k = BoundaryKind text (operands text ts) k
FormKind text (refused j) ts k = k ≡ j

abbrev pub SentenceKind : Flat → Sentence → Option Directive → LineKind → Type 0
SentenceKind flat s None k = ⊥
SentenceKind flat s (Some d) k =
    (label_field (label_need d) flat.text s.label ≡ Err k) ⊎ FormKind flat.text (form_of_directive d) s.behind k

-- the kinds of a line as a directive: those of the label field, and those of what stands behind the operation
abbrev pub DirectiveKind : Flat → List Token → LineKind → Type 0
DirectiveKind flat ts k = SentenceKind flat (sentence ts) (directive_of flat.text (sentence ts).operation) k

-- the fault of a line that is read as a directive is what is told of its kinds
abbrev pub ToldOfDirectives : Type 0
ToldOfDirectives =
    (flat : Flat) (ts : List Token) (r : Result (Option Statement) LineKind)
    → SaysDirective flat ts r → IsToldOf (fault r) (DirectiveKind flat ts)
