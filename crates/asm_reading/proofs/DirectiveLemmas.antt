-- Directives: their expressions are read, the number of RN's register is below 16, their names have a character and hold no
-- zero byte, and only an area of code has the marks of code.
use Rattle.std.proofs.Common.{◌≡◌, ℕ, List, [], ◌∷◌, ◌&&◌, Bool, true, false, cond, refl, Option, Some, None}
use Rattle.std.specs.Prelude.{Result, Ok, Err, MatchBool}
use Rattle.std.specs.List.{AllByRecursion}
use Rattle.sdt_fault.specs.declared.kinds.LineKind.{LineKind}
use Rattle.sdt_fault.specs.declared.kinds.LineKind.TheVariants.{Syntax}
use Rattle.asm_model.specs.declared.tokens.Token.{Token}
use Rattle.asm_model.specs.declared.tokens.TokenKind.{TokenKind}
use Rattle.asm_model.specs.declared.tokens.TokenKind.TheVariants as kind
use Rattle.asm_model.specs.declared.exprs.Expr.{Expr}
use Rattle.asm_model.specs.declared.directives.AreaAttributes.{AreaAttributes}
use Rattle.asm_model.specs.declared.directives.Attribute.{Attribute}
use Rattle.asm_model.specs.declared.directives.Attribute.TheVariants.{Align, Code, NoInit, Interwork, Halfword}
use Rattle.asm_model.specs.declared.directives.Boundary.TheVariants as limit
use Rattle.asm_model.specs.declared.directives.Contents.TheVariants as contents
use Rattle.asm_model.specs.declared.directives.Directive.{Directive}
use Rattle.asm_model.specs.declared.directives.Directive.TheVariants as directive
use Rattle.asm_model.specs.declared.directives.DirectiveLine.{DirectiveLine}
use Rattle.asm_model.specs.declared.directives.DirectiveLine.TheVariants as line
use Rattle.asm_model.specs.declared.directives.ImportMark.{ImportMark}
use Rattle.asm_model.specs.declared.directives.LabelNeed.{LabelNeed}
use Rattle.asm_model.specs.declared.directives.LabelNeed.TheVariants as need
use Rattle.asm_model.specs.declared.directives.RnOperand.TheVariants as rn
use Rattle.asm_model.specs.declared.statements.What.TheVariants as what
use Rattle.asm_model.specs.Areas.{has, attributes_written, attributes_in, attribute_named, plain_attribute, word_attribute, begins_alignment, alignment, listed, joined, ReadsAttribute, ReadsAttributes}
use Rattle.asm_model.specs.Forms.{is_short}
use Rattle.asm_model.specs.Grammar.{ParsesTokens}
use Rattle.asm_model.specs.Operands.{operands}
use Rattle.asm_model.specs.Parts.{piece}
use Rattle.asm_model.specs.Readings.{mapped, on_both}
use Rattle.asm_model.specs.Says.{Form, bare, name, imported, expression, expressions, area, register, boundary, refused, form_of_directive, name_of, name_alone, import_mark, import_of, register_alone, Expressions, SomeExpressions, Area, Register, Aligned, bare_of, Reads, label_of, label_field}
use Rattle.asm_model.specs.Fit.{MarksAgree}
use Rattle.asm_model.specs.Said.{IsRead, AllRead, DirectiveSaid, directive_names}
use Rattle.asm_model.proofs.SaidLemmas.{IsText, MarksFit}
use Rattle.asm_reading.proofs.ExpressionLemmas.{parsed_read, expression_gives}
use Rattle.asm_reading.proofs.FormLemmas.{AllHaveForm, operands_form}
use Rattle.asm_reading.proofs.GivesLemmas.{Gives, OptionGives, any_gives, equal_gives, fault_gives, mapped_gives, both_give}
use Rattle.asm_reading.proofs.NameLemmas.{short_text, word_text}
use Rattle.asm_reading.proofs.OperandLemmas.{IsRegister, register_small}
use Rattle.asm_reading.proofs.TokenLemmas.{HasForm, EachHasForm, OptionHasForm}

-- ---- names

number_text : (s : List ℕ) → Gives (OptionGives IsText) (cond (is_short s) (Ok (Some (124 ∷ s))) (Err Syntax))
number_text s = by_test (is_short s) refl
  where
    by_test : (b : Bool) → is_short s ≡ b → Gives (OptionGives IsText) (cond b (Ok (Some (124 ∷ s))) (Err Syntax))
    by_test true e = (((λ x. cc), short_text s e), tt)
    by_test false e = tt

label_text : (n : LabelNeed) (k : TokenKind) (s : List ℕ) → HasForm k s → Gives (OptionGives IsText) (label_of n k s)
label_text n kind.Name s h = word_text kind.Name s h
label_text n kind.Barred s h = word_text kind.Barred s h
label_text need.Name kind.Number s h = tt
label_text need.Label kind.Number s h = number_text s
label_text need.Optional kind.Number s h = number_text s
label_text n k s h = tt

pub field_text : (n : LabelNeed) (text : List ℕ) (t : Option Token) → OptionHasForm text t → Gives (OptionGives IsText) (label_field n text t)
field_text n text (Some t) h = label_text n t.kind (piece text t) h
field_text need.Optional text None h = tt
field_text n text None h = tt

alone_text : (text : List ℕ) (ts : List Token) → EachHasForm text ts → Gives IsText (name_alone text ts)
alone_text text (t ∷ []) h = word_text t.kind (piece text t) h.0
alone_text text ts h = tt

abbrev ImportText : List ℕ × ImportMark → Type 0
ImportText i = IsText i.0

import_text : (text : List ℕ) (ts : List Token) → EachHasForm text ts → Gives ImportText (import_of text ts)
import_text text [] h = tt
import_text text (t ∷ ts) h =
    both_give IsText (λ w. Unit {0}) ImportText (λ n m. (n, m)) (name_of t.kind (piece text t)) (import_mark text ts) (λ n w p q. p)
    (word_text t.kind (piece text t) h.0) (any_gives (import_mark text ts))

-- ---- attributes of areas

abbrev NumberRead : Option Expr → Type 0
NumberRead o = AllRead (listed o)

plain_attribute_read : (o : Option Attribute) → Gives NumberRead (plain_attribute o)
plain_attribute_read None = tt
plain_attribute_read (Some Align) = tt
plain_attribute_read (Some a) = tt

word_attribute_read : (k : TokenKind) (s : List ℕ) → Gives NumberRead (word_attribute k s)
word_attribute_read kind.Name s = plain_attribute_read (attribute_named s)
word_attribute_read k s = tt

alignment_read : (e : Result Expr LineKind) → Gives IsRead e → Gives NumberRead (alignment e)
alignment_read (Ok e) h = (h, tt)
alignment_read (Err k) h = tt

begun_read : (text : List ℕ) (ts : List Token) (b : Bool) (r : Result (Option Expr) LineKind) → EachHasForm text ts
    → MatchBool b ((e : Result Expr LineKind) × ParsesTokens text ts e × (r ≡ alignment e)) (r ≡ Err Syntax) → Gives NumberRead r
begun_read text ts true r f h = equal_gives NumberRead r (alignment h.0) h.2 (alignment_read h.0 (parsed_read text ts h.0 f h.1))
begun_read text ts false r f h = fault_gives NumberRead Syntax r h

attribute_read : (text : List ℕ) (ts : List Token) (r : Result (Option Expr) LineKind) → EachHasForm text ts → ReadsAttribute text ts r → Gives NumberRead r
attribute_read text [] r f h = fault_gives NumberRead Syntax r h
attribute_read text (t ∷ []) r f h =
    equal_gives NumberRead r (word_attribute t.kind (piece text t)) h (word_attribute_read t.kind (piece text t))
attribute_read text (t ∷ u ∷ ts) r f h = begun_read text ts (begins_alignment text t u) r f.1.1 h

joined_read : (a : Result (Option Expr) LineKind) (b : Result (List Expr) LineKind) → Gives NumberRead a → Gives AllRead b → Gives AllRead (joined a b)
joined_read (Ok (Some e)) (Ok es) h k = (h.0, k)
joined_read (Ok None) (Ok es) h k = k
joined_read (Ok e) (Err j) h k = tt
joined_read (Err i) (Ok es) h k = tt
joined_read (Err i) (Err j) h k = tt

attributes_read : (text : List ℕ) (os : List (List Token)) (r : Result (List Expr) LineKind) → AllHaveForm text os → ReadsAttributes text os r → Gives AllRead r
attributes_read text [] r f h = equal_gives AllRead r (Ok []) h tt
attributes_read text (o ∷ os) r f h =
    equal_gives AllRead r (joined h.0 h.1) h.4 (joined_read h.0 h.1 (attribute_read text o h.0 f.0 h.2) (attributes_read text os h.1 f.1 h.3))

code_alone : (c n i h : Bool) → MarksAgree (cond c contents.Code (cond n contents.Zeroes contents.Data)) (c && i) (c && h)
code_alone true n i h = tt
code_alone false true i h = (refl, refl)
code_alone false false i h = (refl, refl)

abbrev AttributesFine : AreaAttributes → Type 0
AttributesFine a = AllRead a.alignments × MarksAgree a.contents a.interwork a.halfword

attributes_fine : (text : List ℕ) (os : List (List Token)) (alignments : List Expr) → AllRead alignments
    → AttributesFine (attributes_written text os alignments)
attributes_fine text os alignments h =
    let words = attributes_in text os in
    (h, code_alone (has Code words) (has NoInit words) (has Interwork words) (has Halfword words))

-- ---- the forms of directives

abbrev pub DirectiveFine : DirectiveLine → Type 0
DirectiveFine l = DirectiveSaid l × AllByRecursion IsText (directive_names l) × MarksFit (what.Directive l)

abbrev FormFine : Form → Type 0
FormFine (bare l) = DirectiveFine l
FormFine (name make) = (n : List ℕ) → IsText n → DirectiveFine (make n)
FormFine (imported make) = (n : List ℕ) (m : ImportMark) → IsText n → DirectiveFine (make n m)
FormFine (expression make) = (e : Expr) → IsRead e → DirectiveFine (make e)
FormFine (expressions make) = (es : List Expr) → AllRead es → DirectiveFine (make es)
FormFine _ = Unit {0}

bare_fine : (l : DirectiveLine) (ts : List Token) → DirectiveFine l → Gives DirectiveFine (bare_of l ts)
bare_fine l [] h = h
bare_fine l (t ∷ ts) h = tt

all_read : (text : List ℕ) (os : List (List Token)) (r : Result (List Expr) LineKind) → AllHaveForm text os → Expressions text os r → Gives AllRead r
all_read text [] r f h = equal_gives AllRead r (Ok []) h tt
all_read text (o ∷ os) r f h =
    equal_gives AllRead r (on_both (λ x xs. x ∷ xs) h.0 h.1) h.4
    (both_give IsRead AllRead AllRead (λ x xs. x ∷ xs) h.0 h.1 (λ x xs p q. (p, q)) (parsed_read text o h.0 f.0 h.2) (all_read text os h.1 f.1 h.3))

some_read : (text : List ℕ) (os : List (List Token)) (r : Result (List Expr) LineKind) → AllHaveForm text os → SomeExpressions text os r → Gives AllRead r
some_read text [] r f h = fault_gives AllRead Syntax r h
some_read text (o ∷ os) r f h = all_read text (o ∷ os) r f h

area_fine : (text : List ℕ) (os : List (List Token)) (r : Result DirectiveLine LineKind) → AllHaveForm text os → Area text os r → Gives DirectiveFine r
area_fine text [] r f h = fault_gives DirectiveFine Syntax r h
area_fine text (o ∷ os) r f h =
    let attributes = mapped (attributes_written text os) h.0 in
    equal_gives DirectiveFine r (on_both (λ n a. line.Area n a) (name_alone text o) attributes) h.2
    (both_give IsText AttributesFine DirectiveFine (λ n a. line.Area n a) (name_alone text o) attributes (λ n a p q. (q.0, (p, tt), q.1))
    (alone_text text o f.0)
    (mapped_gives AllRead AttributesFine (attributes_written text os) h.0 (attributes_fine text os) (attributes_read text os h.0 f.1 h.1)))

alone_small : (text : List ℕ) (ts : List Token) → OptionGives IsRegister (register_alone text ts)
alone_small text (t ∷ []) = register_small (piece text t)
alone_small text ts = tt

given_fine : (text : List ℕ) (o : Option ℕ) (ts : List Token) (r : Result DirectiveLine LineKind) → OptionGives IsRegister o → EachHasForm text ts
    → Register text o ts r
    → Gives DirectiveFine r
given_fine text (Some n) ts r k f h = equal_gives DirectiveFine r (Ok (line.Rn (rn.Register n))) h (k, tt, tt)
given_fine text None ts r k f h = expression_gives DirectiveFine text (λ e. line.Rn (rn.Number e)) ts r f h (λ e p. (p, tt, tt))

aligned_fine : (text : List ℕ) (os : List (List Token)) (r : Result DirectiveLine LineKind) → AllHaveForm text os → Aligned text os r → Gives DirectiveFine r
aligned_fine text [] r f h = equal_gives DirectiveFine r (Ok (line.Align limit.Word)) h (tt, tt, tt)
aligned_fine text (o ∷ []) r f h = expression_gives DirectiveFine text (λ e. line.Align (limit.Multiple e)) o r f.0 h (λ e p. (p, tt, tt))
aligned_fine text (o ∷ p ∷ []) r f h =
    equal_gives DirectiveFine r (on_both (λ multiple offset. line.Align (limit.Behind multiple offset)) h.0 h.1) h.4
    (both_give IsRead IsRead DirectiveFine (λ multiple offset. line.Align (limit.Behind multiple offset)) h.0 h.1 (λ e f x y. ((x, y), tt, tt))
    (parsed_read text o h.0 f.0 h.2) (parsed_read text p h.1 f.1.0 h.3))
aligned_fine text (o ∷ p ∷ q ∷ os) r f h = fault_gives DirectiveFine Syntax r h

form_fine : (text : List ℕ) (form : Form) (ts : List Token) (r : Result DirectiveLine LineKind) → EachHasForm text ts → FormFine form
    → Reads text form ts r → Gives DirectiveFine r
form_fine text (bare l) ts r f k h = equal_gives DirectiveFine r (bare_of l ts) h (bare_fine l ts k)
form_fine text (name make) ts r f k h =
    equal_gives DirectiveFine r (mapped make (name_alone text ts)) h (mapped_gives IsText DirectiveFine make (name_alone text ts) k (alone_text text ts f))
form_fine text (imported make) ts r f k h =
    equal_gives DirectiveFine r (mapped (λ i. make i.0 i.1) (import_of text ts)) h
    (mapped_gives ImportText DirectiveFine (λ i. make i.0 i.1) (import_of text ts) (λ i p. k i.0 i.1 p) (import_text text ts f))
form_fine text (expression make) ts r f k h = expression_gives DirectiveFine text make ts r f h k
form_fine text (expressions make) ts r f k h =
    equal_gives DirectiveFine r (mapped make h.0) h.2
    (mapped_gives AllRead DirectiveFine make h.0 k (some_read text (operands text ts) h.0 (operands_form text ts f) h.1))
form_fine text area ts r f k h = area_fine text (operands text ts) r (operands_form text ts f) h
form_fine text register ts r f k h = given_fine text (register_alone text ts) ts r (alone_small text ts) f h
form_fine text boundary ts r f k h = aligned_fine text (operands text ts) r (operands_form text ts f) h
form_fine text (refused j) ts r f k h = fault_gives DirectiveFine j r h

directive_form : (d : Directive) → FormFine (form_of_directive d)
directive_form directive.Export = λ n h. (tt, (h, tt), tt)
directive_form directive.Import = λ n w h. (tt, (h, tt), tt)
directive_form directive.Extern = λ n w h. (tt, (h, tt), tt)
directive_form directive.Keep = λ n h. (tt, (h, tt), tt)
directive_form directive.Equ = λ e h. (h, tt, tt)
directive_form directive.Assert = λ e h. (h, tt, tt)
directive_form directive.Opt = λ e h. (h, tt, tt)
directive_form (directive.Constants item) = λ es h. (h, tt, tt)
directive_form directive.Space = λ e h. (h, tt, tt)
directive_form directive.Map = λ e h. (h, tt, tt)
directive_form directive.Field = λ e h. (h, tt, tt)
directive_form directive.Area = tt
directive_form directive.Rn = tt
directive_form directive.Align = tt
directive_form directive.FloatingPoint = tt
directive_form directive.Expansion = tt
directive_form d = (tt, tt, tt)

pub directive_fine : (text : List ℕ) (d : Directive) (ts : List Token) (r : Result DirectiveLine LineKind) → EachHasForm text ts
    → Reads text (form_of_directive d) ts r → Gives DirectiveFine r
directive_fine text d ts r f h = form_fine text (form_of_directive d) ts r f (directive_form d) h
