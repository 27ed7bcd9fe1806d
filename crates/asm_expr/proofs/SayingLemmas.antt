-- What a line says as a directive, from its readings, and that it says one thing.
use Rattle.std.proofs.Common.{◌≡◌, ℕ, List, [], ◌∷◌, Bool, true, false, refl, sym, ◌∙◌, ap, subst, Option, Some, None, map}
use Rattle.std.specs.Prelude.{Result, Ok, Err, IfOk, MatchBool}
use Rattle.sdt_fault.specs.declared.answer.Fault.{Fault}
use Rattle.sdt_fault.specs.declared.answer.Fault.TheVariants.{Refused, ReadFault, NoMemory}
use Rattle.sdt_fault.specs.declared.kinds.LineKind.{LineKind}
use Rattle.asm_model.specs.declared.lines.Flat.{Flat}
use Rattle.asm_model.specs.declared.tokens.Token.{Token}
use Rattle.asm_model.specs.declared.exprs.Expr.{Expr}
use Rattle.asm_model.specs.declared.directives.Directive.{Directive}
use Rattle.asm_model.specs.declared.directives.DirectiveLine.{DirectiveLine}
use Rattle.asm_model.specs.declared.statements.Statement.{Statement}
use Rattle.asm_model.specs.Areas.{ReadsAttribute, ReadsAttributes, begins_alignment, alignment, joined}
use Rattle.asm_model.specs.Grammar.{ParsesTokens}
use Rattle.asm_model.specs.Operands.{operands}
use Rattle.asm_model.specs.Parts.{part_of}
use Rattle.asm_model.specs.Readings.{mapped, on_both}
use Rattle.asm_model.specs.Says.{Form, bare, name, imported, expression, expressions, area, register, boundary, refused, Sentence, Said, statement_of, SaysAs, Expression, Expressions, SomeExpressions, Area, Register, Aligned, Reads, register_alone}
use Rattle.asm_model.specs.Told.{Told, ToldFault}
use Rattle.asm_expr.proofs.ParseLaws.{one_reading}

-- an answer for what was read

told_fault : {E : Type 0} (source : List ℕ) (number : ℕ) (P : Said → Type 0) (s : Result Said E) (f : Fault) → IfOk s P
    → ToldFault source number (λ x. s ≡ Ok x) f → ToldFault source number P f
told_fault source number P (Ok s) (Refused r) h k = let x : s ≡ Err k.0 = cc (k.2) in (k.0, k.1, subst P x h)
told_fault source number P (Err e) (Refused r) h k = absurd (let x = k.2 in cc)
told_fault source number P s (ReadFault n) h k = k
told_fault source number P s NoMemory h k = tt

pub told_said : {E : Type 0} (source : List ℕ) (number : ℕ) (P : Said → Type 0) (s : Result Said E) (r : Result (Option Statement) Fault) → IfOk s P
    → Told source number (λ x. s ≡ Ok x) r
    → Told source number P r
told_said source number P (Ok s) (Ok x) h k = let e : s ≡ Ok x = cc in subst P e h
told_said source number P (Err e) (Ok x) h k = absurd (cc)
told_said source number P s (Err f) h k = told_fault source number P s f h k

-- one outcome
one_expression : {A : Type 0} (text : List ℕ) (make : Expr → A) (ts : List Token) (a b : Result A LineKind) → Expression text make ts a
    → Expression text make ts b → a ≡ b
one_expression text make ts a b p q =
    p.2 ∙ ap (mapped make) (one_reading (map (part_of text) ts) p.0 q.0 p.1 q.1) ∙ sym q.2

one_list : (text : List ℕ) (os : List (List Token)) (a b : Result (List Expr) LineKind) → Expressions text os a → Expressions text os b → a ≡ b
one_list text [] a b p q = p ∙ sym q
one_list text (o ∷ os) a b p q =
    p.4 ∙ ap (λ e. on_both (λ x xs. x ∷ xs) e p.1) (one_reading (map (part_of text) o) p.0 q.0 p.2 q.2)
    ∙ ap (λ es. on_both (λ x xs. x ∷ xs) q.0 es) (one_list text os p.1 q.1 p.3 q.3) ∙ sym q.4

one_some : (text : List ℕ) (os : List (List Token)) (a b : Result (List Expr) LineKind) → SomeExpressions text os a → SomeExpressions text os b → a ≡ b
one_some text [] a b p q = p ∙ sym q
one_some text (o ∷ os) a b p q = one_list text (o ∷ os) a b p q

one_alignment : (text : List ℕ) (ts : List Token) (t : Bool) (n a b : Result (Option Expr) LineKind)
    → MatchBool t ((e : Result Expr LineKind) × ParsesTokens text ts e × (a ≡ alignment e)) (a ≡ n)
    → MatchBool t ((e : Result Expr LineKind) × ParsesTokens text ts e × (b ≡ alignment e)) (b ≡ n) → a ≡ b
one_alignment text ts true n a b p q = p.2 ∙ ap alignment (one_reading (map (part_of text) ts) p.0 q.0 p.1 q.1) ∙ sym q.2
one_alignment text ts false n a b p q = p ∙ sym q

one_attribute : (text : List ℕ) (o : List Token) (a b : Result (Option Expr) LineKind) → ReadsAttribute text o a → ReadsAttribute text o b → a ≡ b
one_attribute text [] a b p q = p ∙ sym q
one_attribute text (t ∷ []) a b p q = p ∙ sym q
one_attribute text (t ∷ u ∷ ts) a b p q = one_alignment text ts (begins_alignment text t u) _ a b p q

one_attributes : (text : List ℕ) (os : List (List Token)) (a b : Result (List Expr) LineKind) → ReadsAttributes text os a → ReadsAttributes text os b → a ≡ b
one_attributes text [] a b p q = p ∙ sym q
one_attributes text (o ∷ os) a b p q =
    p.4 ∙ ap (λ x. joined x p.1) (one_attribute text o p.0 q.0 p.2 q.2) ∙ ap (joined q.0) (one_attributes text os p.1 q.1 p.3 q.3) ∙ sym q.4

one_area : (text : List ℕ) (os : List (List Token)) (a b : Result DirectiveLine LineKind) → Area text os a → Area text os b → a ≡ b
one_area text [] a b p q = p ∙ sym q
one_area text (o ∷ os) a b p q = let e = one_attributes text os p.0 q.0 p.1 q.1 in let x = p.2 in let y = q.2 in rw (x, y, e) refl

one_register : (text : List ℕ) (n : Option ℕ) (ts : List Token) (a b : Result DirectiveLine LineKind) → Register text n ts a → Register text n ts b → a ≡ b
one_register text (Some n) ts a b p q = p ∙ sym q
one_register text None ts a b p q = one_expression text _ ts a b p q

one_boundary : (text : List ℕ) (os : List (List Token)) (a b : Result DirectiveLine LineKind) → Aligned text os a → Aligned text os b → a ≡ b
one_boundary text [] a b p q = p ∙ sym q
one_boundary text (o ∷ []) a b p q = one_expression text _ o a b p q
one_boundary text (o ∷ u ∷ []) a b p q =
    let e = one_reading (map (part_of text) o) p.0 q.0 p.2 q.2 in
    let f = one_reading (map (part_of text) u) p.1 q.1 p.3 q.3 in
    let x = p.4 in
    let y = q.4 in
    rw (x, y, e, f) refl
one_boundary text (o ∷ u ∷ v ∷ os) a b p q = p ∙ sym q

one_reads : (text : List ℕ) (form : Form) (ts : List Token) (a b : Result DirectiveLine LineKind) → Reads text form ts a → Reads text form ts b → a ≡ b
one_reads text (bare l) ts a b p q = p ∙ sym q
one_reads text (name make) ts a b p q = p ∙ sym q
one_reads text (imported make) ts a b p q = p ∙ sym q
one_reads text (expression make) ts a b p q = one_expression text make ts a b p q
one_reads text (expressions make) ts a b p q = p.2 ∙ ap (mapped make) (one_some text (operands text ts) p.0 q.0 p.1 q.1) ∙ sym q.2
one_reads text area ts a b p q = one_area text (operands text ts) a b p q
one_reads text register ts a b p q = one_register text (register_alone text ts) ts a b p q
one_reads text boundary ts a b p q = one_boundary text (operands text ts) a b p q
one_reads text (refused k) ts a b p q = p ∙ sym q

pub one_saying : (flat : Flat) (s : Sentence) (d : Option Directive) (a b : Result (Option Statement) LineKind) → SaysAs flat s d a → SaysAs flat s d b → a ≡ b
one_saying flat s None a b p q = p ∙ sym q
one_saying flat s (Some d) a b p q =
    p.2 ∙ ap (on_both (statement_of flat) _) (one_reads flat.text _ s.behind p.0 q.0 p.1 q.1) ∙ sym q.2
