-- What is told of sets of kinds.
use Rattle.std.proofs.Common.{◌≡◌, ℕ, ◌≤◌, List, [], ◌∷◌, ◌++◌, Bool, true, false, refl, sym, ◌∙◌, ap, subst, arith, inl, inr, map, Option, Some, None}
use Rattle.std.specs.Prelude.{◌⊎◌, Result, Ok, Err, MatchBool}
use Rattle.sdt_fault.specs.declared.kinds.LineKind.{LineKind}
use Rattle.sdt_fault.specs.declared.kinds.LineKind.TheVariants.{Syntax}
use Rattle.asm_model.specs.declared.lines.Flat.{Flat}
use Rattle.asm_model.specs.declared.tokens.Token.{Token}
use Rattle.asm_model.specs.declared.exprs.Expr.{Expr}
use Rattle.asm_model.specs.declared.exprs.Part.{Part}
use Rattle.asm_model.specs.declared.exprs.UnaryOp.{UnaryOp}
use Rattle.asm_model.specs.declared.exprs.BinaryOp.{BinaryOp}
use Rattle.asm_model.specs.declared.values.Value.{Value}
use Rattle.asm_model.specs.declared.names.Names.{Names}
use Rattle.asm_model.specs.declared.directives.Directive.{Directive}
use Rattle.asm_model.specs.declared.directives.DirectiveLine.{DirectiveLine}
use Rattle.asm_model.specs.declared.directives.DirectiveLine.TheVariants as line
use Rattle.asm_model.specs.declared.directives.Boundary.TheVariants as limit
use Rattle.asm_model.specs.declared.statements.Statement.{Statement}
use Rattle.asm_model.specs.Areas.{ReadsAttribute, ReadsAttributes, word_attribute, begins_alignment, alignment, attributes_written, listed}
use Rattle.asm_model.specs.Directives.{label_need}
use Rattle.asm_model.specs.FaultSets.{IsToldOf, fault, first_told, Among, FailsBefore, FailsBetween, HasKind, OperandsKind, SomeOperandsKind, ImportKind, AttributeKind, AttributesKind, AreaKind, RegisterKind, BoundaryKind, FormKind, SentenceKind, DirectiveKind}
use Rattle.asm_model.specs.Grammar.{Tree, Leaf, Before, Between, Parses, ParsesTokens}
use Rattle.asm_model.specs.Kinds.{rank, earlier, earliest, told_kind}
use Rattle.asm_model.specs.Meaning.{unary_of, binary, applied, known, operand_of_item, meaning}
use Rattle.asm_model.specs.Operands.{operands}
use Rattle.asm_model.specs.Parts.{piece, part_of}
use Rattle.asm_model.specs.Readings.{and_then, mapped, on_both, then_both}
use Rattle.asm_model.specs.Says.{Form, bare, name, imported, expression, expressions, area, register, boundary, refused, form_of_directive, bare_of, name_of, name_alone, import_mark, import_of, register_alone, Expression, Expressions, SomeExpressions, Area, Register, Aligned, Reads, label_field, Sentence, sentence, directive_of, statement_of, SaysAs, SaysDirective}
use Rattle.asm_model.proofs.KindLemmas.{is_earlier, earlier_assoc}
use Rattle.asm_model.proofs.LineLemmas.{applied_known}

-- ---- sets

-- what is told of two sets is told of their union
pub told_union : (a b : Option LineKind) (A B : LineKind → Type 0) → IsToldOf a A → IsToldOf b B → IsToldOf (first_told a b) (λ k. A k ⊎ B k)
told_union None None A B p q = λ k h. elim h [ inl x ↦ p k x | inr y ↦ q k y ]
told_union None (Some j) A B p q = (inr q.0, λ i h. elim h [ inl x ↦ absurd (p i x) | inr y ↦ q.1 i y ])
told_union (Some k) None A B p q = (inl p.0, λ i h. elim h [ inl x ↦ p.1 i x | inr y ↦ absurd (q i y) ])
told_union (Some k) (Some j) A B p q =
    let least = is_earlier k j in (
      elim least.one [ inl e ↦ inl (subst A (sym e) p.0) | inr e ↦ inr (subst B (sym e) q.0) ],
      λ i h. elim h [
        | inl x ↦ (let below = p.1 i x in let first = least.first in omega arith)
        | inr y ↦ (let below = q.1 i y in let second = least.second in omega arith)
      ],
    )

-- the fault that a result has by itself
pub told_self : {X : Type 0} (r : Result X LineKind) → IsToldOf (fault r) (λ k. r ≡ Err k)
told_self (Ok x) = λ k h. absurd (cc)
told_self (Err k) = (refl, λ j h. (let same : k ≡ j = cc in let equal = ap rank same in omega arith))

-- one kind
pub told_kind_alone : (k : LineKind) → IsToldOf (Some k) (λ j. j ≡ k)
told_kind_alone k = (refl, λ j h. (let equal = ap rank h in omega arith))

-- a set that has the same kinds
pub told_same : (o : Option LineKind) (A B : LineKind → Type 0) → ((k : LineKind) → A k → B k) → ((k : LineKind) → B k → A k) → IsToldOf o A → IsToldOf o B
told_same None A B f g p = λ k h. p k (g k h)
told_same (Some k) A B f g p = (f k p.0, λ j h. p.1 j (g j h))

-- ---- lists of kinds

pub earliest_told : (k : LineKind) (ks : List LineKind) → Some (earliest k ks) ≡ first_told (Some k) (told_kind ks)
earliest_told k [] = refl
earliest_told k (j ∷ js) =
    earliest_told (earlier k j) js ∙ moved (told_kind js) ∙ ap (first_told (Some k)) (sym (earliest_told j js))
  where
    moved : (o : Option LineKind) → first_told (Some (earlier k j)) o ≡ first_told (Some k) (first_told (Some j) o)
    moved None = refl
    moved (Some i) = ap Some (sym (earlier_assoc k j i))

pub first_assoc : (a b c : Option LineKind) → first_told a (first_told b c) ≡ first_told (first_told a b) c
first_assoc None b c = refl
first_assoc (Some k) None c = refl
first_assoc (Some k) (Some j) None = refl
first_assoc (Some k) (Some j) (Some i) = ap Some (earlier_assoc k j i)

pub told_by_parts : (ks js : List LineKind) → told_kind (ks ++ js) ≡ first_told (told_kind ks) (told_kind js)
told_by_parts [] js = refl
told_by_parts (k ∷ ks) js =
    earliest_told k (ks ++ js) ∙ ap (first_told (Some k)) (told_by_parts ks js)
    ∙ first_assoc (Some k) (told_kind ks) (told_kind js) ∙ ap (λ o. first_told o (told_kind js)) (sym (earliest_told k ks))

pub told_of_all : (ks : List LineKind) → IsToldOf (told_kind ks) (Among ks)
told_of_all [] = λ k h. h
told_of_all (k ∷ ks) =
    subst (λ o. IsToldOf o (Among (k ∷ ks))) (sym (earliest_told k ks))
    (told_union (Some k) (told_kind ks) (λ j. j ≡ k) (Among ks) (told_kind_alone k) (told_of_all ks))

-- ---- values

pub told_before : (op : UnaryOp) (A : LineKind → Type 0) (x : Result Value LineKind) → IsToldOf (fault x) A
    → IsToldOf (fault (and_then x (unary_of op))) (λ k. A k ⊎ FailsBefore op x k)
told_before op A (Err k) p =
    (inl p.0, λ j h. elim h [ inl a ↦ p.1 j a | inr f ↦ (let clash = f.1 in absurd (cc)) ])
told_before op A (Ok v) p = by_value (unary_of op v) refl
  where
    by_value : (r : Result Value LineKind) → unary_of op v ≡ r → IsToldOf (fault r) (λ k. A k ⊎ FailsBefore op (Ok v) k)
    by_value (Ok w) e = λ k h. elim h [ inl a ↦ p k a | inr f ↦ (let x = f.1 in let y = f.2 in cc) ]
    by_value (Err k) e = (
      inr (v, refl, e),
      λ j h. elim h [
        | inl a ↦ absurd (p j a)
        | inr f ↦ (let x = f.1 in let y = f.2 in let same : k ≡ j = cc in let equal = ap rank same in omega arith)
      ],
    )

pub told_between : (names : Names) (op : BinaryOp) (A B : LineKind → Type 0) (x y : Result Value LineKind) → IsToldOf (fault x) A → IsToldOf (fault y) B
    → IsToldOf (fault (then_both x y (binary names op))) (λ k. A k ⊎ (B k ⊎ FailsBetween names op x y k))
told_between names op A B (Ok v) (Err k) p q = (
  inr (inl q.0),
  λ j h. elim h [
    | inl a ↦ absurd (p j a)
    | inr g ↦ elim g [ inl b ↦ q.1 j b | inr f ↦ (let clash = f.3 in absurd (cc)) ]
  ],
)
told_between names op A B (Err k) (Ok w) p q = (
  inl p.0,
  λ j h. elim h [
    | inl a ↦ p.1 j a
    | inr g ↦ elim g [ inl b ↦ absurd (q j b) | inr f ↦ (let clash = f.2 in absurd (cc)) ]
  ],
)
told_between names op A B (Err k) (Err j) p q =
    told_same (Some (earlier k j)) (λ i. A i ⊎ B i) (λ i. A i ⊎ (B i ⊎ FailsBetween names op (Err k) (Err j) i))
    (λ i h. elim h [ inl a ↦ inl a | inr b ↦ inr (inl b) ])
    (λ i h. elim h [ inl a ↦ inl a | inr g ↦ elim g [ inl b ↦ inr b | inr f ↦ (let clash = f.2 in absurd (cc)) ] ])
    (told_union (Some k) (Some j) A B p q)
told_between names op A B (Ok v) (Ok w) p q = by_value (binary names op v w) refl
  where
    by_value : (r : Result Value LineKind) → binary names op v w ≡ r → IsToldOf (fault r) (λ k. A k ⊎ (B k ⊎ FailsBetween names op (Ok v) (Ok w) k))
    by_value (Ok u) e =
        λ k h. elim h [
          | inl a ↦ p k a
          | inr g ↦ elim g [ inl b ↦ q k b | inr f ↦ (let x = f.2 in let y = f.3 in let z = f.4 in cc) ]
        ]
    by_value (Err k) e = (
      inr (inr (v, w, refl, refl, e)),
      λ j h. elim h [
        | inl a ↦ absurd (p j a)
        | inr g ↦ elim g [
          | inl b ↦ absurd (q j b)
          | inr f ↦ (let x = f.2 in let y = f.3 in let z = f.4 in let same : k ≡ j = cc in let equal = ap rank same in omega arith)
        ]
      ],
    )

pub told_of_values : (names : Names) (t : Tree) → IsToldOf (fault (meaning names t)) (HasKind names t)
told_of_values names (Leaf i) = told_self (known (operand_of_item names i))
told_of_values names (Before op (Leaf i)) = told_self (applied op (operand_of_item names i))
told_of_values names (Before op (Before o t)) =
    rw (applied_known op (meaning names (Before o t))) (told_before op (HasKind names (Before o t)) (meaning names (Before o t))
    (told_of_values names (Before o t)))
told_of_values names (Before op (Between o t u)) =
    rw (applied_known op (meaning names (Between o t u))) (told_before op (HasKind names (Between o t u)) (meaning names (Between o t u))
    (told_of_values names (Between o t u)))
told_of_values names (Between op t u) =
    told_between names op (HasKind names t) (HasKind names u) (meaning names t) (meaning names u) (told_of_values names t) (told_of_values names u)

-- ---- directives

-- readings
pub told_mapped : {X Y : Type 0} (f : X → Y) (r : Result X LineKind) (A : LineKind → Type 0) → IsToldOf (fault r) A → IsToldOf (fault (mapped f r)) A
told_mapped f (Ok x) A p = p
told_mapped f (Err k) A p = p

pub told_both : {X Y Z : Type 0} (f : X → Y → Z) (r : Result X LineKind) (s : Result Y LineKind) (A B : LineKind → Type 0)
    → IsToldOf (fault r) A → IsToldOf (fault s) B → IsToldOf (fault (on_both f r s)) (λ k. A k ⊎ B k)
told_both f (Ok x) (Ok y) A B p q = told_union None None A B p q
told_both f (Ok x) (Err j) A B p q = told_union None (Some j) A B p q
told_both f (Err k) (Ok y) A B p q = told_union (Some k) None A B p q
told_both f (Err k) (Err j) A B p q = told_union (Some k) (Some j) A B p q

pub not_parsed : (ps : List Part) (e : Expr) (k : LineKind) → Parses ps (Ok e) → Parses ps (Err k) → ⊥
not_parsed ps e k p q = q.1 p.0 p.1

pub one_kind : (ps : List Part) (k j : LineKind) → Parses ps (Err k) → Parses ps (Err j) → k ≡ j
one_kind ps k j p q = p.0 ∙ sym q.0

pub told_parsed : (text : List ℕ) (ts : List Token) (e : Result Expr LineKind) → ParsesTokens text ts e → IsToldOf (fault e) (λ k. ParsesTokens text ts (Err k))
told_parsed text ts (Ok e) p = λ k q. not_parsed (map (part_of text) ts) e k p q
told_parsed text ts (Err k) p = (p, λ j q. (let equal = ap rank (one_kind (map (part_of text) ts) k j p q) in omega arith))

pub told_expression : {X : Type 0} (text : List ℕ) (make : Expr → X) (ts : List Token) (r : Result X LineKind) → Expression text make ts r
    → IsToldOf (fault r) (λ k. ParsesTokens text ts (Err k))
told_expression text make ts r p = rw (p.2) (told_mapped make p.0 (λ k. ParsesTokens text ts (Err k)) (told_parsed text ts p.0 p.1))

pub told_expressions : (text : List ℕ) (os : List (List Token)) (r : Result (List Expr) LineKind) → Expressions text os r
    → IsToldOf (fault r) (OperandsKind text os)
told_expressions text [] r p = rw p (λ k h. h)
told_expressions text (o ∷ os) r p =
    rw (p.4) (told_both (λ x xs. x ∷ xs) p.0 p.1 (λ k. ParsesTokens text o (Err k)) (OperandsKind text os) (told_parsed text o p.0 p.2)
    (told_expressions text os p.1 p.3))

pub told_some : (text : List ℕ) (os : List (List Token)) (r : Result (List Expr) LineKind) → SomeExpressions text os r
    → IsToldOf (fault r) (SomeOperandsKind text os)
told_some text [] r p = rw p (told_kind_alone Syntax)
told_some text (o ∷ os) r p = told_expressions text (o ∷ os) r p

pub told_import : (text : List ℕ) (ts : List Token) → IsToldOf (fault (import_of text ts)) (ImportKind text ts)
told_import text [] = told_kind_alone Syntax
told_import text (t ∷ ts) =
    told_both (λ n m. (n, m)) (name_of t.kind (piece text t)) (import_mark text ts) (λ k. name_of t.kind (piece text t) ≡ Err k)
    (λ k. import_mark text ts ≡ Err k)
    (told_self (name_of t.kind (piece text t))) (told_self (import_mark text ts))

pub told_alignment : (text : List ℕ) (ts : List Token) (b : Bool) (r : Result (Option Expr) LineKind)
    → MatchBool b ((e : Result Expr LineKind) × ParsesTokens text ts e × (r ≡ alignment e)) (r ≡ Err Syntax)
    → IsToldOf (fault r) (λ k. MatchBool b (ParsesTokens text ts (Err k)) (k ≡ Syntax))
told_alignment text ts true r p = rw (p.2) (by_reading p.0 p.1)
  where
    by_reading : (e : Result Expr LineKind) → ParsesTokens text ts e → IsToldOf (fault (alignment e)) (λ k. ParsesTokens text ts (Err k))
    by_reading (Ok e) q = told_parsed text ts (Ok e) q
    by_reading (Err k) q = told_parsed text ts (Err k) q
told_alignment text ts false r p = rw p (told_kind_alone Syntax)

pub told_attribute : (text : List ℕ) (o : List Token) (r : Result (Option Expr) LineKind) → ReadsAttribute text o r → IsToldOf (fault r) (AttributeKind text o)
told_attribute text [] r p = rw p (told_kind_alone Syntax)
told_attribute text (t ∷ []) r p = rw p (told_self (word_attribute t.kind (piece text t)))
told_attribute text (t ∷ u ∷ ts) r p = told_alignment text ts (begins_alignment text t u) r p

pub told_attributes : (text : List ℕ) (os : List (List Token)) (r : Result (List Expr) LineKind) → ReadsAttributes text os r
    → IsToldOf (fault r) (AttributesKind text os)
told_attributes text [] r p = rw p (λ k h. h)
told_attributes text (o ∷ os) r p =
    rw (p.4) (told_both (λ e es. listed e ++ es) p.0 p.1 (AttributeKind text o) (AttributesKind text os) (told_attribute text o p.0 p.2)
    (told_attributes text os p.1 p.3))

pub told_area : (text : List ℕ) (os : List (List Token)) (r : Result DirectiveLine LineKind) → Area text os r → IsToldOf (fault r) (AreaKind text os)
told_area text [] r p = rw p (told_kind_alone Syntax)
told_area text (o ∷ os) r p =
    rw (p.2) (told_both (λ n attributes. line.Area n attributes) (name_alone text o) (mapped (attributes_written text os) p.0)
    (λ k. name_alone text o ≡ Err k) (AttributesKind text os) (told_self (name_alone text o))
    (told_mapped (attributes_written text os) p.0 (AttributesKind text os) (told_attributes text os p.0 p.1)))

pub told_register : (text : List ℕ) (n : Option ℕ) (ts : List Token) (r : Result DirectiveLine LineKind) → Register text n ts r
    → IsToldOf (fault r) (RegisterKind text n ts)
told_register text (Some n) ts r p = rw p (λ k h. h)
told_register text None ts r p = told_expression text _ ts r p

pub told_boundary : (text : List ℕ) (os : List (List Token)) (r : Result DirectiveLine LineKind) → Aligned text os r → IsToldOf (fault r) (BoundaryKind text os)
told_boundary text [] r p = rw p (λ k h. h)
told_boundary text (o ∷ []) r p = told_expression text _ o r p
told_boundary text (o ∷ u ∷ []) r p =
    rw (p.4) (told_both (λ multiple offset. line.Align (limit.Behind multiple offset)) p.0 p.1
    (λ k. ParsesTokens text o (Err k)) (λ k. ParsesTokens text u (Err k)) (told_parsed text o p.0 p.2) (told_parsed text u p.1 p.3))
told_boundary text (o ∷ u ∷ v ∷ os) r p = rw p (told_kind_alone Syntax)

pub told_form : (text : List ℕ) (form : Form) (ts : List Token) (r : Result DirectiveLine LineKind) → Reads text form ts r
    → IsToldOf (fault r) (FormKind text form ts)
told_form text (bare l) ts r p = rw p (told_self (bare_of l ts))
told_form text (name make) ts r p = rw p (told_mapped make (name_alone text ts) (λ k. name_alone text ts ≡ Err k) (told_self (name_alone text ts)))
told_form text (imported make) ts r p = rw p (told_mapped (λ i. make i.0 i.1) (import_of text ts) (ImportKind text ts) (told_import text ts))
told_form text (expression make) ts r p = told_expression text make ts r p
told_form text (expressions make) ts r p =
    rw (p.2) (told_mapped make p.0 (SomeOperandsKind text (operands text ts)) (told_some text (operands text ts) p.0 p.1))
told_form text area ts r p = told_area text (operands text ts) r p
told_form text register ts r p = told_register text (register_alone text ts) ts r p
told_form text boundary ts r p = told_boundary text (operands text ts) r p
told_form text (refused k) ts r p = rw p (told_kind_alone k)

pub told_sentence : (flat : Flat) (s : Sentence) (d : Option Directive) (r : Result (Option Statement) LineKind) → SaysAs flat s d r
    → IsToldOf (fault r) (SentenceKind flat s d)
told_sentence flat s None r p = rw p (λ k h. h)
told_sentence flat s (Some d) r p =
    rw (p.2) (told_both (statement_of flat) (label_field (label_need d) flat.text s.label) p.0
    (λ k. label_field (label_need d) flat.text s.label ≡ Err k) (FormKind flat.text (form_of_directive d) s.behind)
    (told_self (label_field (label_need d) flat.text s.label)) (told_form flat.text (form_of_directive d) s.behind p.0 p.1))

pub told_of_directives : (flat : Flat) (ts : List Token) (r : Result (Option Statement) LineKind) → SaysDirective flat ts r
    → IsToldOf (fault r) (DirectiveKind flat ts)
told_of_directives flat ts r p = told_sentence flat (sentence ts) (directive_of flat.text (sentence ts).operation) r p
