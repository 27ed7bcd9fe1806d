-- What naming keeps: statements are as lines say them, with the names for local labels too.
use Rattle.std.proofs.Common.{◌≡◌, ◌≢◌, ℕ, zero, suc, ◌+◌, ◌/◌, ◌%◌, List, [], ◌∷◌, ◌++◌, length, map, Bool, true, false, cond, refl, sym, ◌∙◌, ap, subst, arith, Option, Some, None, nat_lt}
use Rattle.std.specs.List.{AllByRecursion}
use Rattle.std.specs.Fmt.{digit_glyph}
use Rattle.sdt_fault.specs.Digits.{hexadecimal_places}
use Rattle.asm_model.specs.declared.exprs.Expr.{Expr}
use Rattle.asm_model.specs.declared.exprs.ExprItem.{ExprItem}
use Rattle.asm_model.specs.declared.exprs.ExprItem.TheVariants as item
use Rattle.asm_model.specs.declared.exprs.Part.{Part}
use Rattle.asm_model.specs.declared.exprs.Part.TheVariants as part
use Rattle.asm_model.specs.declared.operands.Shift.{Shift}
use Rattle.asm_model.specs.declared.operands.Shift.TheVariants as shift
use Rattle.asm_model.specs.declared.operands.Address.{Address}
use Rattle.asm_model.specs.declared.operands.Address.TheVariants as address
use Rattle.asm_model.specs.declared.operands.HalfOffset.{HalfOffset}
use Rattle.asm_model.specs.declared.operands.HalfOffset.TheVariants as half
use Rattle.asm_model.specs.declared.operands.LiteralAddress.{LiteralAddress}
use Rattle.asm_model.specs.declared.operands.LiteralAddress.TheVariants as literal
use Rattle.asm_model.specs.declared.operands.ThumbOperand.{ThumbOperand}
use Rattle.asm_model.specs.declared.operands.ThumbOperand.TheVariants as last
use Rattle.asm_model.specs.declared.arm_lines.ArmLine.{ArmLine}
use Rattle.asm_model.specs.declared.arm_lines.ArmLine.TheVariants as arm
use Rattle.asm_model.specs.declared.thumb_lines.ThumbLine.{ThumbLine}
use Rattle.asm_model.specs.declared.thumb_lines.ThumbLine.TheVariants as thumb
use Rattle.asm_model.specs.declared.directives.Boundary.{Boundary}
use Rattle.asm_model.specs.declared.directives.Boundary.TheVariants as limit
use Rattle.asm_model.specs.declared.directives.RnOperand.{RnOperand}
use Rattle.asm_model.specs.declared.directives.RnOperand.TheVariants as rn
use Rattle.asm_model.specs.declared.directives.DirectiveLine.{DirectiveLine}
use Rattle.asm_model.specs.declared.directives.DirectiveLine.TheVariants as line
use Rattle.asm_model.specs.declared.statements.PseudoLine.{PseudoLine}
use Rattle.asm_model.specs.declared.statements.PseudoLine.TheVariants as pseudo
use Rattle.asm_model.specs.declared.statements.Statement.{Statement}
use Rattle.asm_model.specs.declared.statements.What.{What}
use Rattle.asm_model.specs.declared.statements.What.TheVariants as what
use Rattle.asm_model.specs.Grammar.{Tree, Leaf, Before, Between, postfix, plain, operand_of, before_of, between_of, Spells, operand, of_name, before, grouped, between, tighter}
use Rattle.asm_model.specs.Sound.{HasNoPlace, HaveNoPlaces}
use Rattle.asm_model.proofs.SaidLemmas.{IsText, MarksFit, IsFine}
use Rattle.asm_model.specs.Named.{ItemNamed, AllItemsNamed}
use Rattle.asm_model.specs.Said.{IsRead, AllRead, ShiftSaid, AddressSaid, HalfOffsetSaid, ArmSaid, ThumbOperandSaid, LiteralSaid, ThumbSaid, PseudoSaid, BoundaryRead, GivenSaid, DirectiveSaid, WhatSaid, what_names, label_names, HoldsNoZero}
use Rattle.asm_locals.specs.Labels.{local_number, target}
use Rattle.asm_locals.specs.Naming.{Targets, hidden_name, reference, named_item, named, all_named, named_shift, named_address, named_half, named_arm, named_operand, named_literal, named_thumb, named_pseudo, named_boundary, named_register, named_directive, named_what, named_label, named_behind, in_names}

-- ---- expressions are spelled

abbrev named_part : Targets → Part → Part
named_part t (part.Operand i) = part.Operand (named_item t i)
named_part t p = p

abbrev named_tree : Targets → Tree → Tree
named_tree t (Leaf i) = Leaf (named_item t i)
named_tree t (Before op u) = Before op (named_tree t u)
named_tree t (Between op u v) = Between op (named_tree t u) (named_tree t v)

plain_reference : (text : List ℕ) (o : Option ℕ) → plain (reference text o) ≡ Some (reference text o)
plain_reference text None = refl
plain_reference text (Some k) = refl

plain_named : (t : Targets) (j i : ExprItem) → plain j ≡ Some i → plain (named_item t j) ≡ Some (named_item t i)
plain_named t (item.Local text) i e = let x : item.Local text ≡ i = cc in
    subst (λ z. plain (reference text (t text)) ≡ Some (named_item t z)) x (plain_reference text (t text))
plain_named t (item.Unary op) i e = absurd (cc)
plain_named t (item.Binary op) i e = absurd (cc)
plain_named t j i e = let x : j ≡ i = cc in rw (← x) refl

operand_named : (t : Targets) (p : Part) (i : ExprItem) → operand_of p ≡ Some i → operand_of (named_part t p) ≡ Some (named_item t i)
operand_named t (part.Operand j) i e = plain_named t j i e
operand_named t p i e = absurd (cc)

before_kept : (t : Targets) (p : Part) → before_of (named_part t p) ≡ before_of p
before_kept t (part.Operand i) = refl
before_kept t p = refl

between_kept : (t : Targets) (p : Part) → between_of (named_part t p) ≡ between_of p
between_kept t (part.Operand i) = refl
between_kept t p = refl

map_joined : {A B : Type 0} (f : A → B) (xs ys : List A) → map f (xs ++ ys) ≡ map f xs ++ map f ys
map_joined f [] ys = refl
map_joined f (x ∷ xs) ys = ap (λ z. f x ∷ z) (map_joined f xs ys)

spelled_named : (t : Targets) (l : ℕ) (ps : List Part) (u : Tree) → Spells l ps u → Spells l (map (named_part t) ps) (named_tree t u)
spelled_named t l ps u (operand p i e) = operand (named_part t p) (named_item t i) (operand_named t p i e)
spelled_named t l ps u (of_name op n) = of_name op n
spelled_named t l ps u (before p op qs v e d) =
    before (named_part t p) op (map (named_part t) qs) (named_tree t v) (before_kept t p ∙ e) (spelled_named t 0 qs v d)
spelled_named t l ps u (grouped qs v d) =
    subst (λ z. Spells 0 (part.Open ∷ z) (named_tree t v)) (sym (map_joined (named_part t) qs (part.Close ∷ [])))
    (grouped (map (named_part t) qs) (named_tree t v) (spelled_named t 6 qs v d))
spelled_named t l ps u (between k p op qs rs v w e lev d r) =
    subst (λ z. Spells (suc k) z (Between op (named_tree t v) (named_tree t w))) (sym (map_joined (named_part t) qs (p ∷ rs)))
    (between k (named_part t p) op (map (named_part t) qs) (map (named_part t) rs) (named_tree t v) (named_tree t w) (between_kept t p ∙ e) lev
    (spelled_named t (suc k) qs v d) (spelled_named t k rs w r))
spelled_named t l ps u (tighter k qs v d) = tighter k (map (named_part t) qs) (named_tree t v) (spelled_named t k qs v d)

postfix_named : (t : Targets) (u : Tree) → map (named_item t) (postfix u) ≡ postfix (named_tree t u)
postfix_named t (Leaf i) = refl
postfix_named t (Before op u) = map_joined (named_item t) (postfix u) (item.Unary op ∷ []) ∙ ap (λ z. z ++ item.Unary op ∷ []) (postfix_named t u)
postfix_named t (Between op u v) =
    map_joined (named_item t) (postfix u ++ postfix v) (item.Binary op ∷ [])
    ∙ ap (λ z. z ++ item.Binary op ∷ []) (map_joined (named_item t) (postfix u) (postfix v) ∙ rw (postfix_named t u, postfix_named t v) refl)

-- ---- constants and names in them

place_named : (t : Targets) (i : ExprItem) → HasNoPlace i → HasNoPlace (named_item t i)
place_named t (item.Local text) h = by_target (t text)
  where
    by_target : (o : Option ℕ) → HasNoPlace (reference text o)
    by_target None = tt
    by_target (Some k) = tt
place_named t i h = h

places_named : (t : Targets) (is : List ExprItem) → HaveNoPlaces is → HaveNoPlaces (map (named_item t) is)
places_named t [] h = tt
places_named t (i ∷ is) h = (place_named t i h.0, places_named t is h.1)

character_named : (t : Targets) (i : ExprItem) → ItemNamed i → ItemNamed (named_item t i)
character_named t (item.Local text) h = by_target (t text)
  where
    by_target : (o : Option ℕ) → ItemNamed (reference text o)
    by_target None = tt
    by_target (Some k) = tt
character_named t i h = h

characters_named : (t : Targets) (is : List ExprItem) → AllItemsNamed is → AllItemsNamed (map (named_item t) is)
characters_named t [] h = tt
characters_named t (i ∷ is) h = (character_named t i h.0, characters_named t is h.1)

-- ---- what lines say

read_named : (t : Targets) (e : Expr) → IsRead e → IsRead (named t e)
read_named t e h = record {
  parts = map (named_part t) h.parts;
  tree = named_tree t h.tree;
  spelled = spelled_named t 6 h.parts h.tree h.spelled;
  items = ap (map (named_item t)) h.items ∙ postfix_named t h.tree;
  plain = places_named t e.items h.plain;
  named = characters_named t e.items h.named;
}

all_read : (t : Targets) (es : List Expr) → AllRead es → AllRead (all_named t es)
all_read t [] h = tt
all_read t (e ∷ es) h = (read_named t e h.0, all_read t es h.1)

shift_named : (t : Targets) (s : Shift) → ShiftSaid s → ShiftSaid (named_shift t s)
shift_named t (shift.By kind e) h = read_named t e h
shift_named t shift.Unshifted h = tt
shift_named t shift.Extended h = tt

address_named : (t : Targets) (a : Address) → AddressSaid a → AddressSaid (named_address t a)
address_named t (address.Based r ix e) h = (h.0, read_named t e h.1)
address_named t (address.Label e) h = read_named t e h

half_named : (t : Targets) (o : HalfOffset) → HalfOffsetSaid o → HalfOffsetSaid (named_half t o)
half_named t (half.Number e) h = read_named t e h
half_named t (half.Register subtract rm) h = h

arm_named : (t : Targets) (l : ArmLine) → ArmSaid l → ArmSaid (named_arm t l)
arm_named t (arm.DataImmediate condition operation set_flags rd rn e) h = (h.0, h.1, h.2, read_named t e h.3)
arm_named t (arm.DataShifted condition operation set_flags rd rn rm by) h = (h.0, h.1, h.2, h.3, shift_named t by h.4)
arm_named t (arm.WriteStatusImmediate condition fields e) h = (h.0, read_named t e h.1)
arm_named t (arm.TransferImmediate condition load byte rd a) h = (h.0, address_named t a h.1)
arm_named t (arm.TransferShifted condition load byte rd rn ix subtract rm by) h = (h.0, h.1, h.2, shift_named t by h.3)
arm_named t (arm.TransferHalf condition load kind rd rn ix o) h = (h.0, h.1, h.2, h.3, half_named t o h.4)
arm_named t (arm.Branch condition link e) h = read_named t e h
arm_named t (arm.SoftwareInterrupt condition e) h = read_named t e h
arm_named t (arm.DataRegisterShifted condition operation set_flags rd rn rm kind rs) h = h
arm_named t (arm.Multiply condition accumulate set_flags rd rm rs rn) h = h
arm_named t (arm.MultiplyLong condition signed accumulate set_flags low high rm rs) h = h
arm_named t (arm.Swap condition byte rd rm rn) h = h
arm_named t (arm.BranchExchange condition rm) h = h
arm_named t (arm.ReadStatus condition status rd) h = h
arm_named t (arm.WriteStatus condition fields rm) h = h
arm_named t (arm.TransferBlock condition load mode rn write_back list user) h = h

operand_said : (t : Targets) (o : ThumbOperand) → ThumbOperandSaid o → ThumbOperandSaid (named_operand t o)
operand_said t (last.Number e) h = read_named t e h
operand_said t (last.Register rn) h = h

literal_named : (t : Targets) (a : LiteralAddress) → LiteralSaid a → LiteralSaid (named_literal t a)
literal_named t (literal.Offset e) h = read_named t e h
literal_named t (literal.Label e) h = read_named t e h

thumb_named : (t : Targets) (l : ThumbLine) → ThumbSaid l → ThumbSaid (named_thumb t l)
thumb_named t (thumb.ShiftImmediate by rd rs e) h = (h.0, h.1, read_named t e h.2)
thumb_named t (thumb.AddSubtract subtract rd rs o) h = (h.0, h.1, operand_said t o h.2)
thumb_named t (thumb.DataImmediate operation rd e) h = (h.0, read_named t e h.1)
thumb_named t (thumb.LoadLiteral rd a) h = (h.0, literal_named t a h.1)
thumb_named t (thumb.TransferImmediate load byte rd rn e) h = (h.0, h.1, read_named t e h.2)
thumb_named t (thumb.TransferHalf load rd rn e) h = (h.0, h.1, read_named t e h.2)
thumb_named t (thumb.TransferStack load rd e) h = (h.0, read_named t e h.1)
thumb_named t (thumb.LoadAddress stack rd e) h = (h.0, read_named t e h.1)
thumb_named t (thumb.AdjustStack subtract e) h = read_named t e h
thumb_named t (thumb.BranchConditional condition e) h = (h.0, read_named t e h.1)
thumb_named t (thumb.SoftwareInterrupt e) h = read_named t e h
thumb_named t (thumb.Branch e) h = read_named t e h
thumb_named t (thumb.BranchLink e) h = read_named t e h
thumb_named t l h = h

pseudo_named : (t : Targets) (l : PseudoLine) → PseudoSaid l → PseudoSaid (named_pseudo t l)
pseudo_named t (pseudo.LoadConstant condition rd e) h = (h.0, read_named t e h.1)
pseudo_named t (pseudo.Address condition rd e) h = (h.0, read_named t e h.1)
pseudo_named t (pseudo.LongAddress condition rd e) h = (h.0, read_named t e h.1)
pseudo_named t pseudo.NoOperation h = tt

boundary_named : (t : Targets) (b : Boundary) → BoundaryRead b → BoundaryRead (named_boundary t b)
boundary_named t limit.Word h = tt
boundary_named t (limit.Multiple e) h = read_named t e h
boundary_named t (limit.Behind e f) h = (read_named t e h.0, read_named t f h.1)

given_named : (t : Targets) (r : RnOperand) → GivenSaid r → GivenSaid (named_register t r)
given_named t (rn.Register n) h = h
given_named t (rn.Number e) h = read_named t e h

directive_named : (t : Targets) (l : DirectiveLine) → DirectiveSaid l → DirectiveSaid (named_directive t l)
directive_named t (line.Area name a) h = all_read t a.alignments h
directive_named t (line.Equ e) h = read_named t e h
directive_named t (line.Rn r) h = given_named t r h
directive_named t (line.Assert e) h = read_named t e h
directive_named t (line.Opt e) h = read_named t e h
directive_named t (line.Constants item es) h = all_read t es h
directive_named t (line.Space e) h = read_named t e h
directive_named t (line.Align b) h = boundary_named t b h
directive_named t (line.Map e) h = read_named t e h
directive_named t (line.Field e) h = read_named t e h
directive_named t l h = h

what_named : (t : Targets) (w : What) → WhatSaid w → WhatSaid (named_what t w)
what_named t what.Nothing h = tt
what_named t (what.Arm l) h = arm_named t l h
what_named t (what.Thumb l) h = thumb_named t l h
what_named t (what.Pseudo l) h = pseudo_named t l h
what_named t (what.Directive l) h = directive_named t l h

-- ---- names

-- a statement that is named
abbrev pub named_statement : ℕ → Targets → Statement → Statement
named_statement k t s = record s { label = named_label k (local_number s) s.label; what = named_what t s.what }

glyph_text : (d : ℕ) → digit_glyph true d ≢ 0
glyph_text d = by_test (nat_lt d 10)
  where
    by_test : (b : Bool) → cond b (48 + d) (55 + d) ≢ 0
    by_test true = λ e. absurd (omega arith)
    by_test false = λ e. absurd (omega arith)

text_more : (xs : List ℕ) (c : ℕ) → HoldsNoZero xs → c ≢ 0 → HoldsNoZero (xs ++ c ∷ [])
text_more [] c h e = (e, tt)
text_more (x ∷ xs) c h e = (h.0, text_more xs c h.1 e)

places_text : (k n : ℕ) → HoldsNoZero (hexadecimal_places k n)
places_text zero n = tt
places_text (suc k) n = text_more (hexadecimal_places k (n / 16)) (digit_glyph true (n % 16)) (places_text k (n / 16)) (glyph_text (n % 16))

hidden_text : (k : ℕ) → HoldsNoZero (hidden_name k)
hidden_text k = ((λ e. absurd (cc)), places_text 8 k)

names_kept : (t : Targets) (w : What) → what_names (named_what t w) ≡ what_names w
names_kept t what.Nothing = refl
names_kept t (what.Arm l) = refl
names_kept t (what.Thumb l) = refl
names_kept t (what.Pseudo l) = refl
names_kept t (what.Directive (line.Area name a)) = refl
names_kept t (what.Directive l) = refl

texts_behind : (o : Option (List ℕ)) (ns : List (List ℕ)) → AllByRecursion IsText (label_names o ++ ns) → AllByRecursion IsText ns
texts_behind None ns h = h
texts_behind (Some n) ns h = h.1

texts_labelled : (k : ℕ) (number : Option ℕ) (o : Option (List ℕ)) (ns : List (List ℕ)) → AllByRecursion IsText (label_names o ++ ns)
    → AllByRecursion IsText (label_names (named_label k number o) ++ ns)
texts_labelled k None o ns h = h
texts_labelled k (Some n) o ns h = ((hidden_text k, tt), texts_behind o ns h)

marks_kept : (t : Targets) (w : What) → MarksFit w → MarksFit (named_what t w)
marks_kept t (what.Directive (line.Area name a)) h = h
marks_kept t w h = tt

pub statement_fine : (k : ℕ) (t : Targets) (s : Statement) → IsFine s → IsFine (named_statement k t s)
statement_fine k t s h = record {
  read = what_named t s.what h.read;
  texts = rw (names_kept t s.what) (texts_labelled k (local_number s) s.label (what_names s.what) h.texts);
  marks = marks_kept t s.what h.marks;
}

-- ---- all statements

-- a fact that a statement keeps when it is named
abbrev pub IsStable : (Statement → Type 0) → Type 0
IsStable P = (k : ℕ) (t : Targets) (s : Statement) → P s → P (named_statement k t s)

all_behind : (P : Statement → Type 0) → IsStable P → (front ss : List Statement) → AllByRecursion P ss → AllByRecursion P (named_behind front ss)
all_behind P stable front [] h = tt
all_behind P stable front (s ∷ rest) h =
    (stable (length front) (target (s ∷ front) rest) s h.0, all_behind P stable (s ∷ front) rest h.1)

pub all_in_names : (P : Statement → Type 0) → IsStable P → (ss : List Statement) → AllByRecursion P ss → AllByRecursion P (in_names ss)
all_in_names P stable ss h = all_behind P stable [] ss h

length_behind : (front ss : List Statement) → length (named_behind front ss) ≡ length ss
length_behind front [] = refl
length_behind front (s ∷ rest) = ap suc (length_behind (s ∷ front) rest)

pub as_many : (ss : List Statement) → length (in_names ss) ≡ length ss
as_many ss = length_behind [] ss
