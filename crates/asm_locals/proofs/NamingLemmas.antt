-- Naming by two passes is naming at once.
use Rattle.std.proofs.Common.{◌≡◌, ℕ, suc, List, [], ◌∷◌, length, map, refl, ap, subst, arith, get_or, ◌<◌, ◌≤◌, Option, Some, None}
use Rattle.asm_model.specs.declared.exprs.Expr.{Expr}
use Rattle.asm_model.specs.declared.exprs.ExprItem.{ExprItem}
use Rattle.asm_model.specs.declared.exprs.ExprItem.TheVariants as item
use Rattle.asm_model.specs.declared.operands.Shift.{Shift}
use Rattle.asm_model.specs.declared.operands.Shift.TheVariants as shift
use Rattle.asm_model.specs.declared.operands.Address.{Address}
use Rattle.asm_model.specs.declared.operands.Address.TheVariants as address
use Rattle.asm_model.specs.declared.operands.HalfOffset.{HalfOffset}
use Rattle.asm_model.specs.declared.operands.HalfOffset.TheVariants as half
use Rattle.asm_model.specs.declared.operands.LiteralAddress.{LiteralAddress}
use Rattle.asm_model.specs.declared.operands.LiteralAddress.TheVariants as literal
use Rattle.asm_model.specs.declared.operands.ThumbOperand.{ThumbOperand}
use Rattle.asm_model.specs.declared.operands.ThumbOperand.TheVariants as operand
use Rattle.asm_model.specs.declared.arm_lines.ArmLine.{ArmLine}
use Rattle.asm_model.specs.declared.arm_lines.ArmLine.TheVariants as arm
use Rattle.asm_model.specs.declared.thumb_lines.ThumbLine.{ThumbLine}
use Rattle.asm_model.specs.declared.thumb_lines.ThumbLine.TheVariants as thumb
use Rattle.asm_model.specs.declared.directives.AreaAttributes.{AreaAttributes}
use Rattle.asm_model.specs.declared.directives.Boundary.{Boundary}
use Rattle.asm_model.specs.declared.directives.Boundary.TheVariants as limit
use Rattle.asm_model.specs.declared.directives.RnOperand.{RnOperand}
use Rattle.asm_model.specs.declared.directives.RnOperand.TheVariants as rn
use Rattle.asm_model.specs.declared.directives.DirectiveLine.{DirectiveLine}
use Rattle.asm_model.specs.declared.directives.DirectiveLine.TheVariants as line
use Rattle.asm_model.specs.declared.statements.PseudoLine.{PseudoLine}
use Rattle.asm_model.specs.declared.statements.PseudoLine.TheVariants as pseudo
use Rattle.asm_model.specs.declared.statements.Statement.{Statement}
use Rattle.asm_model.specs.declared.statements.What.{What}
use Rattle.asm_model.specs.declared.statements.What.TheVariants as what
use Rattle.asm_model.specs.Directives.{or_else}
use Rattle.asm_locals.specs.Labels.{number_on, begins_stretch, label_behind, label_ahead, back_to, forth_to}
use Rattle.asm_locals.specs.Naming.{Targets, reference, named_item, named, all_named, named_shift, named_address, named_half, named_arm, named_operand, named_literal, named_thumb, named_pseudo, named_attributes, named_boundary, named_register, named_directive, named_what, named_behind, in_names}
use Rattle.asm_locals.specs.Passes.{looked_back, looked_ahead}

-- ---- what lines say

abbrev Either : Targets → Targets → Targets
Either g f text = or_else (g text) (f text)

pub both_item : (g f : Targets) (i : ExprItem) → named_item f (named_item g i) ≡ named_item (Either g f) i
both_item g f (item.Local text) = by_target (g text)
  where
    by_target : (o : Option ℕ) → named_item f (reference text o) ≡ reference text (or_else o (f text))
    by_target None = refl
    by_target (Some k) = refl
both_item g f (item.Name n) = refl
both_item g f (item.Constant v) = refl
both_item g f item.TooLarge = refl
both_item g f item.Here = refl
both_item g f item.Map = refl
both_item g f item.CodeSize = refl
both_item g f (item.Unary op) = refl
both_item g f (item.Binary op) = refl

pub both_items : (g f : Targets) (is : List ExprItem) → map (named_item f) (map (named_item g) is) ≡ map (named_item (Either g f)) is
both_items g f [] = refl
both_items g f (i ∷ is) = rw (both_item g f i, both_items g f is) refl

pub both : (g f : Targets) (e : Expr) → named f (named g e) ≡ named (Either g f) e
both g f e = ap (λ (is : List ExprItem). record { items = is }) (both_items g f e.items)

pub both_all : (g f : Targets) (es : List Expr) → all_named f (all_named g es) ≡ all_named (Either g f) es
both_all g f [] = refl
both_all g f (e ∷ es) = rw (both g f e, both_all g f es) refl

pub both_shift : (g f : Targets) (s : Shift) → named_shift f (named_shift g s) ≡ named_shift (Either g f) s
both_shift g f (shift.By kind e) = ap (λ z. shift.By kind z) (both g f e)
both_shift g f shift.Unshifted = refl
both_shift g f shift.Extended = refl

pub both_address : (g f : Targets) (a : Address) → named_address f (named_address g a) ≡ named_address (Either g f) a
both_address g f (address.Based r ix e) = ap (λ z. address.Based r ix z) (both g f e)
both_address g f (address.Label e) = ap (λ z. address.Label z) (both g f e)

pub both_half : (g f : Targets) (o : HalfOffset) → named_half f (named_half g o) ≡ named_half (Either g f) o
both_half g f (half.Number e) = ap (λ z. half.Number z) (both g f e)
both_half g f (half.Register subtract rm) = refl

pub both_arm : (g f : Targets) (l : ArmLine) → named_arm f (named_arm g l) ≡ named_arm (Either g f) l
both_arm g f (arm.DataImmediate condition operation set_flags rd rn e) = ap (λ z. arm.DataImmediate condition operation set_flags rd rn z) (both g f e)
both_arm g f (arm.DataShifted condition operation set_flags rd rn rm by) =
    ap (λ z. arm.DataShifted condition operation set_flags rd rn rm z) (both_shift g f by)
both_arm g f (arm.WriteStatusImmediate condition fields e) = ap (λ z. arm.WriteStatusImmediate condition fields z) (both g f e)
both_arm g f (arm.TransferImmediate condition load byte rd a) = ap (λ z. arm.TransferImmediate condition load byte rd z) (both_address g f a)
both_arm g f (arm.TransferShifted condition load byte rd rn ix subtract rm by) =
    ap (λ z. arm.TransferShifted condition load byte rd rn ix subtract rm z) (both_shift g f by)
both_arm g f (arm.TransferHalf condition load kind rd rn ix o) = ap (λ z. arm.TransferHalf condition load kind rd rn ix z) (both_half g f o)
both_arm g f (arm.Branch condition link e) = ap (λ z. arm.Branch condition link z) (both g f e)
both_arm g f (arm.SoftwareInterrupt condition e) = ap (λ z. arm.SoftwareInterrupt condition z) (both g f e)
both_arm g f l = refl

pub both_operand : (g f : Targets) (o : ThumbOperand) → named_operand f (named_operand g o) ≡ named_operand (Either g f) o
both_operand g f (operand.Number e) = ap (λ z. operand.Number z) (both g f e)
both_operand g f (operand.Register rn) = refl

pub both_literal : (g f : Targets) (a : LiteralAddress) → named_literal f (named_literal g a) ≡ named_literal (Either g f) a
both_literal g f (literal.Offset e) = ap (λ z. literal.Offset z) (both g f e)
both_literal g f (literal.Label e) = ap (λ z. literal.Label z) (both g f e)

pub both_thumb : (g f : Targets) (l : ThumbLine) → named_thumb f (named_thumb g l) ≡ named_thumb (Either g f) l
both_thumb g f (thumb.ShiftImmediate by rd rs e) = ap (λ z. thumb.ShiftImmediate by rd rs z) (both g f e)
both_thumb g f (thumb.AddSubtract subtract rd rs o) = ap (λ z. thumb.AddSubtract subtract rd rs z) (both_operand g f o)
both_thumb g f (thumb.DataImmediate operation rd e) = ap (λ z. thumb.DataImmediate operation rd z) (both g f e)
both_thumb g f (thumb.LoadLiteral rd a) = ap (λ z. thumb.LoadLiteral rd z) (both_literal g f a)
both_thumb g f (thumb.TransferImmediate load byte rd rn e) = ap (λ z. thumb.TransferImmediate load byte rd rn z) (both g f e)
both_thumb g f (thumb.TransferHalf load rd rn e) = ap (λ z. thumb.TransferHalf load rd rn z) (both g f e)
both_thumb g f (thumb.TransferStack load rd e) = ap (λ z. thumb.TransferStack load rd z) (both g f e)
both_thumb g f (thumb.LoadAddress stack rd e) = ap (λ z. thumb.LoadAddress stack rd z) (both g f e)
both_thumb g f (thumb.AdjustStack subtract e) = ap (λ z. thumb.AdjustStack subtract z) (both g f e)
both_thumb g f (thumb.BranchConditional condition e) = ap (λ z. thumb.BranchConditional condition z) (both g f e)
both_thumb g f (thumb.SoftwareInterrupt e) = ap (λ z. thumb.SoftwareInterrupt z) (both g f e)
both_thumb g f (thumb.Branch e) = ap (λ z. thumb.Branch z) (both g f e)
both_thumb g f (thumb.BranchLink e) = ap (λ z. thumb.BranchLink z) (both g f e)
both_thumb g f l = refl

pub both_pseudo : (g f : Targets) (l : PseudoLine) → named_pseudo f (named_pseudo g l) ≡ named_pseudo (Either g f) l
both_pseudo g f (pseudo.LoadConstant condition rd e) = ap (λ z. pseudo.LoadConstant condition rd z) (both g f e)
both_pseudo g f (pseudo.Address condition rd e) = ap (λ z. pseudo.Address condition rd z) (both g f e)
both_pseudo g f (pseudo.LongAddress condition rd e) = ap (λ z. pseudo.LongAddress condition rd z) (both g f e)
both_pseudo g f pseudo.NoOperation = refl

pub both_attributes : (g f : Targets) (a : AreaAttributes) → named_attributes f (named_attributes g a) ≡ named_attributes (Either g f) a
both_attributes g f a = ap (λ z. record a { alignments = z }) (both_all g f a.alignments)

pub both_boundary : (g f : Targets) (b : Boundary) → named_boundary f (named_boundary g b) ≡ named_boundary (Either g f) b
both_boundary g f limit.Word = refl
both_boundary g f (limit.Multiple e) = ap (λ z. limit.Multiple z) (both g f e)
both_boundary g f (limit.Behind e d) = rw (both g f e, both g f d) refl

pub both_register : (g f : Targets) (r : RnOperand) → named_register f (named_register g r) ≡ named_register (Either g f) r
both_register g f (rn.Register n) = refl
both_register g f (rn.Number e) = ap (λ z. rn.Number z) (both g f e)

pub both_directive : (g f : Targets) (l : DirectiveLine) → named_directive f (named_directive g l) ≡ named_directive (Either g f) l
both_directive g f (line.Area name a) = ap (λ z. line.Area name z) (both_attributes g f a)
both_directive g f (line.Equ e) = ap (λ z. line.Equ z) (both g f e)
both_directive g f (line.Rn r) = ap (λ z. line.Rn z) (both_register g f r)
both_directive g f (line.Assert e) = ap (λ z. line.Assert z) (both g f e)
both_directive g f (line.Opt e) = ap (λ z. line.Opt z) (both g f e)
both_directive g f (line.Constants item es) = ap (λ z. line.Constants item z) (both_all g f es)
both_directive g f (line.Space e) = ap (λ z. line.Space z) (both g f e)
both_directive g f (line.Align b) = ap (λ z. line.Align z) (both_boundary g f b)
both_directive g f (line.Map e) = ap (λ z. line.Map z) (both g f e)
both_directive g f (line.Field e) = ap (λ z. line.Field z) (both g f e)
both_directive g f l = refl

pub both_what : (g f : Targets) (w : What) → named_what f (named_what g w) ≡ named_what (Either g f) w
both_what g f (what.Arm l) = ap (λ z. what.Arm z) (both_arm g f l)
both_what g f (what.Pseudo l) = ap (λ z. what.Pseudo z) (both_pseudo g f l)
both_what g f (what.Directive l) = ap (λ z. what.Directive z) (both_directive g f l)
both_what g f (what.Thumb l) = ap (λ z. what.Thumb z) (both_thumb g f l)
both_what g f what.Nothing = refl

-- ---- what naming keeps

pub numbers_kept : (t : Targets) (label : Option (List ℕ)) (w : What) → number_on label (named_what t w) ≡ number_on label w
numbers_kept t label (what.Arm l) = refl
numbers_kept t label (what.Pseudo l) = refl
numbers_kept t label what.Nothing = refl
numbers_kept t label (what.Thumb l) = refl
numbers_kept t label (what.Directive line.Rout) = refl
numbers_kept t label (what.Directive l) = refl

pub stretches_kept : (t : Targets) (w : What) → begins_stretch (named_what t w) ≡ begins_stretch w
stretches_kept t (what.Arm l) = refl
stretches_kept t (what.Pseudo l) = refl
stretches_kept t what.Nothing = refl
stretches_kept t (what.Thumb l) = refl
stretches_kept t (what.Directive line.Rout) = refl
stretches_kept t (what.Directive (line.Area name a)) = refl
stretches_kept t (what.Directive l) = refl

pub labels_kept : (before : List Statement) (k : ℕ) (rest : List Statement) (n : ℕ) → label_ahead k (looked_back before rest) n ≡ label_ahead k rest n
labels_kept before k [] n = refl
labels_kept before k (s ∷ rest) n =
    rw (
      stretches_kept (back_to (label_behind (s ∷ before))) s.what,
      numbers_kept (back_to (label_behind (s ∷ before))) s.label s.what,
      labels_kept (s ∷ before) (suc k) rest n,
    ) refl

-- ---- statements

pub named_twice : (before ss : List Statement) → looked_ahead (length before) (looked_back before ss) ≡ named_behind before ss
named_twice before [] = refl
named_twice before (s ∷ rest) =
    let kept : label_ahead (suc (length before)) (looked_back (s ∷ before) rest) ≡ label_ahead (suc (length before)) rest =
    λ j n. labels_kept (s ∷ before) (suc (length before)) rest n j in
    rw (
      kept,
      numbers_kept (back_to (label_behind (s ∷ before))) s.label s.what,
      both_what (back_to (label_behind (s ∷ before))) (forth_to (label_ahead (suc (length before)) rest)) s.what,
      named_twice (s ∷ before) rest,
    ) refl

pub named_at_once : (ss : List Statement) → looked_ahead 0 (looked_back [] ss) ≡ in_names ss
named_at_once ss = named_twice [] ss

-- ---- what names no label

abbrev of_items : List ExprItem → Expr
of_items items = record { items = items }

pub plain_named : (t : Targets) (e : Expr) (items : List ExprItem) → items ≡ e.items → map (named_item t) items ≡ items → named t e ≡ e
plain_named t e items s h = let m : map (named_item t) e.items ≡ e.items = subst (λ x. map (named_item t) x ≡ x) s h in ap of_items m

pub one_plain : (t : Targets) (es : List Expr) (x : Expr) → 1 ≤ length es → length es < 2 → x ≡ get_or es 0 x → named t x ≡ x → all_named t es ≡ es
one_plain t [] x h k s n = absurd (omega arith)
one_plain t (e ∷ []) x h k s n = let m : named t e ≡ e = subst (λ z. named t z ≡ z) s n in ap (λ y. y ∷ []) m
one_plain t (e ∷ f ∷ es) x h k s n = absurd (omega arith)
