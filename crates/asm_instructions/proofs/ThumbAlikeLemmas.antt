-- Contexts that find the same say the same instructions of Thumb state.
use Rattle.std.proofs.Common.{◌≡◌, ℕ, ◌+◌, ◌-◌, ◌%◌, ◌^◌, List, [], ◌∷◌, Bool, true, false, cond, Option, refl, ap, ◌∙◌}
use Rattle.std.specs.Prelude.{Result, Ok, Err}
use Rattle.sdt_fault.specs.declared.kinds.LineKind.{LineKind}
use Rattle.sdt_fault.specs.declared.kinds.LineKind.TheVariants.{BadOperand}
use Rattle.asm_model.specs.declared.exprs.Expr.{Expr}
use Rattle.asm_model.specs.declared.operands.LiteralAddress.{LiteralAddress}
use Rattle.asm_model.specs.declared.operands.LiteralAddress.TheVariants as literal
use Rattle.asm_model.specs.declared.operands.ThumbOperand.TheVariants as operand
use Rattle.asm_model.specs.declared.statements.PseudoLine.{PseudoLine}
use Rattle.asm_model.specs.declared.statements.PseudoLine.TheVariants as pseudo
use Rattle.asm_model.specs.declared.thumb_lines.ThumbLine.{ThumbLine}
use Rattle.asm_model.specs.declared.thumb_lines.ThumbLine.TheVariants as thumb
use Rattle.asm_model.specs.declared.values.Value.{Value}
use Rattle.asm_model.specs.declared.values.Value.TheVariants.{Number, Truth, Words, Place}
use Rattle.asm_model.specs.Meaning.{stands_at}
use Rattle.source_model.specs.ArmForms.{is_settled, offset_at}
use Rattle.source_model.specs.Contexts.{Context, sees, value_of}
use Rattle.source_model.specs.ThumbForms.{behind_pc, can_branch, is_settled_place, literal_at, thumb_displacement, thumb_from, thumb_instruction, thumb_pseudo}
use Rattle.asm_instructions.proofs.AlikeLemmas.{bits_alike, label_alike, number_alike, settled_alike, stands_alike, symbol_alike}
use Rattle.asm_instructions.proofs.ContextLemmas.{Alike}

module _ (a b : Context) (s : Alike a b) where
  behind_alike : (o : ℕ) → behind_pc a o ≡ behind_pc b o
  behind_alike o = ap (λ at. (o + (2 ^ 32 - (at + 4))) % 2 ^ 32) s.offset

  thumb_from_alike : (q : List ℕ) (n : ℕ) → thumb_from a q n ≡ thumb_from b q n
  thumb_from_alike [] n = behind_alike n
  thumb_from_alike (x ∷ xs) n =
      ap (λ t. behind_pc a (cond t (offset_at (stands_at (sees a) (x ∷ xs)) + n) n)) (settled_alike a b s (x ∷ xs))
      ∙ ap (λ t. behind_pc a (cond (is_settled b (x ∷ xs)) (offset_at t + n) n)) (stands_alike a b s (x ∷ xs))
      ∙ behind_alike (cond (is_settled b (x ∷ xs)) (offset_at (stands_at (sees b) (x ∷ xs)) + n) n)

  settled_place_alike : (q : List ℕ) → is_settled_place a q ≡ is_settled_place b q
  settled_place_alike [] = refl
  settled_place_alike (x ∷ xs) = settled_alike a b s (x ∷ xs)

  branch_alike : (link : Bool) (q : List ℕ) → can_branch link a q ≡ can_branch link b q
  branch_alike true q = symbol_alike a b s q
  branch_alike false q = settled_place_alike q

  displacement_alike : (link : Bool) (v : Result Value LineKind) → thumb_displacement link a v ≡ thumb_displacement link b v
  displacement_alike link (Ok (Place q n)) =
      ap (λ t. cond t (Ok (thumb_from a q n)) (Err BadOperand)) (branch_alike link q)
      ∙ ap (λ t. cond (can_branch link b q) (Ok t) (Err BadOperand)) (thumb_from_alike q n)
  displacement_alike link (Ok (Number n)) = refl
  displacement_alike link (Ok (Truth t)) = refl
  displacement_alike link (Ok (Words w)) = refl
  displacement_alike link (Err k) = refl

  target_alike : (link : Bool) (e : Expr) → thumb_displacement link a (value_of a e) ≡ thumb_displacement link b (value_of b e)
  target_alike link e = ap (thumb_displacement link a) (s.value e) ∙ displacement_alike link (value_of b e)

  literal_alike : (l : LiteralAddress) → literal_at a l ≡ literal_at b l
  literal_alike (literal.Offset e) = rw (number_alike a b s e) refl
  literal_alike (literal.Label e) = rw (label_alike a b s e, s.offset) refl

  pub thumb_alike : (l : ThumbLine) → thumb_instruction a l ≡ thumb_instruction b l
  thumb_alike (thumb.ShiftImmediate by rd rs e) = rw (number_alike a b s e, s.number rd, s.number rs) refl
  thumb_alike (thumb.AddSubtract subtract rd rs (operand.Register rn)) = rw (s.number rd, s.number rs, s.number rn) refl
  thumb_alike (thumb.AddSubtract subtract rd rs (operand.Number e)) = rw (number_alike a b s e, s.number rd, s.number rs) refl
  thumb_alike (thumb.DataImmediate operation rd e) = rw (number_alike a b s e, s.number rd) refl
  thumb_alike (thumb.DataRegister operation rd rs) = rw (s.number rd, s.number rs) refl
  thumb_alike (thumb.HighRegister operation rd rs) = rw (s.number rd, s.number rs) refl
  thumb_alike (thumb.LoadLiteral rd l) = rw (literal_alike l, s.number rd) refl
  thumb_alike (thumb.TransferRegister load byte rd rn ro) = rw (s.number rd, s.number rn, s.number ro) refl
  thumb_alike (thumb.TransferSigned kind rd rn ro) = rw (s.number rd, s.number rn, s.number ro) refl
  thumb_alike (thumb.TransferImmediate load byte rd rn e) = rw (number_alike a b s e, s.number rd, s.number rn) refl
  thumb_alike (thumb.TransferHalf load rd rn e) = rw (number_alike a b s e, s.number rd, s.number rn) refl
  thumb_alike (thumb.TransferStack load rd e) = rw (number_alike a b s e, s.number rd) refl
  thumb_alike (thumb.LoadAddress stack rd e) = rw (number_alike a b s e, s.number rd) refl
  thumb_alike (thumb.AdjustStack subtract e) = rw (number_alike a b s e) refl
  thumb_alike (thumb.PushPop load list) = rw (bits_alike a b s list.items 0 16) refl
  thumb_alike (thumb.TransferMultiple load rn list) = rw (s.number rn, bits_alike a b s list.items 0 16) refl
  thumb_alike (thumb.BranchConditional condition e) = rw (target_alike false e) refl
  thumb_alike (thumb.SoftwareInterrupt e) = rw (number_alike a b s e) refl
  thumb_alike (thumb.Branch e) = rw (target_alike false e) refl
  thumb_alike (thumb.BranchLink e) = rw (target_alike true e) refl

  pub thumb_pseudo_alike : (word : Option ℕ) (l : PseudoLine) → thumb_pseudo a word l ≡ thumb_pseudo b word l
  thumb_pseudo_alike word (pseudo.LoadConstant condition rd e) = rw (s.offset, s.number rd) refl
  thumb_pseudo_alike word (pseudo.Address condition rd e) = rw (label_alike a b s e, s.offset, s.number rd) refl
  thumb_pseudo_alike word (pseudo.LongAddress condition rd e) = refl
  thumb_pseudo_alike word pseudo.NoOperation = refl
