-- Operands on the stack of an evaluation.
use Rattle.std.proofs.Common.{◌≡◌, ◌∙◌, List, [], ◌∷◌, ◌++◌, map, reverse, refl, sym, ap, append_assoc, Option, Some}
use Rattle.std.specs.Option.{option_to_list}
use Rattle.std.specs.Prelude.{Result, Ok, Err, OnOk}
use Rattle.std.proofs.lemmas.List.{map-append, reverse-append}
use Rattle.asm_model.specs.declared.names.Names.{Names}
use Rattle.asm_model.specs.declared.exprs.BinaryOp.{BinaryOp}
use Rattle.asm_model.specs.declared.exprs.UnaryOp.{UnaryOp}
use Rattle.asm_model.specs.Meaning.{Operand, Known, known, applied, binary}
use Rattle.asm_model.specs.Readings.{then_both}
use Rattle.asm_expr.specs.declared.slots.Slot.{Slot}
use Rattle.asm_expr.specs.Evaluating.{act_binary, act_unary, operand_of, operands_of}

pub operands_last : (xs : List Slot) (x : Slot) → operands_of (xs ++ x ∷ []) ≡ operand_of x ∷ operands_of xs
operands_last xs x = ap reverse (map-append operand_of xs (x ∷ [])) ∙ reverse-append (map operand_of xs) (operand_of x ∷ [])

-- an operator between the two on the top
pub acted : (names : Names) (op : BinaryOp) (old new pushed : List Slot) (l r s : Slot) → old ≡ new ++ l ∷ r ∷ []
    → operand_of s ≡ Known (then_both (known (operand_of l)) (known (operand_of r)) (binary names op)) → pushed ≡ new ++ s ∷ []
    → operands_of pushed ≡ act_binary names op (operands_of old)
acted names op old new pushed l r s eo es ep =
    let two : operands_of old ≡ operand_of r ∷ operand_of l ∷ operands_of new =
    ap operands_of (eo ∙ sym (append_assoc new (l ∷ []) (r ∷ []))) ∙ operands_last (new ++ l ∷ []) r
    ∙ ap (λ (os : List Operand). operand_of r ∷ os) (operands_last new l) in
    ap operands_of ep ∙ operands_last new s ∙ rw (two, es) refl

pub on_ok : {A E P Q : Type 0} (r : Result A E) → (P → Q) → OnOk r P → OnOk r Q
on_ok (Ok a) f h = f h
on_ok (Err e) f h = tt

-- an operator before the one on the top
pub acted_on_top : (op : UnaryOp) (old new pushed : List Slot) (o : Option Slot) (x s : Slot) → old ≡ new ++ option_to_list o → o ≡ Some x
    → operand_of s ≡ Known (applied op (operand_of x)) → pushed ≡ new ++ s ∷ [] → operands_of pushed ≡ act_unary op (operands_of old)
acted_on_top op old new pushed o x s eo is es ep =
    let whole : old ≡ new ++ x ∷ [] = rw is at eo in
    let top : operands_of old ≡ operand_of x ∷ operands_of new = ap operands_of whole ∙ operands_last new x in
    ap operands_of ep ∙ operands_last new s ∙ rw (top, es) refl
