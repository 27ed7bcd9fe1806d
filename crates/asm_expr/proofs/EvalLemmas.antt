-- Stacks of operands.
use Rattle.std.proofs.Common.{◌≡◌, ℕ, suc, ◌+◌, ◌<◌, ◌≤◌, List, [], ◌∷◌, ◌++◌, length, drop, get_or, arith, refl, sym, ◌∙◌, ap, Some, append_assoc, append-nil}
use Rattle.std.proofs.lemmas.List.{drop_more}
use Rattle.std.proofs.Math.ListN.{drop_of_length-le}
use Rattle.std.specs.Prelude.{Result}
use Rattle.sdt_fault.specs.declared.kinds.LineKind.{LineKind}
use Rattle.asm_model.specs.declared.values.Value.{Value}
use Rattle.asm_model.specs.declared.names.Names.{Names}
use Rattle.asm_model.specs.declared.exprs.ExprItem.{ExprItem}
use Rattle.asm_model.specs.declared.exprs.ExprItem.TheVariants as item
use Rattle.asm_model.specs.declared.exprs.Part.{Part}
use Rattle.asm_model.specs.Grammar.{Tree, postfix, plain, Spells, operand, of_name, before, grouped, between, tighter, IsSpelled}
use Rattle.asm_model.specs.Meaning.{Operand, known, operand_of_item, operand_of_tree, meaning}
use Rattle.asm_expr.specs.Evaluating.{act, run, ended}
use Rattle.asm_model.proofs.TreeLemmas.{plain_operand}

act_plain : (names : Names) (i : ExprItem) (s : List Operand) → plain i ≡ Some i → act names i s ≡ operand_of_item names i ∷ s
act_plain names (item.Name n) s e = refl
act_plain names (item.Local n) s e = refl
act_plain names (item.Constant v) s e = refl
act_plain names item.TooLarge s e = refl
act_plain names item.Here s e = refl
act_plain names item.Map s e = refl
act_plain names item.CodeSize s e = refl
act_plain names (item.Unary op) s e = absurd (cc)
act_plain names (item.Binary op) s e = absurd (cc)

-- an item alone leaves its operand
ended_alone : (names : Names) (i : ExprItem) → ended (act names i []) ≡ known (operand_of_item names i)
ended_alone names (item.Name n) = refl
ended_alone names (item.Local n) = refl
ended_alone names (item.Constant v) = refl
ended_alone names item.TooLarge = refl
ended_alone names item.Here = refl
ended_alone names item.Map = refl
ended_alone names item.CodeSize = refl
ended_alone names (item.Unary op) = refl
ended_alone names (item.Binary op) = refl

pub one_item : (names : Names) (items : List ExprItem) (x : ExprItem) → 1 ≤ length items → length items < 2 → x ≡ get_or items 0 x
    → ended (run names items []) ≡ known (operand_of_item names x)
one_item names [] x h l e = absurd (omega arith)
one_item names (y ∷ []) x h l e = ended_alone names y ∙ ap (λ (i : ExprItem). known (operand_of_item names i)) (sym e)
one_item names (y ∷ z ∷ zs) x h l e = absurd (omega arith)

-- the stack after one item more, and after the last
pub run_step : (names : Names) (items : List ExprItem) (i : ℕ) (x : ExprItem) (s n all : List Operand) → i < length items → x ≡ get_or items i x
    → n ≡ act names x s → run names (drop i items) s ≡ all → run names (drop (i + 1) items) n ≡ all
run_step names items i x s n all h e a inv =
    let cons : drop i items ≡ x ∷ drop (i + 1) items = drop_more items i x h ∙ ap (λ (y : ExprItem). y ∷ drop (i + 1) items) (sym e) in
    rw a (rw cons at inv)

pub run_end : (names : Names) (items : List ExprItem) (i : ℕ) (s all : List Operand) → length items ≤ i → run names (drop i items) s ≡ all → s ≡ all
run_end names items i s all h inv = let none : drop i items ≡ [] = drop_of_length-le items h in rw none at inv

-- the items of a tree put its operand on the stack
run_tree : (names : Names) (l : ℕ) (ps : List Part) (t : Tree) → Spells l ps t → (rest : List ExprItem) (s : List Operand)
    → run names (postfix t ++ rest) s ≡ run names rest (operand_of_tree names t ∷ s)
run_tree names l ps t (operand p i e) rest s = ap (run names rest) (act_plain names i s (plain_operand p i e))
run_tree names l ps t (of_name op name) rest s = refl
run_tree names l ps t (before p op qs u e d) rest s =
    ap (λ (x : List ExprItem). run names x s) (append_assoc (postfix u) (item.Unary op ∷ []) rest) ∙ run_tree names 0 qs u d (item.Unary op ∷ rest) s
run_tree names l ps t (grouped qs u d) rest s = run_tree names 6 qs u d rest s
run_tree names l ps t (between k p op qs rs u v e lev d r) rest s =
    ap (λ (x : List ExprItem). run names x s) (append_assoc (postfix u ++ postfix v) (item.Binary op ∷ []) rest
    ∙ append_assoc (postfix u) (postfix v) (item.Binary op ∷ rest))
    ∙ run_tree names (suc k) qs u d (postfix v ++ item.Binary op ∷ rest) s
    ∙ run_tree names k rs v r (item.Binary op ∷ rest) (operand_of_tree names u ∷ s)
run_tree names l ps t (tighter k qs u d) rest s = run_tree names k ps t d rest s

-- the items of an expression leave its operand alone
pub run_expression : (names : Names) (ps : List Part) (t : Tree) → IsSpelled ps t → ended (run names (postfix t) []) ≡ meaning names t
run_expression names ps t d =
    ap (λ (x : List ExprItem). ended (run names x [])) (sym (append-nil (postfix t))) ∙ ap ended (run_tree names 6 ps t d [] [])

-- what the items leave is the meaning of the expression
pub evaluated : (names : Names) (items seen : List ExprItem) (r : Result Value LineKind) → seen ≡ items → r ≡ ended (run names seen [])
    → (ps : List Part) (t : Tree) → IsSpelled ps t → items ≡ postfix t → meaning names t ≡ r
evaluated names items seen r s e ps t d i =
    sym (run_expression names ps t d) ∙ ap (λ (x : List ExprItem). ended (run names x [])) (sym i ∙ sym s) ∙ sym e
