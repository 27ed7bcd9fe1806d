-- Items of a tree, each operator behind its operands, in which names stay names.
use Rattle.std.proofs.Common.{◌≡◌, ℕ, suc, List, [], ◌∷◌, ◌++◌, Bool, true, false, cond, refl, sym, ◌∙◌, ap, append_assoc, append-nil, Option, Some, None}
use Rattle.std.specs.Prelude.{Result, Ok, Err}
use Rattle.sdt_fault.specs.declared.kinds.LineKind.{LineKind}
use Rattle.asm_model.specs.declared.exprs.ExprItem.{ExprItem}
use Rattle.asm_model.specs.declared.exprs.ExprItem.TheVariants as item
use Rattle.asm_model.specs.declared.exprs.Part.{Part}
use Rattle.asm_model.specs.declared.exprs.Part.TheVariants as part
use Rattle.asm_model.specs.declared.exprs.UnaryOp.{UnaryOp}
use Rattle.asm_model.specs.declared.exprs.UnaryOp.TheVariants as unary
use Rattle.asm_model.specs.declared.values.Value.{Value}
use Rattle.asm_model.specs.declared.values.Value.TheVariants.{Place}
use Rattle.asm_model.specs.declared.names.LaidName.{LaidName}
use Rattle.asm_model.specs.declared.names.Names.{Names}
use Rattle.asm_model.specs.AtLine.{is_value, has_value, kept_name, kept_names}
use Rattle.asm_model.specs.Grammar.{Tree, Leaf, Before, Between, postfix, plain, Spells, operand, of_name, before, grouped, between, tighter, IsSpelled}
use Rattle.asm_model.specs.Meaning.{named_in, Known, value_of, unary_of, binary, known, applied, operand_of_item, meaning}
use Rattle.asm_model.specs.Readings.{and_then, then_both}
use Rattle.asm_names.specs.Steps.{operator_first, kept_before, kept_items}
use Rattle.asm_model.proofs.LineLemmas.{applied_known}
use Rattle.asm_model.proofs.TreeLemmas.{plain_operand}

-- ---- operands

-- the leaves of a tree are operands
abbrev IsPlain : Tree → Type 0
IsPlain (Leaf i) = plain i ≡ Some i
IsPlain (Before op t) = IsPlain t
IsPlain (Between op t u) = IsPlain t × IsPlain u

spelled_plain : (l : ℕ) (ps : List Part) (t : Tree) → Spells l ps t → IsPlain t
spelled_plain l ps t (operand p i e) = plain_operand p i e
spelled_plain l ps t (of_name op n) = refl
spelled_plain l ps t (before p op qs u e d) = spelled_plain 0 qs u d
spelled_plain l ps t (grouped qs u d) = spelled_plain 6 qs u d
spelled_plain l ps t (between k p op qs rs u v e lev d r) = (spelled_plain (suc k) qs u d, spelled_plain k rs v r)
spelled_plain l ps t (tighter k qs u d) = spelled_plain k qs u d

-- ---- what stands first

-- no operator stands first among the items of a tree
no_operator : (i : ExprItem) (rest : List ExprItem) → plain i ≡ Some i → operator_first (i ∷ rest) ≡ None
no_operator (item.Unary op) rest h = absurd (cc)
no_operator i rest h = refl

tree_first : (t : Tree) → IsPlain t → (rest : List ExprItem) → operator_first (postfix t ++ rest) ≡ None
tree_first (Leaf i) p rest = no_operator i rest p
tree_first (Before op t) p rest =
    ap operator_first (append_assoc (postfix t) (item.Unary op ∷ []) rest) ∙ tree_first t p (item.Unary op ∷ rest)
tree_first (Between op t u) p rest =
    ap operator_first (append_assoc (postfix t ++ postfix u) (item.Binary op ∷ []) rest ∙ append_assoc (postfix t) (postfix u) (item.Binary op ∷ rest))
    ∙ tree_first t p.0 (postfix u ++ item.Binary op ∷ rest)

-- ---- names that stay names

kept_operator : (s : Names) (o : Option UnaryOp) (op : UnaryOp) → kept_before s o (item.Unary op) ≡ item.Unary op
kept_operator s (Some unary.Size) op = refl
kept_operator s o op = refl

kept_binary : (s : Names) (o : Option UnaryOp) (i : ExprItem) → kept_name s i ≡ i → kept_before s o i ≡ i
kept_binary s (Some unary.Size) i h = refl
kept_binary s (Some unary.Defined) i h = refl
kept_binary s o i h = h

-- the items of a tree, before these items
abbrev tree_kept : Names → Tree → List ExprItem → List ExprItem
tree_kept s (Leaf i) rest = kept_before s (operator_first rest) i ∷ []
tree_kept s t rest = postfix (kept_names s t)

kept_whole : (s : Names) (t : Tree) (rest : List ExprItem) → operator_first rest ≡ None → tree_kept s t rest ≡ postfix (kept_names s t)
kept_whole s (Leaf i) rest h = ap (λ o. kept_before s o i ∷ []) h
kept_whole s (Before op t) rest h = refl
kept_whole s (Between op t u) rest h = refl

kept_under : (s : Names) (op : UnaryOp) (t : Tree) (rest : List ExprItem)
    → tree_kept s t (item.Unary op ∷ rest) ++ item.Unary op ∷ [] ≡ postfix (kept_names s (Before op t))
kept_under s unary.Size (Leaf i) rest = refl
kept_under s unary.Defined (Leaf i) rest = refl
kept_under s op (Leaf i) rest = refl
kept_under s op t rest = refl

kept_pass : (s : Names) (t : Tree) → IsPlain t → (rest : List ExprItem)
    → kept_items s (postfix t ++ rest) ≡ tree_kept s t rest ++ kept_items s rest
kept_pass s (Leaf i) p rest = refl
kept_pass s (Before op t) p rest =
    ap (kept_items s) (append_assoc (postfix t) (item.Unary op ∷ []) rest)
    ∙ kept_pass s t p (item.Unary op ∷ rest)
    ∙ ap (λ x. tree_kept s t (item.Unary op ∷ rest) ++ x ∷ kept_items s rest) (kept_operator s (operator_first rest) op)
    ∙ sym (append_assoc (tree_kept s t (item.Unary op ∷ rest)) (item.Unary op ∷ []) (kept_items s rest))
    ∙ ap (λ z. z ++ kept_items s rest) (kept_under s op t rest)
kept_pass s (Between op t u) p rest =
    ap (kept_items s) (append_assoc (postfix t ++ postfix u) (item.Binary op ∷ []) rest ∙ append_assoc (postfix t) (postfix u) (item.Binary op ∷ rest))
    ∙ kept_pass s t p.0 (postfix u ++ item.Binary op ∷ rest)
    ∙ ap (λ z. z ++ kept_items s (postfix u ++ item.Binary op ∷ rest)) (kept_whole s t (postfix u ++ item.Binary op ∷ rest)
    (tree_first u p.1 (item.Binary op ∷ rest)))
    ∙ ap (λ z. postfix (kept_names s t) ++ z)
    (kept_pass s u p.1 (item.Binary op ∷ rest)
    ∙ ap (λ z. z ++ kept_items s (item.Binary op ∷ rest)) (kept_whole s u (item.Binary op ∷ rest) refl)
    ∙ ap (λ x. postfix (kept_names s u) ++ x ∷ kept_items s rest) (kept_binary s (operator_first rest) (item.Binary op) refl))
    ∙ sym (append_assoc (postfix (kept_names s t)) (postfix (kept_names s u)) (item.Binary op ∷ kept_items s rest))
    ∙ sym (append_assoc (postfix (kept_names s t) ++ postfix (kept_names s u)) (item.Binary op ∷ []) (kept_items s rest))

pub kept_of_tree : (s : Names) (ps : List Part) (t : Tree) → IsSpelled ps t → kept_items s (postfix t) ≡ postfix (kept_names s t)
kept_of_tree s ps t d =
    ap (kept_items s) (sym (append-nil (postfix t))) ∙ kept_pass s t (spelled_plain 6 ps t d) []
    ∙ append-nil (tree_kept s t []) ∙ kept_whole s t [] refl

-- ---- names with values

kept_known : (s : Names) (i : ExprItem) (v : Value) → known (operand_of_item s i) ≡ Ok v → kept_name s i ≡ i
kept_known s (item.Name q) v h = by_entry (named_in q s.list) h
  where
    by_entry : (o : Option LaidName) → value_of o ≡ Ok v → cond (has_value o) (item.Name q) (item.Constant (Place q 0)) ≡ item.Name q
    by_entry None k = absurd (cc)
    by_entry (Some n) k = ap (λ r. cond (is_value r) (item.Name q) (item.Constant (Place q 0))) k
kept_known s i v h = refl

then_known : (x : Result Value LineKind) (f : Value → Result Value LineKind) (v : Value) → and_then x f ≡ Ok v → (w : Value) × (x ≡ Ok w)
then_known (Ok w) f v h = (w, refl)
then_known (Err k) f v h = absurd (cc)

before_known : (op : UnaryOp) (x : Result Value LineKind) (v : Value) → applied op (Known x) ≡ Ok v → (w : Value) × (x ≡ Ok w)
before_known op x v h = then_known x (unary_of op) v (sym (applied_known op x) ∙ h)

both_known : (x y : Result Value LineKind) (f : Value → Value → Result Value LineKind) (v : Value) → then_both x y f ≡ Ok v
    → (a : Value) × (b : Value) × (x ≡ Ok a) × (y ≡ Ok b)
both_known (Ok a) (Ok b) f v h = (a, b, refl, refl)
both_known (Ok a) (Err j) f v h = absurd (cc)
both_known (Err k) (Ok b) f v h = absurd (cc)
both_known (Err k) (Err j) f v h = absurd (cc)

kept_below : (s : Names) (op : UnaryOp) (t : Tree) → kept_names s t ≡ t → kept_names s (Before op t) ≡ Before op t
kept_below s unary.Size (Leaf i) h = refl
kept_below s unary.Defined (Leaf i) h = refl
kept_below s op t h = ap (Before op) h

-- a tree with a value stays what it is
pub kept_same : (s : Names) (t : Tree) (v : Value) → meaning s t ≡ Ok v → kept_names s t ≡ t
kept_same s (Leaf i) v h = ap Leaf (kept_known s i v h)
kept_same s (Before unary.Size (Leaf i)) v h = refl
kept_same s (Before unary.Defined (Leaf i)) v h = refl
kept_same s (Before op (Leaf i)) v h =
    let x = then_known (known (operand_of_item s i)) (unary_of op) v h in ap (λ (x : ExprItem). Before op (Leaf x)) (kept_known s i x.0 x.1)
kept_same s (Before op (Before o t)) v h =
    let x = before_known op (meaning s (Before o t)) v h in kept_below s op (Before o t) (kept_same s (Before o t) x.0 x.1)
kept_same s (Before op (Between o t u)) v h =
    let x = before_known op (meaning s (Between o t u)) v h in kept_below s op (Between o t u) (kept_same s (Between o t u) x.0 x.1)
kept_same s (Between op t u) v h =
    let x = both_known (meaning s t) (meaning s u) (binary s op) v h in
    λ i. Between op (kept_same s t x.0 x.2 i) (kept_same s u x.1 x.3 i)

-- ---- a tree in which names stay names is spelled by other parts

abbrev SpelledAt : ℕ → Tree → Type 0
SpelledAt l t = (ps : List Part) × Spells l ps t

respell_leaf : (i : ExprItem) → plain i ≡ Some i → SpelledAt 0 (Leaf i)
respell_leaf i h = (part.Operand i ∷ [], operand (part.Operand i) i h)

kept_plain : (s : Names) (i : ExprItem) → plain i ≡ Some i → plain (kept_name s i) ≡ Some (kept_name s i)
kept_plain s (item.Name q) h = by_test (has_value (named_in q s.list))
  where
    by_test : (b : Bool) → plain (cond b (item.Name q) (item.Constant (Place q 0))) ≡ Some (cond b (item.Name q) (item.Constant (Place q 0)))
    by_test true = refl
    by_test false = refl
kept_plain s (item.Unary op) h = absurd (cc)
kept_plain s (item.Binary op) h = absurd (cc)
kept_plain s i h = refl

respell_before : (op : UnaryOp) (t : Tree) → SpelledAt 0 t → SpelledAt 0 (Before op t)
respell_before op t d = (part.Prefix op ∷ d.0, before (part.Prefix op) op d.0 t refl d.1)

respell_kept : (s : Names) (op : UnaryOp) (t : Tree) → IsPlain t → SpelledAt 0 (kept_names s t) → SpelledAt 0 (kept_names s (Before op t))
respell_kept s unary.Size (Leaf i) p d = respell_before unary.Size (Leaf i) (respell_leaf i p)
respell_kept s unary.Defined (Leaf i) p d = respell_before unary.Defined (Leaf i) (respell_leaf i p)
respell_kept s op t p d = respell_before op (kept_names s t) d

respell : (s : Names) (l : ℕ) (ps : List Part) (t : Tree) → Spells l ps t → SpelledAt l (kept_names s t)
respell s l ps t (operand p i e) = respell_leaf (kept_name s i) (kept_plain s i (plain_operand p i e))
respell s l ps t (of_name op q) = respell_kept s op (Leaf (item.Name q)) refl (respell_leaf (kept_name s (item.Name q)) (kept_plain s (item.Name q) refl))
respell s l ps t (before p op qs u e d) = respell_kept s op u (spelled_plain 0 qs u d) (respell s 0 qs u d)
respell s l ps t (grouped qs u d) =
    let r = respell s 6 qs u d in
    (part.Open ∷ r.0 ++ part.Close ∷ [], grouped r.0 (kept_names s u) r.1)
respell s l ps t (between k p op qs rs u v e lev d r) =
    let left = respell s (suc k) qs u d in
    let right = respell s k rs v r in
    (left.0 ++ p ∷ right.0, between k p op left.0 right.0 (kept_names s u) (kept_names s v) e lev left.1 right.1)
respell s l ps t (tighter k qs u d) =
    let r = respell s k qs u d in
    (r.0, tighter k r.0 (kept_names s u) r.1)

pub kept_spelled : (s : Names) (ps : List Part) (t : Tree) → IsSpelled ps t → (qs : List Part) × IsSpelled qs (kept_names s t)
kept_spelled s ps t d = respell s 6 ps t d
