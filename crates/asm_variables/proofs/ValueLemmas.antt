-- Values of expressions of expansion.
use Rattle.std.proofs.Common.{◌≡◌, ℕ, suc, List, [], ◌∷◌, ◌++◌, Bool, true, false, refl, sym, ◌∙◌, ap, subst, append_assoc, append-nil, Option, Some}
use Rattle.std.specs.Prelude.{Result, Ok, Err, IfOk}
use Rattle.sdt_fault.specs.declared.NoMemory.{NoMemory}
use Rattle.sdt_fault.specs.declared.kinds.LineKind.{LineKind}
use Rattle.asm_model.specs.declared.exprs.Expr.{Expr}
use Rattle.asm_model.specs.declared.exprs.ExprItem.{ExprItem}
use Rattle.asm_model.specs.declared.exprs.ExprItem.TheVariants as item
use Rattle.asm_model.specs.declared.exprs.Part.{Part}
use Rattle.asm_model.specs.declared.exprs.UnaryOp.{UnaryOp}
use Rattle.asm_model.specs.declared.exprs.UnaryOp.TheVariants as unary
use Rattle.asm_model.specs.declared.exprs.BinaryOp.{BinaryOp}
use Rattle.asm_model.specs.declared.names.LaidName.{LaidName}
use Rattle.asm_model.specs.declared.names.Names.{Names}
use Rattle.asm_model.specs.declared.values.EvalFault.{EvalFault}
use Rattle.asm_model.specs.declared.values.Value.{Value}
use Rattle.asm_model.specs.FaultSets.{first_told}
use Rattle.asm_model.specs.Grammar.{Tree, Leaf, Before, Between, postfix, plain, Spells, operand, of_name, before, grouped, between, tighter, IsSpelled}
use Rattle.asm_model.specs.Kinds.{told_kind}
use Rattle.asm_model.specs.Meaning.{meaning, Evaluates, IsValue}
use Rattle.asm_model.proofs.FaultLemmas.{first_assoc, told_by_parts}
use Rattle.asm_model.proofs.TreeLemmas.{plain_operand, trees_read_back}
use Rattle.expand_model.specs.Known.{Operand, asked_kinds, tree_kinds, unless_told, names_with, maybe_value, value_with}
use Rattle.expand_model.specs.States.{State}
use Rattle.asm_variables.specs.declared.expansion.Expansion.{Expansion}
use Rattle.asm_variables.specs.declared.values.Visible.{Visible}
use Rattle.asm_variables.specs.Entries.{items_entries}
use Rattle.asm_variables.specs.Expanding.{Represents}
use Rattle.asm_variables.specs.Known.{IsExpression, entries_in, all_entries, is_asked, kinds_of, items_kinds}
use Rattle.asm_variables.specs.Valued.{IsValueOf}
use Rattle.asm_variables.proofs.KnownLemmas.{no_areas}
use Rattle.asm_variables.proofs.MeaningLemmas.{placeless, small_meaning}

-- ---- with few names

pub with_small : (v : Visible) (s : State) (items : List ExprItem) (names : Names) (result : Result Value EvalFault)
    → names ≡ placeless s.thumb (items_entries (all_entries v s) items) → Evaluates names items result
    → (ps : List Part) (t : Tree) → IsSpelled ps t → items ≡ postfix t → IsValue (meaning (names_with s (all_entries v s)) t) result
with_small v s items names result e evaluates ps t spelled is =
    let h = evaluates ps t spelled is in
    let few : names ≡ placeless s.thumb (items_entries (all_entries v s) (postfix t)) =
    e ∙ ap (λ (xs : List ExprItem). placeless s.thumb (items_entries (all_entries v s) xs)) is in
    let all : meaning names t ≡ meaning (placeless s.thumb (all_entries v s)) t =
    ap (λ (n : Names). meaning n t) few ∙ small_meaning s.thumb (all_entries v s) (no_areas v s) t in
    subst (λ (m : Result Value LineKind). IsValue m result) all h

-- ---- faults of items

-- :DEF: stands behind its operand
not_first : (i : ExprItem) (rest : List ExprItem) → plain i ≡ Some i → is_asked (i ∷ rest) ≡ false
not_first (item.Name q) rest h = refl
not_first (item.Local q) rest h = refl
not_first (item.Constant v) rest h = refl
not_first item.TooLarge rest h = refl
not_first item.Here rest h = refl
not_first item.Map rest h = refl
not_first item.CodeSize rest h = refl
not_first (item.Unary op) rest h = absurd (cc)
not_first (item.Binary op) rest h = refl

tree_first : (l : ℕ) (ps : List Part) (t : Tree) → Spells l ps t → (rest : List ExprItem) → is_asked (postfix t ++ rest) ≡ false
tree_first l ps t (operand p i e) rest = not_first i rest (plain_operand p i e)
tree_first l ps t (of_name op n) rest = refl
tree_first l ps t (before p op qs u e d) rest =
    ap is_asked (append_assoc (postfix u) (item.Unary op ∷ []) rest) ∙ tree_first 0 qs u d (item.Unary op ∷ rest)
tree_first l ps t (grouped qs u d) rest = tree_first 6 qs t d rest
tree_first l ps t (between k p op qs rs u v e lev d r) rest =
    ap is_asked (append_assoc (postfix u ++ postfix v) (item.Binary op ∷ []) rest ∙ append_assoc (postfix u) (postfix v) (item.Binary op ∷ rest))
    ∙ tree_first (suc k) qs u d (postfix v ++ item.Binary op ∷ rest)
tree_first l ps t (tighter k qs u d) rest = tree_first k ps t d rest

module _ (values : List LaidName) where
  -- the faults of a tree, before these items
  abbrev kinds_before : Tree → List ExprItem → List LineKind
  kinds_before (Leaf i) rest = kinds_of values (is_asked rest) i
  kinds_before (Before op t) rest = kinds_before t (item.Unary op ∷ [])
  kinds_before (Between op t u) rest = kinds_before t [] ++ kinds_before u []

  kinds_under : (op : UnaryOp) (i : ExprItem) → asked_kinds values op i ≡ kinds_of values (is_asked (item.Unary op ∷ [])) i
  kinds_under unary.Defined i = refl
  kinds_under op i = refl

  kinds_alone : (t : Tree) → tree_kinds values t ≡ kinds_before t []
  kinds_alone (Leaf i) = refl
  kinds_alone (Before op (Leaf i)) = kinds_under op i
  kinds_alone (Before op (Before o t)) = kinds_alone (Before o t)
  kinds_alone (Before op (Between o t u)) = kinds_alone (Between o t u)
  kinds_alone (Between op t u) =
      ap (λ (ks : List LineKind). ks ++ tree_kinds values u) (kinds_alone t) ∙ ap (λ (ks : List LineKind). kinds_before t [] ++ ks) (kinds_alone u)

  same_asked : (a b : List ExprItem) → is_asked a ≡ is_asked b → (t : Tree) → kinds_before t a ≡ kinds_before t b
  same_asked a b e (Leaf i) = ap (λ (x : Bool). kinds_of values x i) e
  same_asked a b e (Before op t) = refl
  same_asked a b e (Between op t u) = refl

  one_asked : (op : UnaryOp) (rest : List ExprItem) → is_asked (item.Unary op ∷ rest) ≡ is_asked (item.Unary op ∷ [])
  one_asked unary.Defined rest = refl
  one_asked op rest = refl

  -- an operator has no fault
  none_of_unary : (b : Bool) (op : UnaryOp) → kinds_of values b (item.Unary op) ≡ []
  none_of_unary true op = refl
  none_of_unary false op = refl

  none_of_binary : (b : Bool) (op : BinaryOp) → kinds_of values b (item.Binary op) ≡ []
  none_of_binary true op = refl
  none_of_binary false op = refl

  pass : (l : ℕ) (ps : List Part) (t : Tree) → Spells l ps t → (rest : List ExprItem)
      → items_kinds values (postfix t ++ rest) ≡ kinds_before t rest ++ items_kinds values rest
  pass l ps t (operand p i e) rest = refl
  pass l ps t (of_name op n) rest =
      rw (none_of_unary (is_asked rest) op, one_asked op rest) refl
  pass l ps t (before p op qs u e d) rest =
      ap (items_kinds values) (append_assoc (postfix u) (item.Unary op ∷ []) rest)
      ∙ pass 0 qs u d (item.Unary op ∷ rest)
      ∙ rw (none_of_unary (is_asked rest) op, same_asked (item.Unary op ∷ rest) (item.Unary op ∷ []) (one_asked op rest) u) refl
  pass l ps t (grouped qs u d) rest = pass 6 qs t d rest
  pass l ps t (between k p op qs rs u v e lev d r) rest =
      ap (items_kinds values) (append_assoc (postfix u ++ postfix v) (item.Binary op ∷ []) rest ∙ append_assoc (postfix u) (postfix v) (item.Binary op ∷ rest))
      ∙ pass (suc k) qs u d (postfix v ++ item.Binary op ∷ rest)
      ∙ rw (
        same_asked (postfix v ++ item.Binary op ∷ rest) [] (tree_first k rs v r (item.Binary op ∷ rest)) u,
        pass k rs v r (item.Binary op ∷ rest),
        same_asked (item.Binary op ∷ rest) [] refl v,
        none_of_binary (is_asked rest) op,
      ) (sym (append_assoc (kinds_before u []) (kinds_before v []) (items_kinds values rest)))
  pass l ps t (tighter k qs u d) rest = pass k ps t d rest

  kinds_of_items : (ps : List Part) (t : Tree) → IsSpelled ps t → tree_kinds values t ≡ items_kinds values (postfix t)
  kinds_of_items ps t d =
      kinds_alone t ∙ sym (ap (items_kinds values) (sym (append-nil (postfix t))) ∙ pass 6 ps t d [] ∙ append-nil (kinds_before t []))

  -- an item more
  pub told_more : (told now new : Option LineKind) (asked : Bool) (left is : List ExprItem) (i : ExprItem) → left ≡ i ∷ is → asked ≡ is_asked is
      → now ≡ told_kind (kinds_of values asked i) → new ≡ first_told told now
      → first_told new (told_kind (items_kinds values is)) ≡ first_told told (told_kind (items_kinds values left))
  told_more told now new asked left is i s a e f =
      rw (f, e, a) (sym (first_assoc told (told_kind (kinds_of values (is_asked is) i)) (told_kind (items_kinds values is))))
      ∙ ap (first_told told) (sym (told_by_parts (kinds_of values (is_asked is) i) (items_kinds values is))
      ∙ ap (λ (x : List ExprItem). told_kind (items_kinds values x)) (sym s))

-- ---- values

pub value_of_items : (v : Visible) (s : State) (e : Expr) (x : IsExpression e.items) (told : Option LineKind)
    → told ≡ told_kind (items_kinds (entries_in v s) e.items)
    → value_with s (entries_in v s) (Ok e) ≡ unless_told told (meaning (names_with s (all_entries v s)) x.tree)
value_of_items v s e x told h =
    ap (λ (o : Option Tree). maybe_value s (entries_in v s) o) (trees_read_back x.parts x.tree e x.spelled x.are)
    ∙ ap (λ (o : Option LineKind). unless_told o (meaning (names_with s (all_entries v s)) x.tree))
    (ap told_kind (kinds_of_items (entries_in v s) x.parts x.tree x.spelled)
    ∙ ap (λ (is : List ExprItem). told_kind (items_kinds (entries_in v s) is)) (sym x.are) ∙ sym h)

-- a value that is the model's of each state
pub given_each : (v : Visible) (c : Expansion) (x : Operand) (told : Result (Result Value LineKind) NoMemory)
    → ((s : State) → Represents c s → IfOk told (λ y. y ≡ value_with s (entries_in v s) x)) → IfOk told (λ y. IsValueOf v c x y)
given_each v c x (Ok y) h = h
given_each v c x (Err e) h = tt
