-- The value of an expression that is the name of a place alone, or a number alone.
use Rattle.std.proofs.Common.{◌≡◌, ℕ, List, [], ◌∷◌, Bool, true, false, cond, refl, sym, ap, ◌∙◌, subst, Option, Some, None}
use Rattle.std.specs.Prelude.{Ok}
use Rattle.asm_model.specs.declared.exprs.Expr.{Expr}
use Rattle.asm_model.specs.declared.exprs.ExprItem.{ExprItem}
use Rattle.asm_model.specs.declared.exprs.ExprItem.TheVariants as item
use Rattle.asm_model.specs.declared.names.LaidName.{LaidName}
use Rattle.asm_model.specs.declared.names.Meaning.{Meaning}
use Rattle.asm_model.specs.declared.names.Meaning.TheVariants as means
use Rattle.asm_model.specs.declared.values.Value.TheVariants.{Number, Place}
use Rattle.asm_model.specs.AtLine.{with_names}
use Rattle.asm_model.specs.Meaning.{named_in, meant, entry_value, value_of as named_value}
use Rattle.asm_model.specs.Said.{IsRead}
use Rattle.asm_model.specs.Trees.{tree_behind, tree_of}
use Rattle.asm_model.proofs.TreeLemmas.{trees_read_back}
use Rattle.layout_laws.proofs.FoundLemmas.{tree_final, final_tree}
use Rattle.asm_expr.specs.Evaluating.{run, ended}
use Rattle.asm_expr.proofs.EvalLemmas.{run_expression}
use Rattle.asm_names.specs.PlacedLines.{line_of}
use Rattle.asm_names.proofs.EntryLemmas.{named_same}
use Rattle.source_model.specs.Contexts.{value_of}
use Rattle.asm_instructions.specs.declared.lookups.Lookup.{Lookup}
use Rattle.asm_instructions.specs.Lone.{is_symbolic, symbolic, item_entry, lone_place}
use Rattle.asm_instructions.specs.Lookups.{context_of}

meant_place : (name : List ℕ) (m : Meaning) → is_symbolic m ≡ true → meant name m ≡ Ok (Place name 0)
meant_place name means.Later h = absurd (cc)
meant_place name means.Label h = refl
meant_place name means.Imported h = refl
meant_place name means.Place h = refl
meant_place name (means.Known v) h = absurd (cc)
meant_place name (means.Faulty k) h = absurd (cc)
meant_place name means.Register h = absurd (cc)

symbolic_entry : (o : Option LaidName) (n : LaidName) → symbolic o ≡ Some n → (o ≡ Some n) × (entry_value n ≡ Ok (Place n.name 0))
symbolic_entry None n h = absurd (cc)
symbolic_entry (Some m) n h = by_test (is_symbolic m.meaning) refl h
  where
    by_test : (b : Bool) → is_symbolic m.meaning ≡ b → cond b (Some m) None ≡ Some n → (Some m ≡ Some n) × (entry_value n ≡ Ok (Place n.name 0))
    by_test true e k =
        let x : m ≡ n = cc in
        (k, subst (λ (z : LaidName). entry_value z ≡ Ok (Place z.name 0)) x (meant_place m.name m.meaning e))
    by_test false e k = absurd (cc)

-- the item is the name, and the entry is its own
lone_item : (names : List LaidName) (i : ExprItem) (n : LaidName) → item_entry names i ≡ Some n
    → (q : List ℕ) × (i ≡ item.Name q) × (named_in q names ≡ Some n)
lone_item names (item.Name q) n h = (q, refl, h)
lone_item names (item.Local q) n h = absurd (cc)
lone_item names (item.Constant v) n h = absurd (cc)
lone_item names item.TooLarge n h = absurd (cc)
lone_item names item.Here n h = absurd (cc)
lone_item names item.Map n h = absurd (cc)
lone_item names item.CodeSize n h = absurd (cc)
lone_item names (item.Unary op) n h = absurd (cc)
lone_item names (item.Binary op) n h = absurd (cc)

lone_name : (names : List LaidName) (is : List ExprItem) (n : LaidName) → lone_place names is ≡ Some n
    → (q : List ℕ) × (is ≡ item.Name q ∷ []) × (named_in q names ≡ Some n) × (entry_value n ≡ Ok (Place n.name 0))
lone_name names [] n h = absurd (cc)
lone_name names (i ∷ []) n h =
    let s = symbolic_entry (item_entry names i) n h in
    let l = lone_item names i n s.0 in
    (l.0, ap (λ (z : ExprItem). z ∷ []) l.1, l.2, s.1)
lone_name names (i ∷ j ∷ is) n h = absurd (cc)

pub lone_found : (names : List LaidName) (is : List ExprItem) (n : LaidName) → lone_place names is ≡ Some n → named_in n.name names ≡ Some n
lone_found names is n h = let l = lone_name names is n h in named_same l.0 names n l.2

pub lone_value : (x : Lookup) (e : Expr) (n : LaidName) → IsRead e → lone_place x.names.now e.items ≡ Some n
    → value_of (context_of x) e ≡ Ok (Place n.name 0)
lone_value x e n read h =
    let f = line_of x.line.now in
    let l = lone_name x.names.now e.items n h in
    let sees = with_names f x.names.now in
    final_tree x.names.now f e (tree_of e) refl
    ∙ ap (tree_final x.names.now f) (trees_read_back read.parts read.tree e read.spelled read.items)
    ∙ sym (run_expression sees read.parts read.tree read.spelled)
    ∙ ap (λ (is : List ExprItem). ended (run sees is [])) (sym read.items ∙ l.1)
    ∙ ap named_value l.2
    ∙ l.3

pub lone_number : (x : Lookup) (e : Expr) (n : ℕ) → e.items ≡ item.Constant (Number n) ∷ [] → value_of (context_of x) e ≡ Ok (Number n)
lone_number x e n h =
    let f = line_of x.line.now in
    final_tree x.names.now f e (tree_of e) refl ∙ ap (λ (is : List ExprItem). tree_final x.names.now f (tree_behind (Some []) is)) h
