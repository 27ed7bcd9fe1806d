-- A symbol of a value is a name of the source that stands for itself.
use Rattle.std.proofs.Common.{◌≡◌, ℕ, zero, suc, List, [], ◌∷◌, ◌++◌, length, Bool, true, false, cond, refl, sym, ◌∙◌, ap, subst, Option, Some, None, ◌⊎◌, inl, inr}
use Rattle.std.specs.Prelude.{Result, Ok}
use Rattle.sdt_fault.specs.declared.kinds.LineKind.{LineKind}
use Rattle.asm_model.specs.declared.exprs.BinaryOp.TheVariants.{Add}
use Rattle.asm_model.specs.declared.exprs.Expr.{Expr}
use Rattle.asm_model.specs.declared.exprs.ExprItem.{ExprItem}
use Rattle.asm_model.specs.declared.exprs.ExprItem.TheVariants as item
use Rattle.asm_model.specs.declared.values.Value.{Value}
use Rattle.asm_model.specs.declared.values.Value.TheVariants.{Number, Truth, Words, Place}
use Rattle.asm_model.specs.declared.names.LaidName.{LaidName}
use Rattle.asm_model.specs.declared.statements.Statement.{Statement}
use Rattle.asm_model.specs.AtLine.{Definition, Nameless, Named, Equated, SourceLine, with_names}
use Rattle.asm_model.specs.Forms.{same}
use Rattle.asm_model.specs.Grammar.{Tree, Leaf, Before, Between}
use Rattle.asm_model.specs.Meaning.{named_in, entry_value, known, operand_of_item, operand_of_tree, meaning}
use Rattle.asm_model.proofs.WordLemmas.{same_true}
use Rattle.asm_model.specs.Before.{area_behind, is_thumb_label}
use Rattle.asm_model.specs.Labels.{Defined, Unnamed, Label, Equal, MapField, RegisterName, defined_by, imported_in, declared_names}
use Rattle.asm_model.specs.Laid.{LaidLine, statements_of, map_behind, offset_behind, tree_equated, definition_of, imported_lines, laid_behind, laid_of, laid, source_lines, entries_with, all_entries, final_names}
use Rattle.asm_model.specs.Symbols.{literal_value}
use Rattle.asm_model.specs.Trees.{tree_of}
use Rattle.asm_model.specs.Sound.{IsSound, HaveNoPlaces, ArePlain}
use Rattle.layout_laws.proofs.EqualLemmas.{all_equals, OfTrees, equal_weaker, lines_hold, lines_regular}
use Rattle.layout_laws.proofs.FoundLemmas.{tree_final, final_tree}
use Rattle.layout_laws.proofs.RoundLemmas.{SymbolIs, ResultIs, ItemIs, TreeIs, result_weaker, applied_is, value_is, both_is}
use Rattle.layout_laws.proofs.SettledLemmas.{all_lead, final_names_are_their_entries}
use Rattle.layout_laws.proofs.SoundLemmas.{IsPlainEqual, equals_plain}
use Rattle.layout_laws.proofs.StepLemmas.{name_of, EachEquated, HoldsOf, IsMade, IsRegular, AreRegular, IsGood, each_weaker}
use Rattle.source_model.specs.Contexts.{Context, sees, value_of}
use Rattle.source_laws.specs.Laws.{context_behind}
use Rattle.layout_laws.proofs.SettledLemmas.{HoldsConstant, no_places_hold}
use Rattle.layout_laws.proofs.TreeLemmas.{TreeEach, tree_each}

-- ---- values

-- names with the one property stand for values whose symbols have the other
abbrev pub ClosedTo : (List ℕ → Type 0) → (List ℕ → Type 0) → List LaidName → Type 0
ClosedTo P Q xs = (q : List ℕ) (n : LaidName) → P q → named_in q xs ≡ Some n → ResultIs Q (entry_value n)

pub item_to : (P Q : List ℕ → Type 0) (l : SourceLine) (xs : List LaidName) → ClosedTo P Q xs → (i : ExprItem) → ItemIs P i → HoldsConstant Q i
    → ResultIs Q (known (operand_of_item (with_names l xs) i))
item_to P Q l xs closed (item.Name q) h k = value_is Q (named_in q xs) (λ n. closed q n h)
item_to P Q l xs closed (item.Local q) h k = tt
item_to P Q l xs closed (item.Constant v) h k = k
item_to P Q l xs closed item.Here h k = tt
item_to P Q l xs closed item.TooLarge h k = tt
item_to P Q l xs closed item.Map h k = tt
item_to P Q l xs closed item.CodeSize h k = tt
item_to P Q l xs closed (item.Unary op) h k = tt
item_to P Q l xs closed (item.Binary op) h k = tt

pub tree_to : (P Q : List ℕ → Type 0) (l : SourceLine) (xs : List LaidName) → ClosedTo P Q xs → (t : Tree) → TreeIs P t → TreeEach (HoldsConstant Q) t
    → ResultIs Q (meaning (with_names l xs) t)
tree_to P Q l xs closed (Leaf i) h k = item_to P Q l xs closed i h k
tree_to P Q l xs closed (Before op t) h k = applied_is Q op (operand_of_tree (with_names l xs) t)
tree_to P Q l xs closed (Between op t u) h k =
    both_is Q (with_names l xs) op (meaning (with_names l xs) t) (meaning (with_names l xs) u) (tree_to P Q l xs closed t h.0 k.0)
    (tree_to P Q l xs closed u h.1 k.1)

-- ---- entries

-- an entry is its own symbol, or its symbol has the property
abbrev pub OwnOr : (List ℕ → Type 0) → LaidName → Type 0
OwnOr Q n = (entry_value n ≡ Ok (Place n.name 0)) ⊎ ResultIs Q (entry_value n)

pub own_weaker : (P Q : List ℕ → Type 0) → ((q : List ℕ) → P q → Q q) → (n : LaidName) → OwnOr P n → OwnOr Q n
own_weaker P Q f n (inl e) = inl e
own_weaker P Q f n (inr h) = inr (result_weaker P Q f (entry_value n) h)

abbrev pub nothing : List ℕ → Type 0
nothing q = ⊥

abbrev pub IsOwned : Definition → Type 0
IsOwned (Named n) = OwnOr nothing n
IsOwned _ = Unit {0}

abbrev pub AreOwned : List SourceLine → Type 0
AreOwned [] = Unit {0}
AreOwned (l ∷ ls) = IsOwned l.definition × AreOwned ls

abbrev pub LeadTo : (List ℕ → Type 0) → (List ℕ → Type 0) → List ℕ → List ℕ → Tree → Type 0
LeadTo P Q q p t = p ≡ q → TreeIs P t × TreeEach (HoldsConstant Q) t

pub made_own : (Q : List ℕ → Type 0) (make : Result Value LineKind → LaidName) (r : Result Value LineKind) → IsMade make r → ResultIs Q r
    → OwnOr Q (make r)
made_own Q make r made h =
    elim made.1 [ inl x ↦ inr (subst (ResultIs Q) (sym x) h) | inr x ↦ inl (x ∙ ap (λ z. Ok (Place z 0)) (sym made.0)) ]

pub made_found : (Q : List ℕ → Type 0) (make : Result Value LineKind → LaidName) (r : Result Value LineKind) (q : List ℕ) (us : List LaidName) (n : LaidName)
    → IsMade make r → (name_of make ≡ q → ResultIs Q r) → (named_in q us ≡ Some n → OwnOr Q n)
    → named_in q (make r ∷ us) ≡ Some n → OwnOr Q n
made_found Q make r q us n made h rest e = by_test (same (make r).name q) refl e
  where
    by_test : (c : Bool) → same (make r).name q ≡ c → cond c (Some (make r)) (named_in q us) ≡ Some n → OwnOr Q n
    by_test true s k =
        let x : make r ≡ n = cc in
        subst (OwnOr Q) x (made_own Q make r made (h (sym made.0 ∙ same_true (make r).name q s)))
    by_test false s k = rest k

pub entry_own : (P Q : List ℕ → Type 0) (xs : List LaidName) (q : List ℕ) (l : SourceLine) (us : List LaidName) (n : LaidName)
    → ClosedTo P Q xs → (d : Definition) → IsRegular d → IsOwned d → HoldsOf (LeadTo P Q q) d → (named_in q us ≡ Some n → OwnOr Q n)
    → named_in q (entries_with xs l d ++ us) ≡ Some n → OwnOr Q n
entry_own P Q xs q l us n closed Nameless regular owned h rest e = rest e
entry_own P Q xs q l us n closed (Named m) regular owned h rest e = by_test (same m.name q) e
  where
    by_test : (c : Bool) → cond c (Some m) (named_in q us) ≡ Some n → OwnOr Q n
    by_test true k = let x : m ≡ n = cc in subst (OwnOr Q) x (own_weaker nothing Q (λ s g. absurd g) m owned)
    by_test false k = rest k
entry_own P Q xs q l us n closed (Equated make t) regular owned h rest e =
    made_found Q make (meaning (with_names l xs) t) q us n (regular (meaning (with_names l xs) t)) (λ y. let p = h y in tree_to P Q l xs closed t p.0 p.1) rest
    e

pub entries_own : (P Q : List ℕ → Type 0) (xs : List LaidName) (q : List ℕ) (n : LaidName) → ClosedTo P Q xs
    → (ls : List SourceLine) → AreRegular ls → AreOwned ls → EachEquated (LeadTo P Q q) ls → named_in q (all_entries xs ls) ≡ Some n → OwnOr Q n
entries_own P Q xs q n closed [] regular owned h e = absurd (cc)
entries_own P Q xs q n closed (l ∷ ls) regular owned h e =
    entry_own P Q xs q l (all_entries xs ls) n closed l.definition regular.0 owned.0 h.0
    (entries_own P Q xs q n closed ls regular.1 owned.1 h.1) e

-- ---- names that stand for themselves

abbrev pub IsOwn : List LaidName → List ℕ → Type 0
IsOwn names s = (n : LaidName) × (named_in s names ≡ Some n) × (entry_value n ≡ Ok (Place s 0))

pub own_place_is : (names : List LaidName) (q : List ℕ) → IsOwn names q → SymbolIs (IsOwn names) (Place q 0)
own_place_is names [] h = tt
own_place_is names (c ∷ cs) h = h

pub named_name : (q : List ℕ) (xs : List LaidName) (n : LaidName) → named_in q xs ≡ Some n → n.name ≡ q
named_name q [] n e = absurd (cc)
named_name q (m ∷ ms) n e = by_test (same m.name q) refl (named_name q ms n) e
  where
    by_test : (c : Bool) → same m.name q ≡ c → (named_in q ms ≡ Some n → n.name ≡ q) → cond c (Some m) (named_in q ms) ≡ Some n → n.name ≡ q
    by_test true s f k = let x : m ≡ n = cc in subst (λ (z : LaidName). z.name ≡ q) x (same_true m.name q s)
    by_test false s f k = f k

pub each_both : (R S T : List ℕ → Tree → Type 0) → ((p : List ℕ) (t : Tree) → R p t → S p t → T p t) → (ls : List SourceLine)
    → EachEquated R ls → EachEquated S ls → EachEquated T ls
each_both R S T f [] h k = tt
each_both R S T f (l ∷ ls) h k = (by_definition l.definition h.0 k.0, each_both R S T f ls h.1 k.1)
  where
    by_definition : (d : Definition) → HoldsOf R d → HoldsOf S d → HoldsOf T d
    by_definition Nameless g i = tt
    by_definition (Named n) g i = tt
    by_definition (Equated make t) g i = f (name_of make) t g i

-- names that are their own entries, by lines that have no places as constants
pub record AreFinal (names : List LaidName) (ls : List SourceLine) : Type 0 where
  pub same_again : all_entries names ls ≡ names
  pub regular : AreRegular ls
  pub owned : AreOwned ls
  pub placeless : EachEquated (λ p t. TreeEach (HoldsConstant (IsOwn names)) t) ls

pub one_step : (names : List LaidName) (ls : List SourceLine) → AreFinal names ls → (P : List ℕ → Type 0) → ClosedTo P (IsOwn names) names
    → (q : List ℕ) (n : LaidName) → EachEquated (λ p t. p ≡ q → TreeIs P t) ls → named_in q names ≡ Some n → ResultIs (IsOwn names) (entry_value n)
one_step names ls final P closed q n h e =
    by_case
    (entries_own P (IsOwn names) names q n closed ls final.regular final.owned
    (each_both (λ p t. p ≡ q → TreeIs P t) (λ p t. TreeEach (HoldsConstant (IsOwn names)) t) (LeadTo P (IsOwn names) q) (λ p t f k x. (f x, k)) ls h
    final.placeless)
    (ap (named_in q) final.same_again ∙ e))
  where
    by_case : OwnOr (IsOwn names) n → ResultIs (IsOwn names) (entry_value n)
    by_case (inr k) = k
    by_case (inl x) =
        let y : entry_value n ≡ Ok (Place q 0) = x ∙ ap (λ z. Ok (Place z 0)) (named_name q names n e) in
        subst (ResultIs (IsOwn names)) (sym y) (own_place_is names q (n, e, y))

pub good_own : (names : List LaidName) (ls : List SourceLine) → AreFinal names ls → (k : ℕ) → ClosedTo (IsGood ls k) (IsOwn names) names
good_own names ls final zero q n h e = absurd h
good_own names ls final (suc k) q n h e = one_step names ls final (IsGood ls k) (good_own names ls final k) q n h e

pub all_own : (names : List LaidName) (ls : List SourceLine) → AreFinal names ls → (k : ℕ) → EachEquated (λ p t. TreeIs (IsGood ls k) t) ls
    → (q : List ℕ) (n : LaidName) → named_in q names ≡ Some n → ResultIs (IsOwn names) (entry_value n)
all_own names ls final k lead q n e =
    one_step names ls final (IsGood ls k) (good_own names ls final k) q n
    (each_weaker (λ p t. TreeIs (IsGood ls k) t) (λ p t. p ≡ q → TreeIs (IsGood ls k) t) (λ p t h x. h) ls lead) e

-- ---- lines

pub equated_owned : (names : List LaidName) (area : Option ℕ) (name : List ℕ) (o : Option Tree) → IsOwned (tree_equated names area name o)
equated_owned names area name None = tt
equated_owned names area name (Some t) = tt

pub definition_owned : (names : List LaidName) (x : Defined) (area : Option ℕ) (offset : ℕ) (size : Option ℕ) (thumb : Bool) (m : ℕ)
    → IsOwned (definition_of names x area offset size thumb m)
definition_owned names Unnamed area offset size thumb m = tt
definition_owned names (Label name) area offset size thumb m = inl refl
definition_owned names (Equal name e) area offset size thumb m = equated_owned names area name (tree_of e)
definition_owned names (MapField name) area offset size thumb m = inr tt
definition_owned names (RegisterName name r) area offset size thumb m = inr tt

pub imported_owned : (s : Statement) (before : List LaidLine) (o : Option (List ℕ)) → AreOwned (imported_lines s before o)
imported_owned s before None = tt
imported_owned s before (Some name) = (inl refl, tt)

pub owned_joined : (ls ms : List SourceLine) → AreOwned ls → AreOwned ms → AreOwned (ls ++ ms)
owned_joined [] ms h k = k
owned_joined (l ∷ ls) ms h k = (h.0, owned_joined ls ms h.1 k)

pub lines_owned : (d : List LaidName) (ss : List Statement) → AreOwned (source_lines (laid_of d ss))
lines_owned d [] = tt
lines_owned d (s ∷ ss) =
    owned_joined (source_lines (laid_of d ss)) ((laid_behind d s (laid_of d ss)).line ∷ imported_lines s (laid_of d ss) (imported_in s.what))
    (lines_owned d ss) (
      definition_owned d (defined_by s) (area_behind (s ∷ statements_of (laid_of d ss))) (offset_behind s (laid_of d ss))
          (Some (laid_behind d s (laid_of d ss)).size) (is_thumb_label s (statements_of (laid_of d ss))) (map_behind (laid_of d ss)),
      imported_owned s (laid_of d ss) (imported_in s.what),
    )

pub lines_placeless : (Q : List ℕ → Type 0) (d : List LaidName) (ss : List Statement) → ArePlain ss
    → EachEquated (λ p t. TreeEach (HoldsConstant Q) t) (source_lines (laid_of d ss))
lines_placeless Q d ss plain =
    lines_hold (λ p t. TreeEach (HoldsConstant Q) t) d ss
    (equal_weaker IsPlainEqual (OfTrees (λ p t. TreeEach (HoldsConstant Q) t))
    (λ p e a t s. tree_each (HoldsConstant Q) e.items (Some []) t (no_places_hold Q e.items a) tt s) (all_equals ss) (equals_plain ss plain))

-- ---- the source

pub source_final : (ss : List Statement) → IsSound ss → ArePlain ss → AreFinal (final_names (laid ss)) (source_lines (laid ss))
source_final ss sound plain = record {
  same_again = final_names_are_their_entries ss sound plain;
  regular = lines_regular (declared_names ss) ss;
  owned = lines_owned (declared_names ss) ss;
  placeless = lines_placeless (IsOwn (final_names (laid ss))) (declared_names ss) ss plain;
}

-- the symbol of each name's value stands for itself
pub names_own : (ss : List Statement) → IsSound ss → ArePlain ss → (q : List ℕ) (n : LaidName) → named_in q (final_names (laid ss)) ≡ Some n
    → ResultIs (IsOwn (final_names (laid ss))) (entry_value n)
names_own ss sound plain =
    all_own (final_names (laid ss)) (source_lines (laid ss)) (source_final ss sound plain) (length (laid ss)) (all_lead ss sound plain)

abbrev pub anything : List ℕ → Type 0
anything q = Unit {0}

pub any_symbol : (v : Value) → SymbolIs anything v
any_symbol (Place [] n) = tt
any_symbol (Place (c ∷ cs) n) = tt
any_symbol (Number n) = tt
any_symbol (Truth b) = tt
any_symbol (Words w) = tt

pub any_item : (i : ExprItem) → ItemIs anything i
any_item (item.Name q) = tt
any_item (item.Local q) = tt
any_item (item.Constant v) = any_symbol v
any_item item.Here = tt
any_item item.TooLarge = tt
any_item item.Map = tt
any_item item.CodeSize = tt
any_item (item.Unary op) = tt
any_item (item.Binary op) = tt

pub any_tree : (t : Tree) → TreeIs anything t
any_tree (Leaf i) = any_item i
any_tree (Before op t) = any_tree t
any_tree (Between op t u) = (any_tree t, any_tree u)

-- the symbol of an operand's value stands for itself
pub value_own : (ss : List Statement) → IsSound ss → ArePlain ss → (before : List LaidLine) (l : LaidLine)
    → (e : Expr) → HaveNoPlaces e.items → ResultIs (IsOwn (final_names (laid ss))) (value_of (context_behind ss l before) e)
value_own ss sound plain before l e h =
    subst (ResultIs Own) (sym (final_tree N c.line e (tree_of e) refl)) (by_tree (tree_of e) refl)
  where
    N : List LaidName
    N = final_names (laid ss)

    Own : List ℕ → Type 0
    Own = IsOwn N

    c : Context
    c = context_behind ss l before

    by_tree : (o : Option Tree) → tree_of e ≡ o → ResultIs Own (tree_final N c.line o)
    by_tree None s = tt
    by_tree (Some t) s =
        tree_to anything Own c.line N (λ q n x. names_own ss sound plain q n) t (any_tree t)
        (tree_each (HoldsConstant Own) e.items (Some []) t (no_places_hold Own e.items h) tt s)

-- and that of a literal's
pub literal_own : (ss : List Statement) → IsSound ss → ArePlain ss → (before : List LaidLine) (l : LaidLine)
    → (v : Value) → ResultIs (IsOwn (final_names (laid ss))) (literal_value (sees (context_behind ss l before)) v)
literal_own ss sound plain before l (Place [] n) = tt
literal_own ss sound plain before l (Place (c ∷ cs) n) =
    tree_to anything (IsOwn (final_names (laid ss))) (context_behind ss l before).line (final_names (laid ss))
    (λ q n x. names_own ss sound plain q n) (Between Add (Leaf (item.Name (c ∷ cs))) (Leaf (item.Constant (Number n)))) (tt, tt) (tt, tt)
literal_own ss sound plain before l (Number n) = tt
literal_own ss sound plain before l (Truth b) = tt
literal_own ss sound plain before l (Words w) = tt
