-- In a source without faults each name for an expression has its final entry after as many rounds as there are lines.
use Rattle.std.proofs.Common.{◌≡◌, ℕ, zero, suc, ◌≤◌, List, [], ◌∷◌, ◌++◌, length, Bool, true, false, not, ◌||◌, refl, sym, ◌∙◌, ap, subst, arith, Some, length-append, Option}
use Rattle.std.specs.List.{list_any}
use Rattle.std.proofs.lemmas.Bool.{and_parts, or_parts}
use Rattle.asm_model.specs.declared.exprs.Expr.{Expr}
use Rattle.asm_model.specs.declared.exprs.ExprItem.{ExprItem}
use Rattle.asm_model.specs.declared.exprs.ExprItem.TheVariants as item
use Rattle.asm_model.specs.declared.values.Value.{Value}
use Rattle.asm_model.specs.declared.values.Value.TheVariants.{Place}
use Rattle.asm_model.specs.declared.names.LaidName.{LaidName}
use Rattle.asm_model.specs.declared.statements.Statement.{Statement}
use Rattle.asm_model.specs.AtLine.{SourceLine}
use Rattle.asm_model.specs.Forms.{same}
use Rattle.asm_model.specs.Grammar.{Tree}
use Rattle.asm_model.proofs.WordLemmas.{same_refl}
use Rattle.asm_model.specs.Labels.{Defined, Equal, defined_by, declared_names}
use Rattle.asm_model.specs.Laid.{laid_of, laid, source_lines, all_entries, names_after, final_names}
use Rattle.asm_model.specs.LayoutKinds.{equals_in, is_settled_item, are_settled, settled_by, settled_after, settled}
use Rattle.asm_model.specs.Sound.{IsSound, IsNoPlace, HaveNoPlaces, ArePlain, HasNoPlace}
use Rattle.layout_laws.proofs.EqualLemmas.{equal_of, all_equals, EachEqual, OfTrees, equal_all, equal_weaker, equal_both, lines_hold, lines_regular}
use Rattle.layout_laws.proofs.RoundLemmas.{SymbolIs, ItemIs, TreeIs, tree_weaker}
use Rattle.layout_laws.proofs.SoundLemmas.{EachSound, sound_each, equals_are_all, equals_distinct, equals_settled, IsPlainEqual, equals_plain, IsSettledIn, settled_unique}
use Rattle.layout_laws.proofs.StepLemmas.{EachEquated, each_weaker, IsGood, good_more, rounds, rounds_end}
use Rattle.layout_laws.proofs.TreeLemmas.{ItemsEach, tree_each, SomeEach}
use Rattle.asm_model.specs.Trees.{tree_behind}

-- ---- constants

pub no_place_is : (P : List ℕ → Type 0) (v : Value) → IsNoPlace v → SymbolIs P v
no_place_is P (Place s n) h = absurd h
no_place_is P v h = tt

-- a constant's symbol has the property
abbrev pub HoldsConstant : (List ℕ → Type 0) → ExprItem → Type 0
HoldsConstant P (item.Constant v) = SymbolIs P v
HoldsConstant P _ = Unit {0}

pub no_place_holds : (P : List ℕ → Type 0) (i : ExprItem) → HasNoPlace i → HoldsConstant P i
no_place_holds P (item.Constant v) h = no_place_is P v h
no_place_holds P i h = tt

pub no_places_hold : (P : List ℕ → Type 0) (is : List ExprItem) → HaveNoPlaces is → ItemsEach (HoldsConstant P) is
no_places_hold P [] h = tt
no_places_hold P (i ∷ is) h = (no_place_holds P i h.0, no_places_hold P is h.1)

-- ---- settled names are good

pub tree_of_items : (P : List ℕ → Type 0) (is : List ExprItem) (o : Option (List Tree)) (t : Tree) → ItemsEach (ItemIs P) is → SomeEach (ItemIs P) o
    → tree_behind o is ≡ Some t → TreeIs P t
tree_of_items P = tree_each (ItemIs P)

pub either_good : (X : Type 0) (a b : Bool) → (a ≡ false → X) → (b ≡ true → X) → (not a || b) ≡ true → X
either_good X false b f g h = f refl
either_good X true b f g h = g h

pub items_are : (P : List ℕ → Type 0) (E : List (List ℕ × Expr)) (S : List (List ℕ))
    → ((r : List ℕ) → list_any (λ e. same r e.0) E ≡ false → P r) → ((r : List ℕ) → list_any (same r) S ≡ true → P r)
    → (is : List ExprItem) → are_settled E S is ≡ true → HaveNoPlaces is → ItemsEach (ItemIs P) is
items_are P E S free deep [] h k = tt
items_are P E S free deep (i ∷ is) h k =
    let p = and_parts (is_settled_item E S i) (are_settled E S is) h in (by_item i p.0 (k.0, tt), items_are P E S free deep is p.1 k.1)
  where
    by_item : (i : ExprItem) → is_settled_item E S i ≡ true → HaveNoPlaces (i ∷ []) → ItemIs P i
    by_item (item.Name r) e n = either_good (P r) (list_any (λ e. same r e.0) E) (list_any (same r) S) (free r) (deep r) e
    by_item (item.Constant v) e n = no_place_is P v n.0
    by_item i e n = tt

pub found_name : (E : List (List ℕ × Expr)) (r : List ℕ) → list_any (λ e. same r e.0) E ≡ false → EachEqual (λ p e. same r p ≡ false) E
found_name [] r h = tt
found_name (x ∷ xs) r h = let p = or_parts (same r x.0) (list_any (λ e. same r e.0) xs) h in (p.0, found_name xs r p.1)

pub other_name : (X : Type 0) (r p : List ℕ) → same r p ≡ false → p ≡ r → X
other_name X r p h e = let x : same r p ≡ true = subst (λ z. same r z ≡ true) (sym e) (same_refl r) in absurd (cc)

-- what has no expression is good
pub free_good : (d : List LaidName) (ss : List Statement) (k : ℕ) (r : List ℕ) → list_any (λ e. same r e.0) (all_equals ss) ≡ false
    → IsGood (source_lines (laid_of d ss)) (suc k) r
free_good d ss k r h =
    let P = IsGood (source_lines (laid_of d ss)) k in
    lines_hold (λ p t. p ≡ r → TreeIs P t) d ss
    (equal_weaker (λ p e. same r p ≡ false) (OfTrees (λ p t. p ≡ r → TreeIs P t)) (λ p e a t s x. other_name (TreeIs P t) r p a x) (all_equals ss)
    (found_name (all_equals ss) r h))

-- the names in the expression of a settled name are good
abbrev pub Leads : List SourceLine → List (List ℕ × Expr) → ℕ → List ℕ → Expr → Type 0
Leads ls E k p e = list_any (same p) (settled_after k E) ≡ true → OfTrees (λ q t. TreeIs (IsGood ls k) t) p e

pub deep_good : (d : List LaidName) (ss : List Statement) (k : ℕ) (r : List ℕ)
    → EachEqual (Leads (source_lines (laid_of d ss)) (all_equals ss) k) (all_equals ss)
    → list_any (same r) (settled_after k (all_equals ss)) ≡ true → IsGood (source_lines (laid_of d ss)) (suc k) r
deep_good d ss k r before h =
    let P = IsGood (source_lines (laid_of d ss)) k in
    lines_hold (λ p t. p ≡ r → TreeIs P t) d ss
    (equal_weaker (Leads (source_lines (laid_of d ss)) (all_equals ss) k) (OfTrees (λ p t. p ≡ r → TreeIs P t))
    (λ p e f t s x. f (subst (λ z. list_any (same z) (settled_after k (all_equals ss)) ≡ true) (sym x) h) t s) (all_equals ss) before)

pub settled_lead : (d : List LaidName) (ss : List Statement) (S : List (List ℕ)) → EachSound S ss → ArePlain ss → (k : ℕ)
    → EachEqual (Leads (source_lines (laid_of d ss)) (all_equals ss) k) (all_equals ss)
settled_lead d ss S sound plain zero =
    equal_all (Leads (source_lines (laid_of d ss)) (all_equals ss) zero) (λ p e h. absurd (cc)) (all_equals ss)
settled_lead d ss S sound plain (suc k) =
    let E = all_equals ss in
    let ls = source_lines (laid_of d ss) in
    let before = settled_lead d ss S sound plain k in
    let plains = equals_plain ss plain in
    equal_both (IsSettledIn E (settled_after k E) (settled_by E (settled_after k E) E)) IsPlainEqual (Leads ls E (suc k))
    (λ p e f a h t s.
    tree_of_items (IsGood ls (suc k)) e.items (Some []) t
    (items_are (IsGood ls (suc k)) E (settled_after k E) (free_good d ss k) (λ r. deep_good d ss k r before) e.items (f h) a) tt s) E
    (settled_unique E (settled_after k E) E (equals_distinct S ss sound)) plains

-- ---- enough rounds

pub one_equal : (x : Defined) → length (equal_of x) ≤ 1
one_equal (Equal name e) = omega arith
one_equal x = omega arith

pub few_equals : (x : Defined) (xs : List (List ℕ × Expr)) (n : ℕ) → length xs ≤ n → length (xs ++ equal_of x) ≤ suc n
few_equals x xs n h = omega (arith, length-append xs (equal_of x), one_equal x)

pub equals_few : (d : List LaidName) (ss : List Statement) → length (all_equals ss) ≤ length (laid_of d ss)
equals_few d [] = omega arith
equals_few d (s ∷ ss) = few_equals (defined_by s) (all_equals ss) (length (laid_of d ss)) (equals_few d ss)

pub source_sound : (ss : List Statement) → IsSound ss → EachSound (settled (all_equals ss)) ss
source_sound ss h =
    let sound = sound_each (settled (equals_in ss)) ss (declared_names ss) ss h in
    subst (λ z. EachSound (settled z) ss) (equals_are_all (settled (equals_in ss)) ss sound) sound

pub all_lead : (ss : List Statement) → IsSound ss → ArePlain ss
    → EachEquated (λ p t. TreeIs (IsGood (source_lines (laid ss)) (length (laid ss))) t) (source_lines (laid ss))
all_lead ss h plain =
    let E = all_equals ss in
    let ls = source_lines (laid ss) in
    let sound = source_sound ss h in
    let m = length E in
    let R = λ (p : List ℕ) (t : Tree). TreeIs (IsGood ls m) t in
    each_weaker R (λ p t. TreeIs (IsGood ls (length (laid ss))) t)
    (λ p t x. tree_weaker (IsGood ls m) (IsGood ls (length (laid ss))) (good_more ls m (length (laid ss)) (equals_few (declared_names ss) ss)) t x) ls
    (lines_hold R (declared_names ss) ss
    (equal_both (λ p e. list_any (same p) (settled E) ≡ true) (Leads ls E m) (OfTrees R) (λ p e a f. f a) E
    (equals_settled (settled E) ss sound)
    (settled_lead (declared_names ss) ss (settled E) sound plain m)))

pub source_end : (ss : List Statement) → IsSound ss → ArePlain ss → (xs ys : List LaidName)
    → rounds (suc (length (laid ss))) (source_lines (laid ss)) xs ≡ rounds (suc (length (laid ss))) (source_lines (laid ss)) ys
source_end ss h plain =
    rounds_end (source_lines (laid ss)) (lines_regular (declared_names ss) ss) (length (laid ss)) (all_lead ss h plain)

pub after_rounds : (k : ℕ) (ls : List SourceLine) → names_after k ls ≡ rounds (suc k) ls []
after_rounds zero ls = refl
after_rounds (suc k) ls = ap (λ z. all_entries z ls) (after_rounds k ls)

pub rounds_on : (k : ℕ) (ls : List SourceLine) (xs : List LaidName) → rounds (suc k) ls xs ≡ rounds k ls (all_entries xs ls)
rounds_on zero ls xs = refl
rounds_on (suc k) ls xs = ap (λ z. all_entries z ls) (rounds_on k ls xs)

pub rounds_stay : (k : ℕ) (ls : List SourceLine) (xs : List LaidName) → all_entries xs ls ≡ xs → rounds k ls xs ≡ xs
rounds_stay zero ls xs h = refl
rounds_stay (suc k) ls xs h = ap (λ z. all_entries z ls) (rounds_stay k ls xs h) ∙ h

pub final_names_are_their_entries : (ss : List Statement) → IsSound ss → ArePlain ss
    → all_entries (final_names (laid ss)) (source_lines (laid ss)) ≡ final_names (laid ss)
final_names_are_their_entries ss h plain =
    let ls = source_lines (laid ss) in
    let n = length (laid ss) in
    ap (λ z. all_entries z ls) (after_rounds n ls) ∙ rounds_on (suc n) ls [] ∙ source_end ss h plain (all_entries [] ls) [] ∙ sym (after_rounds n ls)

pub no_other_names_are : (ss : List Statement) → IsSound ss → ArePlain ss → (names : List LaidName) → all_entries names (source_lines (laid ss)) ≡ names
    → names ≡ final_names (laid ss)
no_other_names_are ss h plain names e =
    let ls = source_lines (laid ss) in
    let n = length (laid ss) in
    sym (rounds_stay (suc n) ls names e) ∙ source_end ss h plain names [] ∙ sym (after_rounds n ls)
