-- The meaning of an expression whose names stand at no place depends on the names in it alone.
use Rattle.std.proofs.Common.{◌≡◌, ℕ, List, [], ◌∷◌, ◌++◌, Bool, true, false, cond, refl, sym, ◌∙◌, ap, ◌⊎◌, inl, inr}
use Rattle.std.specs.Prelude.{Option, Some, None, Result, Ok, Err}
use Rattle.sdt_fault.specs.declared.kinds.LineKind.{LineKind}
use Rattle.asm_model.specs.declared.exprs.ExprItem.{ExprItem}
use Rattle.asm_model.specs.declared.exprs.ExprItem.TheVariants as item
use Rattle.asm_model.specs.declared.exprs.BinaryOp.{BinaryOp}
use Rattle.asm_model.specs.declared.exprs.BinaryOp.TheVariants.{Subtract}
use Rattle.asm_model.specs.declared.values.Value.{Value}
use Rattle.asm_model.specs.declared.values.Value.TheVariants.{Number, Truth, Words, Place}
use Rattle.asm_model.specs.declared.names.LaidName.{LaidName}
use Rattle.asm_model.specs.declared.names.Names.{Names}
use Rattle.asm_model.specs.Forms.{same}
use Rattle.asm_model.specs.Grammar.{Tree, Leaf, Before, Between, postfix}
use Rattle.asm_model.specs.Meaning.{named_in, entry_stands_at, stands_at, distance, between_places, as_number, binary, Known, Unread, known, applied, operand_of_item, operand_of_tree, meaning}
use Rattle.asm_model.specs.Readings.{then_both}
use Rattle.asm_expr.specs.Places.{one_entry}
use Rattle.asm_variables.specs.Entries.{items_entries}
use Rattle.asm_model.proofs.WordLemmas.{same_refl, same_true}

-- ---- names that stand at no place

-- what names are, where their statement stands at no place
abbrev pub placeless : Bool → List LaidName → Names
placeless thumb list = record { list = list; area = None; offset = 0; map = 0; thumb = thumb }

abbrev pub NoAreas : List LaidName → Type 0
NoAreas [] = Unit {0}
NoAreas (n ∷ ns) = (n.area ≡ None) × NoAreas ns

entry_nowhere : (q : List ℕ) (list : List LaidName) → NoAreas list → entry_stands_at (named_in q list) ≡ None
entry_nowhere q [] h = refl
entry_nowhere q (n ∷ ns) h = by (same n.name q) (entry_nowhere q ns h.1)
  where
    by : (b : Bool) → entry_stands_at (named_in q ns) ≡ None → entry_stands_at (cond b (Some n) (named_in q ns)) ≡ None
    by true e = rw h.0 refl
    by false e = e

nowhere : (thumb : Bool) (list : List LaidName) → NoAreas list → (q : List ℕ) → stands_at (placeless thumb list) q ≡ None
nowhere thumb list h [] = refl
nowhere thumb list h (c ∷ cs) = entry_nowhere (c ∷ cs) list h

pub no_areas_append : (xs ys : List LaidName) → NoAreas xs → NoAreas ys → NoAreas (xs ++ ys)
no_areas_append [] ys h k = k
no_areas_append (n ∷ ns) ys h k = (h.0, no_areas_append ns ys h.1 k)

-- ---- two lists

-- an item finds the same in both
abbrev pub AgreesOn : List LaidName → List LaidName → ExprItem → Type 0
AgreesOn xs ys (item.Name q) = named_in q xs ≡ named_in q ys
AgreesOn xs ys _ = Unit {0}

abbrev pub Agree : List LaidName → List LaidName → List ExprItem → Type 0
Agree xs ys [] = Unit {0}
Agree xs ys (i ∷ is) = AgreesOn xs ys i × Agree xs ys is

agree_split : (xs ys : List LaidName) (is js : List ExprItem) → Agree xs ys (is ++ js) → Agree xs ys is × Agree xs ys js
agree_split xs ys [] js h = (tt, h)
agree_split xs ys (i ∷ is) js h = let rest = agree_split xs ys is js h.1 in ((h.0, rest.0), rest.1)

same_places : (n m : Names) → ((q : List ℕ) → stands_at n q ≡ stands_at m q) → (op : BinaryOp) (s t : List ℕ) (p q : ℕ)
    → between_places n op s p t q ≡ between_places m op s p t q
same_places n m h Subtract s t p q = ap (λ x. distance x p (stands_at n t) q) (h s) ∙ ap (λ x. distance (stands_at m s) p x q) (h t)
same_places n m h op s t p q = refl

same_binary : (n m : Names) → ((q : List ℕ) → stands_at n q ≡ stands_at m q) → (op : BinaryOp) (v w : Value) → binary n op v w ≡ binary m op v w
same_binary n m h op (Place s p) (Place t q) = ap as_number (same_places n m h op s t p q)
same_binary n m h op (Number a) w = by_second w
  where
    by_second : (x : Value) → binary n op (Number a) x ≡ binary m op (Number a) x
    by_second (Number b) = refl
    by_second (Truth b) = refl
    by_second (Words x) = refl
    by_second (Place t q) = refl
same_binary n m h op (Truth a) w = by_second w
  where
    by_second : (x : Value) → binary n op (Truth a) x ≡ binary m op (Truth a) x
    by_second (Number b) = refl
    by_second (Truth b) = refl
    by_second (Words x) = refl
    by_second (Place t q) = refl
same_binary n m h op (Words v) w = by_second w
  where
    by_second : (x : Value) → binary n op (Words v) x ≡ binary m op (Words v) x
    by_second (Number b) = refl
    by_second (Truth b) = refl
    by_second (Words x) = refl
    by_second (Place t q) = refl
same_binary n m h op (Place s p) (Number b) = refl
same_binary n m h op (Place s p) (Truth b) = refl
same_binary n m h op (Place s p) (Words x) = refl

same_both : (n m : Names) → ((q : List ℕ) → stands_at n q ≡ stands_at m q) → (op : BinaryOp) (x y : Result Value LineKind)
    → then_both x y (binary n op) ≡ then_both x y (binary m op)
same_both n m h op (Ok v) (Ok w) = same_binary n m h op v w
same_both n m h op (Ok v) (Err j) = refl
same_both n m h op (Err i) (Ok w) = refl
same_both n m h op (Err i) (Err j) = refl

module _ (thumb : Bool) (xs ys : List LaidName) (none_in_xs : NoAreas xs) (none_in_ys : NoAreas ys) where
  abbrev n : Names
  n = placeless thumb xs

  abbrev m : Names
  m = placeless thumb ys

  same_nowhere : (q : List ℕ) → stands_at n q ≡ stands_at m q
  same_nowhere q = nowhere thumb xs none_in_xs q ∙ sym (nowhere thumb ys none_in_ys q)

  same_item : (i : ExprItem) → AgreesOn xs ys i → operand_of_item n i ≡ operand_of_item m i
  same_item (item.Name q) h = ap Unread h
  same_item (item.Local q) h = refl
  same_item (item.Constant v) h = refl
  same_item item.TooLarge h = refl
  same_item item.Here h = refl
  same_item item.Map h = refl
  same_item item.CodeSize h = refl
  same_item (item.Unary op) h = refl
  same_item (item.Binary op) h = refl

  same_tree : (t : Tree) → Agree xs ys (postfix t) → operand_of_tree n t ≡ operand_of_tree m t
  same_tree (Leaf i) h = same_item i h.0
  same_tree (Before op t) h =
      ap (λ x. Known (applied op x)) (same_tree t (agree_split xs ys (postfix t) (item.Unary op ∷ []) h).0)
  same_tree (Between op t u) h =
      let parts = agree_split xs ys (postfix t ++ postfix u) (item.Binary op ∷ []) h in
      let both = agree_split xs ys (postfix t) (postfix u) parts.0 in
      ap Known
      (same_both n m same_nowhere op (known (operand_of_tree n t)) (known (operand_of_tree n u))
      ∙ ap (λ x. then_both (known x) (known (operand_of_tree n u)) (binary m op)) (same_tree t both.0)
      ∙ ap (λ x. then_both (known (operand_of_tree m t)) (known x) (binary m op)) (same_tree u both.1))

  pub same_meaning : (t : Tree) → Agree xs ys (postfix t) → meaning n t ≡ meaning m t
  same_meaning t h = ap known (same_tree t h)

-- ---- the entries of the names in an expression

module _ (all : List LaidName) where
  -- what is found has the name
  found_name : (q : List ℕ) (list : List LaidName) (n : LaidName) → named_in q list ≡ Some n → n.name ≡ q
  found_name q [] n h = absurd (cc)
  found_name q (m ∷ ms) n h = by (same m.name q) refl (λ k. found_name q ms n k) h
    where
      by : (b : Bool) → same m.name q ≡ b → (named_in q ms ≡ Some n → n.name ≡ q) → cond b (Some m) (named_in q ms) ≡ Some n → n.name ≡ q
      by true e rest f = let p : m ≡ n = cc in ap (λ (x : LaidName). x.name) (sym p) ∙ same_true m.name q e
      by false e rest f = rest f

  -- an entry in front, which is found itself
  abbrev Stands : LaidName → Type 0
  Stands n = named_in n.name all ≡ Some n

  in_front : (n : LaidName) (rest : List LaidName) (q : List ℕ) → Stands n → (named_in q rest ≡ named_in q all) ⊎ (q ≡ n.name)
      → named_in q (n ∷ rest) ≡ named_in q all
  in_front n rest q h k = by (same n.name q) refl
    where
      by : (b : Bool) → same n.name q ≡ b → cond b (Some n) (named_in q rest) ≡ named_in q all
      by true e = let p = same_true n.name q e in rw (← p) (sym h)
      by false e =
          elim k [
            | inl f ↦ f
            | inr p ↦ absurd (let r = same_refl q in let s : same n.name q ≡ true = rw (← p) r in cc)
          ]

  -- one that finds nothing in all finds nothing here
  none_stays : (is : List ExprItem) (q : List ℕ) → named_in q all ≡ None → named_in q (items_entries all is) ≡ None
  none_stays [] q h = refl
  none_stays (item.Name p ∷ is) q h = by (named_in p all) refl (none_stays is q h)
    where
      by : (o : Option LaidName) → named_in p all ≡ o → named_in q (items_entries all is) ≡ None → named_in q (one_entry o ++ items_entries all is) ≡ None
      by None e f = f
      by (Some n) e f =
          let named = found_name p all n e in
          in_front n (items_entries all is) q (ap (λ (x : List ℕ). named_in x all) named ∙ e) (inl (f ∙ sym h)) ∙ h
  none_stays (item.Local p ∷ is) q h = none_stays is q h
  none_stays (item.Constant v ∷ is) q h = none_stays is q h
  none_stays (item.TooLarge ∷ is) q h = none_stays is q h
  none_stays (item.Here ∷ is) q h = none_stays is q h
  none_stays (item.Map ∷ is) q h = none_stays is q h
  none_stays (item.CodeSize ∷ is) q h = none_stays is q h
  none_stays (item.Unary op ∷ is) q h = none_stays is q h
  none_stays (item.Binary op ∷ is) q h = none_stays is q h

  abbrev IsIn : List ℕ → List ExprItem → Type 0
  IsIn q [] = ⊥
  IsIn q (item.Name p ∷ is) = (q ≡ p) ⊎ IsIn q is
  IsIn q (i ∷ is) = IsIn q is

  found_here : (is : List ExprItem) (q : List ℕ) → IsIn q is → named_in q (items_entries all is) ≡ named_in q all
  found_here [] q h = absurd h
  found_here (item.Name p ∷ is) q h = by (named_in p all) refl (λ k. found_here is q k) (λ k. none_stays is q k) h
    where
      by : (o : Option LaidName) → named_in p all ≡ o → (IsIn q is → named_in q (items_entries all is) ≡ named_in q all)
          → (named_in q all ≡ None → named_in q (items_entries all is) ≡ None) → (q ≡ p) ⊎ IsIn q is
          → named_in q (one_entry o ++ items_entries all is) ≡ named_in q all
      by None e f g (inl k) = let none : named_in q all ≡ None = rw k e in g none ∙ sym none
      by None e f g (inr k) = f k
      by (Some n) e f g (inl k) =
          let named = found_name p all n e in
          in_front n (items_entries all is) q (ap (λ (x : List ℕ). named_in x all) named ∙ e) (inr (k ∙ sym named))
      by (Some n) e f g (inr k) =
          let named = found_name p all n e in
          in_front n (items_entries all is) q (ap (λ (x : List ℕ). named_in x all) named ∙ e) (inl (f k))
  found_here (item.Local p ∷ is) q h = found_here is q h
  found_here (item.Constant v ∷ is) q h = found_here is q h
  found_here (item.TooLarge ∷ is) q h = found_here is q h
  found_here (item.Here ∷ is) q h = found_here is q h
  found_here (item.Map ∷ is) q h = found_here is q h
  found_here (item.CodeSize ∷ is) q h = found_here is q h
  found_here (item.Unary op ∷ is) q h = found_here is q h
  found_here (item.Binary op ∷ is) q h = found_here is q h

  each_agrees : (whole is : List ExprItem) → ((q : List ℕ) → IsIn q is → named_in q (items_entries all whole) ≡ named_in q all)
      → Agree (items_entries all whole) all is
  each_agrees whole [] h = tt
  each_agrees whole (item.Name p ∷ is) h = (h p (inl refl), each_agrees whole is (λ q k. h q (inr k)))
  each_agrees whole (item.Local p ∷ is) h = (tt, each_agrees whole is h)
  each_agrees whole (item.Constant v ∷ is) h = (tt, each_agrees whole is h)
  each_agrees whole (item.TooLarge ∷ is) h = (tt, each_agrees whole is h)
  each_agrees whole (item.Here ∷ is) h = (tt, each_agrees whole is h)
  each_agrees whole (item.Map ∷ is) h = (tt, each_agrees whole is h)
  each_agrees whole (item.CodeSize ∷ is) h = (tt, each_agrees whole is h)
  each_agrees whole (item.Unary op ∷ is) h = (tt, each_agrees whole is h)
  each_agrees whole (item.Binary op ∷ is) h = (tt, each_agrees whole is h)

  pub entries_agree : (is : List ExprItem) → Agree (items_entries all is) all is
  entries_agree is = each_agrees is is (λ q k. found_here is q k)

  -- ---- none of them has an area

  found_area : (q : List ℕ) (list : List LaidName) → NoAreas list → NoAreas (one_entry (named_in q list))
  found_area q [] h = tt
  found_area q (n ∷ ns) h = by (same n.name q) (found_area q ns h.1)
    where
      by : (b : Bool) → NoAreas (one_entry (named_in q ns)) → NoAreas (one_entry (cond b (Some n) (named_in q ns)))
      by true k = (h.0, tt)
      by false k = k

  pub entries_nowhere : (is : List ExprItem) → NoAreas all → NoAreas (items_entries all is)
  entries_nowhere [] h = tt
  entries_nowhere (item.Name p ∷ is) h = no_areas_append (one_entry (named_in p all)) (items_entries all is) (found_area p all h) (entries_nowhere is h)
  entries_nowhere (item.Local p ∷ is) h = entries_nowhere is h
  entries_nowhere (item.Constant v ∷ is) h = entries_nowhere is h
  entries_nowhere (item.TooLarge ∷ is) h = entries_nowhere is h
  entries_nowhere (item.Here ∷ is) h = entries_nowhere is h
  entries_nowhere (item.Map ∷ is) h = entries_nowhere is h
  entries_nowhere (item.CodeSize ∷ is) h = entries_nowhere is h
  entries_nowhere (item.Unary op ∷ is) h = entries_nowhere is h
  entries_nowhere (item.Binary op ∷ is) h = entries_nowhere is h

-- the small list gives the meaning that all names give
pub small_meaning : (thumb : Bool) (all : List LaidName) → NoAreas all → (t : Tree)
    → meaning (placeless thumb (items_entries all (postfix t))) t ≡ meaning (placeless thumb all) t
small_meaning thumb all h t =
    same_meaning thumb (items_entries all (postfix t)) all (entries_nowhere all (postfix t) h) h t (entries_agree all (postfix t))
