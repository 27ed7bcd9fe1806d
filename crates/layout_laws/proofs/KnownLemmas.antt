-- A value that is known at a line is the value with all names.
use Rattle.std.proofs.Common.{◌≡◌, ℕ, List, [], ◌∷◌, ◌++◌, Bool, true, false, cond, refl, sym, ◌∙◌, ap, subst, Option, Some, None}
use Rattle.std.specs.Prelude.{Result, Ok, Err}
use Rattle.sdt_fault.specs.declared.kinds.LineKind.{LineKind}
use Rattle.asm_model.specs.declared.exprs.ExprItem.{ExprItem}
use Rattle.asm_model.specs.declared.exprs.ExprItem.TheVariants as item
use Rattle.asm_model.specs.declared.exprs.UnaryOp.{UnaryOp}
use Rattle.asm_model.specs.declared.exprs.UnaryOp.TheVariants as unary
use Rattle.asm_model.specs.declared.exprs.BinaryOp.{BinaryOp}
use Rattle.asm_model.specs.declared.exprs.BinaryOp.TheVariants.{Subtract}
use Rattle.asm_model.specs.declared.values.Value.{Value}
use Rattle.asm_model.specs.declared.values.Value.TheVariants.{Place}
use Rattle.asm_model.specs.declared.names.LaidName.{LaidName}
use Rattle.asm_model.specs.AtLine.{SourceLine, with_names}
use Rattle.asm_model.specs.Forms.{same}
use Rattle.asm_model.specs.Grammar.{Tree, Leaf, Before, Between}
use Rattle.asm_model.specs.Meaning.{named_in, entry_stands_at, stands_at, distance, between_places, binary, unary_of, Operand, Known, Unread, value_of, size_of, defined_of, known, applied, operand_of_item, operand_of_tree, meaning}
use Rattle.asm_model.specs.Before.{is_thumb_label}
use Rattle.asm_model.specs.Entries.{later_entry}
use Rattle.asm_model.specs.Labels.{Defined, Unnamed, Label, Equal, MapField, RegisterName, defined_by, imported_in, declared_entries, declared_imports, declared_names}
use Rattle.asm_model.specs.Readings.{and_then, then_both}
use Rattle.asm_model.specs.declared.statements.Statement.{Statement}
use Rattle.asm_model.proofs.LineLemmas.{applied_known, number_more}
use Rattle.asm_model.proofs.WordLemmas.{same_true}

-- ---- entries that tell more

-- a value of the first result is the second's
abbrev pub Gives : {X : Type 0} → Result X LineKind → Result X LineKind → Type 0
Gives {X = X} r s = (v : X) → r ≡ Ok v → s ≡ Ok v

-- what an entry tells, the other tells too
abbrev pub Tells : Option LaidName → Option LaidName → Type 0
Tells o p =
    Gives (value_of o) (value_of p) × Gives (size_of o) (size_of p) × Gives (defined_of o) (defined_of p)
    × ((a : ℕ × ℕ) → entry_stands_at o ≡ Some a → entry_stands_at p ≡ Some a)

abbrev pub TellAll : List LaidName → List LaidName → Type 0
TellAll xs ys = (q : List ℕ) → Tells (named_in q xs) (named_in q ys)

pub tells_itself : (o : Option LaidName) → Tells o o
tells_itself o = (λ v h. h, λ v h. h, λ v h. h, λ a h. h)

-- ---- expressions

abbrev pub OperandTells : Operand → Operand → Type 0
OperandTells x y = Gives (known x) (known y) × ((op : UnaryOp) → Gives (applied op x) (applied op y))

pub then_tells : (r s : Result Value LineKind) (f : Value → Result Value LineKind) → Gives r s
    → Gives (and_then r f) (and_then s f)
then_tells (Ok w) s f more v h = ap (λ z. and_then z f) (more w refl) ∙ h
then_tells (Err k) s f more v h = absurd (cc)

pub known_tells : (r s : Result Value LineKind) → Gives r s → OperandTells (Known r) (Known s)
known_tells r s more = (more, λ op v h. applied_known op s ∙ then_tells r s (unary_of op) more v (sym (applied_known op r) ∙ h))

pub unread_tells : (o p : Option LaidName) → Tells o p → (op : UnaryOp)
    → Gives (applied op (Unread o)) (applied op (Unread p))
unread_tells o p h unary.Size = h.1
unread_tells o p h unary.Defined = h.2
unread_tells o p h op = then_tells (value_of o) (value_of p) (unary_of op) h.0

pub item_tells : (l : SourceLine) (xs ys : List LaidName) → TellAll xs ys → (i : ExprItem)
    → OperandTells (operand_of_item (with_names l xs) i) (operand_of_item (with_names l ys) i)
item_tells l xs ys h (item.Name q) = ((h q).0, unread_tells (named_in q xs) (named_in q ys) (h q))
item_tells l xs ys h i = (λ v k. k, λ op v k. k)

pub stands_tell : (l : SourceLine) (xs ys : List LaidName) → TellAll xs ys → (s : List ℕ) (a : ℕ × ℕ)
    → stands_at (with_names l xs) s ≡ Some a → stands_at (with_names l ys) s ≡ Some a
stands_tell l xs ys h [] a k = k
stands_tell l xs ys h (c ∷ cs) a k = (h (c ∷ cs)).3 a k

pub distance_tells : (a b c d : Option (ℕ × ℕ)) (p q : ℕ) → ((x : ℕ × ℕ) → a ≡ Some x → c ≡ Some x)
    → ((x : ℕ × ℕ) → b ≡ Some x → d ≡ Some x)
    → Gives (distance a p b q) (distance c p d q)
distance_tells (Some x) (Some y) c d p q f g n h = ap (λ z. distance z p d q) (f x refl) ∙ ap (λ z. distance (Some x) p z q) (g y refl) ∙ h
distance_tells (Some x) None c d p q f g n h = absurd (cc)
distance_tells None b c d p q f g n h = absurd (cc)

pub places_tell : (l : SourceLine) (xs ys : List LaidName) → TellAll xs ys
    → (op : BinaryOp) (s t : List ℕ) (p q : ℕ)
    → Gives (between_places (with_names l xs) op s p t q) (between_places (with_names l ys) op s p t q)
places_tell l xs ys h Subtract s t p q =
    distance_tells (stands_at (with_names l xs) s) (stands_at (with_names l xs) t) (stands_at (with_names l ys) s) (stands_at (with_names l ys) t) p q
    (stands_tell l xs ys h s) (stands_tell l xs ys h t)
places_tell l xs ys h op s t p q = λ n k. absurd (cc)

pub binary_tells : (l : SourceLine) (xs ys : List LaidName) → TellAll xs ys → (op : BinaryOp) (v w : Value)
    → Gives (binary (with_names l xs) op v w) (binary (with_names l ys) op v w)
binary_tells l xs ys h op (Place s p) (Place t q) =
    let near = between_places (with_names l xs) op s p t q in
    λ r k. number_more near (between_places (with_names l ys) op s p t q) r (places_tell l xs ys h op s t p q) k
binary_tells l xs ys h op v w = λ r k. k

pub both_tell : (l : SourceLine) (xs ys : List LaidName) → TellAll xs ys
    → (op : BinaryOp) (a b c d : Result Value LineKind) → Gives a c → Gives b d
    → Gives (then_both a b (binary (with_names l xs) op)) (then_both c d (binary (with_names l ys) op))
both_tell l xs ys h op (Ok v) (Ok w) c d f g r k =
    ap (λ z. then_both z d (binary (with_names l ys) op)) (f v refl)
    ∙ ap (λ z. then_both (Ok v) z (binary (with_names l ys) op)) (g w refl)
    ∙ binary_tells l xs ys h op v w r k
both_tell l xs ys h op (Ok v) (Err j) c d f g r k = absurd (cc)
both_tell l xs ys h op (Err i) (Ok w) c d f g r k = absurd (cc)
both_tell l xs ys h op (Err i) (Err j) c d f g r k = absurd (cc)

pub tree_tells : (l : SourceLine) (xs ys : List LaidName) → TellAll xs ys → (t : Tree)
    → OperandTells (operand_of_tree (with_names l xs) t) (operand_of_tree (with_names l ys) t)
tree_tells l xs ys h (Leaf i) = item_tells l xs ys h i
tree_tells l xs ys h (Before op t) =
    known_tells (applied op (operand_of_tree (with_names l xs) t)) (applied op (operand_of_tree (with_names l ys) t)) ((tree_tells l xs ys h t).1 op)
tree_tells l xs ys h (Between op t u) =
    known_tells (meaning (with_names l xs) (Between op t u)) (meaning (with_names l ys) (Between op t u))
    (both_tell l xs ys h op (meaning (with_names l xs) t) (meaning (with_names l xs) u) (meaning (with_names l ys) t) (meaning (with_names l ys) u)
    (tree_tells l xs ys h t).0 (tree_tells l xs ys h u).0)

-- ---- lists of entries

-- what each of these entries tells, the list tells too
abbrev pub EachTells : List LaidName → List LaidName → Type 0
EachTells N [] = Unit {0}
EachTells N (n ∷ ns) = Tells (Some n) (named_in n.name N) × EachTells N ns

pub tells_append : (N ns ms : List LaidName) → EachTells N ns → EachTells N ms → EachTells N (ns ++ ms)
tells_append N [] ms h k = k
tells_append N (n ∷ ns) ms h k = (h.0, tells_append N ns ms h.1 k)

pub tell_behind : (N ns ms : List LaidName) → EachTells N ns → TellAll ms N → TellAll (ns ++ ms) N
tell_behind N [] ms h k q = k q
tell_behind N (n ∷ ns) ms h k q = by_test (same n.name q) refl (tell_behind N ns ms h.1 k q)
  where
    by_test : (b : Bool) → same n.name q ≡ b → Tells (named_in q (ns ++ ms)) (named_in q N)
        → Tells (cond b (Some n) (named_in q (ns ++ ms))) (named_in q N)
    by_test true s rest = subst (λ z. Tells (Some n) (named_in z N)) (same_true n.name q s) h.0
    by_test false s rest = rest

-- ---- names that mean something later

-- an entry that tells nothing but that it is there
abbrev pub AreLater : List LaidName → Type 0
AreLater [] = Unit {0}
AreLater (n ∷ ns) = ((p : Option LaidName) → Tells (Some n) p) × AreLater ns

pub later_append : (ns ms : List LaidName) → AreLater ns → AreLater ms → AreLater (ns ++ ms)
later_append [] ms h k = k
later_append (n ∷ ns) ms h k = (h.0, later_append ns ms h.1 k)

pub later_tells : (name : List ℕ) (thumb : Bool) (p : Option LaidName) → Tells (Some (later_entry name thumb)) p
later_tells name thumb p = (λ v h. absurd (cc), λ v h. absurd (cc), λ v h. absurd (cc), λ a h. absurd (cc))

pub entries_later : (x : Defined) (s : Statement) (before : List Statement)
    → AreLater (declared_entries x s before)
entries_later Unnamed s before = tt
entries_later (Label name) s before = (later_tells name (is_thumb_label s before), tt)
entries_later (Equal name e) s before = (later_tells name false, tt)
entries_later (MapField name) s before = (later_tells name false, tt)
entries_later (RegisterName name r) s before = (later_tells name false, tt)

pub imports_later : (o : Option (List ℕ)) → AreLater (declared_imports o)
imports_later None = tt
imports_later (Some name) = (later_tells name false, tt)

pub declared_later : (ss : List Statement) → AreLater (declared_names ss)
declared_later [] = tt
declared_later (s ∷ ss) =
    later_append (declared_names ss ++ declared_entries (defined_by s) s ss) (declared_imports (imported_in s.what))
    (later_append (declared_names ss) (declared_entries (defined_by s) s ss) (declared_later ss) (entries_later (defined_by s) s ss))
    (imports_later (imported_in s.what))

pub none_tells : (p : Option LaidName) → p ≡ None → Tells None p
none_tells p e = subst (Tells None) (sym e) (tells_itself None)

pub later_tell : (q : List ℕ) (ns : List LaidName) (p : Option LaidName) → AreLater ns
    → (named_in q ns ≡ None → p ≡ None) → Tells (named_in q ns) p
later_tell q [] p h none = none_tells p (none refl)
later_tell q (n ∷ ns) p h none = by_test (same n.name q) none (later_tell q ns p h.1)
  where
    by_test : (b : Bool) → (cond b (Some n) (named_in q ns) ≡ None → p ≡ None) → ((named_in q ns ≡ None → p ≡ None) → Tells (named_in q ns) p)
        → Tells (cond b (Some n) (named_in q ns)) p
    by_test true f rest = h.0 p
    by_test false f rest = rest f
