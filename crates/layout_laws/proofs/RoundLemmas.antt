-- Rounds of names: what the names of one round say of the next.
use Rattle.std.proofs.Common.{◌≡◌, ℕ, List, [], ◌∷◌, ◌++◌, length, Bool, true, false, cond, refl, ◌∙◌, ap, Option, Some, None}
use Rattle.std.specs.Prelude.{Result, Ok, Err, nat_lt}
use Rattle.std.specs.Ordering.{nat_cmp}
use Rattle.std.specs.Cmp.Lexicographic.{slice_cmp}
use Rattle.sdt_fault.specs.declared.kinds.LineKind.{LineKind}
use Rattle.sdt_fault.specs.declared.kinds.LineKind.TheVariants.{Forward, TooMany, OutOfRange}
use Rattle.asm_model.specs.declared.exprs.ExprItem.{ExprItem}
use Rattle.asm_model.specs.declared.exprs.ExprItem.TheVariants as item
use Rattle.asm_model.specs.declared.exprs.UnaryOp.{UnaryOp}
use Rattle.asm_model.specs.declared.exprs.UnaryOp.TheVariants as unary
use Rattle.asm_model.specs.declared.exprs.BinaryOp.{BinaryOp}
use Rattle.asm_model.specs.declared.exprs.BinaryOp.TheVariants.{Subtract}
use Rattle.asm_model.specs.declared.values.Value.{Value}
use Rattle.asm_model.specs.declared.values.Value.TheVariants.{Number, Truth, Words, Place}
use Rattle.asm_model.specs.declared.names.LaidName.{LaidName}
use Rattle.asm_model.specs.declared.names.Meaning.{Meaning}
use Rattle.asm_model.specs.declared.names.Meaning.TheVariants as means
use Rattle.asm_model.specs.declared.names.Names.{Names}
use Rattle.asm_model.specs.AtLine.{SourceLine, with_names}
use Rattle.asm_model.specs.Directives.{or_else}
use Rattle.asm_model.specs.Forms.{same}
use Rattle.asm_model.specs.Grammar.{Tree, Leaf, Before, Between}
use Rattle.asm_model.specs.Limits.{string_bytes}
use Rattle.asm_model.specs.Meaning.{named_in, entry_stands_at, stands_at, distance, between_places, related, arithmetic, logical, joined_strings, cut_string, moved_place, added_place, as_number, as_truth, as_words, as_place, truth_or, binary, unary_of, Operand, Known, Unread, entry_value, value_of, known_size, size_in, is_later, known, applied, operand_of_item, operand_of_tree, meaning}
use Rattle.asm_model.specs.Readings.{and_then, then_both}
use Rattle.layout_laws.proofs.TreeLemmas.{TreeEach}

-- ---- symbols

-- the symbol of a value has the property
abbrev pub SymbolIs : (List ℕ → Type 0) → Value → Type 0
SymbolIs P (Place [] n) = Unit {0}
SymbolIs P (Place (c ∷ cs) n) = P (c ∷ cs)
SymbolIs P _ = Unit {0}

abbrev pub ResultIs : (List ℕ → Type 0) → Result Value LineKind → Type 0
ResultIs P (Ok v) = SymbolIs P v
ResultIs P (Err k) = Unit {0}

-- so has each name in an item, and in a tree
abbrev pub ItemIs : (List ℕ → Type 0) → ExprItem → Type 0
ItemIs P (item.Name q) = P q
ItemIs P (item.Constant v) = SymbolIs P v
ItemIs P _ = Unit {0}

abbrev pub TreeIs : (List ℕ → Type 0) → Tree → Type 0
TreeIs P t = TreeEach (ItemIs P) t

-- what stands for names with the property has symbols with it
abbrev pub IsClosed : (List ℕ → Type 0) → List LaidName → Type 0
IsClosed P xs = (q : List ℕ) (n : LaidName) → P q → named_in q xs ≡ Some n → ResultIs P (entry_value n)

-- names with the property have the same entries
abbrev pub AreSame : (List ℕ → Type 0) → List LaidName → List LaidName → Type 0
AreSame P xs ys = (q : List ℕ) → P q → named_in q xs ≡ named_in q ys

pub symbol_weaker : (P Q : List ℕ → Type 0) → ((q : List ℕ) → P q → Q q) → (v : Value) → SymbolIs P v → SymbolIs Q v
symbol_weaker P Q f (Place (c ∷ cs) n) h = f (c ∷ cs) h
symbol_weaker P Q f v h = tt

pub result_weaker : (P Q : List ℕ → Type 0) → ((q : List ℕ) → P q → Q q) → (r : Result Value LineKind) → ResultIs P r → ResultIs Q r
result_weaker P Q f (Ok v) h = symbol_weaker P Q f v h
result_weaker P Q f (Err k) h = tt

pub item_weaker : (P Q : List ℕ → Type 0) → ((q : List ℕ) → P q → Q q) → (i : ExprItem) → ItemIs P i → ItemIs Q i
item_weaker P Q f (item.Name q) h = f q h
item_weaker P Q f (item.Constant v) h = symbol_weaker P Q f v h
item_weaker P Q f i h = tt

pub tree_weaker : (P Q : List ℕ → Type 0) → ((q : List ℕ) → P q → Q q) → (t : Tree) → TreeIs P t → TreeIs Q t
tree_weaker P Q f (Leaf i) h = item_weaker P Q f i h
tree_weaker P Q f (Before op t) h = tree_weaker P Q f t h
tree_weaker P Q f (Between op t u) h = (tree_weaker P Q f t h.0, tree_weaker P Q f u h.1)

-- ---- the symbols of values

pub cond_is : (P : List ℕ → Type 0) (b : Bool) (x y : Result Value LineKind) → ResultIs P x → ResultIs P y → ResultIs P (cond b x y)
cond_is P true x y h k = h
cond_is P false x y h k = k

pub unary_is : (P : List ℕ → Type 0) (op : UnaryOp) (v : Value) → ResultIs P (unary_of op v)
unary_is P unary.Length (Words w) = cond_is P (nat_lt string_bytes (length w)) (Err TooMany) (Ok (Number (length w))) tt tt
unary_is P unary.Character (Number n) = cond_is P (nat_lt 255 n) (Err OutOfRange) (Ok (Words (n ∷ []))) tt tt
unary_is P op (Number n) = tt
unary_is P op (Truth b) = tt
unary_is P op v = tt

pub then_is : (P : List ℕ → Type 0) (op : UnaryOp) (r : Result Value LineKind) → ResultIs P (and_then r (unary_of op))
then_is P op (Ok v) = unary_is P op v
then_is P op (Err k) = tt

pub known_size_is : (P : List ℕ → Type 0) (o : Option ℕ) → ResultIs P (known_size o)
known_size_is P None = tt
known_size_is P (Some n) = tt

pub size_is : (P : List ℕ → Type 0) (m : Meaning) (o : Option ℕ) → ResultIs P (size_in m o)
size_is P means.Later o = tt
size_is P means.Register o = tt
size_is P m o = known_size_is P o

pub applied_is : (P : List ℕ → Type 0) (op : UnaryOp) (x : Operand) → ResultIs P (applied op x)
applied_is P unary.Size (Unread None) = tt
applied_is P unary.Size (Unread (Some n)) = size_is P n.meaning n.size
applied_is P unary.Defined (Unread None) = tt
applied_is P unary.Defined (Unread (Some n)) = cond_is P (is_later n.meaning) (Err Forward) (Ok (Truth true)) tt tt
applied_is P op x = then_is P op (known x)

pub value_is : (P : List ℕ → Type 0) (o : Option LaidName) → ((n : LaidName) → o ≡ Some n → ResultIs P (entry_value n)) → ResultIs P (value_of o)
value_is P None h = tt
value_is P (Some n) h = h n refl

pub item_is : (P : List ℕ → Type 0) (l : SourceLine) (xs : List LaidName) → IsClosed P xs → (i : ExprItem) → ItemIs P i
    → ResultIs P (known (operand_of_item (with_names l xs) i))
item_is P l xs closed (item.Name q) h = value_is P (named_in q xs) (λ n. closed q n h)
item_is P l xs closed (item.Constant v) h = h
item_is P l xs closed i h = tt

pub number_is : (P : List ℕ → Type 0) (r : Result ℕ LineKind) → ResultIs P (as_number r)
number_is P (Ok n) = tt
number_is P (Err k) = tt

pub truth_is : (P : List ℕ → Type 0) (r : Result Bool LineKind) → ResultIs P (as_truth r)
truth_is P (Ok n) = tt
truth_is P (Err k) = tt

pub words_is : (P : List ℕ → Type 0) (r : Result (List ℕ) LineKind) → ResultIs P (as_words r)
words_is P (Ok n) = tt
words_is P (Err k) = tt

pub place_is : (P : List ℕ → Type 0) (s : List ℕ) (p : ℕ) (r : Result ℕ LineKind) → SymbolIs P (Place s p) → ResultIs P (as_place s r)
place_is P [] p (Ok n) h = tt
place_is P (c ∷ cs) p (Ok n) h = h
place_is P s p (Err k) h = tt

pub or_is : (P : List ℕ → Type 0) (o : Option Bool) (r : Result Value LineKind) → ResultIs P r → ResultIs P (truth_or o r)
or_is P (Some b) r h = tt
or_is P None r h = h

pub binary_is : (P : List ℕ → Type 0) (names : Names) (op : BinaryOp) (v w : Value) → SymbolIs P v → SymbolIs P w → ResultIs P (binary names op v w)
binary_is P names op (Number m) (Number n) h k = or_is P (related op (nat_cmp m n)) (as_number (arithmetic op m n)) (number_is P (arithmetic op m n))
binary_is P names op (Truth a) (Truth b) h k = truth_is P (logical op a b)
binary_is P names op (Words v) (Words w) h k =
    or_is P (related op (slice_cmp nat_cmp v w)) (as_words (joined_strings op v w)) (words_is P (joined_strings op v w))
binary_is P names op (Words v) (Number n) h k = words_is P (cut_string op v n)
binary_is P names op (Place s p) (Number n) h k = place_is P s p (moved_place op p n) h
binary_is P names op (Number n) (Place s p) h k = place_is P s p (added_place op n p) k
binary_is P names op (Place s p) (Place t q) h k = number_is P (between_places names op s p t q)
binary_is P names op v w h k = tt

pub both_is : (P : List ℕ → Type 0) (names : Names) (op : BinaryOp) (x y : Result Value LineKind) → ResultIs P x → ResultIs P y
    → ResultIs P (then_both x y (binary names op))
both_is P names op (Ok v) (Ok w) h k = binary_is P names op v w h k
both_is P names op (Ok v) (Err j) h k = tt
both_is P names op (Err i) (Ok w) h k = tt
both_is P names op (Err i) (Err j) h k = tt

pub tree_is : (P : List ℕ → Type 0) (l : SourceLine) (xs : List LaidName) → IsClosed P xs → (t : Tree) → TreeIs P t → ResultIs P (meaning (with_names l xs) t)
tree_is P l xs closed (Leaf i) h = item_is P l xs closed i h
tree_is P l xs closed (Before op t) h = applied_is P op (operand_of_tree (with_names l xs) t)
tree_is P l xs closed (Between op t u) h =
    both_is P (with_names l xs) op (meaning (with_names l xs) t) (meaning (with_names l xs) u) (tree_is P l xs closed t h.0) (tree_is P l xs closed u h.1)

-- ---- the same values

pub item_same : (P : List ℕ → Type 0) (l : SourceLine) (xs ys : List LaidName) → AreSame P xs ys → (i : ExprItem) → ItemIs P i
    → operand_of_item (with_names l xs) i ≡ operand_of_item (with_names l ys) i
item_same P l xs ys alike (item.Name q) h = ap (λ o. Unread o) (alike q h)
item_same P l xs ys alike i h = refl

pub stands_same : (P : List ℕ → Type 0) (l : SourceLine) (xs ys : List LaidName) → AreSame P xs ys → (s : List ℕ) (p : ℕ) → SymbolIs P (Place s p)
    → stands_at (with_names l xs) s ≡ stands_at (with_names l ys) s
stands_same P l xs ys alike [] p h = refl
stands_same P l xs ys alike (c ∷ cs) p h = ap entry_stands_at (alike (c ∷ cs) h)

pub places_same : (l : SourceLine) (xs ys : List LaidName) (op : BinaryOp) (s : List ℕ) (p : ℕ) (t : List ℕ) (q : ℕ)
    → stands_at (with_names l xs) s ≡ stands_at (with_names l ys) s → stands_at (with_names l xs) t ≡ stands_at (with_names l ys) t
    → between_places (with_names l xs) op s p t q ≡ between_places (with_names l ys) op s p t q
places_same l xs ys Subtract s p t q h k =
    ap (λ z. distance z p (stands_at (with_names l xs) t) q) h ∙ ap (λ z. distance (stands_at (with_names l ys) s) p z q) k
places_same l xs ys op s p t q h k = refl

pub binary_same : (P : List ℕ → Type 0) (l : SourceLine) (xs ys : List LaidName) → AreSame P xs ys → (op : BinaryOp) (v w : Value)
    → SymbolIs P v → SymbolIs P w → binary (with_names l xs) op v w ≡ binary (with_names l ys) op v w
binary_same P l xs ys alike op (Place s p) (Place t q) h k =
    ap as_number (places_same l xs ys op s p t q (stands_same P l xs ys alike s p h) (stands_same P l xs ys alike t q k))
binary_same P l xs ys alike op v w h k = refl

pub both_same : (P : List ℕ → Type 0) (l : SourceLine) (xs ys : List LaidName) → AreSame P xs ys → (op : BinaryOp) (x y : Result Value LineKind)
    → ResultIs P x → ResultIs P y → then_both x y (binary (with_names l xs) op) ≡ then_both x y (binary (with_names l ys) op)
both_same P l xs ys alike op (Ok v) (Ok w) h k = binary_same P l xs ys alike op v w h k
both_same P l xs ys alike op (Ok v) (Err j) h k = refl
both_same P l xs ys alike op (Err i) (Ok w) h k = refl
both_same P l xs ys alike op (Err i) (Err j) h k = refl

pub tree_same : (P : List ℕ → Type 0) (l : SourceLine) (xs ys : List LaidName) → IsClosed P xs → AreSame P xs ys → (t : Tree) → TreeIs P t
    → operand_of_tree (with_names l xs) t ≡ operand_of_tree (with_names l ys) t
tree_same P l xs ys closed alike (Leaf i) h = item_same P l xs ys alike i h
tree_same P l xs ys closed alike (Before op t) h = ap (λ x. Known (applied op x)) (tree_same P l xs ys closed alike t h)
tree_same P l xs ys closed alike (Between op t u) h =
    ap (λ z. Known z)
    (both_same P l xs ys alike op (meaning (with_names l xs) t) (meaning (with_names l xs) u) (tree_is P l xs closed t h.0) (tree_is P l xs closed u h.1))
    ∙ ap (λ z. Known (then_both (known z) (meaning (with_names l xs) u) (binary (with_names l ys) op))) (tree_same P l xs ys closed alike t h.0)
    ∙ ap (λ z. Known (then_both (meaning (with_names l ys) t) (known z) (binary (with_names l ys) op))) (tree_same P l xs ys closed alike u h.1)

-- ---- lists joined

pub named_joined : (q : List ℕ) (xs ys : List LaidName) → named_in q (xs ++ ys) ≡ or_else (named_in q xs) (named_in q ys)
named_joined q [] ys = refl
named_joined q (n ∷ ns) ys = by_test (same n.name q) (named_joined q ns ys)
  where
    by_test : (b : Bool) → named_in q (ns ++ ys) ≡ or_else (named_in q ns) (named_in q ys)
        → cond b (Some n) (named_in q (ns ++ ys)) ≡ or_else (cond b (Some n) (named_in q ns)) (named_in q ys)
    by_test true rest = refl
    by_test false rest = rest
