-- Evaluating and then placing is evaluating what is placed.
use Rattle.std.proofs.Common.{◌≡◌, ℕ, ◌+◌, ◌%◌, ◌^◌, ◌==◌, List, [], ◌∷◌, length, map, Bool, true, false, cond, refl, sym, ◌∙◌, ap, arith, Option, Some, None}
use Rattle.std.proofs.lemmas.Bool.{eqb-true}
use Rattle.std.specs.Prelude.{Result, Ok, Err, nat_lt}
use Rattle.std.specs.Ordering.{nat_cmp}
use Rattle.std.specs.Cmp.Lexicographic.{slice_cmp}
use Rattle.sdt_fault.specs.declared.kinds.LineKind.{LineKind}
use Rattle.sdt_fault.specs.declared.kinds.LineKind.TheVariants.{Syntax, UnknownWord, Constant, Forward, WrongType, OutOfRange, TooMany}
use Rattle.asm_model.specs.declared.exprs.ExprItem.{ExprItem}
use Rattle.asm_model.specs.declared.exprs.ExprItem.TheVariants as item
use Rattle.asm_model.specs.declared.exprs.UnaryOp.{UnaryOp}
use Rattle.asm_model.specs.declared.exprs.UnaryOp.TheVariants as unary
use Rattle.asm_model.specs.declared.exprs.BinaryOp.{BinaryOp}
use Rattle.asm_model.specs.declared.exprs.BinaryOp.TheVariants.{Add, Subtract}
use Rattle.asm_model.specs.declared.values.Value.{Value}
use Rattle.asm_model.specs.declared.values.Value.TheVariants.{Number, Truth, Words, Place}
use Rattle.asm_model.specs.declared.names.LaidName.{LaidName}
use Rattle.asm_model.specs.declared.names.Meaning.{Meaning}
use Rattle.asm_model.specs.declared.names.Meaning.TheVariants as means
use Rattle.asm_model.specs.declared.names.Names.{Names}
use Rattle.asm_model.specs.Forms.{same}
use Rattle.asm_model.specs.Grammar.{Tree, Leaf, Before, Between}
use Rattle.asm_model.specs.Limits.{string_bytes}
use Rattle.asm_model.specs.Meaning.{named_in, less, arithmetic, related, logical, joined_strings, cut_string, moved_place, added_place, stands_at, distance, between_places, as_number, as_truth, as_words, as_place, truth_or, binary, unary_of, Known, Unread, is_later, meant, known_size, size_in, value_of, size_of, defined_of, known, applied, operand_of_item, meaning}
use Rattle.asm_model.proofs.LineLemmas.{applied_known}
use Rattle.asm_model.specs.Placing.{Placing, address_at, address_of, placed_value, seen_from, placed_in, placed_name, placed_names, placed_item, placed_meaning, HasSymbol, ResultHasSymbol, EntryHasSymbol, HaveSymbols}
use Rattle.asm_model.specs.Readings.{and_then, then_both}

-- ---- numbers

pub moved_up : (a p n : ℕ) → ((a + p) % 2 ^ 32 + n) % 2 ^ 32 ≡ (a + (p + n) % 2 ^ 32) % 2 ^ 32
moved_up a p n = omega arith

pub moved_down : (a p n : ℕ) → less ((a + p) % 2 ^ 32) n ≡ (a + less p n) % 2 ^ 32
moved_down a p n = omega arith

pub moved_onto : (a p n : ℕ) → (n + (a + p) % 2 ^ 32) % 2 ^ 32 ≡ (a + (p + n) % 2 ^ 32) % 2 ^ 32
moved_onto a p n = omega arith

pub apart : (b x y p q : ℕ) → less ((b + x + p) % 2 ^ 32) ((b + y + q) % 2 ^ 32) ≡ less ((x + p) % 2 ^ 32) ((y + q) % 2 ^ 32)
apart b x y p q = omega arith

-- ---- names

abbrev placed_option : Placing → Names → Option LaidName → Option LaidName
placed_option p names None = None
placed_option p names (Some n) = Some (placed_name p names n)

pub placed_found : (p : Placing) (names : Names) (q : List ℕ) (ns : List LaidName)
    → named_in q (map (placed_name p names) ns) ≡ placed_option p names (named_in q ns)
placed_found p names q [] = refl
placed_found p names q (n ∷ ns) = by_test (same n.name q) (placed_found p names q ns)
  where
    by_test : (b : Bool) → named_in q (map (placed_name p names) ns) ≡ placed_option p names (named_in q ns)
        → cond b (Some (placed_name p names n)) (named_in q (map (placed_name p names) ns)) ≡ placed_option p names (cond b (Some n) (named_in q ns))
    by_test true rest = refl
    by_test false rest = rest

-- ---- values

abbrev placed_result : Placing → Names → Result Value LineKind → Result Value LineKind
placed_result p names (Ok v) = Ok (placed_value p names v)
placed_result p names (Err k) = Err k

pub same_seen : (p : Placing) (names : Names) (area : Option ℕ) (v : Value) → HasSymbol v
    → placed_value p (seen_from names area) v ≡ placed_value p names v
same_seen p names area (Place [] n) h = absurd h
same_seen p names area (Place (c ∷ cs) n) h = refl
same_seen p names area (Number n) h = refl
same_seen p names area (Truth b) h = refl
same_seen p names area (Words w) h = refl

pub means_placed : (p : Placing) (names : Names) (area : Option ℕ) (name : List ℕ) (m : Meaning) (v : Value) → ResultHasSymbol (meant name m)
    → meant name m ≡ Ok v → meant name (placed_in p (seen_from names area) name m) ≡ Ok (placed_value p names v)
means_placed p names area name means.Later v here h = absurd (cc)
means_placed p names area name means.Label v here h = ap Ok (same_seen p names area (Place name 0) here) ∙ ap (placed_result p names) h
means_placed p names area name means.Imported v here h = ap Ok (same_seen p names area (Place name 0) here) ∙ ap (placed_result p names) h
means_placed p names area name means.Place v here h = ap Ok (same_seen p names area (Place name 0) here) ∙ ap (placed_result p names) h
means_placed p names area name (means.Known w) v here h = ap Ok (same_seen p names area w here) ∙ ap (placed_result p names) h
means_placed p names area name (means.Faulty k) v here h = absurd (cc)
means_placed p names area name means.Register v here h = absurd (cc)

pub value_placed : (p : Placing) (names : Names) (o : Option LaidName) (v : Value)
    → ((n : LaidName) → o ≡ Some n → EntryHasSymbol n)
    → value_of o ≡ Ok v → value_of (placed_option p names o) ≡ Ok (placed_value p names v)
value_placed p names None v here h = absurd (cc)
value_placed p names (Some n) v here h = means_placed p names n.area n.name n.meaning v (here n refl) h

pub known_size_placed : (p : Placing) (names : Names) (o : Option ℕ) (v : Value) → known_size o ≡ Ok v → known_size o ≡ Ok (placed_value p names v)
known_size_placed p names None v h = absurd (cc)
known_size_placed p names (Some n) v h = ap (placed_result p names) h

pub means_size : (p : Placing) (names at : Names) (name : List ℕ) (m : Meaning) (size : Option ℕ) (v : Value)
    → size_in m size ≡ Ok v → size_in (placed_in p at name m) size ≡ Ok (placed_value p names v)
means_size p names at name means.Later size v h = absurd (cc)
means_size p names at name means.Label size v h = known_size_placed p names size v h
means_size p names at name means.Imported size v h = known_size_placed p names size v h
means_size p names at name means.Place size v h = known_size_placed p names size v h
means_size p names at name (means.Known w) size v h = known_size_placed p names size v h
means_size p names at name (means.Faulty k) size v h = known_size_placed p names size v h
means_size p names at name means.Register size v h = absurd (cc)

pub size_placed : (p : Placing) (names : Names) (o : Option LaidName) (v : Value)
    → size_of o ≡ Ok v → size_of (placed_option p names o) ≡ Ok (placed_value p names v)
size_placed p names None v h = absurd (cc)
size_placed p names (Some n) v h = means_size p names (seen_from names n.area) n.name n.meaning n.size v h

pub means_later : (p : Placing) (at : Names) (name : List ℕ) (m : Meaning) → is_later (placed_in p at name m) ≡ is_later m
means_later p at name means.Later = refl
means_later p at name means.Label = refl
means_later p at name means.Imported = refl
means_later p at name means.Place = refl
means_later p at name (means.Known w) = refl
means_later p at name (means.Faulty k) = refl
means_later p at name means.Register = refl

pub truth_placed : (p : Placing) (names : Names) (b : Bool) (v : Value)
    → cond b (Err Forward) (Ok (Truth true)) ≡ Ok v → cond b (Err Forward) (Ok (Truth true)) ≡ Ok (placed_value p names v)
truth_placed p names true v h = absurd (cc)
truth_placed p names false v h = ap (placed_result p names) h

pub defined_placed : (p : Placing) (names : Names) (o : Option LaidName) (v : Value) → defined_of o ≡ Ok v
    → defined_of (placed_option p names o) ≡ Ok (placed_value p names v)
defined_placed p names None v h = ap (placed_result p names) h
defined_placed p names (Some n) v h =
    ap (λ b. cond b (Err Forward) (Ok (Truth true))) (means_later p (seen_from names n.area) n.name n.meaning)
    ∙ truth_placed p names (is_later n.meaning) v h

-- ---- operators before an operand

pub plain_cond : (p : Placing) (names : Names) (b : Bool) (x y : Result Value LineKind)
    → placed_result p names x ≡ x → placed_result p names y ≡ y → placed_result p names (cond b x y) ≡ cond b x y
plain_cond p names true x y h k = h
plain_cond p names false x y h k = k

-- no operator before a value makes a place
pub plain_unary : (p : Placing) (names : Names) (op : UnaryOp) (v : Value) → placed_result p names (unary_of op v) ≡ unary_of op v
plain_unary p names unary.Length (Words w) =
    plain_cond p names (nat_lt string_bytes (length w)) (Err TooMany) (Ok (Number (length w))) refl refl
plain_unary p names unary.Character (Number n) =
    plain_cond p names (nat_lt 255 n) (Err OutOfRange) (Ok (Words (n ∷ []))) refl refl
plain_unary p names unary.Plus (Number n) = refl
plain_unary p names unary.Plus v = refl
plain_unary p names unary.Minus (Number n) = refl
plain_unary p names unary.Minus v = refl
plain_unary p names unary.Size v = refl
plain_unary p names unary.Not (Number n) = refl
plain_unary p names unary.Not v = refl
plain_unary p names unary.LogicalNot (Truth b) = refl
plain_unary p names unary.LogicalNot v = refl
plain_unary p names unary.Length v = refl
plain_unary p names unary.Character v = refl
plain_unary p names unary.String (Number n) = refl
plain_unary p names unary.String (Truth b) = refl
plain_unary p names unary.String v = refl
plain_unary p names unary.Defined v = refl

-- and none takes one
pub no_place : (op : UnaryOp) (s : List ℕ) (n : ℕ) (r : Value) → unary_of op (Place s n) ≡ Ok r → ⊥
no_place unary.Plus s n r h = cc
no_place op s n r h = cc

pub unary_placed : (p : Placing) (names : Names) (op : UnaryOp) (v r : Value)
    → unary_of op v ≡ Ok r → unary_of op (placed_value p names v) ≡ Ok (placed_value p names r)
unary_placed p names op (Number n) r h = sym (plain_unary p names op (Number n)) ∙ ap (placed_result p names) h
unary_placed p names op (Truth b) r h = sym (plain_unary p names op (Truth b)) ∙ ap (placed_result p names) h
unary_placed p names op (Words w) r h = sym (plain_unary p names op (Words w)) ∙ ap (placed_result p names) h
unary_placed p names op (Place s n) r h = absurd (no_place op s n r h)

pub then_placed : (p : Placing) (names : Names) (op : UnaryOp) (x y : Result Value LineKind) (v : Value)
    → ((w : Value) → x ≡ Ok w → y ≡ Ok (placed_value p names w))
    → and_then x (unary_of op) ≡ Ok v → and_then y (unary_of op) ≡ Ok (placed_value p names v)
then_placed p names op (Ok w) y v more h = ap (λ z. and_then z (unary_of op)) (more w refl) ∙ unary_placed p names op w v h
then_placed p names op (Err k) y v more h = absurd (cc)

pub known_placed : (p : Placing) (names : Names) (op : UnaryOp) (x y : Result Value LineKind) (v : Value)
    → ((w : Value) → x ≡ Ok w → y ≡ Ok (placed_value p names w))
    → applied op (Known x) ≡ Ok v → applied op (Known y) ≡ Ok (placed_value p names v)
known_placed p names op x y v more h = applied_known op y ∙ then_placed p names op x y v more (sym (applied_known op x) ∙ h)

pub unread_placed : (p : Placing) (names : Names) (op : UnaryOp) (o : Option LaidName) (v : Value)
    → ((n : LaidName) → o ≡ Some n → EntryHasSymbol n)
    → applied op (Unread o) ≡ Ok v → applied op (Unread (placed_option p names o)) ≡ Ok (placed_value p names v)
unread_placed p names unary.Size o v here h = size_placed p names o v h
unread_placed p names unary.Defined o v here h = defined_placed p names o v h
unread_placed p names op o v here h =
    then_placed p names op (value_of o) (value_of (placed_option p names o)) v (λ w. value_placed p names o w here) h

-- ---- operators between operands

pub plain_number : (p : Placing) (names : Names) (r : Result ℕ LineKind) → placed_result p names (as_number r) ≡ as_number r
plain_number p names (Ok n) = refl
plain_number p names (Err k) = refl

pub plain_truth : (p : Placing) (names : Names) (r : Result Bool LineKind) → placed_result p names (as_truth r) ≡ as_truth r
plain_truth p names (Ok b) = refl
plain_truth p names (Err k) = refl

pub plain_words : (p : Placing) (names : Names) (r : Result (List ℕ) LineKind) → placed_result p names (as_words r) ≡ as_words r
plain_words p names (Ok w) = refl
plain_words p names (Err k) = refl

pub plain_or : (p : Placing) (names : Names) (o : Option Bool) (r : Result Value LineKind)
    → placed_result p names r ≡ r → placed_result p names (truth_or o r) ≡ truth_or o r
plain_or p names (Some b) r h = refl
plain_or p names None r h = h

pub place_and_number : (p : Placing) (names : Names) (op : BinaryOp) (s : List ℕ) (q n : ℕ) (r : Value)
    → as_place s (moved_place op q n) ≡ Ok r
    → binary (placed_names p names) op (Number ((address_of p names s + q) % 2 ^ 32)) (Number n) ≡ Ok (placed_value p names r)
place_and_number p names Add s q n r h =
    ap (λ z. as_number (Ok z)) (moved_up (address_of p names s) q n) ∙ ap (placed_result p names) h
place_and_number p names Subtract s q n r h =
    ap (λ z. as_number (Ok z)) (moved_down (address_of p names s) q n) ∙ ap (placed_result p names) h
place_and_number p names op s q n r h = absurd (cc)

pub number_and_place : (p : Placing) (names : Names) (op : BinaryOp) (n : ℕ) (s : List ℕ) (q : ℕ) (r : Value)
    → as_place s (added_place op n q) ≡ Ok r
    → binary (placed_names p names) op (Number n) (Number ((address_of p names s + q) % 2 ^ 32)) ≡ Ok (placed_value p names r)
number_and_place p names Add n s q r h =
    ap (λ z. as_number (Ok z)) (moved_onto (address_of p names s) q n) ∙ ap (placed_result p names) h
number_and_place p names op n s q r h = absurd (cc)

pub distance_placed : (p : Placing) (names : Names) (s t : List ℕ) (a b : Option (ℕ × ℕ)) (q n : ℕ) (r : Value)
    → as_number (distance a q b n) ≡ Ok r
    → as_number (Ok (less ((address_at p s a + q) % 2 ^ 32) ((address_at p t b + n) % 2 ^ 32))) ≡ Ok (placed_value p names r)
distance_placed p names s t (Some x) (Some y) q n r h = by_test (x.0 == y.0) refl h
  where
    by_test : (b : Bool) → (x.0 == y.0) ≡ b
        → as_number (cond b (Ok (less ((x.1 + q) % 2 ^ 32) ((y.1 + n) % 2 ^ 32))) (Err WrongType)) ≡ Ok r
        → as_number (Ok (less ((p.base x.0 + x.1 + q) % 2 ^ 32) ((p.base y.0 + y.1 + n) % 2 ^ 32))) ≡ Ok (placed_value p names r)
    by_test true e k =
        ap (λ z. as_number (Ok (less ((p.base z + x.1 + q) % 2 ^ 32) ((p.base y.0 + y.1 + n) % 2 ^ 32)))) (eqb-true x.0 y.0 e)
        ∙ ap (λ z. as_number (Ok z)) (apart (p.base y.0) x.1 y.1 q n)
        ∙ ap (placed_result p names) k
    by_test false e k = absurd (cc)
distance_placed p names s t (Some x) None q n r h = absurd (cc)
distance_placed p names s t None b q n r h = absurd (cc)

pub two_places : (p : Placing) (names : Names) (op : BinaryOp) (s : List ℕ) (q : ℕ) (t : List ℕ) (n : ℕ) (r : Value)
    → as_number (between_places names op s q t n) ≡ Ok r
    → binary (placed_names p names) op (Number ((address_of p names s + q) % 2 ^ 32)) (Number ((address_of p names t + n) % 2 ^ 32)) ≡ Ok
    (placed_value p names r)
two_places p names Subtract s q t n r h = distance_placed p names s t (stands_at names s) (stands_at names t) q n r h
two_places p names op s q t n r h = absurd (cc)

pub binary_placed : (p : Placing) (names : Names) (op : BinaryOp) (v w r : Value) → binary names op v w ≡ Ok r
    → binary (placed_names p names) op (placed_value p names v) (placed_value p names w) ≡ Ok (placed_value p names r)
binary_placed p names op (Number m) (Number n) r h =
    sym (plain_or p names (related op (nat_cmp m n)) (as_number (arithmetic op m n)) (plain_number p names (arithmetic op m n)))
    ∙ ap (placed_result p names) h
binary_placed p names op (Truth a) (Truth b) r h = sym (plain_truth p names (logical op a b)) ∙ ap (placed_result p names) h
binary_placed p names op (Words v) (Words w) r h =
    sym (plain_or p names (related op (slice_cmp nat_cmp v w)) (as_words (joined_strings op v w)) (plain_words p names (joined_strings op v w)))
    ∙ ap (placed_result p names) h
binary_placed p names op (Words v) (Number n) r h = sym (plain_words p names (cut_string op v n)) ∙ ap (placed_result p names) h
binary_placed p names op (Place s q) (Number n) r h = place_and_number p names op s q n r h
binary_placed p names op (Number n) (Place s q) r h = number_and_place p names op n s q r h
binary_placed p names op (Place s q) (Place t n) r h = two_places p names op s q t n r h
binary_placed p names op (Number m) (Truth b) r h = absurd (cc)
binary_placed p names op (Number m) (Words w) r h = absurd (cc)
binary_placed p names op (Truth a) (Number n) r h = absurd (cc)
binary_placed p names op (Truth a) (Words w) r h = absurd (cc)
binary_placed p names op (Truth a) (Place t n) r h = absurd (cc)
binary_placed p names op (Words v) (Truth b) r h = absurd (cc)
binary_placed p names op (Words v) (Place t n) r h = absurd (cc)
binary_placed p names op (Place s q) (Truth b) r h = absurd (cc)
binary_placed p names op (Place s q) (Words w) r h = absurd (cc)

pub both_placed : (p : Placing) (names : Names) (op : BinaryOp) (a b c d : Result Value LineKind) (r : Value)
    → ((v : Value) → a ≡ Ok v → c ≡ Ok (placed_value p names v)) → ((v : Value) → b ≡ Ok v → d ≡ Ok (placed_value p names v))
    → then_both a b (binary names op) ≡ Ok r → then_both c d (binary (placed_names p names) op) ≡ Ok (placed_value p names r)
both_placed p names op (Ok v) (Ok w) c d r f g h =
    ap (λ z. then_both z d (binary (placed_names p names) op)) (f v refl)
    ∙ ap (λ z. then_both (Ok (placed_value p names v)) z (binary (placed_names p names) op)) (g w refl)
    ∙ binary_placed p names op v w r h
both_placed p names op (Ok v) (Err k) c d r f g h = absurd (cc)
both_placed p names op (Err k) (Ok w) c d r f g h = absurd (cc)
both_placed p names op (Err k) (Err j) c d r f g h = absurd (cc)

-- ---- expressions

pub name_placed : (p : Placing) (names : Names) (q : List ℕ) (v : Value) → HaveSymbols names
    → value_of (named_in q names.list) ≡ Ok v
    → value_of (named_in q (map (placed_name p names) names.list)) ≡ Ok (placed_value p names v)
name_placed p names q v here h =
    ap value_of (placed_found p names q names.list) ∙ value_placed p names (named_in q names.list) v (here q) h

pub item_placed : (p : Placing) (names : Names) (i : ExprItem) (v : Value) → HaveSymbols names
    → known (operand_of_item names i) ≡ Ok v
    → known (operand_of_item (placed_names p names) (placed_item p names i)) ≡ Ok (placed_value p names v)
item_placed p names (item.Name q) v here h = name_placed p names q v here h
item_placed p names (item.Local q) v here h = ap (placed_result p names) h
item_placed p names (item.Constant w) v here h = ap (placed_result p names) h
item_placed p names item.TooLarge v here h = ap (placed_result p names) h
item_placed p names item.Here v here h = ap (placed_result p names) h
item_placed p names item.Map v here h = ap (placed_result p names) h
item_placed p names item.CodeSize v here h = ap (placed_result p names) h
item_placed p names (item.Unary op) v here h = ap (placed_result p names) h
item_placed p names (item.Binary op) v here h = ap (placed_result p names) h

pub before_item : (p : Placing) (names : Names) (op : UnaryOp) (i : ExprItem) (v : Value) → HaveSymbols names
    → applied op (operand_of_item names i) ≡ Ok v
    → applied op (operand_of_item (placed_names p names) (placed_item p names i)) ≡ Ok (placed_value p names v)
before_item p names op (item.Name q) v here h =
    ap (λ o. applied op (Unread o)) (placed_found p names q names.list) ∙ unread_placed p names op (named_in q names.list) v (here q) h
before_item p names op (item.Local q) v here h =
    known_placed p names op (Err UnknownWord) (Err UnknownWord) v (λ u e. ap (placed_result p names) e) h
before_item p names op (item.Constant w) v here h =
    known_placed p names op (Ok w) (Ok (placed_value p names w)) v (λ u e. ap (placed_result p names) e) h
before_item p names op item.TooLarge v here h = known_placed p names op (Err Constant) (Err Constant) v (λ u e. ap (placed_result p names) e) h
before_item p names op item.Here v here h =
    known_placed p names op (Ok (Place [] names.offset)) (Ok (placed_value p names (Place [] names.offset))) v (λ u e. ap (placed_result p names) e) h
before_item p names op item.Map v here h =
    known_placed p names op (Ok (Number names.map)) (Ok (Number names.map)) v (λ u e. ap (placed_result p names) e) h
before_item p names op item.CodeSize v here h =
    known_placed p names op (known (operand_of_item names item.CodeSize)) (known (operand_of_item names item.CodeSize)) v (λ u e. ap (placed_result p names) e)
    h
before_item p names op (item.Unary o) v here h = known_placed p names op (Err Syntax) (Err Syntax) v (λ u e. ap (placed_result p names) e) h
before_item p names op (item.Binary o) v here h = known_placed p names op (Err Syntax) (Err Syntax) v (λ u e. ap (placed_result p names) e) h

pub placing_law : (p : Placing) (names : Names) (t : Tree) (v : Value)
    → HaveSymbols names → meaning names t ≡ Ok v → placed_meaning p names t ≡ Ok (placed_value p names v)
placing_law p names (Leaf i) v here h = item_placed p names i v here h
placing_law p names (Before op (Leaf i)) v here h = before_item p names op i v here h
placing_law p names (Before op (Before o t)) v here h =
    known_placed p names op (meaning names (Before o t)) (placed_meaning p names (Before o t)) v
    (λ w. placing_law p names (Before o t) w here) h
placing_law p names (Before op (Between o t u)) v here h =
    known_placed p names op (meaning names (Between o t u)) (placed_meaning p names (Between o t u)) v
    (λ w. placing_law p names (Between o t u) w here) h
placing_law p names (Between op t u) v here h =
    both_placed p names op (meaning names t) (meaning names u) (placed_meaning p names t) (placed_meaning p names u) v
    (λ w. placing_law p names t w here) (λ w. placing_law p names u w here) h
