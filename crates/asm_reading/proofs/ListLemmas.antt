-- Register lists, bases and status registers.
use Rattle.std.proofs.Common.{◌≡◌, ℕ, ◌+◌, ◌*◌, ◌<◌, ◌==◌, ◌&&◌, nat_le, nat_lt, List, [], ◌∷◌, length, take, drop, Bool, true, false, cond, refl, arith, Option, Some, None}
use Rattle.std.specs.Prelude.{codes, Ok, Err}
use Rattle.std.proofs.lemmas.Bool.{and_parts}
use Rattle.sdt_fault.specs.declared.kinds.LineKind.TheVariants.{Syntax}
use Rattle.asm_model.specs.declared.tokens.Token.{Token}
use Rattle.asm_model.specs.declared.tokens.TokenKind.{TokenKind}
use Rattle.asm_model.specs.declared.tokens.TokenKind.TheVariants as kind
use Rattle.asm_model.specs.declared.operands.Register.{Register}
use Rattle.asm_model.specs.declared.operands.ListItem.{ListItem}
use Rattle.asm_model.specs.declared.operands.ListItem.TheVariants as entry
use Rattle.asm_model.specs.declared.operands.StatusRegister.{StatusRegister}
use Rattle.asm_model.specs.Forms.{same}
use Rattle.asm_model.specs.Operands.{operands_at}
use Rattle.asm_model.specs.Parts.{piece}
use Rattle.asm_arm.specs.Lists.{base, range_of, item, items, pc_alone, is_pc, content, list, register_list, status_begun, occurrences, are_fields, fields_with, fields_named, with_fields, fields_of, fields}
use Rattle.asm_arm.specs.Operands.{marked, between, register, register_of}
use Rattle.asm_model.specs.Said.{RegisterSaid, ItemSaid, AllItemsSaid, FieldsSaid}
use Rattle.asm_reading.proofs.GivesLemmas.{Gives, OptionGives, mapped_gives, both_give, cond_gives}
use Rattle.asm_reading.proofs.OperandLemmas.{register_of_said, register_said}

-- ---- bases

abbrev pub BaseSaid : Register × Bool → Type 0
BaseSaid p = RegisterSaid p.0

pub base_said : (text : List ℕ) (ts : List Token) → Gives BaseSaid (base text ts)
base_said text ts =
    let us = (marked text (codes "!") ts).0 in
    mapped_gives RegisterSaid BaseSaid (λ rn. (rn, (marked text (codes "!") ts).1)) (register text us) (λ rn p. p) (register_said text us)

-- ---- lists

item_said : (text : List ℕ) (ts : List Token) → Gives ItemSaid (item text ts)
item_said text (t ∷ []) =
    mapped_gives RegisterSaid ItemSaid (λ r. entry.One r) (register_of t.kind (piece text t)) (λ r p. p) (register_of_said t.kind (piece text t))
item_said text (t ∷ u ∷ v ∷ []) =
    let first = register_of t.kind (piece text t) in
    let last = register_of v.kind (piece text v) in
    cond_gives ItemSaid (same (piece text u) (codes "-")) (range_of first last) (Err Syntax)
    (both_give RegisterSaid RegisterSaid ItemSaid (λ x y. entry.Range x y) first last (λ x y p q. (p, q))
    (register_of_said t.kind (piece text t)) (register_of_said v.kind (piece text v))) tt
item_said text ts = tt

items_said : (text : List ℕ) (os : List (List Token)) → Gives AllItemsSaid (items text os)
items_said text [] = tt
items_said text (o ∷ os) =
    both_give ItemSaid AllItemsSaid AllItemsSaid (λ x xs. x ∷ xs) (item text o) (items text os) (λ x xs p q. (p, q)) (item_said text o) (items_said text os)

content_said : (text : List ℕ) (o : Option (List Token)) → Gives AllItemsSaid (content text o)
content_said text None = tt
content_said text (Some ts) = items_said text (operands_at text 0 ts)

pc_said : AllItemsSaid pc_alone
pc_said = (omega arith, tt)

pub list_said : (text : List ℕ) (ts : List Token) → Gives AllItemsSaid (list text ts)
list_said text ts =
    let inner = between text (codes "{") (codes "}") ts in
    cond_gives AllItemsSaid (is_pc text ts) (Ok pc_alone) (content text inner) pc_said (content_said text inner)

abbrev pub ListSaid : List ListItem × Bool → Type 0
ListSaid p = AllItemsSaid p.0

pub register_list_said : (text : List ℕ) (ts : List Token) → Gives ListSaid (register_list text ts)
register_list_said text ts =
    let us = (marked text (codes "^") ts).0 in
    mapped_gives AllItemsSaid ListSaid (λ l. (l, (marked text (codes "^") ts).1)) (list text us) (λ l p. p) (list_said text us)

-- ---- status registers

abbrev pub IsMask : ℕ → Type 0
IsMask n = (0 < n) × (n < 16)

pub mask_small : (f s x c n : ℕ) → are_fields f s x c n ≡ true → IsMask (8 * f + 4 * s + 2 * x + c)
mask_small f s x c n h =
    let p = and_parts (nat_le f 1) (nat_le s 1 && (nat_le x 1 && (nat_le c 1 && (nat_lt 0 n && f + s + x + c == n)))) h in
    let q = and_parts (nat_le s 1) (nat_le x 1 && (nat_le c 1 && (nat_lt 0 n && f + s + x + c == n))) p.1 in
    let r = and_parts (nat_le x 1) (nat_le c 1 && (nat_lt 0 n && f + s + x + c == n)) q.1 in
    let t = and_parts (nat_le c 1) (nat_lt 0 n && f + s + x + c == n) r.1 in
    let u = and_parts (nat_lt 0 n) (f + s + x + c == n) t.1 in
    (grind (arith, u.0, u.1), grind (arith, p.0, q.0, r.0, t.0))

pub fields_with_said : (f s x c n : ℕ) → OptionGives IsMask (fields_with f s x c n)
fields_with_said f s x c n = by_test (are_fields f s x c n) refl
  where
    by_test : (b : Bool) → are_fields f s x c n ≡ b → OptionGives IsMask (cond b (Some (8 * f + 4 * s + 2 * x + c)) None)
    by_test true e = mask_small f s x c n e
    by_test false e = tt

pub with_fields_said : (o : Option StatusRegister) (m : Option ℕ) → OptionGives IsMask m → FieldsSaid (with_fields o m)
with_fields_said None m h = tt
with_fields_said (Some r) None h = tt
with_fields_said (Some r) (Some m) h = h

pub fields_of_said : (k : TokenKind) (s : List ℕ) → Gives FieldsSaid (fields_of k s)
fields_of_said kind.Name s =
    let letters = drop 5 s in
    with_fields_said (status_begun (take 5 s)) (fields_named letters)
    (fields_with_said (occurrences 102 letters) (occurrences 115 letters) (occurrences 120 letters) (occurrences 99 letters) (length letters))
fields_of_said k s = tt

pub fields_said : (text : List ℕ) (ts : List Token) → Gives FieldsSaid (fields text ts)
fields_said text [] = tt
fields_said text (t ∷ []) = fields_of_said t.kind (piece text t)
fields_said text (t ∷ u ∷ ts) = tt
