-- Expressions that tokens spell are read: no constant in them is a place, and names in them have characters.
use Rattle.std.proofs.Common.{◌≡◌, ℕ, suc, ◌^◌, ◌==◌, nat_lt, List, [], ◌∷◌, ◌++◌, map, Bool, true, false, cond, refl, sym, subst, Some}
use Rattle.std.specs.Prelude.{Result, Ok, Err}
use Rattle.sdt_fault.specs.declared.kinds.LineKind.{LineKind}
use Rattle.asm_model.specs.declared.exprs.Expr.{Expr}
use Rattle.asm_model.specs.declared.exprs.ExprItem.{ExprItem}
use Rattle.asm_model.specs.declared.exprs.ExprItem.TheVariants as item
use Rattle.asm_model.specs.declared.exprs.Part.{Part}
use Rattle.asm_model.specs.declared.exprs.Part.TheVariants as part
use Rattle.asm_model.specs.declared.tokens.Token.{Token}
use Rattle.asm_model.specs.declared.tokens.TokenKind.{TokenKind}
use Rattle.asm_model.specs.declared.tokens.TokenKind.TheVariants as kind
use Rattle.asm_model.specs.declared.values.Value.TheVariants.{Number}
use Rattle.asm_model.specs.Grammar.{Tree, Leaf, postfix, plain, operand_of, Spells, operand, of_name, before, grouped, between, tighter, ParsesTokens}
use Rattle.asm_model.specs.Parts.{part_of, part_of_kind, number_value, number_item, braced_part, worded_part, plain_part, piece}
use Rattle.asm_model.specs.Readings.{mapped, on_both}
use Rattle.asm_model.specs.Says.{Expression}
use Rattle.asm_model.specs.Sound.{HasNoPlace, HaveNoPlaces}
use Rattle.asm_arm.specs.Addresses.{zero}
use Rattle.asm_model.specs.Named.{ItemNamed, AllItemsNamed}
use Rattle.asm_model.specs.Said.{IsRead}
use Rattle.asm_reading.proofs.GivesLemmas.{Gives, equal_gives, mapped_gives, both_give}
use Rattle.asm_reading.proofs.NameLemmas.{word_text}
use Rattle.asm_reading.proofs.TokenLemmas.{HasForm, EachHasForm}

-- ---- parts

abbrev pub IsGood : ExprItem → Type 0
IsGood i = HasNoPlace i × ItemNamed i

abbrev pub IsGoodPart : Part → Type 0
IsGoodPart (part.Operand i) = IsGood i
IsGoodPart _ = Unit {0}

pub or_good : (b : Bool) (x y : Part) → IsGoodPart x → IsGoodPart y → IsGoodPart (cond b x y)
or_good true x y h k = h
or_good false x y h k = k

number_good : (n : ℕ) → IsGood (number_item n)
number_good n = by_test (nat_lt n (2 ^ 32))
  where
    by_test : (b : Bool) → IsGood (cond b (item.Constant (Number n)) item.TooLarge)
    by_test true = (tt, tt)
    by_test false = (tt, tt)

braced_good : (s : List ℕ) → IsGoodPart (braced_part s)
braced_good s = search (or_good) depth 12

worded_good : (s : List ℕ) → IsGoodPart (worded_part s)
worded_good s = search (or_good) depth 25

sign_good : (s : List ℕ) → IsGoodPart (plain_part s)
sign_good s = search (or_good) depth 25

kind_good : (k : TokenKind) (s : List ℕ) → HasForm k s → IsGoodPart (part_of_kind k s)
kind_good kind.Name s h = (tt, (word_text kind.Name s h).1)
kind_good kind.Barred s h = (tt, (word_text kind.Barred s h).1)
kind_good kind.Number s h = number_good (number_value s)
kind_good kind.Braced s h = braced_good s
kind_good kind.Sign [] h = tt
kind_good kind.Sign (c ∷ cs) h = or_good (c == 58) (worded_part (c ∷ cs)) (plain_part (c ∷ cs)) (worded_good (c ∷ cs)) (sign_good (c ∷ cs))
kind_good kind.Quoted s h = (tt, tt)
kind_good kind.Character s h = (tt, tt)
kind_good kind.Local s h = (tt, tt)

abbrev AreGoodParts : List Part → Type 0
AreGoodParts [] = Unit {0}
AreGoodParts (p ∷ ps) = IsGoodPart p × AreGoodParts ps

tokens_good : (text : List ℕ) (ts : List Token) → EachHasForm text ts → AreGoodParts (map (part_of text) ts)
tokens_good text [] h = tt
tokens_good text (t ∷ ts) h = (kind_good t.kind (piece text t) h.0, tokens_good text ts h.1)

-- ---- expressions

abbrev AreGood : List ExprItem → Type 0
AreGood is = HaveNoPlaces is × AllItemsNamed is

parts_split : (ps qs : List Part) → AreGoodParts (ps ++ qs) → AreGoodParts ps × AreGoodParts qs
parts_split [] qs h = (tt, h)
parts_split (p ∷ ps) qs h = let rest = parts_split ps qs h.1 in ((h.0, rest.0), rest.1)

items_joined : (is js : List ExprItem) → AreGood is → AreGood js → AreGood (is ++ js)
items_joined [] js h k = k
items_joined (i ∷ is) js h k = let rest = items_joined is js (h.0.1, h.1.1) k in ((h.0.0, rest.0), (h.1.0, rest.1))

plain_same : (j i : ExprItem) → plain j ≡ Some i → j ≡ i
plain_same (item.Unary op) i e = absurd (cc)
plain_same (item.Binary op) i e = absurd (cc)
plain_same j i e = cc

operand_good : (p : Part) (i : ExprItem) → operand_of p ≡ Some i → IsGoodPart p → IsGood i
operand_good (part.Operand j) i e h = subst IsGood (plain_same j i e) h
operand_good p i e h = absurd (cc)

spelled_good : (l : ℕ) (ps : List Part) (t : Tree) → Spells l ps t → AreGoodParts ps → AreGood (postfix t)
spelled_good l ps t (operand p i e) h = let k = operand_good p i e h.0 in ((k.0, tt), (k.1, tt))
spelled_good l ps t (of_name op n) h = ((tt, (tt, tt)), (h.1.0.1, (tt, tt)))
spelled_good l ps t (before p op qs u e d) h = items_joined (postfix u) (item.Unary op ∷ []) (spelled_good 0 qs u d h.1) ((tt, tt), (tt, tt))
spelled_good l ps t (grouped qs u d) h = spelled_good 6 qs u d (parts_split qs (part.Close ∷ []) h.1).0
spelled_good l ps t (between k p op qs rs u v e lev d r) h =
    let parts = parts_split qs (p ∷ rs) h in
    items_joined (postfix u ++ postfix v) (item.Binary op ∷ [])
    (items_joined (postfix u) (postfix v) (spelled_good (suc k) qs u d parts.0) (spelled_good k rs v r parts.1.1)) ((tt, tt), (tt, tt))
spelled_good l ps t (tighter k qs u d) h = spelled_good k qs u d h

pub parsed_read : (text : List ℕ) (ts : List Token) (e : Result Expr LineKind) → EachHasForm text ts → ParsesTokens text ts e → Gives IsRead e
parsed_read text ts (Ok e) f h =
    let ps = map (part_of text) ts in
    let good = subst AreGood (sym h.2) (spelled_good 6 ps h.0 h.1 (tokens_good text ts f)) in
    record { parts = ps; tree = h.0; spelled = h.1; items = h.2; plain = good.0; named = good.1 }
parsed_read text ts (Err k) f h = tt

-- the number that an offset is which isn't written
pub zero_read : IsRead zero
zero_read =
    let i = item.Constant (Number 0) in
    let ps = part.Operand i ∷ [] in
    let t = Leaf i in
    record {
      parts = ps;
      tree = t;
      spelled = tighter 5 ps t (tighter 4 ps t (tighter 3 ps t (tighter 2 ps t (tighter 1 ps t (tighter 0 ps t (operand (part.Operand i) i refl))))));
      items = refl;
      plain = (tt, tt);
      named = (tt, tt);
    }

-- ---- what is made of them

pub expression_gives : {A : Type 0} (P : A → Type 0) (text : List ℕ) (make : Expr → A) (ts : List Token) (r : Result A LineKind) → EachHasForm text ts
    → Expression text make ts r → ((e : Expr) → IsRead e → P (make e)) → Gives P r
expression_gives P text make ts r f h g =
    equal_gives P r (mapped make h.0) h.2 (mapped_gives IsRead P make h.0 g (parsed_read text ts h.0 f h.1))

pub with_expression : {A B : Type 0} (P : A → Type 0) (Q : B → Type 0) (text : List ℕ) (make : A → Expr → B) (x : Result A LineKind) (ts : List Token)
    (r : Result B LineKind)
    → EachHasForm text ts → ((v : Result Expr LineKind) × ParsesTokens text ts v × (r ≡ on_both make x v))
    → ((a : A) (e : Expr) → P a → IsRead e → Q (make a e))
    → Gives P x → Gives Q r
with_expression P Q text make x ts r f h g k =
    equal_gives Q r (on_both make x h.0) h.2 (both_give P IsRead Q make x h.0 g k (parsed_read text ts h.0 f h.1))
