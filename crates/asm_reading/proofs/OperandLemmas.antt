-- Registers and second operands: numbers of registers are below 16.
use Rattle.std.proofs.Common.{ℕ, ◌<◌, List, [], ◌∷◌, arith, Option, Some, None}
use Rattle.std.specs.Prelude.{codes, Result, Ok, Err}
use Rattle.sdt_fault.specs.declared.kinds.LineKind.{LineKind}
use Rattle.sdt_fault.specs.declared.kinds.LineKind.TheVariants.{Syntax}
use Rattle.sdt_word.specs.declared.codes.ShiftKind.{ShiftKind}
use Rattle.asm_model.specs.declared.tokens.Token.{Token}
use Rattle.asm_model.specs.declared.tokens.TokenKind.{TokenKind}
use Rattle.asm_model.specs.declared.tokens.TokenKind.TheVariants as kind
use Rattle.asm_model.specs.declared.operands.Register.{Register}
use Rattle.asm_model.specs.declared.operands.Shift.TheVariants as shift
use Rattle.asm_model.specs.Parts.{piece}
use Rattle.asm_model.specs.Readings.{both, mapped, on_both}
use Rattle.asm_model.specs.Registers.{numbered_register, special_register, call_register, register_named}
use Rattle.asm_model.specs.Tokens.{is_called}
use Rattle.asm_arm.specs.declared.operands.Scale.{Scale}
use Rattle.asm_arm.specs.declared.operands.Scale.TheVariants as scale
use Rattle.asm_arm.specs.declared.operands.Second.{Second}
use Rattle.asm_arm.specs.declared.operands.Second.TheVariants as second
use Rattle.asm_arm.specs.Operands.{without_first, named, register_of, register, two_registers, three_registers, shift_named, extended, ReadsAmount, ReadsKind, ReadsScale, scaled, ReadsPlain, ReadsSecond}
use Rattle.asm_model.specs.Said.{IsRead, RegisterSaid, ShiftSaid}
use Rattle.asm_reading.proofs.ExpressionLemmas.{expression_gives}
use Rattle.asm_reading.proofs.FormLemmas.{SomeHaveForm, without_first_form}
use Rattle.asm_reading.proofs.GivesLemmas.{Gives, OptionGives, equal_gives, fault_gives, mapped_gives, both_give, cond_gives, or_else_gives, option_gives}
use Rattle.asm_reading.proofs.TokenLemmas.{EachHasForm}

-- ---- registers

abbrev pub IsRegister : ℕ → Type 0
IsRegister n = n < 16

numbered_small : (s : List ℕ) → OptionGives IsRegister (numbered_register s)
unfolding numbered_register
numbered_small s = search (option_gives, arith) depth 40

special_small : (s : List ℕ) → OptionGives IsRegister (special_register s)
unfolding special_register
special_small s = search (option_gives, arith) depth 40

call_small : (s : List ℕ) → OptionGives IsRegister (call_register s)
unfolding call_register
call_small s = search (option_gives, arith) depth 40

pub register_small : (s : List ℕ) → OptionGives IsRegister (register_named s)
unfolding register_named
register_small s =
    or_else_gives IsRegister (numbered_register s) _ (numbered_small s)
    (or_else_gives IsRegister (special_register s) (call_register s) (special_small s) (call_small s))

named_said : (s : List ℕ) (o : Option ℕ) → OptionGives IsRegister o → RegisterSaid (named s o)
named_said s (Some n) h = h
named_said s None h = tt

pub register_of_said : (k : TokenKind) (s : List ℕ) → Gives RegisterSaid (register_of k s)
register_of_said kind.Name s = named_said s (register_named s) (register_small s)
register_of_said kind.Barred s = tt
register_of_said k s = tt

pub register_said : (text : List ℕ) (ts : List Token) → Gives RegisterSaid (register text ts)
register_said text [] = tt
register_said text (t ∷ []) = register_of_said t.kind (piece text t)
register_said text (t ∷ u ∷ ts) = tt

abbrev pub PairSaid : Register × Register → Type 0
PairSaid p = RegisterSaid p.0 × RegisterSaid p.1

abbrev pub ThreeSaid : (Register × Register) × Register → Type 0
ThreeSaid p = PairSaid p.0 × RegisterSaid p.1

abbrev pub FourSaid : (Register × Register) × (Register × Register) → Type 0
FourSaid p = PairSaid p.0 × PairSaid p.1

pub pair_said : (text : List ℕ) (a b : List Token) → Gives PairSaid (two_registers text a b)
pair_said text a b =
    both_give RegisterSaid RegisterSaid PairSaid (λ x y. (x, y)) (register text a) (register text b) (λ x y p q. (p, q)) (register_said text a)
    (register_said text b)

pub three_said : (text : List ℕ) (a b c : List Token) → Gives ThreeSaid (three_registers text a b c)
three_said text a b c =
    both_give PairSaid RegisterSaid ThreeSaid (λ x y. (x, y)) (two_registers text a b) (register text c) (λ x y p q. (p, q)) (pair_said text a b)
    (register_said text c)

pub four_said : (text : List ℕ) (a b c d : List Token) → Gives FourSaid (both (two_registers text a b) (two_registers text c d))
four_said text a b c d =
    both_give PairSaid PairSaid FourSaid (λ x y. (x, y)) (two_registers text a b) (two_registers text c d) (λ x y p q. (p, q)) (pair_said text a b)
    (pair_said text c d)

-- ---- shifts and second operands

abbrev pub ScaleSaid : Scale → Type 0
ScaleSaid (scale.By k a) = IsRead a
ScaleSaid (scale.Register k rs) = RegisterSaid rs
ScaleSaid scale.Extended = Unit {0}

abbrev pub SecondSaid : Second → Type 0
SecondSaid (second.Number e) = IsRead e
SecondSaid (second.Shifted rm by) = RegisterSaid rm × ShiftSaid by
SecondSaid (second.RegisterShifted rm k rs) = RegisterSaid rm × RegisterSaid rs

amount_said : (text : List ℕ) (k : ShiftKind) (ts : List Token) (o : Option (List Token)) (r : Result Scale LineKind) → SomeHaveForm text o
    → ReadsAmount text k ts o r → Gives ScaleSaid r
amount_said text k ts (Some e) r f h = expression_gives ScaleSaid text (λ a. scale.By k a) e r f h (λ a p. p)
amount_said text k ts None r f h =
    equal_gives ScaleSaid r (mapped (λ rs. scale.Register k rs) (register text ts)) h
    (mapped_gives RegisterSaid ScaleSaid (λ rs. scale.Register k rs) (register text ts) (λ rs p. p) (register_said text ts))

kind_said : (text : List ℕ) (k : Option ShiftKind) (ts : List Token) (r : Result Scale LineKind) → EachHasForm text ts → ReadsKind text k ts r
    → Gives ScaleSaid r
kind_said text None ts r f h = fault_gives ScaleSaid Syntax r h
kind_said text (Some k) ts r f h =
    amount_said text k ts (without_first text (codes "#") ts) r (without_first_form text (codes "#") ts f) h

pub scale_said : (text : List ℕ) (ts : List Token) (r : Result Scale LineKind) → EachHasForm text ts → ReadsScale text ts r → Gives ScaleSaid r
scale_said text [] r f h = fault_gives ScaleSaid Syntax r h
scale_said text (t ∷ []) r f h =
    equal_gives ScaleSaid r (extended (piece text t)) h (cond_gives ScaleSaid (is_called (codes "RRX") (piece text t)) (Ok scale.Extended) (Err Syntax) tt tt)
scale_said text (t ∷ u ∷ ts) r f h = kind_said text (shift_named (piece text t)) (u ∷ ts) r f.1 h

scaled_said : (rm : Register) (x : Scale) → RegisterSaid rm → ScaleSaid x → SecondSaid (scaled rm x)
scaled_said rm (scale.By k a) h p = (h, p)
scaled_said rm (scale.Register k rs) h p = (h, p)
scaled_said rm scale.Extended h p = (h, tt)

plain_said : (text : List ℕ) (x : List Token) (o : Option (List Token)) (r : Result Second LineKind) → SomeHaveForm text o → ReadsPlain text x o r
    → Gives SecondSaid r
plain_said text x (Some e) r f h = expression_gives SecondSaid text (λ v. second.Number v) e r f h (λ v p. p)
plain_said text x None r f h =
    equal_gives SecondSaid r (mapped (λ rm. second.Shifted rm shift.Unshifted) (register text x)) h
    (mapped_gives RegisterSaid SecondSaid (λ rm. second.Shifted rm shift.Unshifted) (register text x) (λ rm p. (p, tt)) (register_said text x))

pub second_said : (text : List ℕ) (x : List Token) (s : Option (List Token)) (r : Result Second LineKind) → EachHasForm text x → SomeHaveForm text s
    → ReadsSecond text x s r → Gives SecondSaid r
second_said text x None r f g h = plain_said text x (without_first text (codes "#") x) r (without_first_form text (codes "#") x f) h
second_said text x (Some s) r f g h =
    equal_gives SecondSaid r (on_both (λ rm y. scaled rm y) (register text x) h.0) h.2
    (both_give RegisterSaid ScaleSaid SecondSaid (λ rm y. scaled rm y) (register text x) h.0 scaled_said (register_said text x) (scale_said text s h.0 g h.1))
