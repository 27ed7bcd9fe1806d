-- Pseudo-instructions: ADR, ADRL and LDR with a literal.
use Rattle.std.proofs.Common.{◌≡◌, ℕ, ◌+◌, ◌-◌, ◌%◌, ◌^◌, ◌<◌, ◌≤◌, List, [], ◌∷◌, Bool, true, false, refl, sym, ◌∙◌, ap, subst, arith, Option, Some, None}
use Rattle.std.specs.Prelude.{Result, Ok}
use Rattle.sdt_fault.specs.declared.kinds.LineKind.{LineKind}
use Rattle.sdt_word.specs.declared.codes.Condition.{Condition}
use Rattle.sdt_word.specs.declared.codes.Condition.TheVariants.{Al}
use Rattle.sdt_word.specs.declared.codes.ShiftKind.TheVariants.{Lsl}
use Rattle.arm_isa.specs.declared.instr.ArmInstr.{ArmInstr}
use Rattle.arm_isa.specs.declared.instr.ArmInstr.TheVariants as instr
use Rattle.arm_isa.specs.declared.instr.Operation.{Operation}
use Rattle.arm_isa.specs.declared.instr.Operation.TheVariants.{Add, Sub, Mov}
use Rattle.asm_model.specs.declared.exprs.Expr.{Expr}
use Rattle.asm_model.specs.declared.statements.PseudoLine.{PseudoLine}
use Rattle.asm_model.specs.declared.statements.PseudoLine.TheVariants as pseudo
use Rattle.asm_model.specs.Readings.{mapped}
use Rattle.source_model.specs.Contexts.{value_of, number_in, register, own_offset, offset_below, from_pc as away_from}
use Rattle.source_model.specs.Immediates.{immediate, negated, data_immediate}
use Rattle.source_model.specs.Objects.{units_from}
use Rattle.source_model.specs.PseudoForms.{adding, address_by, address_instruction, first_part, second_part, two_by, two_of, first_of, long_address, one, pseudo_instructions}
use Rattle.source_model.specs.Units.{instruction_units, Instruction}
use Rattle.stand_model.specs.Stands.{ReadsAt, AddressStands, LongStands, PseudoStands, WordStands, immediate_number, moved, operation_of, address_behind}
use Rattle.stand_laws.proofs.ArmLemmas.{Ready, own_stands, away_is}
use Rattle.stand_laws.proofs.DataLemmas.{first_shown}
use Rattle.stand_laws.proofs.FieldLemmas.{away, away_leads, distance_leads, immediate_gives, moved_up, moved_down, first_within, twice_up, twice_down}
use Rattle.stand_laws.proofs.ResultLemmas.{then_ok, mapped_ok}
use Rattle.stand_laws.proofs.ValueLemmas.{Setting, lookup, AllShown, number_stands}

-- ---- ADR

-- one instruction that moves pc by a number
pub record Moves (condition : Condition) (rd : ℕ) (d : ℕ) (i : ArmInstr) : Type 0 where
  pub up : Bool
  pub by : ℕ × ℕ
  pub is : instr.DataImmediate condition (operation_of up) false 15 rd by.0 by.1 ≡ i
  pub gives : (base at o a : ℕ) → at + 8 ≤ 2 ^ 32 → a ≡ base + at → d ≡ away at o → moved up (a + 8) (immediate_number by) ≡ (base + o) % 2 ^ 32

pub negated_small : (n : ℕ) → negated n < 2 ^ 32
negated_small n = omega arith

pub moves : (condition : Condition) (rd d : ℕ) (i : ArmInstr) → d < 2 ^ 32 → (p q : Option (ℕ × ℕ)) → immediate d ≡ p → immediate (negated d) ≡ q
    → address_by condition rd p q ≡ Ok i → Moves condition rd d i
moves condition rd d i small (Some p) q x y h = record {
  up = true;
  by = p;
  is = cc;
  gives = λ base at o a near e g. moved_up base at o a (immediate_number p) near e (immediate_gives d p small x ∙ g);
}
moves condition rd d i small None (Some q) x y h = record {
  up = false;
  by = q;
  is = cc;
  gives = λ base at o a near e g.
      moved_down base at o a (immediate_number q) near e (immediate_gives (negated d) q (negated_small d) y ∙ ap negated g);
}
moves condition rd d i small None None x y h = absurd (cc)

pub away_of_small : (k : Setting) (o : ℕ) → away_from k.context o < 2 ^ 32
away_of_small k o = omega arith

pub address_stands : (k : Setting) (area at a : ℕ) → Ready k area at → a ≡ k.base + at
    → (condition : Condition) (rd : ℕ) (e : Expr) (o : ℕ) (i : ArmInstr) → own_offset k.context (value_of k.context e) ≡ Ok o
    → address_instruction condition rd (away_from k.context o) ≡ Ok i → ReadsAt k.view a i → AddressStands (lookup k) a condition rd e
address_stands k area at a ready x condition rd e o i v h s =
    let d = away_from k.context o in
    let m = moves condition rd d i (away_of_small k o) (immediate d) (immediate (negated d)) refl refl h in
    record {
      up = m.up;
      immediate = m.by;
      reads = subst (ReadsAt k.view a) (sym m.is) s;
      label = (k.base + o) % 2 ^ 32;
      means = own_stands k area at ready e o (value_of k.context e) refl v;
      gives = m.gives k.base at o a ready.small x (away_is k area at o ready);
    }

-- ---- ADRL

pub record TwoMoves (condition : Condition) (operation : Operation) (rd n : ℕ) (is : List ArmInstr) : Type 0 where
  pub first : ℕ × ℕ
  pub second : ℕ × ℕ
  pub gives_first : immediate_number first ≡ first_part n
  pub gives_second : immediate_number second ≡ second_part n
  pub are : adding condition operation 15 rd first ∷ adding condition operation rd rd second ∷ [] ≡ is

pub parts_small : (n f : ℕ) → n < 2 ^ 32 → f ≤ n → (f < 2 ^ 32) × (n - f < 2 ^ 32)
parts_small n f small h = (omega arith, omega arith)

pub two_moves : (condition : Condition) (operation : Operation) (rd n : ℕ) (is : List ArmInstr) → n < 2 ^ 32 → (p q : Option (ℕ × ℕ))
    → immediate (first_part n) ≡ p → immediate (second_part n) ≡ q → two_by condition operation rd p q ≡ Some is → TwoMoves condition operation rd n is
two_moves condition operation rd n is small (Some p) (Some q) x y h =
    let b = parts_small n (first_part n) small (first_within n) in
    record {
      first = p;
      second = q;
      gives_first = immediate_gives (first_part n) p b.0 x;
      gives_second = immediate_gives (second_part n) q b.1 y;
      are = cc;
    }
two_moves condition operation rd n is small (Some p) None x y h = absurd (cc)
two_moves condition operation rd n is small None q x y h = absurd (cc)

pub record LongMoves (condition : Condition) (rd d : ℕ) (is : List ArmInstr) : Type 0 where
  pub up : Bool
  pub first : ℕ × ℕ
  pub second : ℕ × ℕ
  pub are : adding condition (operation_of up) 15 rd first ∷ adding condition (operation_of up) rd rd second ∷ [] ≡ is
  pub gives : (x : ℕ) → moved up (moved up x (immediate_number first)) (immediate_number second) ≡ (x + d) % 2 ^ 32

pub negated_back : (x d : ℕ) → d < 2 ^ 32 → (x + (2 ^ 32 - negated d)) % 2 ^ 32 ≡ (x + d) % 2 ^ 32
negated_back x d small = omega (arith, small)

pub long_moves : (condition : Condition) (rd d : ℕ) (is : List ArmInstr) → d < 2 ^ 32 → (p q : Option (List ArmInstr))
    → two_of condition Add rd d ≡ p → two_of condition Sub rd (negated d) ≡ q → first_of p q ≡ Ok is → LongMoves condition rd d is
long_moves condition rd d is small (Some p) q x y h =
    let same : p ≡ is = cc in
    let t = two_moves condition Add rd d p small (immediate (first_part d)) (immediate (second_part d)) refl refl x in
    record {
      up = true;
      first = t.first;
      second = t.second;
      are = t.are ∙ same;
      gives = λ v. twice_up v d (first_part d) (immediate_number t.first) (immediate_number t.second) (first_within d) t.gives_first t.gives_second;
    }
long_moves condition rd d is small None (Some q) x y h =
    let same : q ≡ is = cc in
    let n = negated d in
    let t = two_moves condition Sub rd n q (negated_small d) (immediate (first_part n)) (immediate (second_part n)) refl refl y in
    record {
      up = false;
      first = t.first;
      second = t.second;
      are = t.are ∙ same;
      gives = λ v.
          twice_down v n (first_part n) (immediate_number t.first) (immediate_number t.second) (negated_small d) (first_within n) t.gives_first t.gives_second
          ∙ negated_back v d small;
    }
long_moves condition rd d is small None None x y h = absurd (cc)

pub four_on : (a base at : ℕ) → a ≡ base + at → a + 4 ≡ base + (at + 4)
four_on a base at e = omega (arith, e)

pub long_stands : (k : Setting) (area at a : ℕ) → Ready k area at → a ≡ k.base + at
    → (condition : Condition) (rd : ℕ) (e : Expr) (o : ℕ) (is : List ArmInstr) → own_offset k.context (value_of k.context e) ≡ Ok o
    → long_address condition rd (away_from k.context o) ≡ Ok is → AllShown k (units_from at (instruction_units is)) → LongStands (lookup k) a condition rd e
long_stands k area at a ready x condition rd e o is v h s =
    let d = away_from k.context o in
    let m = long_moves condition rd d is (away_of_small k o) (two_of condition Add rd d) (two_of condition Sub rd (negated d)) refl refl h in
    let i = adding condition (operation_of m.up) 15 rd m.first in
    let j = adding condition (operation_of m.up) rd rd m.second in
    let f = first_shown k at (Instruction i None) (Instruction j None ∷ []) (instruction_units is) (ap instruction_units m.are) s in
    let g = first_shown k (at + 4) (Instruction j None) [] (Instruction j None ∷ []) refl f.1 in
    record {
      up = m.up;
      first = m.first;
      second = m.second;
      reads_first = subst (λ z. ReadsAt k.view z i) (sym x) f.0;
      reads_second = subst (λ z. ReadsAt k.view z j) (sym (four_on a k.base at x)) g.0;
      label = (k.base + o) % 2 ^ 32;
      means = own_stands k area at ready e o (value_of k.context e) refl v;
      gives = m.gives (a + 8) ∙ ap (λ z. (a + 8 + z) % 2 ^ 32) (away_is k area at o ready) ∙ away_leads k.base at o a ready.small x;
    }

-- ---- LDR with a literal

-- the word of a literal holds its value
abbrev pub LiteralHolds : Setting → Expr → Option ℕ → Type 0
LiteralHolds k e None = Unit {0}
LiteralHolds k e (Some w) = WordStands (lookup k) (k.base + w) e

pub one_shown : (k : Setting) (at a : ℕ) (i : ArmInstr) (is : List ArmInstr) → a ≡ k.base + at → one i ≡ is → AllShown k (units_from at (instruction_units is))
    → ReadsAt k.view a i
one_shown k at a i is x h s =
    subst (λ z. ReadsAt k.view z i) (sym x) (first_shown k at (Instruction i None) [] (instruction_units is) (ap instruction_units h) s).0

abbrev pub PseudoHolds : Setting → Option ℕ → PseudoLine → Type 0
PseudoHolds k word (pseudo.LoadConstant condition rd e) = LiteralHolds k e word
PseudoHolds k word l = Unit {0}

pub pseudo_stands : (k : Setting) (area at a : ℕ) → Ready k area at → a ≡ k.base + at → (word : Option ℕ) (l : PseudoLine) (is : List ArmInstr)
    → pseudo_instructions k.context word l ≡ Ok is → AllShown k (units_from at (instruction_units is)) → PseudoHolds k word l
    → PseudoStands (lookup k) a (address_behind k.base word) l
pseudo_stands k area at a ready x None (pseudo.LoadConstant condition rd e) is h s holds =
    let f : ℕ → Result (List ArmInstr) LineKind = λ n. mapped one (data_immediate condition Mov false 0 (register k.context rd) n) in
    let t = then_ok f (number_in k.context e) is h in
    let m = mapped_ok one (data_immediate condition Mov false 0 (register k.context rd) t.from) is t.gives in
    record {
      number = t.from;
      means = number_stands (lookup k) e t.from ready.here t.is;
      instruction = m.from;
      says = m.is;
      reads = one_shown k at a m.from is x m.gives s;
    }
pseudo_stands k area at a ready x (Some w) (pseudo.LoadConstant condition rd e) is h s holds =
    let f : Bool × ℕ → List ArmInstr = λ o. one (instr.TransferImmediate condition true o.0 false false true 15 (register k.context rd) o.1) in
    let m = mapped_ok f (offset_below 4096 (away_from k.context w)) is h in
    record {
      up = m.from.0;
      offset = m.from.1;
      reads = one_shown k at a (instr.TransferImmediate condition true m.from.0 false false true 15 (register k.context rd) m.from.1) is x m.gives s;
      leads = distance_leads 4096 k.base at w a m.from ready.small x (ap (offset_below 4096) (sym (away_is k area at w ready)) ∙ m.is);
      holds = holds;
    }
pseudo_stands k area at a ready x word (pseudo.Address condition rd e) is h s holds =
    let f : ℕ → Result (List ArmInstr) LineKind = λ o. mapped one (address_instruction condition (register k.context rd) (away_from k.context o)) in
    let t = then_ok f (own_offset k.context (value_of k.context e)) is h in
    let m = mapped_ok one (address_instruction condition (register k.context rd) (away_from k.context t.from)) is t.gives in
    address_stands k area at a ready x condition (register k.context rd) e t.from m.from t.is m.is (one_shown k at a m.from is x m.gives s)
pseudo_stands k area at a ready x word (pseudo.LongAddress condition rd e) is h s holds =
    let f : ℕ → Result (List ArmInstr) LineKind = λ o. long_address condition (register k.context rd) (away_from k.context o) in
    let t = then_ok f (own_offset k.context (value_of k.context e)) is h in
    long_stands k area at a ready x condition (register k.context rd) e t.from is t.is t.gives s
pseudo_stands k area at a ready x word pseudo.NoOperation is h s holds =
    let i : ArmInstr = instr.DataShifted Al Mov false 0 0 0 Lsl 0 in
    let e : one i ≡ is = cc in
    one_shown k at a i is x e s
