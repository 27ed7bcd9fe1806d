-- Instructions: transfers with a label, branches, and all others.
use Rattle.std.proofs.Common.{◌≡◌, ℕ, ◌+◌, ◌-◌, ◌*◌, ◌/◌, ◌%◌, ◌^◌, ◌<◌, ◌≤◌, ◌==◌, ◌||◌, ◌&&◌, nat_lt, nat_le, List, [], ◌∷◌, Bool, true, false, cond, refl, sym, ◌∙◌, ap, subst, arith, Option, Some, None, inl}
use Rattle.std.specs.Prelude.{Result, Ok, Err}
use Rattle.std.proofs.lemmas.Bool.{ltb-true, leb-true, eqb-true}
use Rattle.sdt_fault.specs.declared.kinds.LineKind.{LineKind}
use Rattle.sdt_fault.specs.declared.kinds.LineKind.TheVariants.{OutOfRange, BadOperand}
use Rattle.sdt_word.specs.Numbers.{sign_extended}
use Rattle.sdt_word.specs.declared.codes.Condition.{Condition}
use Rattle.arm_isa.specs.declared.instr.ArmInstr.{ArmInstr}
use Rattle.arm_isa.specs.declared.instr.ArmInstr.TheVariants as instr
use Rattle.asm_model.specs.declared.arm_lines.ArmLine.{ArmLine}
use Rattle.asm_model.specs.declared.arm_lines.ArmLine.TheVariants as arm
use Rattle.asm_model.specs.declared.exprs.Expr.{Expr}
use Rattle.asm_model.specs.declared.operands.Address.TheVariants as address
use Rattle.asm_model.specs.declared.operands.Register.{Register}
use Rattle.asm_model.specs.declared.values.Value.{Value}
use Rattle.asm_model.specs.declared.values.Value.TheVariants.{Number, Truth, Words, Place}
use Rattle.asm_model.specs.Meaning.{named_in, in_area, stands_at}
use Rattle.asm_model.specs.Forms.{same}
use Rattle.asm_model.specs.Placing.{address_at, address_of, HaveSymbols}
use Rattle.asm_model.specs.Readings.{mapped}
use Rattle.asm_model.specs.Symbols.{is_in_area, keeps_state}
use Rattle.patch_model.specs.Fields.{Meant}
use Rattle.patch_model.specs.Laws.{state_of}
use Rattle.patch_model.specs.Reaches.{Reaches}
use Rattle.source_model.specs.Contexts.{sees, value_of, register, in_own_area, own_offset, offset_below, from_pc as away_from}
use Rattle.source_model.specs.ArmForms.{arm_instruction, branch_field, is_settled, offset_at, branch_from, has_symbol, branch_displacement}
use Rattle.source_model.specs.Units.{Instruction, linked_symbol, branch_symbol}
use Rattle.stand_model.specs.Shown.{meant_by, LinkedBranch}
use Rattle.stand_model.specs.Stands.{IsNumber, ReadsAt, TransferStands, BranchStands, InstructionStands, ArmStands, target_state}
use Rattle.stand_laws.proofs.FieldLemmas.{away, away_leads, distance_leads, field_spans, field_spans_back}
use Rattle.stand_laws.proofs.ResultLemmas.{then_ok, mapped_ok}
use Rattle.stand_laws.proofs.ValueLemmas.{Setting, lookup, Shown, value_stands}

-- what is known of a statement that stands at an offset behind the base
pub record Ready (k : Setting) (area at : ℕ) : Type 0 where
  pub here : HaveSymbols (sees k.context)
  pub based : k.values.base area ≡ k.base
  pub own : k.context.line.area ≡ Some area
  pub starts : k.context.line.offset ≡ at
  pub small : at + 8 ≤ 2 ^ 32
  pub whole : k.base % 4 ≡ 0

-- ---- labels of the statement's own area

pub in_own_is : (x : Option ℕ) (a : Option (ℕ × ℕ)) (area n o : ℕ) → x ≡ Some area → in_own_area x a n ≡ Ok o
    → (b : ℕ) × (a ≡ Some (area, b)) × ((b + n) % 2 ^ 32 ≡ o)
in_own_is None a area n o x h = absurd (cc)
in_own_is (Some y) None area n o x h = absurd (cc)
in_own_is (Some y) (Some a) area n o x h = by_test (a.0 == y) refl h
  where
    by_test : (t : Bool) → (a.0 == y) ≡ t → cond t (Ok ((a.1 + n) % 2 ^ 32)) (Err BadOperand) ≡ Ok o → (b : ℕ) × (Some a ≡ Some (area, b))
        × ((b + n) % 2 ^ 32 ≡ o)
    by_test true s k =
        let same : y ≡ area = cc in
        (a.1, ap (λ z. Some (z, a.1)) (eqb-true a.0 y s ∙ same), cc)
    by_test false s k = absurd (cc)

pub sum_in_area : (base b n o x : ℕ) → x ≡ base → (b + n) % 2 ^ 32 ≡ o → (x + b + n) % 2 ^ 32 ≡ (base + o) % 2 ^ 32
sum_in_area base b n o x e h = omega (arith, e, h)

pub own_stands : (k : Setting) (area at : ℕ) → Ready k area at → (e : Expr) (o : ℕ) (r : Result Value LineKind) → value_of k.context e ≡ r
    → own_offset k.context r ≡ Ok o → IsNumber (lookup k) e ((k.base + o) % 2 ^ 32)
own_stands k area at ready e o (Ok (Place q n)) x h =
    let b = in_own_is k.context.line.area (stands_at (sees k.context) q) area n o ready.own h in
    value_stands (lookup k) e (Place q n) ready.here x
    ∙ ap (λ z. Ok (placed z)) b.1
    ∙ ap (λ z. Ok (Number z)) (sum_in_area k.base b.0 n o (k.values.base area) ready.based b.2)
  where
    placed : Option (ℕ × ℕ) → Value
    placed a = Number ((address_at (lookup k).placing q a + n) % 2 ^ 32)
own_stands k area at ready e o (Ok (Number n)) x h = absurd (cc)
own_stands k area at ready e o (Ok (Truth b)) x h = absurd (cc)
own_stands k area at ready e o (Ok (Words b)) x h = absurd (cc)
own_stands k area at ready e o (Err j) x h = absurd (cc)

pub away_is : (k : Setting) (area at o : ℕ) → Ready k area at → away_from k.context o ≡ away at o
away_is k area at o ready = ap (λ z. away z o) ready.starts

-- ---- transfers

pub transfer_stands : (k : Setting) (area at a : ℕ) → Ready k area at → a ≡ k.base + at
    → (condition : Condition) (load byte : Bool) (rd : Register) (e : Expr) (i : ArmInstr)
    → arm_instruction k.context (arm.TransferImmediate condition load byte rd (address.Label e)) ≡ Ok i → ReadsAt k.view a i
    → TransferStands (lookup k) a condition load byte (register k.context rd) e
transfer_stands k area at a ready x condition load byte rd e i h s =
    let f = λ (o : Bool × ℕ). instr.TransferImmediate condition true o.0 byte false load 15 (register k.context rd) o.1 in
    let t = then_ok (λ o. mapped f (offset_below 4096 (away_from k.context o))) (own_offset k.context (value_of k.context e)) i h in
    let m = mapped_ok f (offset_below 4096 (away_from k.context t.from)) i t.gives in
    record {
      up = m.from.0;
      offset = m.from.1;
      reads = subst (ReadsAt k.view a) (sym m.gives) s;
      label = (k.base + t.from) % 2 ^ 32;
      means = own_stands k area at ready e t.from (value_of k.context e) refl t.is;
      leads = distance_leads 4096 k.base at t.from a m.from ready.small x (ap (offset_below 4096) (sym (away_is k area at t.from ready)) ∙ m.is);
    }

-- ---- branches

-- a displacement that a field holds
pub record Spans (d f : ℕ) : Type 0 where
  pub spans : (x : ℕ) → (x + sign_extended f 24 * 4) % 2 ^ 32 ≡ (x + d) % 2 ^ 32

pub field_is : (d f : ℕ) → d < 2 ^ 32 → branch_field d ≡ Ok f → Spans d f
field_is d f small h = by_whole (d % 4 == 0) refl h
  where
    held : d % 4 ≡ 0 → (b c : Bool) → nat_lt d (2 ^ 25) ≡ b → nat_le (2 ^ 32 - 2 ^ 25) d ≡ c → (b || c) ≡ true
        → (x : ℕ) → (x + sign_extended (d / 4 % 2 ^ 24) 24 * 4) % 2 ^ 32 ≡ (x + d) % 2 ^ 32
    held whole true c s t or = field_spans d whole (ltb-true d (2 ^ 25) s)
    held whole false true s t or = field_spans_back d whole small (leb-true (2 ^ 32 - 2 ^ 25) d t)
    held whole false false s t or = absurd (cc)

    by_range : d % 4 ≡ 0 → (b : Bool) → (nat_lt d (2 ^ 25) || nat_le (2 ^ 32 - 2 ^ 25) d) ≡ b → cond b (Ok (d / 4 % 2 ^ 24)) (Err OutOfRange) ≡ Ok f → Spans d f
    by_range whole true s k =
        let same : d / 4 % 2 ^ 24 ≡ f = cc in
        record {
          spans = subst (λ z. (x : ℕ) → (x + sign_extended z 24 * 4) % 2 ^ 32 ≡ (x + d) % 2 ^ 32) same
              (held whole (nat_lt d (2 ^ 25)) (nat_le (2 ^ 32 - 2 ^ 25) d) refl refl s);
        }
    by_range whole false s k = absurd (cc)

    by_whole : (t : Bool) → (d % 4 == 0) ≡ t
        → cond t (cond (nat_lt d (2 ^ 25) || nat_le (2 ^ 32 - 2 ^ 25) d) (Ok (d / 4 % 2 ^ 24)) (Err OutOfRange)) (Err BadOperand) ≡ Ok f → Spans d f
    by_whole true s k = by_range (eqb-true (d % 4) 0 s) (nat_lt d (2 ^ 25) || nat_le (2 ^ 32 - 2 ^ 25) d) refl k
    by_whole false s k = absurd (cc)

pub direct_leads : (base at o a d f target : ℕ) → at + 8 ≤ 2 ^ 32 → a ≡ base + at → d ≡ away at o → Spans d f → (base + o) % 2 ^ 32 ≡ target
    → (a + 8 + sign_extended f 24 * 4) % 2 ^ 32 ≡ target % 2 ^ 32
direct_leads base at o a d f target small e h s t =
    s.spans (a + 8) ∙ ap (λ z. (a + 8 + z) % 2 ^ 32) h ∙ away_leads base at o a small e ∙ omega (arith, t)

pub linked_leads : (at d f n m address : ℕ) → at + 8 ≤ 2 ^ 32 → d ≡ away at n → Spans d f → address % 2 ^ 32 ≡ m % 2 ^ 32
    → (at + 8 + sign_extended f 24 * 4 + m) % 2 ^ 32 ≡ (address + n) % 2 ^ 32
linked_leads at d f n m address small h s same =
    let y : (at + 8 + sign_extended f 24 * 4) % 2 ^ 32 ≡ (at + 8 + d) % 2 ^ 32 = s.spans (at + 8) in
    shifted (at + 8 + sign_extended f 24 * 4) (at + 8 + d) m y ∙ rest
  where
    shifted : (x y m : ℕ) → x % 2 ^ 32 ≡ y % 2 ^ 32 → (x + m) % 2 ^ 32 ≡ (y + m) % 2 ^ 32
    shifted x y m e = omega (arith, e)

    rest : (at + 8 + d + m) % 2 ^ 32 ≡ (address + n) % 2 ^ 32
    rest = omega (arith, small, h, same)

-- the symbol of a branch that is left to the linker has its address
abbrev pub SymbolMeets : Setting → Result Value LineKind → Type 0
SymbolMeets k r =
    (x : ℕ) (xs : List ℕ) → linked_symbol k.context r ≡ Some (x ∷ xs)
    → address_of (lookup k).placing (sees k.context) (x ∷ xs) % 2 ^ 32 ≡ (meant_by k.source k.values (x ∷ xs)).number % 2 ^ 32

-- the state in which a branch reaches its target
abbrev pub state_for : Setting → Expr → Bool
state_for k e = target_state false (lookup k) (value_of k.context e)

pub away_small : (at o d : ℕ) → d ≡ away at o → d < 2 ^ 32
away_small at o d h = omega (arith, h)

pub direct : (k : Setting) (area at a : ℕ) → Ready k area at → a ≡ k.base + at → (condition : Condition) (link : Bool) (e : Expr) (d f o target : ℕ)
    → d ≡ away at o → branch_field d ≡ Ok f → ReadsAt k.view a (instr.Branch condition link f) → IsNumber (lookup k) e target → (k.base + o) % 2 ^ 32 ≡ target
    → state_for k e ≡ false → BranchStands (lookup k) a condition link e
direct k area at a ready x condition link e d f o target h field s means t state = record {
  field = f;
  reads = s;
  target = target;
  means = means;
  reaches = subst (λ z. Reaches k.view k.region false a target z) (sym state)
      (inl (
        record {
          condition = condition;
          link = link;
          field = f;
          word = s.word;
          shows = s.shows;
          reads = s.reads;
          leads = direct_leads k.base at o a d f target ready.small x h (field_is d f (away_small at o d h) field) t;
        },
        refl,
      ));
}

pub settled_in : (x : Option ℕ) (a : Option (ℕ × ℕ)) (area : ℕ) (t : Bool) → x ≡ Some area → (is_in_area x a && t) ≡ true → (b : ℕ) × (a ≡ Some (area, b))
settled_in None a area t x h = absurd (cc)
settled_in (Some y) None area t x h = absurd (cc)
settled_in (Some y) (Some a) area t x h = by_test (a.0 == y) refl h
  where
    by_test : (c : Bool) → (a.0 == y) ≡ c → (c && t) ≡ true → (b : ℕ) × (Some a ≡ Some (area, b))
    by_test true s k = let same : y ≡ area = cc in (a.1, ap (λ z. Some (z, a.1)) (eqb-true a.0 y s ∙ same))
    by_test false s k = absurd (cc)

pub area_sum : (base b n x : ℕ) → x ≡ base → (base + (b + n)) % 2 ^ 32 ≡ (x + b + n) % 2 ^ 32
area_sum base b n x e = omega (arith, e)

pub start_sum : (base n x : ℕ) → x ≡ base → (base + n) % 2 ^ 32 ≡ (x + 0 + n) % 2 ^ 32
start_sum base n x e = omega (arith, e)

pub displaced : (t : Bool) (x d : ℕ) → cond t (Ok x) (Err BadOperand) ≡ Ok d → d ≡ x
displaced true x d h = cc
displaced false x d h = absurd (cc)

-- a branch to a symbol
pub to_symbol : (k : Setting) (area at a : ℕ) → Ready k area at → a ≡ k.base + at
    → (condition : Condition) (link : Bool) (e : Expr) (y : ℕ) (ys : List ℕ) (n d f : ℕ)
    → value_of k.context e ≡ Ok (Place (y ∷ ys) n) → d ≡ branch_from k.context (y ∷ ys) n → branch_field d ≡ Ok f
    → Shown k (at, Instruction (instr.Branch condition link f) (linked_symbol k.context (Ok (Place (y ∷ ys) n)))) → SymbolMeets k (Ok (Place (y ∷ ys) n))
    → BranchStands (lookup k) a condition link e
to_symbol k area at a ready x condition link e y ys n d f v h field s meets =
    by_test (is_settled k.context (y ∷ ys)) refl h s (meets y ys) (ap (target_state false (lookup k)) v)
  where
    q : List ℕ
    q = y ∷ ys

    m : Meant
    m = meant_by k.source k.values q

    left : d ≡ away_from k.context n → Shown k (at, Instruction (instr.Branch condition link f) (Some q))
        → address_of (lookup k).placing (sees k.context) q % 2 ^ 32 ≡ m.number % 2 ^ 32
        → state_for k e ≡ state_of false m m.home → BranchStands (lookup k) a condition link e
    left g b meet state =
        let l : LinkedBranch k.view k.region (k.base + at) at condition link f m = b in
        let address : ℕ = address_of (lookup k).placing (sees k.context) q in
        let there = g ∙ away_is k area at n ready in
        record {
          field = l.field;
          reads = subst (λ z. ReadsAt k.view z (instr.Branch condition link l.field)) (sym x) l.reads;
          target = (address + n) % 2 ^ 32;
          means = value_stands (lookup k) e (Place q n) ready.here v;
          reaches = subst (λ z. Reaches k.view k.region false z ((address + n) % 2 ^ 32) (state_for k e)) (sym x)
              (subst (λ z. Reaches k.view k.region false (k.base + at) ((address + n) % 2 ^ 32) z) (sym state)
              (subst (λ z. Reaches k.view k.region false (k.base + at) z (state_of false m m.home))
              (linked_leads at d f n m.number address ready.small there (field_is d f (away_small at n d there) field) meet) l.reaches));
        }

    by_test : (t : Bool) → is_settled k.context q ≡ t
        → d ≡ away_from k.context (cond t (offset_at (stands_at (sees k.context) q) + n) n)
        → Shown k (at, Instruction (instr.Branch condition link f) (cond t None (Some q)))
        → (cond t None (Some q) ≡ Some q → address_of (lookup k).placing (sees k.context) q % 2 ^ 32 ≡ m.number % 2 ^ 32)
        → state_for k e ≡ cond t false (state_of false m m.home) → BranchStands (lookup k) a condition link e
    by_test true t g b meet state =
        let p = settled_in k.context.line.area (stands_at (sees k.context) q) area (keeps_state k.context.line.thumb (named_in q (sees k.context).list))
        ready.own t in
        let o : ℕ = p.0 + n in
        direct k area at a ready x condition link e d f o ((k.values.base area + p.0 + n) % 2 ^ 32)
        (g ∙ ap (λ z. away_from k.context (offset_at z + n)) p.1 ∙ away_is k area at o ready) field
        (subst (λ z. ReadsAt k.view z (instr.Branch condition link f)) (sym x) b)
        (value_stands (lookup k) e (Place q n) ready.here v ∙ ap (λ z. Ok (Number ((address_at (lookup k).placing q z + n) % 2 ^ 32))) p.1)
        (area_sum k.base p.0 n (k.values.base area) ready.based) state
    by_test false t g b meet state = left g b (meet refl) state

pub branch_of : (k : Setting) (area at a : ℕ) → Ready k area at → a ≡ k.base + at
    → (condition : Condition) (link : Bool) (e : Expr) (r : Result Value LineKind) (d f : ℕ)
    → value_of k.context e ≡ r → branch_displacement k.context r ≡ Ok d → branch_field d ≡ Ok f
    → Shown k (at, Instruction (instr.Branch condition link f) (linked_symbol k.context r)) → SymbolMeets k r
    → BranchStands (lookup k) a condition link e
branch_of k area at a ready x condition link e (Ok (Place [] n)) d f v h field s meets =
    direct k area at a ready x condition link e d f n ((k.values.base area + 0 + n) % 2 ^ 32)
    (displaced true (away_from k.context n) d h ∙ away_is k area at n ready) field
    (subst (λ z. ReadsAt k.view z (instr.Branch condition link f)) (sym x) s)
    (value_stands (lookup k) e (Place [] n) ready.here v ∙ ap (λ z. Ok (Number ((address_at (lookup k).placing [] (in_area z 0) + n) % 2 ^ 32))) ready.own)
    (start_sum k.base n (k.values.base area) ready.based) (ap (target_state false (lookup k)) v)
branch_of k area at a ready x condition link e (Ok (Place (y ∷ ys) n)) d f v h field s meets =
    to_symbol k area at a ready x condition link e y ys n d f v
    (displaced (has_symbol k.context (y ∷ ys)) (branch_from k.context (y ∷ ys) n) d h) field s meets
branch_of k area at a ready x condition link e (Ok (Number n)) d f v h field s meets = absurd (cc)
branch_of k area at a ready x condition link e (Ok (Truth b)) d f v h field s meets = absurd (cc)
branch_of k area at a ready x condition link e (Ok (Words b)) d f v h field s meets = absurd (cc)
branch_of k area at a ready x condition link e (Err j) d f v h field s meets = absurd (cc)

pub branch_stands : (k : Setting) (area at a : ℕ) → Ready k area at → a ≡ k.base + at
    → (condition : Condition) (link : Bool) (e : Expr) (i : ArmInstr)
    → arm_instruction k.context (arm.Branch condition link e) ≡ Ok i → Shown k (at, Instruction i (linked_symbol k.context (value_of k.context e)))
    → SymbolMeets k (value_of k.context e) → BranchStands (lookup k) a condition link e
branch_stands k area at a ready x condition link e i h s meets =
    let f : ℕ → ArmInstr = λ f. instr.Branch condition link f in
    let t = then_ok (λ d. mapped f (branch_field d)) (branch_displacement k.context (value_of k.context e)) i h in
    let m = mapped_ok f (branch_field t.from) i t.gives in
    branch_of k area at a ready x condition link e (value_of k.context e) t.from m.from refl t.is m.is
    (subst (λ z. Shown k (at, Instruction z (linked_symbol k.context (value_of k.context e)))) (sym m.gives) s) meets

-- ---- all lines

pub plain_stands : (k : Setting) (at a : ℕ) → a ≡ k.base + at → (l : ArmLine) (i : ArmInstr) → arm_instruction k.context l ≡ Ok i
    → Shown k (at, Instruction i None)
    → InstructionStands (lookup k) a l
plain_stands k at a x l i h s = record { instruction = i; says = h; reads = subst (λ z. ReadsAt k.view z i) (sym x) s }

abbrev pub BranchMeets : Setting → ArmLine → Type 0
BranchMeets k (arm.Branch condition link e) = SymbolMeets k (value_of k.context e)
BranchMeets k l = Unit {0}

pub arm_stands : (k : Setting) (area at a : ℕ) → Ready k area at → a ≡ k.base + at → (l : ArmLine) (i : ArmInstr) → arm_instruction k.context l ≡ Ok i
    → Shown k (at, Instruction i (branch_symbol k.context l)) → BranchMeets k l → ArmStands (lookup k) a l
arm_stands k area at a ready x (arm.Branch condition link e) i h s meets = branch_stands k area at a ready x condition link e i h s meets
arm_stands k area at a ready x (arm.TransferImmediate condition load byte rd (address.Label e)) i h s meets =
    transfer_stands k area at a ready x condition load byte rd e i h (subst (λ z. ReadsAt k.view z i) (sym x) s)
arm_stands k area at a ready x l i h s meets = plain_stands k at a x l i h s
