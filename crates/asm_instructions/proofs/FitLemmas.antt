-- What lines say fits the rows of the instruction table.
use Rattle.std.proofs.Common.{◌≡◌, ℕ, zero, suc, ◌+◌, ◌-◌, ◌*◌, ◌/◌, ◌%◌, ◌^◌, ◌<◌, ◌≤◌, ◌==◌, ◌&&◌, ◌||◌, List, [], ◌∷◌, Bool, true, false, cond, Option, Some, None, refl, sym, ap, subst, arith, add-zero}
use Rattle.std.specs.Prelude.{nat_lt, nat_le, Result, Ok, Err, not}
use Rattle.std.proofs.lemmas.Bool.{ltb-true, leb-true}
use Rattle.sdt_word.specs.Codes.{condition_code, shift_code}
use Rattle.sdt_word.specs.Numbers.{flag}
use Rattle.sdt_word.specs.declared.codes.Condition.{Condition}
use Rattle.sdt_word.specs.declared.codes.Condition.TheVariants as condition
use Rattle.sdt_word.specs.declared.codes.ShiftKind.{ShiftKind}
use Rattle.sdt_word.specs.declared.codes.ShiftKind.TheVariants.{Lsl, Lsr, Asr, Ror}
use Rattle.sdt_fault.specs.declared.kinds.LineKind.{LineKind}
use Rattle.sdt_fault.specs.declared.kinds.LineKind.TheVariants.{BadOperand, OutOfRange, Constant}
use Rattle.arm_isa.specs.declared.instr.ArmInstr.{ArmInstr}
use Rattle.arm_isa.specs.declared.instr.ArmInstr.TheVariants as instr
use Rattle.arm_isa.specs.declared.instr.HalfKind.{HalfKind}
use Rattle.arm_isa.specs.declared.instr.HalfKind.TheVariants.{Half, SignedByte, SignedHalf}
use Rattle.arm_isa.specs.declared.instr.Operation.{Operation}
use Rattle.arm_isa.specs.declared.instr.Operation.TheVariants.{And, Sub, Add, Tst, Teq, Cmp, Cmn, Orr, Mov, Bic, Mvn}
use Rattle.arm_isa.specs.Codes.{half_code, operation_code}
use Rattle.arm_isa.specs.ArmRows.{FitsOperation}
use Rattle.asm_model.specs.declared.operands.Address.TheVariants as address
use Rattle.asm_model.specs.declared.operands.HalfOffset.TheVariants as half
use Rattle.asm_model.specs.declared.operands.Indexing.{Indexing}
use Rattle.asm_model.specs.declared.operands.Indexing.TheVariants as indexing
use Rattle.asm_model.specs.declared.operands.ListItem.{ListItem}
use Rattle.asm_model.specs.declared.operands.StatusFields.{StatusFields}
use Rattle.asm_model.specs.declared.operands.Register.{Register}
use Rattle.asm_model.specs.declared.operands.Register.TheVariants as reg
use Rattle.asm_model.specs.declared.operands.Shift.{Shift}
use Rattle.asm_model.specs.declared.operands.Shift.TheVariants as shift
use Rattle.asm_model.specs.declared.arm_lines.ArmLine.{ArmLine}
use Rattle.asm_model.specs.declared.arm_lines.ArmLine.TheVariants as arm
use Rattle.asm_model.specs.declared.statements.PseudoLine.{PseudoLine}
use Rattle.asm_model.specs.declared.statements.PseudoLine.TheVariants as pseudo
use Rattle.asm_model.specs.Readings.{and_then, mapped}
use Rattle.asm_model.specs.Said.{RegisterSaid, OperationSaid, FactorSaid, HalfSaid, IsUntranslated, FieldsSaid, ArmSaid, PseudoSaid}
use Rattle.source_model.specs.Contexts.{Context, value_of, number_in, or_zero, register, magnitude, is_positive, offset_below, own_offset, from_pc}
use Rattle.source_model.specs.Registers.{register_in}
use Rattle.source_model.specs.Immediates.{rotations, turned_back, immediate_among, immediate, negated, twin, with_immediate, twin_instruction, data_immediate, status_of}
use Rattle.source_model.specs.ArmForms.{amount_field, shift_fields, is_before, writes_back, is_listed_by, list_bits, is_saved, are_saved, mask_of, is_block_before, is_block_up, branch_field, branch_displacement, arm_instruction}
use Rattle.source_model.specs.PseudoForms.{adding, address_by, address_instruction, first_part, second_part, two_by, two_of, first_of, long_address, one, pseudo_instructions}
use Rattle.std.specs.List.{list_any}
use Rattle.asm_instructions.specs.Fits.{NamesRegisters, Fits, AllFit}
use Rattle.base_lemmas.proofs.BaseLemmas.{second_of_both as both_true}

-- ---- what holds of a result

abbrev pub Holds : {A : Type 0} → (A → Type 0) → Result A LineKind → Type 0
Holds P (Ok a) = P a
Holds P (Err k) = Unit {0}

abbrev HoldsIn : {A : Type 0} → (A → Type 0) → Option A → Type 0
HoldsIn P None = Unit {0}
HoldsIn P (Some a) = P a

pub mapped_holds : {A B : Type 0} → (P : A → Type 0) (Q : B → Type 0) (f : A → B) (r : Result A LineKind) → Holds P r → ((a : A) → P a → Q (f a))
    → Holds Q (mapped f r)
mapped_holds P Q f (Ok a) h q = q a h
mapped_holds P Q f (Err k) h q = tt

pub then_holds : {A B : Type 0} → (Q : B → Type 0) (f : A → Result B LineKind) (r : Result A LineKind) → ((a : A) → Holds Q (f a)) → Holds Q (and_then r f)
then_holds Q f (Ok a) h = h a
then_holds Q f (Err k) h = tt

pub where_holds : {A : Type 0} → (P : A → Type 0) (b : Bool) (x y : Result A LineKind) → (b ≡ true → Holds P x) → Holds P y → Holds P (cond b x y)
where_holds P true x y h k = h refl
where_holds P false x y h k = k

pub condition_below : (c : Condition) → condition_code c < 2 ^ 4
condition_below condition.Eq = omega arith
condition_below _ = omega arith

operation_below : (o : Operation) → operation_code o < 2 ^ 4
operation_below And = omega arith
operation_below _ = omega arith

shift_below : (k : ShiftKind) → shift_code k < 2 ^ 2
shift_below Lsl = omega arith
shift_below _ = omega arith

half_below : (k : HalfKind) → half_code k < 2 ^ 2
half_below Half = omega arith
half_below _ = omega arith

half_positive : (k : HalfKind) → half_code k ≡ 0 → ⊥
half_positive Half e = omega arith
half_positive _ e = omega arith

pub flag_below : (b : Bool) → flag b < 2 ^ 1
flag_below true = omega arith
flag_below false = omega arith

-- ---- operations

as_comparison : (o s n d : ℕ) → o < 12 → s ≡ 1 → d ≡ 0 → FitsOperation o s n d
as_comparison o s n d low h k = record {
  sets_flags = λ e. h;
  no_rd = λ e. k;
  no_rn_mov = λ e. absurd (omega arith);
  no_rn_mvn = λ e. absurd (omega arith);
}

as_move : (o s n d : ℕ) → 12 < o → n ≡ 0 → FitsOperation o s n d
as_move o s n d high h = record {
  sets_flags = λ e. absurd (omega arith);
  no_rd = λ e. absurd (omega arith);
  no_rn_mov = λ e. h;
  no_rn_mvn = λ e. h;
}

as_other : (o s n d : ℕ) → (o / 4 ≡ 2 → ⊥) → (o ≡ 13 → ⊥) → (o ≡ 15 → ⊥) → FitsOperation o s n d
as_other o s n d a b c = record {
  sets_flags = λ e. absurd (a e);
  no_rd = λ e. absurd (a e);
  no_rn_mov = λ e. absurd (b e);
  no_rn_mvn = λ e. absurd (c e);
}

plain : (o s n d : ℕ) → o < 8 → FitsOperation o s n d
plain o s n d low = as_other o s n d (λ e. omega arith) (λ e. omega arith) (λ e. omega arith)

twin_fits : (o : Operation) (s n d number : ℕ) → FitsOperation (operation_code o) s n d
    → HoldsIn (λ t. FitsOperation (operation_code t.0) s n d) (twin o number)
twin_fits Mov s n d number h = as_move 15 s n d (omega arith) (h.no_rn_mov refl)
twin_fits Mvn s n d number h = as_move 13 s n d (omega arith) (h.no_rn_mvn refl)
twin_fits And s n d number h = as_other 14 s n d (λ e. omega arith) (λ e. omega arith) (λ e. omega arith)
twin_fits Bic s n d number h = plain 0 s n d (omega arith)
twin_fits Add s n d number h = plain 2 s n d (omega arith)
twin_fits Sub s n d number h = plain 4 s n d (omega arith)
twin_fits Cmp s n d number h = as_comparison 11 s n d (omega arith) (h.sets_flags refl) (h.no_rd refl)
twin_fits Cmn s n d number h = as_comparison 10 s n d (omega arith) (h.sets_flags refl) (h.no_rd refl)
twin_fits _ s n d number h = tt

-- ---- immediate operands

abbrev IsOperand : ℕ × ℕ → Type 0
IsOperand i = (i.0 < 2 ^ 4) × (i.1 < 2 ^ 8)

abbrev AllBelow : ℕ → List ℕ → Type 0
AllBelow limit [] = Unit {0}
AllBelow limit (r ∷ rs) = (r < limit) × AllBelow limit rs

among_fits : (rs : List ℕ) (n : ℕ) → AllBelow 16 rs → HoldsIn IsOperand (immediate_among rs n)
among_fits [] n h = tt
among_fits (r ∷ rs) n h = by_test (nat_lt (turned_back n r) 256) refl (among_fits rs n h.1)
  where
    by_test : (b : Bool) → nat_lt (turned_back n r) 256 ≡ b → HoldsIn IsOperand (immediate_among rs n)
        → HoldsIn IsOperand (cond b (Some (r, turned_back n r)) (immediate_among rs n))
    by_test true e rest = (h.0, ltb-true (turned_back n r) 256 e)
    by_test false e rest = rest

immediate_fits : (n : ℕ) → HoldsIn IsOperand (immediate n)
unfolding immediate
immediate_fits n =
    among_fits rotations n (
      omega arith,
      (
        omega arith,
        (
          omega arith,
          (
            omega arith,
            (
              omega arith,
              (
                omega arith,
                (
                  omega arith,
                  (
                    omega arith,
                    (
                      omega arith,
                      (
                        omega arith,
                        (
                          omega arith,
                          (omega arith, (omega arith, (omega arith, (omega arith, (omega arith, tt))))),
                        ),
                      ),
                    ),
                  ),
                ),
              ),
            ),
          ),
        ),
      ),
    )

number_fits : (k : Condition) (o : Operation) (s : Bool) (n d : ℕ) (i : ℕ × ℕ) → n < 2 ^ 4 → d < 2 ^ 4 → IsOperand i
    → FitsOperation (operation_code o) (flag s) n d
    → Fits (instr.DataImmediate k o s n d i.0 i.1)
number_fits k o s n d i first to operand operation =
    record { fields = (condition_below k, (operation_below o, (flag_below s, (first, (to, (operand.0, (operand.1, tt))))))); conditions = operation }

with_fits : (k : Condition) (o : Operation) (s : Bool) (n d : ℕ) (i : Option (ℕ × ℕ)) (other : Result ArmInstr LineKind) → n < 2 ^ 4 → d < 2 ^ 4
    → HoldsIn IsOperand i
    → FitsOperation (operation_code o) (flag s) n d → Holds Fits other → Holds Fits (with_immediate k o s n d i other)
with_fits k o s n d None other first to operand operation rest = rest
with_fits k o s n d (Some i) other first to operand operation rest = number_fits k o s n d i first to operand operation

twin_said : (k : Condition) (s : Bool) (n d : ℕ) (t : Option (Operation × ℕ)) → n < 2 ^ 4 → d < 2 ^ 4
    → HoldsIn (λ u. FitsOperation (operation_code u.0) (flag s) n d) t → Holds Fits (twin_instruction k s n d t)
twin_said k s n d None first to h = tt
twin_said k s n d (Some t) first to h = with_fits k t.0 s n d (immediate t.1) (Err Constant) first to (immediate_fits t.1) h tt

data_fits : (k : Condition) (o : Operation) (s : Bool) (n d number : ℕ) → n < 2 ^ 4 → d < 2 ^ 4 → FitsOperation (operation_code o) (flag s) n d
    → Holds Fits (data_immediate k o s n d number)
unfolding data_immediate
data_fits k o s n d number first to h =
    with_fits k o s n d (immediate number) (twin_instruction k s n d (twin o number)) first to (immediate_fits number) h
    (twin_said k s n d (twin o number) first to (twin_fits o (flag s) n d number h))

mask_fits : (fields : Option StatusFields) → FieldsSaid fields → mask_of fields < 2 ^ 4
mask_fits None h = omega arith
mask_fits (Some f) h = h.1

status_fits : (k : Condition) (saved : Bool) (fields : ℕ) (i : Option (ℕ × ℕ)) → fields < 2 ^ 4 → HoldsIn IsOperand i → Holds Fits (status_of k saved fields i)
status_fits k saved fields None low h = tt
status_fits k saved fields (Some i) low h =
    record { fields = (condition_below k, (flag_below saved, (low, (h.0, (h.1, tt))))); conditions = tt }

-- ---- shifts and offsets

pub amount_fits : (kind : ShiftKind) (n : ℕ) → Holds (λ a. a < 2 ^ 5) (amount_field kind n)
amount_fits Lsl n = where_holds (λ a. a < 2 ^ 5) (nat_lt n 32) (Ok n) (Err OutOfRange) (λ t. ltb-true n 32 t) tt
amount_fits Lsr n = where_holds (λ a. a < 2 ^ 5) (nat_le 1 n && nat_le n 32) (Ok (n % 32)) (Err OutOfRange) (λ t. omega arith) tt
amount_fits Asr n = where_holds (λ a. a < 2 ^ 5) (nat_le 1 n && nat_le n 32) (Ok (n % 32)) (Err OutOfRange) (λ t. omega arith) tt
amount_fits Ror n =
    where_holds (λ a. a < 2 ^ 5) (nat_le 1 n && nat_le n 31) (Ok n) (Err OutOfRange)
    (λ t. let low : n ≤ 31 = leb-true n 31 (both_true (nat_le 1 n) (nat_le n 31) t) in omega arith) tt

offset_fits : (limit n : ℕ) → Holds (λ o. o.1 < limit) (offset_below limit n)
offset_fits limit n =
    where_holds (λ o. o.1 < limit) (nat_lt (magnitude n) limit) (Ok (is_positive n, magnitude n)) (Err OutOfRange) (λ t. ltb-true (magnitude n) limit t) tt

field_fits : (d : ℕ) → Holds (λ f. f < 2 ^ 24) (branch_field d)
field_fits d =
    where_holds (λ f. f < 2 ^ 24) (d % 4 == 0) (cond (nat_lt d (2 ^ 25) || nat_le (2 ^ 32 - 2 ^ 25) d) (Ok (d / 4 % 2 ^ 24)) (Err OutOfRange)) (Err BadOperand)
    (λ t. where_holds (λ f. f < 2 ^ 24) (nat_lt d (2 ^ 25) || nat_le (2 ^ 32 - 2 ^ 25) d) (Ok (d / 4 % 2 ^ 24)) (Err OutOfRange) (λ u. omega arith) tt)
    tt

-- ---- half-words

half_store : (load : Bool) (k : HalfKind) → HalfSaid load k → flag load ≡ 0 → half_code k ≡ 1
half_store true k h e = absurd (omega arith)
half_store false Half h e = refl
half_store false SignedByte h e = absurd h
half_store false SignedHalf h e = absurd h

half_post : (ix : Indexing) → IsUntranslated ix → flag (is_before ix) ≡ 0 → flag (writes_back ix) ≡ 0
half_post indexing.Offset h e = absurd (omega arith)
half_post indexing.Before h e = absurd (omega arith)
half_post indexing.After h e = refl
half_post indexing.Translated h e = absurd h
half_post indexing.TranslatedBefore h e = absurd h

-- ---- in a context

module _ (c : Context) (named : NamesRegisters c) where
  fits_register : (r : Register) → RegisterSaid r → register c r < 2 ^ 4
  fits_register (reg.Number n) h = h
  fits_register (reg.Named q) h = by_option (register_in q c.registers) refl
    where
      by_option : (o : Option ℕ) → register_in q c.registers ≡ o → or_zero o < 2 ^ 4
      by_option None e = omega arith
      by_option (Some n) e = named q n e

  operation_fits : (o : Operation) (s : Bool) (rd rn : Register) → OperationSaid o s rd rn
      → FitsOperation (operation_code o) (flag s) (register c rn) (register c rd)
  operation_fits Tst s rd rn h = as_comparison 8 (flag s) (register c rn) (register c rd) (omega arith) (ap flag h.flags) (ap (register c) h.none)
  operation_fits Teq s rd rn h = as_comparison 9 (flag s) (register c rn) (register c rd) (omega arith) (ap flag h.flags) (ap (register c) h.none)
  operation_fits Cmp s rd rn h = as_comparison 10 (flag s) (register c rn) (register c rd) (omega arith) (ap flag h.flags) (ap (register c) h.none)
  operation_fits Cmn s rd rn h = as_comparison 11 (flag s) (register c rn) (register c rd) (omega arith) (ap flag h.flags) (ap (register c) h.none)
  operation_fits Mov s rd rn h = as_move 13 (flag s) (register c rn) (register c rd) (omega arith) (ap (register c) h)
  operation_fits Mvn s rd rn h = as_move 15 (flag s) (register c rn) (register c rd) (omega arith) (ap (register c) h)
  operation_fits Orr s rd rn h = as_other 12 (flag s) (register c rn) (register c rd) (λ e. omega arith) (λ e. omega arith) (λ e. omega arith)
  operation_fits Bic s rd rn h = as_other 14 (flag s) (register c rn) (register c rd) (λ e. omega arith) (λ e. omega arith) (λ e. omega arith)
  operation_fits o s rd rn h = plain (operation_code o) (flag s) (register c rn) (register c rd) (omega arith)

  factor_fits : (accumulate : Bool) (rn : Register) → FactorSaid accumulate rn → flag accumulate ≡ 0 → register c rn ≡ 0
  factor_fits true rn h e = absurd (omega arith)
  factor_fits false rn h e = ap (register c) h

  shift_fits : (f : Shift) → Holds (λ f. f.1 < 2 ^ 5) (shift_fields c f)
  shift_fits shift.Unshifted = omega arith
  shift_fits (shift.By kind e) =
      then_holds (λ f. f.1 < 2 ^ 5) (λ n. mapped (λ a. (kind, a)) (amount_field kind n)) (number_in c e)
      (λ n. mapped_holds (λ a. a < 2 ^ 5) (λ f. f.1 < 2 ^ 5) (λ a. (kind, a)) (amount_field kind n) (amount_fits kind n) (λ a h. h))
  shift_fits shift.Extended = omega arith

  bits_below : (is : List ListItem) (k n : ℕ) → list_bits c is k n + 2 ^ k ≤ 2 ^ (k + n)
  bits_below is k zero = subst (λ z. 0 + 2 ^ k ≤ 2 ^ z) (sym (add-zero k)) (omega arith)
  bits_below is k (suc n) =
      let rest : list_bits c is (suc k) n + 2 ^ suc k ≤ 2 ^ (suc k + n) = bits_below is (suc k) n in
      let least : flag (list_any (is_listed_by c k) is) < 2 ^ 1 = flag_below (list_any (is_listed_by c k) is) in
      let same : suc k + n ≡ k + suc n = omega arith in
      let placed : list_bits c is (suc k) n + 2 ^ suc k ≤ 2 ^ (k + suc n) = subst (λ z. list_bits c is (suc k) n + 2 ^ suc k ≤ 2 ^ z) same rest in
      bits_more (flag (list_any (is_listed_by c k) is)) (2 ^ k) (list_bits c is (suc k) n) (2 ^ (k + suc n)) least (omega (arith, placed))
    where
      bits_more : (b power bits most : ℕ) → b < 2 → bits + 2 * power ≤ most → b * power + bits + power ≤ most
      bits_more zero power bits most low h = omega arith
      bits_more (suc zero) power bits most low h = omega arith
      bits_more (suc (suc b)) power bits most low h = absurd (omega arith)

  immediate_transfer : (k : Condition) (p byte w load : Bool) (rn rd limit n : ℕ) → limit ≤ 2 ^ 12 → rn < 2 ^ 4 → rd < 2 ^ 4
      → Holds Fits (mapped (λ o. instr.TransferImmediate k p o.0 byte w load rn rd o.1) (offset_below limit n))
  immediate_transfer k p byte w load rn rd limit n least base with =
      mapped_holds (λ o. o.1 < limit) Fits (λ o. instr.TransferImmediate k p o.0 byte w load rn rd o.1) (offset_below limit n) (offset_fits limit n)
      (λ o h. record {
        fields = (condition_below k, (flag_below p, (flag_below o.0, (flag_below byte, (flag_below w, (flag_below load, (base, (with, (omega arith, tt)))))))));
        conditions = tt;
      })

  half_transfer : (k : Condition) (ix : Indexing) (u e load : Bool) (rn rd high low : ℕ) (kind : HalfKind) → HalfSaid load kind → IsUntranslated ix → rn < 2 ^ 4
      → rd < 2 ^ 4
      → high < 2 ^ 4 → low < 2 ^ 4 → (flag e ≡ 0 → high ≡ 0)
      → Fits (instr.TransferHalf k (is_before ix) u e (writes_back ix) load rn rd high kind low)
  half_transfer k ix u e load rn rd high low kind moved kept base with h l free = record {
    fields = (
      condition_below k,
      (
        flag_below (is_before ix),
        (
          flag_below u,
          (flag_below e, (flag_below (writes_back ix), (flag_below load, (base, (with, (h, (half_below kind, (l, tt)))))))),
        ),
      ),
    );
    conditions = record {
      kind = half_positive kind;
      store = half_store load kind moved;
      post = half_post ix kept;
      register = free;
    };
  }

  arm_fits : (l : ArmLine) → ArmSaid l → Holds Fits (arm_instruction c l)
  arm_fits (arm.DataImmediate k o s rd rn e) h =
      then_holds Fits (data_immediate k o s (register c rn) (register c rd)) (number_in c e)
      (λ n. data_fits k o s (register c rn) (register c rd) n (fits_register rn h.1) (fits_register rd h.0) (operation_fits o s rd rn h.2))
  arm_fits (arm.DataShifted k o s rd rn rm by) h =
      mapped_holds (λ f. f.1 < 2 ^ 5) Fits (λ f. instr.DataShifted k o s (register c rn) (register c rd) f.1 f.0 (register c rm)) (shift_fields c by)
      (shift_fits by)
      (λ f a. record {
        fields = (
          condition_below k,
          (
            operation_below o,
            (
              flag_below s,
              (
                fits_register rn h.1,
                (fits_register rd h.0, (a, (shift_below f.0, (fits_register rm h.3, tt)))),
              ),
            ),
          ),
        );
        conditions = operation_fits o s rd rn h.2;
      })
  arm_fits (arm.DataRegisterShifted k o s rd rn rm kind rs) h = record {
    fields = (
      condition_below k,
      (
        operation_below o,
        (
          flag_below s,
          (
            fits_register rn h.1,
            (fits_register rd h.0, (fits_register rs h.4, (shift_below kind, (fits_register rm h.3, tt)))),
          ),
        ),
      ),
    );
    conditions = operation_fits o s rd rn h.2;
  }
  arm_fits (arm.Multiply k accumulate s rd rm rs rn) h = record {
    fields = (
      condition_below k,
      (
        flag_below accumulate,
        (
          flag_below s,
          (
            fits_register rd h.0,
            (fits_register rn h.3, (fits_register rs h.2, (fits_register rm h.1, tt))),
          ),
        ),
      ),
    );
    conditions = factor_fits accumulate rn h.4;
  }
  arm_fits (arm.MultiplyLong k signed accumulate s low high rm rs) h = record {
    fields = (
      condition_below k,
      (
        flag_below signed,
        (
          flag_below accumulate,
          (flag_below s, (fits_register high h.1, (fits_register low h.0, (fits_register rs h.3, (fits_register rm h.2, tt))))),
        ),
      ),
    );
    conditions = tt;
  }
  arm_fits (arm.Swap k byte rd rm rn) h =
      record { fields = (condition_below k, (flag_below byte, (fits_register rn h.2, (fits_register rd h.0, (fits_register rm h.1, tt))))); conditions = tt }
  arm_fits (arm.BranchExchange k rm) h = record { fields = (condition_below k, (fits_register rm h, tt)); conditions = tt }
  arm_fits (arm.ReadStatus k status rd) h = record { fields = (condition_below k, (flag_below (is_saved status), (fits_register rd h, tt))); conditions = tt }
  arm_fits (arm.WriteStatus k fields rm) h =
      record { fields = (condition_below k, (flag_below (are_saved fields), (mask_fits fields h.0, (fits_register rm h.1, tt)))); conditions = tt }
  arm_fits (arm.WriteStatusImmediate k fields e) h =
      then_holds Fits (λ n. status_of k (are_saved fields) (mask_of fields) (immediate n)) (number_in c e)
      (λ n. status_fits k (are_saved fields) (mask_of fields) (immediate n) (mask_fits fields h.0) (immediate_fits n))
  arm_fits (arm.TransferImmediate k load byte rd (address.Based rn ix e)) h =
      then_holds Fits (λ n. mapped (λ o. instr.TransferImmediate k (is_before ix) o.0 byte (writes_back ix) load (register c rn) (register c rd) o.1)
      (offset_below 4096 n))
      (number_in c e)
      (λ n. immediate_transfer k (is_before ix) byte (writes_back ix) load (register c rn) (register c rd) 4096 n (omega arith) (fits_register rn h.1.0)
      (fits_register rd h.0))
  arm_fits (arm.TransferImmediate k load byte rd (address.Label e)) h =
      then_holds Fits (λ at. mapped (λ o. instr.TransferImmediate k true o.0 byte false load 15 (register c rd) o.1) (offset_below 4096 (from_pc c at)))
      (own_offset c (value_of c e))
      (λ at. immediate_transfer k true byte false load 15 (register c rd) 4096 (from_pc c at) (omega arith) (omega arith) (fits_register rd h.0))
  arm_fits (arm.TransferShifted k load byte rd rn ix subtract rm by) h =
      mapped_holds (λ f. f.1 < 2 ^ 5) Fits
      (λ f. instr.TransferShifted k (is_before ix) (not subtract) byte (writes_back ix) load (register c rn) (register c rd) f.1 f.0 (register c rm))
      (shift_fields c by) (shift_fits by)
      (λ f a. record {
        fields = (
          condition_below k,
          (
            flag_below (is_before ix),
            (
              flag_below (not subtract),
              (
                flag_below byte,
                (
                  flag_below (writes_back ix),
                  (
                    flag_below load,
                    (fits_register rn h.1, (fits_register rd h.0, (a, (shift_below f.0, (fits_register rm h.2, tt))))),
                  ),
                ),
              ),
            ),
          ),
        );
        conditions = tt;
      })
  arm_fits (arm.TransferHalf k load kind rd rn ix (half.Number e)) h =
      then_holds Fits
      (λ n. mapped (λ o. instr.TransferHalf k (is_before ix) o.0 true (writes_back ix) load (register c rn) (register c rd) (o.1 / 16) kind (o.1 % 16))
      (offset_below 256 n))
      (number_in c e)
      (λ n.
      mapped_holds (λ o. o.1 < 256) Fits
      (λ o. instr.TransferHalf k (is_before ix) o.0 true (writes_back ix) load (register c rn) (register c rd) (o.1 / 16) kind (o.1 % 16)) (offset_below 256 n)
      (offset_fits 256 n)
      (λ o a.
      half_transfer k ix o.0 true load (register c rn) (register c rd) (o.1 / 16) (o.1 % 16) kind h.2 h.3 (fits_register rn h.1) (fits_register rd h.0)
      (omega arith) (omega arith) (λ z. absurd (omega arith))))
  arm_fits (arm.TransferHalf k load kind rd rn ix (half.Register subtract rm)) h =
      half_transfer k ix (not subtract) false load (register c rn) (register c rd) 0 (register c rm) kind h.2 h.3 (fits_register rn h.1) (fits_register rd h.0)
      (omega arith) (fits_register rm h.4) (λ z. refl)
  arm_fits (arm.TransferBlock k load m rn write_back list user) h =
      let most = bits_below list.items 0 16 in
      let fit : list_bits c list.items 0 16 < 2 ^ 16 = omega (arith, most) in
      block_fits k (is_block_before m) (is_block_up m) user write_back load (register c rn) (list_bits c list.items 0 16) (fits_register rn h.0) fit
    where
      block_fits : (k : Condition) (p u s w load : Bool) (rn bits : ℕ) → rn < 2 ^ 4 → bits < 2 ^ 16 → Fits (instr.TransferBlock k p u s w load rn bits)
      block_fits k p u s w load rn bits base low =
          record {
            fields = (condition_below k, (flag_below p, (flag_below u, (flag_below s, (flag_below w, (flag_below load, (base, (low, tt))))))));
            conditions = tt;
          }
  arm_fits (arm.Branch k link e) h =
      then_holds Fits (λ d. mapped (λ f. instr.Branch k link f) (branch_field d)) (branch_displacement c (value_of c e))
      (λ d. mapped_holds (λ f. f < 2 ^ 24) Fits (λ f. instr.Branch k link f) (branch_field d) (field_fits d)
      (λ f low. record { fields = (condition_below k, (flag_below link, (low, tt))); conditions = tt }))
  arm_fits (arm.SoftwareInterrupt k e) h =
      then_holds Fits (λ n. cond (nat_lt n (2 ^ 24)) (Ok (instr.SoftwareInterrupt k n)) (Err OutOfRange)) (number_in c e)
      (λ n. where_holds Fits (nat_lt n (2 ^ 24)) (Ok (instr.SoftwareInterrupt k n)) (Err OutOfRange)
      (λ t. record { fields = (condition_below k, (ltb-true n (2 ^ 24) t, tt)); conditions = tt }) tt)

  pub instruction_fits : (l : ArmLine) (i : ArmInstr) → ArmSaid l → arm_instruction c l ≡ Ok i → Fits i
  instruction_fits l i h e = subst (Holds Fits) e (arm_fits l h)

-- ---- pseudo-instructions

adding_fits : (k : Condition) (o : Operation) (n d : ℕ) (i : ℕ × ℕ) → n < 2 ^ 4 → d < 2 ^ 4 → IsOperand i → FitsOperation (operation_code o) 0 n d
    → Fits (adding k o n d i)
adding_fits k o n d i first to operand h = number_fits k o false n d i first to operand h

address_fits : (k : Condition) (rd : ℕ) (i j : Option (ℕ × ℕ)) → rd < 2 ^ 4 → HoldsIn IsOperand i → HoldsIn IsOperand j → Holds Fits (address_by k rd i j)
address_fits k rd (Some i) j to h g = adding_fits k Add 15 rd i (omega arith) to h (plain 4 0 15 rd (omega arith))
address_fits k rd None (Some j) to h g = adding_fits k Sub 15 rd j (omega arith) to g (plain 2 0 15 rd (omega arith))
address_fits k rd None None to h g = tt

two_fits : (k : Condition) (o : Operation) (rd : ℕ) (i j : Option (ℕ × ℕ)) → operation_code o < 8 → rd < 2 ^ 4 → HoldsIn IsOperand i → HoldsIn IsOperand j
    → HoldsIn AllFit (two_by k o rd i j)
two_fits k o rd (Some i) (Some j) low to h g = (
  adding_fits k o 15 rd i (omega arith) to h (plain (operation_code o) 0 15 rd low),
  (adding_fits k o rd rd j to to g (plain (operation_code o) 0 rd rd low), tt),
)
two_fits k o rd (Some i) None low to h g = tt
two_fits k o rd None j low to h g = tt

first_fits : (a b : Option (List ArmInstr)) → HoldsIn AllFit a → HoldsIn AllFit b → Holds AllFit (first_of a b)
first_fits (Some is) b h g = h
first_fits None (Some is) h g = g
first_fits None None h g = tt

long_fits : (k : Condition) (rd distance : ℕ) → rd < 2 ^ 4 → Holds AllFit (long_address k rd distance)
long_fits k rd n to =
    first_fits (two_of k Add rd n) (two_of k Sub rd (negated n))
    (two_fits k Add rd (immediate (first_part n)) (immediate (second_part n)) (omega arith) to (immediate_fits (first_part n)) (immediate_fits (second_part n)))
    (two_fits k Sub rd (immediate (first_part (negated n))) (immediate (second_part (negated n))) (omega arith) to (immediate_fits (first_part (negated n)))
    (immediate_fits (second_part (negated n))))

module _ (c : Context) (named : NamesRegisters c) where
  listed_fits : (r : Result ArmInstr LineKind) → Holds Fits r → Holds AllFit (mapped one r)
  listed_fits r h = mapped_holds Fits AllFit one r h (λ i k. (k, tt))

  pseudo_fits : (word : Option ℕ) (l : PseudoLine) → PseudoSaid l → Holds AllFit (pseudo_instructions c word l)
  pseudo_fits None (pseudo.LoadConstant k rd e) h =
      then_holds AllFit (λ n. mapped one (data_immediate k Mov false 0 (register c rd) n)) (number_in c e)
      (λ n. listed_fits (data_immediate k Mov false 0 (register c rd) n)
      (data_fits k Mov false 0 (register c rd) n (omega arith) (fits_register c named rd h.0) (as_move 13 0 0 (register c rd) (omega arith) refl)))
  pseudo_fits (Some word) (pseudo.LoadConstant k rd e) h =
      mapped_holds (λ o. o.1 < 4096) AllFit (λ o. one (instr.TransferImmediate k true o.0 false false true 15 (register c rd) o.1))
      (offset_below 4096 (from_pc c word))
      (offset_fits 4096 (from_pc c word))
      (λ o low. (
        record {
          fields = (
            condition_below k,
            (
              flag_below true,
              (
                flag_below o.0,
                (
                  flag_below false,
                  (flag_below false, (flag_below true, (omega arith, (fits_register c named rd h.0, (omega arith, tt))))),
                ),
              ),
            ),
          );
          conditions = tt;
        },
        tt,
      ))
  pseudo_fits word (pseudo.Address k rd e) h =
      then_holds AllFit (λ at. mapped one (address_instruction k (register c rd) (from_pc c at))) (own_offset c (value_of c e))
      (λ at. listed_fits (address_instruction k (register c rd) (from_pc c at))
      (address_fits k (register c rd) (immediate (from_pc c at)) (immediate (negated (from_pc c at))) (fits_register c named rd h.0)
      (immediate_fits (from_pc c at))
      (immediate_fits (negated (from_pc c at)))))
  pseudo_fits word (pseudo.LongAddress k rd e) h =
      then_holds AllFit (λ at. long_address k (register c rd) (from_pc c at)) (own_offset c (value_of c e))
      (λ at. long_fits k (register c rd) (from_pc c at) (fits_register c named rd h.0))
  pseudo_fits word pseudo.NoOperation h = (
    record {
      fields = (
        condition_below condition.Al,
        (
          operation_below Mov,
          (
            flag_below false,
            (omega arith, (omega arith, (omega arith, (shift_below Lsl, (omega arith, tt))))),
          ),
        ),
      );
      conditions = as_move 13 0 0 0 (omega arith) refl;
    },
    tt,
  )

  pub pseudo_instructions_fit : (word : Option ℕ) (l : PseudoLine) (is : List ArmInstr) → PseudoSaid l → pseudo_instructions c word l ≡ Ok is → AllFit is
  pseudo_instructions_fit word l is h e = subst (Holds AllFit) e (pseudo_fits word l h)
