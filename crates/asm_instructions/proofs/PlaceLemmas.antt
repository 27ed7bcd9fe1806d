-- Bits of numbers, one place behind the other.
use Rattle.std.proofs.Common.{◌≡◌, ℕ, zero, suc, ◌+◌, ◌-◌, ◌*◌, ◌/◌, ◌%◌, ◌^◌, ◌<◌, ◌==◌, List, [], ◌∷◌, Bool, true, false, cond, sym, ap, ◌∙◌, subst, arith, add_assoc}
use Rattle.std.specs.Prelude.{Ok}
use Rattle.std.specs.List.{list_any}
use Rattle.std.proofs.Math.Numerals.{suc-eq-add-one}
use Rattle.std.proofs.lemmas.Bool.{ne_eqb}
use Rattle.sdt_word.specs.Numbers.{flag}
use Rattle.sdt_word.specs.declared.codes.Condition.{Condition}
use Rattle.arm_isa.specs.declared.instr.ArmInstr.TheVariants as instr
use Rattle.asm_model.specs.declared.operands.BlockMode.{BlockMode}
use Rattle.asm_model.specs.declared.operands.ListItem.{ListItem}
use Rattle.asm_model.specs.declared.operands.Register.{Register}
use Rattle.asm_model.specs.declared.operands.RegisterList.{RegisterList}
use Rattle.asm_model.specs.declared.arm_lines.ArmLine.TheVariants as arm
use Rattle.source_model.specs.Contexts.{Context, register}
use Rattle.source_model.specs.ArmForms.{is_listed_by, list_bits, is_block_before, is_block_up, arm_instruction}
use Rattle.source_model.specs.PseudoForms.{lowest_among}

-- ---- lists of registers

bits_next : (c : Context) (is : List ListItem) (k n m bits total : ℕ) → n ≡ suc m → bits + list_bits c is k n ≡ total
    → bits + flag (list_any (is_listed_by c k) is) * 2 ^ k + list_bits c is (suc k) m ≡ total
bits_next c is k n m bits total e h =
    add_assoc bits (flag (list_any (is_listed_by c k) is) * 2 ^ k) (list_bits c is (suc k) m)
    ∙ subst (λ z. bits + list_bits c is k z ≡ total) e h

bits_fit : (b : Bool) (k bits : ℕ) → bits < 2 ^ k → bits + flag b * 2 ^ k < 2 ^ suc k
bits_fit true k bits h = omega arith
bits_fit false k bits h = omega arith

pub bits_step : (c : Context) (is : List ListItem) (k bits more total : ℕ) (b : Bool) → k < 16 → b ≡ list_any (is_listed_by c k) is → more ≡ flag b * 2 ^ k
    → bits < 2 ^ k → bits + list_bits c is k (16 - k) ≡ total
    → (bits + more < 2 ^ (k + 1)) × (bits + more + list_bits c is (k + 1) (16 - (k + 1)) ≡ total)
bits_step c is k bits more total b low e m fits h =
    let n : 16 - k ≡ suc (16 - suc k) = omega arith in
    let now : more ≡ flag (list_any (is_listed_by c k) is) * 2 ^ k = m ∙ ap (λ t. flag t * 2 ^ k) e in
    subst (λ z. (bits + more < 2 ^ z) × (bits + more + list_bits c is z (16 - z) ≡ total)) (suc-eq-add-one k) (
      subst (λ z. bits + z < 2 ^ suc k) (sym m) (bits_fit b k bits fits),
      subst (λ z. bits + z + list_bits c is (suc k) (16 - suc k) ≡ total) (sym now) (bits_next c is k (16 - k) (16 - suc k) bits total n h),
    )

pub block_said : (c : Context) (condition : Condition) (load : Bool) (m : BlockMode) (rn : Register) (write_back : Bool) (list : RegisterList) (user p u : Bool)
    (n bits : ℕ)
    → p ≡ is_block_before m → u ≡ is_block_up m → n ≡ register c rn → bits ≡ list_bits c list.items 0 16
    → Ok (instr.TransferBlock condition p u user write_back load n bits) ≡ arm_instruction c (arm.TransferBlock condition load m rn write_back list user)
block_said c condition load m rn write_back list user p u n bits before up number listed =
    ap (λ z. Ok (instr.TransferBlock condition z u user write_back load n bits)) before
    ∙ ap (λ z. Ok (instr.TransferBlock condition (is_block_before m) z user write_back load n bits)) up
    ∙ ap (λ z. Ok (instr.TransferBlock condition (is_block_before m) (is_block_up m) user write_back load z bits)) number
    ∙ ap (λ z. Ok (instr.TransferBlock condition (is_block_before m) (is_block_up m) user write_back load (register c rn) z)) listed

-- ---- pairs of bits

-- every second place from one on, so many
abbrev pub evens : ℕ → ℕ → List ℕ
evens k zero = []
evens k (suc n) = 2 * k ∷ evens (suc k) n

pub pair_skipped : (number k : ℕ) (l : ℕ) → k < 16 → number / 2 ^ (2 * k) % 4 ≡ 0
    → l ≡ lowest_among (evens k (16 - k)) number → l ≡ lowest_among (evens (k + 1) (16 - (k + 1))) number
pair_skipped number k l low h there =
    let n : 16 - k ≡ suc (16 - suc k) = omega arith in
    there
    ∙ ap (λ z. lowest_among (evens k z) number) n
    ∙ ap (λ b. cond b (lowest_among (evens (suc k) (16 - suc k)) number) (2 * k)) (ap (λ z. z == 0) h)
    ∙ ap (λ z. lowest_among (evens z (16 - z)) number) (suc-eq-add-one k)

pub pair_found : (number k : ℕ) (l : ℕ) → k < 16 → (number / 2 ^ (2 * k) % 4 ≡ 0 → ⊥)
    → l ≡ lowest_among (evens k (16 - k)) number → 2 * k ≡ l
pair_found number k l low h there =
    let n : 16 - k ≡ suc (16 - suc k) = omega arith in
    sym
    (there
    ∙ ap (λ z. lowest_among (evens k z) number) n
    ∙ ap (λ b. cond b (lowest_among (evens (suc k) (16 - suc k)) number) (2 * k)) (ne_eqb (number / 2 ^ (2 * k) % 4) 0 h))

-- ---- eight bits from a place on
