-- Branches: where they lead, and what patching keeps.
use Rattle.std.proofs.Common.{◌≡◌, ℕ, zero, suc, subst, ◌+◌, ◌*◌, ◌/◌, ◌%◌, ◌^◌, ◌<◌, Bool, true, false, refl, ap, ◌∙◌, arith, inl}
use Rattle.std.specs.Prelude.{Some, nat_lt, ◌==◌}
use Rattle.std.proofs.lemmas.Bool.{and_parts as both_true, ltb-true, lt-ltb, eqb-true, eq-eqb}
use Rattle.sdt_word.specs.Bytes.{bytes_of}
use Rattle.sdt_word.specs.Numbers.{bits, flag, sign_extended}
use Rattle.sdt_word.specs.Codes.{condition_code}
use Rattle.sdt_word.specs.declared.codes.Condition.{Condition}
use Rattle.sdt_word.specs.declared.codes.Condition.TheVariants as condition
use Rattle.arm_isa.specs.ArmRows.{ReadsArm}
use Rattle.arm_isa.specs.declared.instr.ArmInstr.TheVariants as arm
use Rattle.thumb_isa.specs.ThumbRows.{ReadsThumb}
use Rattle.thumb_isa.specs.declared.instr.ThumbInstr.TheVariants as thumb
use Rattle.patch_model.specs.Patched.{IsBranch, is_branch, SameBranch, biased_displacement, bias, pc_offset}
use Rattle.patch_model.specs.Laws.{BranchLaw, TestLaw}
use Rattle.patch_model.specs.Reaches.{View, Shows, ShowsHalf, BranchesTo}

-- ---- which words are branches

pub branch_test : (t : Bool) (w : ℕ) → IsBranch t w → is_branch t w ≡ true
branch_test false w (condition, digits) = rw (lt-ltb (bits w 28 4) 15 condition, eq-eqb (bits w 25 3) 5 digits) refl
branch_test true w (high, low) = rw (eq-eqb (bits w 11 5) 30 high, eq-eqb (bits w 27 5) 31 low) refl

pub branch_tested : (t : Bool) (w : ℕ) → is_branch t w ≡ true → IsBranch t w
branch_tested false w h = let parts = both_true (nat_lt (bits w 28 4) 15) (bits w 25 3 == 5) h in (ltb-true (bits w 28 4) 15 parts.0, eqb-true (bits w 25 3) 5 parts.1)
branch_tested true w h = let parts = both_true (bits w 11 5 == 30) (bits w 27 5 == 31) h in (eqb-true (bits w 11 5) 30 parts.0, eqb-true (bits w 27 5) 31 parts.1)

pub branch_decides : TestLaw
branch_decides t w = (branch_tested t w, branch_test t w)

-- ---- ARM

reads_arm : (c : Condition) (l : Bool) (d : ℕ) → d < 2 ^ 24 → ReadsArm (condition_code c * 2 ^ 28 + 5 * 2 ^ 25 + flag l * 2 ^ 24 + d) (arm.Branch c l d)
reads_arm c l d h = grind arith

arm_stays : (c : Condition) (l : Bool) (d old new : ℕ) → ReadsArm old (arm.Branch c l d) → new < 2 ^ 32 → SameBranch false old new → ReadsArm new (arm.Branch c l (new % 2 ^ 24))
arm_stays c l d old new reads small same = grind arith

pub displacement_arm : (a w : ℕ) → (a + 8 + sign_extended (w % 2 ^ 24) 24 * 4 + 2 ^ 25) % 2 ^ 32 ≡ (a + 8 + biased_displacement false w) % 2 ^ 32
displacement_arm a w = grind arith

displacement_pair : (a w : ℕ) → (a + 4 + sign_extended (bits w 0 11 * 2 ^ 11 + bits w 16 11) 22 * 2 + 2 ^ 22) % 2 ^ 32 ≡ (a + 4 + biased_displacement true w) % 2 ^ 32
displacement_pair a w = grind arith

arm_displacement : (a w : ℕ) → (a + sign_extended w 24 * 4 + bias false) % 2 ^ 32 ≡ (a + biased_displacement false w) % 2 ^ 32
arm_displacement a w = grind arith

pair_displacement : (a w : ℕ) → (a + sign_extended (bits w 0 11 * 2 ^ 11 + bits w 16 11) 22 * 2 + bias true) % 2 ^ 32 ≡ (a + biased_displacement true w) % 2 ^ 32
pair_displacement a w = grind arith

pair_high : (old new : ℕ) → new < 2 ^ 32 → IsBranch true old → SameBranch true old new → ReadsThumb (new % 2 ^ 16) (thumb.BranchLink false (bits new 0 11))
pair_high old new small branch same = grind arith

pair_low : (old new : ℕ) → new < 2 ^ 32 → IsBranch true old → SameBranch true old new → ReadsThumb (new / 2 ^ 16) (thumb.BranchLink true (bits new 16 11))
pair_low old new small branch same = grind arith

pub arm_same : (old new other : ℕ) → new < 2 ^ 32 → other < 2 ^ 32 → new / 2 ^ 24 ≡ other / 2 ^ 24 → biased_displacement false new ≡ biased_displacement false other → new ≡ other
arm_same old new other n o same e = omega arith

pub pair_same : (new other : ℕ) → new < 2 ^ 32 → other < 2 ^ 32 → bits new 11 5 ≡ bits other 11 5 → bits new 27 5 ≡ bits other 27 5 → biased_displacement true new ≡ biased_displacement true other → new ≡ other
pair_same new other n o high low e = omega arith

-- ---- bytes

shows_word : (view : View) (a w : ℕ) → Shows view a (bytes_of w 4) → ShowsHalf view a (w % 2 ^ 16) × ShowsHalf view (a + 2) (w / 2 ^ 16)
shows_word view a w (e0, (e1, (e2, (e3, e)))) =
    ((e0 ∙ ap Some (omega arith), (e1 ∙ ap Some (omega arith), tt)), (ap view (omega arith) ∙ e2 ∙ ap Some (omega arith), (ap view (omega arith) ∙ e3 ∙ ap Some (omega arith), tt)))

-- a condition of each number below 15
code_at : (n : ℕ) → n < 15 → (c : Condition) × (condition_code c ≡ n)
code_at zero h = (condition.Eq, refl)
code_at (suc zero) h = (condition.Ne, refl)
code_at (suc (suc zero)) h = (condition.Cs, refl)
code_at (suc (suc (suc zero))) h = (condition.Cc, refl)
code_at (suc (suc (suc (suc zero)))) h = (condition.Mi, refl)
code_at (suc (suc (suc (suc (suc zero))))) h = (condition.Pl, refl)
code_at (suc (suc (suc (suc (suc (suc zero)))))) h = (condition.Vs, refl)
code_at (suc (suc (suc (suc (suc (suc (suc zero))))))) h = (condition.Vc, refl)
code_at (suc (suc (suc (suc (suc (suc (suc (suc zero)))))))) h = (condition.Hi, refl)
code_at (suc (suc (suc (suc (suc (suc (suc (suc (suc zero))))))))) h = (condition.Ls, refl)
code_at (suc (suc (suc (suc (suc (suc (suc (suc (suc (suc zero)))))))))) h = (condition.Ge, refl)
code_at (suc (suc (suc (suc (suc (suc (suc (suc (suc (suc (suc zero))))))))))) h = (condition.Lt, refl)
code_at (suc (suc (suc (suc (suc (suc (suc (suc (suc (suc (suc (suc zero)))))))))))) h = (condition.Gt, refl)
code_at (suc (suc (suc (suc (suc (suc (suc (suc (suc (suc (suc (suc (suc zero))))))))))))) h = (condition.Le, refl)
code_at (suc (suc (suc (suc (suc (suc (suc (suc (suc (suc (suc (suc (suc (suc zero)))))))))))))) h = (condition.Al, refl)
code_at (suc (suc (suc (suc (suc (suc (suc (suc (suc (suc (suc (suc (suc (suc (suc n))))))))))))))) h = absurd (omega arith)

flag_at : (n : ℕ) → n < 2 → (l : Bool) × (flag l ≡ n)
flag_at zero h = (false, refl)
flag_at (suc zero) h = (true, refl)
flag_at (suc (suc n)) h = absurd (omega arith)

arm_reads : (w : ℕ) → w < 2 ^ 32 → IsBranch false w → (c : Condition) × (l : Bool) × ReadsArm w (arm.Branch c l (w % 2 ^ 24))
arm_reads w small branch =
    let c = code_at (bits w 28 4) branch.0 in
    let l = flag_at (w / 2 ^ 24 % 2) (omega arith) in
    let number : condition_code c.0 * 2 ^ 28 + 5 * 2 ^ 25 + flag l.0 * 2 ^ 24 + w % 2 ^ 24 ≡ w = omega (arith, c.1, l.1, branch.1) in
    let Reads : ℕ → Type 0 = λ v. ReadsArm v (arm.Branch c.0 l.0 (w % 2 ^ 24)) in
    (c.0, l.0, subst Reads number (reads_arm c.0 l.0 (w % 2 ^ 24) (omega arith)))

pub leads_to : (view : View) (t : Bool) (a w target : ℕ) → Shows view a (bytes_of w 4) → w < 2 ^ 32 → IsBranch t w
    → (a + pc_offset t + biased_displacement t w) % 2 ^ 32 ≡ (target + bias t) % 2 ^ 32 → BranchesTo view t a target
leads_to view false a w target shows small branch e =
    let r = arm_reads w small branch in
    let s = displacement_arm a w in
    record { condition = r.0; link = r.1; field = w % 2 ^ 24; word = w; shows = shows; reads = r.2; leads = omega arith }
leads_to view true a w target shows small branch e =
    let h = shows_word view a w shows in
    let s = displacement_pair a w in
    inl (record {
      first = bits w 0 11;
      second = bits w 16 11;
      high_half = w % 2 ^ 16;
      low_half = w / 2 ^ 16;
      shows_high = h.0;
      shows_low = h.1;
      reads_high = pair_high w w small branch (refl, refl);
      reads_low = pair_low w w small branch (refl, refl);
      leads = omega arith;
    })

-- a branch with another displacement
pub branch_stays : (t : Bool) (old new : ℕ) → IsBranch t old → SameBranch t old new → IsBranch t new
branch_stays false old new branch same = (omega (arith, branch.0, same), omega (arith, branch.1, same))
branch_stays true old new branch same = (same.0 ∙ branch.0, same.1 ∙ branch.1)

pub branch_law : BranchLaw
branch_law = record { leads = leads_to; arm_displacement = arm_displacement; pair_displacement = pair_displacement; arm_stays = arm_stays; pair_stays = λ old new small branch same. (pair_high old new small branch same, pair_low old new small branch same) }
