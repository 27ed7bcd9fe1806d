-- A step leaves a valid state.
use Rattle.std.proofs.Common.{◌≡◌, ◌≢◌, ℕ, ◌+◌, ◌*◌, ◌/◌, ◌%◌, ◌^◌, ◌<◌, Bool, true, false, ◌==◌, ◌&&◌, ◌||◌, not, if◌then◌else◌, refl, sym, ap, ◌∙◌, arith, mod-lt, eqb-true, ltb-true}
use Rattle.std.proofs.lemmas.Bool.{eqb-false}
use Rattle.sdt_word.specs.Numbers.{bit, bits, operand, sign_extended}
use Rattle.arm_isa.specs.declared.instr.ArmInstr.{ArmInstr}
use Rattle.arm_isa.specs.declared.instr.ArmInstr.TheVariants as arm
use Rattle.arm_isa.specs.ArmRows.{ReadsArm}
use Rattle.arm7_model.specs.declared.state.ArmState.{ArmState}
use Rattle.arm7_model.specs.declared.event.Exception.TheVariants as exception
use Rattle.arm7_model.specs.Registers.{IsValid, IsValidState, IsStatus, register, with_register, operand_at, is_thumb, has_mode, bank_in, mode_in, saved, with_cpsr, has_saved}
use Rattle.arm7_model.specs.Arithmetic.{passes, carry_in, immediate_operand}
use Rattle.arm7_model.specs.Accesses.{Working}
use Rattle.arm7_model.specs.Outcomes.{Under, ran, raised, hosted, given_back}
use Rattle.arm7_model.specs.Data.{status_with, status_after, read_status, written_status, names}
use Rattle.arm7_model.specs.Transfers.{writes_back}
use Rattle.arm7_model.specs.Blocks.{lists}
use Rattle.arm7_model.specs.Branches.{status_with_thumb, exchanged, branch_target, branched, is_host, interrupted}
use Rattle.arm7_model.specs.ArmStep.{arm_condition, shifted_operand, register_shifted_operand, arm_unpredictable, arm_effect, arm_done, bad_status, bad_write, bad_base, bad_block_base, bad_user, is_pc, byte_width, half_width, half_signed, half_offset}
use Rattle.arm7_model.proofs.ValidRegisters.{IsNearlyValid, nearly, whole, nearly-register, valid-register, valid-at, valid-pc, valid-saved, banked, nearly-cpsr, saved-status, register-small, operand-small}
use Rattle.arm7_model.proofs.ValidValues.{carry-le, by_amount-fits, by_register-fits, immediate-fits}
use Rattle.arm7_model.proofs.ValidEffects.{IsGood, ran-good, hosted-good, raised-good, given_back-good, calculated-valid, multiplied-valid, multiplied_long-valid}
use Rattle.arm7_model.proofs.ValidTransfers.{transferred-good, swapped-good, block_moved-good}
use Rattle.base_lemmas.proofs.BaseLemmas.{second_false as and-true, not_false as not-true}

or-left : (a b : Bool) → (a || b) ≡ false → a ≡ false
or-left true b h = absurd (wrong h)
  where
    wrong : true ≡ false → ⊥
    wrong h = cc
or-left false b h = refl

pub or-right : (a b : Bool) → (a || b) ≡ false → b ≡ false
or-right true b h = absurd (wrong h)
  where
    wrong : true ≡ false → ⊥
    wrong h = cc
or-right false b h = h

not-pc : (k : ℕ) → is_pc k ≡ false → k ≢ 15
not-pc k h = eqb-false k 15 h

-- ---- status registers

status_with-status : (fields v old : ℕ) → IsStatus (status_with fields v old)
unfolding status_with
status_with-status fields v old = go (names fields 3) (names fields 0)
  where
    go : (f c : Bool) → IsStatus ((if f then v / 2 ^ 28 % 2 ^ 4 else old / 2 ^ 28 % 2 ^ 4) * 2 ^ 28 + (if c then v % 256 else old % 256))
    go true true = record { is_word = omega arith; reserved = omega arith }
    go true false = record { is_word = omega arith; reserved = omega arith }
    go false true = record { is_word = omega arith; reserved = omega arith }
    go false false = record { is_word = omega arith; reserved = omega arith }

read_status-valid : (of_saved : Bool) (rd : ℕ) (s : ArmState) → IsValid s → rd ≢ 15 → IsValid (read_status of_saved rd s)
unfolding read_status
read_status-valid true rd s h other = valid-register s rd (saved s) h (saved-status s (nearly s h)).is_word other
read_status-valid false rd s h other = valid-register s rd s.cpsr h h.status.is_word other

written_status-valid : (to_saved : Bool) (fields v : ℕ) (s : ArmState) → IsValid s → is_thumb s.cpsr ≡ false → bad_write to_saved fields v s ≡ false → IsValid (written_status to_saved fields v s)
unfolding written_status bad_write bad_status status_after is_thumb with_cpsr status_with
written_status-valid true fields v s h in_arm fine = valid-saved s _ h (status_with-status fields v (saved s))
written_status-valid false fields v s h in_arm fine =
    let x = status_after s fields v in
    let same : bit x 5 ≡ bit s.cpsr 5 = eqb-true (bit x 5) (bit s.cpsr 5) (not-true _ (or-left _ _ fine)) in
    let mode : has_mode x ≡ true = not-true (has_mode x) (or-right _ _ fine) in
    whole (with_cpsr s x) (nearly-cpsr s x (banked s (nearly s h)) (status_with-status _ v s.cpsr) mode)
    (λ t. absurd (both (sym t ∙ ap (λ (b : ℕ). b == 1) same ∙ in_arm)))
  where
    both : true ≡ false → ⊥
    both h = cc

-- ---- branches

pub exchanged-valid : (v : ℕ) (s : ArmState) → IsValid s → v < 2 ^ 32 → IsValid (exchanged v s)
unfolding exchanged status_with_thumb has_mode bank_in mode_in
exchanged-valid v s h small =
    let x = s.cpsr / 2 ^ 6 * 2 ^ 6 + v % 2 * 2 ^ 5 + s.cpsr % 2 ^ 5 in
    let word = h.status.is_word in
    let fields : bits (s.cpsr / 2 ^ 6 * 2 ^ 6 + v % 2 * 2 ^ 5 + s.cpsr % 2 ^ 5) 0 5 ≡ bits s.cpsr 0 5 = omega arith in
    let reserved : bits (s.cpsr / 2 ^ 6 * 2 ^ 6 + v % 2 * 2 ^ 5 + s.cpsr % 2 ^ 5) 8 20 ≡ bits s.cpsr 8 20 = omega arith in
    valid-pc (record s { cpsr = s.cpsr / 2 ^ 6 * 2 ^ 6 + v % 2 * 2 ^ 5 + s.cpsr % 2 ^ 5 }) v
    (record {
      visible = h.visible;
      high = h.high;
      r13 = h.r13;
      r14 = h.r14;
      no_r13 = rw fields h.no_r13;
      no_r14 = rw fields h.no_r14;
      mode = rw fields h.mode;
      status = record { is_word = omega arith; reserved = reserved ∙ h.status.reserved };
      saved_count = h.saved_count;
      saved_status = h.saved_status;
    }) small

pub target-small : (size n d : ℕ) (s : ArmState) → branch_target size n d s < 2 ^ 32
unfolding branch_target
target-small size n d s = mod-lt (operand_at s 15 + size * sign_extended d n) (omega arith)

-- in ARM state pc takes any address
arm_at : (s : ArmState) (v : ℕ) → IsNearlyValid s → v < 2 ^ 32 → is_thumb s.cpsr ≡ false → IsValid (with_register s 15 v)
arm_at s v h small in_arm = valid-at s v h small (λ t. absurd (both (sym t ∙ in_arm)))
  where
    both : true ≡ false → ⊥
    both h = cc

with_register_keeps : (s : ArmState) (k v : ℕ) → is_thumb s.cpsr ≡ false → is_thumb (with_register s k v).cpsr ≡ false
unfolding with_register
with_register_keeps s k v h = h

branched-valid : (link : Bool) (d : ℕ) (s : ArmState) → IsValid s → is_thumb s.cpsr ≡ false → IsValid (branched link d s)
unfolding branched
branched-valid true d s h in_arm =
    arm_at (with_register s 14 (register s 15)) (branch_target 4 24 d s) (nearly-register s 14 (register s 15) (nearly s h) (register-small s 15 (nearly s h))) (target-small 4 24 d s) (kept in_arm)
  where
    kept : is_thumb s.cpsr ≡ false → is_thumb (with_register s 14 (register s 15)).cpsr ≡ false
    kept h = with_register_keeps s 14 (register s 15) h
branched-valid false d s h in_arm = arm_at s (branch_target 4 24 d s) (nearly s h) (target-small 4 24 d s) in_arm

pub interrupted-good : (n : ℕ) (w : Working) → IsGood w → IsValidState (interrupted n w).state
unfolding interrupted
interrupted-good n w g = go (is_host n)
  where
    go : (c : Bool) → IsValidState (if c then hosted n w else raised exception.SoftwareInterrupt w).state
    go true = hosted-good n w g
    go false = raised-good exception.SoftwareInterrupt w g

-- ---- ARM state

pub core-good : (w : Working) (core : ArmState) → IsGood w → IsValid core → IsValidState (ran (record w { core = core })).state
core-good w core g h = ran-good (record w { core = core }) (record { core = h; memory = g.memory })

base-other : (pre write_back load : Bool) (rn rd : ℕ) → bad_base pre write_back load rn rd ≡ false → writes_back pre write_back ≡ true → rn ≢ 15
unfolding bad_base
base-other pre write_back load rn rd fine writes = not-pc rn (or-left (is_pc rn) _ (and-true (writes_back pre write_back) _ writes fine))

user-banks : (user write_back load : Bool) (list : ℕ) (s : ArmState) → bad_user user write_back load list s ≡ false → user ≡ true → bank_in s.cpsr ≢ 0
unfolding bad_user has_saved
user-banks user write_back load list s fine is_user =
    let some : 0 < bank_in s.cpsr = ltb-true 0 (bank_in s.cpsr) (not-true _ (or-left _ _ (and-true user _ is_user fine))) in
    λ none. omega arith

user-mode : (user write_back load : Bool) (list : ℕ) (s : ArmState) → bad_user user write_back load list s ≡ false → user ≡ true → load ≡ true → lists list 15 ≡ true → has_mode (saved s) ≡ true
unfolding bad_user
user-mode user write_back load list s fine is_user loads pc =
    let rest : (if load && lists list 15 then not (has_mode (saved s)) else write_back) ≡ false = or-right _ _ (and-true user _ is_user fine) in
    not-true (has_mode (saved s)) (go load (lists list 15) loads pc rest)
  where
    go : (l p : Bool) → l ≡ true → p ≡ true → (if l && p then not (has_mode (saved s)) else write_back) ≡ false → not (has_mode (saved s)) ≡ false
    go true true a b h = h
    go true false a b h = absurd (wrong b)
      where
        wrong : false ≡ true → ⊥
        wrong h = cc
    go false p a b h = absurd (wrong a)
      where
        wrong : false ≡ true → ⊥
        wrong h = cc

arm_effect-good : (u : Under) (i : ArmInstr) (w : Working) (word : ℕ) → ReadsArm word i → IsValidState u.before → IsGood w → is_thumb w.core.cpsr ≡ false → arm_unpredictable i w.core ≡ false
    → IsValidState (arm_effect u i w).state
unfolding arm_effect arm_unpredictable shifted_operand register_shifted_operand
arm_effect-good u (arm.DataImmediate c o s n d r i) w word reads b g in_arm fine =
    let (_, (_, (_, (_, (_, (hr, (hi, _))))))) = reads.fits in
    core-good w _ g (calculated-valid o s n d (immediate_operand r i (carry_in w.core.cpsr)) w.core g.core (immediate-fits r i _ hr hi (carry-le w.core.cpsr)) fine)
arm_effect-good u (arm.DataShifted c o s n d a t m) w word reads b g in_arm fine =
    core-good w _ g (calculated-valid o s n d _ w.core g.core (by_amount-fits t (operand_at w.core m) a _ (operand-small w.core m (nearly w.core g.core)) (carry-le w.core.cpsr)) fine)
arm_effect-good u (arm.DataRegisterShifted c o s n d rs t m) w word reads b g in_arm fine =
    core-good w _ g (calculated-valid o s n d _ w.core g.core (by_register-fits t (register w.core m) _ _ (register-small w.core m (nearly w.core g.core)) (carry-le w.core.cpsr)) (or-left _ _ fine))
arm_effect-good u (arm.Multiply c a s d n rs m) w word reads b g in_arm fine =
    core-good w _ g (multiplied-valid a s d n rs m w.core g.core (not-pc d (or-left _ _ (or-right _ _ fine))))
arm_effect-good u (arm.MultiplyLong c sg a s h l rs m) w word reads b g in_arm fine =
    let third : (is_pc h || (is_pc l || (is_pc rs || is_pc m))) ≡ false = or-right (l == m) _ (or-right (h == m) _ (or-right (h == l) _ fine)) in
    core-good w _ g (multiplied_long-valid sg a s h l rs m w.core g.core (not-pc h (or-left _ _ third)) (not-pc l (or-left _ _ (or-right _ _ third))))
arm_effect-good u (arm.Swap c bt n d m) w word reads b g in_arm fine = swapped-good u (byte_width bt) n d m w b g (not-pc d (or-left _ _ (or-right _ _ fine)))
arm_effect-good u (arm.BranchExchange c m) w word reads b g in_arm fine = core-good w _ g (exchanged-valid (operand_at w.core m) w.core g.core (operand-small w.core m (nearly w.core g.core)))
arm_effect-good u (arm.ReadStatus c p d) w word reads b g in_arm fine = core-good w _ g (read_status-valid p d w.core g.core (not-pc d (or-left _ _ fine)))
arm_effect-good u (arm.WriteStatus c p f m) w word reads b g in_arm fine = core-good w _ g (written_status-valid p f (register w.core m) w.core g.core in_arm (or-right _ _ fine))
arm_effect-good u (arm.WriteStatusImmediate c p f r i) w word reads b g in_arm fine = core-good w _ g (written_status-valid p f (operand r i) w.core g.core in_arm fine)
arm_effect-good u (arm.TransferImmediate c p up bt wb l n d v) w word reads b g in_arm fine =
    transferred-good u l false p up wb (byte_width bt) n d v w b g (base-other p wb l n d (or-left _ _ fine))
arm_effect-good u (arm.TransferShifted c p up bt wb l n d a t m) w word reads b g in_arm fine =
    transferred-good u l false p up wb (byte_width bt) n d _ w b g (base-other p wb l n d (or-left _ _ fine))
arm_effect-good u (arm.TransferHalf c p up e wb l n d h y k) w word reads b g in_arm fine =
    transferred-good u l (half_signed y) p up wb (half_width y) n d (half_offset e h k w.core) w b g (base-other p wb l n d (or-left _ _ (or-right _ _ fine)))
arm_effect-good u (arm.TransferBlock c p up s wb l n r) w word reads b g in_arm fine =
    let rest : (is_pc n || (bad_block_base wb l n r || bad_user s wb l r w.core)) ≡ false = or-right (r == 0) _ fine in
    let user : bad_user s wb l r w.core ≡ false = or-right (bad_block_base wb l n r) _ (or-right (is_pc n) _ rest) in
    block_moved-good u false l p up s wb n r w b g (not-pc n (or-left _ _ rest)) (user-banks s wb l r w.core user) (user-mode s wb l r w.core user)
arm_effect-good u (arm.Branch c l d) w word reads b g in_arm fine = core-good w _ g (branched-valid l d w.core g.core in_arm)
arm_effect-good u (arm.SoftwareInterrupt c n) w word reads b g in_arm fine = interrupted-good n w g
arm_effect-good u (arm.Undefined c bs) w word reads b g in_arm fine = raised-good exception.Undefined w g

pub arm_done-good : (u : Under) (i : ArmInstr) (w : Working) (word : ℕ) → ReadsArm word i → IsValidState u.before → IsGood w → is_thumb w.core.cpsr ≡ false → IsValidState (arm_done u i w).state
unfolding arm_done
arm_done-good u i w word reads b g in_arm = go (passes (arm_condition i) w.core.cpsr) (arm_unpredictable i w.core) refl
  where
    go : (p x : Bool) → arm_unpredictable i w.core ≡ x → IsValidState (if not p then ran w else if x then given_back u w else arm_effect u i w).state
    go false x e = ran-good w g
    go true true e = given_back-good u w b
    go true false e = arm_effect-good u i w word reads b g in_arm e
