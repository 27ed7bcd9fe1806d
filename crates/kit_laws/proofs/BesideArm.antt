-- An instruction of ARM state, beside.
use Rattle.std.proofs.Common.{◌≡◌, ◌≢◌, ℕ, Bool, true, false, not, List, refl, ap, if◌then◌else◌, arith}
use Rattle.std.specs.List.{AllByRecursion}
use Rattle.sdt_word.specs.Numbers.{operand}
use Rattle.arm_isa.specs.declared.instr.ArmInstr.{ArmInstr}
use Rattle.arm_isa.specs.declared.instr.ArmInstr.TheVariants.{DataImmediate, DataShifted, DataRegisterShifted, Multiply, MultiplyLong, Swap, BranchExchange, ReadStatus, WriteStatus, WriteStatusImmediate, TransferImmediate, TransferShifted, TransferHalf, TransferBlock, Branch, SoftwareInterrupt, Undefined}
use Rattle.arm7_model.specs.declared.state.ArmState.{ArmState}
use Rattle.arm7_model.specs.declared.event.Exception.TheVariants as exception
use Rattle.arm7_model.specs.Accesses.{Working}
use Rattle.arm7_model.specs.Arithmetic.{carry_in, immediate_operand, passes}
use Rattle.arm7_model.specs.ArmStep.{arm_condition, arm_done, arm_effect, arm_unpredictable, bad_return, bad_status, bad_user, bad_write, byte_width, half_offset, half_signed, half_width, register_shifted_operand, shifted_operand, transfer_at}
use Rattle.arm7_model.specs.Data.{status_after, status_fields}
use Rattle.arm7_model.specs.Outcomes.{Under, given_back, ran}
use Rattle.arm7_model.specs.Registers.{bank_in, has_saved, operand_at, register}
use Rattle.kit_laws.specs.Beside.{Scratch, beside_step, beside_under, besides, with_irq}
use Rattle.kit_laws.specs.Rules.{IsOwn}
use Rattle.kit_laws.proofs.IrqRegisters.{irq-saved}
use Rattle.kit_laws.proofs.BesideRegisters.{raised-beside}
use Rattle.kit_laws.proofs.BesideData.{branched-irq, calculated-irq, exchanged-irq, multiplied-irq, multiplied_long-irq, read_status-irq, written_status-irq}
use Rattle.kit_laws.proofs.BesideBlocks.{block-beside}
use Rattle.kit_laws.proofs.BesideTransfers.{interrupted-beside, swapped-beside, transferred-beside}

unpredictable-irq : (k : Scratch) (i : ArmInstr) (s : ArmState) → bank_in s.cpsr ≢ 2 → arm_unpredictable i (with_irq k s) ≡ arm_unpredictable i s
unfolding arm_unpredictable bad_return bad_status bad_user bad_write has_saved status_after status_fields transfer_at shifted_operand half_offset operand_at register with_irq
unpredictable-irq k (DataImmediate c o s n d r i) core f = rw (irq-saved k core f) refl
unpredictable-irq k (DataShifted c o s n d a t m) core f = rw (irq-saved k core f) refl
unpredictable-irq k (DataRegisterShifted c o s n d rs t m) core f = rw (irq-saved k core f) refl
unpredictable-irq k (Multiply c a s d n rs m) core f = refl
unpredictable-irq k (MultiplyLong c g a s h l rs m) core f = refl
unpredictable-irq k (Swap c b n d m) core f = refl
unpredictable-irq k (BranchExchange c m) core f = refl
unpredictable-irq k (ReadStatus c p d) core f = refl
unpredictable-irq k (WriteStatus c p x m) core f = refl
unpredictable-irq k (WriteStatusImmediate c p x r i) core f = refl
unpredictable-irq k (TransferImmediate c p u b w l n d v) core f = refl
unpredictable-irq k (TransferShifted c p u b w l n d a t m) core f = refl
unpredictable-irq k (TransferHalf c p u e w l n d h y x) core f = refl
unpredictable-irq k (TransferBlock c p u s w l n r) core f = rw (irq-saved k core f) refl
unpredictable-irq k (Branch c l d) core f = refl
unpredictable-irq k (SoftwareInterrupt c n) core f = refl
unpredictable-irq k (Undefined c u) core f = refl

module _ (work : ℕ) (k : Scratch) (answers : List ℕ) (u : Under) (w : Working) (before : bank_in u.before.core.cpsr ≢ 2) (mode : bank_in w.core.cpsr ≢ 2) where
  -- an instruction that touches registers alone
  on-registers : (c' c : ArmState) → c' ≡ with_irq k c → ran (record (besides work k answers w) { core = c' }) ≡ beside_step work k (ran (record w { core = c }))
  unfolding ran
  on-registers c' c e = ap (λ (x : ArmState). ran (record (besides work k answers w) { core = x })) e

  effect : (i : ArmInstr) → AllByRecursion (IsOwn u.board work) (arm_effect u i w).accesses → bank_in (arm_effect u i w).state.core.cpsr ≢ 2
      → arm_effect (beside_under work k u) i (besides work k answers w) ≡ beside_step work k (arm_effect u i w)
  unfolding arm_effect ran shifted_operand register_shifted_operand half_offset operand_at register with_irq
  effect (DataImmediate c o s n d r i) own t = on-registers _ _ (calculated-irq k w.core o s n d (immediate_operand r i (carry_in w.core.cpsr)) mode t)
  effect (DataShifted c o s n d a x m) own t = on-registers _ _ (calculated-irq k w.core o s n d (shifted_operand x a m w.core) mode t)
  effect (DataRegisterShifted c o s n d rs x m) own t = on-registers _ _ (calculated-irq k w.core o s n d (register_shifted_operand x rs m w.core) mode t)
  effect (Multiply c a s d n rs m) own t = on-registers _ _ (multiplied-irq k w.core a s d n rs m)
  effect (MultiplyLong c g a s h l rs m) own t = on-registers _ _ (multiplied_long-irq k w.core g a s h l rs m)
  effect (BranchExchange c m) own t = on-registers _ _ (exchanged-irq k w.core (operand_at w.core m))
  effect (ReadStatus c p d) own t = on-registers _ _ (read_status-irq k w.core p d mode)
  effect (WriteStatus c p f m) own t = on-registers _ _ (written_status-irq k w.core p f (register w.core m) mode t)
  effect (WriteStatusImmediate c p f r i) own t = on-registers _ _ (written_status-irq k w.core p f (operand r i) mode t)
  effect (Branch c l d) own t = on-registers _ _ (branched-irq k w.core l d)
  effect (Undefined c bits) own t = raised-beside work k answers exception.Undefined w mode (omega arith)
  effect (Swap c b n d m) own t = swapped-beside work k answers u w before (byte_width b) n d m own
  effect (TransferImmediate c p up b wb l n d v) own t = transferred-beside work k answers u w before l false p up wb (byte_width b) n d v own
  effect (TransferShifted c p up b wb l n d a x m) own t = transferred-beside work k answers u w before l false p up wb (byte_width b) n d (shifted_operand x a m w.core).value own
  effect (TransferHalf c p up e wb l n d h y x) own t = transferred-beside work k answers u w before l (half_signed y) p up wb (half_width y) n d (half_offset e h x w.core) own
  effect (TransferBlock c p up s wb l n r) own t = block-beside work k answers u w before mode false l p up s wb n r own t
  effect (SoftwareInterrupt c n) own t = interrupted-beside work k answers u w before n mode

  pub arm-beside : (i : ArmInstr) → AllByRecursion (IsOwn u.board work) (arm_done u i w).accesses → bank_in (arm_done u i w).state.core.cpsr ≢ 2
      → arm_done (beside_under work k u) i (besides work k answers w) ≡ beside_step work k (arm_done u i w)
  unfolding arm_done with_irq ran given_back
  arm-beside i own t = rw (unpredictable-irq k i w.core mode) (go (passes (arm_condition i) w.core.cpsr) (arm_unpredictable i w.core) own t)
    where
      go : (p x : Bool) → AllByRecursion (IsOwn u.board work) (if not p then ran w else if x then given_back u w else arm_effect u i w).accesses
          → bank_in (if not p then ran w else if x then given_back u w else arm_effect u i w).state.core.cpsr ≢ 2
          → (if not p then ran (besides work k answers w) else if x then given_back (beside_under work k u) (besides work k answers w) else arm_effect (beside_under work k u) i (besides work k answers w))
          ≡ beside_step work k (if not p then ran w else if x then given_back u w else arm_effect u i w)
      go false x own t = refl
      go true true own t = refl
      go true false own t = effect i own t
