-- An instruction of Thumb state, beside.
use Rattle.std.proofs.Common.{◌≡◌, ◌≢◌, ℕ, ◌+◌, ◌*◌, ◌%◌, ◌^◌, Bool, true, false, not, List, refl, ap, if◌then◌else◌, arith}
use Rattle.std.specs.List.{AllByRecursion}
use Rattle.sdt_word.specs.declared.codes.ShiftKind.{ShiftKind}
use Rattle.sdt_word.specs.declared.codes.Width.TheVariants as width
use Rattle.arm_isa.specs.declared.instr.Operation.{Operation}
use Rattle.arm_isa.specs.declared.instr.Operation.TheVariants as operation
use Rattle.thumb_isa.specs.declared.instr.ThumbInstr.{ThumbInstr}
use Rattle.thumb_isa.specs.declared.instr.ThumbInstr.TheVariants.{ShiftImmediate, AddSubtract, DataImmediate, DataRegister, HighRegister, LoadLiteral, TransferRegister, TransferSigned, TransferImmediate, TransferHalf, TransferStack, LoadAddress, AdjustStack, PushPop, TransferMultiple, BranchConditional, SoftwareInterrupt, Branch, BranchLink, Undefined}
use Rattle.thumb_isa.specs.declared.instr.ImmediateOperation.{ImmediateOperation}
use Rattle.thumb_isa.specs.declared.instr.ImmediateOperation.TheVariants as immediate
use Rattle.thumb_isa.specs.declared.instr.ThumbOperation.{ThumbOperation}
use Rattle.thumb_isa.specs.declared.instr.ThumbOperation.TheVariants as thumb
use Rattle.thumb_isa.specs.declared.instr.HighOperation.{HighOperation}
use Rattle.thumb_isa.specs.declared.instr.HighOperation.TheVariants as high
use Rattle.arm7_model.specs.declared.state.ArmState.{ArmState}
use Rattle.arm7_model.specs.declared.event.Exception.TheVariants as exception
use Rattle.arm7_model.specs.Accesses.{Working}
use Rattle.arm7_model.specs.Arithmetic.{carry_in, passes, shifted_by_amount, shifted_by_register}
use Rattle.arm7_model.specs.ArmStep.{byte_width}
use Rattle.arm7_model.specs.Branches.{branch_target, linked_first, linked_second}
use Rattle.arm7_model.specs.Outcomes.{Under, given_back, ran}
use Rattle.arm7_model.specs.Registers.{bank_in, operand_at, register, with_pc, with_register}
use Rattle.arm7_model.specs.ThumbStep.{address_loaded, bad_high, bad_place, combined, has_sign, high_done, high_number, immediate_done, multiple_write_back, pc_base, plain_operand, register_done, shift_kind, shifted_register, signed_load, signed_width, stack_adjusted, stack_list, thumb_branched, thumb_done, thumb_effect, thumb_transfer, thumb_unpredictable}
use Rattle.kit_laws.specs.Beside.{Scratch, beside_step, beside_under, besides, with_irq}
use Rattle.kit_laws.specs.Rules.{IsOwn}
use Rattle.kit_laws.proofs.BesideRegisters.{raised-beside}
use Rattle.kit_laws.proofs.BesideData.{calculated-irq, exchanged-irq, multiplied-irq}
use Rattle.kit_laws.proofs.BesideBlocks.{block-beside}
use Rattle.kit_laws.proofs.BesideTransfers.{interrupted-beside, loaded-beside, transferred-beside}

unpredictable-irq : (k : Scratch) (i : ThumbInstr) (s : ArmState) → thumb_unpredictable i (with_irq k s) ≡ thumb_unpredictable i s
unfolding thumb_unpredictable bad_high bad_place operand_at register with_irq
unpredictable-irq k (ShiftImmediate o i rs d) s = refl
unpredictable-irq k (AddSubtract e o n rs d) s = refl
unpredictable-irq k (DataImmediate o d i) s = refl
unpredictable-irq k (DataRegister thumb.Mul rs d) s = refl
unpredictable-irq k (DataRegister thumb.And rs d) s = refl
unpredictable-irq k (DataRegister thumb.Eor rs d) s = refl
unpredictable-irq k (DataRegister thumb.Lsl rs d) s = refl
unpredictable-irq k (DataRegister thumb.Lsr rs d) s = refl
unpredictable-irq k (DataRegister thumb.Asr rs d) s = refl
unpredictable-irq k (DataRegister thumb.Adc rs d) s = refl
unpredictable-irq k (DataRegister thumb.Sbc rs d) s = refl
unpredictable-irq k (DataRegister thumb.Ror rs d) s = refl
unpredictable-irq k (DataRegister thumb.Tst rs d) s = refl
unpredictable-irq k (DataRegister thumb.Neg rs d) s = refl
unpredictable-irq k (DataRegister thumb.Cmp rs d) s = refl
unpredictable-irq k (DataRegister thumb.Cmn rs d) s = refl
unpredictable-irq k (DataRegister thumb.Orr rs d) s = refl
unpredictable-irq k (DataRegister thumb.Bic rs d) s = refl
unpredictable-irq k (DataRegister thumb.Mvn rs d) s = refl
unpredictable-irq k (HighRegister high.Add h g rs d) s = refl
unpredictable-irq k (HighRegister high.Cmp h g rs d) s = refl
unpredictable-irq k (HighRegister high.Mov h g rs d) s = refl
unpredictable-irq k (HighRegister high.Bx h g rs d) s = refl
unpredictable-irq k (LoadLiteral d i) s = refl
unpredictable-irq k (TransferRegister l b o n d) s = refl
unpredictable-irq k (TransferSigned x o n d) s = refl
unpredictable-irq k (TransferImmediate b l i n d) s = refl
unpredictable-irq k (TransferHalf l i n d) s = refl
unpredictable-irq k (TransferStack l d i) s = refl
unpredictable-irq k (LoadAddress p d i) s = refl
unpredictable-irq k (AdjustStack u i) s = refl
unpredictable-irq k (PushPop l r x) s = refl
unpredictable-irq k (TransferMultiple l n x) s = refl
unpredictable-irq k (BranchConditional c i) s = refl
unpredictable-irq k (SoftwareInterrupt i) s = refl
unpredictable-irq k (Branch i) s = refl
unpredictable-irq k (BranchLink second i) s = refl
unpredictable-irq k (Undefined i) s = refl

module _ (k : Scratch) (s : ArmState) (mode : bank_in s.cpsr ≢ 2) where
  immediate-irq : (o : ImmediateOperation) (d i : ℕ) → bank_in (immediate_done o d i s).cpsr ≢ 2 → immediate_done o d i (with_irq k s) ≡ with_irq k (immediate_done o d i s)
  unfolding immediate_done plain_operand with_irq
  immediate-irq immediate.Mov d i t = calculated-irq k s operation.Mov true 0 d (plain_operand i s) mode t
  immediate-irq immediate.Cmp d i t = calculated-irq k s operation.Cmp true d 0 (plain_operand i s) mode t
  immediate-irq immediate.Add d i t = calculated-irq k s operation.Add true d d (plain_operand i s) mode t
  immediate-irq immediate.Sub d i t = calculated-irq k s operation.Sub true d d (plain_operand i s) mode t

  combined-irq : (o : Operation) (rs d : ℕ) → bank_in (combined o rs d s).cpsr ≢ 2 → combined o rs d (with_irq k s) ≡ with_irq k (combined o rs d s)
  unfolding combined plain_operand register with_irq
  combined-irq o rs d t = calculated-irq k s o true d d (plain_operand (register s rs) s) mode t

  shifted-irq : (x : ShiftKind) (rs d : ℕ) → bank_in (shifted_register x rs d s).cpsr ≢ 2 → shifted_register x rs d (with_irq k s) ≡ with_irq k (shifted_register x rs d s)
  unfolding shifted_register register with_irq
  shifted-irq x rs d t = calculated-irq k s operation.Mov true 0 d (shifted_by_register x (register s d) (register s rs % 256) (carry_in s.cpsr)) mode t

  register-irq : (o : ThumbOperation) (rs d : ℕ) → bank_in (register_done o rs d s).cpsr ≢ 2 → register_done o rs d (with_irq k s) ≡ with_irq k (register_done o rs d s)
  unfolding register_done plain_operand with_irq
  register-irq thumb.And rs d t = combined-irq _ rs d t
  register-irq thumb.Eor rs d t = combined-irq _ rs d t
  register-irq thumb.Lsl rs d t = shifted-irq _ rs d t
  register-irq thumb.Lsr rs d t = shifted-irq _ rs d t
  register-irq thumb.Asr rs d t = shifted-irq _ rs d t
  register-irq thumb.Adc rs d t = combined-irq _ rs d t
  register-irq thumb.Sbc rs d t = combined-irq _ rs d t
  register-irq thumb.Ror rs d t = shifted-irq _ rs d t
  register-irq thumb.Tst rs d t = combined-irq _ rs d t
  register-irq thumb.Neg rs d t = calculated-irq k s operation.Rsb true rs d (plain_operand 0 s) mode t
  register-irq thumb.Cmp rs d t = combined-irq _ rs d t
  register-irq thumb.Cmn rs d t = combined-irq _ rs d t
  register-irq thumb.Orr rs d t = combined-irq _ rs d t
  register-irq thumb.Mul rs d t = multiplied-irq k s false true d 0 d rs
  register-irq thumb.Bic rs d t = combined-irq _ rs d t
  register-irq thumb.Mvn rs d t = combined-irq _ rs d t

  high-irq : (o : HighOperation) (rs d : ℕ) → bank_in (high_done o rs d s).cpsr ≢ 2 → high_done o rs d (with_irq k s) ≡ with_irq k (high_done o rs d s)
  unfolding high_done plain_operand operand_at register with_irq
  high-irq high.Add rs d t = calculated-irq k s operation.Add false d d (plain_operand (operand_at s rs) s) mode t
  high-irq high.Cmp rs d t = calculated-irq k s operation.Cmp true d 0 (plain_operand (operand_at s rs) s) mode t
  high-irq high.Mov rs d t = calculated-irq k s operation.Mov false 0 d (plain_operand (operand_at s rs) s) mode t
  high-irq high.Bx rs d t = exchanged-irq k s (operand_at s rs)

module _ (work : ℕ) (k : Scratch) (answers : List ℕ) (u : Under) (w : Working) (before : bank_in u.before.core.cpsr ≢ 2) (mode : bank_in w.core.cpsr ≢ 2) where
  -- an instruction that touches registers alone
  on-registers : (c' c : ArmState) → c' ≡ with_irq k c → ran (record (besides work k answers w) { core = c' }) ≡ beside_step work k (ran (record w { core = c }))
  unfolding ran
  on-registers c' c e = ap (λ (x : ArmState). ran (record (besides work k answers w) { core = x })) e

  effect : (i : ThumbInstr) → AllByRecursion (IsOwn u.board work) (thumb_effect u i w).accesses → bank_in (thumb_effect u i w).state.core.cpsr ≢ 2
      → thumb_effect (beside_under work k u) i (besides work k answers w) ≡ beside_step work k (thumb_effect u i w)
  unfolding thumb_effect thumb_transfer ran address_loaded stack_adjusted thumb_branched branch_target linked_first linked_second pc_base plain_operand operand_at register with_register with_pc with_irq
  effect (ShiftImmediate o i rs d) own t =
      on-registers _ _ (calculated-irq k w.core operation.Mov true 0 d (shifted_by_amount (shift_kind o) (register w.core rs) i (carry_in w.core.cpsr)) mode t)
  effect (AddSubtract e o n rs d) own t =
      on-registers _ _ (calculated-irq k w.core (if o then operation.Sub else operation.Add) true rs d (plain_operand (if e then n else register w.core n) w.core) mode t)
  effect (DataImmediate o d i) own t = on-registers _ _ (immediate-irq k w.core mode o d i t)
  effect (DataRegister o rs d) own t = on-registers _ _ (register-irq k w.core mode o rs d t)
  effect (HighRegister o h g rs d) own t = on-registers _ _ (high-irq k w.core mode o (high_number g rs) (high_number h d) t)
  effect (LoadLiteral d i) own t = loaded-beside work k answers u w before false width.Word ((pc_base w.core + 4 * i) % 2 ^ 32) d w.core own
  effect (TransferRegister l b o n d) own t = transferred-beside work k answers u w before l false true true false (byte_width b) n d (register w.core o) own
  effect (TransferSigned x o n d) own t = transferred-beside work k answers u w before (signed_load x) (has_sign x) true true false (signed_width x) n d (register w.core o) own
  effect (TransferImmediate b l i n d) own t = transferred-beside work k answers u w before l false true true false (byte_width b) n d (if b then i else 4 * i) own
  effect (TransferHalf l i n d) own t = transferred-beside work k answers u w before l false true true false width.Half n d (2 * i) own
  effect (TransferStack l d i) own t = transferred-beside work k answers u w before l false true true false width.Word 13 d (4 * i) own
  effect (LoadAddress true d i) own t = refl
  effect (LoadAddress false d i) own t = refl
  effect (AdjustStack x i) own t = refl
  effect (PushPop l r x) own t = block-beside work k answers u w before mode true l (not l) l false true 13 (stack_list l r x) own t
  effect (TransferMultiple l n x) own t = block-beside work k answers u w before mode true l false true false (multiple_write_back l n x) n x own t
  effect (BranchConditional c i) own t = go (passes c w.core.cpsr)
    where
      go : (x : Bool) → (if x then ran (record (besides work k answers w) { core = thumb_branched 8 i (with_irq k w.core) }) else ran (besides work k answers w))
          ≡ beside_step work k (if x then ran (record w { core = thumb_branched 8 i w.core }) else ran w)
      go true = refl
      go false = refl
  effect (SoftwareInterrupt i) own t = interrupted-beside work k answers u w before i mode
  effect (Branch i) own t = refl
  effect (BranchLink true i) own t = refl
  effect (BranchLink false i) own t = refl
  effect (Undefined i) own t = raised-beside work k answers exception.Undefined w mode (omega arith)

  pub thumb-beside : (i : ThumbInstr) → AllByRecursion (IsOwn u.board work) (thumb_done u i w).accesses → bank_in (thumb_done u i w).state.core.cpsr ≢ 2
      → thumb_done (beside_under work k u) i (besides work k answers w) ≡ beside_step work k (thumb_done u i w)
  unfolding thumb_done with_irq given_back
  thumb-beside i own t = rw (unpredictable-irq k i w.core) (go (thumb_unpredictable i w.core) own t)
    where
      go : (x : Bool) → AllByRecursion (IsOwn u.board work) (if x then given_back u w else thumb_effect u i w).accesses
          → bank_in (if x then given_back u w else thumb_effect u i w).state.core.cpsr ≢ 2
          → (if x then given_back (beside_under work k u) (besides work k answers w) else thumb_effect (beside_under work k u) i (besides work k answers w))
          ≡ beside_step work k (if x then given_back u w else thumb_effect u i w)
      go true own t = refl
      go false own t = effect i own t
