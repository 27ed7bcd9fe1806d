-- Data processing, multiplies, status registers and branches, beside.
use Rattle.std.proofs.Common.{◌≡◌, ◌≢◌, ℕ, ◌==◌, Bool, true, false, not, refl, ap, ◌∙◌, if◌then◌else◌}
use Rattle.arm_isa.specs.declared.instr.Operation.{Operation}
use Rattle.arm7_model.specs.declared.state.ArmState.{ArmState}
use Rattle.arm7_model.specs.Arithmetic.{Computed, Shifted, computed, is_comparison}
use Rattle.arm7_model.specs.Branches.{branch_target, branched, exchanged}
use Rattle.arm7_model.specs.Data.{calculated, completed, flagged, multiplied, multiplied_long, read_status, status_after, status_fields, status_with, written_status}
use Rattle.arm7_model.specs.Registers.{bank_in, operand_at, register, restored, saved, with_cpsr, with_pc, with_register, with_result, with_saved}
use Rattle.kit_laws.specs.Beside.{Scratch, with_irq}
use Rattle.kit_laws.proofs.IrqRegisters.{irq-restored, irq-saved, irq-with_cpsr, irq-with_saved}
use Rattle.kit_laws.proofs.BesideRegisters.{irq-with_pc, irq-with_result}

module _ (k : Scratch) (s : ArmState) where
  completed-irq : (o : Operation) (set_flags : Bool) (rd : ℕ) (c : Computed) → bank_in s.cpsr ≢ 2 → bank_in (completed o set_flags rd c s).cpsr ≢ 2
      → completed o set_flags rd c (with_irq k s) ≡ with_irq k (completed o set_flags rd c s)
  unfolding completed flagged with_register with_irq with_pc restored with_cpsr
  completed-irq o set_flags rd c f = go (is_comparison o) set_flags (rd == 15)
    where
      go : (x y z : Bool)
          → bank_in (if x then flagged s c else if not y then with_result s rd c.value else if z then with_pc (restored s) c.value else with_register (flagged s c) rd c.value).cpsr ≢ 2
          → (if x then flagged (with_irq k s) c else if not y then with_result (with_irq k s) rd c.value else if z then with_pc (restored (with_irq k s)) c.value else with_register (flagged (with_irq k s) c) rd c.value)
          ≡ with_irq k (if x then flagged s c else if not y then with_result s rd c.value else if z then with_pc (restored s) c.value else with_register (flagged s c) rd c.value)
      go true y z t = refl
      go false false z t = irq-with_result k s rd c.value
      go false true true t = ap (λ (x : ArmState). with_pc x c.value) (irq-restored k s f t) ∙ irq-with_pc k (restored s) c.value
      go false true false t = refl

  pub calculated-irq : (o : Operation) (set_flags : Bool) (rn rd : ℕ) (operand : Shifted) → bank_in s.cpsr ≢ 2 → bank_in (calculated o set_flags rn rd operand s).cpsr ≢ 2
      → calculated o set_flags rn rd operand (with_irq k s) ≡ with_irq k (calculated o set_flags rn rd operand s)
  unfolding calculated operand_at register with_irq
  calculated-irq o set_flags rn rd operand f t =
      completed-irq o set_flags rd (computed o (operand_at s rn) operand.value operand.carry s.cpsr) f t

  pub multiplied-irq : (accumulate set_flags : Bool) (rd rn rs rm : ℕ) → multiplied accumulate set_flags rd rn rs rm (with_irq k s) ≡ with_irq k (multiplied accumulate set_flags rd rn rs rm s)
  unfolding multiplied register with_register with_irq
  multiplied-irq accumulate true rd rn rs rm = refl
  multiplied-irq accumulate false rd rn rs rm = refl

  pub multiplied_long-irq : (signed accumulate set_flags : Bool) (high low rs rm : ℕ)
      → multiplied_long signed accumulate set_flags high low rs rm (with_irq k s) ≡ with_irq k (multiplied_long signed accumulate set_flags high low rs rm s)
  unfolding multiplied_long register with_register with_irq
  multiplied_long-irq signed accumulate true high low rs rm = refl
  multiplied_long-irq signed accumulate false high low rs rm = refl

  pub exchanged-irq : (v : ℕ) → exchanged v (with_irq k s) ≡ with_irq k (exchanged v s)
  unfolding exchanged with_pc with_register with_irq
  exchanged-irq v = refl

  pub branched-irq : (link : Bool) (d : ℕ) → branched link d (with_irq k s) ≡ with_irq k (branched link d s)
  unfolding branched branch_target operand_at register with_register with_irq
  branched-irq true d = refl
  branched-irq false d = refl

  pub read_status-irq : (of_saved : Bool) (rd : ℕ) → bank_in s.cpsr ≢ 2 → read_status of_saved rd (with_irq k s) ≡ with_irq k (read_status of_saved rd s)
  unfolding read_status with_register with_irq
  read_status-irq true rd f = ap (with_register (with_irq k s) rd) (irq-saved k s f)
  read_status-irq false rd f = refl

  pub written_status-irq : (to_saved : Bool) (fields v : ℕ) → bank_in s.cpsr ≢ 2 → bank_in (written_status to_saved fields v s).cpsr ≢ 2
      → written_status to_saved fields v (with_irq k s) ≡ with_irq k (written_status to_saved fields v s)
  unfolding written_status status_after status_fields with_irq with_cpsr
  written_status-irq true fields v f t =
      ap (λ (x : ℕ). with_saved (with_irq k s) (status_with fields v x)) (irq-saved k s f) ∙ irq-with_saved k s (status_with fields v (saved s)) f
  written_status-irq false fields v f t = irq-with_cpsr k s (status_after s fields v) f t
