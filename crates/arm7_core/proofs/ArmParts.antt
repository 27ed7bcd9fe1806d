-- Rows of ARM state: parts that do the same, and rows that touch registers alone.
use Rattle.std.proofs.Common.{◌≡◌, ℕ, Bool, true, false, List, ap, ◌∙◌, sym, subst, refl}
use Rattle.std.specs.Prelude.{if◌then◌else◌, Option, Some, None, unwrap_or}
use Rattle.sdt_word.specs.declared.codes.Condition.{Condition}
use Rattle.sdt_word.specs.declared.codes.ShiftKind.{ShiftKind}
use Rattle.sdt_word.specs.declared.codes.Width.{Width}
use Rattle.arm_isa.specs.declared.instr.HalfKind.{HalfKind}
use Rattle.arm_isa.specs.declared.instr.Operation.{Operation}
use Rattle.arm7_registers.specs.declared.shifter.Operand.{Operand}
use Rattle.arm7_registers.specs.Values.{shifted_of}
use Rattle.arm7_model.specs.Blocks.{block_moved}
use Rattle.arm7_model.specs.Transfers.{swapped, transferred}
use Rattle.arm_isa.specs.declared.instr.ArmInstr.{ArmInstr}
use Rattle.arm_isa.specs.declared.instr.ArmInstr.TheVariants as arm
use Rattle.arm7_model.specs.declared.state.ArmState.{ArmState}
use Rattle.arm7_model.specs.declared.event.Exception.{Exception}
use Rattle.arm7_model.specs.declared.event.Exception.TheVariants as exception
use Rattle.arm7_model.specs.Accesses.{Access, Working}
use Rattle.arm7_model.specs.Arithmetic.{Shifted, carry_in, immediate_operand, passes}
use Rattle.arm7_model.specs.ArmStep.{arm_condition, arm_done, arm_effect, arm_unpredictable, byte_width, half_offset, half_signed, half_width, shifted_operand}
use Rattle.arm7_model.specs.Branches.{branched, interrupted, is_host}
use Rattle.arm7_model.specs.Data.{calculated}
use Rattle.arm7_model.specs.Outcomes.{Under, ran, raised, hosted}
use Rattle.arm7_bus.specs.States.{State}
use Rattle.arm7_transfers.specs.declared.outcome.Outcome.{Outcome}
use Rattle.arm7_transfers.specs.declared.outcome.Outcome.TheVariants.{Ran, Unpredictable, Raised, Host}
use Rattle.arm7_transfers.specs.Boards.{working}
use Rattle.arm7_transfers.specs.Done.{Part, Makes, IsDone}
use Rattle.arm7_transfers.specs.Ready.{IsReady}
use Rattle.arm7_transfers.proofs.DoneLemmas.{Same, done-as, makes-nothing}
use Rattle.arm7_core.specs.Acts.{acted, held_back, is_on_registers}

abbrev pub effect_part : ArmInstr → Part
effect_part i u w = arm_effect u i w

abbrev pub done_part : ArmInstr → Part
done_part i u w = arm_done u i w

-- a row of registers alone
acts-same : (i : ArmInstr) → is_on_registers i ≡ true → (u : Under) (w : Working) → arm_effect u i w ≡ ran (record w { core = acted i w.core })
unfolding arm_effect
acts-same (arm.DataImmediate c o s n d r b) h u w = refl
acts-same (arm.DataShifted c o s n d a t m) h u w = refl
acts-same (arm.DataRegisterShifted c o s n d rs t m) h u w = refl
acts-same (arm.Multiply c a s d n rs m) h u w = refl
acts-same (arm.MultiplyLong c g a s x l rs m) h u w = refl
acts-same (arm.BranchExchange c m) h u w = refl
acts-same (arm.ReadStatus c p d) h u w = refl
acts-same (arm.WriteStatus c p f m) h u w = refl
acts-same (arm.WriteStatusImmediate c p f r b) h u w = refl
acts-same (arm.Branch c l d) h u w = refl
acts-same (arm.Swap c b n d m) h u w = absurd (cc)
acts-same (arm.TransferImmediate c p up b wb l n d v) h u w = absurd (cc)
acts-same (arm.TransferShifted c p up b wb l n d a t m) h u w = absurd (cc)
acts-same (arm.TransferHalf c p up e wb l n d x y k) h u w = absurd (cc)
acts-same (arm.TransferBlock c p up s wb l n r) h u w = absurd (cc)
acts-same (arm.SoftwareInterrupt c n) h u w = absurd (cc)
acts-same (arm.Undefined c bits) h u w = absurd (cc)

-- a row that isn't one of those
pub no_row : {P : Type 0} (i j : ArmInstr) → is_on_registers i ≡ false → is_on_registers j ≡ true → i ≡ j → P
no_row i j off on e =
    let both : true ≡ false = sym on ∙ ap is_on_registers (sym e) ∙ off in
    absurd (cc)

pub row_acts : (i j : ArmInstr) (core core' : ArmState) (s : State) → IsReady s → i ≡ j → is_on_registers j ≡ true → core' ≡ acted j core
    → Makes (effect_part i) core s Ran core' s
row_acts i j core core' s r e t result =
    subst (λ (i : ArmInstr). Makes (effect_part i) core s Ran core' s) (sym e)
    (makes-nothing (effect_part j) core core' s Ran r
    (λ u later before _. acts-same j t u (working core s later before) ∙ ap (λ (c : ArmState). ran (working c s later before)) (sym result)) tt)

-- a row that is another part
pub row_like : (i j : ArmInstr) (p : Part) (core : ArmState) (s : State) (o : Outcome) (core' : ArmState) (s' : State) → i ≡ j
    → Same p (effect_part j) core s → IsDone p core s o core' s' → IsDone (effect_part i) core s o core' s'
row_like i j p core s o core' s' e same d =
    subst (λ (i : ArmInstr). IsDone (effect_part i) core s o core' s') (sym e) (done-as p (effect_part j) core s o core' s' same d)

raises : (e : Exception) (q : Part) (core : ArmState) (s : State) → IsReady s
    → ((u : Under) (later : List ℕ) (before : List Access) → q u (working core s later before) ≡ raised e (working core s later before))
    → IsDone q core s (Raised e) core s
raises e q core s r exact = makes-nothing q core core s (Raised e) r (λ u later before _. exact u later before) (refl, refl)

hosts : (n : ℕ) (q : Part) (core : ArmState) (s : State) → IsReady s
    → ((u : Under) (later : List ℕ) (before : List Access) → q u (working core s later before) ≡ hosted n (working core s later before))
    → IsDone q core s (Host n) core s
hosts n q core s r exact = makes-nothing q core core s (Host n) r (λ u later before _. exact u later before) (refl, refl)

pub row_undefined : (i j : ArmInstr) (core : ArmState) (s : State) → IsReady s → i ≡ j
    → ((u : Under) (later : List ℕ) (before : List Access) → arm_effect u j (working core s later before) ≡ raised exception.Undefined (working core s later before))
    → Makes (effect_part i) core s (Raised exception.Undefined) core s
row_undefined i j core s r e exact =
    subst (λ (i : ArmInstr). Makes (effect_part i) core s (Raised exception.Undefined) core s) (sym e) (raises exception.Undefined (effect_part j) core s r exact)

pub interrupts : (n : ℕ) (core : ArmState) (s : State) (o : Outcome) → IsReady s
    → o ≡ (if is_host n then Host n else Raised exception.SoftwareInterrupt) → IsDone (λ u w. interrupted n w) core s o core s
unfolding interrupted
interrupts n core s o r e = go (is_host n) refl e
  where
    go : (b : Bool) → is_host n ≡ b → o ≡ (if b then Host n else Raised exception.SoftwareInterrupt) → IsDone (λ u w. interrupted n w) core s o core s
    go true h e = subst (λ (o : Outcome). IsDone (λ u w. interrupted n w) core s o core s) (sym e) (hosts n (λ u w. interrupted n w) core s r (λ u later before. rw h refl))
    go false h e = subst (λ (o : Outcome). IsDone (λ u w. interrupted n w) core s o core s) (sym e) (raises exception.SoftwareInterrupt (λ u w. interrupted n w) core s r (λ u later before. rw h refl))

-- the whole instruction
pub done_held : (i : ArmInstr) (core : ArmState) (s : State) (o : Outcome) → IsReady s → Some o ≡ held_back i core → IsDone (done_part i) core s o core s
unfolding arm_done
done_held i core s o r e = go (passes (arm_condition i) core.cpsr) refl (arm_unpredictable i core) refl e
  where
    held : Option Outcome → Outcome
    held x = unwrap_or x Ran

    go : (b : Bool) → passes (arm_condition i) core.cpsr ≡ b → (bad : Bool) → arm_unpredictable i core ≡ bad
        → Some o ≡ (if b then (if bad then Some Unpredictable else None) else Some Ran) → IsDone (done_part i) core s o core s
    go false h bad k e =
        subst (λ (o : Outcome). IsDone (done_part i) core s o core s) (ap held (sym e))
        (makes-nothing (done_part i) core core s Ran r (λ u later before _. rw h refl) tt)
    go true h true k e =
        subst (λ (o : Outcome). IsDone (done_part i) core s o core s) (ap held (sym e))
        (makes-nothing (done_part i) core core s Unpredictable r (λ u later before _. rw (h, k) refl) (refl, refl))
    go true h false k e = absurd (cc)

pub done_well : (i : ArmInstr) (core : ArmState) (s : State) (o : Outcome) (core' : ArmState) (s' : State) → None ≡ held_back i core
    → IsDone (effect_part i) core s o core' s' → IsDone (done_part i) core s o core' s'
unfolding arm_done
done_well i core s o core' s' e d = go (passes (arm_condition i) core.cpsr) refl (arm_unpredictable i core) refl e
  where
    go : (b : Bool) → passes (arm_condition i) core.cpsr ≡ b → (bad : Bool) → arm_unpredictable i core ≡ bad
        → None ≡ (if b then (if bad then Some Unpredictable else None) else Some Ran) → IsDone (done_part i) core s o core' s'
    go false h bad k e = absurd (cc)
    go true h true k e = absurd (cc)
    go true h false k e = done-as (effect_part i) (done_part i) core s o core' s' (λ u later before. rw (h, k) refl) d

-- ---- rows that touch more, by what the code's calls did

module _ (i : ArmInstr) (core : ArmState) (s : State) (o : Outcome) (core' : ArmState) (s' : State) where
  pub row_swap : (c : Condition) (b : Bool) (n d m : ℕ) (width : Width) → i ≡ arm.Swap c b n d m → width ≡ byte_width b
      → IsDone (λ u w. swapped u width n d m w) core s o core' s' → IsDone (effect_part i) core s o core' s'
  unfolding arm_effect
  row_swap c b n d m width e f x =
      row_like i (arm.Swap c b n d m) (λ u w. swapped u width n d m w) core s o core' s' e (λ u later before. ap (λ (k : Width). swapped u k n d m (working core s later before)) (sym f)) x

  pub row_immediate : (c : Condition) (p up b wb l : Bool) (n d v offset : ℕ) (width : Width) → i ≡ arm.TransferImmediate c p up b wb l n d v → width ≡ byte_width b → offset ≡ v
      → IsDone (λ u w. transferred u l false p up wb width n d offset w) core s o core' s' → IsDone (effect_part i) core s o core' s'
  unfolding arm_effect
  row_immediate c p up b wb l n d v offset width e f g x =
      row_like i (arm.TransferImmediate c p up b wb l n d v) (λ u w. transferred u l false p up wb width n d offset w) core s o core' s' e
      (λ u later before. ap (λ (k : Width). transferred u l false p up wb k n d v (working core s later before)) (sym f) ∙ ap (λ (x : ℕ). transferred u l false p up wb width n d x (working core s later before)) (sym g)) x

  pub row_shifted : (c : Condition) (p up b wb l : Bool) (n d a : ℕ) (t : ShiftKind) (m : ℕ) (operand : Operand) (width : Width) → i ≡ arm.TransferShifted c p up b wb l n d a t m
      → width ≡ byte_width b → shifted_of operand ≡ shifted_operand t a m core
      → IsDone (λ u w. transferred u l false p up wb width n d operand.value w) core s o core' s' → IsDone (effect_part i) core s o core' s'
  unfolding arm_effect
  row_shifted c p up b wb l n d a t m operand width e f g x =
      row_like i (arm.TransferShifted c p up b wb l n d a t m) (λ u w. transferred u l false p up wb width n d operand.value w) core s o core' s' e
      (λ u later before. ap (λ (k : Width). transferred u l false p up wb k n d (shifted_operand t a m core).value (working core s later before)) (sym f)
      ∙ ap (λ (y : Shifted). transferred u l false p up wb width n d y.value (working core s later before)) (sym g)) x

  pub row_half : (c : Condition) (p up e wb l : Bool) (n d h : ℕ) (y : HalfKind) (k offset : ℕ) (signed : Bool) (width : Width) → i ≡ arm.TransferHalf c p up e wb l n d h y k
      → signed ≡ half_signed y → width ≡ half_width y → offset ≡ half_offset e h k core
      → IsDone (λ u w. transferred u l signed p up wb width n d offset w) core s o core' s' → IsDone (effect_part i) core s o core' s'
  unfolding arm_effect
  row_half c p up e wb l n d h y k offset signed width q f g j x =
      row_like i (arm.TransferHalf c p up e wb l n d h y k) (λ u w. transferred u l signed p up wb width n d offset w) core s o core' s' q
      (λ u later before. ap (λ (z : Bool). transferred u l z p up wb (half_width y) n d (half_offset e h k core) (working core s later before)) (sym f)
      ∙ ap (λ (z : Width). transferred u l signed p up wb z n d (half_offset e h k core) (working core s later before)) (sym g)
      ∙ ap (λ (z : ℕ). transferred u l signed p up wb width n d z (working core s later before)) (sym j)) x

  pub row_block : (c : Condition) (p up user wb l : Bool) (n r list : ℕ) → i ≡ arm.TransferBlock c p up user wb l n r → list ≡ r
      → IsDone (λ u w. block_moved u false l p up user wb n list w) core s o core' s' → IsDone (effect_part i) core s o core' s'
  unfolding arm_effect
  row_block c p up user wb l n r list e f x =
      row_like i (arm.TransferBlock c p up user wb l n r) (λ u w. block_moved u false l p up user wb n list w) core s o core' s' e
      (λ u later before. ap (λ (z : ℕ). block_moved u false l p up user wb n z (working core s later before)) (sym f)) x

pub row_interrupt : (i : ArmInstr) (core : ArmState) (s : State) (o : Outcome) (c : Condition) (n : ℕ) → IsReady s → i ≡ arm.SoftwareInterrupt c n
    → o ≡ (if is_host n then Host n else Raised exception.SoftwareInterrupt) → IsDone (effect_part i) core s o core s
unfolding arm_effect
row_interrupt i core s o c n r e f =
    row_like i (arm.SoftwareInterrupt c n) (λ u w. interrupted n w) core s o core s e (λ u later before. refl) (interrupts n core s o r f)

pub row_raises : (i : ArmInstr) (core : ArmState) (s : State) (c : Condition) (bits : ℕ) → IsReady s → i ≡ arm.Undefined c bits
    → Makes (effect_part i) core s (Raised exception.Undefined) core s
unfolding arm_effect
row_raises i core s c bits r e = row_undefined i (arm.Undefined c bits) core s r e (λ u later before. refl)

-- ---- rows of registers alone, by what the code's calls did

pub data_immediate : (i : ArmInstr) (core core' : ArmState) (s : State) (c : Condition) (o : Operation) (set : Bool) (n d rotation byte : ℕ) (operand : Operand) (carry : ℕ) → IsReady s
    → i ≡ arm.DataImmediate c o set n d rotation byte → carry ≡ carry_in core.cpsr → shifted_of operand ≡ immediate_operand rotation byte carry
    → core' ≡ calculated o set n d (shifted_of operand) core → Makes (effect_part i) core s Ran core' s
data_immediate i core core' s c o set n d rotation byte operand carry r e f g h =
    row_acts i (arm.DataImmediate c o set n d rotation byte) core core' s r e refl
    (h ∙ ap (λ (x : Shifted). calculated o set n d x core) (g ∙ ap (λ (x : ℕ). immediate_operand rotation byte x) f))

pub data_shifted : (i : ArmInstr) (core core' : ArmState) (s : State) (c : Condition) (o : Operation) (set : Bool) (n d amount : ℕ) (t : ShiftKind) (m : ℕ) (operand : Operand) → IsReady s
    → i ≡ arm.DataShifted c o set n d amount t m → shifted_of operand ≡ shifted_operand t amount m core
    → core' ≡ calculated o set n d (shifted_of operand) core → Makes (effect_part i) core s Ran core' s
data_shifted i core core' s c o set n d amount t m operand r e g h =
    row_acts i (arm.DataShifted c o set n d amount t m) core core' s r e refl (h ∙ ap (λ (x : Shifted). calculated o set n d x core) g)

pub branched_row : (i : ArmInstr) (core core' : ArmState) (s : State) (c : Condition) (link : Bool) (d : ℕ) → IsReady s
    → i ≡ arm.Branch c link d → core' ≡ branched link d core → Makes (effect_part i) core s Ran core' s
branched_row i core core' s c link d r e h = row_acts i (arm.Branch c link d) core core' s r e refl h
