-- A step in Thumb state leaves a valid state, and so does every step.
use Rattle.std.proofs.Common.{◌≡◌, ◌≢◌, ℕ, zero, suc, ◌+◌, ◌-◌, ◌*◌, ◌%◌, ◌^◌, ◌<◌, Bool, true, false, ◌==◌, ◌&&◌, not, if◌then◌else◌, List, refl, sym, subst, arith, mod-lt, Option, Some, None}
use Rattle.std.specs.Prelude.{slice_index}
use Rattle.sdt_word.specs.Numbers.{sign_extended}
use Rattle.sdt_word.specs.Codes.{bytes_in}
use Rattle.sdt_word.specs.declared.codes.ShiftKind.{ShiftKind}
use Rattle.sdt_word.specs.declared.codes.Width.{Width}
use Rattle.sdt_word.specs.declared.codes.Width.TheVariants as width
use Rattle.arm_isa.specs.declared.instr.Operation.{Operation}
use Rattle.arm_isa.specs.declared.instr.Operation.TheVariants as operation
use Rattle.thumb_isa.specs.declared.instr.ThumbInstr.{ThumbInstr}
use Rattle.thumb_isa.specs.declared.instr.ThumbInstr.TheVariants as thumb
use Rattle.thumb_isa.specs.declared.instr.ThumbOperation.{ThumbOperation}
use Rattle.thumb_isa.specs.declared.instr.ThumbOperation.TheVariants as code
use Rattle.thumb_isa.specs.declared.instr.ImmediateOperation.{ImmediateOperation}
use Rattle.thumb_isa.specs.declared.instr.ImmediateOperation.TheVariants as immediate
use Rattle.thumb_isa.specs.declared.instr.HighOperation.{HighOperation}
use Rattle.thumb_isa.specs.declared.instr.HighOperation.TheVariants as high
use Rattle.thumb_isa.specs.ThumbRows.{ReadsThumb}
use Rattle.arm7_model.specs.declared.state.ArmState.{ArmState}
use Rattle.arm7_model.specs.declared.event.Exception.{Exception}
use Rattle.arm7_model.specs.declared.event.Exception.TheVariants as exception
use Rattle.arm7_model.specs.Memory.{Board, is_there}
use Rattle.arm7_model.specs.Registers.{State, IsValid, IsValidState, register, with_register, operand_at, is_thumb}
use Rattle.arm7_model.specs.Arithmetic.{Shifted, passes}
use Rattle.arm7_model.specs.Accesses.{Working, after_fetch}
use Rattle.arm7_model.specs.Outcomes.{Stepped, Under, ran, given_back}
use Rattle.arm7_model.specs.Data.{calculated}
use Rattle.arm7_model.specs.Transfers.{moved_by, writes_back}
use Rattle.arm7_model.specs.Branches.{branch_target, linked_first, linked_second}
use Rattle.arm7_model.specs.ArmStep.{bad_return, byte_width}
use Rattle.arm7_model.specs.ThumbStep.{plain_operand, pc_base, shift_kind, high_number, signed_width, signed_load, has_sign, stack_list, multiple_write_back, immediate_done, combined, shifted_register, register_done, high_done, address_loaded, stack_adjusted, thumb_transfer, thumb_branched, thumb_unpredictable, thumb_effect, thumb_done}
use Rattle.arm7_model.specs.Step.{Levels, Instruction, Arm, Thumb, Unread, Reads, Step, stepped, stepped_by, uninterrupted, executed, done, misaligned, fetch_aborted, advanced, beginning, fetches, fetched, interrupt, can_fetch, fetch_width}
use Rattle.arm7_model.specs.Runs.{stays, goes, first_of_inputs, later_inputs}
use Rattle.arm7_model.specs.Laws.{RunIsValid}
use Rattle.arm7_model.proofs.MemoryLemmas.{not-eq}
use Rattle.arm7_model.proofs.ValidRegisters.{nearly, nearly-register, valid-register, valid-at, valid-pc, register-small, operand-small}
use Rattle.arm7_model.proofs.ValidValues.{FitsShifted, carry-le, by_amount-fits, by_register-fits}
use Rattle.arm7_model.proofs.ValidEffects.{IsGood, ran-good, took-good, raised-good, given_back-good, calculated-valid, multiplied-valid}
use Rattle.arm7_model.proofs.ValidTransfers.{transferred-good, loaded-good, block_moved-good}
use Rattle.arm7_model.proofs.ValidSteps.{target-small, core-good, exchanged-valid, interrupted-good, arm_done-good}

-- a result in another register than pc is no return
no_return : (o : Operation) (set_flags : Bool) (d : ℕ) (s : ArmState) → d ≢ 15 → bad_return o set_flags d s ≡ false
unfolding bad_return
no_return o true d s other = let e = not-eq d 15 other in rw e refl
no_return o false d s other = refl

no_flags : (o : Operation) (d : ℕ) (s : ArmState) → bad_return o false d s ≡ false
unfolding bad_return
no_flags o d s = refl

comparison : (d : ℕ) (s : ArmState) → bad_return operation.Cmp true d s ≡ false
unfolding bad_return
comparison d s = go (d == 15)
  where
    go : (b : Bool) → (b && false) ≡ false
    go true = refl
    go false = refl

plain-fits : (v : ℕ) (s : ArmState) → v < 2 ^ 32 → FitsShifted (plain_operand v s)
unfolding plain_operand
plain-fits v s h = record { value = h; carry = carry-le s.cpsr }

not_pc : (k : ℕ) → k < 15 → k ≢ 15
not_pc k h e = omega arith

low : (d : ℕ) → d < 8 → d ≢ 15
low d h e = omega arith

immediate-valid : (o : ImmediateOperation) (d i : ℕ) (s : ArmState) → IsValid s → d < 8 → i < 256 → IsValid (immediate_done o d i s)
unfolding immediate_done
immediate-valid immediate.Mov d i s h hd hi = calculated-valid operation.Mov true 0 d _ s h (plain-fits i s (omega arith)) (no_return operation.Mov true d s (low d hd))
immediate-valid immediate.Cmp d i s h hd hi = calculated-valid operation.Cmp true d 0 _ s h (plain-fits i s (omega arith)) (comparison 0 s)
immediate-valid immediate.Add d i s h hd hi = calculated-valid operation.Add true d d _ s h (plain-fits i s (omega arith)) (no_return operation.Add true d s (low d hd))
immediate-valid immediate.Sub d i s h hd hi = calculated-valid operation.Sub true d d _ s h (plain-fits i s (omega arith)) (no_return operation.Sub true d s (low d hd))

combined-valid : (o : Operation) (rs d : ℕ) (s : ArmState) → IsValid s → d < 8 → IsValid (combined o rs d s)
unfolding combined
combined-valid o rs d s h hd = calculated-valid o true d d _ s h (plain-fits (register s rs) s (register-small s rs (nearly s h))) (no_return o true d s (low d hd))

shifted-valid : (kind : ShiftKind) (rs d : ℕ) (s : ArmState) → IsValid s → d < 8 → IsValid (shifted_register kind rs d s)
unfolding shifted_register
shifted-valid kind rs d s h hd =
    calculated-valid operation.Mov true 0 d _ s h (by_register-fits kind (register s d) _ _ (register-small s d (nearly s h)) (carry-le s.cpsr)) (no_return operation.Mov true d s (low d hd))

register-valid : (o : ThumbOperation) (rs d : ℕ) (s : ArmState) → IsValid s → d < 8 → IsValid (register_done o rs d s)
unfolding register_done
register-valid code.And rs d s h hd = combined-valid operation.And rs d s h hd
register-valid code.Eor rs d s h hd = combined-valid operation.Eor rs d s h hd
register-valid code.Lsl rs d s h hd = shifted-valid _ rs d s h hd
register-valid code.Lsr rs d s h hd = shifted-valid _ rs d s h hd
register-valid code.Asr rs d s h hd = shifted-valid _ rs d s h hd
register-valid code.Adc rs d s h hd = combined-valid operation.Adc rs d s h hd
register-valid code.Sbc rs d s h hd = combined-valid operation.Sbc rs d s h hd
register-valid code.Ror rs d s h hd = shifted-valid _ rs d s h hd
register-valid code.Tst rs d s h hd = combined-valid operation.Tst rs d s h hd
register-valid code.Neg rs d s h hd = calculated-valid operation.Rsb true rs d _ s h (plain-fits 0 s (omega arith)) (no_return operation.Rsb true d s (low d hd))
register-valid code.Cmp rs d s h hd = combined-valid operation.Cmp rs d s h hd
register-valid code.Cmn rs d s h hd = combined-valid operation.Cmn rs d s h hd
register-valid code.Orr rs d s h hd = combined-valid operation.Orr rs d s h hd
register-valid code.Mul rs d s h hd = multiplied-valid false true d 0 d rs s h (low d hd)
register-valid code.Bic rs d s h hd = combined-valid operation.Bic rs d s h hd
register-valid code.Mvn rs d s h hd = combined-valid operation.Mvn rs d s h hd

high-valid : (o : HighOperation) (rs d : ℕ) (s : ArmState) → IsValid s → IsValid (high_done o rs d s)
unfolding high_done
high-valid high.Add rs d s h = calculated-valid operation.Add false d d _ s h (plain-fits _ s (operand-small s rs (nearly s h))) (no_flags operation.Add d s)
high-valid high.Cmp rs d s h = calculated-valid operation.Cmp true d 0 _ s h (plain-fits _ s (operand-small s rs (nearly s h))) (comparison 0 s)
high-valid high.Mov rs d s h = calculated-valid operation.Mov false 0 d _ s h (plain-fits _ s (operand-small s rs (nearly s h))) (no_flags operation.Mov d s)
high-valid high.Bx rs d s h = exchanged-valid (operand_at s rs) s h (operand-small s rs (nearly s h))

no_back : {A : Type 0} → writes_back true false ≡ true → A
unfolding writes_back
no_back h = absurd (wrong h)
  where
    wrong : false ≡ true → ⊥
    wrong h = cc

-- a target two bytes apart from an even pc is even
target-even : (n i : ℕ) (s : ArmState) → IsValid s → is_thumb s.cpsr ≡ true → branch_target 2 n i s % 2 ≡ 0
unfolding branch_target operand_at register
target-even n i s h t = let even = h.even t in rw t (omega arith)

branched-thumb : (n i : ℕ) (s : ArmState) → IsValid s → IsValid (thumb_branched n i s)
unfolding thumb_branched
branched-thumb n i s h = valid-at s (branch_target 2 n i s) (nearly s h) (small n i s) (λ t. target-even n i s h t)
  where
    small : (n i : ℕ) (s : ArmState) → branch_target 2 n i s < 2 ^ 32
    small n i s = target-small 2 n i s

first-valid : (i : ℕ) (s : ArmState) → IsValid s → IsValid (linked_first i s)
unfolding linked_first
first-valid i s h = valid-register s 14 _ h (mod-lt (operand_at s 15 + 4096 * sign_extended i 11) (omega arith)) (not_pc 14 (omega arith))

second-valid : (i : ℕ) (s : ArmState) → IsValid s → IsValid (linked_second i s)
unfolding linked_second
second-valid i s h =
    let pc = register-small s 15 (nearly s h) in
    valid-pc _ _ (nearly-register s 14 _ (nearly s h) (omega arith)) (mod-lt (register s 14 + 2 * i) (omega arith))

moved-lt : (up : Bool) (base offset : ℕ) → moved_by up base offset < 2 ^ 32
unfolding moved_by
moved-lt true base offset = mod-lt (base + offset) (omega arith)
moved-lt false base offset = mod-lt (base + 2 ^ 32 - offset) (omega arith)

thumb_transfer-good : (u : Under) (load signed : Bool) (x : Width) (rn rd offset : ℕ) (w : Working) → IsValidState u.before → IsGood w → IsValidState (thumb_transfer u load signed x rn rd offset w).state
unfolding thumb_transfer
thumb_transfer-good u load signed x rn rd offset w b g = transferred-good u load signed true true false x rn rd offset w b g (λ h. no_back h)

choose-operation : (o : Bool) (rs d : ℕ) (x : Shifted) (s : ArmState) → IsValid s → FitsShifted x → d < 8 → IsValid (calculated (if o then operation.Sub else operation.Add) true rs d x s)
choose-operation true rs d x s h f hd = calculated-valid operation.Sub true rs d x s h f (no_return operation.Sub true d s (low d hd))
choose-operation false rs d x s h f hd = calculated-valid operation.Add true rs d x s h f (no_return operation.Add true d s (low d hd))

choose-small : (e : Bool) (n : ℕ) (s : ArmState) → IsValid s → n < 8 → (if e then n else register s n) < 2 ^ 32
choose-small true n s h hn = omega arith
choose-small false n s h hn = register-small s n (nearly s h)

pub never : {A : Type 0} → false ≡ true → A
never h = absurd (wrong h)
  where
    wrong : false ≡ true → ⊥
    wrong h = cc

thumb_effect-good : (u : Under) (i : ThumbInstr) (w : Working) (word : ℕ) → ReadsThumb word i → IsValidState u.before → IsGood w → IsValidState (thumb_effect u i w).state
unfolding thumb_effect address_loaded stack_adjusted
thumb_effect-good u (thumb.ShiftImmediate o n rs d) w word reads b g =
    let (_, (_, (_, (hd, _)))) = reads.fits in
    core-good w _ g (calculated-valid operation.Mov true 0 d _ w.core g.core (by_amount-fits (shift_kind o) (register w.core rs) n _ (register-small w.core rs (nearly w.core g.core)) (carry-le w.core.cpsr)) (no_return operation.Mov true d w.core (low d hd)))
thumb_effect-good u (thumb.AddSubtract e o n rs d) w word reads b g =
    let (_, (_, (hn, (_, (hd, _))))) = reads.fits in
    core-good w _ g (choose-operation o rs d _ w.core g.core (plain-fits _ w.core (choose-small e n w.core g.core hn)) hd)
thumb_effect-good u (thumb.DataImmediate o d i) w word reads b g = let (_, (hd, (hi, _))) = reads.fits in core-good w _ g (immediate-valid o d i w.core g.core hd hi)
thumb_effect-good u (thumb.DataRegister o rs d) w word reads b g = let (_, (_, (hd, _))) = reads.fits in core-good w _ g (register-valid o rs d w.core g.core hd)
thumb_effect-good u (thumb.HighRegister o h k rs d) w word reads b g = core-good w _ g (high-valid o (high_number k rs) (high_number h d) w.core g.core)
thumb_effect-good u (thumb.LoadLiteral d i) w word reads b g = loaded-good u false width.Word _ d w.core w b g g.core
thumb_effect-good u (thumb.TransferRegister l bt o n d) w word reads b g = thumb_transfer-good u l false (byte_width bt) n d (register w.core o) w b g
thumb_effect-good u (thumb.TransferSigned k o n d) w word reads b g = thumb_transfer-good u (signed_load k) (has_sign k) (signed_width k) n d (register w.core o) w b g
thumb_effect-good u (thumb.TransferImmediate bt l i n d) w word reads b g = thumb_transfer-good u l false (byte_width bt) n d _ w b g
thumb_effect-good u (thumb.TransferHalf l i n d) w word reads b g = thumb_transfer-good u l false width.Half n d (2 * i) w b g
thumb_effect-good u (thumb.TransferStack l d i) w word reads b g = thumb_transfer-good u l false width.Word 13 d (4 * i) w b g
thumb_effect-good u (thumb.LoadAddress p d i) w word reads b g =
    let (_, (hd, _)) = reads.fits in
    core-good w _ g (valid-register w.core d _ g.core (mod-lt ((if p then register w.core 13 else pc_base w.core) + 4 * i) (omega arith)) (low d hd))
thumb_effect-good u (thumb.AdjustStack s i) w word reads b g =
    core-good w _ g (valid-register w.core 13 _ g.core (moved-lt (not s) (register w.core 13) (4 * i)) (not_pc 13 (omega arith)))
thumb_effect-good u (thumb.PushPop l r k) w word reads b g =
    block_moved-good u true l (not l) l false true 13 (stack_list l r k) w b g (not_pc 13 (omega arith)) (λ h. never h) (λ h. never h)
thumb_effect-good u (thumb.TransferMultiple l n k) w word reads b g =
    let (_, (hn, _)) = reads.fits in
    block_moved-good u true l false true false (multiple_write_back l n k) n k w b g (low n hn) (λ h. never h) (λ h. never h)
thumb_effect-good u (thumb.BranchConditional c i) w word reads b g = go (passes c w.core.cpsr)
  where
    go : (p : Bool) → IsValidState (if p then ran (record w { core = thumb_branched 8 i w.core }) else ran w).state
    go true = core-good w _ g (branched-thumb 8 i w.core g.core)
    go false = ran-good w g
thumb_effect-good u (thumb.SoftwareInterrupt i) w word reads b g = interrupted-good i w g
thumb_effect-good u (thumb.Branch i) w word reads b g = core-good w _ g (branched-thumb 11 i w.core g.core)
thumb_effect-good u (thumb.BranchLink second i) w word reads b g = go second
  where
    go : (c : Bool) → IsValidState (ran (record w { core = (if c then linked_second i else linked_first i) w.core })).state
    go true = core-good w _ g (second-valid i w.core g.core)
    go false = core-good w _ g (first-valid i w.core g.core)
thumb_effect-good u (thumb.Undefined i) w word reads b g = raised-good exception.Undefined w g

thumb_done-good : (u : Under) (i : ThumbInstr) (w : Working) (word : ℕ) → ReadsThumb word i → IsValidState u.before → IsGood w → IsValidState (thumb_done u i w).state
unfolding thumb_done
thumb_done-good u i w word reads b g = go (thumb_unpredictable i w.core)
  where
    go : (x : Bool) → IsValidState (if x then given_back u w else thumb_effect u i w).state
    go true = given_back-good u w b
    go false = thumb_effect-good u i w word reads b g

-- ---- every step

advanced-valid : (s : ArmState) → IsValid s → IsValid (advanced s)
unfolding advanced register
advanced-valid s h = valid-at s _ (nearly s h) (mod-lt (slice_index s.r 15 + bytes_in (fetch_width (is_thumb s.cpsr))) (omega arith))
    (λ t. let even = h.even t in rw t (omega arith))

advanced-thumb : (s : ArmState) (b : Bool) → is_thumb s.cpsr ≡ b → is_thumb (advanced s).cpsr ≡ b
unfolding advanced with_register
advanced-thumb s b h = h

done-good : (thumb_state : Bool) (u : Under) (i : Instruction) (w : Working) (word : ℕ) → Reads thumb_state word i → IsValidState u.before → IsGood w → is_thumb w.core.cpsr ≡ thumb_state
    → IsValidState (done u i w).state
unfolding done
done-good false u (Arm i) w word reads b g t = arm_done-good u i w word reads b g t
done-good false u (Thumb i) w word reads b g t = absurd reads
done-good false u Unread w word reads b g t = given_back-good u w b
done-good true u (Arm i) w word reads b g t = absurd reads
done-good true u (Thumb i) w word reads b g t = thumb_done-good u i w word reads b g
done-good true u Unread w word reads b g t = given_back-good u w b

pub step-valid : (board : Board) (s : State) (lines : Levels) (answers : List ℕ) (t : Stepped) → IsValidState s → Step board s lines answers t → IsValidState t.state
unfolding stepped uninterrupted executed misaligned fetch_aborted fetches after_fetch
step-valid board s lines answers t h (i, reads, e) =
    let At : Stepped → Type 0 = λ x. IsValidState x.state in
    subst At (sym e) (go (interrupt lines s.core.cpsr) refl)
  where
    begun : IsGood (beginning s answers)
    begun = record { core = h.core; memory = h.memory }

    link : (register s.core 15 + 4) % 2 ^ 32 < 2 ^ 32
    link = mod-lt (register s.core 15 + 4) (omega arith)

    run : (f there : Bool) → can_fetch s.core ≡ f → is_there board (register s.core 15) (bytes_in (fetch_width (is_thumb s.core.cpsr))) ≡ there
        → (f ≡ true → there ≡ true → Reads (is_thumb s.core.cpsr) (fetched board s answers) i)
        → IsValidState (if not f then misaligned board s answers else if there then executed board s answers i else fetch_aborted s answers).state
    run false there ef et reading = given_back-good _ (beginning s answers) h
    run true false ef et reading = took-good exception.PrefetchAbort _ (beginning s answers) begun link
    run true true ef et reading =
        done-good (is_thumb s.core.cpsr) _ i _ (fetched board s answers) (reading refl refl) h
        (record { core = advanced-valid s.core h.core; memory = h.memory }) (advanced-thumb s.core (is_thumb s.core.cpsr) refl)

    go : (o : Option Exception) → interrupt lines s.core.cpsr ≡ o → IsValidState (stepped_by o board s answers i).state
    go (Some x) eo = took-good x _ (beginning s answers) begun link
    go None eo =
        run (can_fetch s.core) (is_there board (register s.core 15) (bytes_in (fetch_width (is_thumb s.core.cpsr)))) refl refl
        (λ ef et. reads (rw (eo, ef, et) refl))

pub run-valid : RunIsValid
run-valid board s t zero inputs xs h stays = h
run-valid board s t (suc n) inputs xs h (goes {rest = rest} first one counted run) =
    run-valid board first.state t n (later_inputs inputs) rest (step-valid board s (first_of_inputs inputs).lines (first_of_inputs inputs).answers first h one) run
