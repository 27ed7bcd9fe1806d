-- What a row of Thumb state does, by what the code of its row did.
use Rattle.std.proofs.Common.{◌≡◌, ℕ, ◌*◌, Bool, true, false, List, sym, subst, refl}
use Rattle.std.specs.Prelude.{if◌then◌else◌}
use Rattle.sdt_word.specs.declared.codes.Condition.{Condition}
use Rattle.sdt_word.specs.declared.codes.Width.{Width}
use Rattle.sdt_word.specs.declared.codes.Width.TheVariants as width
use Rattle.thumb_isa.specs.declared.instr.ThumbInstr.{ThumbInstr}
use Rattle.thumb_isa.specs.declared.instr.SignedTransfer.{SignedTransfer}
use Rattle.thumb_isa.specs.declared.instr.ThumbInstr.TheVariants.{BranchConditional, TransferRegister, TransferSigned, TransferImmediate, TransferHalf, TransferStack}
use Rattle.arm7_model.specs.declared.state.ArmState.{ArmState}
use Rattle.arm7_model.specs.declared.event.Exception.{Exception}
use Rattle.arm7_model.specs.declared.event.Exception.TheVariants as exception
use Rattle.arm7_model.specs.Accesses.{Access, Working}
use Rattle.arm7_model.specs.Branches.{interrupted, is_host}
use Rattle.arm7_model.specs.Outcomes.{Under, ran, raised, hosted, given_back}
use Rattle.arm7_model.specs.ArmStep.{byte_width}
use Rattle.arm7_model.specs.Registers.{register}
use Rattle.arm7_model.specs.ThumbStep.{has_sign, signed_load, signed_width, thumb_branched, thumb_effect, thumb_transfer}
use Rattle.arm7_model.specs.Transfers.{transferred}
use Rattle.arm7_model.specs.Arithmetic.{passes}
use Rattle.arm7_bus.specs.States.{State}
use Rattle.arm7_transfers.specs.declared.outcome.Outcome.{Outcome}
use Rattle.arm7_transfers.specs.declared.outcome.Outcome.TheVariants.{Ran, Unpredictable, Raised, Host}
use Rattle.arm7_transfers.specs.declared.single.Base.{Base}
use Rattle.arm7_transfers.specs.Boards.{working}
use Rattle.arm7_transfers.specs.Done.{Part, Makes, IsDone}
use Rattle.arm7_transfers.specs.Ready.{IsReady}
use Rattle.arm7_transfers.proofs.DoneLemmas.{Same, done-as, makes-nothing}

-- a part that leaves these registers
pub runs : (q : Part) (core core' : ArmState) (s : State) → IsReady s
    → ((u : Under) (answers : List ℕ) (before : List Access) → q u (working core s answers before) ≡ ran (working core' s answers before))
    → IsDone q core s Ran core' s
runs q core core' s r exact = makes-nothing q core core' s Ran r (λ u later before e. exact u later before) tt

pub raises : (e : Exception) (q : Part) (core : ArmState) (s : State) → IsReady s
    → ((u : Under) (answers : List ℕ) (before : List Access) → q u (working core s answers before) ≡ raised e (working core s answers before))
    → IsDone q core s (Raised e) core s
raises e q core s r exact = makes-nothing q core core s (Raised e) r (λ u later before _. exact u later before) (refl, refl)

pub hosts : (n : ℕ) (q : Part) (core : ArmState) (s : State) → IsReady s
    → ((u : Under) (answers : List ℕ) (before : List Access) → q u (working core s answers before) ≡ hosted n (working core s answers before))
    → IsDone q core s (Host n) core s
hosts n q core s r exact = makes-nothing q core core s (Host n) r (λ u later before e. exact u later before) (refl, refl)

pub gives_back : (q : Part) (core : ArmState) (s : State) → IsReady s
    → ((u : Under) (answers : List ℕ) (before : List Access) → q u (working core s answers before) ≡ given_back u (working core s answers before))
    → IsDone q core s Unpredictable core s
gives_back q core s r exact = makes-nothing q core core s Unpredictable r (λ u later before e. exact u later before) (refl, refl)

-- ---- a row of Thumb state

abbrev pub effect_part : ThumbInstr → Part
effect_part i u w = thumb_effect u i w

pub row_runs : (i j : ThumbInstr) (core core' : ArmState) (s : State) → i ≡ j → IsReady s
    → ((u : Under) (answers : List ℕ) (before : List Access) → thumb_effect u j (working core s answers before) ≡ ran (working core' s answers before))
    → Makes (effect_part i) core s Ran core' s
row_runs i j core core' s e r exact =
    subst (λ (i : ThumbInstr). Makes (effect_part i) core s Ran core' s) (sym e) (runs (effect_part j) core core' s r exact)

pub row_raises : (i j : ThumbInstr) (core : ArmState) (s : State) → i ≡ j → IsReady s
    → ((u : Under) (answers : List ℕ) (before : List Access) → thumb_effect u j (working core s answers before) ≡ raised exception.Undefined (working core s answers before))
    → Makes (effect_part i) core s (Raised exception.Undefined) core s
row_raises i j core s e r exact =
    subst (λ (i : ThumbInstr). Makes (effect_part i) core s (Raised exception.Undefined) core s) (sym e) (raises exception.Undefined (effect_part j) core s r exact)

pub row_like : (i j : ThumbInstr) (p : Part) (core : ArmState) (s : State) (o : Outcome) (core' : ArmState) (s' : State) → i ≡ j
    → Same p (effect_part j) core s → IsDone p core s o core' s' → IsDone (effect_part i) core s o core' s'
row_like i j p core s o core' s' e same d =
    subst (λ (i : ThumbInstr). IsDone (effect_part i) core s o core' s') (sym e) (done-as p (effect_part j) core s o core' s' same d)

-- a branch where its condition passes
ran_where : (b : Bool) (core core' : ArmState) (w : Working)
    → (if b then ran (record w { core = core' }) else ran (record w { core = core })) ≡ ran (record w { core = if b then core' else core })
ran_where true core core' w = refl
ran_where false core core' w = refl

pub row_branches : (i : ThumbInstr) (c : Condition) (offset : ℕ) (core core' : ArmState) (s : State) → i ≡ BranchConditional c offset → IsReady s
    → core' ≡ (if passes c core.cpsr then thumb_branched 8 offset core else core) → Makes (effect_part i) core s Ran core' s
unfolding thumb_effect
row_branches i c offset core core' s e r left =
    row_runs i (BranchConditional c offset) core core' s e r
    (λ u answers before. rw left (ran_where (passes c core.cpsr) core (thumb_branched 8 offset core) (working core s answers before)))

-- a software interrupt
pub interrupts : (n : ℕ) (core : ArmState) (s : State) (o : Outcome) → IsReady s
    → o ≡ (if is_host n then Host n else Raised exception.SoftwareInterrupt) → IsDone (λ u w. interrupted n w) core s o core s
unfolding interrupted
interrupts n core s o r e = go (is_host n) refl (e)
  where
    go : (b : Bool) → is_host n ≡ b → o ≡ (if b then Host n else Raised exception.SoftwareInterrupt) → IsDone (λ u w. interrupted n w) core s o core s
    go true h e = subst (λ (o : Outcome). IsDone (λ u w. interrupted n w) core s o core s) (sym e) (hosts n (λ u w. interrupted n w) core s r (λ u answers before. rw h refl))
    go false h e = subst (λ (o : Outcome). IsDone (λ u w. interrupted n w) core s o core s) (sym e) (raises exception.SoftwareInterrupt (λ u w. interrupted n w) core s r (λ u answers before. rw h refl))

-- ---- a load or a store at an offset above a register, by what the code's calls did

abbrev pub above : ℕ → ℕ → Base
above n offset = record { pre = true; up = true; write_back = false; register = n; offset = offset }

module _ (i : ThumbInstr) (core : ArmState) (s : State) (o : Outcome) (core' : ArmState) (s' : State) where
  -- what the call did, at a base
  abbrev pub IsMoved : (load signed : Bool) (w : Width) (d : ℕ) (by : Base) → Type 0
  IsMoved load signed w d by =
      IsDone (λ u work. transferred u load signed by.pre by.up by.write_back w by.register d by.offset work) core s o core' s'

  moved_row : (j : ThumbInstr) (load signed : Bool) (w : Width) (n d offset : ℕ) (by : Base) → i ≡ j
      → ((u : Under) (later : List ℕ) (before : List Access) → thumb_effect u j (working core s later before) ≡ thumb_transfer u load signed w n d offset (working core s later before))
      → by ≡ above n offset → IsMoved load signed w d by → IsDone (effect_part i) core s o core' s'
  unfolding thumb_transfer
  moved_row j load signed w n d offset by e same at moved =
      row_like i j (λ u work. thumb_transfer u load signed w n d offset work) core s o core' s' e same (subst (λ (by : Base). IsMoved load signed w d by) at moved)

  pub row_register : (load byte : Bool) (r n d offset : ℕ) (w : Width) (by : Base) → i ≡ TransferRegister load byte r n d → offset ≡ register core r → w ≡ byte_width byte
      → by ≡ above n offset → IsMoved load false w d by → IsDone (effect_part i) core s o core' s'
  unfolding thumb_effect
  row_register load byte r n d offset w by e f g at moved =
      moved_row (TransferRegister load byte r n d) load false w n d offset by e (λ u later before. rw (f, g) refl) at moved

  pub row_signed : (kind : SignedTransfer) (r n d offset : ℕ) (load signed : Bool) (w : Width) (by : Base) → i ≡ TransferSigned kind r n d → offset ≡ register core r
      → load ≡ signed_load kind → signed ≡ has_sign kind → w ≡ signed_width kind
      → by ≡ above n offset → IsMoved load signed w d by → IsDone (effect_part i) core s o core' s'
  unfolding thumb_effect
  row_signed kind r n d offset load signed w by e f g h k at moved =
      moved_row (TransferSigned kind r n d) load signed w n d offset by e (λ u later before. rw (f, g, h, k) refl) at moved

  pub row_immediate : (byte load : Bool) (v n d offset : ℕ) (w : Width) (by : Base) → i ≡ TransferImmediate byte load v n d → offset ≡ (if byte then v else 4 * v)
      → w ≡ byte_width byte → by ≡ above n offset → IsMoved load false w d by → IsDone (effect_part i) core s o core' s'
  unfolding thumb_effect
  row_immediate byte load v n d offset w by e f g at moved =
      moved_row (TransferImmediate byte load v n d) load false w n d offset by e (λ u later before. rw (f, g) refl) at moved

  pub row_half : (load : Bool) (v n d x : ℕ) (by : Base) → i ≡ TransferHalf load v n d → x ≡ v → by ≡ above n (2 * x) → IsMoved load false width.Half d by
      → IsDone (effect_part i) core s o core' s'
  unfolding thumb_effect
  row_half load v n d x by e f at moved =
      moved_row (TransferHalf load v n d) load false width.Half n d (2 * x) by e (λ u later before. rw f refl) at moved

  pub row_stack : (load : Bool) (d v x : ℕ) (by : Base) → i ≡ TransferStack load d v → x ≡ v → by ≡ above 13 (4 * x) → IsMoved load false width.Word d by
      → IsDone (effect_part i) core s o core' s'
  unfolding thumb_effect
  row_stack load d v x by e f at moved =
      moved_row (TransferStack load d v) load false width.Word 13 d (4 * x) by e (λ u later before. rw f refl) at moved
