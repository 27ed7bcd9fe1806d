-- A step beside other IRQ registers and other bytes in the work area.
use Rattle.std.proofs.Common.{◌≡◌, ◌≢◌, ℕ, ◌+◌, ◌%◌, ◌^◌, Bool, true, false, not, List, [], None, refl, sym, ap, subst, ◌∙◌, if◌then◌else◌, arith}
use Rattle.std.specs.List.{AllByRecursion}
use Rattle.base_lemmas.proofs.BaseLemmas.{second_of_both}
use Rattle.sdt_word.specs.Codes.{bytes_in}
use Rattle.arm7_model.specs.declared.event.Exception.TheVariants as exception
use Rattle.arm7_model.specs.Accesses.{Fetch, Working, after_fetch}
use Rattle.arm7_model.specs.Memory.{Board, is_there}
use Rattle.arm7_model.specs.Outcomes.{Stepped, Under, given_back}
use Rattle.arm7_model.specs.Registers.{State as Whole, bank_in, is_thumb, register, with_register}
use Rattle.arm7_model.specs.Runs.{quiet}
use Rattle.arm7_model.specs.Step.{Arm, Instruction, Levels, Reads, Step, Thumb, Unread, advanced, beginning, can_fetch, done, executed, fetch_aborted, fetch_width, fetched, fetches, interrupt, misaligned, stepped, uninterrupted}
use Rattle.kit_laws.specs.Beside.{Scratch, beside, beside_step, beside_under, besides, with_irq}
use Rattle.kit_laws.specs.Rules.{IsOwn}
use Rattle.kit_laws.proofs.BesideMemory.{fetch-beside, plain-memory, read-beside}
use Rattle.kit_laws.proofs.BesideRegisters.{took-beside}
use Rattle.kit_laws.proofs.BesideArm.{arm-beside}
use Rattle.kit_laws.proofs.BesideThumb.{thumb-beside}
use Rattle.kit_laws.proofs.OwnFetch.{no-lines}

module _ (work : ℕ) (k : Scratch) (answers : List ℕ) (u : Under) (w : Working) (before : bank_in u.before.core.cpsr ≢ 2) (mode : bank_in w.core.cpsr ≢ 2) where
  done-beside : (i : Instruction) → AllByRecursion (IsOwn u.board work) (done u i w).accesses → bank_in (done u i w).state.core.cpsr ≢ 2
      → done (beside_under work k u) i (besides work k answers w) ≡ beside_step work k (done u i w)
  unfolding done given_back
  done-beside (Arm i) own t = arm-beside work k answers u w before mode i own t
  done-beside (Thumb i) own t = thumb-beside work k answers u w before mode i own t
  done-beside Unread own t = refl

module _ (b : Board) (work : ℕ) (k : Scratch) (s : Whole) (answers' : List ℕ) (mode : bank_in s.core.cpsr ≢ 2)
    (own-fetch : is_there b (register s.core 15) (bytes_in (fetch_width (is_thumb s.core.cpsr))) ≡ true → IsOwn b work (Fetch (register s.core 15) (fetch_width (is_thumb s.core.cpsr)))) where
  pub fetched-beside : (answers : List ℕ) → is_there b (register s.core 15) (bytes_in (fetch_width (is_thumb s.core.cpsr))) ≡ true
      → fetched b (beside work k s) answers' ≡ fetched b s answers
  unfolding fetched register with_irq
  fetched-beside answers there =
      let width = fetch_width (is_thumb s.core.cpsr) in
      read-beside b work k answers' (beginning s answers) (register s.core 15) width (own-fetch there) (plain-memory b work (register s.core 15) width (own-fetch there) there)

  executed-beside : (answers : List ℕ) (i : Instruction) → is_there b (register s.core 15) (bytes_in (fetch_width (is_thumb s.core.cpsr))) ≡ true
      → AllByRecursion (IsOwn b work) (executed b s answers i).accesses → bank_in (executed b s answers i).state.core.cpsr ≢ 2
      → executed b (beside work k s) answers' i ≡ beside_step work k (executed b s answers i)
  unfolding executed advanced register with_register with_irq
  executed-beside answers i there own t =
      let width = fetch_width (is_thumb s.core.cpsr) in
      let a = register s.core 15 in
      let inside = plain-memory b work a width (own-fetch there) there in
      let under : Under = record { board = b; before = s; word = fetched b s answers } in
      let made : Working = record (after_fetch b (beginning s answers) a width) { core = advanced s.core } in
      ap (λ (n : ℕ). done (record { board = b; before = beside work k s; word = n }) i (record (after_fetch b (beginning (beside work k s) answers') a width) { core = with_irq k (advanced s.core) })) (fetched-beside answers there)
      ∙ ap (λ (x : Working). done (beside_under work k under) i (record x { core = with_irq k (advanced s.core) })) (fetch-beside b work k answers' (beginning s answers) a width inside)
      ∙ done-beside work k answers' under made mode mode i own t

  pub step-beside : (lines lines' : Levels) (answers : List ℕ) (i : Instruction) → interrupt lines s.core.cpsr ≡ None → interrupt lines' s.core.cpsr ≡ None
      → AllByRecursion (IsOwn b work) (stepped b s lines answers i).accesses → bank_in (stepped b s lines answers i).state.core.cpsr ≢ 2
      → stepped b (beside work k s) lines' answers' i ≡ beside_step work k (stepped b s lines answers i)
  unfolding stepped uninterrupted misaligned fetch_aborted given_back can_fetch register with_irq
  step-beside lines lines' answers i n n' own t =
      rw (n, n') (go (can_fetch s.core) (is_there b (register s.core 15) (bytes_in (fetch_width (is_thumb s.core.cpsr)))) refl (rw n at own) (rw n at t))
    where
      go : (f e : Bool) → is_there b (register s.core 15) (bytes_in (fetch_width (is_thumb s.core.cpsr))) ≡ e
          → AllByRecursion (IsOwn b work) (if not f then misaligned b s answers else if e then executed b s answers i else fetch_aborted s answers).accesses
          → bank_in (if not f then misaligned b s answers else if e then executed b s answers i else fetch_aborted s answers).state.core.cpsr ≢ 2
          → (if not f then misaligned b (beside work k s) answers' else if e then executed b (beside work k s) answers' i else fetch_aborted (beside work k s) answers')
          ≡ beside_step work k (if not f then misaligned b s answers else if e then executed b s answers i else fetch_aborted s answers)
      go false e there own t = refl
      go true true there own t = executed-beside answers i there own t
      go true false there own t = took-beside work k answers' exception.PrefetchAbort ((register s.core 15 + 4) % 2 ^ 32) (beginning s answers) mode (omega arith)

  -- the step of a run without interrupts is built from what the interrupted one reads
  pub plain-step : (lines' : Levels) (t : Stepped) → interrupt lines' s.core.cpsr ≡ None → Step b (beside work k s) lines' answers' t
      → (x : Stepped) × Step b s quiet.lines quiet.answers x
      × (AllByRecursion (IsOwn b work) x.accesses → bank_in x.state.core.cpsr ≢ 2 → t ≡ beside_step work k x)
  unfolding fetches can_fetch register with_irq
  plain-step lines' t n' (i, reads, is) = (
    stepped b s quiet.lines [] i,
    (i, (λ f. subst (λ (word : ℕ). Reads (is_thumb s.core.cpsr) word i) (fetched-beside [] (second_of_both _ _ (second_of_both _ _ f))) (reads (rw n' (second_of_both _ _ f)))), refl),
    (λ own after. is ∙ step-beside quiet.lines lines' [] i (no-lines s.core.cpsr) n' own after),
  )

  -- and the other way round
  pub made-beside : (x : Stepped) → Step b s quiet.lines quiet.answers x → AllByRecursion (IsOwn b work) x.accesses → bank_in x.state.core.cpsr ≢ 2
      → Step b (beside work k s) quiet.lines answers' (beside_step work k x)
  unfolding fetches can_fetch register with_irq
  made-beside x (i, reads, is) own after = (
    i,
    (λ f. subst (λ (word : ℕ). Reads (is_thumb s.core.cpsr) word i) (sym (fetched-beside [] (second_of_both _ _ (second_of_both _ _ f)))) (reads f)),
    ap (beside_step work k) is ∙ sym (step-beside quiet.lines quiet.lines [] i (no-lines s.core.cpsr) (no-lines s.core.cpsr)
        (subst (λ (t : Stepped). AllByRecursion (IsOwn b work) t.accesses) is own) (subst (λ (t : Stepped). bank_in t.state.core.cpsr ≢ 2) is after)),
  )
