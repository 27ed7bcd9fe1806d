-- A run over devices and the run beside it over silent ones.
use Rattle.std.proofs.Common.{◌≡◌, ℕ, zero, suc, ◌+◌, ◌/◌, ◌<◌, ◌≤◌, Bool, true, false, List, [], ◌∷◌, ◌++◌, length, Option, None, Some, is_some, refl, sym, ap, subst, ◌∙◌, arith, cond, ◌⊎◌, inl, inr, set, get_or}
use Rattle.std.specs.List.{AllByRecursion}
use Rattle.std.proofs.Math.Path.{fun_ext}
use Rattle.sdt_word.specs.Codes.{bytes_in}
use Rattle.sdt_word.specs.Bytes.{bytes_of}
use Rattle.sdt_word.specs.declared.codes.Width.{Width}
use Rattle.sdt_word.specs.declared.codes.Width.TheVariants.{Byte, Half, Word}
use Rattle.arm7_model.specs.declared.state.ArmState.{ArmState}
use Rattle.arm7_model.specs.declared.event.Event.{Event}
use Rattle.arm7_model.specs.declared.event.Event.TheVariants as event
use Rattle.arm7_model.specs.declared.event.Exception.TheVariants as exception
use Rattle.arm7_model.specs.Accesses.{Access, Fetch, Load, Store, memory_after}
use Rattle.arm7_model.specs.Memory.{Board, Bytes, in_memory, store}
use Rattle.arm7_model.specs.Outcomes.{Stepped}
use Rattle.arm7_model.specs.Registers.{State as Whole}
use Rattle.arm7_model.specs.Runs.{AreSteps, behind, quiet}
use Rattle.arm7_model.specs.Step.{Levels, Step, fetched}
use Rattle.arm7_model.proofs.MemoryLemmas.{below_or_not, store-above, store-below}
use Rattle.arm7_bus.specs.declared.memory.Bank.{Bank}
use Rattle.arm7_bus.specs.declared.memory.BusFault.{BusFault}
use Rattle.arm7_bus.specs.Buses.{after_read, after_tick, after_write}
use Rattle.arm7_bus.specs.Paging.{page_used_in}
use Rattle.arm7_bus.specs.Seats.{Seat, changed_at, device_at, lines_up, seat_written}
use Rattle.arm7_bus.specs.States.{Contents, State, after_store, bank_has, noted, store_fault, store_leaves}
use Rattle.arm7_transfers.specs.Boards.{board_of, over}
use Rattle.arm7_transfers.specs.Frames.{has_frames, stored_to}
use Rattle.arm7_transfers.specs.Ready.{IsReady}
use Rattle.arm7_transfers.specs.Served.{answers_to, served}
use Rattle.arm7_transfers.proofs.BoardLemmas.{contents-read}
use Rattle.arm7_transfers.proofs.ReadyLemmas.{ready-tick}
use Rattle.arm7_core.specs.Machines.{Ends, levels}
use Rattle.arm7_run.specs.Runs.{GoesOn}
use Rattle.run_laws.specs.Devices.{AreOffDevices}
use Rattle.run_laws.specs.Steps.{AreUsed, IsStepOf, StoresAreUsed}
use Rattle.run_laws.proofs.BusRuns.{board-tick, board-next, ready-next, step-used}
use Rattle.run_laws.proofs.Devices.{off-board, untouched}
use Rattle.run_laws.proofs.ServedMemory.{board-served}
use Rattle.kit_laws.specs.Aligned.{Aligned, IsHandlers, IsInHandler, ends, goes, returns, stops}
use Rattle.kit_laws.specs.Beside.{Scratch, beside, beside_step, with_irq}
use Rattle.kit_laws.specs.Rules.{IsOff, IsOwn, IsPlain, EachFrom, HasOwnString, IsOwnStep}
use Rattle.kit_laws.proofs.Added.{moved}
use Rattle.kit_laws.proofs.BesideMemory.{apart, off-store}
use Rattle.kit_laws.proofs.StepAdded.{step-adds}
use Rattle.run_laws.specs.Silent.{AreSilent, HasWork}
use Rattle.run_laws.proofs.BusBeside.{AreTwins, GoesOrExits, Prints}
use Rattle.run_laws.proofs.BusStrings.{prints-alike}
use Rattle.run_laws.proofs.BusTwins.{some, twins-serve}

-- ---- a step behind which a run goes on is made whole

pub record IsWhole (core : ArmState) (s : State) (x : Stepped) (e : Event) (core1 : ArmState) (s1 : State) : Type 0 where
  pub event : e ≡ x.event
  pub state : over core1 s1 ≡ x.state
  pub bus : s1 ≡ served s x.accesses
  pub frames : has_frames s x.accesses ≡ true

pub is-whole : (core : ArmState) (s : State) (x : Stepped) (e : Event) (core1 : ArmState) (s1 : State) (piece : List ℕ) → IsStepOf core s x e core1 s1 → GoesOrExits e core1 s1 piece
    → IsWhole core s x e core1 s1
is-whole core s x e core1 s1 piece m on = go (has_frames s x.accesses) refl m.ends on
  where
    go : (b : Bool) → has_frames s x.accesses ≡ b → Ends b core s x e core1 s1 → GoesOrExits e core1 s1 piece → IsWhole core s x e core1 s1
    go true f (p, q, r) h = record { event = p; state = q; bus = r; frames = f }
    go false f (a, p, l, c, r) (inl h) = absurd (subst (λ (y : Event). GoesOn y core1 s1 piece) p h)
    go false f (a, p, l, c, r) (inr (h, none)) = absurd (differ (sym h ∙ p))
      where
        differ : event.Host 0x11 ≡ event.NoFrame a → ⊥
        differ g = cc

-- ---- what accesses leave: used pages, frames, and the bytes of the work area

stays-used : (us : List Bool) (p x : ℕ) → get_or us x false ≡ true → get_or (set us p true) x false ≡ true
stays-used [] p x h = h
stays-used (u ∷ us) zero zero h = refl
stays-used (u ∷ us) zero (suc x) h = h
stays-used (u ∷ us) (suc p) zero h = h
stays-used (u ∷ us) (suc p) (suc x) h = stays-used us p x h

module _ (work ack : ℕ) where
  work-wrote : (s : State) (a : ℕ) (w : Width) (v : ℕ) → HasWork work ack s.contents → HasWork work ack (after_write s a w v).contents
  work-wrote s a w v h = go (bank_has s.contents.banks a (bytes_in w)) (is_some (device_at s.devices a (bytes_in w))) (store_fault s.contents a (bytes_in w))
    where
      go : (b d : Bool) (o : Option BusFault) → HasWork work ack (cond b (record s { contents = store_leaves o s.contents (after_store s.contents a w v) })
          (cond d (record { contents = noted s.contents a (bytes_in w); devices = changed_at (seat_written a w v) a (bytes_in w) s.devices }) s)).contents
      go true d None = record {
        first = stays-used s.contents.used (a / 4096) (work / 4096) h.first;
        second = stays-used s.contents.used (a / 4096) ((work + 4) / 4096) h.second;
        third = stays-used s.contents.used (a / 4096) ((work + 8) / 4096) h.third;
        device = h.device;
      }
      go true d (Some fault) = h
      go false true o = record { first = h.first; second = h.second; third = h.third; device = h.device }
      go false false o = h

  pub work-served : (s : State) (xs : List Access) → HasWork work ack s.contents → HasWork work ack (served s xs).contents
  work-served s [] h = h
  work-served s (Fetch a w ∷ rest) h = work-served (after_read s a w) rest (subst (HasWork work ack) (sym (contents-read s a w)) h)
  work-served s (Load a w ∷ rest) h = work-served (after_read s a w) rest (subst (HasWork work ack) (sym (contents-read s a w)) h)
  work-served s (Store a w v ∷ rest) h = work-served (after_write s a w v) rest (work-wrote s a w v h)

frames-wrote : (s : State) (a : ℕ) (w : Width) (v : ℕ) → (after_write s a w v).contents.frames ≡ s.contents.frames
frames-wrote s a w v = go (bank_has s.contents.banks a (bytes_in w)) (is_some (device_at s.devices a (bytes_in w))) (store_fault s.contents a (bytes_in w))
  where
    go : (b d : Bool) (o : Option BusFault) → (cond b (record s { contents = store_leaves o s.contents (after_store s.contents a w v) })
        (cond d (record { contents = noted s.contents a (bytes_in w); devices = changed_at (seat_written a w v) a (bytes_in w) s.devices }) s)).contents.frames ≡ s.contents.frames
    go true d None = refl
    go true d (Some fault) = refl
    go false true o = refl
    go false false o = refl

frames-served : (s : State) (xs : List Access) → (served s xs).contents.frames ≡ s.contents.frames
frames-served s [] = refl
frames-served s (Fetch a w ∷ rest) = frames-served (after_read s a w) rest ∙ ap (λ (c : Contents). c.frames) (contents-read s a w)
frames-served s (Load a w ∷ rest) = frames-served (after_read s a w) rest ∙ ap (λ (c : Contents). c.frames) (contents-read s a w)
frames-served s (Store a w v ∷ rest) = frames-served (after_write s a w v) rest ∙ frames-wrote s a w v

-- a store on one side of the work area leaves its bytes
store-off : (m : Bytes) (work a : ℕ) (bs : List ℕ) (x : ℕ) → (a + length bs ≤ work) ⊎ (work + 12 ≤ a) → work ≤ x → x < work + 12 → store m a bs x ≡ m x
store-off m work a bs x (inl h) low high = store-above m a bs x (omega arith)
store-off m work a bs x (inr h) low high = store-below m a bs x (omega arith)

own-side : (b : Board) (work a : ℕ) (w : Width) (v : ℕ) → EachFrom (IsPlain b work) a (bytes_in w) → (a + length (bytes_of v (bytes_in w)) ≤ work) ⊎ (work + 12 ≤ a)
own-side b work a w v own = go w (apart work a (bytes_in w) (some w) (λ i lt. (own i lt).off))
  where
    go : (x : Width) → (a + bytes_in x ≤ work) ⊎ (work + 12 ≤ a) → (a + length (bytes_of v (bytes_in x)) ≤ work) ⊎ (work + 12 ≤ a)
    go Byte h = h
    go Half h = h
    go Word h = h

-- of a bus
work-kept : (work : ℕ) (s : State) (xs : List Access) → AllByRecursion (IsOwn (board_of s) work) xs → (x : ℕ) → work ≤ x → x < work + 12
    → (served s xs).contents.memory x ≡ s.contents.memory x
work-kept work s [] own x low high = refl
work-kept work s (Fetch a w ∷ rest) own x low high =
    work-kept work (after_read s a w) rest (subst (λ (b : Board). AllByRecursion (IsOwn b work) rest) (sym (board-served s (Fetch a w ∷ []))) own.1) x low high
    ∙ ap (λ (c : Contents). c.memory x) (contents-read s a w)
work-kept work s (Load a w ∷ rest) own x low high =
    work-kept work (after_read s a w) rest (subst (λ (b : Board). AllByRecursion (IsOwn b work) rest) (sym (board-served s (Load a w ∷ []))) own.1) x low high
    ∙ ap (λ (c : Contents). c.memory x) (contents-read s a w)
work-kept work s (Store a w v ∷ rest) own x low high =
    work-kept work (after_write s a w v) rest (subst (λ (b : Board). AllByRecursion (IsOwn b work) rest) (sym (board-served s (Store a w v ∷ []))) own.1) x low high
    ∙ go (bank_has s.contents.banks a (bytes_in w)) (is_some (device_at s.devices a (bytes_in w))) (store_fault s.contents a (bytes_in w))
  where
    go : (b d : Bool) (o : Option BusFault) → (cond b (record s { contents = store_leaves o s.contents (after_store s.contents a w v) })
        (cond d (record { contents = noted s.contents a (bytes_in w); devices = changed_at (seat_written a w v) a (bytes_in w) s.devices }) s)).contents.memory x ≡ s.contents.memory x
    go true d None = store-off s.contents.memory work a (bytes_of v (bytes_in w)) x (own-side (board_of s) work a w v own.0.0) low high
    go true d (Some fault) = refl
    go false true o = refl
    go false false o = refl

-- of the model
moved-off : (b : Board) (work : ℕ) (xs : List Access) (m : Bytes) (x : ℕ) → AllByRecursion (IsOwn b work) xs → work ≤ x → x < work + 12 → moved b m xs x ≡ m x
unfolding memory_after
moved-off b work [] m x own low high = refl
moved-off b work (Fetch a w ∷ rest) m x own low high = moved-off b work rest m x own.1 low high
moved-off b work (Load a w ∷ rest) m x own low high = moved-off b work rest m x own.1 low high
moved-off b work (Store a w v ∷ rest) m x own low high =
    moved-off b work rest (cond (in_memory b a (bytes_in w)) (store m a (bytes_of v (bytes_in w))) m) x own.1 low high ∙ go (in_memory b a (bytes_in w))
  where
    go : (c : Bool) → cond c (store m a (bytes_of v (bytes_in w))) m x ≡ m x
    go true = store-off m work a (bytes_of v (bytes_in w)) x (own-side b work a w v own.0.0) low high
    go false = refl

step-off : (b : Board) (work : ℕ) (s : Whole) (lines : Levels) (answers : List ℕ) (x0 : Stepped) → Step b s lines answers x0 → AllByRecursion (IsOwn b work) x0.accesses
    → (x : ℕ) → work ≤ x → x < work + 12 → x0.state.memory x ≡ s.memory x
step-off b work s lines answers x0 (i, reads, is) own x low high =
    let adds = step-adds b s lines i (fetched b s answers) in
    let made : x0.accesses ≡ adds.made = ap (λ (t : Stepped). t.accesses) is ∙ adds.accesses answers (λ f. refl) in
    ap (λ (t : Stepped). t.state.memory x) is ∙ ap (λ (m : Bytes). m x) (adds.memory answers (λ f. refl))
    ∙ moved-off b work adds.made s.memory x (subst (AllByRecursion (IsOwn b work)) made own) low high

-- ---- no device has an own access

off-devices : (b : Board) (work : ℕ) (xs : List Access) → AllByRecursion (IsOwn b work) xs → AreOffDevices b xs
off-devices b work [] own = tt
off-devices b work (Fetch a w ∷ rest) own = (ap b.device (omega arith) ∙ (own.0 0 (some w)).device, off-devices b work rest own.1)
off-devices b work (Load a w ∷ rest) own = (ap b.device (omega arith) ∙ (own.0 0 (some w)).device, off-devices b work rest own.1)
off-devices b work (Store a w v ∷ rest) own = (ap b.device (omega arith) ∙ (own.0.0 0 (some w)).device, off-devices b work rest own.1)

-- ---- two runs, one beside the other

module _ (work ack : ℕ) where
  pub record Pair (k : Scratch) (core_q core_t : ArmState) (q t : State) : Type 0 where
    pub ready_q : IsReady q
    pub ready_t : IsReady t
    pub silent : AreSilent q.devices
    pub work_t : HasWork work ack t.contents
    pub twins : AreTwins work k q t
    pub state : over core_t t ≡ beside work k (over core_q q)

  ticked-twins : (k : Scratch) (q t : State) → AreTwins work k q t → AreTwins work k (after_tick q) (after_tick t)
  ticked-twins k q t twins = record {
    contents = ap (λ (c : Contents). record c { stores = [] }) twins.contents;
    board = board-tick t ∙ twins.board ∙ sym (board-tick q);
  }

  -- behind a step of the program's own
  pub record Behind (k : Scratch) (core_q core1 : ArmState) (q t1 : State) (x0 : Stepped) (piece : List ℕ) : Type 0 where
    pub pair : Pair k x0.state.core core1 (served (after_tick q) x0.accesses) t1
    pub step : IsStepOf core_q (after_tick q) x0 x0.event x0.state.core (served (after_tick q) x0.accesses)
    pub prints : GoesOrExits x0.event x0.state.core (served (after_tick q) x0.accesses) piece
    pub state : over x0.state.core (served (after_tick q) x0.accesses) ≡ x0.state

  module _ (k : Scratch) (core_q core_t : ArmState) (q t : State) (pair : Pair k core_q core_t q t) (x0 : Stepped) (made : IsOwnStep (board_of q) work x0)
      (st : Step (board_of q) (over core_q q) quiet.lines quiet.answers x0) (e : Event) (core1 : ArmState) (t1 : State) (piece : List ℕ)
      (m : IsStepOf core_t (after_tick t) (beside_step work k x0) e core1 t1) (on : GoesOrExits e core1 t1 piece) where
    abbrev q1 : State
    q1 = served (after_tick q) x0.accesses

    whole : IsWhole core_t (after_tick t) (beside_step work k x0) e core1 t1
    whole = is-whole core_t (after_tick t) (beside_step work k x0) e core1 t1 piece m on

    own : AllByRecursion (IsOwn (board_of (after_tick q)) work) x0.accesses
    own = subst (λ (b : Board). AllByRecursion (IsOwn b work) x0.accesses) (sym (board-tick q)) made.accesses

    after : AreTwins work k q1 (served (after_tick t) x0.accesses) × (q1.devices ≡ (after_tick q).devices)
    after = twins-serve work k (after_tick q) (after_tick t) x0.accesses (ticked-twins k q t pair.twins) own

    twins1 : AreTwins work k q1 t1
    twins1 = subst (AreTwins work k q1) (sym whole.bus) after.0

    memory-at : (x : ℕ) → (x < work) ⊎ (work ≤ x) → (x < work + 12) ⊎ (work + 12 ≤ x) → q1.contents.memory x ≡ x0.state.memory x
    memory-at x (inr low) (inl high) =
        work-kept work (after_tick q) x0.accesses own x low high ∙ sym (step-off (board_of q) work (over core_q q) quiet.lines quiet.answers x0 st made.accesses x low high)
    memory-at x (inl h) _ = outside x (inl h)
      where
        outside : (x : ℕ) → IsOff work x → q1.contents.memory x ≡ x0.state.memory x
        outside x off =
            sym (off-store q1.contents.memory work k x off) ∙ sym (ap (λ (c : Contents). c.memory x) twins1.contents)
            ∙ ap (λ (s : Whole). s.memory x) whole.state ∙ off-store x0.state.memory work k x off
    memory-at x (inr low) (inr h) = outside x (inr h)
      where
        outside : (x : ℕ) → IsOff work x → q1.contents.memory x ≡ x0.state.memory x
        outside x off =
            sym (off-store q1.contents.memory work k x off) ∙ sym (ap (λ (c : Contents). c.memory x) twins1.contents)
            ∙ ap (λ (s : Whole). s.memory x) whole.state ∙ off-store x0.state.memory work k x off

    state-is : over x0.state.core q1 ≡ x0.state
    state-is = ap (λ (m : Bytes). record { core = x0.state.core; memory = m }) (fun_ext (λ x. memory-at x (below_or_not x work) (below_or_not x (work + 12))))

    frames-q : has_frames (after_tick q) x0.accesses ≡ true
    frames-q =
        let FramesOf : Contents → Type 0 = λ c. has_frames (record { contents = c; devices = [] }) x0.accesses ≡ true in
        subst FramesOf (ticked-twins k q t pair.twins).contents whole.frames

    silent1 : AreSilent q1.devices
    silent1 = subst AreSilent (sym (after.1 ∙ pair.silent.still)) pair.silent

    lines-q : quiet.lines ≡ levels (lines_up (after_tick q).devices)
    lines-q = sym (ap (λ (ds : List Seat). levels (lines_up ds)) pair.silent.still ∙ ap levels pair.silent.down)

    none-answered : quiet.answers ≡ answers_to (after_tick q) x0.accesses
    none-answered = sym (untouched (after_tick q) x0.accesses (off-board (after_tick q) x0.accesses (off-devices (board_of (after_tick q)) work x0.accesses own))).0

    step-q : Step (board_of (after_tick q)) (over core_q (after_tick q)) (levels (lines_up (after_tick q).devices)) (answers_to (after_tick q) x0.accesses) x0
    step-q =
        subst (λ (a : List ℕ). Step (board_of (after_tick q)) (over core_q q) (levels (lines_up (after_tick q).devices)) a x0) none-answered
        (subst (λ (l : Levels). Step (board_of (after_tick q)) (over core_q q) l quiet.answers x0) lines-q
        (subst (λ (b : Board). Step b (over core_q q) quiet.lines quiet.answers x0) (sym (board-tick q)) st))

    prints1 : GoesOrExits x0.event x0.state.core q1 piece
    prints1 = go on
      where
        go : GoesOrExits e core1 t1 piece → GoesOrExits x0.event x0.state.core q1 piece
        go (inl h) =
            let core-is : core1 ≡ with_irq k x0.state.core = ap (λ (s : Whole). s.core) whole.state in
            inl (prints-alike work k x0.state.core q1 t1 x0.event piece twins1.contents (λ i. subst (HasOwnString work) (sym state-is) (made.string i))
            (subst (λ (c : ArmState). GoesOn x0.event c t1 piece) core-is (subst (λ (y : Event). GoesOn y core1 t1 piece) whole.event h)))
        go (inr (h, none)) = inr (sym whole.event ∙ h, none)

    pub own-behind : Behind k core_q core1 q t1 x0 piece
    own-behind = record {
      pair = record {
        ready_q = ready-next q x0.accesses pair.ready_q;
        ready_t = subst IsReady (sym whole.bus) (ready-next t x0.accesses pair.ready_t);
        silent = silent1;
        work_t = subst (λ (s : State). HasWork work ack s.contents) (sym whole.bus) (work-served work ack (after_tick t) x0.accesses (work-tick t pair.work_t));
        twins = twins1;
        state = whole.state ∙ ap (beside work k) (sym state-is);
      };
      step = record { step = step-q; ends = rw frames-q (refl, state-is, refl) };
      prints = prints1;
      state = state-is;
    }
      where
        work-tick : (s : State) → HasWork work ack s.contents → HasWork work ack (after_tick s).contents
        work-tick s h = record { first = h.first; second = h.second; third = h.third; device = h.device }

  -- ---- the handler's steps

  -- a step that prints nothing, and stores into the work area and to the device alone
  pub record IsSilent (x : Stepped) : Type 0 where
    pub prints : (core : ArmState) (s : State) (piece : List ℕ) → GoesOrExits x.event core s piece → piece ≡ []
    pub accesses : AllByRecursion (IsHandlers work ack) x.accesses

  event-silent : (x : Stepped) (e : Event) → x.event ≡ e → ((core : ArmState) (s : State) (piece : List ℕ) → GoesOn e core s piece → piece ≡ []) → AllByRecursion (IsHandlers work ack) x.accesses → IsSilent x
  event-silent x e is h a = record { prints = prints; accesses = a }
    where
      prints : (core : ArmState) (s : State) (piece : List ℕ) → GoesOrExits x.event core s piece → piece ≡ []
      prints core s piece (inl on) = h core s piece (subst (λ (y : Event). GoesOn y core s piece) is on)
      prints core s piece (inr (exit, none)) = none

  handler-silent : (x : Stepped) → IsInHandler work ack x → IsSilent x
  handler-silent x h = event-silent x event.Ran h.ran (λ core s piece on. on) h.accesses

  took-silent : (x : Stepped) → x.event ≡ event.Took exception.Irq → x.accesses ≡ [] → IsSilent x
  took-silent x is none = event-silent x (event.Took exception.Irq) is (λ core s piece on. on) (subst (AllByRecursion (IsHandlers work ack)) (sym none) tt)

  all-silent : (xs : List Stepped) → AllByRecursion (IsInHandler work ack) xs → AllByRecursion IsSilent xs
  all-silent [] h = tt
  all-silent (x ∷ xs) h = (handler-silent x h.0, all-silent xs h.1)

  handlers-used : (c : Contents) (xs : List Access) → HasWork work ack c → AllByRecursion (IsHandlers work ack) xs → StoresAreUsed c xs
  handlers-used c [] h all = tt
  handlers-used c (Fetch a w ∷ rest) h all = handlers-used c rest h all.1
  handlers-used c (Load a w ∷ rest) h all = handlers-used c rest h all.1
  handlers-used c (Store a w v ∷ rest) h all = subst (λ (x : Width). AreUsed c.used (cond (bank_has c.banks a (bytes_in x)) (a ∷ stored_to c.banks rest) (stored_to c.banks rest))) (sym all.0.0) (at all.0.1 (handlers-used c rest h all.1))
    where
      used : (x : ℕ) → page_used_in c.used x ≡ true → AreUsed c.used (stored_to c.banks rest) → a ≡ x
          → AreUsed c.used (cond (bank_has c.banks a 4) (a ∷ stored_to c.banks rest) (stored_to c.banks rest))
      used x p more e = subst (λ (y : ℕ). AreUsed c.used (cond (bank_has c.banks y 4) (y ∷ stored_to c.banks rest) (stored_to c.banks rest))) (sym e) (go (bank_has c.banks x 4))
        where
          go : (b : Bool) → AreUsed c.used (cond b (x ∷ stored_to c.banks rest) (stored_to c.banks rest))
          go true = (p, more)
          go false = more

      at : (a ≡ work) ⊎ (a ≡ work + 4) ⊎ (a ≡ work + 8) ⊎ (a ≡ ack) → AreUsed c.used (stored_to c.banks rest)
          → AreUsed c.used (cond (bank_has c.banks a 4) (a ∷ stored_to c.banks rest) (stored_to c.banks rest))
      at (inl e) more = used work h.first more e
      at (inr (inl e)) more = used (work + 4) h.second more e
      at (inr (inr (inl e))) more = used (work + 8) h.third more e
      at (inr (inr (inr e))) more = rw (e, h.device) more

  -- a bus in the same places, with the same used pages
  pub record SameBus (s t : State) : Type 0 where
    pub used : t.contents.used ≡ s.contents.used
    pub banks : t.contents.banks ≡ s.contents.banks
    pub frames : t.contents.frames ≡ s.contents.frames
    pub board : board_of t ≡ board_of s

  abbrev Run : ArmState → State → List Stepped → List Stepped → List ℕ → ArmState → State → Type 0
  Run core s front zs text core' s' =
      (core1 : ArmState) × (s1 : State) × Prints core1 s1 zs text core' s' × (over core1 s1 ≡ behind (over core s) front) × IsReady s1 × SameBus s s1

  work-same : (s t : State) → SameBus s t → HasWork work ack s.contents → HasWork work ack t.contents
  work-same s t same h = record {
    first = ap (λ (us : List Bool). page_used_in us work) same.used ∙ h.first;
    second = ap (λ (us : List Bool). page_used_in us (work + 4)) same.used ∙ h.second;
    third = ap (λ (us : List Bool). page_used_in us (work + 8)) same.used ∙ h.third;
    device = rw same.banks h.device;
  }

  handler-run : (core : ArmState) (s : State) (front zs : List Stepped) (text : List ℕ) (core' : ArmState) (s' : State) → IsReady s → HasWork work ack s.contents
      → AllByRecursion IsSilent front → Prints core s (front ++ zs) text core' s' → Run core s front zs text core' s'
  handler-run core s [] zs text core' s' r h all run = (core, s, run, refl, r, record { used = refl; banks = refl; frames = refl; board = refl })
  handler-run core s (x ∷ front) zs text core' s' r h all (e, core1, s1, piece, rest, m, on, more, is) =
      let tick = after_tick s in
      let whole = is-whole core tick x e core1 s1 piece m on in
      let stores = handlers-used tick.contents x.accesses (record { first = h.first; second = h.second; third = h.third; device = h.device }) all.0.accesses in
      let kept = step-used core tick x (levels (lines_up tick.devices)) (ready-tick s r) stores m.step in
      let same : SameBus s s1 = subst (SameBus s) (sym whole.bus) (record { used = kept.0; banks = kept.1; frames = frames-served tick x.accesses; board = board-next s x.accesses }) in
      let none : piece ≡ [] = all.0.prints core1 s1 piece (subst (λ (y : Event). GoesOrExits y core1 s1 piece) whole.event on) in
      let text-is : rest ≡ text = sym (is ∙ ap (λ (l : List ℕ). l ++ rest) none) in
      let ready1 : IsReady s1 = subst IsReady (sym whole.bus) (ready-next s x.accesses r) in
      further x front same whole.state text-is (handler-run core1 s1 front zs rest core' s' ready1 (work-same s s1 same h) all.1 more)
    where
      further : (x : Stepped) (front : List Stepped) → {core1 : ArmState} {s1 : State} {rest : List ℕ} → SameBus s s1 → over core1 s1 ≡ x.state → rest ≡ text
          → Run core1 s1 front zs rest core' s' → Run core s (x ∷ front) zs text core' s'
      further x front same state text-is (core2, s2, run, reach, ready, same2) = (
        core2,
        s2,
        subst (λ (l : List ℕ). Prints core2 s2 zs l core' s') text-is run,
        reach ∙ ap (λ (y : Whole). behind y front) state,
        ready,
        record { used = same2.used ∙ same.used; banks = same2.banks ∙ same.banks; frames = same2.frames ∙ same.frames; board = same2.board ∙ same.board },
      )

  silent-text : (core : ArmState) (s : State) (xs : List Stepped) (text : List ℕ) (core' : ArmState) (s' : State) → AllByRecursion IsSilent xs → Prints core s xs text core' s' → text ≡ []
  silent-text core s [] text core' s' all run = run.0
  silent-text core s (x ∷ xs) text core' s' all (e, core1, s1, piece, rest, m, on, more, is) =
      let whole = is-whole core (after_tick s) x e core1 s1 piece m on in
      let none : piece ≡ [] = all.0.prints core1 s1 piece (subst (λ (y : Event). GoesOrExits y core1 s1 piece) whole.event on) in
      is ∙ ap (λ (l : List ℕ). l ++ rest) none ∙ silent-text core1 s1 xs rest core' s' all.1 more

  -- ---- the whole run

  abbrev pub Alike : ArmState → State → List Stepped → List ℕ → Type 0
  Alike core_q q ps text = (core_q' : ArmState) × (q' : State) × Prints core_q q ps text core_q' q'

  back-in : (k l : Scratch) (core_q core_t core2 : ArmState) (q t t2 : State) → Pair k core_q core_t q t → over core2 t2 ≡ beside work l (over core_q q) → IsReady t2 → SameBus t t2 → Pair l core_q core2 q t2
  back-in k l core_q core_t core2 q t t2 pair state ready same =
      let memory : t2.contents.memory ≡ store q.contents.memory work l.bytes = ap (λ (s : Whole). s.memory) state in
      let banks : t2.contents.banks ≡ q.contents.banks = same.banks ∙ ap (λ (c : Contents). c.banks) pair.twins.contents in
      let used : t2.contents.used ≡ q.contents.used = same.used ∙ ap (λ (c : Contents). c.used) pair.twins.contents in
      let frames : t2.contents.frames ≡ q.contents.frames = same.frames ∙ ap (λ (c : Contents). c.frames) pair.twins.contents in
      record {
        ready_q = pair.ready_q;
        ready_t = ready;
        silent = pair.silent;
        work_t = work-same t t2 same pair.work_t;
        twins = record { contents = built t2.contents q.contents (store q.contents.memory work l.bytes) memory banks used frames; board = same.board ∙ pair.twins.board };
        state = state;
      }
    where
      built : (c d : Contents) (m : Bytes) → c.memory ≡ m → c.banks ≡ d.banks → c.used ≡ d.used → c.frames ≡ d.frames → c ≡ record d { memory = m; stores = c.stores }
      built c d m e f g h =
          ap (λ (x : Bytes). record c { memory = x }) e
          ∙ ap (λ (x : List Bank). record c { memory = m; banks = x }) f
          ∙ ap (λ (x : List Bool). record c { memory = m; banks = d.banks; used = x }) g
          ∙ ap (λ (x : ℕ). record c { memory = m; banks = d.banks; used = d.used; frames = x }) h

  pub alike : {b : Board} {k : Scratch} {p : Whole} {xs ps : List Stepped} → Aligned b work ack k p xs ps
      → (core_q core_t core_t' : ArmState) (q t t' : State) (text : List ℕ) → board_of q ≡ b → p ≡ over core_q q → Pair k core_q core_t q t
      → AreSteps b p [] ps → Prints core_t t xs text core_t' t' → Alike core_q q ps text
  alike ends core_q core_t core_t' q t t' text board is pair steps run = (core_q, q, (run.0, refl, refl))
  alike (stops x xs int short) core_q core_t core_t' q t t' text board is pair steps run =
      (core_q, q, (silent-text core_t t (x ∷ xs) text core_t' t' (took-silent x int.taken int.silent, all-silent xs int.handler) run, refl, refl))
  alike {b = b} {k = k} {p = p} (goes {xs = xs} {ps = ps} x0 made aligned) core_q core_t core_t' q t t' text board is pair (st, counted, steps) (e, core1, t1, piece, rest, m, on, more, text-is) =
      let made-q = subst (λ (c : Board). IsOwnStep c work x0) (sym board) made in
      let st-q : Step (board_of q) (over core_q q) quiet.lines quiet.answers x0 =
      subst (λ (c : Board). Step c (over core_q q) quiet.lines quiet.answers x0) (sym board) (subst (λ (s : Whole). Step b s quiet.lines quiet.answers x0) is st) in
      let next = own-behind k core_q core_t q t pair x0 made-q st-q e core1 t1 piece m on in
      let (core', q', prints) = alike aligned x0.state.core core1 core_t' (served (after_tick q) x0.accesses) t1 t' rest (board-next q x0.accesses ∙ board) (sym next.state) next.pair steps more in
      (core', q', (x0.event, x0.state.core, served (after_tick q) x0.accesses, piece, rest, next.step, next.prints, prints, text-is))
  alike {b = b} {k = k} {p = p} (returns {zs = zs} {ps = ps} l x front int long reach aligned) core_q core_t core_t' q t t' text board is pair steps run =
      let (core2, t2, later, state, ready, same) = handler-run core_t t (x ∷ front) zs text core_t' t' pair.ready_t pair.work_t (took-silent x int.taken int.silent, all-silent front int.handler) run in
      alike aligned core_q core2 core_t' q t2 t' text board is (back-in k l core_q core_t core2 q t t2 pair (state ∙ reach ∙ ap (beside work l) is) ready same) steps later
