-- A step by its fetch and by what its instruction did.
use Rattle.std.proofs.Common.{◌≡◌, ℕ, zero, suc, ◌+◌, ◌%◌, ◌^◌, true, false, List, [], ◌∷◌, ◌++◌, None, refl, sym, ap, ◌∙◌, subst, append_assoc}
use Rattle.std.specs.Prelude.{nat_le, slice_index, slice_set}
use Rattle.std.proofs.lemmas.List.{set-set}
use Rattle.sdt_word.specs.declared.codes.Width.{Width}
use Rattle.sdt_word.specs.Codes.{bytes_in}
use Rattle.arm7_model.specs.declared.state.ArmState.{ArmState}
use Rattle.arm7_model.specs.declared.event.Event.{Event}
use Rattle.arm7_model.specs.declared.event.Event.TheVariants as event
use Rattle.arm7_model.specs.declared.event.Exception.{Exception}
use Rattle.arm7_model.specs.declared.event.Exception.TheVariants as exception
use Rattle.arm7_model.specs.Memory.{Bytes}
use Rattle.arm7_model.specs.Registers.{register, with_register, is_thumb}
use Rattle.arm7_model.specs.Accesses.{Access, Fetch}
use Rattle.arm7_model.specs.Outcomes.{Stepped, Under, entered, ran, took, raised, aborted, hosted, given_back}
use Rattle.arm7_model.specs.Step.{Instruction, Levels, Reads, Step, Unread, advanced, can_fetch, done, executed, fetch_aborted, fetch_width, fetched, fetches, interrupt, stepped, uninterrupted}
use Rattle.arm7_bus.specs.Buses.{after_read, has_whole}
use Rattle.arm7_bus.specs.Paging.{used_count}
use Rattle.arm7_bus.specs.States.{State, Contents}
use Rattle.arm7_transfers.specs.declared.outcome.Outcome.{Outcome}
use Rattle.arm7_transfers.specs.declared.outcome.Outcome.TheVariants.{Ran, Aborted, Unpredictable, Raised, Host, NoFrame}
use Rattle.arm7_transfers.specs.Boards.{board_of, over, working}
use Rattle.arm7_transfers.specs.Done.{Makes, Lacks, IsDone, ended_by}
use Rattle.arm7_transfers.specs.Frames.{has_frames, least_unused, stored_to, used_with}
use Rattle.arm7_transfers.specs.Ready.{IsReady}
use Rattle.arm7_transfers.specs.Served.{answers_to, given, value_at}
use Rattle.arm7_transfers.proofs.BoardLemmas.{there-whole, reads, fetches-word, contents-read}
use Rattle.arm7_transfers.proofs.DoneLemmas.{fits}
use Rattle.arm7_transfers.proofs.ReadyLemmas.{board-read}
use Rattle.arm7_transfers.specs.Ends.{event_of, registers_after}
use Rattle.arm7_transfers.specs.Steps.{MakesStep, LacksFrame, IsStepped, Executes}

-- ---- pc before the fetch

set-self : (l : List ℕ) (i : ℕ) → slice_set l i (slice_index l i) ≡ l
set-self [] i = refl
set-self (x ∷ xs) zero = refl
set-self (x ∷ xs) (suc i) = ap (λ (l : List ℕ). x ∷ l) (set-self xs i)

pub back : (core : ArmState) → with_register (advanced core) 15 (register core 15) ≡ core
unfolding advanced with_register register
back core = ap (λ (l : List ℕ). record core { r = l }) (set-set core.r 15 _ _ ∙ set-self core.r 15)

-- ---- the fetch

abbrev pub width_of : ArmState → Width
width_of core = fetch_width (is_thumb core.cpsr)

-- the address of an instruction that the bus can be asked for
pub record IsAt (core : ArmState) (s : State) : Type 0 where
  pub ready : IsReady s
  pub address : can_fetch core ≡ true
  pub aligned : register core 15 % bytes_in (width_of core) ≡ 0

-- the fetch, its word, the bus that it leaves, and what a device answers to it
abbrev pub fetch_of : ArmState → Access
fetch_of core = Fetch (register core 15) (width_of core)

abbrev pub word_of : ArmState → State → ℕ
word_of core s = value_at s (register core 15) (width_of core)

abbrev pub left_by_fetch : ArmState → State → State
left_by_fetch core s = after_read s (register core 15) (width_of core)

abbrev pub given_to_fetch : ArmState → State → List ℕ
given_to_fetch core s = given s (register core 15) (width_of core)

-- the instruction's part of the step
abbrev pub part_of : ArmState → State → Instruction → List ℕ → Stepped
part_of core s i answers =
    done (record { board = board_of s; before = over core s; word = word_of core s }) i
    (working (advanced core) (left_by_fetch core s) answers (fetch_of core ∷ []))

executed-is : (core : ArmState) (s : State) (i : Instruction) (later : List ℕ) → IsAt core s
    → has_whole s (register core 15) (bytes_in (width_of core)) ≡ true
    → executed (board_of s) (over core s) (given_to_fetch core s ++ later) i ≡ part_of core s i later
unfolding executed fetched
executed-is core s i later p h =
    let found = (reads s (register core 15) (width_of core) core later [] p.ready p.aligned h).0 in
    let left = fetches-word s (register core 15) (width_of core) core later [] p.ready p.aligned h in
    rw (found, left) refl

step-is : (core : ArmState) (s : State) (i : Instruction) (lines : Levels) (later : List ℕ) → IsAt core s
    → has_whole s (register core 15) (bytes_in (width_of core)) ≡ true
    → Reads (is_thumb core.cpsr) (word_of core s) i
    → interrupt lines core.cpsr ≡ None → (t : Stepped) → t ≡ part_of core s i later
    → Step (board_of s) (over core s) lines (given_to_fetch core s ++ later) t
unfolding stepped uninterrupted fetched
step-is core s i lines later p h read n t e =
    let found = (reads s (register core 15) (width_of core) core later [] p.ready p.aligned h).0 in
    let there = there-whole s (register core 15) (width_of core) p.ready p.aligned ∙ h in
    (i, λ _. rw found read, e ∙ sym (rw (n, p.address, there) (executed-is core s i later p h)))

-- ---- an absent fetch

absent-step : (core : ArmState) (s : State) (lines : Levels) (answers : List ℕ) → IsAt core s
    → has_whole s (register core 15) (bytes_in (width_of core)) ≡ false → interrupt lines core.cpsr ≡ None
    → Step (board_of s) (over core s) lines answers
    (record { state = over (entered exception.PrefetchAbort ((register core 15 + 4) % 2 ^ 32) core) s; event = event.Took exception.PrefetchAbort; accesses = [] })
unfolding stepped uninterrupted fetch_aborted took fetches
absent-step core s lines answers p h n =
    let there = there-whole s (register core 15) (width_of core) p.ready p.aligned ∙ h in
    (Unread, λ f. absurd (never (rw (n, p.address, there) at f)), sym (rw (n, p.address, there) refl))
  where
    never : false ≡ true → ⊥
    never e = cc

pub absent : (core : ArmState) (s : State) → IsAt core s → has_whole s (register core 15) (bytes_in (width_of core)) ≡ false
    → MakesStep core s (event.Took exception.PrefetchAbort) (entered exception.PrefetchAbort ((register core 15 + 4) % 2 ^ 32) core) s
absent core s p h = record {
  made = [];
  exact = λ lines later n. absent-step core s lines later p h n;
  after = refl;
  frames = fits _ _ p.ready.room;
}

-- ---- the ends

memory-kept : (core : ArmState) (s s' : State) → s'.contents.memory ≡ (left_by_fetch core s).contents.memory
    → s'.contents.memory ≡ s.contents.memory
memory-kept core s s' e = e ∙ ap (λ (c : Contents). c.memory) (contents-read s (register core 15) (width_of core))

-- what an outcome makes of a step
abbrev pub IsEnd : ArmState → State → ℕ → Outcome → ArmState → State → Type 0
IsEnd core s word o core' s' = (later : List ℕ) (accesses : List Access)
    → ended_by (record { board = board_of s; before = over core s; word = word }) o (working core' s' later accesses)
    ≡ record { state = over (registers_after o (register core 15) core') s'; event = event_of o word; accesses = accesses }

before-end : (core : ArmState) (core' : ArmState) → core' ≡ advanced core → with_register core' 15 (register core 15) ≡ core
before-end core core' e = ap (λ (c : ArmState). with_register c 15 (register core 15)) e ∙ back core

end-ran : (core : ArmState) (s : State) (word : ℕ) (core' : ArmState) (s' : State) → IsEnd core s word Ran core' s'
unfolding ran
end-ran core s word core' s' later accesses = refl

end-aborted : (core : ArmState) (s : State) (word : ℕ) (core' : ArmState) (s' : State) → core' ≡ advanced core → IsEnd core s word Aborted core' s'
unfolding aborted took
end-aborted core s word core' s' e later accesses =
    ap (λ (c : ArmState). record { state = over (entered exception.DataAbort ((register core 15 + 8) % 2 ^ 32) c) s'; event = event.Took exception.DataAbort; accesses = accesses }) (sym (before-end core core' e))

end-given_back : (core : ArmState) (s : State) (word : ℕ) (core' : ArmState) (s' : State) → core' ≡ advanced core → s'.contents.memory ≡ s.contents.memory
    → IsEnd core s word Unpredictable core' s'
unfolding given_back
end-given_back core s word core' s' e m later accesses =
    ap (λ (c : ArmState). record { state = over c s; event = event.Unpredictable word; accesses = accesses }) (sym (before-end core core' e))
    ∙ ap (λ (b : Bytes). record { state = record { core = with_register core' 15 (register core 15); memory = b }; event = event.Unpredictable word; accesses = accesses }) (sym m)

end-raised : (e : Exception) (core : ArmState) (s : State) (word : ℕ) (core' : ArmState) (s' : State) → IsEnd core s word (Raised e) core' s'
unfolding raised took
end-raised e core s word core' s' later accesses = refl

end-hosted : (n : ℕ) (core : ArmState) (s : State) (word : ℕ) (core' : ArmState) (s' : State) → IsEnd core s word (Host n) core' s'
unfolding hosted
end-hosted n core s word core' s' later accesses = refl

-- ---- a step by what its instruction did

-- a fetched instruction
pub record IsFetched (core : ArmState) (s : State) (i : Instruction) : Type 0 where
  pub at : IsAt core s
  pub there : has_whole s (register core 15) (bytes_in (width_of core)) ≡ true
  pub reads : Reads (is_thumb core.cpsr) (word_of core s) i

frames-after : (s : State) (a : ℕ) (width : Width) (made : List Access)
    → has_frames (after_read s a width) made ≡ has_frames s made
frames-after s a width made =
    ap (λ (c : Contents). nat_le (used_count (used_with c.used (stored_to c.banks made))) c.frames) (contents-read s a width)

made-step : (core : ArmState) (s : State) (i : Instruction) (o : Outcome) (core' : ArmState) (s' : State) → IsFetched core s i
    → Makes (λ u w. done u i w) (advanced core) (left_by_fetch core s) o core' s'
    → IsEnd core s (word_of core s) o core' s'
    → MakesStep core s (event_of o (word_of core s)) (registers_after o (register core 15) core') s'
made-step core s i o core' s' f m end =
    record {
      made = fetch_of core ∷ m.made;
      exact = λ lines later n.
          let whole = fetch_of core ∷ m.made in
          let t : Stepped = record { state = over (registers_after o (register core 15) core') s'; event = event_of o (word_of core s); accesses = whole } in
          let u : Under = record { board = board_of s; before = over core s; word = word_of core s } in
          let does = m.exact u later (fetch_of core ∷ []) (sym (board-read s (register core 15) (width_of core))) ∙ end later whole in
          let From : List ℕ → Type 0 = λ answers. Step (board_of s) (over core s) lines answers t in
          subst From (sym (append_assoc (given_to_fetch core s) (answers_to (left_by_fetch core s) m.made) later))
          (step-is core s i lines (answers_to (left_by_fetch core s) m.made ++ later) f.at f.there f.reads n t (sym does));
      after = m.after;
      frames = sym (frames-after s (register core 15) (width_of core) m.made) ∙ m.frames;
    }

lacked-step : (core : ArmState) (s : State) (i : Instruction) (a : ℕ) (core' : ArmState) (s' : State) → IsFetched core s i
    → Lacks (λ u w. done u i w) (advanced core) (left_by_fetch core s) a
    → core' ≡ advanced core → s' ≡ left_by_fetch core s
    → LacksFrame core s a (with_register core' 15 (register core 15)) s'
lacked-step core s i a core' s' f m same left = record {
  asked = fetch_of core ∷ m.asked;
  exact = λ lines later n.
      let answers = answers_to (left_by_fetch core s) m.asked ++ later in
      let u : Under = record { board = board_of s; before = over core s; word = word_of core s } in
      let t : Stepped = part_of core s i answers in
      let From : List ℕ → Type 0 = λ answers. Step (board_of s) (over core s) lines answers t in (
        t,
        subst From (sym (append_assoc (given_to_fetch core s) (answers_to (left_by_fetch core s) m.asked) later))
            (step-is core s i lines answers f.at f.there f.reads n t refl),
        m.exact u later (fetch_of core ∷ []) (sym (board-read s (register core 15) (width_of core))),
      );
  frames = sym (frames-after s (register core 15) (width_of core) m.asked) ∙ m.frames;
  least = ap (λ (c : Contents). least_unused c.used (stored_to c.banks m.asked)) (sym (contents-read s (register core 15) (width_of core))) ∙ m.least;
  registers = before-end core core' same;
  fetched = left;
}

by-outcome : (core : ArmState) (s : State) (i : Instruction) (o : Outcome) (core' : ArmState) (s' : State) → IsFetched core s i
    → IsDone (λ u w. done u i w) (advanced core) (left_by_fetch core s) o core' s'
    → IsStepped core s (event_of o (word_of core s)) (registers_after o (register core 15) core') s'
by-outcome core s i Ran core' s' f m = made-step core s i Ran core' s' f m (end-ran core s (word_of core s) core' s')
by-outcome core s i Aborted core' s' f m = made-step core s i Aborted core' s' f m (end-aborted core s (word_of core s) core' s' m.kept.0)
by-outcome core s i Unpredictable core' s' f m =
    made-step core s i Unpredictable core' s' f m (end-given_back core s (word_of core s) core' s' m.kept.0 (memory-kept core s s' m.kept.1))
by-outcome core s i (Raised e) core' s' f m = made-step core s i (Raised e) core' s' f m (end-raised e core s (word_of core s) core' s')
by-outcome core s i (Host n) core' s' f m = made-step core s i (Host n) core' s' f m (end-hosted n core s (word_of core s) core' s')
by-outcome core s i (NoFrame a) core' s' f m = lacked-step core s i a core' s' f m.0 m.1 m.2

pub finished : (core : ArmState) (s : State) (o : Outcome) (core' : ArmState) (s' : State) → IsAt core s
    → has_whole s (register core 15) (bytes_in (width_of core)) ≡ true
    → Executes (is_thumb core.cpsr) (word_of core s) (advanced core) (left_by_fetch core s) o core' s'
    → IsStepped core s (event_of o (word_of core s)) (registers_after o (register core 15) core') s'
finished core s o core' s' at there x =
    by-outcome core s x.instruction o core' s' (record { at = at; there = there; reads = x.reads }) x.does

-- a step that ends over the same bus
pub stepped-as : (core core' : ArmState) (s s' t : State) (e : Event) → t ≡ s' → IsStepped core s e core' s' → IsStepped core s e core' t
stepped-as core core' s s' t e same d = subst (λ (x : State). IsStepped core s e core' x) (sym same) d
