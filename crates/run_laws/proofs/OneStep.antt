-- Registers and a bus have at most one step: its accesses follow from the word that it fetches.
use Rattle.std.proofs.Common.{◌≡◌, ℕ, ◌%◌, Bool, true, false, List, [], ◌∷◌, Some, is_none, refl, sym, ap, ◌∙◌, subst, eqb-true}
use Rattle.sdt_word.specs.Codes.{bytes_in}
use Rattle.arm7_model.specs.declared.state.ArmState.{ArmState}
use Rattle.arm7_model.specs.declared.event.Event.{Event}
use Rattle.arm7_model.specs.declared.event.Event.TheVariants as event
use Rattle.arm7_model.specs.Accesses.{Access}
use Rattle.arm7_model.specs.Laws.{StepIsOne}
use Rattle.arm7_model.specs.Memory.{is_there}
use Rattle.arm7_model.specs.Outcomes.{Stepped}
use Rattle.arm7_model.specs.Registers.{IsValid, State as Whole, is_thumb, register}
use Rattle.arm7_model.specs.Step.{Levels, Reads, Step, can_fetch, fetched, fetches, interrupt, stepped}
use Rattle.arm7_bus.specs.Buses.{after_read, after_tick, has_whole}
use Rattle.arm7_bus.specs.Seats.{lines_up}
use Rattle.arm7_bus.specs.States.{State}
use Rattle.arm7_bus.proofs.MeetLemmas.{and_left as and-left, and_right as and-right}
use Rattle.arm7_transfers.specs.Boards.{board_of, over}
use Rattle.arm7_transfers.specs.Frames.{has_frames}
use Rattle.arm7_transfers.specs.Ready.{IsReady}
use Rattle.arm7_transfers.specs.Served.{answers_to}
use Rattle.arm7_transfers.proofs.BoardLemmas.{reads, there-whole}
use Rattle.arm7_transfers.proofs.ReadyLemmas.{ready-tick}
use Rattle.arm7_transfers.proofs.StepLemmas.{fetch_of, width_of, word_of}
use Rattle.arm7_core.specs.Machines.{Ends, IsStepFrom, levels}
use Rattle.arm7_core.proofs.ThumbSteps.{even_pc}
use Rattle.run_laws.specs.Laws.{BusStepIsOne}
use Rattle.kit_laws.proofs.StepAdded.{step-adds}

-- ---- the word that is fetched

aligned-pc : (core : ArmState) → IsValid core → can_fetch core ≡ true → register core 15 % bytes_in (width_of core) ≡ 0
unfolding can_fetch
aligned-pc core v e = go (is_thumb core.cpsr) refl
  where
    go : (b : Bool) → is_thumb core.cpsr ≡ b → register core 15 % bytes_in (width_of core) ≡ 0
    go true t = rw t (even_pc core v t)
    go false t = rw t (eqb-true (register core 15 % 4) 0 (rw t at e))

module _ (core : ArmState) (s : State) (lines : Levels) (ready : IsReady s) (valid : IsValid core) where
  can : fetches (board_of s) (over core s) lines ≡ true → can_fetch core ≡ true
  unfolding fetches
  can f = and-left (can_fetch core) (is_there (board_of s) (register core 15) (bytes_in (width_of core)))
      (and-right (is_none (interrupt lines core.cpsr)) _ f)

  whole : fetches (board_of s) (over core s) lines ≡ true → has_whole s (register core 15) (bytes_in (width_of core)) ≡ true
  unfolding fetches
  whole f =
      sym (there-whole s (register core 15) (width_of core) ready (aligned-pc core valid (can f)))
      ∙ and-right (can_fetch core) (is_there (board_of s) (register core 15) (bytes_in (width_of core))) (and-right (is_none (interrupt lines core.cpsr)) _ f)

  fetched-is : (rest : List Access) → fetches (board_of s) (over core s) lines ≡ true
      → fetched (board_of s) (over core s) (answers_to s (fetch_of core ∷ rest)) ≡ word_of core s
  unfolding fetched
  fetched-is rest f =
      (reads s (register core 15) (width_of core) core (answers_to (after_read s (register core 15) (width_of core)) rest) [] ready
      (aligned-pc core valid (can f)) (whole f)).0

  -- the step is one with the devices' answers to its accesses
  abbrev pub IsOwn : Stepped → Type 0
  IsOwn t = Step (board_of s) (over core s) lines (answers_to s t.accesses) t

  found : (t : Stepped) → IsOwn t → fetches (board_of s) (over core s) lines ≡ true → fetched (board_of s) (over core s) (answers_to s t.accesses) ≡ word_of core s
  found t (i, read, e) f =
      let p = step-adds (board_of s) (over core s) lines i (fetched (board_of s) (over core s) (answers_to s t.accesses)) in
      let made = ap (λ (x : Stepped). x.accesses) e ∙ p.accesses (answers_to s t.accesses) (λ g. refl) in
      let (rest, first) = p.first f in
      ap (λ (xs : List Access). fetched (board_of s) (over core s) (answers_to s xs)) (made ∙ first) ∙ fetched-is rest f

  pub own-is-one : StepIsOne → (t t' : Stepped) → IsOwn t → IsOwn t' → t ≡ t'
  own-is-one law t t' one (j, read, e) =
      let board = board_of s in
      let whole_state = over core s in
      let a = answers_to s t.accesses in
      let b = answers_to s t'.accesses in
      let other : Step board whole_state lines b t' = (j, read, e) in
      let y = stepped board whole_state lines a j in
      let reads_so : fetches board whole_state lines ≡ true → Reads (is_thumb core.cpsr) (fetched board whole_state a) j =
      λ f. subst (λ (w : ℕ). Reads (is_thumb core.cpsr) w j) (found t' other f ∙ sym (found t one f)) (read f) in
      let is_y : t ≡ y = law board whole_state lines a t y one (j, reads_so, refl) in
      let p = step-adds board whole_state lines j (word_of core s) in
      let same : t.accesses ≡ t'.accesses =
      ap (λ (x : Stepped). x.accesses) is_y ∙ p.accesses a (found t one)
      ∙ sym (ap (λ (x : Stepped). x.accesses) e ∙ p.accesses b (found t' other)) in
      law board whole_state lines b t t' (subst (λ (xs : List Access). Step board whole_state lines (answers_to s xs) t) same one) other

-- ---- how it ends

some-is : (a b : ℕ) → Some a ≡ Some b → a ≡ b
some-is a b e = cc

pub ends-one : (b : Bool) (core : ArmState) (s : State) (first : Stepped) (d e : Event) (core1 core2 : ArmState) (s1 s2 : State)
    → Ends b core s first d core1 s1 → Ends b core s first e core2 s2 → (d ≡ e) × (core1 ≡ core2) × (s1 ≡ s2)
ends-one true core s first d e core1 core2 s1 s2 (p, q, r) (p', q', r') = (p ∙ sym p', ap (λ (x : Whole). x.core) (q ∙ sym q'), r ∙ sym r')
ends-one false core s first d e core1 core2 s1 s2 (a, p, l, c, f) (a', p', l', c', f') =
    (p ∙ ap (λ (n : ℕ). event.NoFrame n) (some-is a a' (sym l ∙ l')) ∙ sym p', c ∙ sym c', f ∙ sym f')

from-one : StepIsOne → (core : ArmState) (s : State) (d e : Event) (core1 core2 : ArmState) (s1 s2 : State) → IsReady s → IsValid core
    → IsStepFrom core s d core1 s1 → IsStepFrom core s e core2 s2 → (d ≡ e) × (core1 ≡ core2) × (s1 ≡ s2)
from-one law core s d e core1 core2 s1 s2 r v x y =
    let same = own-is-one core s (levels (lines_up s.devices)) r v law y.first x.first y.step x.step in
    ends-one (has_frames s x.first.accesses) core s x.first d e core1 core2 s1 s2 x.ends
    (subst (λ (t : Stepped). Ends (has_frames s t.accesses) core s t e core2 s2) same y.ends)

pub bus-step-is-one : StepIsOne → BusStepIsOne
bus-step-is-one law core s d e core1 core2 s1 s2 r v x y = from-one law core (after_tick s) d e core1 core2 s1 s2 (ready-tick s r) v x y
