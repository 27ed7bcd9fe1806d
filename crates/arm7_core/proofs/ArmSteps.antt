-- A step in ARM state by what its code found.
use Rattle.std.proofs.Common.{◌≡◌, ℕ, ◌+◌, ◌%◌, ◌^◌, Bool, true, false, ◌==◌, [], refl, sym, ap, ◌∙◌, subst, eq-eqb, eqb-true}
use Rattle.sdt_word.specs.Codes.{bytes_in}
use Rattle.sdt_word.specs.declared.codes.Width.{Width}
use Rattle.sdt_word.specs.declared.codes.Width.TheVariants.{Word}
use Rattle.arm_isa.specs.declared.instr.ArmInstr.{ArmInstr}
use Rattle.arm_isa.specs.ArmRows.{IsUnread, ReadsArm}
use Rattle.arm7_model.specs.declared.state.ArmState.{ArmState}
use Rattle.arm7_model.specs.declared.event.Event.{Event}
use Rattle.arm7_model.specs.declared.event.Event.TheVariants as event
use Rattle.arm7_model.specs.declared.event.Exception.TheVariants as exception
use Rattle.arm7_model.specs.Outcomes.{entered, given_back}
use Rattle.arm7_model.specs.Registers.{is_thumb, register}
use Rattle.arm7_model.specs.Step.{Arm, Unread, advanced, can_fetch, done, fetch_width, fetches, misaligned, stepped, uninterrupted}
use Rattle.arm7_bus.specs.Buses.{after_read, has_whole}
use Rattle.arm7_bus.specs.States.{State}
use Rattle.arm7_transfers.specs.declared.outcome.Outcome.{Outcome}
use Rattle.arm7_transfers.specs.declared.outcome.Outcome.TheVariants.{Unpredictable}
use Rattle.arm7_transfers.specs.Done.{IsDone}
use Rattle.arm7_transfers.specs.Ready.{IsReady}
use Rattle.arm7_transfers.specs.Served.{value_at}
use Rattle.arm7_transfers.proofs.DoneLemmas.{fits, makes-nothing}
use Rattle.arm7_transfers.specs.Ends.{event_of, registers_after}
use Rattle.arm7_transfers.specs.Steps.{Executes, IsStepped, MakesStep}
use Rattle.arm7_transfers.proofs.StepLemmas.{IsAt, width_of, word_of, left_by_fetch, absent, finished}
use Rattle.arm7_core.proofs.ArmParts.{done_part}

-- ---- what the word reads as

pub executes_arm : (word : ℕ) (i : ArmInstr) (core : ArmState) (s : State) (o : Outcome) (core' : ArmState) (s' : State) → ReadsArm word i
    → IsDone (done_part i) core s o core' s' → Executes false word core s o core' s'
unfolding done
executes_arm word i core s o core' s' r d = record { instruction = Arm i; reads = r; does = d }

pub executes_none : (word : ℕ) (core : ArmState) (s : State) → IsReady s → IsUnread word → Executes false word core s Unpredictable core s
unfolding done
executes_none word core s r n = record {
  instruction = Unread;
  reads = n;
  does = makes-nothing (λ u w. done u Unread w) core core s Unpredictable r (λ u later before _. refl) (refl, refl);
}

-- ---- the step

word_width : (core : ArmState) → is_thumb core.cpsr ≡ false → width_of core ≡ Word
word_width core e = ap fetch_width e

at_arm : (core : ArmState) (s : State) → is_thumb core.cpsr ≡ false → IsReady s → register core 15 % 4 ≡ 0 → IsAt core s
unfolding can_fetch
at_arm core s e r h = record {
  ready = r;
  address = rw (e, eq-eqb (register core 15 % 4) 0 h) refl;
  aligned = rw e h;
}

pub arm_absent : (core core' : ArmState) (s : State) (at : ℕ) (held : Bool) (x : Event) → is_thumb core.cpsr ≡ false → IsReady s → at ≡ register core 15 → at % 4 ≡ 0
    → held ≡ has_whole s at 4 → held ≡ false → x ≡ event.Took exception.PrefetchAbort → core' ≡ entered exception.PrefetchAbort ((at + 4) % 2 ^ 32) core
    → IsStepped core s x core' s
arm_absent core core' s at held x e r a h p q y z =
    subst (λ (x : Event). IsStepped core s x core' s) (sym y)
    (subst (λ (c : ArmState). MakesStep core s (event.Took exception.PrefetchAbort) c s) (ap (λ (n : ℕ). entered exception.PrefetchAbort ((n + 4) % 2 ^ 32) core) (sym a) ∙ sym z)
    (absent core s (at_arm core s e r (subst (λ (n : ℕ). n % 4 ≡ 0) a h))
    (ap (λ (w : Width). has_whole s (register core 15) (bytes_in w)) (word_width core e) ∙ ap (λ (n : ℕ). has_whole s n 4) (sym a) ∙ sym p ∙ q)))

pub arm_finished : (core one core' core'' : ArmState) (s t s' : State) (at word : ℕ) (held : Bool) (o : Outcome) (x : Event) → is_thumb core.cpsr ≡ false → IsReady s → at ≡ register core 15 → at % 4 ≡ 0
    → held ≡ has_whole s at 4 → held ≡ true → word ≡ value_at s at Word → t ≡ after_read s at Word → one ≡ advanced core
    → Executes false word one t o core' s' → x ≡ event_of o word → core'' ≡ registers_after o at core'
    → IsStepped core s x core'' s'
arm_finished core one core' core'' s t s' at word held o x e r a h p q v l n d y z =
    let wide = word_width core e in
    let word' : word ≡ word_of core s = v ∙ ap (λ (n : ℕ). value_at s n Word) a ∙ ap (λ (w : Width). value_at s (register core 15) w) (sym wide) in
    let left' : t ≡ left_by_fetch core s = l ∙ ap (λ (n : ℕ). after_read s n Word) a ∙ ap (λ (w : Width). after_read s (register core 15) w) (sym wide) in
    let d' : Executes (is_thumb core.cpsr) (word_of core s) (advanced core) (left_by_fetch core s) o core' s' =
    subst (λ (b : Bool). Executes b (word_of core s) (advanced core) (left_by_fetch core s) o core' s') (sym e)
    (subst (λ (n : ℕ). Executes false n (advanced core) (left_by_fetch core s) o core' s') word'
    (subst (λ (c : ArmState). Executes false word c (left_by_fetch core s) o core' s') n
    (subst (λ (y : State). Executes false word one y o core' s') left' d))) in
    subst (λ (x : Event). IsStepped core s x core'' s') (ap (event_of o) (sym word') ∙ sym y)
    (subst (λ (c : ArmState). IsStepped core s (event_of o (word_of core s)) c s') (ap (λ (n : ℕ). registers_after o n core') (sym a) ∙ sym z)
    (finished core s o core' s' (at_arm core s e r (subst (λ (n : ℕ). n % 4 ≡ 0) a h))
    (ap (λ (w : Width). has_whole s (register core 15) (bytes_in w)) wide ∙ ap (λ (n : ℕ). has_whole s n 4) (sym a) ∙ sym p ∙ q) d'))

-- an address that isn't a multiple of 4: nothing is fetched
not-eqb : (x y : ℕ) → (x ≡ y → ⊥) → (x == y) ≡ false
not-eqb x y h = go (x == y) refl
  where
    go : (b : Bool) → (x == y) ≡ b → (x == y) ≡ false
    go true e = absurd (h (eqb-true x y e))
    go false e = e

pub arm_odd : (core : ArmState) (s : State) (at : ℕ) → is_thumb core.cpsr ≡ false → IsReady s → at ≡ register core 15 → (at % 4 ≡ 0 → ⊥)
    → MakesStep core s (event.Unpredictable 0) core s
unfolding stepped uninterrupted misaligned given_back fetches can_fetch
arm_odd core s at e r a h = record {
  made = [];
  exact = λ lines later n.
      let odd : (register core 15 % 4 == 0) ≡ false = not-eqb (register core 15 % 4) 0 (λ q. h (ap (λ (n : ℕ). n % 4) a ∙ q)) in
      (Unread, λ f. absurd (never (rw (n, e, odd) at f)), sym (rw (n, e, odd) refl));
  after = refl;
  frames = fits _ _ r.room;
}
  where
    never : false ≡ true → ⊥
    never e = cc
