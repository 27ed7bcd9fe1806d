-- A step in Thumb state by what its code found.
use Rattle.std.proofs.Common.{◌≡◌, ℕ, ◌+◌, ◌%◌, ◌^◌, Bool, true, false, refl, sym, ap, ◌∙◌, subst}
use Rattle.sdt_word.specs.declared.codes.Width.TheVariants.{Half}
use Rattle.thumb_isa.specs.declared.instr.ThumbInstr.{ThumbInstr}
use Rattle.thumb_isa.specs.ThumbRows.{IsUnread, ReadsThumb}
use Rattle.arm7_model.specs.declared.state.ArmState.{ArmState}
use Rattle.arm7_model.specs.declared.event.Event.{Event}
use Rattle.arm7_model.specs.declared.event.Event.TheVariants as event
use Rattle.arm7_model.specs.declared.event.Exception.TheVariants as exception
use Rattle.arm7_model.specs.Outcomes.{entered}
use Rattle.arm7_model.specs.Registers.{IsValid, is_thumb, register}
use Rattle.arm7_model.specs.Step.{Thumb, Unread, advanced, can_fetch, done, fetch_width}
use Rattle.arm7_model.specs.ThumbStep.{thumb_done, thumb_unpredictable}
use Rattle.arm7_bus.specs.Buses.{after_read, has_whole}
use Rattle.arm7_bus.specs.States.{State}
use Rattle.arm7_transfers.specs.declared.outcome.Outcome.{Outcome}
use Rattle.arm7_transfers.specs.declared.outcome.Outcome.TheVariants.{Unpredictable}
use Rattle.arm7_transfers.specs.Done.{IsDone}
use Rattle.arm7_transfers.specs.Ready.{IsReady}
use Rattle.arm7_transfers.specs.Served.{value_at}
use Rattle.arm7_transfers.specs.Ends.{event_of, registers_after}
use Rattle.arm7_transfers.specs.Steps.{Executes, IsStepped}
use Rattle.arm7_transfers.proofs.StepLemmas.{IsAt, absent, finished}
use Rattle.arm7_core.proofs.PartLemmas.{effect_part, gives_back}
use Rattle.arm7_transfers.proofs.DoneLemmas.{done-as}

-- ---- the instruction

pub unpredictable : (i : ThumbInstr) (core : ArmState) (s : State) (b : Bool) → IsReady s → b ≡ thumb_unpredictable i core → b ≡ true
    → IsDone (λ u w. thumb_done u i w) core s Unpredictable core s
unfolding thumb_done
unpredictable i core s b r e h = gives_back (λ u w. thumb_done u i w) core s r (λ u answers before. rw (sym e ∙ h) refl)

pub predictable : (i : ThumbInstr) (core : ArmState) (s : State) (b : Bool) (o : Outcome) (core' : ArmState) (s' : State) → b ≡ thumb_unpredictable i core → b ≡ false
    → IsDone (effect_part i) core s o core' s' → IsDone (λ u w. thumb_done u i w) core s o core' s'
unfolding thumb_done
predictable i core s b o core' s' e h d =
    done-as (effect_part i) (λ u w. thumb_done u i w) core s o core' s' (λ u answers before. rw (sym e ∙ h) refl) d

pub executes_read : (i : ThumbInstr) (word : ℕ) (core : ArmState) (s : State) (o : Outcome) (core' : ArmState) (s' : State) → ReadsThumb word i
    → IsDone (λ u w. thumb_done u i w) core s o core' s' → Executes true word core s o core' s'
unfolding done
executes_read i word core s o core' s' r d = record { instruction = Thumb i; reads = r; does = d }

pub executes_unread : (word : ℕ) (core : ArmState) (s : State) → IsReady s → IsUnread word → Executes true word core s Unpredictable core s
unfolding done
executes_unread word core s r n =
    record { instruction = Unread; reads = n; does = gives_back (λ u w. done u Unread w) core s r (λ u answers before. refl) }

-- ---- the step

pub even_pc : (core : ArmState) → IsValid core → is_thumb core.cpsr ≡ true → register core 15 % 2 ≡ 0
unfolding register
even_pc core v t = v.even t

thumb-at : (core : ArmState) (s : State) → IsValid core → is_thumb core.cpsr ≡ true → IsReady s → IsAt core s
unfolding can_fetch
thumb-at core s v t r = record { ready = r; address = rw t refl; aligned = rw t (even_pc core v t) }

pub absent_thumb : (core core' : ArmState) (s : State) (a : ℕ) (there : Bool) (e : Event) → IsValid core → is_thumb core.cpsr ≡ true → IsReady s
    → a ≡ register core 15 → there ≡ has_whole s a 2 → there ≡ false
    → e ≡ event.Took exception.PrefetchAbort → core' ≡ entered exception.PrefetchAbort ((a + 4) % 2 ^ 32) core
    → IsStepped core s e core' s
absent_thumb core core' s a there e v t r at found gone took left =
    let none : has_whole s (register core 15) 2 ≡ false = ap (λ (a : ℕ). has_whole s a 2) (sym at) ∙ (sym found ∙ gone) in
    rw (took, left, at) (absent core s (thumb-at core s v t r) (rw t none))

pub finished_thumb : (core core₁ core₂ core' : ArmState) (s s₁ s' : State) (a word : ℕ) (there : Bool) (o : Outcome) (e : Event)
    → IsValid core → is_thumb core.cpsr ≡ true → IsReady s
    → a ≡ register core 15 → there ≡ has_whole s a 2 → there ≡ true → word ≡ value_at s a Half → s₁ ≡ after_read s a Half
    → core₁ ≡ advanced core → Executes true word core₁ s₁ o core₂ s'
    → e ≡ event_of o word → core' ≡ registers_after o a core₂
    → IsStepped core s e core' s'
finished_thumb core core₁ core₂ core' s s₁ s' a word there o e v t r at found held fetched left on does ended after =
    let whole : has_whole s (register core 15) 2 ≡ true = ap (λ (a : ℕ). has_whole s a 2) (sym at) ∙ (sym found ∙ held) in
    let does' : Executes true (value_at s (register core 15) Half) (advanced core) (after_read s (register core 15) Half) o core₂ s' =
    rw (← at, ← fetched, ← left, ← on) does in
    let Ended : Bool → Type 0 = λ b. IsStepped core s (event_of o (value_at s (register core 15) (fetch_width b))) (registers_after o (register core 15) core₂) s' in
    let all = subst Ended t (finished core s o core₂ s' (thumb-at core s v t r) (rw t whole) (rw t does')) in
    rw (ended, after, fetched, at) all
