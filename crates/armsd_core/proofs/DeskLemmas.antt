-- Steps that were made, as commands of a desk.
use Rattle.std.proofs.Common.{◌≡◌, ◌∙◌, ℕ, ◌+◌, ◌<◌, ◌≤◌, List, [], ◌++◌, Option, Some, None, refl, sym, ap, subst, arith}
use Rattle.sdt_outside.specs.Sinks.{Got, GotPart}
use Rattle.sdt_outside.proofs.SharedLemmas.{got_none}
use Rattle.arm7_model.specs.declared.state.ArmState.{ArmState}
use Rattle.arm7_model.specs.Registers.{register}
use Rattle.arm7_bus.specs.States.{State}
use Rattle.arm7_run.proofs.StringLemmas.{got_more}
use Rattle.armsd_core.specs.declared.command.Command.{Command}
use Rattle.armsd_core.specs.declared.command.Command.TheVariants.{Break, Unbreak, Watch, Unwatch, Step, Go, Regs, Mem, Detach, Quit}
use Rattle.armsd_core.specs.declared.desk.Notes.{Notes}
use Rattle.armsd_core.specs.declared.reason.Reason.{Reason}
use Rattle.armsd_core.specs.Carried.{Lead, Makes}
use Rattle.armsd_core.specs.Desks.{desk_of}
use Rattle.armsd_core.specs.Goes.{Goes, Steps}
use Rattle.armsd_core.specs.Reasons.{lasting}
use Rattle.armsd_core.specs.Sessions.{Desk, Fails, FailsIn, FailsOn, IsUnsaid, MovesOn, Says, Sets, chokes, line_at, moved, untold}
use Rattle.armsd_core.specs.Texts.{memory_text, registers_text, stop_line}
use Rattle.armsd_core.proofs.GoLemmas.{choked_up}

-- a command that makes steps was carried out, and its text went out
abbrev pub Moved : Lead → ℕ → Notes → ArmState → State → Notes → ArmState → State → Option (List ℕ) → Option (List ℕ) → Type 0
Moved lead most old core s new core' s' before after =
    (said : List ℕ) × MovesOn lead most old.ended (desk_of old core s) said (desk_of new core' s') × Got before after said

abbrev pub Failed : Lead → ℕ → Notes → ArmState → State → ArmState → State → Option (List ℕ) → Option (List ℕ) → Type 0 → Type 0
Failed lead most old core s core' s' before after rose = FailsOn lead most old.ended (desk_of old core s) core' s' before after rose

-- ---- where the machine has stopped for good

on_again : (lead : Lead) (most : ℕ) (d : Desk) (o : Option Reason) (why : Reason) → o ≡ Some why → MovesOn lead most o d (line_at d why) d
on_again lead most d None why e = absurd (cc)
on_again lead most d (Some x) why e = let same : why ≡ x = cc in (ap (line_at d) same, refl)

pub again : (lead : Lead) (most : ℕ) (old : Notes) (core : ArmState) (s : State) (why : Reason) (before after : Option (List ℕ))
    → old.ended ≡ Some why → Got before after (stop_line (register core 15) old.steps why) → Moved lead most old core s old core s before after
again lead most old core s why before after e got = (line_at (desk_of old core s) why, on_again lead most (desk_of old core s) old.ended why e, got)

on_unsaid : (lead : Lead) (most : ℕ) (d : Desk) (o : Option Reason) (why : Reason) (core : ArmState) (s : State) (before after : Option (List ℕ)) (rose : Type 0)
    → o ≡ Some why → IsUnsaid (line_at d why) d core s before after rose → FailsOn lead most o d core s before after rose
on_unsaid lead most d None why core s before after rose e h = absurd (cc)
on_unsaid lead most d (Some x) why core s before after rose e h =
    let same : why ≡ x = cc in subst (λ (w : Reason). IsUnsaid (line_at d w) d core s before after rose) same h

pub again_fails : (lead : Lead) (most : ℕ) (old : Notes) (core : ArmState) (s : State) (why : Reason) (before after : Option (List ℕ)) (rose : Type 0)
    → old.ended ≡ Some why → rose × GotPart before after (stop_line (register core 15) old.steps why) → Failed lead most old core s core s before after rose
again_fails lead most old core s why before after rose e (up, part) =
    on_unsaid lead most (desk_of old core s) old.ended why core s before after rose e (record { counted = up; same_core = refl; same_bus = refl; part = part })

-- ---- where it goes on

-- what is kept of steps that were made
abbrev pub kept : Notes → ℕ → Reason → Notes
kept old made why = record old { steps = old.steps + made; ended = lasting why }

on_told : (lead : Lead) (most : ℕ) (d : Desk) (o : Option Reason) (why : Reason) (made : ℕ) (text : List ℕ) (core : ArmState) (s : State)
    → o ≡ None → lead most why made text core s → MovesOn lead most o d (text ++ line_at (moved d why made core s) why) (moved d why made core s)
on_told lead most d (Some x) why made text core s e h = absurd (cc)
on_told lead most d None why made text core s e h = record { why = why; made = made; text = text; core = core; bus = s; leads = h; behind = refl; says = refl }

pub told : (lead : Lead) (most : ℕ) (old new : Notes) (core0 core : ArmState) (s0 s : State) (o : Option Reason) (why : Reason) (made : ℕ) (before middle after : Option (List ℕ)) (rose : Type 0)
    → old.ended ≡ None → o ≡ Some why → new ≡ kept old made why → Makes lead most o made core s before middle rose
    → Got middle after (stop_line (register core 15) (old.steps + made) why) → Moved lead most old core0 s0 new core s before after
told lead most old new core0 core s0 s None why made before middle after rose on is keeps h got = absurd (cc)
told lead most old new core0 core s0 s (Some x) why made before middle after rose on is keeps (text, leads, got1) got =
    let same : x ≡ why = cc in
    let d : Desk = desk_of old core0 s0 in
    let leads' = subst (λ (w : Reason). lead most w made text core s) same leads in (
      text ++ line_at (moved d why made core s) why,
      subst (λ (n : Notes). MovesOn lead most old.ended d (text ++ line_at (moved d why made core s) why) (desk_of n core s)) (sym keeps) (on_told lead most d old.ended why made text core s on leads'),
      got_more before middle after text (line_at (moved d why made core s) why) got1 got,
    )

on_untold : (lead : Lead) (most : ℕ) (d : Desk) (o : Option Reason) (why : Reason) (made : ℕ) (text : List ℕ) (core : ArmState) (s : State) (before middle after : Option (List ℕ)) (rose : Type 0)
    → o ≡ None → lead most why made text core s → Got before middle text → rose × GotPart middle after (line_at (moved d why made core s) why) → FailsOn lead most o d core s before after rose
on_untold lead most d (Some x) why made text core s before middle after rose e h got part = absurd (cc)
on_untold lead most d None why made text core s before middle after rose e h got (up, part) = untold (record {
  why = why;
  made = made;
  text = text;
  leads = h;
  middle = middle;
  got = got;
  line = record { counted = up; same_core = refl; same_bus = refl; part = part };
})

pub told_fails : (lead : Lead) (most : ℕ) (old : Notes) (core0 core : ArmState) (s0 s : State) (o : Option Reason) (why : Reason) (made : ℕ) (before middle after : Option (List ℕ)) (rose rose1 rose2 : Type 0)
    → old.ended ≡ None → o ≡ Some why → Makes lead most o made core s before middle rose1 → (rose2 → rose)
    → rose2 × GotPart middle after (stop_line (register core 15) (old.steps + made) why) → Failed lead most old core0 s0 core s before after rose
told_fails lead most old core0 core s0 s None why made before middle after rose rose1 rose2 on is h up part = absurd (cc)
told_fails lead most old core0 core s0 s (Some x) why made before middle after rose rose1 rose2 on is (text, leads, got1) up (rise, part) =
    let same : x ≡ why = cc in
    on_untold lead most (desk_of old core0 s0) old.ended why made text core s before middle after rose on (subst (λ (w : Reason). lead most w made text core s) same leads) got1 (up rise, part)

on_choked : (lead : Lead) (most made : ℕ) (d : Desk) (o p : Option Reason) (core : ArmState) (s : State) (before after : Option (List ℕ)) (rose : Type 0)
    → o ≡ None → p ≡ None → Makes lead most p made core s before after rose → FailsOn lead most o d core s before after rose
on_choked lead most made d (Some x) p core s before after rose e none h = absurd (cc)
on_choked lead most made d None (Some x) core s before after rose e none h = absurd (cc)
on_choked lead most made d None None core s before after rose e none h = chokes made h

pub choked : (lead : Lead) (most : ℕ) (old : Notes) (core0 core : ArmState) (s0 s : State) (o : Option Reason) (made : ℕ) (before after : Option (List ℕ)) (rose : Type 0)
    → old.ended ≡ None → o ≡ None → Makes lead most o made core s before after rose → Failed lead most old core0 s0 core s before after rose
choked lead most old core0 core s0 s o made before after rose on none h = on_choked lead most made (desk_of old core0 s0) old.ended o core s before after rose on none h

-- ---- the count of faults

unsaid_up : (text : List ℕ) (d : Desk) (core : ArmState) (s : State) (before after : Option (List ℕ)) (rose rose' : Type 0) → (rose → rose') → IsUnsaid text d core s before after rose → IsUnsaid text d core s before after rose'
unsaid_up text d core s before after rose rose' up h = record { counted = up h.counted; same_core = h.same_core; same_bus = h.same_bus; part = h.part }

in_up : (lead : Lead) (most : ℕ) (d : Desk) (core : ArmState) (s : State) (before after : Option (List ℕ)) (rose rose' : Type 0) → (rose → rose') → FailsIn lead most d core s before after rose → FailsIn lead most d core s before after rose'
in_up lead most d core s before after rose rose' up (chokes made c) = chokes made (choked_up lead most made core s before after rose rose' up c)
in_up lead most d core s before after rose rose' up (untold h) = untold (record {
  why = h.why;
  made = h.made;
  text = h.text;
  leads = h.leads;
  middle = h.middle;
  got = h.got;
  line = unsaid_up (line_at (moved d h.why h.made core s) h.why) (moved d h.why h.made core s) core s h.middle after rose rose' up h.line;
})

on_up : (lead : Lead) (most : ℕ) (d : Desk) (o : Option Reason) (core : ArmState) (s : State) (before after : Option (List ℕ)) (rose rose' : Type 0) → (rose → rose') → FailsOn lead most o d core s before after rose → FailsOn lead most o d core s before after rose'
on_up lead most d None core s before after rose rose' up h = in_up lead most d core s before after rose rose' up h
on_up lead most d (Some why) core s before after rose rose' up h = unsaid_up (line_at d why) d core s before after rose rose' up h

pub raised : (c : Command) (d : Desk) (core : ArmState) (s : State) (before after : Option (List ℕ)) (rose rose' : Type 0) → (rose → rose') → Fails c d core s before after rose → Fails c d core s before after rose'
raised (Break a) d core s before after rose rose' up h = absurd h
raised (Unbreak a) d core s before after rose rose' up h = absurd h
raised (Watch r) d core s before after rose rose' up h = absurd h
raised Unwatch d core s before after rose rose' up h = absurd h
raised (Step n) d core s before after rose rose' up h = on_up (Steps d.core d.bus) n d d.ended core s before after rose rose' up h
raised (Go n) d core s before after rose rose' up h = on_up (Goes d.points d.watch d.core d.bus) n d d.ended core s before after rose rose' up h
raised Regs d core s before after rose rose' up h = unsaid_up (registers_text d.core) d core s before after rose rose' up h
raised (Mem a n) d core s before after rose rose' up h = unsaid_up (memory_text d.bus.contents a n) d core s before after rose rose' up h
raised (Detach i) d core s before after rose rose' up h = absurd h
raised Quit d core s before after rose rose' up h = absurd h

-- ---- other commands

pub set_so : (new d' : Desk) (before : Option (List ℕ)) → d' ≡ new → (said : List ℕ) × Sets new said d' × Got before before said
set_so new d' before e = ([], (refl, e), got_none before)

pub said_so : (text : List ℕ) (d : Desk) (before after : Option (List ℕ)) → Got before after text → (said : List ℕ) × Says text d said d × Got before after said
said_so text d before after got = (text, (refl, refl), got)

pub unsaid_so : (text : List ℕ) (d : Desk) (before after : Option (List ℕ)) (rose : Type 0) → rose × GotPart before after text → IsUnsaid text d d.core d.bus before after rose
unsaid_so text d before after rose (up, part) = record { counted = up; same_core = refl; same_bus = refl; part = part }
