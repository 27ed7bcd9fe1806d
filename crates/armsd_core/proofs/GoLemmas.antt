-- The steps of a Go, one by one.
use Rattle.std.proofs.Common.{◌≡◌, ◌∙◌, ℕ, zero, suc, ◌+◌, ◌<◌, List, [], ◌++◌, Option, Some, None, ◌⊎◌, inl, inr, refl, sym, ap, subst, arith}
use Rattle.std.proofs.lemmas.List.{append-nil}
use Rattle.sdt_fault.specs.declared.answer.Stop.{Stop}
use Rattle.sdt_fault.specs.declared.answer.Stop.TheVariants as stop
use Rattle.sdt_outside.specs.Sinks.{Got}
use Rattle.sdt_outside.proofs.SharedLemmas.{got_none}
use Rattle.sdt_word.specs.declared.ranges.Range32.{Range32}
use Rattle.arm7_model.specs.declared.state.ArmState.{ArmState}
use Rattle.arm7_model.specs.Registers.{register}
use Rattle.arm7_bus.specs.States.{State}
use Rattle.arm7_run.specs.Runs.{Chokes, Leads, stays, goes}
use Rattle.arm7_run.proofs.StringLemmas.{got_more}
use Rattle.armsd_core.specs.declared.reason.Reason.{Reason}
use Rattle.armsd_core.specs.declared.reason.Reason.TheVariants as reason
use Rattle.armsd_core.specs.declared.stepping.Made.{Made}
use Rattle.armsd_core.specs.Carried.{AreChoked, EndsGo, GoTurn, IsLast, Makes}
use Rattle.armsd_core.specs.Goes.{Goes, IsPause, Passes, Steps, begins, counted, halts, passes, pauses}
use Rattle.armsd_core.specs.Reasons.{lasting, reason_of}

-- ---- a Step that made all its steps

-- its steps went on
pub counts : (n made : ℕ) (core : ArmState) (s : State) (text : List ℕ) (core' : ArmState) (s' : State)
    → Steps core s n reason.Count made text core' s' → (made ≡ n) × Leads core s n text core' s'
counts n made core s text core' s' (stop.Budget, e, runs) =
    let (all, is, c, b) = runs.ends in (
      is ∙ all,
      subst (λ (k : ℕ). Leads core s k text core' s') all
          (subst (λ (x : ArmState). Leads core s runs.count text x s') (sym c) (subst (λ (x : State). Leads core s runs.count text runs.core1 x) (sym b) runs.leads)),
    )
counts n made core s text core' s' (stop.Exit, e, runs) = absurd (cc)
counts n made core s text core' s' (stop.Unpredictable a w, e, runs) = absurd (cc)
counts n made core s text core' s' (stop.BadString a, e, runs) = absurd (cc)
counts n made core s text core' s' (stop.NoFrame a, e, runs) = absurd (cc)
counts n made core s text core' s' (stop.Sink, e, runs) = absurd (cc)

-- ---- a Step of one step

chokes_up : (core : ArmState) (s : State) (core' : ArmState) (s' : State) (before after : Option (List ℕ)) (rose rose' : Type 0)
    → (rose → rose') → Chokes core s core' s' before after rose → Chokes core s core' s' before after rose'
chokes_up core s core' s' before after rose rose' up c = record {
  event = c.event;
  step = c.step;
  piece = c.piece;
  goes_on = c.goes_on;
  printed = c.printed;
  part = c.part;
  counted = up c.counted;
}

pub choked_up : (lead : ℕ → Reason → ℕ → List ℕ → ArmState → State → Type 0) (most made : ℕ) (core : ArmState) (s : State) (before after : Option (List ℕ)) (rose rose' : Type 0)
    → (rose → rose') → AreChoked lead most made core s before after rose → AreChoked lead most made core s before after rose'
choked_up lead most made core s before after rose rose' up c = record {
  count = c.count;
  few = c.few;
  made_is = c.made_is;
  text = c.text;
  core1 = c.core1;
  s1 = c.s1;
  leads = c.leads;
  middle = c.middle;
  got = c.got;
  chokes = chokes_up c.core1 c.s1 core s c.middle after rose rose' up c.chokes;
}

got_nothing : (before now : Option (List ℕ)) → Got before now [] → now ≡ before
got_nothing None now h = h
got_nothing (Some b) now h = h ∙ ap (λ (x : List ℕ). Some x) (append-nil b)

alone_by : (n : ℕ) (core : ArmState) (s : State) (text : List ℕ) (core1 : ArmState) (s1 : State) (core' : ArmState) (s' : State) (before middle after : Option (List ℕ)) (rose : Type 0)
    → n ≡ 0 → Leads core s n text core1 s1 → Got before middle text → Chokes core1 s1 core' s' middle after rose → Chokes core s core' s' before after rose
alone_by zero core s text core1 s1 core' s' before middle after rose e stays got c =
    subst (λ (b : Option (List ℕ)). Chokes core s core' s' b after rose) (got_nothing before middle got) c
alone_by (suc n) core s text core1 s1 core' s' before middle after rose e leads got c = absurd (omega arith)

-- the one step choked
alone : (core : ArmState) (s : State) (made : ℕ) (core' : ArmState) (s' : State) (before after : Option (List ℕ)) (rose : Type 0)
    → AreChoked (Steps core s) 1 made core' s' before after rose → (made ≡ 1) × Chokes core s core' s' before after rose
alone core s made core' s' before after rose c =
    let few = c.few in
    let none : c.count ≡ 0 = omega arith in (
      c.made_is ∙ ap (λ (k : ℕ). k + 1) none,
      alone_by c.count core s c.text c.core1 c.s1 core' s' before c.middle after rose none (counts c.count c.count core s c.text c.core1 c.s1 c.leads).1 c.got c.chokes,
    )

pub no_break : (w : Stop) → reason_of w ≡ Some reason.Break → ⊥
no_break stop.Budget e = cc
no_break stop.Exit e = cc
no_break (stop.Unpredictable a x) e = cc
no_break (stop.BadString a) e = cc
no_break (stop.NoFrame a) e = cc
no_break stop.Sink e = cc

pub no_watch : (w : Stop) (at : ℕ) → reason_of w ≡ Some (reason.Watch at) → ⊥
no_watch stop.Budget at e = cc
no_watch stop.Exit at e = cc
no_watch (stop.Unpredictable a x) at e = cc
no_watch (stop.BadString a) at e = cc
no_watch (stop.NoFrame a) at e = cc
no_watch stop.Sink at e = cc

-- a step that isn't counted alone ends the Go
pub ends : (points : List ℕ) (watch : Option Range32) (o : Option Reason) (made : ℕ) (core : ArmState) (s : State) (core' : ArmState) (s' : State) (before after : Option (List ℕ)) (rose : Type 0)
    → (o ≡ Some reason.Count → ⊥) → Makes (Steps core s) 1 o made core' s' before after rose → EndsGo points watch o made core s core' s' before after rose
ends points watch None made core s core' s' before after rose other h = alone core s made core' s' before after rose h
ends points watch (Some reason.Count) made core s core' s' before after rose other h = absurd (other refl)
ends points watch (Some reason.Break) made core s core' s' before after rose other (text, (w, e, runs), got) = absurd (no_break w e)
ends points watch (Some (reason.Watch a)) made core s core' s' before after rose other (text, (w, e, runs), got) = absurd (no_watch w a e)
ends points watch (Some reason.Exit) made core s core' s' before after rose other (text, steps, got) = (text, inr (refl, steps), got)
ends points watch (Some (reason.Unpredictable w)) made core s core' s' before after rose other (text, steps, got) = (text, inr (refl, steps), got)
ends points watch (Some (reason.BadString a)) made core s core' s' before after rose other (text, steps, got) = (text, inr (refl, steps), got)
ends points watch (Some (reason.NoFrame a)) made core s core' s' before after rose other (text, steps, got) = (text, inr (refl, steps), got)

-- a step that goes on, and a pause behind it or none
pub turns : (points : List ℕ) (watch : Option Range32) (o : Option Reason) (made : ℕ) (core : ArmState) (s : State) (core' : ArmState) (s' : State) (before after : Option (List ℕ)) (rose : Type 0)
    → o ≡ Some reason.Count → Makes (Steps core s) 1 o made core' s' before after rose → IsPause points watch (register core' 15) s'.contents.stores None
    → GoTurn points watch None core s core' s' before after rose
turns points watch None made core s core' s' before after rose is h none = absurd (cc)
turns points watch (Some why) made core s core' s' before after rose is (text, steps, got) none =
    let same : why ≡ reason.Count = cc in
    (text, (counts 1 made core s text core' s' (subst (λ (x : Reason). Steps core s 1 x made text core' s') same steps)).1, none, got)

pub turns_last : (points : List ℕ) (watch : Option Range32) (o : Option Reason) (made : ℕ) (core : ArmState) (s : State) (core' : ArmState) (s' : State) (before after : Option (List ℕ)) (rose : Type 0) (told : Reason)
    → o ≡ Some reason.Count → Makes (Steps core s) 1 o made core' s' before after rose → IsPause points watch (register core' 15) s'.contents.stores (Some told)
    → EndsGo points watch (Some told) 1 core s core' s' before after rose
turns_last points watch None made core s core' s' before after rose told is h pause = absurd (cc)
turns_last points watch (Some why) made core s core' s' before after rose told is (text, steps, got) pause =
    let same : why ≡ reason.Count = cc in
    (text, inl (refl, (counts 1 made core s text core' s' (subst (λ (x : Reason). Steps core s 1 x made text core' s') same steps)).1, pause), got)

-- ---- the Go

-- so many steps were made that a Go passes, and their text was appended
pub record IsPassing (points : List ℕ) (watch : Option Range32) (core : ArmState) (s : State) (before : Option (List ℕ)) (n : ℕ) (core' : ArmState) (s' : State) (after : Option (List ℕ)) : Type 0 where
  pub text : List ℕ
  pub passed : Passes points watch core s n text core' s'
  pub got : Got before after text

pub starts : (points : List ℕ) (watch : Option Range32) (core : ArmState) (s : State) (before : Option (List ℕ)) → IsPassing points watch core s before 0 core s before
starts points watch core s before = record { text = []; passed = begins; got = got_none before }

one-more : (n : ℕ) → suc n ≡ n + 1
one-more n = omega arith

pub passes_on : (points : List ℕ) (watch : Option Range32) (core : ArmState) (s : State) (before : Option (List ℕ)) (n : ℕ) (core1 : ArmState) (s1 : State) (middle : Option (List ℕ)) (o : Option Made) (core2 : ArmState) (s2 : State) (after : Option (List ℕ)) (rose : Type 0)
    → IsPassing points watch core s before n core1 s1 middle → GoTurn points watch o core1 s1 core2 s2 middle after rose → o ≡ None
    → IsPassing points watch core s before (n + 1) core2 s2 after
passes_on points watch core s before n core1 s1 middle (Some m) core2 s2 after rose w h none = absurd (cc)
passes_on points watch core s before n core1 s1 middle None core2 s2 after rose w (piece, leads, pause, got) none = record {
  text = w.text ++ piece;
  passed = subst (λ (k : ℕ). Passes points watch core s k (w.text ++ piece) core2 s2) (one-more n) (passes piece w.passed leads pause);
  got = got_more before middle after w.text piece w.got got;
}

pub passes_all : (points : List ℕ) (watch : Option Range32) (core : ArmState) (s : State) (before : Option (List ℕ)) (most n : ℕ) (core' : ArmState) (s' : State) (after : Option (List ℕ))
    → n ≡ most → IsPassing points watch core s before n core' s' after → (text : List ℕ) × Goes points watch core s most reason.Count most text core' s' × Got before after text
passes_all points watch core s before most n core' s' after all w =
    (w.text, counted (subst (λ (k : ℕ). Passes points watch core s k w.text core' s') all w.passed), w.got)

last_of : (points : List ℕ) (watch : Option Range32) (core : ArmState) (s : State) (most n : ℕ) (text : List ℕ) (core1 : ArmState) (s1 : State) (why : Reason) (made : ℕ) (piece : List ℕ) (core2 : ArmState) (s2 : State)
    → n < most → Passes points watch core s n text core1 s1 → IsLast points watch why made piece core1 s1 core2 s2
    → Goes points watch core s most why (n + made) (text ++ piece) core2 s2
last_of points watch core s most n text core1 s1 why made piece core2 s2 few passed (inl (one, leads, pause)) =
    let same : suc n ≡ n + made = one-more n ∙ ap (λ (k : ℕ). n + k) (sym one) in
    subst (λ (k : ℕ). Goes points watch core s most why k (text ++ piece) core2 s2) same (pauses piece why few passed leads pause)
last_of points watch core s most n text core1 s1 why made piece core2 s2 few passed (inr (lasts, steps)) = halts piece why made few passed lasts steps

pub passes_last : (points : List ℕ) (watch : Option Range32) (core : ArmState) (s : State) (before : Option (List ℕ)) (most n : ℕ) (core1 : ArmState) (s1 : State) (middle : Option (List ℕ)) (o : Option Reason) (made : ℕ) (core2 : ArmState) (s2 : State) (after : Option (List ℕ)) (rose rose' : Type 0)
    → n < most → (rose → rose') → IsPassing points watch core s before n core1 s1 middle → EndsGo points watch o made core1 s1 core2 s2 middle after rose
    → Makes (Goes points watch core s) most o (n + made) core2 s2 before after rose'
passes_last points watch core s before most n core1 s1 middle (Some why) made core2 s2 after rose rose' few up w (piece, last, got) =
    (w.text ++ piece, last_of points watch core s most n w.text core1 s1 why made piece core2 s2 few w.passed last, got_more before middle after w.text piece w.got got)
passes_last points watch core s before most n core1 s1 middle None made core2 s2 after rose rose' few up w (one, c) = record {
  count = n;
  few = few;
  made_is = ap (λ (k : ℕ). n + k) one;
  text = w.text;
  core1 = core1;
  s1 = s1;
  leads = counted w.passed;
  middle = middle;
  got = w.got;
  chokes = chokes_up core1 s1 core2 s2 middle after rose rose' up c;
}

pub passes_last_of : (points : List ℕ) (watch : Option Range32) (core : ArmState) (s : State) (before : Option (List ℕ)) (most n : ℕ) (core1 : ArmState) (s1 : State) (middle : Option (List ℕ)) (o : Option Made) (end : Made) (core2 : ArmState) (s2 : State) (after : Option (List ℕ)) (rose rose' : Type 0)
    → n < most → (rose → rose') → IsPassing points watch core s before n core1 s1 middle → GoTurn points watch o core1 s1 core2 s2 middle after rose → o ≡ Some end
    → Makes (Goes points watch core s) most end.reason (n + end.steps) core2 s2 before after rose'
passes_last_of points watch core s before most n core1 s1 middle None end core2 s2 after rose rose' few up w h is = absurd (cc)
passes_last_of points watch core s before most n core1 s1 middle (Some m) end core2 s2 after rose rose' few up w h is =
    let same : m ≡ end = cc in
    subst (λ (x : Made). Makes (Goes points watch core s) most x.reason (n + x.steps) core2 s2 before after rose') same
    (passes_last points watch core s before most n core1 s1 middle m.reason m.steps core2 s2 after rose rose' few up w h)

-- no step was made whose reason is told, or it ends otherwise
pub ends_none : (points : List ℕ) (watch : Option Range32) (o : Option Reason) (made : ℕ) (core : ArmState) (s : State) (core' : ArmState) (s' : State) (before after : Option (List ℕ)) (rose : Type 0)
    → o ≡ None → Makes (Steps core s) 1 o made core' s' before after rose → EndsGo points watch o made core s core' s' before after rose
ends_none points watch o made core s core' s' before after rose none h =
    ends points watch o made core s core' s' before after rose (λ e. let bad : None ≡ Some reason.Count = sym none ∙ e in cc) h
