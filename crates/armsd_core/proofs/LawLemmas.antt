-- The steps of a session without Detach are one run.
use Rattle.std.proofs.Common.{◌≡◌, ◌∙◌, ℕ, zero, suc, ◌+◌, ◌<◌, Bool, true, false, ◌||◌, List, [], ◌∷◌, ◌++◌, Option, Some, None, refl, sym, ap, subst, append_assoc, arith}
use Rattle.std.specs.List.{list_any}
use Rattle.std.proofs.lemmas.List.{append-nil}
use Rattle.sdt_fault.specs.declared.answer.Stop.{Stop}
use Rattle.sdt_fault.specs.declared.answer.Stop.TheVariants as stop
use Rattle.sdt_word.specs.declared.ranges.Range32.{Range32}
use Rattle.arm7_model.specs.declared.state.ArmState.{ArmState}
use Rattle.arm7_model.specs.Registers.{register}
use Rattle.arm7_bus.specs.Buses.{after_detach}
use Rattle.arm7_bus.specs.States.{State}
use Rattle.arm7_run.specs.Runs.{EndsWith, Leads, Runs, goes, stays}
use Rattle.armsd_core.specs.declared.command.Command.{Command}
use Rattle.armsd_core.specs.declared.command.Command.TheVariants.{Break, Unbreak, Watch, Unwatch, Step, Go, Regs, Mem, Detach, Quit}
use Rattle.armsd_core.specs.declared.reason.Reason.{Reason}
use Rattle.armsd_core.specs.declared.reason.Reason.TheVariants as reason
use Rattle.armsd_core.specs.Goes.{Goes, IsPause, Passes, Steps, begins, counted, halts, passes, pauses}
use Rattle.armsd_core.specs.Reasons.{lasting, reason_of}
use Rattle.armsd_core.specs.SessionLaws.{DetachEndsARun, IsOneRun, OthersLeaveTheMachine, SessionIsOneRun, is_detach, is_move}
use Rattle.armsd_core.specs.Carried.{Lead}
use Rattle.armsd_core.specs.Sessions.{CarriesOut, Desk, Does, Moves, MovesOn, moved}
use Rattle.armsd_core.proofs.GoLemmas.{counts, no_break, no_watch}

-- ---- runs, one behind another

no-more : (n : ℕ) → n ≡ n + 0
no-more n = omega arith

one-behind : (n : ℕ) → n + 1 ≡ suc n
one-behind n = omega arith

one-up : (n m : ℕ) → suc (n + m) ≡ n + suc m
one-up n m = omega arith

join : (core : ArmState) (s : State) (n : ℕ) (t : List ℕ) (core1 : ArmState) (s1 : State) (m : ℕ) (u : List ℕ) (core2 : ArmState) (s2 : State)
    → Leads core s n t core1 s1 → Leads core1 s1 m u core2 s2 → Leads core s (n + m) (t ++ u) core2 s2
join core s n t core1 s1 zero u core2 s2 a stays =
    subst (λ (k : ℕ). Leads core s k (t ++ []) core1 s1) (no-more n) (subst (λ (l : List ℕ). Leads core s n l core1 s1) (sym (append-nil t)) a)
join core s n t core1 s1 (suc m) u core2 s2 a (goes {text = text} piece {core1 = core3} {s1 = s3} e before step on) =
    subst (λ (k : ℕ). Leads core s k (t ++ (text ++ piece)) core2 s2) (one-up n m)
    (subst (λ (l : List ℕ). Leads core s (suc (n + m)) l core2 s2) (append_assoc t text piece) (goes piece e (join core s n t core1 s1 m text core3 s3 a before) step on))

passed-leads : (points : List ℕ) (watch : Option Range32) (core : ArmState) (s : State) (n : ℕ) (text : List ℕ) (core' : ArmState) (s' : State)
    → Passes points watch core s n text core' s' → Leads core s n text core' s'
passed-leads points watch core s zero text core' s' begins = stays
passed-leads points watch core s (suc n) whole core' s' (passes {text = text} piece {core1 = core1} {s1 = s1} before one pause) =
    subst (λ (k : ℕ). Leads core s k (text ++ piece) core' s') (one-behind n) (join core s n text core1 s1 1 piece core' s' (passed-leads points watch core s n text core1 s1 before) one)

-- a stop for good, of a run that may be shorter or longer
ends-within : (most most' n : ℕ) (w : Stop) (told : Reason) (core : ArmState) (s : State) (made : ℕ) (core' : ArmState) (s' : State)
    → reason_of w ≡ Some told → lasting told ≡ Some told → made < most' → EndsWith most n w core s made core' s' → EndsWith most' n w core s made core' s'
ends-within most most' n stop.Budget told core s made core' s' e last few h =
    absurd (let same : reason.Count ≡ told = cc in let bad : lasting reason.Count ≡ Some told = subst (λ (x : Reason). lasting x ≡ Some told) (sym same) last in cc)
ends-within most most' n stop.Exit told core s made core' s' e last few (lt, is, step) = (omega arith, is, step)
ends-within most most' n (stop.Unpredictable a x) told core s made core' s' e last few (lt, is, at, step) = (omega arith, is, at, step)
ends-within most most' n (stop.BadString a) told core s made core' s' e last few (lt, is, step, broken) = (omega arith, is, step, broken)
ends-within most most' n (stop.NoFrame a) told core s made core' s' e last few (lt, is, step) = (omega arith, is, step)
ends-within most most' n stop.Sink told core s made core' s' e last few h = absurd h

less-one : (n : ℕ) → n < n + 1
less-one n = omega arith

within : (core : ArmState) (s : State) (n : ℕ) (why : Reason) (made : ℕ) (text : List ℕ) (core' : ArmState) (s' : State)
    → lasting why ≡ Some why → Steps core s n why made text core' s' → Steps core s (made + 1) why made text core' s'
within core s n why made text core' s' last (w, e, r) =
    (w, e, record { count = r.count; core1 = r.core1; s1 = r.s1; leads = r.leads; ends = ends-within n (made + 1) r.count w why r.core1 r.s1 made core' s' e last (less-one made) r.ends })

-- it comes later where more steps go before
ends-later : (k most n : ℕ) (w : Stop) (core : ArmState) (s : State) (made : ℕ) (core' : ArmState) (s' : State)
    → EndsWith most n w core s made core' s' → EndsWith (k + most) (k + n) w core s (k + made) core' s'
ends-later k most n stop.Budget core s made core' s' (all, is, c, b) = (omega arith, omega arith, c, b)
ends-later k most n stop.Exit core s made core' s' (lt, is, step) = (omega arith, omega arith, step)
ends-later k most n (stop.Unpredictable a x) core s made core' s' (lt, is, at, step) = (omega arith, omega arith, at, step)
ends-later k most n (stop.BadString a) core s made core' s' (lt, is, step, broken) = (omega arith, omega arith, step, broken)
ends-later k most n (stop.NoFrame a) core s made core' s' (lt, is, step) = (omega arith, omega arith, step)
ends-later k most n stop.Sink core s made core' s' h = absurd h

later : (core : ArmState) (s : State) (k : ℕ) (t : List ℕ) (core1 : ArmState) (s1 : State) (most : ℕ) (why : Reason) (made : ℕ) (u : List ℕ) (core2 : ArmState) (s2 : State)
    → Leads core s k t core1 s1 → Steps core1 s1 most why made u core2 s2 → Steps core s (k + most) why (k + made) (t ++ u) core2 s2
later core s k t core1 s1 most why made u core2 s2 a (w, e, r) = (
  w,
  e,
  record {
    count = k + r.count;
    core1 = r.core1;
    s1 = r.s1;
    leads = join core s k t core1 s1 r.count u r.core1 r.s1 a r.leads;
    ends = ends-later k most r.count w r.core1 r.s1 made core2 s2 r.ends;
  },
)

behind-one : (n m : ℕ) → n + (m + 1) ≡ n + m + 1
behind-one n m = omega arith

joined : (core : ArmState) (s : State) (n : ℕ) (t : List ℕ) (core1 : ArmState) (s1 : State) (m : ℕ) (o : Option Reason) (u : List ℕ) (core2 : ArmState) (s2 : State)
    → Leads core s n t core1 s1 → IsOneRun core1 s1 m o u core2 s2 → IsOneRun core s (n + m) o (t ++ u) core2 s2
joined core s n t core1 s1 m None u core2 s2 a r = join core s n t core1 s1 m u core2 s2 a r
joined core s n t core1 s1 m (Some why) u core2 s2 a r =
    subst (λ (k : ℕ). Steps core s k why (n + m) (t ++ u) core2 s2) (behind-one n m) (later core s n t core1 s1 (m + 1) why m u core2 s2 a r)

-- ---- Step and Go

step-run : (core : ArmState) (s : State) (most : ℕ) (why : Reason) (made : ℕ) (text : List ℕ) (core' : ArmState) (s' : State)
    → Steps core s most why made text core' s' → IsOneRun core s made (lasting why) text core' s'
step-run core s most reason.Count made text core' s' h =
    let c = counts most made core s text core' s' h in subst (λ (k : ℕ). Leads core s k text core' s') (sym c.0) c.1
step-run core s most reason.Break made text core' s' (w, e, r) = absurd (no_break w e)
step-run core s most (reason.Watch a) made text core' s' (w, e, r) = absurd (no_watch w a e)
step-run core s most reason.Exit made text core' s' h = within core s most reason.Exit made text core' s' refl h
step-run core s most (reason.Unpredictable x) made text core' s' h = within core s most (reason.Unpredictable x) made text core' s' refl h
step-run core s most (reason.BadString a) made text core' s' h = within core s most (reason.BadString a) made text core' s' refl h
step-run core s most (reason.NoFrame a) made text core' s' h = within core s most (reason.NoFrame a) made text core' s' refl h

paused : (points : List ℕ) (watch : Option Range32) (pc : ℕ) (stores : List (ℕ × ℕ)) (why : Reason) → IsPause points watch pc stores (Some why) → lasting why ≡ None
paused points watch pc stores reason.Count h = absurd h
paused points watch pc stores reason.Break h = refl
paused points watch pc stores (reason.Watch a) h = refl
paused points watch pc stores reason.Exit h = absurd h
paused points watch pc stores (reason.Unpredictable x) h = absurd h
paused points watch pc stores (reason.BadString a) h = absurd h
paused points watch pc stores (reason.NoFrame a) h = absurd h

go-run : (points : List ℕ) (watch : Option Range32) (core : ArmState) (s : State) (most : ℕ) (why : Reason) (made : ℕ) (text : List ℕ) (core' : ArmState) (s' : State)
    → Goes points watch core s most why made text core' s' → IsOneRun core s made (lasting why) text core' s'
go-run points watch core s most why made text core' s' (counted passed) = passed-leads points watch core s made text core' s' passed
go-run points watch core s most why made whole core' s' (pauses {n = n} {text = text} piece {core1 = core1} {s1 = s1} told few passed one pause) =
    subst (λ (o : Option Reason). IsOneRun core s (suc n) o (text ++ piece) core' s') (sym (paused points watch (register core' 15) s'.contents.stores told pause))
    (subst (λ (k : ℕ). Leads core s k (text ++ piece) core' s') (one-behind n) (join core s n text core1 s1 1 piece core' s' (passed-leads points watch core s n text core1 s1 passed) one))
go-run points watch core s most why made whole core' s' (halts {n = n} {text = text} piece {core1 = core1} {s1 = s1} told last few passed lasts steps) =
    subst (λ (o : Option Reason). IsOneRun core s (n + last) o (text ++ piece) core' s') (sym lasts)
    (joined core s n text core1 s1 last (Some told) piece core' s' (passed-leads points watch core s n text core1 s1 passed) (within core1 s1 1 told last piece core' s' lasts steps))

-- ---- commands

-- the machine of a desk, and the steps so far
pub record IsLeft (d d' : Desk) : Type 0 where
  pub core : d'.core ≡ d.core
  pub bus : d'.bus ≡ d.bus
  pub steps : d'.steps ≡ d.steps
  pub ended : d'.ended ≡ d.ended

left-as : (d m d' : Desk) → d' ≡ m → m.core ≡ d.core → m.bus ≡ d.bus → m.steps ≡ d.steps → m.ended ≡ d.ended → IsLeft d d'
left-as d m d' e c b n o = subst (λ (x : Desk). IsLeft d x) (sym e) (record { core = c; bus = b; steps = n; ended = o })

others-leave : (c : Command) (d : Desk) (said : List ℕ) (d' : Desk) → is_move c ≡ false → is_detach c ≡ false → Does c d said d' → IsLeft d d'
others-leave (Break a) d said d' f g h = left-as d (record d { points = d.points ++ a ∷ [] }) d' h.1 refl refl refl refl
others-leave (Unbreak a) d said d' f g h = left-as d _ d' h.1 refl refl refl refl
others-leave (Watch r) d said d' f g h = left-as d (record d { watch = Some r }) d' h.1 refl refl refl refl
others-leave Unwatch d said d' f g h = left-as d (record d { watch = None }) d' h.1 refl refl refl refl
others-leave (Step n) d said d' f g h = absurd (cc)
others-leave (Go n) d said d' f g h = absurd (cc)
others-leave Regs d said d' f g h = left-as d d d' h.1 refl refl refl refl
others-leave (Mem a n) d said d' f g h = left-as d d d' h.1 refl refl refl refl
others-leave (Detach i) d said d' f g h = absurd (cc)
others-leave Quit d said d' f g h = left-as d d d' h.1 refl refl refl refl

-- so many steps of one run lead from a desk to another
pub record Ran (d d' : Desk) : Type 0 where
  pub count : ℕ
  pub printed : List ℕ
  pub steps : d'.steps ≡ d.steps + count
  pub run : IsOneRun d.core d.bus count d'.ended printed d'.core d'.bus

no-step : (core : ArmState) (s : State) (o : Option Reason) (core' : ArmState) (s' : State) → o ≡ None → core' ≡ core → s' ≡ s → IsOneRun core s 0 o [] core' s'
no-step core s o core' s' e c b =
    subst (λ (x : Option Reason). IsOneRun core s 0 x [] core' s') (sym e)
    (subst (λ (x : ArmState). Leads core s 0 [] x s') (sym c) (subst (λ (x : State). Leads core s 0 [] core x) (sym b) stays))

ran-none : (d d' : Desk) → d.ended ≡ None → IsLeft d d' → Ran d d'
ran-none d d' e l = record {
  count = 0;
  printed = [];
  steps = l.steps ∙ no-more d.steps;
  run = no-step d.core d.bus d'.ended d'.core d'.bus (l.ended ∙ e) l.core l.bus;
}

moves-ran : (lead : Lead) (most : ℕ) (d : Desk) (o : Option Reason) (said : List ℕ) (d' : Desk)
    → ((why : Reason) (made : ℕ) (text : List ℕ) (core' : ArmState) (s' : State) → lead most why made text core' s' → IsOneRun d.core d.bus made (lasting why) text core' s')
    → o ≡ None → MovesOn lead most o d said d' → Ran d d'
moves-ran lead most d (Some why) said d' law e h = absurd (cc)
moves-ran lead most d None said d' law e h =
    subst (λ (x : Desk). Ran d x) (sym h.behind) (record { count = h.made; printed = h.text; steps = refl; run = law h.why h.made h.text h.core h.bus h.leads })

ran : (c : Command) (d : Desk) (said : List ℕ) (d' : Desk) → d.ended ≡ None → is_detach c ≡ false → Does c d said d' → Ran d d'
ran (Break a) d said d' e f h = ran-none d d' e (others-leave (Break a) d said d' refl refl h)
ran (Unbreak a) d said d' e f h = ran-none d d' e (others-leave (Unbreak a) d said d' refl refl h)
ran (Watch r) d said d' e f h = ran-none d d' e (others-leave (Watch r) d said d' refl refl h)
ran Unwatch d said d' e f h = ran-none d d' e (others-leave Unwatch d said d' refl refl h)
ran (Step n) d said d' e f h = moves-ran (Steps d.core d.bus) n d d.ended said d' (λ w m t c s. step-run d.core d.bus n w m t c s) e h
ran (Go n) d said d' e f h =
    moves-ran (Goes d.points d.watch d.core d.bus) n d d.ended said d' (λ w m t c s. go-run d.points d.watch d.core d.bus n w m t c s) e h
ran Regs d said d' e f h = ran-none d d' e (others-leave Regs d said d' refl refl h)
ran (Mem a n) d said d' e f h = ran-none d d' e (others-leave (Mem a n) d said d' refl refl h)
ran (Detach i) d said d' e f h = absurd (cc)
ran Quit d said d' e f h = ran-none d d' e (others-leave Quit d said d' refl refl h)

moves-again : (lead : Lead) (most : ℕ) (d : Desk) (o : Option Reason) (why : Reason) (said : List ℕ) (d' : Desk) → o ≡ Some why → MovesOn lead most o d said d' → IsLeft d d'
moves-again lead most d None why said d' e h = absurd (cc)
moves-again lead most d (Some x) why said d' e h = left-as d d d' h.1 refl refl refl refl

-- where the machine has stopped for good, no command but Detach changes it
still : (c : Command) (d : Desk) (why : Reason) (said : List ℕ) (d' : Desk) → d.ended ≡ Some why → is_detach c ≡ false → Does c d said d' → IsLeft d d'
still (Break a) d why said d' e f h = others-leave (Break a) d said d' refl refl h
still (Unbreak a) d why said d' e f h = others-leave (Unbreak a) d said d' refl refl h
still (Watch r) d why said d' e f h = others-leave (Watch r) d said d' refl refl h
still Unwatch d why said d' e f h = others-leave Unwatch d said d' refl refl h
still (Step n) d why said d' e f h = moves-again (Steps d.core d.bus) n d d.ended why said d' e h
still (Go n) d why said d' e f h = moves-again (Goes d.points d.watch d.core d.bus) n d d.ended why said d' e h
still Regs d why said d' e f h = others-leave Regs d said d' refl refl h
still (Mem a n) d why said d' e f h = others-leave (Mem a n) d said d' refl refl h
still (Detach i) d why said d' e f h = absurd (cc)
still Quit d why said d' e f h = others-leave Quit d said d' refl refl h

-- ---- sessions

either-false : (a b : Bool) → (a || b) ≡ false → (a ≡ false) × (b ≡ false)
either-false true b e = absurd (cc)
either-false false b e = (refl, e)

left-on : (d m d' : Desk) → IsLeft d m → IsLeft m d' → IsLeft d d'
left-on d m d' a b = record { core = b.core ∙ a.core; bus = b.bus ∙ a.bus; steps = b.steps ∙ a.steps; ended = b.ended ∙ a.ended }

all-still : (cs : List Command) (d : Desk) (why : Reason) (text : List ℕ) (d' : Desk) → d.ended ≡ Some why → list_any is_detach cs ≡ false → CarriesOut cs d text d' → IsLeft d d'
all-still [] d why text d' e f h = left-as d d d' h.1 refl refl refl refl
all-still (c ∷ cs) d why text d' e f (m, said, rest, does, more, t) =
    let both = either-false (is_detach c) (list_any is_detach cs) f in
    let first = still c d why said m e both.0 does in
    left-on d m d' first (all-still cs m why rest d' (first.ended ∙ e) both.1 more)

step-sum : (a b c n m : ℕ) → b ≡ a + n → c ≡ b + m → c ≡ a + (n + m)
step-sum a b c n m e f = omega arith

ran-on : (d m d' : Desk) → m.ended ≡ None → Ran d m → Ran m d' → Ran d d'
ran-on d m d' e a b = record {
  count = a.count + b.count;
  printed = a.printed ++ b.printed;
  steps = step-sum d.steps m.steps d'.steps a.count b.count a.steps b.steps;
  run = joined d.core d.bus a.count a.printed m.core m.bus b.count d'.ended b.printed d'.core d'.bus
      (subst (λ (o : Option Reason). IsOneRun d.core d.bus a.count o a.printed m.core m.bus) e a.run) b.run;
}

ran-still : (d m d' : Desk) → Ran d m → IsLeft m d' → Ran d d'
ran-still d m d' a l = record {
  count = a.count;
  printed = a.printed;
  steps = l.steps ∙ a.steps;
  run = subst (λ (o : Option Reason). IsOneRun d.core d.bus a.count o a.printed d'.core d'.bus) (sym l.ended)
      (subst (λ (x : ArmState). IsOneRun d.core d.bus a.count m.ended a.printed x d'.bus) (sym l.core)
      (subst (λ (x : State). IsOneRun d.core d.bus a.count m.ended a.printed m.core x) (sym l.bus) a.run));
}

ran-by : (d m d' : Desk) (o : Option Reason) → m.ended ≡ o → Ran d m → (m.ended ≡ None → Ran m d') → ((why : Reason) → m.ended ≡ Some why → IsLeft m d') → Ran d d'
ran-by d m d' None on a f h = ran-on d m d' on a (f on)
ran-by d m d' (Some why) on a f h = ran-still d m d' a (h why on)

session-ran : (cs : List Command) (d : Desk) (text : List ℕ) (d' : Desk) → d.ended ≡ None → list_any is_detach cs ≡ false → CarriesOut cs d text d' → Ran d d'
session-ran [] d text d' e f h = ran-none d d' e (left-as d d d' h.1 refl refl refl refl)
session-ran (c ∷ cs) d text d' e f (m, said, rest, does, more, t) =
    let both = either-false (is_detach c) (list_any is_detach cs) f in
    ran-by d m d' m.ended refl (ran c d said m e both.0 does) (λ on. session-ran cs m rest d' on both.1 more) (λ why on. all-still cs m why rest d' on both.1 more)

pub session_is_one_run : SessionIsOneRun
session_is_one_run cs d text d' e f h = let r = session-ran cs d text d' e f h in (r.count, r.printed, r.steps, r.run)

pub others_leave : OthersLeaveTheMachine
others_leave c d said d' f g h = let l = others-leave c d said d' f g h in (l.core, l.bus, l.steps, l.ended)

split : (front : List Command) (i : ℕ) (rest : List Command) (d : Desk) (text : List ℕ) (d' : Desk) → CarriesOut (front ++ Detach i ∷ rest) d text d'
    → (m : Desk) × (first : List ℕ) × (last : List ℕ) × CarriesOut front d first m × CarriesOut rest (record m { bus = after_detach m.bus i }) last d' × (text ≡ first ++ last)
split [] i rest d text d' (m, said, last, (silent, is), more, t) =
    (d, [], last, (refl, refl), subst (λ (x : Desk). CarriesOut rest x last d') is more, t ∙ ap (λ (l : List ℕ). l ++ last) silent)
split (c ∷ front) i rest d text d' (k, said, more, does, others, t) =
    let (m, first, last, before, behind, e) = split front i rest k more d' others in (
      m,
      said ++ first,
      last,
      (k, said, first, does, before, refl),
      behind,
      t ∙ ap (λ (l : List ℕ). said ++ l) e ∙ sym (append_assoc said first last),
    )

pub detach_ends_a_run : DetachEndsARun
detach_ends_a_run front i rest d text d' h = split front i rest d text d' h
