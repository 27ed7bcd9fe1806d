-- A session that the sink cut off is one of a beginning of its commands.
use Rattle.std.proofs.Common.{◌≡◌, ◌∙◌, ℕ, zero, suc, ◌+◌, ◌<◌, ◌≤◌, Bool, true, false, List, [], ◌∷◌, ◌++◌, Option, Some, None, ◌⊎◌, inl, inr, refl, sym, ap, subst, append_assoc, arith, nat_le, ◌&&◌, leb-true, leb-false}
use Rattle.std.specs.List.{list_any}
use Rattle.std.proofs.lemmas.Bool.{and_parts}
use Rattle.std.proofs.lemmas.List.{append-nil}
use Rattle.sdt_fault.specs.declared.answer.Stop.TheVariants as stop
use Rattle.sdt_outside.specs.Counts.{Rose}
use Rattle.sdt_outside.specs.Sinks.{Got, GotPart}
use Rattle.sdt_word.specs.declared.ranges.Range32.{Range32}
use Rattle.arm7_model.specs.declared.state.ArmState.{ArmState}
use Rattle.arm7_model.specs.Registers.{register}
use Rattle.arm7_bus.specs.Meets.{IsFound, IsLeast, IsNowhere}
use Rattle.arm7_bus.specs.Seats.{has_access}
use Rattle.arm7_bus.specs.States.{State}
use Rattle.arm7_run.specs.Runs.{Chokes, Leads, goes, stays}
use Rattle.arm7_run.proofs.StringLemmas.{part_more}
use Rattle.armsd_core.specs.declared.command.Command.{Command}
use Rattle.armsd_core.specs.declared.command.Command.TheVariants.{Break, Unbreak, Watch, Unwatch, Step, Go, Regs, Mem, Detach, Quit}
use Rattle.armsd_core.specs.declared.reason.Reason.{Reason}
use Rattle.armsd_core.specs.declared.reason.Reason.TheVariants as reason
use Rattle.armsd_core.specs.Carried.{AreChoked, Lead}
use Rattle.armsd_core.specs.Goes.{Goes, IsPause, Passes, Steps, begins, counted, halts, is_hit, passes, pauses}
use Rattle.armsd_core.specs.Points.{is_point}
use Rattle.armsd_core.specs.Reasons.{lasting, reason_of}
use Rattle.armsd_core.specs.SessionLaws.{CutOffIsABeginning, IsBeginning, IsShortened}
use Rattle.armsd_core.specs.Sessions.{CarriesOut, Desk, Does, Fails, FailsIn, FailsOn, IsCutOff, IsUnsaid, MovesOn, chokes, line_at, moved, untold}
use Rattle.armsd_core.proofs.GoLemmas.{counts}
use Rattle.armsd_core.proofs.SessionLemmas.{one_more}

-- ---- behind each step a Go pauses or doesn't

-- no number below n passes the test
record NoneBelow (test : ℕ → Bool) (n : ℕ) : Type 0 where
  none : (a : ℕ) → a < n → test a ≡ false

some-true : (b : Bool) → b ≡ false → b ≡ true → ⊥
some-true b e f = let bad : true ≡ false = sym f ∙ e in cc

below : (test : ℕ → Bool) (n : ℕ) → NoneBelow test n ⊎ ((a : ℕ) × IsLeast test a)
below test zero = inl (record { none = λ a lt. absurd (omega arith) })
below test (suc n) = go (below test n)
  where
    at : NoneBelow test n → (b : Bool) → test n ≡ b → NoneBelow test (suc n) ⊎ ((a : ℕ) × IsLeast test a)
    at h true e = inr (n, record { passes = e; least = λ b p. least b p (nat_le n b) refl })
      where
        least : (b : ℕ) → test b ≡ true → (x : Bool) → nat_le n b ≡ x → n ≤ b
        least b p true f = leb-true n b f
        least b p false f = absurd (some-true (test b) (h.none b (leb-false n b f)) p)
    at h false e = inl (record { none = λ a lt. each a lt (nat_le n a) refl })
      where
        each : (a : ℕ) → a < suc n → (x : Bool) → nat_le n a ≡ x → test a ≡ false
        each a lt true f = let le = leb-true n a f in let same : a ≡ n = omega arith in ap test same ∙ e
        each a lt false f = h.none a (leb-false n a f)

    go : NoneBelow test n ⊎ ((a : ℕ) × IsLeast test a) → NoneBelow test (suc n) ⊎ ((a : ℕ) × IsLeast test a)
    go (inl h) = at h (test n) refl
    go (inr least) = inr least

found : (test : ℕ → Bool) (n : ℕ) → ((a : ℕ) → test a ≡ true → a < n) → (o : Option ℕ) × IsFound test o
found test n bound = go (below test n)
  where
    go : NoneBelow test n ⊎ ((a : ℕ) × IsLeast test a) → (o : Option ℕ) × IsFound test o
    go (inr (a, least)) = (Some a, least)
    go (inl h) = (None, record { none = λ a. by a (test a) refl })
      where
        by : (a : ℕ) (b : Bool) → test a ≡ b → test a ≡ false
        by a false e = e
        by a true e = h.none a (bound a e)

hit : (watch : Option Range32) (stores : List (ℕ × ℕ)) → (o : Option ℕ) × IsFound (is_hit watch stores) o
hit None stores = (None, record { none = λ a. refl })
hit (Some r) stores = found (is_hit (Some r) stores) (r.base + r.size) bound
  where
    bound : (a : ℕ) → is_hit (Some r) stores a ≡ true → a < r.base + r.size
    bound a e =
        let p = and_parts (has_access r.base r.size a 1) (list_any (λ s. has_access s.0 s.1 a 1) stores) e in
        let q = and_parts (nat_le r.base a) (nat_le (a + 1) (r.base + r.size)) p.0 in
        let le = leb-true (a + 1) (r.base + r.size) q.1 in
        omega arith

decided : (points : List ℕ) (watch : Option Range32) (pc : ℕ) (stores : List (ℕ × ℕ)) → (o : Option Reason) × IsPause points watch pc stores o
decided points watch pc stores = go (hit watch stores)
  where
    go : (o : Option ℕ) × IsFound (is_hit watch stores) o → (o : Option Reason) × IsPause points watch pc stores o
    go (Some a, least) = (Some (reason.Watch a), least)
    go (None, nowhere) = at (is_point points pc) refl
      where
        at : (b : Bool) → is_point points pc ≡ b → (o : Option Reason) × IsPause points watch pc stores o
        at true e = (Some reason.Break, (nowhere, e))
        at false e = (None, (nowhere, e))

-- ---- steps up to one that choked

-- what a command that makes steps did when the sink failed at the text of its last
pub record IsStopped (lead : Lead) (made : ℕ) (core : ArmState) (s : State) (before after : Option (List ℕ)) : Type 0 where
  pub why : Reason
  pub text : List ℕ
  pub leads : lead made why made text core s
  pub part : GotPart before after text

one-behind : (n : ℕ) → suc n ≡ n + 1
one-behind n = omega arith

choke-leads : (core : ArmState) (s : State) (core' : ArmState) (s' : State) (before after : Option (List ℕ)) (rose : Type 0) (c : Chokes core s core' s' before after rose)
    → Leads core s 1 c.piece core' s'
choke-leads core s core' s' before after rose c = goes c.piece c.event stays c.step c.goes_on

all-of : (before middle after : Option (List ℕ)) (text piece : List ℕ) → Got before middle text → GotPart middle after piece → GotPart before after (text ++ piece)
all-of before middle after text piece got part = part_more before middle after text piece (text ++ piece) [] got part (sym (append-nil (text ++ piece)))

step-stopped : (core0 : ArmState) (s0 : State) (most made : ℕ) (core : ArmState) (s : State) (before after : Option (List ℕ)) (rose : Type 0)
    → AreChoked (Steps core0 s0) most made core s before after rose → IsStopped (Steps core0 s0) made core s before after
step-stopped core0 s0 most made core s before after rose c =
    let x = c.chokes in
    let leads = counts c.count c.count core0 s0 c.text c.core1 c.s1 c.leads in
    let all = goes x.piece x.event leads.1 x.step x.goes_on in
    let same : made ≡ suc c.count = c.made_is ∙ sym (one-behind c.count) in
    record {
      why = reason.Count;
      text = c.text ++ x.piece;
      leads = (stop.Budget, refl, record { count = suc c.count; core1 = core; s1 = s; leads = all; ends = (sym same, same, refl, refl) });
      part = all-of before c.middle after c.text x.piece c.got x.part;
    }

passed-all : (points : List ℕ) (watch : Option Range32) (core0 : ArmState) (s0 : State) (n made : ℕ) (why : Reason) (text : List ℕ) (core : ArmState) (s : State)
    → lasting why ≡ None → n ≡ made → Goes points watch core0 s0 n why made text core s → why ≡ reason.Count → Passes points watch core0 s0 n text core s
passed-all points watch core0 s0 n made why text core s free all (counted passed) is = passed
passed-all points watch core0 s0 n made why text core s free all (pauses piece told few passed one pause) is = absurd (subst (λ (x : Reason). IsPause points watch (register core 15) s.contents.stores (Some x)) is pause)
passed-all points watch core0 s0 n made why text core s free all (halts piece told last few passed lasts steps) is = absurd (let bad : None ≡ Some told = sym free ∙ lasts in cc)

go-stopped : (points : List ℕ) (watch : Option Range32) (core0 : ArmState) (s0 : State) (most made : ℕ) (core : ArmState) (s : State) (before after : Option (List ℕ)) (rose : Type 0)
    → AreChoked (Goes points watch core0 s0) most made core s before after rose → IsStopped (Goes points watch core0 s0) made core s before after
go-stopped points watch core0 s0 most made core s before after rose c = go (decided points watch (register core 15) s.contents.stores)
  where
    passed : Passes points watch core0 s0 c.count c.text c.core1 c.s1
    passed = passed-all points watch core0 s0 c.count c.count reason.Count c.text c.core1 c.s1 refl refl c.leads refl

    one : Leads c.core1 c.s1 1 c.chokes.piece core s
    one = choke-leads c.core1 c.s1 core s c.middle after rose c.chokes

    same : suc c.count ≡ made
    same = one-behind c.count ∙ sym c.made_is

    stopped-as : (why : Reason) → Goes points watch core0 s0 made why made (c.text ++ c.chokes.piece) core s → IsStopped (Goes points watch core0 s0) made core s before after
    stopped-as why leads = record { why = why; text = c.text ++ c.chokes.piece; leads = leads; part = all-of before c.middle after c.text c.chokes.piece c.got c.chokes.part }

    go : (o : Option Reason) × IsPause points watch (register core 15) s.contents.stores o → IsStopped (Goes points watch core0 s0) made core s before after
    go (None, pause) = stopped-as reason.Count (counted (subst (λ (k : ℕ). Passes points watch core0 s0 k (c.text ++ c.chokes.piece) core s) same (passes c.chokes.piece passed one pause)))
    go (Some why, pause) =
        stopped-as why (subst (λ (k : ℕ). Goes points watch core0 s0 made why k (c.text ++ c.chokes.piece) core s) same
        (pauses c.chokes.piece why (less c.count made same) passed one pause))
      where
        less : (n m : ℕ) → suc n ≡ m → n < m
        less n m e = omega arith

-- ---- commands

-- a command, perhaps shortened, was carried out, and the sink has a beginning of its text
pub record IsPartly (c : Command) (d : Desk) (core : ArmState) (s : State) (before after : Option (List ℕ)) (rose : Type 0) : Type 0 where
  pub short : Command
  pub less : IsShortened short c
  pub said : List ℕ
  pub desk : Desk
  pub does : Does short d said desk
  pub same_core : core ≡ desk.core
  pub same_bus : s ≡ desk.bus
  pub part : GotPart before after said
  pub counted : rose

part-on : (before after : Option (List ℕ)) (text more : List ℕ) → GotPart before after text → GotPart before after (text ++ more)
part-on before after text more (part, rest, e, got) = (part, rest ++ more, ap (λ (l : List ℕ). l ++ more) e ∙ append_assoc part rest more, got)

unsaid : (c : Command) (text : List ℕ) (d : Desk) (core : ArmState) (s : State) (before after : Option (List ℕ)) (rose : Type 0)
    → IsShortened c c → Does c d text d → IsUnsaid text d core s before after rose → IsPartly c d core s before after rose
unsaid c text d core s before after rose less does h =
    record { short = c; less = less; said = text; desk = d; does = does; same_core = h.same_core; same_bus = h.same_bus; part = h.part; counted = h.counted }

-- of a command that makes steps: the command of a number, the steps of a number, and steps that were stopped
record IsMover (make : ℕ → Command) (lead : Lead) (d : Desk) (rose : Type 0) : Type 0 where
  shorter : (m n : ℕ) → m ≤ n → IsShortened (make m) (make n)
  does : (n : ℕ) (said : List ℕ) (d' : Desk) → MovesOn lead n d.ended d said d' → Does (make n) d said d'
  stopped : (most made : ℕ) (core : ArmState) (s : State) (before after : Option (List ℕ))
      → AreChoked lead most made core s before after rose → IsStopped lead made core s before after

on-moves : (lead : Lead) (most : ℕ) (d : Desk) (o : Option Reason) (why : Reason) (made : ℕ) (text : List ℕ) (core : ArmState) (s : State)
    → o ≡ None → lead most why made text core s → MovesOn lead most o d (text ++ line_at (moved d why made core s) why) (moved d why made core s)
on-moves lead most d (Some x) why made text core s e h = absurd (cc)
on-moves lead most d None why made text core s e h = record { why = why; made = made; text = text; core = core; bus = s; leads = h; behind = refl; says = refl }

same-number : (n : ℕ) → n ≤ n
same-number n = omega arith

made-few : (count made n : ℕ) → count < n → made ≡ count + 1 → made ≤ n
made-few count made n few is = omega arith

partly-in : (make : ℕ → Command) (lead : Lead) (n : ℕ) (d : Desk) (core : ArmState) (s : State) (before after : Option (List ℕ)) (rose : Type 0)
    → IsMover make lead d rose → d.ended ≡ None → FailsIn lead n d core s before after rose → IsPartly (make n) d core s before after rose
partly-in make lead n d core s before after rose m on (chokes made c) =
    let x = m.stopped n made core s before after c in
    record {
      short = make made;
      less = m.shorter made n (made-few c.count made n c.few c.made_is);
      said = x.text ++ line_at (moved d x.why made core s) x.why;
      desk = moved d x.why made core s;
      does = m.does made (x.text ++ line_at (moved d x.why made core s) x.why) (moved d x.why made core s) (on-moves lead made d d.ended x.why made x.text core s on x.leads);
      same_core = refl;
      same_bus = refl;
      part = part-on before after x.text (line_at (moved d x.why made core s) x.why) x.part;
      counted = c.chokes.counted;
    }
partly-in make lead n d core s before after rose m on (untold h) = record {
  short = make n;
  less = m.shorter n n (same-number n);
  said = h.text ++ line_at (moved d h.why h.made core s) h.why;
  desk = moved d h.why h.made core s;
  does = m.does n (h.text ++ line_at (moved d h.why h.made core s) h.why) (moved d h.why h.made core s) (on-moves lead n d d.ended h.why h.made h.text core s on h.leads);
  same_core = refl;
  same_bus = refl;
  part = all-of before h.middle after h.text (line_at (moved d h.why h.made core s) h.why) h.got h.line.part;
  counted = h.line.counted;
}

on-again : (lead : Lead) (n : ℕ) (d : Desk) (o : Option Reason) (why : Reason) → o ≡ Some why → MovesOn lead n o d (line_at d why) d
on-again lead n d None why e = absurd (cc)
on-again lead n d (Some x) why e = let same : why ≡ x = cc in (ap (line_at d) same, refl)

partly-on : (make : ℕ → Command) (lead : Lead) (n : ℕ) (d : Desk) (o : Option Reason) (core : ArmState) (s : State) (before after : Option (List ℕ)) (rose : Type 0)
    → IsMover make lead d rose → d.ended ≡ o → FailsOn lead n o d core s before after rose → IsPartly (make n) d core s before after rose
partly-on make lead n d None core s before after rose m e h = partly-in make lead n d core s before after rose m e h
partly-on make lead n d (Some why) core s before after rose m e h =
    unsaid (make n) (line_at d why) d core s before after rose (m.shorter n n (same-number n)) (m.does n (line_at d why) d (on-again lead n d d.ended why e)) h

partly : (c : Command) (d : Desk) (core : ArmState) (s : State) (before after : Option (List ℕ)) (rose : Type 0) → Fails c d core s before after rose → IsPartly c d core s before after rose
partly (Break a) d core s before after rose h = absurd h
partly (Unbreak a) d core s before after rose h = absurd h
partly (Watch r) d core s before after rose h = absurd h
partly Unwatch d core s before after rose h = absurd h
partly (Step n) d core s before after rose h =
    partly-on (λ k. Step k) (Steps d.core d.bus) n d d.ended core s before after rose
    (record { shorter = λ m k le. le; does = λ k said d' x. x; stopped = λ most made c s b a x. step-stopped d.core d.bus most made c s b a rose x }) refl h
partly (Go n) d core s before after rose h =
    partly-on (λ k. Go k) (Goes d.points d.watch d.core d.bus) n d d.ended core s before after rose
    (record { shorter = λ m k le. le; does = λ k said d' x. x; stopped = λ most made c s b a x. go-stopped d.points d.watch d.core d.bus most made c s b a rose x }) refl h
partly Regs d core s before after rose h = unsaid Regs _ d core s before after rose refl (refl, refl) h
partly (Mem a n) d core s before after rose h = unsaid (Mem a n) _ d core s before after rose refl (refl, refl) h
partly (Detach i) d core s before after rose h = absurd h
partly Quit d core s before after rose h = absurd h

-- ---- the session

pub cut_off_is_a_beginning : CutOffIsABeginning
cut_off_is_a_beginning commands d core s before after was now h =
    let x = partly h.last h.desk core s h.middle after (Rose was now) h.fails in (
      h.front ++ x.short ∷ [],
      record { front = h.front; last = h.last; shortened = x.short; rest = h.rest; whole = h.split; is = refl; less = x.less },
      x.counted,
      (
        h.text ++ x.said,
        x.desk,
        one_more h.front d h.text h.desk x.short x.said x.desk h.carried x.does,
        x.same_core,
        x.same_bus,
        all-of before h.middle after h.text x.said h.got x.part,
      ),
    )
