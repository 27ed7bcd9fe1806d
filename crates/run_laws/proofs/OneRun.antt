-- Registers and a bus have at most one run of so many steps.
use Rattle.std.proofs.Common.{◌≡◌, ◌≢◌, ℕ, zero, suc, ◌+◌, ◌%◌, ◌^◌, ◌<◌, ◌≤◌, ◌==◌, Bool, true, false, List, [], ◌∷◌, ◌++◌, Option, Some, None, ◌⊎◌, inl, inr, refl, sym, ap, ◌∙◌, subst, arith, eqb-true, ltb-true, ltb-false}
use Rattle.std.specs.Prelude.{MatchBool, nat_lt}
use Rattle.std.proofs.lemmas.Bool.Decides.{eqb_tells}
use Rattle.sdt_fault.specs.declared.answer.Stop.{Stop}
use Rattle.sdt_fault.specs.declared.answer.Stop.TheVariants as stop
use Rattle.arm7_model.specs.declared.state.ArmState.{ArmState}
use Rattle.arm7_model.specs.declared.event.Event.{Event}
use Rattle.arm7_model.specs.declared.event.Event.TheVariants as event
use Rattle.arm7_model.specs.Laws.{StepIsOne, StepIsValid}
use Rattle.arm7_model.specs.Registers.{IsValidState, State as Whole, register}
use Rattle.arm7_bus.specs.Buses.{after_tick}
use Rattle.arm7_bus.specs.Seats.{lines_up}
use Rattle.arm7_bus.specs.States.{Contents, State}
use Rattle.arm7_transfers.specs.Boards.{board_of, over}
use Rattle.arm7_transfers.specs.Frames.{has_frames}
use Rattle.arm7_transfers.specs.Ready.{IsReady}
use Rattle.arm7_transfers.specs.Served.{answers_to}
use Rattle.arm7_transfers.proofs.BoardLemmas.{contents-read}
use Rattle.arm7_transfers.proofs.ReadyLemmas.{ready-read, ready-tick}
use Rattle.arm7_transfers.proofs.StepLemmas.{width_of}
use Rattle.arm7_core.specs.Machines.{Ends, IsStep, levels}
use Rattle.arm7_run.specs.Runs.{EndsWith, GoesOn, Leads, Runs, goes, stays}
use Rattle.arm7_run.specs.Strings.{IsBroken, IsString, Reaches, byte_behind, bytes_behind}
use Rattle.arm7_model.specs.Outcomes.{Stepped}
use Rattle.run_laws.specs.Steps.{AreMade}
use Rattle.run_laws.specs.Laws.{BusRunIsOne, MadeStepsAreOne}
use Rattle.run_laws.proofs.OneStep.{bus-step-is-one, ends-one, own-is-one}
use Rattle.run_laws.proofs.ServedMemory.{ready-served}

-- ---- strings

is-some : (x : ℕ) (o : Option ℕ) → o ≡ Some x → o ≡ None → ⊥
is-some x o e f = let bad : Some x ≡ None = sym e ∙ f in cc

some-same : (x y : ℕ) (o : Option ℕ) → o ≡ Some x → o ≡ Some y → x ≡ y
some-same x y o e f = let same : Some x ≡ Some y = sym e ∙ f in cc

-- a string doesn't end where it has a byte
no-end : (c : Contents) (a n m : ℕ) → Reaches c a n → Reaches c a m → n < m → ⊥
no-end c a n m r q lt =
    let most = q.most in
    let h = q.each n lt in
    h.not_zero (some-same h.byte 0 (byte_behind c a n) h.there (r.ended (omega arith)))

either : (n m : ℕ) → (n < m → ⊥) → (m < n → ⊥) → n ≡ m
either n m h k = go (nat_lt n m) refl (nat_lt m n) refl
  where
    go : (b : Bool) → nat_lt n m ≡ b → (d : Bool) → nat_lt m n ≡ d → n ≡ m
    go true e d f = absurd (h (ltb-true n m e))
    go false e true f = absurd (k (ltb-true m n f))
    go false e false f = let x : m ≤ n = ltb-false n m e in let y : n ≤ m = ltb-false m n f in omega arith

string-one : (c : Contents) (a : ℕ) (p q : List ℕ) → IsString c a p → IsString c a q → p ≡ q
string-one c a p q (n, r, e) (m, s, f) =
    e ∙ ap (bytes_behind c a) (either n m (no-end c a n m r s) (no-end c a m n s r)) ∙ sym f

-- a broken string is none
not-broken : (c : Contents) (a told : ℕ) (p : List ℕ) → IsBroken c a told → IsString c a p → ⊥
not-broken c a told p b (n, r, e) = go (nat_lt n b.count) refl
  where
    go : (x : Bool) → nat_lt n b.count ≡ x → ⊥
    go true f =
        let lt : n < b.count = ltb-true n b.count f in
        let few = b.few in
        let h = b.each n lt in
        h.not_zero (some-same h.byte 0 (byte_behind c a n) h.there (r.ended (omega arith)))
    go false f = behind (b.count == n) refl (ltb-false n b.count f)
      where
        behind : (x : Bool) → (b.count == n) ≡ x → b.count ≤ n → ⊥
        behind true g le =
            let same : b.count ≡ n = eqb-true b.count n g in
            let few = b.few in
            is-some 0 (byte_behind c a n) (r.ended (omega arith)) (ap (byte_behind c a) (sym same) ∙ b.missing)
        behind false g le =
            let lt : b.count < n = apart (eqb_tells b.count n) in
            let h = r.each b.count lt in
            is-some h.byte (byte_behind c a b.count) h.there b.missing
          where
            apart : (((b.count == n) ≡ true) × (b.count ≡ n)) ⊎ (((b.count == n) ≡ false) × (b.count ≢ n)) → b.count < n
            apart (inl (t, same)) = absurd (let bad : true ≡ false = sym t ∙ g in cc)
            apart (inr (t, other)) = omega (arith, le, other)

-- its break has one address
no-break : (c : Contents) (a t u : ℕ) (b : IsBroken c a t) (d : IsBroken c a u) → b.count < d.count → ⊥
no-break c a t u b d lt = let h = d.each b.count lt in is-some h.byte (byte_behind c a b.count) h.there b.missing

broken-one : (c : Contents) (a t u : ℕ) → IsBroken c a t → IsBroken c a u → t ≡ u
broken-one c a t u b d =
    b.is ∙ ap (λ (n : ℕ). (a + n) % 2 ^ 32) (either b.count d.count (no-break c a t u b d) (no-break c a u t d b)) ∙ sym d.is

-- ---- what a step prints

host-one : (b0 b2 b17 : Bool) (x a : ℕ) (c : Contents) (p q : List ℕ)
    → MatchBool b0 (p ≡ x ∷ []) (MatchBool b2 (IsString c a p) (MatchBool b17 ⊥ (p ≡ [])))
    → MatchBool b0 (q ≡ x ∷ []) (MatchBool b2 (IsString c a q) (MatchBool b17 ⊥ (q ≡ []))) → p ≡ q
host-one true b2 b17 x a c p q h k = h ∙ sym k
host-one false true b17 x a c p q h k = string-one c a p q h k
host-one false false true x a c p q h k = absurd h
host-one false false false x a c p q h k = h ∙ sym k

piece-one : (e : Event) (core : ArmState) (s : State) (p q : List ℕ) → GoesOn e core s p → GoesOn e core s q → p ≡ q
piece-one event.Ran core s p q h k = h ∙ sym k
piece-one (event.Took x) core s p q h k = h ∙ sym k
piece-one (event.Host n) core s p q h k = host-one (n == 0x00) (n == 0x02) (n == 0x11) (register core 0 % 256) (register core 0) s.contents p q h k
piece-one (event.Unpredictable w) core s p q h k = absurd h
piece-one (event.NoFrame a) core s p q h k = absurd h

-- ---- states in which steps are made

pub record IsFit (core : ArmState) (s : State) : Type 0 where
  pub ready : IsReady s
  pub valid : IsValidState (over core s)

step-fit : StepIsValid → (core : ArmState) (s : State) (e : Event) (core' : ArmState) (s' : State) → IsFit core s → IsStep core s e core' s' → IsFit core' s'
step-fit law core s e core' s' f m = go (has_frames (after_tick s) m.first.accesses) m.ends
  where
    t : State
    t = after_tick s

    go : (b : Bool) → Ends b core (after_tick s) m.first e core' s' → IsFit core' s'
    go true (p, q, bus) = record {
      ready = subst (λ (y : State). IsReady y) (sym bus) (ready-served (after_tick s) m.first.accesses (ready-tick s f.ready));
      valid = subst (λ (y : Whole). IsValidState y) (sym q)
          (law (board_of (after_tick s)) (over core (after_tick s)) (levels (lines_up (after_tick s).devices)) (answers_to (after_tick s) m.first.accesses) m.first
          (record { core = f.valid.core; memory = f.valid.memory }) m.step);
    }
    go false (a, p, least, c, bus) = record {
      ready = subst (λ (y : State). IsReady y) (sym bus) (ready-read (after_tick s) (register core 15) (width_of core) (ready-tick s f.ready));
      valid = subst (λ (y : ArmState). IsValidState (over y s')) (sym c) (subst (λ (y : State). IsValidState (over core y)) (sym bus)
          (subst (λ (d : Contents). IsValidState (record { core = core; memory = d.memory })) (sym (contents-read (after_tick s) (register core 15) (width_of core))) (record { core = f.valid.core; memory = f.valid.memory })));
    }

-- ---- steps that go on

lead-fit : StepIsValid → (core : ArmState) (s : State) (n : ℕ) (text : List ℕ) (core' : ArmState) (s' : State) → IsFit core s → Leads core s n text core' s' → IsFit core' s'
lead-fit law core s zero text core' s' f stays = f
lead-fit law core s (suc n) whole core' s' f (goes {text = text} piece {core1 = core1} {s1 = s1} e before step on) =
    step-fit law core1 s1 e core' s' (lead-fit law core s n text core1 s1 f before) step

-- the places where so many steps lead are one
abbrev Same : List ℕ → ArmState → State → List ℕ → ArmState → State → Type 0
Same text core s text' core' s' = (text ≡ text') × (core ≡ core') × (s ≡ s')

module _ (one : StepIsOne) (law : StepIsValid) where
  on-one : (core1 core2 core3 core4 : ArmState) (s1 s2 s3 s4 : State) (d e : Event) (p q text text' : List ℕ) → IsFit core1 s1 → Same text core1 s1 text' core2 s2
      → IsStep core1 s1 d core3 s3 → GoesOn d core3 s3 p → IsStep core2 s2 e core4 s4 → GoesOn e core4 s4 q → Same (text ++ p) core3 s3 (text' ++ q) core4 s4
  on-one core1 core2 core3 core4 s1 s2 s3 s4 d e p q text text' f (t, c, b) step on step' on' =
      let other = subst (λ (y : State). IsStep core1 y e core4 s4) (sym b) (subst (λ (y : ArmState). IsStep y s2 e core4 s4) (sym c) step') in
      let (same_event, same_core, same_bus) = bus-step-is-one one core1 s1 d e core3 core4 s3 s4 f.ready f.valid.core step other in
      let on1 = subst (λ (y : Event). GoesOn y core4 s4 q) (sym same_event) on' in
      let on2 = subst (λ (y : ArmState). GoesOn d y s4 q) (sym same_core) on1 in
      let on3 = subst (λ (y : State). GoesOn d core3 y q) (sym same_bus) on2 in
      let piece = piece-one d core3 s3 p q on on3 in
      (ap (λ (l : List ℕ). l ++ p) t ∙ ap (λ (l : List ℕ). text' ++ l) piece, same_core, same_bus)

  lead-one : (core : ArmState) (s : State) (n : ℕ) (text text' : List ℕ) (core1 core2 : ArmState) (s1 s2 : State) → IsFit core s
      → Leads core s n text core1 s1 → Leads core s n text' core2 s2 → Same text core1 s1 text' core2 s2
  lead-one core s zero text text' core1 core2 s1 s2 f stays stays = (refl, refl, refl)
  lead-one core s (suc n) whole whole' core1 core2 s1 s2 f
      (goes {text = text} p {core1 = core3} {s1 = s3} d before step on) (goes {text = text'} q {core1 = core4} {s1 = s4} e before' step' on') =
      on-one core3 core4 core1 core2 s3 s4 s1 s2 d e p q text text' (lead-fit law core s n text core3 s3 f before)
      (lead-one core s n text text' core3 core4 s3 s4 f before before') step on step' on'

-- ---- how a run ends

-- what the last step was, and how the run is told then
abbrev Tells : Event → ArmState → ArmState → State → ℕ → Stop → ℕ → Type 0
Tells e core core' s' n stop.Budget made = ⊥
Tells e core core' s' n stop.Exit made = (e ≡ event.Host 0x11) × (made ≡ n + 1)
Tells e core core' s' n (stop.BadString a) made = (e ≡ event.Host 0x02) × (made ≡ n + 1) × IsBroken s'.contents (register core' 0) a
Tells e core core' s' n (stop.Unpredictable at w) made = (e ≡ event.Unpredictable w) × (made ≡ n) × (at ≡ register core 15)
Tells e core core' s' n (stop.NoFrame a) made = (e ≡ event.NoFrame a) × (made ≡ n)
Tells e core core' s' n stop.Sink made = ⊥

-- the run ends with one more step
pub record IsLast (most n : ℕ) (why : Stop) (core : ArmState) (s : State) (made : ℕ) (core' : ArmState) (s' : State) : Type 0 where
  pub few : n < most
  pub event : Event
  pub step : IsStep core s event core' s'
  pub tells : Tells event core core' s' n why made

-- or without one
pub record IsSpent (most n : ℕ) (why : Stop) (core : ArmState) (s : State) (made : ℕ) (core' : ArmState) (s' : State) : Type 0 where
  pub all : n ≡ most
  pub stops : why ≡ stop.Budget
  pub count : made ≡ n
  pub core_is : core' ≡ core
  pub bus_is : s' ≡ s

ends-so : (most n : ℕ) (why : Stop) (core : ArmState) (s : State) (made : ℕ) (core' : ArmState) (s' : State) → EndsWith most n why core s made core' s'
    → IsSpent most n why core s made core' s' ⊎ IsLast most n why core s made core' s'
ends-so most n stop.Budget core s made core' s' (all, count, c, b) = inl (record { all = all; stops = refl; count = count; core_is = c; bus_is = b })
ends-so most n stop.Exit core s made core' s' (few, count, step) = inr (record { few = few; event = event.Host 0x11; step = step; tells = (refl, count) })
ends-so most n (stop.BadString a) core s made core' s' (few, count, step, broken) = inr (record { few = few; event = event.Host 0x02; step = step; tells = (refl, count, broken) })
ends-so most n (stop.Unpredictable at w) core s made core' s' (few, count, is, step) = inr (record { few = few; event = event.Unpredictable w; step = step; tells = (refl, count, is) })
ends-so most n (stop.NoFrame a) core s made core' s' (few, count, step) = inr (record { few = few; event = event.NoFrame a; step = step; tells = (refl, count) })
ends-so most n stop.Sink core s made core' s' h = absurd h

-- events of different kinds
abbrev kind : Event → ℕ
kind event.Ran = 0
kind (event.Took x) = 1
kind (event.Host n) = 4 + n
kind (event.Unpredictable w) = 2
kind (event.NoFrame a) = 3

differ : (d e x : Event) (m n : ℕ) → x ≡ d → x ≡ e → kind d ≡ m → kind e ≡ n → m ≢ n → ⊥
differ d e x m n p q f g h = h (sym f ∙ ap kind (sym p ∙ q) ∙ g)

word-same : (v w : ℕ) (e : Event) → e ≡ event.Unpredictable v → e ≡ event.Unpredictable w → v ≡ w
word-same v w e p q = let same : event.Unpredictable v ≡ event.Unpredictable w = sym p ∙ q in cc

address-same : (a b : ℕ) (e : Event) → e ≡ event.NoFrame a → e ≡ event.NoFrame b → a ≡ b
address-same a b e p q = let same : event.NoFrame a ≡ event.NoFrame b = sym p ∙ q in cc

tells-one : (e : Event) (core core' : ArmState) (s' : State) (n : ℕ) (why why' : Stop) (made made' : ℕ)
    → Tells e core core' s' n why made → Tells e core core' s' n why' made' → (why ≡ why') × (made ≡ made')
tells-one e core core' s' n stop.Budget why' made made' h k = absurd h
tells-one e core core' s' n stop.Exit stop.Budget made made' h k = absurd k
tells-one e core core' s' n stop.Exit stop.Exit made made' h k = (refl, h.1 ∙ sym k.1)
tells-one e core core' s' n stop.Exit (stop.BadString b) made made' h k = absurd (differ (event.Host 0x11) (event.Host 0x02) e 21 6 h.0 k.0 (omega arith) (omega arith) (omega arith))
tells-one e core core' s' n stop.Exit (stop.Unpredictable at' v) made made' h k = absurd (differ (event.Host 0x11) (event.Unpredictable v) e 21 2 h.0 k.0 (omega arith) (omega arith) (omega arith))
tells-one e core core' s' n stop.Exit (stop.NoFrame b) made made' h k = absurd (differ (event.Host 0x11) (event.NoFrame b) e 21 3 h.0 k.0 (omega arith) (omega arith) (omega arith))
tells-one e core core' s' n stop.Exit stop.Sink made made' h k = absurd k
tells-one e core core' s' n (stop.BadString a) stop.Budget made made' h k = absurd k
tells-one e core core' s' n (stop.BadString a) stop.Exit made made' h k = absurd (differ (event.Host 0x02) (event.Host 0x11) e 6 21 h.0 k.0 (omega arith) (omega arith) (omega arith))
tells-one e core core' s' n (stop.BadString a) (stop.BadString b) made made' h k = (ap stop.BadString (broken-one s'.contents (register core' 0) a b h.2 k.2), h.1 ∙ sym k.1)
tells-one e core core' s' n (stop.BadString a) (stop.Unpredictable at' v) made made' h k = absurd (differ (event.Host 0x02) (event.Unpredictable v) e 6 2 h.0 k.0 (omega arith) (omega arith) (omega arith))
tells-one e core core' s' n (stop.BadString a) (stop.NoFrame b) made made' h k = absurd (differ (event.Host 0x02) (event.NoFrame b) e 6 3 h.0 k.0 (omega arith) (omega arith) (omega arith))
tells-one e core core' s' n (stop.BadString a) stop.Sink made made' h k = absurd k
tells-one e core core' s' n (stop.Unpredictable at w) stop.Budget made made' h k = absurd k
tells-one e core core' s' n (stop.Unpredictable at w) stop.Exit made made' h k = absurd (differ (event.Unpredictable w) (event.Host 0x11) e 2 21 h.0 k.0 (omega arith) (omega arith) (omega arith))
tells-one e core core' s' n (stop.Unpredictable at w) (stop.BadString b) made made' h k = absurd (differ (event.Unpredictable w) (event.Host 0x02) e 2 6 h.0 k.0 (omega arith) (omega arith) (omega arith))
tells-one e core core' s' n (stop.Unpredictable at w) (stop.Unpredictable at' v) made made' h k = (ap (λ (x : ℕ). stop.Unpredictable x w) (h.2 ∙ sym k.2) ∙ ap (λ (x : ℕ). stop.Unpredictable at' x) (word-same w v e h.0 k.0), h.1 ∙ sym k.1)
tells-one e core core' s' n (stop.Unpredictable at w) (stop.NoFrame b) made made' h k = absurd (differ (event.Unpredictable w) (event.NoFrame b) e 2 3 h.0 k.0 (omega arith) (omega arith) (omega arith))
tells-one e core core' s' n (stop.Unpredictable at w) stop.Sink made made' h k = absurd k
tells-one e core core' s' n (stop.NoFrame a) stop.Budget made made' h k = absurd k
tells-one e core core' s' n (stop.NoFrame a) stop.Exit made made' h k = absurd (differ (event.NoFrame a) (event.Host 0x11) e 3 21 h.0 k.0 (omega arith) (omega arith) (omega arith))
tells-one e core core' s' n (stop.NoFrame a) (stop.BadString b) made made' h k = absurd (differ (event.NoFrame a) (event.Host 0x02) e 3 6 h.0 k.0 (omega arith) (omega arith) (omega arith))
tells-one e core core' s' n (stop.NoFrame a) (stop.Unpredictable at' v) made made' h k = absurd (differ (event.NoFrame a) (event.Unpredictable v) e 3 2 h.0 k.0 (omega arith) (omega arith) (omega arith))
tells-one e core core' s' n (stop.NoFrame a) (stop.NoFrame b) made made' h k = (ap stop.NoFrame (address-same a b e h.0 k.0), h.1 ∙ sym k.1)
tells-one e core core' s' n (stop.NoFrame a) stop.Sink made made' h k = absurd k
tells-one e core core' s' n stop.Sink why' made made' h k = absurd h

-- a run doesn't go on where another ends
no-more : (e : Event) (core core' : ArmState) (s' : State) (n made : ℕ) (why : Stop) (piece : List ℕ) → Tells e core core' s' n why made → GoesOn e core' s' piece → ⊥
no-more e core core' s' n made stop.Budget piece h on = h
no-more e core core' s' n made stop.Exit piece h on = subst (λ (x : Event). GoesOn x core' s' piece) h.0 on
no-more e core core' s' n made (stop.BadString a) piece h on =
    not-broken s'.contents (register core' 0) a piece h.2 (subst (λ (x : Event). GoesOn x core' s' piece) h.0 on)
no-more e core core' s' n made (stop.Unpredictable at w) piece h on = subst (λ (x : Event). GoesOn x core' s' piece) h.0 on
no-more e core core' s' n made (stop.NoFrame a) piece h on = subst (λ (x : Event). GoesOn x core' s' piece) h.0 on
no-more e core core' s' n made stop.Sink piece h on = h

within : (most n : ℕ) (why : Stop) (core : ArmState) (s : State) (made : ℕ) (core' : ArmState) (s' : State) → EndsWith most n why core s made core' s' → n ≤ most
within most n why core s made core' s' h = go (ends-so most n why core s made core' s' h)
  where
    go : IsSpent most n why core s made core' s' ⊎ IsLast most n why core s made core' s' → n ≤ most
    go (inl x) = let all = x.all in omega arith
    go (inr x) = let few = x.few in omega arith

-- a run that goes on behind n steps
pub record GoesFurther (core : ArmState) (s : State) (n : ℕ) : Type 0 where
  pub text : List ℕ
  pub core1 : ArmState
  pub s1 : State
  pub leads : Leads core s n text core1 s1
  pub event : Event
  pub core2 : ArmState
  pub s2 : State
  pub piece : List ℕ
  pub step : IsStep core1 s1 event core2 s2
  pub on : GoesOn event core2 s2 piece

further : (core : ArmState) (s : State) (n m : ℕ) (text : List ℕ) (core' : ArmState) (s' : State) → n < m → Leads core s m text core' s' → GoesFurther core s n
further core s n zero text core' s' lt stays = absurd (omega arith)
further core s n (suc m) whole core' s' lt (goes {text = text} piece {core1 = core1} {s1 = s1} e before step on) =
    go (n == m) refl (λ less. further core s n m text core1 s1 less before)
  where
    here : Leads core s n text core1 s1 → GoesFurther core s n
    here leads = record { text = text; core1 = core1; s1 = s1; leads = leads; event = e; core2 = core'; s2 = s'; piece = piece; step = step; on = on }

    go : (b : Bool) → (n == m) ≡ b → (n < m → GoesFurther core s n) → GoesFurther core s n
    go true f more = here (subst (λ (k : ℕ). Leads core s k text core1 s1) (sym (eqb-true n m f)) before)
    go false f more = more (apart (eqb_tells n m))
      where
        apart : (((n == m) ≡ true) × (n ≡ m)) ⊎ (((n == m) ≡ false) × (n ≢ m)) → n < m
        apart (inl (t, same)) = absurd (let bad : true ≡ false = sym t ∙ f in cc)
        apart (inr (t, other)) = omega (arith, lt, other)

abbrev OneEnd : Stop → ℕ → List ℕ → ArmState → State → Stop → ℕ → List ℕ → ArmState → State → Type 0
OneEnd why made text core s why' made' text' core' s' = (why ≡ why') × (made ≡ made') × (text ≡ text') × (core ≡ core') × (s ≡ s')

module _ (one : StepIsOne) (law : StepIsValid) where
  -- a run doesn't end before another of as many steps
  no-earlier : (most : ℕ) (core : ArmState) (s : State) (why : Stop) (made : ℕ) (text : List ℕ) (core' : ArmState) (s' : State) (m : ℕ) (later : List ℕ) (core2 : ArmState) (s2 : State)
      → IsFit core s → (x : Runs most core s why made text core' s') → Leads core s m later core2 s2 → m ≤ most → x.count < m → ⊥
  no-earlier most core s why made text core' s' m later core2 s2 f x leads le lt =
      go (ends-so most x.count why x.core1 x.s1 made core' s' x.ends) (further core s x.count m later core2 s2 lt leads)
    where
      go : IsSpent most x.count why x.core1 x.s1 made core' s' ⊎ IsLast most x.count why x.core1 x.s1 made core' s' → GoesFurther core s x.count → ⊥
      go (inl end) g = let all = end.all in omega (arith, all, le, lt)
      go (inr end) g =
          let (t, c, b) = lead-one one law core s x.count text g.text x.core1 g.core1 x.s1 g.s1 f x.leads g.leads in
          let fit = lead-fit law core s x.count text x.core1 x.s1 f x.leads in
          let other = subst (λ (y : State). IsStep x.core1 y g.event g.core2 g.s2) (sym b) (subst (λ (y : ArmState). IsStep y g.s1 g.event g.core2 g.s2) (sym c) g.step) in
          let (same_event, same_core, same_bus) = bus-step-is-one one x.core1 x.s1 end.event g.event core' g.core2 s' g.s2 fit.ready fit.valid.core end.step other in
          let on1 = subst (λ (y : Event). GoesOn y g.core2 g.s2 g.piece) (sym same_event) g.on in
          let on2 = subst (λ (y : ArmState). GoesOn end.event y g.s2 g.piece) (sym same_core) on1 in
          let on3 = subst (λ (y : State). GoesOn end.event core' y g.piece) (sym same_bus) on2 in
          no-more end.event x.core1 core' s' x.count made why g.piece end.tells on3

  -- two ends behind the same steps
  end-one : (most n : ℕ) (core : ArmState) (s : State) (why why' : Stop) (made made' : ℕ) (core1 core2 : ArmState) (s1 s2 : State) → IsFit core s
      → IsSpent most n why core s made core1 s1 ⊎ IsLast most n why core s made core1 s1
      → IsSpent most n why' core s made' core2 s2 ⊎ IsLast most n why' core s made' core2 s2
      → (why ≡ why') × (made ≡ made') × (core1 ≡ core2) × (s1 ≡ s2)
  end-one most n core s why why' made made' core1 core2 s1 s2 f (inl x) (inl y) =
      (x.stops ∙ sym y.stops, x.count ∙ sym y.count, x.core_is ∙ sym y.core_is, x.bus_is ∙ sym y.bus_is)
  end-one most n core s why why' made made' core1 core2 s1 s2 f (inl x) (inr y) = absurd (let all = x.all in let few = y.few in omega arith)
  end-one most n core s why why' made made' core1 core2 s1 s2 f (inr x) (inl y) = absurd (let all = y.all in let few = x.few in omega arith)
  end-one most n core s why why' made made' core1 core2 s1 s2 f (inr x) (inr y) =
      let (same_event, same_core, same_bus) = bus-step-is-one one core s x.event y.event core1 core2 s1 s2 f.ready f.valid.core x.step y.step in
      let tells1 = subst (λ (e : Event). Tells e core core2 s2 n why' made') (sym same_event) y.tells in
      let tells2 = subst (λ (c : ArmState). Tells x.event core c s2 n why' made') (sym same_core) tells1 in
      let tells3 = subst (λ (b : State). Tells x.event core core1 b n why' made') (sym same_bus) tells2 in
      let told = tells-one x.event core core1 s1 n why why' made made' x.tells tells3 in
      (told.0, told.1, same_core, same_bus)

  -- two runs of as many steps that go on
  same-count : (most : ℕ) (core : ArmState) (s : State) (why why' : Stop) (made made' : ℕ) (text text' : List ℕ) (core1 core2 : ArmState) (s1 s2 : State) → IsFit core s
      → (x : Runs most core s why made text core1 s1) → (y : Runs most core s why' made' text' core2 s2) → x.count ≡ y.count
      → OneEnd why made text core1 s1 why' made' text' core2 s2
  same-count most core s why why' made made' text text' core1 core2 s1 s2 f x y same =
      let leads = subst (λ (n : ℕ). Leads core s n text' y.core1 y.s1) (sym same) y.leads in
      let (t, c, b) = lead-one one law core s x.count text text' x.core1 y.core1 x.s1 y.s1 f x.leads leads in
      let ends1 = subst (λ (n : ℕ). EndsWith most n why' y.core1 y.s1 made' core2 s2) (sym same) y.ends in
      let ends2 = subst (λ (z : ArmState). EndsWith most x.count why' z y.s1 made' core2 s2) (sym c) ends1 in
      let ends3 = subst (λ (z : State). EndsWith most x.count why' x.core1 z made' core2 s2) (sym b) ends2 in
      let (w, m, c', b') = end-one most x.count x.core1 x.s1 why why' made made' core1 core2 s1 s2 (lead-fit law core s x.count text x.core1 x.s1 f x.leads)
      (ends-so most x.count why x.core1 x.s1 made core1 s1 x.ends) (ends-so most x.count why' x.core1 x.s1 made' core2 s2 ends3) in
      (w, m, t, c', b')

  pub bus-run-is-one : BusRunIsOne
  bus-run-is-one most core s why why' made made' text text' core1 core2 s1 s2 r v x y =
      let f : IsFit core s = record { ready = r; valid = v } in
      same-count most core s why why' made made' text text' core1 core2 s1 s2 f x y
      (either x.count y.count
      (λ lt. no-earlier most core s why made text core1 s1 y.count text' y.core1 y.s1 f x y.leads (within most y.count why' y.core1 y.s1 made' core2 s2 y.ends) lt)
      (λ lt. no-earlier most core s why' made' text' core2 s2 x.count text x.core1 x.s1 f y x.leads (within most x.count why x.core1 x.s1 made core1 s1 x.ends) lt))

  -- ---- the steps that the machine makes

  pub made-steps-are-one : MadeStepsAreOne
  made-steps-are-one core s [] ys core1 core2 s1 s2 r v h k le = refl
  made-steps-are-one core s (x ∷ xs) [] core1 core2 s1 s2 r v h k le = absurd (omega arith)
  made-steps-are-one core s (x ∷ xs) (y ∷ ys) core1 core2 s1 s2 r v (d, core3, s3, step, rest) (e, core4, s4, step', rest') le =
      let t = after_tick s in
      let same = own-is-one core t (levels (lines_up t.devices)) (ready-tick s r) v.core one x y step.step step'.step in
      let ends' = subst (λ (z : Stepped). Ends (has_frames t z.accesses) core t z e core4 s4) (sym same) step'.ends in
      let (same_event, same_core, same_bus) = ends-one (has_frames t x.accesses) core t x d e core3 core4 s3 s4 step.ends ends' in
      let made1 = subst (λ (c : ArmState). AreMade c s4 ys core2 s2) (sym same_core) rest' in
      let made2 = subst (λ (b : State). AreMade core3 b ys core2 s2) (sym same_bus) made1 in
      let fit = step-fit law core s d core3 s3 (record { ready = r; valid = v }) (record { first = x; step = step.step; ends = step.ends }) in
      let later = made-steps-are-one core3 s3 xs ys core1 core2 s1 s2 fit.ready fit.valid rest made2 (omega arith) in
      ap (λ (z : Stepped). z ∷ xs) same ∙ ap (λ (l : List Stepped). y ∷ l) later
