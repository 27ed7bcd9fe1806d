-- What the host does behind a step, and a run that goes on or ends behind it.
use Rattle.std.proofs.Common.{◌≡◌, ℕ, suc, ◌+◌, ◌%◌, ◌<◌, List, [], ◌∷◌, ◌++◌, Option, Some, None, refl, sym, ap, ◌∙◌, subst, arith}
use Rattle.sdt_outside.specs.Sinks.{Got}
use Rattle.arm7_model.specs.declared.state.ArmState.{ArmState}
use Rattle.arm7_model.specs.declared.event.Event.{Event}
use Rattle.arm7_model.specs.declared.event.Event.TheVariants as event
use Rattle.arm7_model.specs.Registers.{register}
use Rattle.arm7_bus.specs.States.{State}
use Rattle.arm7_core.specs.Machines.{IsStep}
use Rattle.arm7_run.specs.declared.host.Turn.{Turn}
use Rattle.arm7_run.specs.declared.host.Turn.TheVariants as turn
use Rattle.arm7_run.specs.declared.host.RunEnd.{RunEnd}
use Rattle.arm7_run.specs.Runs.{Leads, goes, stays, RunsInto}
use Rattle.arm7_run.specs.Turns.{Bytes, Strings, Turned, Turns, ended}
use Rattle.arm7_run.proofs.StringLemmas.{got_more}
use Rattle.sdt_outside.proofs.SharedLemmas.{got_none}

string : (t : Turn) (at : ℕ) (core : ArmState) (s : State) (before after : Option (List ℕ)) (rose : Type 0)
    → Strings t s.contents (register core 0) before after rose → Turns t (event.Host 2) at core s before after rose
string turn.On at core s before after rose h = h
string turn.Chokes at core s before after rose h = h
string (turn.Breaks told) at core s before after rose h = (refl, h.0, h.1)
string turn.Exits at core s before after rose h = absurd h
string (turn.Unpredictable a w) at core s before after rose h = absurd h
string (turn.NoFrame a) at core s before after rose h = absurd h

pub turns_string : (t : Turn) (e : Event) (n a at : ℕ) (core : ArmState) (s : State) (before after : Option (List ℕ)) (rose : Type 0)
    → e ≡ event.Host n → n ≡ 2 → a ≡ register core 0 → Strings t s.contents a before after rose → Turns t e at core s before after rose
turns_string t e n a at core s before after rose is two of h =
    subst (λ (x : Event). Turns t x at core s before after rose) (sym (is ∙ ap (λ (k : ℕ). event.Host k) two)) (string t at core s before after rose (subst (λ (x : ℕ). Strings t s.contents x before after rose) of h))

byte : (t : Turn) (at : ℕ) (core : ArmState) (s : State) (before after : Option (List ℕ)) (rose : Type 0)
    → Bytes t (register core 0 % 256) before after rose → Turns t (event.Host 0) at core s before after rose
byte turn.On at core s before after rose h = (register core 0 % 256 ∷ [], refl, h)
byte turn.Chokes at core s before after rose h = (h.0, (register core 0 % 256 ∷ [], refl, (λ e. cc), h.1))
byte (turn.Breaks told) at core s before after rose h = absurd h
byte turn.Exits at core s before after rose h = absurd h
byte (turn.Unpredictable a w) at core s before after rose h = absurd h
byte (turn.NoFrame a) at core s before after rose h = absurd h

pub turns_byte : (t : Turn) (e : Event) (n a at : ℕ) (core : ArmState) (s : State) (before after : Option (List ℕ)) (rose : Type 0)
    → e ≡ event.Host n → n ≡ 0 → a ≡ register core 0 → Bytes t (a % 256) before after rose → Turns t e at core s before after rose
turns_byte t e n a at core s before after rose is none of h =
    subst (λ (x : Event). Turns t x at core s before after rose) (sym (is ∙ ap (λ (k : ℕ). event.Host k) none)) (byte t at core s before after rose (subst (λ (x : ℕ). Bytes t (x % 256) before after rose) of h))

-- ---- the run

-- so many steps were made that went on, and their text was appended
pub record IsUnderWay (core : ArmState) (s : State) (before : Option (List ℕ)) (n : ℕ) (core' : ArmState) (s' : State) (after : Option (List ℕ)) : Type 0 where
  pub text : List ℕ
  pub leads : Leads core s n text core' s'
  pub got : Got before after text

pub begins : (core : ArmState) (s : State) (before : Option (List ℕ)) → IsUnderWay core s before 0 core s before
begins core s before = record { text = []; leads = stays; got = got_none before }

pub one-more : (n : ℕ) → suc n ≡ n + 1
one-more n = omega arith

not_none : (x : RunEnd) → Some x ≡ None → ⊥
not_none x e = cc

some_is : (x y : RunEnd) → Some x ≡ Some y → x ≡ y
some_is x y e = cc

pub goes_on : (core : ArmState) (s : State) (before : Option (List ℕ)) (n : ℕ) (core1 : ArmState) (s1 : State) (after1 : Option (List ℕ)) (core2 : ArmState) (s2 : State) (after2 : Option (List ℕ)) (rose : Type 0) (t : Turn)
    → IsUnderWay core s before n core1 s1 after1 → Turned t core1 s1 core2 s2 after1 after2 rose → ended t n ≡ None → IsUnderWay core s before (n + 1) core2 s2 after2
goes_on core s before n core1 s1 after1 core2 s2 after2 rose turn.On w (e, step, (piece, on, got)) none =
    record { text = w.text ++ piece; leads = subst (λ (m : ℕ). Leads core s m (w.text ++ piece) core2 s2) (one-more n) (goes piece e w.leads step on); got = got_more before after1 after2 w.text piece w.got got }
goes_on core s before n core1 s1 after1 core2 s2 after2 rose turn.Exits w h none = absurd (not_none _ none)
goes_on core s before n core1 s1 after1 core2 s2 after2 rose (turn.Breaks a) w h none = absurd (not_none _ none)
goes_on core s before n core1 s1 after1 core2 s2 after2 rose turn.Chokes w h none = absurd (not_none _ none)
goes_on core s before n core1 s1 after1 core2 s2 after2 rose (turn.Unpredictable a x) w h none = absurd (not_none _ none)
goes_on core s before n core1 s1 after1 core2 s2 after2 rose (turn.NoFrame a) w h none = absurd (not_none _ none)

-- a turn that ends the run
told : (most : ℕ) (core : ArmState) (s : State) (before : Option (List ℕ)) (core2 : ArmState) (s2 : State) (after2 : Option (List ℕ)) (rose : Type 0) (x end : RunEnd)
    → Some x ≡ Some end → RunsInto most core s x.stop x.steps core2 s2 before after2 rose → RunsInto most core s end.stop end.steps core2 s2 before after2 rose
told most core s before core2 s2 after2 rose x end is h =
    subst (λ (y : RunEnd). RunsInto most core s y.stop y.steps core2 s2 before after2 rose) (some_is x end is) h

pub stops : (most : ℕ) (core : ArmState) (s : State) (before : Option (List ℕ)) (n : ℕ) (core1 : ArmState) (s1 : State) (after1 : Option (List ℕ)) (core2 : ArmState) (s2 : State) (after2 : Option (List ℕ)) (rose rose' : Type 0) (t : Turn) (end : RunEnd)
    → n < most → IsUnderWay core s before n core1 s1 after1 → Turned t core1 s1 core2 s2 after1 after2 rose → (rose → rose') → ended t n ≡ Some end
    → RunsInto most core s end.stop end.steps core2 s2 before after2 rose'
stops most core s before n core1 s1 after1 core2 s2 after2 rose rose' turn.On end few w h up is = absurd (not_none end (sym is))
stops most core s before n core1 s1 after1 core2 s2 after2 rose rose' turn.Exits end few w (e, step, (host, same)) up is =
    told most core s before core2 s2 after2 rose' _ end is (
      w.text,
      record { count = n; core1 = core1; s1 = s1; leads = w.leads; ends = (few, refl, subst (λ (x : Event). IsStep core1 s1 x core2 s2) host step) },
      subst (λ (b : Option (List ℕ)). Got before b w.text) (sym same) w.got,
    )
stops most core s before n core1 s1 after1 core2 s2 after2 rose rose' (turn.Breaks a) end few w (e, step, (host, broken, same)) up is =
    told most core s before core2 s2 after2 rose' _ end is (
      w.text,
      record { count = n; core1 = core1; s1 = s1; leads = w.leads; ends = (few, refl, subst (λ (x : Event). IsStep core1 s1 x core2 s2) host step, broken) },
      subst (λ (b : Option (List ℕ)). Got before b w.text) (sym same) w.got,
    )
stops most core s before n core1 s1 after1 core2 s2 after2 rose rose' turn.Chokes end few w (e, step, (higher, (piece, on, printed, part))) up is =
    told most core s before core2 s2 after2 rose' _ end is (
    record {
      count = n;
      few = few;
      made_is = refl;
      text = w.text;
      core1 = core1;
      s1 = s1;
      leads = w.leads;
      middle = after1;
      got = w.got;
      chokes = record { event = e; step = step; piece = piece; goes_on = on; printed = printed; part = part; counted = up higher };
    }
    )
stops most core s before n core1 s1 after1 core2 s2 after2 rose rose' (turn.Unpredictable a x) end few w (e, step, (word, at, same)) up is =
    told most core s before core2 s2 after2 rose' _ end is (
      w.text,
      record { count = n; core1 = core1; s1 = s1; leads = w.leads; ends = (few, refl, at, subst (λ (x : Event). IsStep core1 s1 x core2 s2) word step) },
      subst (λ (b : Option (List ℕ)). Got before b w.text) (sym same) w.got,
    )
stops most core s before n core1 s1 after1 core2 s2 after2 rose rose' (turn.NoFrame a) end few w (e, step, (word, same)) up is =
    told most core s before core2 s2 after2 rose' _ end is (
      w.text,
      record { count = n; core1 = core1; s1 = s1; leads = w.leads; ends = (few, refl, subst (λ (x : Event). IsStep core1 s1 x core2 s2) word step) },
      subst (λ (b : Option (List ℕ)). Got before b w.text) (sym same) w.got,
    )

pub turned : (t : Turn) (e : Event) (at : ℕ) (core : ArmState) (s : State) (core' : ArmState) (s' : State) (before after : Option (List ℕ)) (rose : Type 0)
    → at ≡ register core 15 → IsStep core s e core' s' → Turns t e at core' s' before after rose → Turned t core s core' s' before after rose
turned t e at core s core' s' before after rose is step h = (e, step, subst (λ (x : ℕ). Turns t e x core' s' before after rose) is h)
