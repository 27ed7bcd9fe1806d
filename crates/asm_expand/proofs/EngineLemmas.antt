-- Steps of the engine keep where its run ends.
use Rattle.std.proofs.Common.{◌≡◌, ℕ, List, [], ◌∷◌, reverse, refl, sym, ◌∙◌, ap, subst}
use Rattle.sdt_fault.specs.declared.answer.Fault.{Fault}
use Rattle.sdt_fault.specs.declared.answer.Fault.TheVariants as fault
use Rattle.sdt_fault.specs.declared.kinds.LineKind.{LineKind}
use Rattle.asm_model.specs.declared.lines.Line.{Line}
use Rattle.asm_model.specs.Told.{IsBadLine}
use Rattle.expand_model.specs.Expands.{Run, stops, FaultAt, MissingFile, outermost}
use Rattle.expand_model.specs.States.{State}
use Rattle.expand_model.specs.Steps.{Sources, Context, Condition, Alternative, Loop, Call, File, Stop, Go, Under, first_line, turn, deeper}
use Rattle.expand_model.specs.Steps as model
use Rattle.asm_expand.specs.declared.engine.Engine.{Engine}
use Rattle.asm_variables.specs.declared.expansion.Expansion.{Expansion}
use Rattle.asm_expand.specs.declared.line_cursors.LineCursor.{LineCursor}
use Rattle.asm_expand.specs.declared.steps.End.{End}
use Rattle.asm_expand.specs.declared.steps.Frame.{Frame}
use Rattle.asm_expand.specs.declared.steps.Next.{Next}
use Rattle.asm_expand.specs.declared.steps.Next.TheVariants as next
use Rattle.asm_variables.specs.Expanding.{Represents}
use Rattle.asm_expand.specs.Leading.{AreFrames, IsFault, IsLed, IsShallower, Opens, RunsTo}
use Rattle.asm_expand.specs.LineCursors.{cursor_lines}
use Rattle.asm_expand.specs.FirstLines.{Reads}
use Rattle.asm_expand.specs.Saying.{IsBad, IsEnd, IsFrame, Shows, depth_of}
use Rattle.asm_expand.specs.Turning.{Turns}
use Rattle.asm_expand.specs.Unwinding.{Leads, Unwound, depth_under}
use Rattle.asm_expand.proofs.UnwindingLemmas.{leads_read, leads_under, leads_behind, led}

-- ---- what is shown

went_on : (sources : Sources) (c : Expansion) (p : LineCursor) (n : model.Next) → Shows sources c (next.Go p) n
    → (s : State) × Represents c s × (n ≡ Go s (cursor_lines p))
went_on sources c p (Go s ls) h = (s, h.0, ap (λ (xs : List Line). Go s xs) (sym h.1))
went_on sources c p (Stop e) h = absurd h
went_on sources c p (Under m s ls) h = absurd h

opened : (sources : Sources) (c : Expansion) (f : Frame) (p : LineCursor) (n : model.Next) → Shows sources c (next.Under f p) n
    → (m : Context) × (s : State) × IsFrame f m × Represents c s × (n ≡ Under m s (cursor_lines p))
opened sources c f p (Go s ls) h = absurd h
opened sources c f p (Stop e) h = absurd h
opened sources c f p (Under m s ls) h = (m, s, h.0, h.1, ap (λ (xs : List Line). Under m s xs) (sym h.2))

stopped : (sources : Sources) (c : Expansion) (e : End) (n : model.Next) → Shows sources c (next.Stop e) n
    → (m : model.End) × IsEnd c e m × (n ≡ Stop m)
stopped sources c e (Go s ls) h = absurd h
stopped sources c e (Stop m) h = (m, h, refl)
stopped sources c e (Under m s ls) h = absurd h

pub faulty : (sources : Sources) (c : Expansion) (p : LineCursor) (k : LineKind) (n : model.Next) → Shows sources c (next.Bad p k) n
    → (m : model.End) × IsBad p k m × (n ≡ Stop m)
faulty sources c p k (Go s ls) h = absurd h
faulty sources c p k (Stop m) h = (m, h, refl)
faulty sources c p k (Under m s ls) h = absurd h

module _ (sources : Sources) (start : model.Next) where
  -- ---- a line is read, and a construct is opened

  pub led_read : (g : Engine) (c : Expansion) (p : LineCursor) (n : Next) → Reads p (depth_of g.depth) g.state c n
      → IsLed sources start g (next.Go p) → IsLed sources start (record g { state = c }) n
  led_read g c p n reads is_led =
      let went = went_on sources g.state p is_led.at is_led.shown in
      let x = reads sources went.0 went.1 in
      record {
        contexts = is_led.contexts;
        frames = is_led.frames;
        depth = is_led.depth;
        at = first_line sources (depth_under is_led.contexts) went.0 (cursor_lines p) x.0;
        shown = subst (λ (d : model.Depth). Shows sources c n (first_line sources d went.0 (cursor_lines p) x.0)) is_led.depth x.2;
        leads = leads_read sources start is_led.contexts went.0 (cursor_lines p) x.0 x.1
            (subst (λ (m : model.Next). Leads sources start is_led.contexts m) went.2 is_led.leads);
      }

  pub led_open : (g h : Engine) (f : Frame) (p : LineCursor) → Opens f g h → reverse h.frames.items ≡ f ∷ reverse g.frames.items
      → IsLed sources start g (next.Under f p) → IsLed sources start h (next.Go p)
  led_open g h f p opens back is_led =
      let x = opened sources g.state f p is_led.at is_led.shown in
      record {
        contexts = x.0 ∷ is_led.contexts;
        frames = rw back (x.2, is_led.frames);
        depth = opens.2 x.0 x.2 ∙ ap (λ (d : model.Depth). deeper x.0 d) is_led.depth;
        at = Go x.1 (cursor_lines p);
        shown = (subst (λ (c : Expansion). Represents c x.1) (sym opens.0) x.3, refl);
        leads = leads_under sources start is_led.contexts x.0 x.1 (cursor_lines p)
            (subst (λ (m : model.Next). Leads sources start is_led.contexts m) x.4 is_led.leads);
      }

  -- ---- lines ended

  closed : (g h : Engine) (f : Frame) (fs : List Frame) (e : End) (n : Next) (cs : List Context) (at : model.Next)
      → AreFrames (f ∷ fs) cs → depth_of g.depth ≡ depth_under cs → Shows sources g.state (next.Stop e) at → Leads sources start cs at
      → reverse h.frames.items ≡ fs → IsShallower f g.depth h.depth → Turns f e g.state h.state n → IsLed sources start h n
  closed g h f fs e n [] at frames depth shown leads back shallow turns = absurd frames
  closed g h f fs e n (c ∷ cs) at frames depth shown leads back shallow turns =
      let x = stopped sources g.state e at shown in
      record {
        contexts = cs;
        frames = rw back frames.1;
        depth = shallow c (depth_under cs) frames.0 depth;
        at = turn c x.0;
        shown = turns sources c x.0 frames.0 x.1;
        leads = leads_behind sources start cs c x.0 (subst (λ (m : model.Next). Leads sources start (c ∷ cs) m) x.2 leads);
      }

  pub led_close : (g h : Engine) (f : Frame) (e : End) (n : Next) → reverse g.frames.items ≡ f ∷ reverse h.frames.items
      → IsShallower f g.depth h.depth → Turns f e g.state h.state n → IsLed sources start g (next.Stop e) → IsLed sources start h n
  led_close g h f e n back shallow turns is_led =
      closed g h f (reverse h.frames.items) e n is_led.contexts is_led.at (rw back at is_led.frames) is_led.depth is_led.shown is_led.leads refl shallow turns

  ended_by : (g : Engine) (e : End) (cs : List Context) (at : model.Next) → AreFrames [] cs → Shows sources g.state (next.Stop e) at → Leads sources start cs at
      → (m : model.End) × IsEnd g.state e m × Run sources outermost start m
  ended_by g e [] at frames shown leads =
      let x = stopped sources g.state e at shown in
      (x.0, x.1, led sources start x.0 (subst (λ (m : model.Next). Leads sources start [] m) x.2 leads))
  ended_by g e (c ∷ cs) at frames shown leads = absurd frames

  -- nothing is open
  pub led_end : (g : Engine) (e : End) → g.frames.items ≡ [] → IsLed sources start g (next.Stop e)
      → (m : model.End) × IsEnd g.state e m × Run sources outermost start m
  led_end g e none is_led =
      ended_by g e is_led.contexts is_led.at (rw none at is_led.frames) is_led.shown is_led.leads

  -- ---- a fault ends all

  bad_turn : (c : Context) (name : List ℕ) (n : ℕ) (k : LineKind) → turn c (model.Bad name n k) ≡ Stop (model.Bad name n k)
  unfolding turn
  bad_turn (Condition l) name n k = refl
  bad_turn (Alternative l) name n k = refl
  bad_turn (Loop l ls) name n k = refl
  bad_turn (Call scope rest) name n k = refl
  bad_turn (File rest) name n k = refl

  bad_unwound : (cs : List Context) (name : List ℕ) (n : ℕ) (k : LineKind) → Unwound sources cs (Stop (model.Bad name n k)) (model.Bad name n k)
  bad_unwound [] name n k = stops outermost (model.Bad name n k)
  bad_unwound (c ∷ cs) name n k = (
    model.Bad name n k,
    stops (depth_under (c ∷ cs)) (model.Bad name n k),
    subst (λ (m : model.Next). Unwound sources cs m (model.Bad name n k)) (sym (bad_turn c name n k)) (bad_unwound cs name n k),
  )

  missing_turn : (c : Context) (name : List ℕ) → turn c (model.Missing name) ≡ Stop (model.Missing name)
  unfolding turn
  missing_turn (Condition l) name = refl
  missing_turn (Alternative l) name = refl
  missing_turn (Loop l ls) name = refl
  missing_turn (Call scope rest) name = refl
  missing_turn (File rest) name = refl

  missing_unwound : (cs : List Context) (name : List ℕ) → Unwound sources cs (Stop (model.Missing name)) (model.Missing name)
  missing_unwound [] name = stops outermost (model.Missing name)
  missing_unwound (c ∷ cs) name = (
    model.Missing name,
    stops (depth_under (c ∷ cs)) (model.Missing name),
    subst (λ (m : model.Next). Unwound sources cs m (model.Missing name)) (sym (missing_turn c name)) (missing_unwound cs name),
  )

  pub bad_runs : (cs : List Context) (at : model.Next) (name : List ℕ) (n : ℕ) (k : LineKind) → at ≡ Stop (model.Bad name n k)
      → Leads sources start cs at → RunsTo sources start (FaultAt name n k)
  bad_runs cs at name n k e leads = (
    model.Bad name n k,
    leads.to (model.Bad name n k) (subst (λ (m : model.Next). Unwound sources cs m (model.Bad name n k)) (sym e)
        (bad_unwound cs name n k)),
    refl,
  )

  pub missing_runs : (cs : List Context) (at : model.Next) (name : List ℕ) → at ≡ Stop (model.Missing name)
      → Leads sources start cs at → RunsTo sources start (MissingFile name)
  missing_runs cs at name e leads = (
    model.Missing name,
    leads.to (model.Missing name) (subst (λ (m : model.Next). Unwound sources cs m (model.Missing name)) (sym e)
        (missing_unwound cs name)),
    refl,
  )

  -- ---- refusals of lines

  pub told_by : (name : List ℕ) (n : ℕ) (k : LineKind) (e : Fault) → IsBadLine name n k e
      → RunsTo sources start (FaultAt name n k) → IsFault e (RunsTo sources start)
  told_by name n k (fault.Refused r) h runs = (FaultAt name n k, runs, rw h refl)
  told_by name n k (fault.ReadFault q) h runs = tt
  told_by name n k fault.NoMemory h runs = tt
