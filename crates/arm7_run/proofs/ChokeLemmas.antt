-- A run whose sink failed is a run of as many steps as were made, with a beginning of its text.
use Rattle.std.proofs.Common.{◌≡◌, ℕ, suc, ◌+◌, List, [], ◌++◌, Option, Bool, true, false, refl, sym, ◌∙◌, arith}
use Rattle.std.specs.Prelude.{MatchBool}
use Rattle.sdt_fault.specs.declared.answer.Stop.{Stop}
use Rattle.sdt_fault.specs.declared.answer.Stop.TheVariants as stop
use Rattle.sdt_outside.specs.Sinks.{Got, GotPart}
use Rattle.arm7_model.specs.declared.state.ArmState.{ArmState}
use Rattle.arm7_bus.specs.States.{State}
use Rattle.arm7_run.specs.Runs.{goes, RunChokes, Runs, RunsInto, is_sink}
use Rattle.arm7_run.proofs.StringLemmas.{no_more, part_more}

one-more : (n : ℕ) → suc n ≡ n + 1
one-more n = omega arith

pub record IsChoked (core : ArmState) (s : State) (made : ℕ) (text : List ℕ) (core' : ArmState) (s' : State) (before after : Option (List ℕ)) (rose : Type 0) : Type 0 where
  pub counted : rose
  pub runs : Runs made core s stop.Budget made text core' s'
  pub part : GotPart before after text

pub choked : (most : ℕ) (core : ArmState) (s : State) (made : ℕ) (core' : ArmState) (s' : State) (before after : Option (List ℕ)) (rose : Type 0)
    → (c : RunChokes most core s made core' s' before after rose) → IsChoked core s made (c.text ++ c.chokes.piece) core' s' before after rose
choked most core s made core' s' before after rose c =
    let x = c.chokes in
    record {
      counted = x.counted;
      runs = record {
        count = suc c.count;
        core1 = core';
        s1 = s';
        leads = goes x.piece x.event c.leads x.step x.goes_on;
        ends = (one-more c.count ∙ sym c.made_is, c.made_is ∙ sym (one-more c.count), refl, refl);
      };
      part = part_more before c.middle after c.text x.piece (c.text ++ x.piece) [] c.got x.part (sym (no_more (c.text ++ x.piece)));
    }

-- a run into a sink, by whether that failed
abbrev pub EndedBy : Bool → ℕ → ArmState → State → Stop → ℕ → List ℕ → ArmState → State → Option (List ℕ) → Option (List ℕ) → Type 0 → Type 0
EndedBy b most core s why made text core' s' before after rose =
    MatchBool b (IsChoked core s made text core' s' before after rose) (Runs most core s why made text core' s' × Got before after text)

pub ended_by : (most : ℕ) (core : ArmState) (s : State) (why : Stop) (made : ℕ) (core' : ArmState) (s' : State) (before after : Option (List ℕ)) (rose : Type 0)
    → RunsInto most core s why made core' s' before after rose
    → (text : List ℕ) × EndedBy (is_sink why) most core s why made text core' s' before after rose
ended_by most core s why made core' s' before after rose h = go (is_sink why) h
  where
    go : (b : Bool) → MatchBool b (RunChokes most core s made core' s' before after rose) ((text : List ℕ) × Runs most core s why made text core' s' × Got before after text)
        → (text : List ℕ) × EndedBy b most core s why made text core' s' before after rose
    go true c = (c.text ++ c.chokes.piece, choked most core s made core' s' before after rose c)
    go false (text, run, got) = (text, (run, got))
