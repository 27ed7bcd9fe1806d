-- A session that came to its end, as runs of the machine.
use Rattle.std.proofs.Common.{◌≡◌, ℕ, false, List, [], ◌∷◌, ◌++◌, refl, sym, subst}
use Rattle.sdt_fault.specs.declared.answer.Answer.{Answer}
use Rattle.sdt_fault.specs.declared.answer.Answer.TheVariants as answer
use Rattle.arm7_model.specs.declared.state.ArmState.{ArmState}
use Rattle.arm7_bus.specs.Seats.{Seat}
use Rattle.arm7_bus.specs.States.{State}
use Rattle.armsd_core.specs.declared.command.Command.{Command}
use Rattle.armsd_core.specs.SessionLaws.{IsOneRun, is_detach, is_move}
use Rattle.armsd_core.specs.Sessions.{CarriesOut, Desk, before_quit, opened}
use Rattle.armsd_core.proofs.LawLemmas.{others_leave, session_is_one_run}
use Rattle.tool_answers.specs.Outcomes.{Outside}
use Rattle.tool_words.specs.declared.command.DebugWords.{DebugWords}
use Rattle.sdt_toolkit.specs.Debugging.{AnswerRuns, AreRuns, DebugAnswers, LeavesAll}

-- a session at one of its commands
record IsAt (d : Desk) (front : List Command) (c : Command) (rest : List Command) (d' : Desk) : Type 0 where
  pub first : List ℕ
  pub here : Desk
  pub before : CarriesOut front d first here
  pub others : List ℕ
  pub behind : CarriesOut (c ∷ rest) here others d'

at : (front : List Command) (c : Command) (rest : List Command) (d : Desk) (text : List ℕ) (d' : Desk)
    → CarriesOut (front ++ c ∷ rest) d text d' → IsAt d front c rest d'
at [] c rest d text d' h = record { first = []; here = d; before = (refl, refl); others = text; behind = h }
at (f ∷ front) c rest d text d' (m, said, more, does, others, t) =
    let a = at front c rest m more d' others in
    record { first = said ++ a.first; here = a.here; before = (m, said, a.first, does, a.before, refl); others = a.others; behind = a.behind }

leaves : (front : List Command) (c : Command) (rest : List Command) (d : Desk) (core' : ArmState) (end : State) (d' : Desk)
    → is_move c ≡ false → is_detach c ≡ false → core' ≡ d'.core → end ≡ d'.bus → IsAt d front c rest d' → LeavesAll d front c rest core' end
leaves front c rest d core' end d' quiet kept core bus a =
    let (there, said, last, does, behind, t) = a.behind in
    let (same_core, same_bus, steps, ended) = others_leave c a.here said there quiet kept does in record {
      first = a.first;
      here = a.here;
      before = a.before;
      said = said;
      there = there;
      does = does;
      core = same_core;
      bus = same_bus;
      last = last;
      left = d';
      behind = behind;
      core_so = core;
      bus_so = bus;
    }

are_runs : (commands : List Command) (core : ArmState) (begin : State) (core' : ArmState) (end : State) (text : List ℕ) (d' : Desk)
    → CarriesOut (before_quit commands) (opened core begin) text d' → core' ≡ d'.core → end ≡ d'.bus → AreRuns commands core begin core' end
are_runs commands core begin core' end text d' session same_core same_bus = record {
  one_run = λ kept.
      let (steps, printed, counted, run) = session_is_one_run (before_quit commands) (opened core begin) text d' refl kept session in
      record {
        steps = steps;
        stopped = d'.ended;
        printed = printed;
        run = subst (λ (c : ArmState). IsOneRun core begin steps d'.ended printed c end) (sym same_core)
            (subst (λ (s : State). IsOneRun core begin steps d'.ended printed d'.core s) (sym same_bus) run);
      };
  others = λ front rest c is quiet kept.
      leaves front c rest (opened core begin) core' end d' quiet kept same_core same_bus
      (at front c rest (opened core begin) text d' (subst (λ (cs : List Command). CarriesOut cs (opened core begin) text d') is session));
}

pub answer_runs : (w : DebugWords) (o : Outside) (seats left : List Seat) (a : Answer) → DebugAnswers w o seats left a → AnswerRuns w o seats left a
answer_runs w o seats left answer.Done h =
    let s = h.session.session in
    let (text, d', session, core, bus, got) = s.debugged in
    (h, are_runs h.commands s.core h.session.begin s.core' s.end text d' session core bus)
answer_runs w o seats left other h = tt
