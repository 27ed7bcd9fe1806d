-- What the top call tells of make-big: what each answer leaves, that a meeting alone refuses it, and that it is done.
use Rattle.std.proofs.Common.{◌≡◌, ℕ, ◌≤◌, List, Result, Ok, subst}
use Rattle.sdt_fault.specs.declared.answer.Answer.{Answer}
use Rattle.sdt_fault.specs.declared.answer.Answer.TheVariants as answer
use Rattle.sdt_fault.specs.declared.refusal.Refusal.{Refusal}
use Rattle.sdt_outside.specs.Counts.{Rose}
use Rattle.arm7_bus.specs.Meets.{IsNowhere}
use Rattle.arm7_bus.specs.Seats.{Seat}
use Rattle.run_opening.specs.Banks.{two_have}
use Rattle.tool_answers.specs.Outcomes.{Outside}
use Rattle.tool_words.specs.declared.command.Command.{Command}
use Rattle.tool_words.specs.declared.command.Command.TheVariants as command
use Rattle.tool_words.specs.Commands.{command_of}
use Rattle.sdt_toolkit.specs.Big.{BigAnswers, IsBigDone, IsMeeting, MakesBig, default_banks}
use Rattle.sdt_toolkit.specs.Commands.{Commanded, Ends}
use Rattle.sdt_toolkit.specs.Exact.{IsCalm, IsRefusedBy}
use Rattle.sdt_toolkit.proofs.BigRuns.{meeting_by, meeting_once}
use Rattle.sdt_toolkit.proofs.CommandLemmas.{good_command}
use Rattle.sdt_toolkit.proofs.RunOnce.{nowhere}

no_meeting : (seats : List Seat) (r : Refusal) → IsNowhere (two_have default_banks seats) → IsMeeting seats r → ⊥
no_meeting seats r apart h = let (a, is, least) = meeting_by seats r h in nowhere (two_have default_banks seats) a apart least

pub big_ends : (n : ℕ) (output : List ℕ) (o : Outside) (seats left : List Seat) (a : Answer) → BigAnswers n output o seats left a → Ends (Ok (command.MakeBig n output)) o seats left a
big_ends n output o seats left answer.Done h = tt
big_ends n output o seats left (answer.Refused r) h = h
big_ends n output o seats left (answer.ReadFault q) h = absurd h
big_ends n output o seats left (answer.WriteFault q) h = (h.2, h.4, h.5)
big_ends n output o seats left answer.SinkFault h = h.1
big_ends n output o seats left (answer.Stopped why) h = absurd h
big_ends n output o seats left answer.NoMemory h = tt

pub big_refused : (n : ℕ) (output : List ℕ) (o : Outside) (seats left : List Seat) (r : Refusal) → IsCalm o → IsMeeting seats r → (a : Answer) → BigAnswers n output o seats left a → IsRefusedBy r a
big_refused n output o seats left r calm first answer.Done h = absurd (no_meeting seats r h.0.ran.started.ran.roomy.apart first)
big_refused n output o seats left r calm first (answer.Refused q) h = meeting_once seats q r h.0 first
big_refused n output o seats left r calm first (answer.ReadFault q) h = absurd h
big_refused n output o seats left r calm first (answer.WriteFault q) h = absurd (calm.writes h.2)
big_refused n output o seats left r calm first answer.SinkFault h = absurd (calm.sink h.1)
big_refused n output o seats left r calm first (answer.Stopped why) h = absurd h
big_refused n output o seats left r calm first answer.NoMemory h = tt

done : (n : ℕ) (output : List ℕ) (o : Outside) (seats left : List Seat) → IsNowhere (two_have default_banks seats) → (Rose o.writes o.writes_now → ⊥) → (Rose o.faults o.faults_now → ⊥)
    → (a : Answer) → BigAnswers n output o seats left a → IsBigDone n output o seats left a
done n output o seats left apart writes sink answer.Done h = h
done n output o seats left apart writes sink (answer.Refused r) h = no_meeting seats r apart h.0
done n output o seats left apart writes sink (answer.ReadFault q) h = h
done n output o seats left apart writes sink (answer.WriteFault q) h = writes h.2
done n output o seats left apart writes sink answer.SinkFault h = sink h.1
done n output o seats left apart writes sink (answer.Stopped why) h = h
done n output o seats left apart writes sink answer.NoMemory h = h

pub big_told : (words : List (List ℕ)) (o : Outside) (seats left : List Seat) (a : Answer) → Commanded (command_of words) o seats left a → MakesBig (command_of words) o seats left a
unfolding Commanded
big_told words o seats left a commanded n output is apart writes sink =
    let good = good_command words (command.MakeBig n output) is in
    (good.0, good.1, done n output o seats left apart writes sink a (subst (λ (x : Result Command ℕ). Commanded x o seats left a) is commanded))
