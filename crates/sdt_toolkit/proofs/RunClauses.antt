-- What the top call tells of runs: how those of a linked image start, and by which steps each runs.
use Rattle.std.proofs.Common.{◌≡◌, ℕ, Bool, true, false, List, length, Option, Result, Ok, refl, sym, ap, subst, ◌∙◌}
use Rattle.sdt_fault.specs.declared.answer.Answer.{Answer}
use Rattle.sdt_fault.specs.declared.answer.Answer.TheVariants as answer
use Rattle.sdt_fault.specs.declared.answer.Stop.{Stop}
use Rattle.sdt_fault.specs.declared.answer.Stop.TheVariants as stop
use Rattle.sdt_fault.specs.declared.refusal.Refusal.{Refusal}
use Rattle.sdt_outside.specs.Counts.{Rose}
use Rattle.arm7_model.specs.declared.state.ArmState.{ArmState}
use Rattle.arm7_model.specs.Outcomes.{Stepped}
use Rattle.arm7_model.specs.Runs.{EachStep, accesses_of}
use Rattle.arm7_bus.specs.declared.memory.Bank.{Bank as MemoryBank}
use Rattle.arm7_bus.specs.Seats.{Seat}
use Rattle.arm7_bus.specs.States.{State}
use Rattle.arm7_bus.specs.WholeWords.{AreWholeBanks, AreWholeSeats}
use Rattle.arm7_run.specs.Runs.{Runs, is_sink}
use Rattle.arm7_run.proofs.ChokeLemmas.{EndedBy, ended_by}
use Rattle.arm7_transfers.specs.Boards.{board_of}
use Rattle.arm7_transfers.specs.Ready.{IsReady}
use Rattle.run_laws.specs.Devices.{AreOffDevices, ticked_for, touches_of}
use Rattle.run_laws.specs.Steps.{AreMade, steps_made}
use Rattle.run_laws.proofs.MadeSteps.{run-leaves-devices}
use Rattle.run_opening.specs.declared.image.Image.{Image}
use Rattle.run_opening.specs.Banks.{IsRoomy, frames_of}
use Rattle.run_opening.specs.Openings.{IsOpening}
use Rattle.tool_answers.specs.Outcomes.{Outside}
use Rattle.tool_words.specs.declared.command.Command.{Command}
use Rattle.tool_words.specs.declared.command.Command.TheVariants as command
use Rattle.tool_words.specs.declared.command.RunWords.{RunWords}
use Rattle.tool_words.specs.Commands.{command_of}
use Rattle.tool_run.specs.Images.{IsRead}
use Rattle.tool_run.specs.Openings.{AreBanks}
use Rattle.tool_run.specs.Runs.{HasRun, Ran, RunAnswers, RunSays}
use Rattle.sdt_toolkit.specs.Commands.{Commanded}
use Rattle.sdt_toolkit.specs.Runs.{AnswerSteps, IsRunBySteps, LinkedRunsStart, RanBySteps, RunsBySteps, StartsAsLinked}
use Rattle.sdt_toolkit.proofs.RunOnce.{banks_whole}
use Rattle.sdt_toolkit.proofs.RunOpened.{ready_for}
use Rattle.sdt_toolkit.proofs.RunSteps.{sink_made}

-- ---- by which steps a run goes

-- the steps of a run over a bus
record AreStepsOf (core : ArmState) (s : State) (why : Stop) (made : ℕ) (core' : ArmState) (s' : State) : Type 0 where
  pub steps : List Stepped
  pub count : length steps ≡ steps_made why made
  pub are : AreMade core s steps core' s'
  pub idle : EachStep (AreOffDevices (board_of s)) (accesses_of steps) → (s'.devices ≡ ticked_for (length steps) s.devices) × (touches_of s'.devices ≡ touches_of s.devices)

steps_of : (most : ℕ) (core : ArmState) (s : State) (why : Stop) (made : ℕ) (text : List ℕ) (core' : ArmState) (s' : State) → IsReady s → Runs most core s why made text core' s' → AreStepsOf core s why made core' s'
steps_of most core s why made text core' s' ready run =
    let (steps, count, are, left) = run-leaves-devices most core s why made text core' s' ready run in
    record {
      steps = steps;
      count = count;
      are = are;
      idle = λ off. let (ticked, touches) = left off in (ticked ∙ ap (λ (n : ℕ). ticked_for n s.devices) (sym count), touches);
    }

-- those of a run whose sink failed are the steps that were made
steps_by : (most : ℕ) (core : ArmState) (s : State) (why : Stop) (made : ℕ) (text : List ℕ) (core' : ArmState) (s' : State) (before after : Option (List ℕ)) (rose : Type 0) (b : Bool) → is_sink why ≡ b → IsReady s
    → EndedBy b most core s why made text core' s' before after rose → AreStepsOf core s why made core' s'
steps_by most core s why made text core' s' before after rose true e ready c =
    let x = steps_of made core s stop.Budget made text core' s' ready c.runs in
    record { steps = x.steps; count = x.count ∙ sink_made why made e; are = x.are; idle = x.idle }
steps_by most core s why made text core' s' before after rose false e ready (run, got) = steps_of most core s why made text core' s' ready run

module _ (banks : List MemoryBank) (whole : AreWholeBanks banks) (i : Image) (most : ℕ) (why : Stop) (before after : Option (List ℕ)) (rose : Type 0) (seats left : List Seat) (placed : AreWholeSeats seats) where
  ready : (s : State) → IsRoomy banks seats i.needs → IsOpening banks i seats s → IsReady s
  ready s roomy o =
      let b = o.banks_are in let d = o.devices in
      ready_for i.needs s
      (subst (λ (bs : List MemoryBank). IsRoomy bs s.devices i.needs) (sym b) (subst (λ (ds : List Seat). IsRoomy banks ds i.needs) (sym d) roomy))
      (subst AreWholeBanks (sym b) whole) (subst AreWholeSeats (sym d) placed) o.used (o.frames ∙ ap frames_of (sym b))

  by_steps : Ran banks i most why before after rose seats left → RanBySteps banks i most why before after rose seats left
  by_steps ran =
      let run = ran.is_run in
      let s = ran.begin in
      let (text, ended) = ended_by most run.core s why run.made run.core' run.end before after rose run.runs in
      let x = steps_by most run.core s why run.made text run.core' run.end before after rose (is_sink why) refl (ready s ran.roomy ran.opening) ended in
      let same : s.devices ≡ seats = ran.opening.devices in
      record {
        ran = ran;
        steps = x.steps;
        count = x.count;
        are = x.are;
        idle = λ off. let (ticked, touches) = x.idle off in (
          run.devices ∙ ticked ∙ ap (ticked_for (length x.steps)) same,
          ap touches_of run.devices ∙ touches ∙ ap touches_of same,
        );
      }

module _ (w : RunWords) (whole : (banks : List MemoryBank) → AreBanks w.memory w.rom banks → AreWholeBanks banks) (o : Outside) (seats left : List Seat) (placed : AreWholeSeats seats) where
  run_by_steps : (read : Result Image Refusal) (why : Stop) → IsRead o.before (Rose o.reads o.reads_now) w.image read → HasRun w read why o seats left → IsRunBySteps w o seats left why
  run_by_steps read why is_read run = record {
    image = run.image;
    read = subst (IsRead o.before (Rose o.reads o.reads_now) w.image) run.read_so is_read;
    banks = run.banks;
    are_banks = run.are_banks;
    ran = by_steps run.banks (whole run.banks run.are_banks) run.image w.steps why o.printed o.prints (Rose o.faults o.faults_now) seats left placed run.ran;
  }

  answer_steps : (read : Result Image Refusal) → IsRead o.before (Rose o.reads o.reads_now) w.image read → (a : Answer) → RunSays w read o seats left a → AnswerSteps w o seats left a
  answer_steps read is_read answer.Done h = run_by_steps read stop.Exit is_read h
  answer_steps read is_read (answer.Stopped why) h = run_by_steps read why is_read h.1
  answer_steps read is_read answer.SinkFault h = run_by_steps read stop.Sink is_read h
  answer_steps read is_read (answer.Refused r) h = tt
  answer_steps read is_read (answer.ReadFault name) h = tt
  answer_steps read is_read (answer.WriteFault name) h = tt
  answer_steps read is_read answer.NoMemory h = tt

-- ---- the clauses of the top call

-- the answer to words that ask for a run
pub run_answers : (words : List (List ℕ)) (o : Outside) (seats left : List Seat) (a : Answer) → Commanded (command_of words) o seats left a → (r : RunWords) → command_of words ≡ Ok (command.Run r) → RunAnswers r o seats left a
unfolding Commanded
run_answers words o seats left a commanded r is = subst (λ (x : Result Command ℕ). Commanded x o seats left a) is commanded

pub steps_told : (words : List (List ℕ)) (o : Outside) (seats left : List Seat) (a : Answer) → Commanded (command_of words) o seats left a → RunsBySteps (command_of words) o seats left a
steps_told words o seats left a commanded r is placed =
    let answers = run_answers words o seats left a commanded r is in
    answer_steps r (λ banks are. banks_whole words r banks is are) o seats left placed answers.read answers.read_so a answers.says

pub starts_told : LinkedRunsStart → (words : List (List ℕ)) (o : Outside) (seats left : List Seat) (a : Answer) → Commanded (command_of words) o seats left a → StartsAsLinked (command_of words) o seats left a
starts_told law words o seats left a commanded r is sources w before after i views b together link told names placed suit =
    law sources w before after i views b r o seats left a together link told names
    (λ banks are. let s = suit banks are in (s.ranges, record { banks_whole = banks_whole words r banks is are; seats_whole = placed; writable = s.writable }))
    (run_answers words o seats left a commanded r is)
