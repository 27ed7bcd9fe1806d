-- What the answers to `run` tell, where the files of an image stand in the store.
use Rattle.std.proofs.Common.{◌≡◌, List, Result, Ok, sym, ◌∙◌, subst}
use Rattle.sdt_fault.specs.declared.answer.Answer.{Answer}
use Rattle.sdt_fault.specs.declared.answer.Answer.TheVariants as answer
use Rattle.sdt_fault.specs.declared.answer.Stop.{Stop}
use Rattle.sdt_fault.specs.declared.refusal.Refusal.{Refusal}
use Rattle.sdt_outside.specs.Counts.{Rose}
use Rattle.arm7_bus.specs.declared.memory.Bank.{Bank}
use Rattle.arm7_bus.specs.Seats.{Seat}
use Rattle.run_opening.specs.declared.image.Image.{Image as RunImage}
use Rattle.tool_answers.specs.Outcomes.{Outside}
use Rattle.tool_words.specs.declared.command.RunWords.{RunWords}
use Rattle.tool_run.specs.Openings.{AreBanks}
use Rattle.tool_run.specs.Runs.{HasRun, Ran, RunSays}
use Rattle.sdt_toolkit.specs.Runs.{Allow, AnswerStarts, Booting, CanBoot, CommandsStart, HasView, RunsStart, Started}

pub same_image : (a b : RunImage) (read : Result RunImage Refusal) → read ≡ Ok a → read ≡ Ok b → a ≡ b
same_image a b read e f = let same : ◌≡◌ {A = Result RunImage Refusal} (Ok a) (Ok b) = sym e ∙ f in cc

module _ (law : RunsStart) (b : Booting) (w : RunWords) (o : Outside) (seats left : List Seat) (can : CanBoot b)
    (suit : (banks : List Bank) → AreBanks w.memory w.rom banks → HasView b banks × Allow banks seats b.written) (read : Result RunImage Refusal) (is : read ≡ Ok b.run) where
  started : (why : Stop) → HasRun w read why o seats left → Started b w o seats left why
  started why h =
      let ran : Ran h.banks b.run w.steps why o.printed o.prints (Rose o.faults o.faults_now) seats left =
      subst (λ (x : RunImage). Ran h.banks x w.steps why o.printed o.prints (Rose o.faults o.faults_now) seats left) (same_image h.image b.run read h.read_so is) h.ran in
      let (has, allow) = suit h.banks h.are_banks in
      (h.banks, h.are_banks, law b h.banks seats left w.steps why o.printed o.prints o.faults o.faults_now can has allow ran)

  says : (a : Answer) → RunSays w read o seats left a → AnswerStarts b w o seats left a
  says answer.Done h = started _ h
  says (answer.Stopped why) h = started why h.1
  says answer.SinkFault h = started _ h
  says (answer.Refused q) h = tt
  says (answer.ReadFault name) h = tt
  says (answer.WriteFault name) h = tt
  says answer.NoMemory h = tt

pub commands_start : RunsStart → CommandsStart
commands_start law b w o seats left a can reads suit answers = says law b w o seats left can suit answers.read (reads answers.read answers.read_so) a answers.says
