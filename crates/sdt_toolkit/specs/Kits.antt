-- What the command `irqkit` answers and leaves: the file of the interrupt kit's object, which needs no input and is never refused.
-- This project's.
use Rattle.std.specs.Prelude.{◌≡◌, ℕ, List}
use Rattle.sdt_fault.specs.declared.answer.Answer.{Answer}
use Rattle.sdt_outside.specs.Counts.{Rose}
use Rattle.aof_object.specs.Spelling.{spelled}
use Rattle.irq_kit.specs.Kit.{kit_of}
use Rattle.tool_answers.specs.Outcomes.{Outside, Writes}

-- of the kit that acknowledges to an address
abbrev pub kit_file : ℕ → List ℕ
kit_file acknowledge = spelled (kit_of acknowledge)

-- it was written, or why not; nothing is printed
abbrev pub KitAnswers : List ℕ → ℕ → Outside → Answer → Type 0
KitAnswers output acknowledge o a =
    Writes output (kit_file acknowledge) o.before o.after (Rose o.writes o.writes_now) a × (o.prints ≡ o.printed)
