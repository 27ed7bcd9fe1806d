-- The exit status where a text is shown: that of success with the whole text, or that of a failed print with a beginning of
-- it. This project's.
use Rattle.std.specs.Prelude.{◌≡◌, ◌⊎◌, ℕ, List, Option}
use Rattle.sdt_fault.specs.Answers.{status}
use Rattle.sdt_fault.specs.declared.answer.Answer.TheVariants as answer
use Rattle.sdt_outside.specs.Sinks.{Got, GotPart}

abbrev pub IsShown : List ℕ → Option (List ℕ) → Option (List ℕ) → Type 0 → ℕ → Type 0
IsShown text before after rose code =
    ((code ≡ status answer.Done) × Got before after text) ⊎ ((code ≡ status answer.SinkFault) × rose × GotPart before after text)
