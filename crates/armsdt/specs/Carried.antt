-- What the answer to a command line says over files that are not told. This project's.
use Rattle.std.specs.Prelude.{◌≡◌, ℕ, List, None}
use Rattle.sdt_fault.specs.declared.answer.Answer.{Answer}
use Rattle.arm7_bus.specs.Seats.{Seat}
use Rattle.tool_answers.specs.Outcomes.{Outside}
use Rattle.tool_words.specs.Commands.{command_of}
use Rattle.sdt_toolkit.specs.Commands.{Commanded}

-- it is the answer of the command that the words ask for, or to words that break a rule, beside some store, sink and devices
pub record IsCarriedOut (words : List (List ℕ)) (a : Answer) : Type 0 where
  pub outside : Outside
  pub untold : outside.before ≡ None
  pub seats : List Seat
  pub left : List Seat
  pub commanded : Commanded (command_of words) outside seats left a
