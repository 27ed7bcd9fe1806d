-- The answer to a command line.
use Rattle.std.proofs.Common.{◌≡◌, ℕ, List, None}
use Rattle.sdt_fault.specs.declared.answer.Answer.{Answer}
use Rattle.arm7_bus.specs.Seats.{Seat}
use Rattle.tool_answers.specs.Outcomes.{Outside}
use Rattle.tool_words.specs.Commands.{command_of}
use Rattle.sdt_toolkit.specs.Commands.{Commanded}
use Rattle.armsdt.specs.Carried.{IsCarriedOut}

pub carried : (words : List (List ℕ)) (a : Answer) (o : Outside) (seats left : List Seat) → o.before ≡ None → Commanded (command_of words) o seats left a → IsCarriedOut words a
carried words a o seats left untold commanded = record { outside = o; untold = untold; seats = seats; left = left; commanded = commanded }
