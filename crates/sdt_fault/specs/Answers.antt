-- The exit status and the printed text of each answer. This project's. The status is a table, as in the code.
use Rattle.std.specs.Prelude.{ℕ, List, [], ◌∷◌, ◌++◌, codes}
use Rattle.sdt_fault.specs.declared.answer.Answer.{Answer}
use Rattle.sdt_fault.specs.declared.answer.Answer.TheVariants.{Done, Refused, ReadFault, WriteFault, SinkFault, Stopped, NoMemory}
use Rattle.sdt_fault.specs.declared.answer.Stop.{Stop}
use Rattle.sdt_fault.specs.declared.answer.Stop.TheVariants.{Exit, Budget, Unpredictable, BadString, NoFrame, Sink}
use Rattle.sdt_fault.specs.Digits.{hexadecimal}
use Rattle.sdt_fault.specs.Refusals.{refusal_text, spaced}

-- the exit status
abbrev pub status : Answer → ℕ
status Done = 0
status (Refused r) = 1
status (ReadFault name) = 2
status (WriteFault name) = 3
status SinkFault = 4
status (Stopped stop) = 5
status NoMemory = 6

-- the text of a run's end
abbrev pub stop_text : Stop → List ℕ
stop_text Exit = codes "stopped: exit"
stop_text Budget = codes "stopped: budget"
stop_text (Unpredictable address word) = codes "stopped: unpredictable" ++ spaced (hexadecimal address ∷ hexadecimal word ∷ [])
stop_text (BadString address) = codes "stopped: bad string" ++ spaced (hexadecimal address ∷ [])
stop_text (NoFrame address) = codes "stopped: no frame" ++ spaced (hexadecimal address ∷ [])
stop_text Sink = codes "stopped: sink"

-- the text of an answer
abbrev pub answer_text : Answer → List ℕ
answer_text Done = codes "done"
answer_text (Refused r) = refusal_text r
answer_text (ReadFault name) = codes "cannot read " ++ name
answer_text (WriteFault name) = codes "cannot write " ++ name
answer_text SinkFault = codes "cannot print"
answer_text (Stopped stop) = stop_text stop
answer_text NoMemory = codes "no memory"
