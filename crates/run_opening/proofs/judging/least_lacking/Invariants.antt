use Rattle.std.proofs.Common.{map, take}
use Rattle.arm7_bus.specs.Meets.{IsFound}
use Rattle.run_opening.specs.Banks.{is_lacking, memory_bank}
use Rattle.run_opening.proofs.judging.least_lacking.Given as goal

abbrev pub invariant-loop-need : goal.invariant-loop-need
invariant-loop-need l = IsFound (λ a. is_lacking (map memory_bank l.banks) (take l.need-index l.needs) a) l.least
