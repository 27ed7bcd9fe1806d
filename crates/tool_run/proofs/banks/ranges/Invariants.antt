use Rattle.std.proofs.Common.{take}
use Rattle.std.specs.List.{AllByRecursion}
use Rattle.run_opening.specs.Banks as opening
use Rattle.tool_run.specs.Openings.{AreRanges}
use Rattle.tool_run.proofs.banks.ranges.Given as goal

abbrev pub invariant-loop-bank : goal.invariant-loop-bank
invariant-loop-bank l = record {
  told : AreRanges (take l.bank-index l.banks) l.ranges.items;
  banks : AllByRecursion opening.IsBank l.ranges.items;
}
