use Rattle.std.proofs.Common.{◌≡◌, drop}
use Rattle.tool_words.specs.Commands as commands
use Rattle.tool_words.proofs.command.place_of.Given as goal

abbrev pub invariant-loop-item : goal.invariant-loop-item
invariant-loop-item l = commands.place_of l.flag (drop l.item-index l.items) ≡ commands.place_of l.flag l.items
