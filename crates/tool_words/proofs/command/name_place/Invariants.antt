use Rattle.std.proofs.Common.{◌≡◌, drop}
use Rattle.tool_words.specs.Commands as commands
use Rattle.tool_words.proofs.command.name_place.Given as goal

abbrev pub invariant-loop-item : goal.invariant-loop-item
invariant-loop-item l = commands.name_place (drop l.item-index l.items) ≡ commands.name_place l.items
