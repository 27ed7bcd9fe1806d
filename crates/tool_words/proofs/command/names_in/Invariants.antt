use Rattle.std.proofs.Common.{◌≡◌, drop, ◌++◌, map, string_bytes}
use Rattle.tool_words.specs.Commands as commands
use Rattle.tool_words.proofs.command.names_in.Given as goal

abbrev pub invariant-loop-item : goal.invariant-loop-item
invariant-loop-item l = l.names.items ++ commands.names_in (map string_bytes l.words) (drop l.item-index l.items) ≡ commands.names_in (map string_bytes l.words) l.items
