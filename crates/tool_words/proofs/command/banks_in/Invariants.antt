use Rattle.std.proofs.Common.{◌≡◌, drop, ◌++◌, map, string_bytes}
use Rattle.tool_words.specs.Commands as commands
use Rattle.tool_words.proofs.command.banks_in.Given as goal

abbrev pub invariant-loop-item : goal.invariant-loop-item
invariant-loop-item l = l.banks.items ++ commands.banks_in (map string_bytes l.words) (drop l.item-index l.items) l.flag ≡ commands.banks_in (map string_bytes l.words) l.items l.flag
