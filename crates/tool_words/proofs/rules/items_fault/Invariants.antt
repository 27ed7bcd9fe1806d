use Rattle.std.proofs.Common.{◌≡◌, drop, take, [], map, string_bytes}
use Rattle.tool_words.specs.Rules as rules
use Rattle.tool_words.proofs.rules.items_fault.Given as goal

abbrev pub invariant-loop-k : goal.invariant-loop-k
invariant-loop-k l =
    rules.items_fault l.names (map string_bytes l.words) l.items (take l.k l.items) (drop l.k l.items)
    ≡ rules.items_fault l.names (map string_bytes l.words) l.items [] l.items
