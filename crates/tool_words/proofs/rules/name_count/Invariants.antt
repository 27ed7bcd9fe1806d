use Rattle.std.proofs.Common.{◌≡◌, ◌+◌, ◌≤◌, drop}
use Rattle.tool_words.specs.Rules as rules
use Rattle.tool_words.proofs.rules.name_count.Given as goal

abbrev pub invariant-loop-item : goal.invariant-loop-item
invariant-loop-item l = record {
  few : l.count ≤ l.item-index;
  counted : l.count + rules.name_count (drop l.item-index l.items) ≡ rules.name_count l.items;
}
