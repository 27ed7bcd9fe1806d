use Rattle.std.proofs.Common.{◌≡◌, ℕ, List, drop, take, [], map, string_bytes}
use Rattle.tool_words.specs.Rules as rules
use Rattle.tool_words.specs.Seen.{has_seen}
use Rattle.tool_words.proofs.names.repeated.Given as goal

abbrev pub invariant-loop-item : goal.invariant-loop-item
invariant-loop-item l = record {
  seen : (q : List ℕ) → has_seen l.seen q ≡ rules.stands (map string_bytes l.words) (take l.item-index l.items) q;
  left : rules.repeated (map string_bytes l.words) (take l.item-index l.items) (drop l.item-index l.items) ≡ rules.repeated (map string_bytes l.words) [] l.items;
}
