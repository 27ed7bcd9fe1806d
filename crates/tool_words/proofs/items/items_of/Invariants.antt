use Rattle.std.proofs.Common.{length, ◌-◌, map, string_bytes, ℕ, All, ◌<◌}
use Rattle.tool_words.specs.Items as items
use Rattle.tool_words.proofs.ItemLemmas.{Splits}
use Rattle.tool_words.proofs.items.items_of.Given as goal

abbrev pub invariant-words : goal.invariant-words
invariant-words l = record {
  within : All (λ i. i.at < length l.words) l.found.items;
  splits : (turns : ℕ) × Splits l.verb (map string_bytes l.words) l.found.items (items.items_of l.verb (map string_bytes l.words)) l.at turns;
}

abbrev pub decreases-words : goal.decreases-words
decreases-words l = length l.words - l.at
