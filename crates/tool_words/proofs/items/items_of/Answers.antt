use Rattle.std.proofs.Common.{length, map, string_bytes, ◌<◌, ◌≤◌, refl, rules}
use Rattle.std.proofs.lemmas.List.{length-map}
use Rattle.tool_words.proofs.ItemLemmas.{split_first, split_next, split_end}
use Rattle.tool_words.proofs.items.items_of.Goals as goal

pub words-init : goal.words-init
words-init c = record {
  within = search rules;
  splits = split_first c.args.verb (map string_bytes c.args.words.now) c.new-found.result.items c.new-found.ensures.items;
}

pub words-preserved : goal.words-preserved
words-preserved c =
    let words = map string_bytes c.args.words.now in
    let lt : c.words.at < length words = rw (length-map c.args.words.now string_bytes) c.words-test.true in
    record {
      within = search rules;
      splits = split_next c.args.verb words c.words.found.items c.push.new.self.items _ c.item_at-item.result c.words.at c.words.invariant.splits.0 _ lt c.item_at-item.ensures c.in_ok-push.ensures.items refl c.words.invariant.splits.1;
    }

pub returns-clause-value : goal.returns-clause-value
returns-clause-value c =
    let words = map string_bytes c.args.words.now in
    let le : length words ≤ c.words.at = rw (length-map c.args.words.now string_bytes) c.words-test.false in
    split_end c.args.verb words c.words.found.items _ c.words.at c.words.invariant.splits.0 le c.words.invariant.splits.1
