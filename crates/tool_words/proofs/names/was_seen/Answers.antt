use Rattle.tool_words.proofs.SeenLemmas.{now_seen}
use Rattle.tool_words.proofs.names.was_seen.Goals as goal

pub returns-clause-after : goal.returns-clause-after
returns-clause-after c = now_seen c.args.seen.now c.insert.new.self c.args.word.now c.in_ok-text.text c.in_ok-text.ensures c.in_ok-fresh.ensures.updates.0
