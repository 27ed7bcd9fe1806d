use Rattle.std.proofs.Common.{◌≡◌, ◌++◌, drop}
use Rattle.boot_code.specs.Maps.{bytes_of_words}
use Rattle.link_apply.proofs.startup.push_words.Given as goal

abbrev pub invariant-loop-word : goal.invariant-loop-word
invariant-loop-word l = l.bytes.items ++ bytes_of_words (drop l.word-index l.words) ≡ l.fn.bytes.items ++ bytes_of_words l.words
