use Rattle.std.proofs.Common.{◌≡◌, ◌++◌, drop}
use Rattle.boot_code.specs.Maps.{bytes_of_words}
use Rattle.aif_image.proofs.writing.push_words.Given as goal

abbrev pub invariant-loop-word : goal.invariant-loop-word
invariant-loop-word l = l.out.items ++ bytes_of_words (drop l.word-index l.words) ≡ l.fn.out.items ++ bytes_of_words l.words
