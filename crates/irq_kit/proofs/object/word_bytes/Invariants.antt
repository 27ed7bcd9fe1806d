use Rattle.std.proofs.Common.{◌≡◌, ◌++◌, drop}
use Rattle.std.specs.List.{flat_map}
use Rattle.sdt_word.specs.Bytes.{bytes_of}
use Rattle.irq_kit.proofs.object.word_bytes.Given as goal

abbrev pub invariant-loop-word : goal.invariant-loop-word
invariant-loop-word l = l.bytes.items ++ flat_map (λ w. bytes_of w 4) (drop l.word-index l.words) ≡ flat_map (λ w. bytes_of w 4) l.words
