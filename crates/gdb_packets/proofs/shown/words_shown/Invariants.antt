use Rattle.std.proofs.Common.{◌≡◌, ◌++◌, drop}
use Rattle.gdb_packets.specs.Shown.{words_shown}
use Rattle.gdb_packets.proofs.shown.words_shown.Given as goal

abbrev pub invariant-words : goal.invariant-words
invariant-words l = l.reply.items ++ words_shown (drop l.word-index l.words) ≡ words_shown l.words
