use Rattle.std.proofs.Common.{drop}
use Rattle.sdt_word.proofs.PartsLemmas.{IsJoinedTo}
use Rattle.sdt_word.proofs.parts.join_parts.Given as goal

abbrev pub invariant-loop-part : goal.invariant-loop-part
invariant-loop-part l = IsJoinedTo l.parts l.word (drop l.part-index l.parts)
