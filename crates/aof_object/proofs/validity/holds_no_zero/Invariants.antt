use Rattle.std.proofs.Common.{◌≡◌, drop}
use Rattle.aof_object.specs.Tests.{is_text}
use Rattle.aof_object.proofs.validity.holds_no_zero.Given as goal

abbrev pub invariant-loop-byte : goal.invariant-loop-byte
invariant-loop-byte l = is_text (drop l.byte-index l.name) ≡ is_text l.name
