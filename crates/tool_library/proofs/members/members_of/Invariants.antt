use Rattle.std.proofs.Common.{◌≡◌, drop}
use Rattle.tool_library.specs.Libraries as libraries
use Rattle.tool_library.proofs.MemberLemmas.{behind}
use Rattle.tool_library.proofs.members.members_of.Given as goal

abbrev pub invariant-loop-k : goal.invariant-loop-k
invariant-loop-k l = behind l.members.items (libraries.members_of (drop l.k l.names) (drop l.k l.contents)) ≡ libraries.members_of l.names l.contents
