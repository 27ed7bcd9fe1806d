use Rattle.std.proofs.Common.{◌≡◌, drop, ◌++◌}
use Rattle.tool_library.specs.Libraries as libraries
use Rattle.tool_library.proofs.members.names_text.Given as goal

abbrev pub invariant-loop-member : goal.invariant-loop-member
invariant-loop-member l = l.text.items ++ libraries.names_text (drop l.member-index l.members) ≡ libraries.names_text l.members
