use Rattle.std.proofs.Common.{◌≡◌, ◌-◌, drop, length}
use Rattle.tool_library.specs.Libraries as libraries
use Rattle.tool_library.proofs.members.place_named.Given as goal

abbrev pub invariant-members : goal.invariant-members
invariant-members l = libraries.member_named l.name (drop l.place l.members) ≡ libraries.member_named l.name l.members

abbrev pub decreases-members : goal.decreases-members
decreases-members l = length l.members - l.place
