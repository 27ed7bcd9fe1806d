use Rattle.std.proofs.Common.{◌≡◌, ◌++◌, map, take}
use Rattle.alf_archive.specs.Spelling.{member_chunk}
use Rattle.alf_archive.proofs.writing.push_members.Given as goal

abbrev pub invariant-loop-member : goal.invariant-loop-member
invariant-loop-member l = l.list.items ≡ l.initial.list.items ++ map member_chunk (take l.member-index l.members)
