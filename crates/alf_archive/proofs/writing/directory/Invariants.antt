use Rattle.std.proofs.Common.{◌≡◌, ◌+◌, ◌++◌, drop}
use Rattle.alf_archive.specs.Numbered.{numbered}
use Rattle.alf_archive.specs.Spelling.{member_entry, directory_of}
use Rattle.alf_archive.proofs.writing.directory.Given as goal

abbrev pub invariant-loop-i : goal.invariant-loop-i
invariant-loop-i l = l.out.items ++ numbered member_entry (5 + l.i) (drop l.i l.members) ≡ directory_of l.members
