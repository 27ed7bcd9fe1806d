use Rattle.std.proofs.Common.{◌≡◌, ◌-◌, ℕ, List, [], length}
use Rattle.std.specs.Prelude.{is_some}
use Rattle.aof_object.specs.Names.{among}
use Rattle.aof_object.specs.Index.{number_in}
use Rattle.alf_archive.specs.Archives.{member_names, members_from}
use Rattle.alf_archive.proofs.MemberLoop.{Left}
use Rattle.alf_archive.proofs.reading.read_members.Given as goal

abbrev pub invariant-loop-at : goal.invariant-loop-at
invariant-loop-at l = record {
  left : Left l.b l.spans l.start l.dir l.at l.members.items (members_from l.b l.spans l.start l.dir (length l.dir) 0 []);
  known : (q : List ℕ) → is_some (number_in l.taken q) ≡ among q (member_names l.members.items);
}

abbrev pub decreases-loop-at : goal.decreases-loop-at
decreases-loop-at l = length l.dir - l.at
