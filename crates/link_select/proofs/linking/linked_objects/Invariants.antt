use Rattle.std.proofs.Common.{◌≡◌, ◌+◌, ◌++◌, length}
use Rattle.link_model.specs.Members.{members_of}
use Rattle.link_model.specs.Chosen.{taken}
use Rattle.link_select.specs.Search.{marked}
use Rattle.link_select.proofs.linking.linked_objects.Given as goal

abbrev pub invariant-loop-archive : goal.invariant-loop-archive
invariant-loop-archive l = record {
  count : l.number + length (members_of l.archive-iterator.rest.items) ≡ length l.marks;
  so_far : l.linked.items ++ taken (marked l.marks) l.number (members_of l.archive-iterator.rest.items)
      ≡ l.fn.objects.items ++ taken (marked l.marks) 0 (members_of l.fn.archives.items);
}
