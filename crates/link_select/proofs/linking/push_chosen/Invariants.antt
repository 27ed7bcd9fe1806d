use Rattle.std.proofs.Common.{◌≡◌, ◌+◌, ◌++◌, map, length}
use Rattle.link_model.specs.Members.{named_member}
use Rattle.link_model.specs.Chosen.{taken}
use Rattle.link_select.specs.Search.{marked}
use Rattle.link_select.proofs.linking.push_chosen.Given as goal

abbrev pub invariant-loop-member : goal.invariant-loop-member
invariant-loop-member l = record {
  count : l.number + length l.member-iterator.rest.items ≡ l.first + length l.fn.members.items;
  so_far : l.linked.items ++ taken (marked l.marks) l.number (map (named_member l.library) l.member-iterator.rest.items)
      ≡ l.initial.linked.items ++ taken (marked l.marks) l.first (map (named_member l.library) l.fn.members.items);
}
