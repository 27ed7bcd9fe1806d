use Rattle.std.proofs.Common.{arith, sym, ◌∙◌, append-nil}
use Rattle.link_select.specs.Search.{marked}
use Rattle.link_select.proofs.SelectionLemmas.{none_left, library_next, members_more}
use Rattle.link_select.proofs.linking.linked_objects.Goals as goal

pub push_chosen-requires : goal.push_chosen-requires
push_chosen-requires c =
    let more = members_more c.in-Some.archive c.loop-archive.archive-iterator.rest.items c.next.new.self.rest.items c.in-Some.ensures.steps.0 in
    let count = c.loop-archive.invariant.count in
    rw c.into_vec-members.ensures (omega (arith, more, count))

pub loop-archive-preserved : goal.loop-archive-preserved
loop-archive-preserved c =
    let first = c.in-Some.ensures.steps.0 in
    let more = members_more c.in-Some.archive c.loop-archive.archive-iterator.rest.items c.next.new.self.rest.items first in
    let count = c.loop-archive.invariant.count in
    let next = c.in_ok-number.ensures.next in
    record {
      count = rw next (rw c.into_vec-members.ensures (omega (arith, more, count)));
      so_far = library_next (marked c.args.marks.now) c.loop-archive.number c.in_ok-number.number c.in-Some.archive c.into_vec-members.result.items c.loop-archive.archive-iterator.rest.items
          c.next.new.self.rest.items c.loop-archive.linked.items c.push_chosen.new.linked.items _ first c.into_vec-members.ensures next c.in_ok-number.ensures.chosen c.loop-archive.invariant.so_far;
    }

pub returns : goal.returns
returns c =
    let len = c.in-None.ensures.steps.0 in
    let ok = c.loop-archive.archive-iterator.rest.ok in
    let none = none_left c.loop-archive.archive-iterator.rest.items (omega (arith, len, ok)) in
    sym (append-nil c.loop-archive.linked.items) ∙ (rw none at c.loop-archive.invariant.so_far)
