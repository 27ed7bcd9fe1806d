use Rattle.std.proofs.Common.{map, arith, sym, ◌∙◌, refl, append-nil}
use Rattle.link_model.specs.Members.{named_member}
use Rattle.link_select.proofs.SelectionLemmas.{taken_next, none_left}
use Rattle.link_select.proofs.linking.push_chosen.Goals as goal

pub loop-member-init : goal.loop-member-init
loop-member-init c =
    let all = c.into_iter-member-iterator.ensures.into_iter_gives.0 in
    record { count = rw all refl; so_far = rw all refl }

pub bounds-marks-number : goal.bounds-marks-number
bounds-marks-number c =
    let rest = c.in-Some.ensures.steps.0 in
    let count = rw rest at c.loop-member.invariant.count in
    let room = c.requires in
    omega (arith, count, room)

pub loop-member-preserved : goal.loop-member-preserved
loop-member-preserved c =
    let rest = c.in-Some.ensures.steps.0 in
    let count = rw rest at c.loop-member.invariant.count in
    let known = rw rest at c.loop-member.invariant.so_far in
    record {
      count = omega (arith, count);
      so_far = taken_next c.args.marks.now c.loop-member.number (named_member c.args.library.now c.in-Some.member) (map (named_member c.args.library.now) c.next.new.self.rest.items)
          c.loop-member.linked.items c.push_marked.new.linked.items _ c.in_ok-push_marked.ensures known;
    }

pub returns : goal.returns
returns c =
    let len = c.in-None.ensures.steps.0 in
    let ok = c.loop-member.member-iterator.rest.ok in
    let none = none_left c.loop-member.member-iterator.rest.items (omega (arith, len, ok)) in
    let count = rw none at c.loop-member.invariant.count in
    let known = rw none at c.loop-member.invariant.so_far in
    record { next = omega (arith, count); chosen = sym (append-nil c.loop-member.linked.items) ∙ known }
