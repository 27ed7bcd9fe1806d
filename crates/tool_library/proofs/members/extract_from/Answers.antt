use Rattle.std.proofs.Common.{get_or}
use Rattle.tool_library.proofs.SizeLemmas.{object_short}
use Rattle.tool_library.proofs.MemberLemmas.{taken}
use Rattle.tool_library.proofs.members.extract_from.Goals as goal

pub returns-in-Some-clause-value : goal.returns-in-Some-clause-value
returns-in-Some-clause-value c =
    let there = rw c.as_slice.ensures at (c.in-Some.ensures.1 c.index-members-place.result c.index-members-place.is) in
    let gives = rw (← c.index-members-place.is) at c.write_object.ensures in
    taken c.args.member.now c.args.members.now c.index-members-place.result c.write_object.result there gives

pub returns-in-Some-clause-short : goal.returns-in-Some-clause-short
returns-in-Some-clause-short c = object_short c.size_law.ensures (get_or c.args.members.now c.in-Some.place c.index-members-place.result).object c.write_object.result c.write_object.ensures
