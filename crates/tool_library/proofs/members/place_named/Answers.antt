use Rattle.tool_library.proofs.MemberLemmas.{placed}
use Rattle.tool_library.proofs.members.place_named.Goals as goal

pub returns-then-eq : goal.returns-then-eq
returns-then-eq c =
    (c.members-test.true, λ m e. placed c.args.members.now c.members.place c.args.name.now c.index-members-place.result m c.members-test.true c.index-members-place.is e (cc) c.members.invariant)
