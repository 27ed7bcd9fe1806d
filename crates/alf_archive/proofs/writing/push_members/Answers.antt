use Rattle.std.proofs.lemmas.Result.{err_from_is_err_and}
use Rattle.alf_archive.proofs.SpellingLoops.{chunks_more, members_fail}
use Rattle.alf_archive.proofs.writing.push_members.Goals as goal

pub returns-in_err-chunk : goal.returns-in_err-chunk
returns-in_err-chunk c =
    let p = err_from_is_err_and c.from_residual.result c.from_residual.ensures.1 in
    rw (p.1, p.2) (members_fail c.in_err-chunk.field-0.0 _ _ c.args.members.now c.loop-member.member-index c.member-item.result c.loop-member-test.true c.member-item.is c.in_err-chunk.ensures)

pub loop-member-preserved : goal.loop-member-preserved
loop-member-preserved c =
    chunks_more c.args.list.now.items c.loop-member.list.items c.push.new.self.items c.args.members.now c.loop-member.member-index c.member-item.result c.in_ok-chunk.chunk c.loop-member-test.true c.member-item.is
    c.in_ok-chunk.ensures c.loop-member.invariant c.in_ok-push.ensures.items
