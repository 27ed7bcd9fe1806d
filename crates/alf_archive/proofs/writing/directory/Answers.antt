use Rattle.std.proofs.Common.{◌+◌, arith}
use Rattle.alf_archive.specs.Spelling.{member_entry}
use Rattle.alf_archive.proofs.SpellingLoops.{numbered_more}
use Rattle.alf_archive.proofs.writing.directory.Goals as goal

pub loop-i-preserved : goal.loop-i-preserved
loop-i-preserved c =
    numbered_more member_entry c.args.members.now _ c.loop-i.i (5 + c.loop-i.i) (5 + (c.loop-i.i + 1)) c.index-members-i.result c.loop-i.out.items c.push_member.new.out.items
    c.loop-i-test.true c.index-members-i.is (omega arith) c.in_ok-push_member.ensures c.loop-i.invariant
