use Rattle.std.proofs.Common.{◌∙◌, sym, ap, List}
use Rattle.aof_object.specs.Names.{among}
use Rattle.alf_archive.specs.declared.records.Member.{Member}
use Rattle.alf_archive.specs.Archives.{member_names}
use Rattle.alf_archive.proofs.MemberLoop.{names_more}
use Rattle.alf_archive.proofs.reading.add_entry.Goals as goal

pub returns-clause-known : goal.returns-clause-known
returns-clause-known c = λ q.
    names_more c.args.taken.now c.read_member.new.taken c.args.members.now.items c.in_ok-member.member 0 c.requires.known c.in_ok-member.ensures.noted q
    ∙ sym (ap (λ (ms : List Member). among q (member_names ms)) c.in_ok-push.ensures.items)
