use Rattle.std.proofs.Common.{List, length, ap, ◌∙◌}
use Rattle.link_select.specs.declared.members.MemberPlace.{MemberPlace}
use Rattle.link_model.specs.Members.{members_of}
use Rattle.link_select.proofs.PlaceLemmas.{length_from}
use Rattle.link_select.proofs.ExportLemmas.{index_back}
use Rattle.link_select.proofs.SelectionLemmas.{index_none}
use Rattle.link_select.proofs.exports.index_members.Goals as goal

pub loop-i-init : goal.loop-i-init
loop-i-init c =
    index_none c.args.index.now c.requires.none (members_of c.args.archives.now) (length c.args.places.now)
    (ap (λ (l : List MemberPlace). length l) c.requires.places ∙ length_from 0 c.args.archives.now)

pub loop-i-preserved : goal.loop-i-preserved
loop-i-preserved c =
    index_back c.loop-i.index c.put_exports.new.index (members_of c.args.archives.now) c.loop-i.i c.symbols_of_member.result.now c.loop-i-test.true c.symbols_of_member.ensures c.loop-i.invariant c.in_ok-put_exports.ensures
