use Rattle.std.proofs.Common.{[], ◌∷◌, ◌++◌, refl}
use Rattle.alf_archive.specs.declared.records.Member.{Member}
use Rattle.link_select.specs.declared.members.MemberPlace.{MemberPlace}
use Rattle.link_select.specs.Places.{places_in}
use Rattle.link_select.proofs.ListLemmas.{rest_more, some_item}
use Rattle.link_select.proofs.members.push_places.Goals as goal

pub loop-member-preserved : goal.loop-member-preserved
loop-member-preserved c =
    let s = some_item c.args.members.now c.loop-member.member c.loop-member-test.true in
    rest_more {X = Member} {Y = MemberPlace} (places_in c.args.archive) (λ k m. record { archive = c.args.archive; member = k } ∷ []) (λ k m ms. refl) c.args.members.now c.loop-member.member s.0
    c.loop-member.places.items c.push.new.self.items (c.args.places.now.items ++ places_in c.args.archive 0 c.args.members.now) c.loop-member-test.true s.1 c.in_ok-push.ensures.items c.loop-member.invariant
