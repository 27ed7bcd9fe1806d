use Rattle.std.proofs.Common.{List, ◌++◌, refl, ap, ◌∙◌, arith}
use Rattle.alf_archive.specs.declared.records.Archive.{Archive}
use Rattle.alf_archive.specs.declared.records.Member.{Member}
use Rattle.link_model.specs.declared.selection.Named.{Named}
use Rattle.link_select.specs.declared.members.MemberPlace.{MemberPlace}
use Rattle.link_select.specs.Places.{places_in, places_from}
use Rattle.link_select.proofs.ListLemmas.{rest_all, rest_more}
use Rattle.link_select.proofs.members.places_of.Goals as goal

pub loop-i-preserved : goal.loop-i-preserved
loop-i-preserved c =
    rest_more {X = Named Archive} {Y = MemberPlace} places_from (λ i a. places_in i 0 a.value.members) (λ i a rest. refl) c.args.archives.now c.loop-i.i c.index-archives-i.result
    c.loop-i.places.items c.push_places.new.places.items (places_from 0 c.args.archives.now) c.loop-i-test.true c.index-archives-i.is
    (c.in_ok-push_places.ensures ∙ ap (λ (ms : List Member). c.loop-i.places.items ++ places_in c.loop-i.i 0 ms) c.as_slice.ensures) c.loop-i.invariant

pub returns : goal.returns
returns c =
    rest_all {X = Named Archive} {Y = MemberPlace} places_from (λ i. refl) c.args.archives.now c.loop-i.i c.loop-i.places.items (places_from 0 c.args.archives.now) (omega (arith, c.loop-i-test.false, c.loop-i.auto.i-end))
    c.loop-i.invariant
