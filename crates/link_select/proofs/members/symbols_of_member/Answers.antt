use Rattle.std.proofs.Common.{◌≡◌, List, length, Some, sym, ap, ◌∙◌, subst, get_or}
use Rattle.std.specs.Prelude.{IsSomeAnd, slice_get}
use Rattle.std.proofs.lemmas.Option.{slice_get-get_or}
use Rattle.aof_object.specs.declared.records.Object.{Object}
use Rattle.aof_object.specs.declared.records.Symbol.{Symbol}
use Rattle.link_model.specs.declared.selection.Named.{Named}
use Rattle.link_model.specs.Members.{members_of}
use Rattle.link_select.specs.declared.members.MemberPlace.{MemberPlace}
use Rattle.link_select.proofs.PlaceLemmas.{length_from}
use Rattle.link_select.proofs.SelectionLemmas.{member_here}
use Rattle.link_select.proofs.members.symbols_of_member.Goals as goal

pub returns : goal.returns
returns c =
    let none : MemberPlace = record { archive = 0; member = 0 } in
    let p = get_or c.args.places.now c.args.number none in
    let at : slice_get c.args.places.now c.args.number ≡ Some p = slice_get-get_or c.args.places.now c.args.number none c.requires.number in
    let here = member_here c.args.archives.now c.args.number p (ap (λ (l : List MemberPlace). slice_get l c.args.number) (sym c.requires.places) ∙ at)
    (length c.args.places.now) (ap (λ (l : List MemberPlace). length l) c.requires.places ∙ length_from 0 c.args.archives.now) c.requires.number in
    subst (λ (ss : List Symbol). IsSomeAnd (slice_get (members_of c.args.archives.now) c.args.number) (λ (m : Named Object). m.value.symbols ≡ ss)) (sym c.symbols_at.ensures) here
