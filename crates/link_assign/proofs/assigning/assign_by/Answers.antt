use Rattle.std.proofs.Common.{◌≡◌, None, ap, subst, ◌∙◌, map, List}
use Rattle.place_model.specs.Assignment.{assignment_refusal}
use Rattle.link_assign.specs.declared.items.Item.{Item}
use Rattle.link_assign.specs.declared.offers.Offer.{Offer}
use Rattle.link_assign.specs.Keeping.{AreKept, report_name}
use Rattle.link_assign.specs.Assigning.{lists_kept}
use Rattle.link_assign.specs.Shown.{shown_item, shown_offer}
use Rattle.link_assign.proofs.KeepingLemmas.{assigned_ok}
use Rattle.link_assign.proofs.assigning.assign_by.Goals as goal

pub returns : goal.returns
returns c =
    let offers = c.args.offers.now.offers.items in
    let items = c.in_ok-items.items.items in
    let kept = c.in_ok-kept.kept.items in
    let n = c.args.offers.now.regions in
    let name = report_name c.args.objects.now in
    let none : assignment_refusal name (map shown_offer offers) (map shown_item items) ≡ None =
    subst (λ (l : List Offer). assignment_refusal name (map shown_offer l) (map shown_item items) ≡ None) c.as_slice.ensures.value
    (subst (λ (l : List Item). assignment_refusal name (map shown_offer c.as_slice.result.now) (map shown_item l) ≡ None) c.as_slice-2.ensures.value c.in_ok-kept.ensures.judged) in
    let all : AreKept (map shown_offer offers) (map shown_item items) kept =
    subst (λ (l : List Offer). AreKept (map shown_offer l) (map shown_item items) kept) c.as_slice.ensures.value
    (subst (λ (l : List Item). AreKept (map shown_offer c.as_slice.result.now) (map shown_item l) kept) c.as_slice-2.ensures.value c.in_ok-kept.ensures.kept) in
    assigned_ok (map shown_offer offers) n c.args.objects.now (map shown_item items) kept c.in_ok-lists_of_regions.field-0 c.in_ok-items.ensures none all
    (c.in_ok-lists_of_regions.ensures ∙ ap (λ ks. lists_kept ks 0 n) c.as_slice-3.ensures.value)
