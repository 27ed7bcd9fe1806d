use Rattle.std.proofs.Common.{◌≡◌, ℕ, ◌<◌, List, None, length, get_or, subst, sym, ap, ◌∙◌}
use Rattle.aof_object.specs.declared.records.Reloc.{Reloc}
use Rattle.link_model.specs.Members.{link_of}
use Rattle.link_model.specs.Veneers.{needed_by}
use Rattle.link_veneer.specs.Interworking.{refused_by}
use Rattle.link_veneer.proofs.NeededLemmas.{given_next, none_next, not_refused}
use Rattle.link_veneer.proofs.needing.has_other_state.Goals as goal

pub loop-reloc-preserved : goal.loop-reloc-preserved
loop-reloc-preserved c =
    let l = link_of c.args.linked.now in
    let name = c.args.name in
    let area = c.args.area.now in
    let i = c.loop-reloc.reloc-index in
    let none : Reloc = record { offset = 0; word = 0 } in
    let same = c.as_slice-reloc-items.ensures in
    let there : i < length area.relocs = subst (λ (xs : List Reloc). i < length xs) same c.loop-reloc-test.true in
    let nowhere : (region : ℕ) → needed_by l region name area (get_or area.relocs i none) ≡ None =
    λ region. ap (λ (xs : List Reloc). needed_by l region name area (get_or xs i none)) (sym same) ∙ c.leads_away.ensures c.if-leads_away.false region in
    record {
      needs = λ region. none_next (needed_by l region name area) area.relocs i none _ there (nowhere region) (c.loop-reloc.invariant.needs region);
      refusals = given_next (refused_by l name area) area.relocs i none _ there (not_refused l name area (get_or area.relocs i none) (nowhere 0)) c.loop-reloc.invariant.refusals;
    }
