use Rattle.std.proofs.Common.{◌≤◌, ◌^◌, sym, subst, ◌∙◌}
use Rattle.link_apply.proofs.SiteLemmas.{base_le}
use Rattle.link_apply.proofs.detours.address_at.Goals as goal

pub returns : goal.returns
returns c = record {
  value = c.base_at.ensures ∙ c.requires.bases c.args.object c.args.area;
  bound =
      subst (λ n. n ≤ 2 ^ 32) (sym c.base_at.ensures)
      (base_le c.args.known.now.placement.now c.args.known.now.bases c.requires.within c.requires.bases c.args.object c.args.area);
}
