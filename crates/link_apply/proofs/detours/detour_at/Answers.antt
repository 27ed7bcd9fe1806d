use Rattle.std.proofs.Common.{ℕ, sym, ap, subst, ◌∙◌}
use Rattle.patch_model.specs.Fields.{Values, field_of}
use Rattle.link_values.specs.Bases.{base_of}
use Rattle.link_apply.specs.Judged.{IsWay}
use Rattle.link_apply.specs.Starts.{starts}
use Rattle.link_apply.specs.Targets.{way_by}
use Rattle.link_apply.proofs.SiteLemmas.{few_at}
use Rattle.link_apply.proofs.detours.detour_at.Goals as goal

pub target_at-target-requires-clause-relative : goal.target_at-target-requires-clause-relative
target_at-target-requires-clause-relative c =
    (few_at c.args.known.now c.requires.known c.args.site.now c.requires.site (field_of c.args.reloc).place c.args.start c.requires.there).relative

-- by the site's values, which are those of the placement
pub returns-clause-goes : goal.returns-clause-goes
returns-clause-goes c =
    let bases : ℕ → ℕ = base_of c.args.known.now.bases c.args.site.now.placed.area.object in
    let place : ℕ = (field_of c.args.reloc).place in
    let there = ap (λ (v : Values). starts v c.args.site.now.area.now.relocs place) c.requires.site.values ∙ sym (c.requires.site.starts place) ∙ c.requires.there in
    λ thumb kind good.
    ap way_by c.detour_to.ensures.target
    ∙ subst (λ (v : Values). IsWay v c.args.site.now.placed.address c.args.site.now.placed.area.area c.args.site.now.area.now c.args.reloc (way_by c.target_at-target.result))
    c.requires.site.values (c.target_at-target.ensures bases c.args.site.now.placed.area.area c.requires.own there) thumb kind good
