use Rattle.std.proofs.Common.{◌≡◌, ◌||◌, ◌∙◌, ap, arith}
use Rattle.patch_model.specs.Fields.{Field, field_of}
use Rattle.link_values.specs.Shifts.{names_moving, is_bad_branch, has_bad_shifts}
use Rattle.link_model.specs.Members.{link_of}
use Rattle.link_shifts.specs.Balances.{balance_in}
use Rattle.link_shifts.proofs.FieldLemmas.{stuck}
use Rattle.link_shifts.proofs.judging.is_stuck.Goals as goal

pub returns : goal.returns
returns c =
    let moving = names_moving (link_of c.args.image.now.linked.now) c.args.image.now.placement.now c.args.judged.now.object in
    let base = c.base_at-address.ensures ∙ c.requires.image.names.bases c.args.judged.now.object c.args.judged.now.number in
    let kind : c.field-field.result.kind ≡ (field_of c.args.reloc).kind = ap (λ (f : Field). f.kind) c.field-field.ensures in
    stuck moving c.args.judged.now.area.now.relocs c.args.reloc c.args.judged.now.balances.now c.saturating_sub-offset.result _ c.balance_at-balance.result c.names_moving-moving.result c.cannot_move.result
    c.requires.balances (c.balance_at-balance.ensures ∙ ap (balance_in c.args.judged.now.balances.now) c.spot_of.ensures) c.names_moving-moving.ensures
    (grind (arith, base, c.saturating_sub-offset.ensures, ap (λ (f : Field). f.place) c.field-field.ensures, c.image_base.ensures, c.from-place.ensures))
    (c.cannot_move.ensures ∙ (λ i. is_bad_branch (kind i) c.names_moving-moving.result
    || has_bad_shifts (kind i) c.saturating_sub-offset.result c.balance_at-balance.result.more c.balance_at-balance.result.less))
