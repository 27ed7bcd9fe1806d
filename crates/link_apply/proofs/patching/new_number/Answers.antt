use Rattle.std.proofs.Common.{◌≡◌, ◌+◌, ◌^◌, ◌<◌, ap, subst, ◌∙◌}
use Rattle.patch_model.specs.Fields.{Field, field_of, kind_of, number_in, size_of}
use Rattle.link_apply.specs.Judged.{number_with}
use Rattle.link_apply.specs.Targets.{way_by}
use Rattle.link_apply.proofs.JudgeLemmas.{numbered}
use Rattle.link_apply.proofs.patching.new_number.Goals as goal

pub returns : goal.returns
returns c =
    let kind : c.field-field.result.kind ≡ kind_of c.args.reloc = ap (λ (f : Field). f.kind) c.field-field.ensures in
    record {
      value = λ p region values number own there sound leads goes.
          let place = c.from.ensures ∙ ap (λ (f : Field). f.place) c.field-field.ensures in
          let word = c.number_of-word.ensures ∙ ap (λ bytes. number_in bytes (field_of c.args.reloc)) c.as_slice.ensures in
          c.number_by.ensures.value p region leads
          ∙ (λ i. number_with p region (c.args.base + place i) (word i) c.sums_of.result.added c.sums_of.result.subtracted (way_by c.args.detour.target) (kind i))
          ∙ numbered p values region c.args.base number c.args.area.now c.args.reloc c.args.start c.sums_of.result (way_by c.args.detour.target) own there sound
          (λ unmixed same. c.sums_of.ensures.tells values c.args.area.now.relocs (field_of c.args.reloc) there unmixed same) goes;
      bound = subst (λ k. c.number_by.result < 256 ^ size_of k) kind c.number_by.ensures.bound;
    }
