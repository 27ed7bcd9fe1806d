use Rattle.std.proofs.Common.{◌≡◌, ◌+◌, false, sym, ap, ◌∙◌}
use Rattle.patch_model.specs.Fields.{Field, field_of, kind_of, number_in}
use Rattle.link_apply.specs.Flaws.{has_bad_field}
use Rattle.link_apply.specs.Judged.{flaw_by}
use Rattle.link_apply.specs.Targets.{way_by}
use Rattle.link_apply.proofs.JudgeLemmas.{judged}
use Rattle.link_apply.proofs.relocations.flaw_of_relocation.Goals as goal

pub returns : goal.returns
returns c = λ p region values known leads goes.
    let sound : has_bad_field c.args.number c.args.area.now c.args.reloc ≡ false = sym (c.is_bad_field.ensures values known) ∙ c.if-is_bad_field.false in
    let there = sym (known (field_of c.args.reloc).place) ∙ c.requires.there in
    let place = c.from.ensures ∙ ap (λ (f : Field). f.place) c.field-field.ensures in
    let word = c.number_of-word.ensures ∙ ap (λ bytes. number_in bytes (field_of c.args.reloc)) c.as_slice.ensures in
    let only = c.is_only_at-only.ensures in
    let kind : c.field-field.result.kind ≡ kind_of c.args.reloc = ap (λ (f : Field). f.kind) c.field-field.ensures in
    c.flaw_of_field.ensures p region leads
    ∙ (λ i. flaw_by p region (c.args.base + place i) (word i) c.sums_of-sums.result.added c.sums_of-sums.result.subtracted (only i) (way_by c.args.detour.target) (kind i))
    ∙ judged p values region c.args.base c.args.number c.args.area.now c.args.reloc c.args.start c.sums_of-sums.result (way_by c.args.detour.target) c.requires.own there sound
    (λ unmixed same. c.sums_of-sums.ensures.tells values c.args.area.now.relocs (field_of c.args.reloc) there unmixed same) goes
