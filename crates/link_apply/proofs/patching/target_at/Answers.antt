use Rattle.std.proofs.Common.{◌≡◌, ◌+◌, sym, ap, ◌∙◌}
use Rattle.patch_model.specs.Fields.{Field, field_of, number_in}
use Rattle.patch_model.specs.Patched.{total, pc_offset, biased_displacement, bias, way_to}
use Rattle.link_apply.specs.Targets.{values_by}
use Rattle.link_apply.proofs.JudgeLemmas.{told_of}
use Rattle.link_apply.proofs.patching.target_at.Goals as goal

pub returns : goal.returns
returns c = λ bases number own there t branch sound.
    let told = told_of (values_by bases c.args.symbols.now) c.args.base number c.args.area.now c.args.reloc c.args.start c.sums_of.result own there sound
    (λ unmixed same. c.sums_of.ensures.tells (values_by bases c.args.symbols.now) c.args.area.now.relocs (field_of c.args.reloc) there unmixed same) in
    let place = c.from.ensures ∙ ap (λ (f : Field). f.place) c.field-field.ensures in
    let word = c.number_of-word.ensures ∙ ap (λ bytes. number_in bytes (field_of c.args.reloc)) c.as_slice.ensures in
    let thumb : c.is_thumb-thumb.result ≡ t = c.is_thumb-thumb.ensures t (ap (λ (f : Field). f.kind) c.field-field.ensures ∙ branch) in
    let more = sym told.added in
    let less = sym told.subtracted in
    let symbol = sym told.symbol in
    c.target_by.ensures
    ∙ (λ i. way_to (thumb i) (total (c.args.base + place i + pc_offset (thumb i) + biased_displacement (thumb i) (word i)) 0 (bias (thumb i))) (more i) (less i)
    (values_by bases c.args.symbols.now) (symbol i))
