use Rattle.std.proofs.Common.{◌≡◌, ◌+◌, ◌≤◌, ◌<◌, ◌^◌, length, subst, get_or, sym, ap, ◌∙◌}
use Rattle.std.proofs.lemmas.Option.{slice_get-get_or}
use Rattle.base_lemmas.proofs.BaseLemmas.{same}
use Rattle.sdt_word.specs.Bytes.{bytes_of, written}
use Rattle.aof_object.specs.declared.records.Reloc.{Reloc}
use Rattle.patch_model.specs.Fields.{Field, field_of, size_of}
use Rattle.link_apply.proofs.writing.put_field.Goals as goal

pub put_number-requires-clause-inside : goal.put_number-requires-clause-inside
put_number-requires-clause-inside c =
    let zero : Reloc = record { offset = 0; word = 0 } in
    subst (λ (f : Field). f.place + size_of f.kind ≤ length c.args.bytes.now) (sym c.field-field.ensures)
    (c.requires.inside c.args.i (get_or c.args.relocs.now c.args.i zero) (slice_get-get_or c.args.relocs.now c.args.i zero c.requires.there))

pub put_number-requires-clause-fits : goal.put_number-requires-clause-fits
put_number-requires-clause-fits c =
    let zero : Reloc = record { offset = 0; word = 0 } in
    subst (λ (f : Field). get_or c.args.numbers.now c.args.i 0 < 256 ^ size_of f.kind) (sym c.field-field.ensures)
    (c.requires.fitting c.args.i (get_or c.args.relocs.now c.args.i zero) (slice_get-get_or c.args.relocs.now c.args.i zero c.requires.there))

pub returns : goal.returns
returns c = λ r h.
    let zero : Reloc = record { offset = 0; word = 0 } in
    let it : get_or c.args.relocs.now c.args.i zero ≡ r = same _ _ (sym (slice_get-get_or c.args.relocs.now c.args.i zero c.requires.there) ∙ h) in
    let field : c.field-field.result ≡ field_of r = c.field-field.ensures ∙ ap field_of it in
    c.put_number.ensures ∙ ap (λ (f : Field). written c.args.bytes.now f.place (bytes_of (get_or c.args.numbers.now c.args.i 0) (size_of f.kind))) field
