use Rattle.std.proofs.Common.{◌≡◌, ℕ, ◌%◌, sym, ap, ◌∙◌, nat_eq}
use Rattle.indexmap.specs.IndexMap.{get}
use Rattle.patch_model.specs.Fields.{Field, field_of, kind_of, size_of}
use Rattle.link_apply.specs.Starts.{is_crowded, starts}
use Rattle.link_apply.proofs.OverlapLemmas.{crowded_is, even_place}
use Rattle.link_apply.proofs.overlaps.is_overlapping.Goals as goal

pub is_crowded_at-requires-clause-whole : goal.is_crowded_at-requires-clause-whole
is_crowded_at-requires-clause-whole c = λ even.
    ap (λ (k : ℕ). k % 4) (c.from.ensures ∙ ap (λ (f : Field). f.place) c.field-field.ensures)
    ∙ even_place c.args.starts.now (field_of c.args.reloc).place c.args.start (c.requires.even even) c.requires.there

pub returns : goal.returns
returns c = λ values relocs there known.
    let size : c.from-size.result ≡ size_of (kind_of c.args.reloc) = c.from-size.ensures ∙ c.size.ensures ∙ ap (λ (f : Field). size_of f.kind) c.field-field.ensures in
    let start : (λ p. get nat_eq c.args.starts.now p) ≡ (λ p. starts values relocs p) = λ i p. known p i in
    c.is_crowded_at.ensures ∙ ap (λ p. is_crowded (λ p. get nat_eq c.args.starts.now p) p c.from-size.result c.args.start.is_mixed) (c.from.ensures ∙ ap (λ (f : Field). f.place) c.field-field.ensures)
    ∙ ap (λ n. is_crowded (λ p. get nat_eq c.args.starts.now p) (field_of c.args.reloc).place n c.args.start.is_mixed) size
    ∙ ap (λ f. is_crowded f (field_of c.args.reloc).place (size_of (kind_of c.args.reloc)) c.args.start.is_mixed) start
    ∙ crowded_is values relocs c.args.reloc there.0 c.args.start there.1 (sym (known (field_of c.args.reloc).place) ∙ c.requires.there)
