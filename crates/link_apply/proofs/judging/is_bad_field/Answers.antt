use Rattle.std.proofs.Common.{◌≡◌, Bool, false, refl, sym, ap, ◌∙◌}
use Rattle.std.specs.Prelude.{◌||◌}
use Rattle.patch_model.specs.Fields.{field_of}
use Rattle.link_apply.specs.Flaws.{is_based, is_of_itself, is_outside}
use Rattle.link_apply.proofs.judging.is_bad_field.Goals as goal

last : (a b c d : Bool) → a ≡ false → b ≡ false → c ≡ false → d ≡ (a || (b || (c || d)))
last a b c d ea eb ec = rw (ea, eb, ec) refl

pub returns : goal.returns
returns c = λ values known.
    let outside : is_outside c.args.area.now.bytes (field_of c.args.reloc) ≡ false =
    ap (λ bytes. is_outside bytes (field_of c.args.reloc)) (sym c.as_slice.ensures) ∙ sym c.is_outside_of.ensures ∙ c.if-is_outside_of.false in
    let own : is_of_itself c.args.number c.args.reloc ≡ false = sym c.is_by_own_area.ensures ∙ c.if-is_by_own_area.false in
    let based : is_based c.args.reloc ≡ false = sym c.is_based_alone.ensures ∙ c.if-is_based_alone.false in
    c.is_overlapping.ensures values c.args.area.now.relocs c.requires.own known ∙ last _ _ _ _ outside own based
