-- The flaw of a relocation by the numbers that stand for it.
use Rattle.std.proofs.Common.{◌≡◌, ℕ, ◌+◌, Bool, false, List, refl, sym, ap, ◌∙◌}
use Rattle.std.specs.Prelude.{Some, ◌||◌, ◌&&◌}
use Rattle.std.specs.List.{list_any}
use Rattle.std.proofs.lemmas.Bool.{or_parts}
use Rattle.aof_object.specs.declared.records.Area.{Area}
use Rattle.aof_object.specs.declared.records.Reloc.{Reloc}
use Rattle.patch_model.specs.Fields.{Kind, Byte, Half, Word, Branch, Values, field_of, kind_of, directives, is_relative, added, taken, number_in}
use Rattle.patch_model.specs.Patched.{Way, way_of}
use Rattle.link_model.specs.declared.placing.Placement.{Placement}
use Rattle.link_model.specs.Veneers.{IsIn}
use Rattle.link_apply.specs.declared.flaws.Flaw.TheVariants.{Malformed}
use Rattle.link_apply.specs.declared.judging.Sums.{Sums}
use Rattle.link_apply.specs.declared.starts.FieldDirectives.{FieldDirectives}
use Rattle.link_apply.specs.Flaws.{overlaps, is_of_itself, is_based, is_outside, has_bad_field, is_only, unless, value_flaw, flaw_of}
use Rattle.link_apply.specs.Judged.{flaw_by, number_with, IsWay}
use Rattle.link_apply.specs.PatchedBytes.{number_by, patched_number}
use Rattle.link_apply.specs.Starts.{starts}
use Rattle.link_apply.specs.Sums.{Tells}
use Rattle.link_apply.proofs.OverlapLemmas.{kind_there, unmixed_there}
use Rattle.link_apply.proofs.SumLemmas.{alone_is}

valued : (p : Placement) (values : Values) (region base : ℕ) (a : Area) (r : Reloc) (way : Way) (k : Kind) (rs : List Reloc)
    → ((t : Bool) → k ≡ Branch t → way ≡ way_of base values a.bytes (field_of r) t rs)
    → flaw_by p region (base + (field_of r).place) (number_in a.bytes (field_of r)) (added values rs) (taken base rs) (is_only a.relocs r) way k
    ≡ value_flaw p values region base a r k rs
valued p values region base a r way Byte rs e = refl
valued p values region base a r way Half rs e = refl
valued p values region base a r way Word rs e = refl
valued p values region base a r way (Branch t) rs e =
    ap (λ w. flaw_by p region (base + (field_of r).place) (number_in a.bytes (field_of r)) (added values rs) (taken base rs) (is_only a.relocs r) w (Branch t)) (e t refl)

none_overlaps : (area : ℕ) (a : Area) (r : Reloc) → has_bad_field area a r ≡ false → list_any (λ q. overlaps (field_of q) (field_of r)) a.relocs ≡ false
none_overlaps area a r e =
    let overlapping : Bool = list_any (λ q. overlaps (field_of q) (field_of r)) a.relocs in
    let one = or_parts (is_outside a.bytes (field_of r)) (is_of_itself area r || (is_based r || overlapping)) e in
    let two = or_parts (is_of_itself area r) (is_based r || overlapping) one.1 in
    (or_parts (is_based r) overlapping two.1).1

pub judged : (p : Placement) (values : Values) (region base area : ℕ) (a : Area) (r : Reloc) (s : FieldDirectives) (sums : Sums) (way : Way) → IsIn a.relocs r
    → starts values a.relocs (field_of r).place ≡ Some s → has_bad_field area a r ≡ false
    → (s.is_mixed ≡ false → kind_of r ≡ s.kind → Tells values base a.relocs (field_of r) s sums) → IsWay values base area a r way
    → flaw_by p region (base + (field_of r).place) (number_in a.bytes (field_of r)) sums.added sums.subtracted (is_relative r && s.is_alone) way (kind_of r)
    ≡ flaw_of p values region base area a r
judged p values region base area a r s sums way own there sound tells goes =
    let unmixed = unmixed_there values a.relocs r s there (none_overlaps area a r sound) in
    let kind = kind_there values a.relocs r own.0 s own.1 there unmixed in
    let told = tells unmixed kind in
    let more = sym told.added in
    let less = sym told.subtracted in
    let alone = alone_is values a.relocs (field_of r) s there unmixed kind in
    (λ i. flaw_by p region (base + (field_of r).place) (number_in a.bytes (field_of r)) (more i) (less i) (is_relative r && alone i) way (kind_of r))
    ∙ valued p values region base a r way (kind_of r) (directives a.relocs (field_of r)) (λ t e. goes t e sound)
    ∙ ap (λ (b : Bool). unless Malformed b (value_flaw p values region base a r (kind_of r) (directives a.relocs (field_of r)))) (sym sound)

-- ---- what a field is to hold

renumbered : (p : Placement) (values : Values) (region base : ℕ) (a : Area) (r : Reloc) (way : Way) (k : Kind) (rs : List Reloc)
    → ((t : Bool) → k ≡ Branch t → way ≡ way_of base values a.bytes (field_of r) t rs)
    → number_with p region (base + (field_of r).place) (number_in a.bytes (field_of r)) (added values rs) (taken base rs) way k
    ≡ number_by p values region base a.bytes (field_of r) k rs
renumbered p values region base a r way Byte rs e = refl
renumbered p values region base a r way Half rs e = refl
renumbered p values region base a r way Word rs e = refl
renumbered p values region base a r way (Branch t) rs e =
    ap (λ w. number_with p region (base + (field_of r).place) (number_in a.bytes (field_of r)) (added values rs) (taken base rs) w (Branch t)) (e t refl)

pub numbered : (p : Placement) (values : Values) (region base area : ℕ) (a : Area) (r : Reloc) (s : FieldDirectives) (sums : Sums) (way : Way) → IsIn a.relocs r
    → starts values a.relocs (field_of r).place ≡ Some s → has_bad_field area a r ≡ false
    → (s.is_mixed ≡ false → kind_of r ≡ s.kind → Tells values base a.relocs (field_of r) s sums) → IsWay values base area a r way
    → number_with p region (base + (field_of r).place) (number_in a.bytes (field_of r)) sums.added sums.subtracted way (kind_of r)
    ≡ patched_number p values region base a (field_of r)
numbered p values region base area a r s sums way own there sound tells goes =
    let unmixed = unmixed_there values a.relocs r s there (none_overlaps area a r sound) in
    let told = tells unmixed (kind_there values a.relocs r own.0 s own.1 there unmixed) in
    let more = sym told.added in
    let less = sym told.subtracted in
    (λ i. number_with p region (base + (field_of r).place) (number_in a.bytes (field_of r)) (more i) (less i) way (kind_of r))
    ∙ renumbered p values region base a r way (kind_of r) (directives a.relocs (field_of r)) (λ t e. goes t e sound)

pub told_of : (values : Values) (base area : ℕ) (a : Area) (r : Reloc) (s : FieldDirectives) (sums : Sums) → IsIn a.relocs r → starts values a.relocs (field_of r).place ≡ Some s
    → has_bad_field area a r ≡ false → (s.is_mixed ≡ false → kind_of r ≡ s.kind → Tells values base a.relocs (field_of r) s sums)
    → Tells values base a.relocs (field_of r) s sums
told_of values base area a r s sums own there sound tells =
    let unmixed = unmixed_there values a.relocs r s there (none_overlaps area a r sound) in
    tells unmixed (kind_there values a.relocs r own.0 s own.1 there unmixed)
