-- Addresses that are taken modulo 2^32 in a scatter image are what they were, but for those at the end of memory, where
-- nothing stands that has bytes.
use Rattle.std.proofs.Common.{◌≡◌, ℕ, ◌+◌, ◌%◌, ◌^◌, ◌<◌, ◌≤◌, Bool, true, false, List, [], ◌∷◌, length, refl, sym, ap, subst, ◌∙◌, arith, Option, Some, None}
use Rattle.std.specs.Prelude.{◌&&◌, ◌==◌, count_by, if◌then◌else◌, slice_get, unwrap_or}
use Rattle.std.specs.List.{find}
use Rattle.std.specs.Option.{option_map}
use Rattle.std.proofs.lemmas.Bool.{eqb-true}
use Rattle.base_lemmas.proofs.BaseLemmas.{both_true}
use Rattle.sdt_word.specs.Numbers.{bit}
use Rattle.aof_object.specs.declared.records.Area.{Area}
use Rattle.aof_object.specs.declared.records.Object.{Object}
use Rattle.aof_object.specs.declared.records.Reloc.{Reloc}
use Rattle.aof_object.specs.Validity.{IsValid, Holds}
use Rattle.patch_model.specs.Fields.{Kind, Byte, Half, Word, Branch, Home, Meant, Values, field_of, kind_of, is_by_symbol, is_relative, number_named, directives, size_of, number_in}
use Rattle.patch_model.specs.Laws.{StandsAt}
use Rattle.patch_model.specs.Patched.{total, ByVeneer, Directly, other_state, biased_displacement, bias, pc_offset, way_home, way_of, Veneers, AreaPatched}
use Rattle.patch_model.specs.Reaches.{View, Shows}
use Rattle.place_model.proofs.ListLemmas.{all_at}
use Rattle.place_model.specs.Plans.{Plan, area_address, boot_address}
use Rattle.link_model.specs.declared.placing.PlacedArea.{PlacedArea}
use Rattle.link_model.specs.declared.placing.Placement.{Placement}
use Rattle.link_model.specs.RegionValues.{reduced_by}
use Rattle.link_model.specs.Values.{Bases}
use Rattle.link_model.specs.Veneers.{shares_field, is_alone, IsIn}
use Rattle.link_model.proofs.WayLemmas.{alone_way, sole_directive}
use Rattle.link_values.specs.Placed.{is_area, base_in, reduced_at, reduced_meant, reduced_values}
use Rattle.link_laws.specs.Placing.{bases_of}

-- ---- numbers

pub reduced_le : (boot : Option ℕ) (n : ℕ) → reduced_by boot n ≤ n
reduced_le None n = omega arith
reduced_le (Some b) n = omega arith

pub reduced_small : (boot : Option ℕ) (n : ℕ) → n < 2 ^ 32 → reduced_by boot n ≡ n
reduced_small None n low = refl
reduced_small (Some b) n low = omega (arith, low)

pub reduced_aligned : (boot : Option ℕ) (n : ℕ) → n % 4 ≡ 0 → reduced_by boot n % 4 ≡ 0
reduced_aligned None n e = e
reduced_aligned (Some b) n e = omega (arith, e)

pub reduced_same : (boot : Option ℕ) (n : ℕ) → reduced_by boot n % 2 ^ 32 ≡ n % 2 ^ 32
reduced_same None n = refl
reduced_same (Some b) n = omega arith

at_same : (boot : Option ℕ) (home : Option Home) (n : ℕ) → reduced_at boot home n % 2 ^ 32 ≡ n % 2 ^ 32
at_same boot None n = refl
at_same boot (Some home) n = reduced_same boot n

-- an address that is moved, and then taken modulo 2^32
pub reduced_moves : (boot other : Option ℕ) (n by offset : ℕ) → (reduced_by other (n + by) + offset) % 2 ^ 32 ≡ (reduced_by boot n + by + offset) % 2 ^ 32
reduced_moves boot other n by offset =
    let here = reduced_same boot n in
    let there = reduced_same other (n + by) in
    omega (arith, here, there)

-- ---- images that are no scatter images

pub plain_base : (p : Placement) (object area : ℕ) → p.boot ≡ None
    → base_in p object area ≡ unwrap_or (option_map (λ (a : PlacedArea). a.address) (find (is_area object area) p.areas)) 0
plain_base p object area none = ap (λ (b : Option ℕ). unwrap_or (option_map (λ (a : PlacedArea). reduced_by b a.address) (find (is_area object area) p.areas)) 0) none

plain_mapped : (o : Option ℕ) → option_map (reduced_by None) o ≡ o
plain_mapped None = refl
plain_mapped (Some n) = refl

pub plain_bases : (p : Plan) (object area : ℕ) → boot_address p ≡ None → bases_of p object area ≡ unwrap_or (area_address p object area) 0
plain_bases p object area none =
    ap (λ (b : Option ℕ). unwrap_or (option_map (reduced_by b) (area_address p object area)) 0) none ∙ ap (λ (o : Option ℕ). unwrap_or o 0) (plain_mapped (area_address p object area))

pub plain_meant : (boot : Option ℕ) (m : Meant) → boot ≡ None → m ≡ reduced_meant boot m
plain_meant boot m none = same ∙ ap (λ (b : Option ℕ). reduced_meant b m) (sym none)
  where
    number : (home : Option Home) → m.number ≡ reduced_at None home m.number
    number None = refl
    number (Some h) = refl

    same : m ≡ reduced_meant None m
    same = λ i. record { number = number m.home i; thumb = m.thumb; datum = m.datum; home = m.home }

-- ---- symbols

pub reduced_stands : (base_at : Bases) (boot : Option ℕ) (m : Meant) (home : Option Home) → StandsAt base_at m home → StandsAt base_at (reduced_meant boot m) home
reduced_stands base_at boot m None stands = tt
reduced_stands base_at boot m (Some h) stands = at_same boot m.home m.number ∙ stands

-- ---- areas

pub bytes_le : (o : Object) → IsValid o → (area : ℕ) (a : Area) → slice_get o.areas area ≡ Some a → length a.bytes ≤ a.size
bytes_le o valid area a at = go (bit a.attributes 12 == 1) (all_at (Holds (length o.areas) (length o.symbols)) o.areas area a valid.contents at).bytes
  where
    go : (b : Bool) → length a.bytes ≡ (if b then 0 else a.size) → length a.bytes ≤ a.size
    go true e = omega (arith, e)
    go false e = omega (arith, e)

no_size : (kind : Kind) → 0 < size_of kind
no_size Byte = omega arith
no_size Half = omega arith
no_size Word = omega arith
no_size (Branch thumb) = omega arith

-- what has no bytes is patched wherever it stands
empty_patched : (relocs : List Reloc) (base other : ℕ) (values : Values) (veneers : Veneers) (new : List ℕ) → AreaPatched relocs [] base values veneers new
    → AreaPatched relocs [] other values veneers new
empty_patched relocs base other values veneers new h = record {
  size = h.size;
  bytes = h.bytes;
  within = h.within;
  fields = λ k r at. let room = h.within k r at in let some = no_size (field_of r).kind in absurd (omega (arith, room, some));
  others = h.others;
}

pub patched_at : (a : Area) (address base : ℕ) (values : Values) (veneers : Veneers) (new : List ℕ) → (0 < length a.bytes → base ≡ address)
    → AreaPatched a.relocs a.bytes address values veneers new → AreaPatched a.relocs a.bytes base values veneers new
patched_at a address base values veneers new full h = go a.bytes refl
  where
    go : (bytes : List ℕ) → a.bytes ≡ bytes → AreaPatched a.relocs a.bytes base values veneers new
    go [] e =
        subst (λ (bs : List ℕ). AreaPatched a.relocs bs base values veneers new) (sym e)
        (empty_patched a.relocs address base values veneers new (subst (λ (bs : List ℕ). AreaPatched a.relocs bs address values veneers new) e h))
    go (b ∷ bs) e =
        let some : length a.bytes ≡ length (b ∷ bs) = ap length e in
        subst (λ (n : ℕ). AreaPatched a.relocs a.bytes n values veneers new) (sym (full (omega (arith, some)))) h

pub shows_at : (view : View) (address base : ℕ) (bytes : List ℕ) → (0 < length bytes → base ≡ address) → Shows view address bytes → Shows view base bytes
shows_at view address base [] full h = tt
shows_at view address base (b ∷ bs) full h = subst (λ (n : ℕ). Shows view n (b ∷ bs)) (sym (full (omega arith))) h

-- ---- ways

offset_same : (o n k base : ℕ) → k % 2 ^ 32 ≡ n % 2 ^ 32 → total o (n + 0 + 0) (base + 0 + n) ≡ total o (k + 0 + 0) (base + 0 + k)
offset_same o n k base e = omega (arith, e)

home_reduced : (boot : Option ℕ) (thumb : Bool) (reach base : ℕ) (m : Meant) (home : Option Home)
    → way_home thumb reach (m.number + 0 + 0) (base + 0) m home ≡ way_home thumb reach (reduced_at boot m.home m.number + 0 + 0) (base + 0) (reduced_meant boot m) home
home_reduced boot thumb reach base m None = refl
home_reduced boot thumb reach base m (Some h) =
    ap (λ (n : ℕ). if other_state thumb m.thumb then ByVeneer (record { object = h.object; area = h.area; offset = n }) m.thumb else Directly)
    (offset_same (h.offset + reach) m.number (reduced_at boot m.home m.number) base (at_same boot m.home m.number))

-- a branch with one relocation goes by the same way
pub way_reduced : (boot : Option ℕ) (base : ℕ) (values : Values) (a : Area) (thumb : Bool) (r : Reloc) → IsIn a.relocs r → kind_of r ≡ Branch thumb → is_alone a.relocs r ≡ true
    → way_of base values a.bytes (field_of r) thumb (directives a.relocs (field_of r))
    ≡ way_of base (reduced_values boot values) a.bytes (field_of r) thumb (directives a.relocs (field_of r))
way_reduced boot base values a thumb r there kind alone =
    let parts = both_true (is_relative r) (is_by_symbol r && count_by (shares_field (field_of r)) a.relocs == 1) alone in
    let count = both_true (is_by_symbol r) (count_by (shares_field (field_of r)) a.relocs == 1) parts.1 in
    let sole = sole_directive a.relocs r there (eqb-true (count_by (shares_field (field_of r)) a.relocs) 1 count.1) in
    let from : ℕ = (field_of r).place + pc_offset thumb + biased_displacement thumb (number_in a.bytes (field_of r)) in
    let m : Meant = values.symbol (number_named r) in
    ap (λ (rs : List Reloc). way_of base values a.bytes (field_of r) thumb rs) sole
    ∙ alone_way base values a.bytes thumb r kind parts.0 count.0
    ∙ home_reduced boot thumb (total (base + from) 0 (bias thumb)) base m m.home
    ∙ sym (alone_way base (reduced_values boot values) a.bytes thumb r kind parts.0 count.0)
    ∙ sym (ap (λ (rs : List Reloc). way_of base (reduced_values boot values) a.bytes (field_of r) thumb rs) sole)
