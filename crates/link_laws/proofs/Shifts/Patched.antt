-- An area of a moved image has its bytes, each word shifted as often as it has shifts.
use Rattle.std.proofs.Common.{◌≡◌, ◌≢◌, ◌⊎◌, inl, inr, ℕ, ◌+◌, ◌-◌, ◌%◌, ◌^◌, ◌<◌, ◌≤◌, Bool, true, false, not, ◌==◌, if◌then◌else◌, List, length, refl, sym, ap, subst, ◌∙◌, arith, eqb-true, Option, Some, None}
use Rattle.std.specs.Prelude.{nat_lt, slice_get, is_some}
use Rattle.std.specs.List.{find, AllByRecursion}
use Rattle.std.specs.Option.{option_map}
use Rattle.std.proofs.lemmas.Bool.{and_parts, not-false, ltb-false, cases_lt}
use Rattle.aof_object.specs.declared.records.Area.{Area}
use Rattle.aof_object.specs.declared.records.Reloc.{Reloc}
use Rattle.patch_model.specs.Fields.{Kind, Byte, Half, Word, Branch, Field, Values, field_of, kind_of, is_field, is_same_kind, directives}
use Rattle.patch_model.specs.Patched.{Way, Directly, ByVeneer, way_of}
use Rattle.place_model.proofs.ListLemmas.{all_at, all_filter}
use Rattle.link_model.specs.declared.placing.Placement.{Placement}
use Rattle.link_apply.specs.Placed.{veneers_at}
use Rattle.link_apply.specs.Flaws.{overlaps, lacks_veneer}
use Rattle.link_apply.specs.PatchedBytes.{patched_number, patched_bytes}
use Rattle.link_values.specs.Shifts.{gains, losses, word_shifts, has_bad_shifts}
use Rattle.link_laws.specs.AifJoins.{shift_between, shifted_words}
use Rattle.link_laws.proofs.Shifts.Sums.{IsMovedIn}
use Rattle.link_laws.proofs.Shifts.Fields.{IsMovedImage, HasWay, way_moves, number_stays, word_number}
use Rattle.link_laws.proofs.Shifts.Areas.{IsFound, first_found, filter_none, equal_kind, equal_field, word_at, by_numbers, Stays, IsShifted, bytes_law}

-- ---- what may be moved

pub even_or_word : (kind : Kind) (offset more less : ℕ) → has_bad_shifts kind offset more less ≡ false → (more ≡ less) ⊎ ((kind ≡ Word) × (offset % 4 ≡ 0) × (less < more))
even_or_word Byte offset more less h = inl (eqb-true more less (not-false (more == less) h))
even_or_word Half offset more less h = inl (eqb-true more less (not-false (more == less) h))
even_or_word (Branch thumb) offset more less h = inl (eqb-true more less (not-false (more == less) h))
even_or_word Word offset more less h = go (offset % 4 == 0) refl h
  where
    go : (z : Bool) → (offset % 4 == 0) ≡ z → (if z then nat_lt more less else not (more == less)) ≡ false → (more ≡ less) ⊎ ((Word ≡ Word) × (offset % 4 ≡ 0) × (less < more))
    go false e h = inl (eqb-true more less (not-false (more == less) h))
    go true e h = by_order (cases_lt less more)
      where
        by_order : (less < more) ⊎ (more ≤ less) → (more ≡ less) ⊎ ((Word ≡ Word) × (offset % 4 ≡ 0) × (less < more))
        by_order (inl lt) = inr (refl, eqb-true (offset % 4) 0 e, lt)
        by_order (inr le) = let ge = ltb-false more less h in inl (omega (arith, le, ge))

module _ (moving : Reloc → Bool) (b c : ℕ) (p q r : Placement) (v w u : Values) (first : IsMovedImage b p q v w) (second : IsMovedImage c p r v u)
    (region base : ℕ) (a : Area) (low : b ≤ 2 ^ 32) (values : AllByRecursion (IsMovedIn moving b v w) a.relocs) (others : AllByRecursion (IsMovedIn moving c v u) a.relocs) where
  abbrev rs : Field → List Reloc
  rs f = directives a.relocs f

  -- a relocation that has no flaw in the first image, and may be moved
  pub record MayMove (x : Reloc) : Type 0 where
    pub apart : (k : ℕ) (y : Reloc) → slice_get a.relocs k ≡ Some y → overlaps (field_of y) (field_of x) ≡ false
    pub way : (thumb : Bool) → (field_of x).kind ≡ Branch thumb → lacks_veneer q region (way_of (base + b) w a.bytes (field_of x) thumb (rs (field_of x))) ≡ false
    pub offset : ℕ
    pub as_placed : offset % 4 ≡ (field_of x).place % 4
    pub fair : has_bad_shifts (field_of x).kind offset (gains moving (rs (field_of x))) (losses moving (rs (field_of x))) ≡ false

  abbrev one : Field → ℕ
  one f = patched_number q w region (base + b) a f

  abbrev two : Field → ℕ
  two f = patched_number r u region (base + c) a f

  abbrev shifts : ℕ → ℕ
  shifts place = word_shifts moving a.relocs place

  pub own_values : (f : Field) → AllByRecursion (IsMovedIn moving b v w) (rs f)
  own_values f = all_filter (IsMovedIn moving b v w) (is_field f) a.relocs values

  pub own_others : (f : Field) → AllByRecursion (IsMovedIn moving c v u) (rs f)
  own_others f = all_filter (IsMovedIn moving c v u) (is_field f) a.relocs others

  lacks_same : (way : Way) → lacks_veneer q region way ≡ lacks_veneer p region way
  lacks_same Directly = refl
  lacks_same (ByVeneer h state) = ap (λ (o : Option ℕ). not (is_some o)) (first.veneers region h state) ∙ go (veneers_at p region h state)
    where
      go : (o : Option ℕ) → not (is_some (option_map (λ y. y + b) o)) ≡ not (is_some o)
      go None = refl
      go (Some y) = refl

  -- a field where as much is lost as is gained
  module _ (x : Reloc) (m : MayMove x) (even : gains moving (rs (field_of x)) ≡ losses moving (rs (field_of x))) where
    abbrev f : Field
    f = field_of x

    has_here : (thumb : Bool) → f.kind ≡ Branch thumb → lacks_veneer p region (way_of base v a.bytes f thumb (rs f)) ≡ false
    has_here thumb e =
        sym (lacks_same (way_of base v a.bytes f thumb (rs f)))
        ∙ ap (lacks_veneer q region) (sym (way_moves moving b p q v w first region base a.bytes f (rs f) (own_values f) even thumb)) ∙ m.way thumb e

    pub first_way : (kind : Kind) → f.kind ≡ kind → HasWay moving b p q v w first region base a.bytes f (rs f) (own_values f) even kind
    first_way Byte e = tt
    first_way Half e = tt
    first_way Word e = tt
    first_way (Branch thumb) e = has_here thumb e

    pub second_way : (kind : Kind) → f.kind ≡ kind → HasWay moving c p r v u second region base a.bytes f (rs f) (own_others f) even kind
    second_way Byte e = tt
    second_way Half e = tt
    second_way Word e = tt
    second_way (Branch thumb) e = has_here thumb e

    same_number : two f ≡ one f
    same_number =
        number_stays moving c p r v u second region base a.bytes f (rs f) (own_others f) even f.kind (second_way f.kind refl)
        ∙ sym (number_stays moving b p q v w first region base a.bytes f (rs f) (own_values f) even f.kind (first_way f.kind refl))

  word_of : (x : Reloc) → (field_of x).kind ≡ Word → field_of x ≡ word_at (field_of x).place
  word_of x e = equal_field (field_of x) (word_at (field_of x).place) refl e

  more_than_0 : (x : Reloc) → (field_of x).kind ≡ Word → losses moving (rs (field_of x)) < gains moving (rs (field_of x)) → shifts (field_of x).place ≢ 0
  more_than_0 x e lt none =
      let f : Field = field_of x in
      let same : shifts f.place ≡ gains moving (rs f) - losses moving (rs f) = ap (λ (z : Field). gains moving (rs z) - losses moving (rs z)) (sym (word_of x e)) in
      omega (arith, none, same, lt)

  module _ (may : AllByRecursion MayMove a.relocs) where
    stays : (k : ℕ) (x : Reloc) → slice_get a.relocs k ≡ Some x → Stays a.relocs one two (shift_between b c) shifts x
    stays k x there = go (even_or_word (field_of x).kind m.offset (gains moving (rs (field_of x))) (losses moving (rs (field_of x))) m.fair)
      where
        m : MayMove x
        m = all_at MayMove a.relocs k x may there

        go : (gains moving (rs (field_of x)) ≡ losses moving (rs (field_of x)))
            ⊎ (((field_of x).kind ≡ Word) × (m.offset % 4 ≡ 0) × (losses moving (rs (field_of x)) < gains moving (rs (field_of x)))) → Stays a.relocs one two (shift_between b c) shifts x
        go (inl even) = inl (same_number x m even)
        go (inr (word, aligned, lt)) = inr (word, sym m.as_placed ∙ aligned, more_than_0 x word lt)

    each : (i : ℕ) → (shifts i ≡ 0) ⊎ IsShifted a.relocs one two (shift_between b c) shifts i
    each i = go (find (is_field (word_at i)) a.relocs) refl
      where
        go : (o : Option Reloc) → find (is_field (word_at i)) a.relocs ≡ o → (shifts i ≡ 0) ⊎ IsShifted a.relocs one two (shift_between b c) shifts i
        go None e = inl (ap (λ (xs : List Reloc). gains moving xs - losses moving xs) (filter_none (is_field (word_at i)) a.relocs e))
        go (Some x) e = by_counts (even_or_word (field_of x).kind m.offset (gains moving (rs (field_of x))) (losses moving (rs (field_of x))) m.fair)
          where
            f : IsFound (is_field (word_at i)) a.relocs x
            f = first_found (is_field (word_at i)) a.relocs x e

            m : MayMove x
            m = all_at MayMove a.relocs f.number x may f.there

            own : field_of x ≡ word_at i
            own =
                let parts = and_parts ((field_of x).place == i) (is_same_kind (kind_of x) Word) f.passes in
                equal_field (field_of x) (word_at i) (eqb-true (field_of x).place i parts.0) (equal_kind (kind_of x) Word parts.1)

            by_counts : (gains moving (rs (field_of x)) ≡ losses moving (rs (field_of x)))
                ⊎ (((field_of x).kind ≡ Word) × (m.offset % 4 ≡ 0) × (losses moving (rs (field_of x)) < gains moving (rs (field_of x)))) → (shifts i ≡ 0) ⊎ IsShifted a.relocs one two (shift_between b c) shifts i
            by_counts (inl even) =
                let same : gains moving (rs (word_at i)) ≡ losses moving (rs (word_at i)) = subst (λ (z : Field). gains moving (rs z) ≡ losses moving (rs z)) own even in
                inl (omega (arith, same))
            by_counts (inr (word, aligned, lt)) =
                let fewer : losses moving (rs (word_at i)) < gains moving (rs (word_at i)) = subst (λ (z : Field). losses moving (rs z) < gains moving (rs z)) own lt in
                inr (record {
                  reloc = x;
                  number = f.number;
                  there = f.there;
                  field = own;
                  some = λ none. absurd (omega (arith, none, fewer));
                  small = omega arith;
                  moved = word_number moving b c p q r v w u region base a.bytes (word_at i) (rs (word_at i)) (own_values (word_at i)) (own_others (word_at i)) (omega (arith, fewer)) low;
                })

    pub patched_shifts : length a.bytes % 4 ≡ 0 → patched_bytes r u region (base + c) a ≡ shifted_words (shift_between b c) shifts 0 (patched_bytes q w region (base + b) a)
    patched_shifts whole =
        by_numbers r u region (base + c) a 0 a.bytes
        ∙ bytes_law a.relocs one two (shift_between b c) shifts stays
        (λ k j x y at there. (all_at MayMove a.relocs k x may at).apart j y there) each 0 a.bytes refl whole
        ∙ ap (shifted_words (shift_between b c) shifts 0) (sym (by_numbers q w region (base + b) a 0 a.bytes))
