-- Memory shows what stands in the areas of a placed object, and zeros between, so that its source's statements stand.
use Rattle.std.proofs.Common.{◌≡◌, ◌⊎◌, inl, inr, ℕ, ◌+◌, ◌^◌, ◌<◌, ◌≤◌, Bool, true, false, cond, List, [], ◌∷◌, length, Option, Some, sym, ap, subst, ◌∙◌, arith}
use Rattle.std.specs.Prelude.{slice_get, ◌==◌}
use Rattle.std.specs.Option.{IsSomeAnd}
use Rattle.std.proofs.lemmas.Bool.{cases_lt}
use Rattle.std.proofs.lemmas.List.{length-map}
use Rattle.sdt_word.specs.declared.ranges.Range32.{Range32}
use Rattle.sdt_word.specs.Numbers.{bit}
use Rattle.aof_object.specs.declared.records.Area.{Area}
use Rattle.aof_object.specs.declared.records.Object.{Object}
use Rattle.asm_model.specs.declared.statements.Statement.{Statement}
use Rattle.asm_model.specs.Forms.{same}
use Rattle.asm_model.specs.Before.{areas_behind, place_of}
use Rattle.asm_model.specs.Laid.{statements_of, laid}
use Rattle.asm_model.specs.LayoutKinds.{equals_in, settled, is_thumb_area}
use Rattle.asm_model.specs.Symbols.{symbols_of}
use Rattle.layout_laws.proofs.SoundLemmas.{statements_kept}
use Rattle.patch_model.specs.Fields.{Values}
use Rattle.patch_model.specs.Patched.{Veneers, AreaPatched}
use Rattle.patch_model.specs.Reaches.{View}
use Rattle.source_model.specs.Objects.{Piece, source_of, StandsIn, symbol_number, symbol_named, contents_of, is_kept, KeepsBytes, IsArea, IsObject}
use Rattle.source_laws.proofs.FaultlessLemmas.{layout_sound}
use Rattle.source_laws.proofs.ApartLemmas.{things_stand_apart, things_lie_in_areas}
use Rattle.source_laws.proofs.ListedLemmas.{OwnUnit}
use Rattle.source_laws.proofs.PoolLemmas.{PoolWord, unit_or_word}
use Rattle.source_laws.proofs.ZeroLemmas.{zero_areas_hold_nothing}
use Rattle.stand_model.specs.Placed.{IsPlaced, ShowsBy, ShowsArea, ShowsObject}
use Rattle.stand_model.specs.Shown.{IsShown}
use Rattle.stand_model.specs.Stands.{AllStand}
use Rattle.stand_laws.specs.Laws.{IsFaultless}
use Rattle.stand_laws.proofs.AreaLemmas.{found_at, area_there, no_size, Agree, lines_agree, AreaKind, area_kind}
use Rattle.stand_laws.proofs.DirectiveLemmas.{Facts, outside_fields}
use Rattle.object_laws.proofs.RelocLemmas.{things_below}
use Rattle.stand_laws.proofs.GoodLemmas.{good_thing}
use Rattle.stand_laws.proofs.ShownLemmas.{IsThere, thing_shown}
use Rattle.stand_laws.proofs.StandLemmas.{shown_line_stands}
use Rattle.stand_laws.proofs.ValueLemmas.{GapsShown}
use Rattle.stand_laws.proofs.ViewLemmas.{shows_byte}
use Rattle.asm_model.specs.Labels.{declared_names}

-- ---- what is known of a source's object

place_most : (n : List ℕ) (ms : List (List ℕ)) → place_of n ms ≤ length ms
place_most n [] = omega arith
place_most n (m ∷ ms) = by_test (same n m) (place_most n ms)
  where
    by_test : (b : Bool) → place_of n ms ≤ length ms → cond b 0 (place_of n ms + 1) ≤ length (m ∷ ms)
    by_test true h = omega arith
    by_test false h = omega arith

areas_are : (ss : List Statement) (o : Object) → IsObject ss o → length (areas_behind (statements_of (laid ss))) ≡ length o.areas
areas_are ss o obj = ap (λ z. length (areas_behind z)) (statements_kept (declared_names ss) ss) ∙ sym obj.count

facts_of : (ss : List Statement) (o : Object) → IsFaultless ss → IsObject ss o → length o.areas < 2 ^ 24 → length o.symbols < 2 ^ 24 → (area : ℕ)
    → Facts ss area
facts_of ss o faultless obj few_areas few_symbols area =
    let count = areas_are ss o obj in
    let few : length (areas_behind (statements_of (laid ss))) ≤ 2 ^ 24 = omega arith in
    record {
      good = good_thing ss (layout_sound ss faultless.laid_out) faultless.said area;
      below = things_below ss (2 ^ 24) few area;
      symbols = numbers;
      apart = things_stand_apart ss (layout_sound ss faultless.laid_out) area;
      inside = things_lie_in_areas ss (layout_sound ss faultless.laid_out) area;
    }
  where
    numbers : (name : List ℕ) → symbol_number (source_of ss) name < 2 ^ 24
    numbers name =
        let names = symbols_of (source_of ss).names (source_of ss).lines in
        let many = ap length obj.symbols
        ∙ length-map names (symbol_named (source_of ss)) in
        let most = place_most name names in
        omega arith

record AreaFound (ss : List Statement) (o : Object) (area : ℕ) : Type 0 where
  found : Area
  there : slice_get o.areas area ≡ Some found
  is : IsArea (source_of ss) area found
  kind : AreaKind (contents_of area (laid ss)) (bit found.attributes 12 == 1)

area_found : (ss : List Statement) (o : Object) → IsFaultless ss → IsObject ss o → (area : ℕ) → area < length o.areas → AreaFound ss o area
area_found ss o faultless obj area h =
    let f = found_at o.areas area h in
    let is = obj.areas area f.0 f.1 in
    let agree = lines_agree (settled (equals_in ss)) ss area (is_thumb_area area ss) (laid ss) (layout_sound ss faultless.laid_out) in
    record {
      found = f.0;
      there = f.1;
      is = is;
      kind = area_kind f.0.attributes (contents_of area (laid ss)) (subst (λ z. Agree z (contents_of area (laid ss))) is.attributes agree);
    }

-- an area that keeps its bytes
kept_there : (ss : List Statement) (o : Object) (area : ℕ) (f : AreaFound ss o area) (values : Values) (view : View) (veneers : Veneers)
    → is_kept (contents_of area (laid ss)) ≡ true → (bit f.found.attributes 12 == 1) ≡ false → ShowsArea view o area f.found values veneers
    → (out : List ℕ) × IsThere ss area f.found values view veneers out
kept_there ss o area f values view veneers kept unmarked shows =
    let by = subst (λ (b : Bool). ShowsBy b view o area f.found values veneers) unmarked shows in
    let patched = subst (λ (z : Option Area). IsSomeAnd z (λ (a : Area). AreaPatched a.relocs a.bytes (values.base area) values veneers by.0)) f.there by.1 in (
      by.0,
      record {
        relocs = f.is.relocs;
        holds = subst (λ (b : Bool). KeepsBytes (source_of ss) area b f.found.bytes) kept f.is.bytes;
        patched = patched;
        shows = by.2;
      },
    )

-- ---- the law

module _ (ss : List Statement) (o : Object) (faultless : IsFaultless ss) (obj : IsObject ss o) (few_areas : length o.areas < 2 ^ 24)
    (few_symbols : length o.symbols < 2 ^ 24)
    (own : ℕ) (values : Values) (area_at : ℕ → ℕ → ℕ) (view : View) (region : ℕ → Range32) (veneers : ℕ → Veneers)
    (placed : IsPlaced own o values area_at) (shown : ShowsObject view o values area_at region veneers) where
  thing_there : (area : ℕ) (p : Piece) → StandsIn (source_of ss) area p → IsShown (source_of ss) values view (region area) (values.base area) p
  thing_there area p x = by_kind f.kind
    where
      count : length (areas_behind (statements_of (laid ss))) ≤ length o.areas
      count = let e = areas_are ss o obj in omega arith

      there : OwnUnit ss area p ⊎ PoolWord ss area p → area < length o.areas
      there (inl u) = area_there ss (length o.areas) area u.after u.before u.owner count u.parts u.own
      there (inr w) = let u = w.loads in area_there ss (length o.areas) area u.after u.before u.loader count u.parts u.own

      f : AreaFound ss o area
      f = area_found ss o faultless obj area (there (unit_or_word ss area p x))

      by_kind : AreaKind (contents_of area (laid ss)) (bit f.found.attributes 12 == 1) → IsShown (source_of ss) values view (region area) (values.base area) p
      by_kind (inl e) = absurd (zero_areas_hold_nothing ss faultless.laid_out area p e.0 x)
      by_kind (inr e) =
          let t = kept_there ss o area f values view (veneers area) e.0 e.1 (shown.areas area f.found f.there) in
          thing_shown ss area f.found values view (veneers area) t.0 (facts_of ss o faultless obj few_areas few_symbols area) t.1 (region area) area_at
          (shown.veneers_stand area) placed.homes p x

  gaps_there : (area : ℕ) → GapsShown (source_of ss) area view (values.base area)
  gaps_there area i below gap = by_place (cases_lt area (length o.areas))
    where
      in_area : (f : AreaFound ss o area) → AreaKind (contents_of area (laid ss)) (bit f.found.attributes 12 == 1) → view (values.base area + i) ≡ Some 0
      in_area f (inl e) =
          let zeros = subst (λ (b : Bool). ShowsBy b view o area f.found values (veneers area)) e.1 (shown.areas area f.found f.there) in
          zeros i (subst (λ n. i < n) (sym f.is.size) below)
      in_area f (inr e) =
          let t = kept_there ss o area f values view (veneers area) e.0 e.1 (shown.areas area f.found f.there) in
          let out = outside_fields ss area f.found.relocs (facts_of ss o faultless obj few_areas few_symbols area) f.is.relocs i (λ q y r h. gap q y) in
          let size = t.1.patched.size ∙ t.1.holds.size in
          shows_byte view (values.base area) t.0 i t.1.shows (subst (λ n. i < n) (sym size) below)
          ∙ ap Some (t.1.patched.others i out ∙ t.1.holds.others i gap)

      by_place : (area < length o.areas) ⊎ (length o.areas ≤ area) → view (values.base area + i) ≡ Some 0
      by_place (inl h) = let f = area_found ss o faultless obj area h in in_area f f.kind
      by_place (inr h) =
          let e = areas_are ss o obj in
          let none = no_size ss area (omega arith) in absurd (omega arith)

  pub object_stands : AllStand (source_of ss) values view region
  object_stands = record {
    lines = λ l at area here.
        shown_line_stands ss o faultless obj own values area_at placed view (region area) area at.rest at.before l at.parts here
        (thing_there area) (gaps_there area);
    gaps = gaps_there;
  }
