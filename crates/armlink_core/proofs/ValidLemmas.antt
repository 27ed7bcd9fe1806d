-- What is linked of valid objects and libraries is valid, and its areas are aligned; and a description that is read is small.
use Rattle.std.proofs.Common.{◌≡◌, ℕ, suc, ◌%◌, ◌≤◌, Bool, true, false, if◌then◌else◌, List, [], ◌∷◌, ◌++◌, length, length-append, map, refl, sym, subst, arith, Option, Some, None}
use Rattle.std.specs.Prelude.{slice_get}
use Rattle.std.specs.List.{AllByRecursion, filter_map, flat_map}
use Rattle.std.specs.Option.{option_map}
use Rattle.std.proofs.lemmas.List.{length-map}
use Rattle.base_lemmas.proofs.BaseLemmas.{all_append, came_through, same}
use Rattle.chunk_file.specs.Reading.{EachStands}
use Rattle.aof_object.specs.declared.records.Area.{Area}
use Rattle.aof_object.specs.declared.records.Object.{Object}
use Rattle.aof_object.specs.Spelling.{area_names}
use Rattle.aof_object.specs.Validity.{IsValid, IsArea, head_of}
use Rattle.alf_archive.specs.declared.records.Archive.{Archive}
use Rattle.alf_archive.specs.declared.records.Member.{Member}
use Rattle.alf_archive.specs.Grammar as library
use Rattle.link_model.specs.declared.placing.AreaName.{AreaName}
use Rattle.link_model.specs.declared.placing.Veneer.{Veneer}
use Rattle.link_model.specs.declared.selection.Named.{Named}
use Rattle.link_model.specs.Chosen.{AreLinked, taken}
use Rattle.link_model.specs.Members.{named_member, members_in, members_of}
use Rattle.place_model.specs.declared.scatter.Kind.TheVariants as kind
use Rattle.place_model.specs.declared.scatter.Scatter.{Scatter}
use Rattle.place_model.specs.declared.scatter.ScatterLoad.{ScatterLoad}
use Rattle.place_model.specs.Items.{Item}
use Rattle.place_model.proofs.ListLemmas.{all_at, all_filter_map, all_indexed, all_map}
use Rattle.link_items.specs.LinkedItems.{item_of, item_in, item_at, contents_of}
use Rattle.link_place.specs.Parts.{AreAligned, IsAligned}
use Rattle.scatter_text.specs.Validity as description
use Rattle.scatter_text.specs.Validity.{IsValidLoad, names_of, region_names}
use Rattle.armlink_core.specs.Sizes.{IsSmall}

abbrev pub AreValid : List (Named Object) → Type 0
AreValid os = AllByRecursion (λ o. IsValid o.value) os

-- ---- what is linked

members_valid : (name : List ℕ) (ms : List Member) → AllByRecursion (λ m. IsValid m.object) ms → AreValid (map (named_member name) ms)
members_valid name [] all = tt
members_valid name (m ∷ ms) all = (all.0, members_valid name ms all.1)

libraries_valid : (archives : List (Named Archive)) → AllByRecursion (λ a. library.IsValid a.value) archives → AreValid (members_of archives)
libraries_valid [] all = tt
libraries_valid (a ∷ archives) all =
    let valid = all.0 in
    all_append (λ o. IsValid o.value) (members_in a) (members_of archives) (members_valid a.name a.value.members valid.objects) (libraries_valid archives all.1)

taken_all : {A : Type 0} (P : A → Type 0) (chosen : ℕ → Bool) (i : ℕ) (ms : List A) → AllByRecursion P ms → AllByRecursion P (taken chosen i ms)
taken_all P chosen i [] all = tt
taken_all {A} P chosen i (m ∷ ms) all = go (chosen i) (taken_all P chosen (suc i) ms all.1)
  where
    go : (b : Bool) → AllByRecursion P (taken chosen (suc i) ms) → AllByRecursion P (if b then m ∷ taken chosen (suc i) ms else taken chosen (suc i) ms)
    go true rest = (all.0, rest)
    go false rest = rest

pub linked_valid : (objects : List (Named Object)) (archives : List (Named Archive)) (os : List (Named Object)) → AreLinked objects archives os
    → AreValid objects → AllByRecursion (λ a. library.IsValid a.value) archives → AreValid os
linked_valid objects archives os are valid libraries =
    subst AreValid (sym are.in_order)
    (all_append (λ o. IsValid o.value) objects (taken are.chosen 0 (members_of archives)) valid (taken_all (λ o. IsValid o.value) are.chosen 0 (members_of archives) (libraries_valid archives libraries)))

-- ---- alignment

areas_aligned : (before areas : List Area) → EachStands (λ before a. IsArea (area_names before) (head_of a)) before areas → AllByRecursion (λ a. a.attributes % 256 ≤ 16) areas
areas_aligned before [] each = tt
areas_aligned before (a ∷ areas) each = let first = each.0 in (first.alignment_most, areas_aligned (before ++ a ∷ []) areas each.1)

item_aligned : (os : List (Named Object)) → AreValid os → (a : AreaName) (i : Item) → item_at os a ≡ Some i → IsAligned i
item_aligned os valid a i e =
    let (o, at, from) = came_through (item_in a) (slice_get os a.object) i e in
    let ok = all_at (λ o. IsValid o.value) os a.object o valid at in
    mapped o (slice_get o.value.areas a.area) refl from (areas_aligned [] o.value.areas ok.areas)
  where
    mapped : (o : Named Object) (found : Option Area) → slice_get o.value.areas a.area ≡ found → option_map (item_of a.object o.«module» a.area) found ≡ Some i
        → AllByRecursion (λ b. b.attributes % 256 ≤ 16) o.value.areas → IsAligned i
    mapped o None at f all = absurd (cc)
    mapped o (Some b) at f all =
        let is : item_of a.object o.«module» a.area b ≡ i = same (item_of a.object o.«module» a.area b) i f in
        subst IsAligned is (all_at (λ c. c.attributes % 256 ≤ 16) o.value.areas a.area b all at)

pub are_aligned : (os : List (Named Object)) (regions : List (List AreaName)) (vs : List Veneer) → AreValid os → AreAligned (contents_of os regions vs)
are_aligned os regions vs valid = record {
  areas = all_map (λ items. AllByRecursion IsAligned items) (filter_map (item_at os)) regions
      (all_indexed (λ names. AllByRecursion IsAligned (filter_map (item_at os) names)) regions
      (λ i names at. all_filter_map IsAligned (item_at os) names (item_aligned os valid)));
}

-- ---- descriptions

regions_named : (loads : List ScatterLoad) → length (flat_map (λ l. l.regions) loads) ≡ length (region_names loads)
regions_named [] = refl
regions_named (l ∷ loads) =
    omega (arith, length-append l.regions (flat_map (λ m. m.regions) loads), length-append (names_of l.regions) (region_names loads), length-map l.regions (λ r. r.name), regions_named loads)

loads_fewer : (loads : List ScatterLoad) → AllByRecursion IsValidLoad loads → length loads ≤ length (flat_map (λ l. l.regions) loads)
loads_fewer [] all = omega arith
loads_fewer (l ∷ loads) all =
    let first = all.0 in
    omega (arith, first.some, length-append l.regions (flat_map (λ m. m.regions) loads), loads_fewer loads all.1)

pub scatter_small : (s : Scatter) → description.IsValid s.loads → IsSmall (kind.Scatter s)
scatter_small s valid =
    let named = regions_named s.loads in let few = valid.few in
    record { regions = omega arith; loads = omega (arith, loads_fewer s.loads valid.each) }

pub plain_small : (base : ℕ) → IsSmall (kind.Plain base)
plain_small base = record { regions = omega arith; loads = omega arith }
