-- The region symbols that an image has: where its objects are placed by a plan, each has a number.
use Rattle.std.proofs.Common.{◌≡◌, ◌⊎◌, inl, inr, ℕ, zero, suc, ◌+◌, Bool, true, false, cond, ◌||◌, List, [], ◌∷◌, ◌++◌, length, map, refl, sym, ap, ◌∙◌, Option, Some, None}
use Rattle.std.specs.Prelude.{is_some, slice_get}
use Rattle.std.specs.List.{filter, find, flat_map}
use Rattle.std.specs.Option.{option_and_then, option_map, option_or}
use Rattle.std.specs.Str.{bytes_eq}
use Rattle.std.proofs.lemmas.List.{map-append}
use Rattle.std.proofs.lemmas.Option.{slice_get-map}
use Rattle.std.proofs.lemmas.Slice.Eq.{bytes_eq-Decides}
use Rattle.sdt_word.specs.declared.ranges.Range32.{Range32}
use Rattle.aof_object.specs.declared.records.Area.{Area}
use Rattle.aof_object.specs.declared.records.Object.{Object}
use Rattle.aof_object.specs.Names.{among}
use Rattle.aof_object.specs.Spelling.{area_names}
use Rattle.place_model.specs.declared.scatter.Kind.{Kind}
use Rattle.place_model.specs.declared.scatter.Kind.TheVariants as kind
use Rattle.place_model.specs.declared.scatter.Scatter.{Scatter}
use Rattle.place_model.specs.declared.scatter.ScatterLoad.{ScatterLoad}
use Rattle.place_model.specs.declared.scatter.ScatterRegion.{ScatterRegion}
use Rattle.place_model.specs.Assignment.{described_regions, description}
use Rattle.place_model.specs.Plans.{Contents, Plan, Planned, boot_address, end_of, length_of, loads_from, plan_of, planned, planned_from, regions_of, startup_in, table_words}
use Rattle.link_model.specs.declared.placing.AreaName.{AreaName}
use Rattle.link_model.specs.declared.placing.PlacedArea.{PlacedArea}
use Rattle.link_model.specs.declared.placing.Placement.{Placement}
use Rattle.link_model.specs.declared.placing.Region.{Region}
use Rattle.link_model.specs.declared.placing.Veneer.{Veneer}
use Rattle.link_model.specs.declared.selection.Linked.{Linked}
use Rattle.link_model.specs.declared.selection.Named.{Named}
use Rattle.link_model.specs.Members.{objects_in}
use Rattle.link_model.specs.RegionNames.{area_base, area_limit, names_a_region, names_an_area, names_of_areas, names_of_plain, names_of_scatter, scatter_names}
use Rattle.link_model.specs.RegionNames as names
use Rattle.link_model.specs.RegionValues.{area_of, areas_named, end_of as area_end, greatest, greatest_end, has_name, least, least_start, number_of_area, number_of_region, numbers_by as region_numbers, plain_numbers, reduced_by, scatter_numbers}
use Rattle.link_model.specs.Veneers.{IsIn}
use Rattle.link_place.specs.Placed.{placed_region, placed_regions, placement_of}
use Rattle.link_values.specs.Placed.{is_area}
use Rattle.link_laws.specs.Placing.{IsPlacedLink, link_plan}
use Rattle.link_laws.specs.Plans.{numbers_by}
use Rattle.link_laws.proofs.Made.AddressLemmas.{area_found, placed_as}
use Rattle.link_laws.proofs.Made.Bytes.{no_boot}
use Rattle.link_laws.proofs.PlacedLemmas.{found}

-- ---- options and lists

some_mapped : {X Y : Type 0} (f : X → Y) (o : Option X) → is_some o ≡ true → is_some (option_map f o) ≡ true
some_mapped f None h = absurd cc
some_mapped f (Some x) h = refl

some_first : {X : Type 0} (o p : Option X) → is_some o ≡ true → is_some (option_or o p) ≡ true
some_first None p h = absurd cc
some_first (Some x) p h = refl

some_second : {X : Type 0} (o p : Option X) → is_some p ≡ true → is_some (option_or o p) ≡ true
some_second None p h = h
some_second (Some x) p h = refl

in_either : {X : Type 0} (xs ys : List X) (y : X) → IsIn (xs ++ ys) y → IsIn xs y ⊎ IsIn ys y
in_either [] ys y h = inr h
in_either (x ∷ xs) ys y (zero, e) = inl (zero, e)
in_either {X} (x ∷ xs) ys y (suc i, e) = go (in_either xs ys y (i, e))
  where
    go : IsIn xs y ⊎ IsIn ys y → IsIn (x ∷ xs) y ⊎ IsIn ys y
    go (inl h) = inl (suc h.0, h.1)
    go (inr h) = inr h

found_in : {X : Type 0} (test : X → Bool) (xs : List X) (x : X) → find test xs ≡ Some x → IsIn xs x
found_in test [] x h = absurd cc
found_in {X} test (y ∷ ys) x h = go (test y) h (found_in test ys x)
  where
    go : (b : Bool) → cond b (Some y) (find test ys) ≡ Some x → (find test ys ≡ Some x → IsIn ys x) → IsIn (y ∷ ys) x
    go true e rest = (0, e)
    go false e rest = let r = rest e in (suc r.0, r.1)

-- ---- the symbols of regions

abbrev key_of : List ℕ × ℕ → List ℕ
key_of e = e.0

key_found : (q : List ℕ) (es : List (List ℕ × ℕ)) → among q (map key_of es) ≡ true → is_some (find (λ e. bytes_eq e.0 q) es) ≡ true
key_found q [] h = absurd cc
key_found q (e ∷ es) h = go (bytes_eq e.0 q) h (key_found q es)
  where
    go : (b : Bool) → (b || among q (map key_of es)) ≡ true → (among q (map key_of es) ≡ true → is_some (find (λ e. bytes_eq e.0 q) es) ≡ true)
        → is_some (cond b (Some e) (find (λ e. bytes_eq e.0 q) es)) ≡ true
    go true some rest = refl
    go false some rest = rest some

abbrev name_in : Region → List ℕ
name_in r = r.name

abbrev name_described : ScatterRegion → List ℕ
name_described r = r.name

scatter_keys : (rs : List Region) → map key_of (flat_map scatter_numbers rs) ≡ flat_map scatter_names (map name_in rs)
scatter_keys [] = refl
scatter_keys (r ∷ rs) = ap (λ (ks : List (List ℕ)). scatter_names r.name ++ ks) (scatter_keys rs)

plain_keys : (rs : List Region) → map key_of (flat_map plain_numbers rs) ≡ flat_map names.plain_names (map name_in rs)
plain_keys [] = refl
plain_keys (r ∷ rs) = ap (λ (ks : List (List ℕ)). names.plain_names r.name ++ ks) (plain_keys rs)

-- a plan's regions have the names of the description
region_names : (n : ℕ) (k : Kind) (c : Contents) (words region : ℕ) (rs : List ScatterRegion) (before load : ℕ)
    → map name_in (map (placed_region n) (planned_from k c words region rs before load)) ≡ map name_described rs
region_names n k c words region [] before load = refl
region_names n k c words region (r ∷ rs) before load =
    let p : Planned = planned k c words region r before load in
    ap (λ (ns : List (List ℕ)). r.name ∷ ns) (region_names n k c words (suc region) rs (end_of p) (load + length_of p))

load_names : (n : ℕ) (k : Kind) (c : Contents) (words region : ℕ) (loads : List ScatterLoad)
    → map name_in (placed_regions n (loads_from k c words region loads)) ≡ map name_described (flat_map (λ l. l.regions) loads)
load_names n k c words region [] = refl
load_names n k c words region (l ∷ loads) =
    let later : List Region = placed_regions (suc n) (loads_from k c words (region + length l.regions) loads) in
    map-append name_in (map (placed_region n) (planned_from k c words region l.regions l.base l.base)) later
    ∙ ap (λ (ns : List (List ℕ)). ns ++ map name_in later) (region_names n k c words region l.regions l.base l.base)
    ∙ ap (λ (ns : List (List ℕ)). map name_described l.regions ++ ns) (load_names (suc n) k c words (region + length l.regions) loads)
    ∙ sym (map-append name_described l.regions (flat_map (λ l. l.regions) loads))

plan_names : (k : Kind) (c : Contents) → map name_in (placement_of (plan_of k c)).regions ≡ map name_described (described_regions k)
plan_names k c = load_names 0 k c (table_words k c) 0 (description k)

region_found : (q : List ℕ) (p : Placement) → among q (map key_of (region_numbers p.boot p.regions)) ≡ true → is_some (number_of_region p q) ≡ true
region_found q p h =
    some_mapped (λ (e : List ℕ × ℕ). e.1) (find (λ e. bytes_eq e.0 q) (region_numbers p.boot p.regions)) (key_found q (region_numbers p.boot p.regions) h)

pub scatter_numbered : (s : Scatter) (c : Contents) (boot : ℕ) → boot_address (plan_of (kind.Scatter s) c) ≡ Some boot → (q : List ℕ)
    → among q (names_of_scatter (map name_described (described_regions (kind.Scatter s)))) ≡ true → is_some (number_of_region (placement_of (plan_of (kind.Scatter s) c)) q) ≡ true
scatter_numbered s c boot there q h =
    let p : Placement = placement_of (plan_of (kind.Scatter s) c) in
    let keys : map key_of (region_numbers p.boot p.regions) ≡ names_of_scatter (map name_described (described_regions (kind.Scatter s))) =
    ap (λ (b : Option ℕ). map key_of (region_numbers b p.regions)) there ∙ ap (λ (ks : List (List ℕ)). names.boot_start ∷ ks) (scatter_keys p.regions)
    ∙ ap names_of_scatter (plan_names (kind.Scatter s) c) in
    region_found q p (ap (among q) keys ∙ h)

pub plain_numbered : (k : Kind) (c : Contents) → ((n words : ℕ) → startup_in k n words ≡ [])
    → flat_map names.plain_names (map name_described (described_regions k)) ≡ names_of_plain → (q : List ℕ)
    → among q names_of_plain ≡ true → is_some (number_of_region (placement_of (plan_of k c)) q) ≡ true
plain_numbered k c none plain q h =
    let p : Placement = placement_of (plan_of k c) in
    let keys : map key_of (region_numbers p.boot p.regions) ≡ names_of_plain =
    ap (λ (b : Option ℕ). map key_of (region_numbers b p.regions)) (no_boot k c (table_words k c) (λ n. none n (table_words k c))) ∙ plain_keys p.regions
    ∙ ap (flat_map names.plain_names) (plan_names k c) ∙ plain in
    region_found q p (ap (among q) keys ∙ h)

-- ---- the symbols of areas

-- an area of a linked object has the name
record IsAreaNamed (os : List (Named Object)) (n : List ℕ) : Type 0 where
  own : ℕ
  area : ℕ
  object : Named Object
  is : Area
  here : slice_get os own ≡ Some object
  there : slice_get object.value.areas area ≡ Some is
  named : is.name ≡ n

name_there : (areas : List Area) (i : ℕ) (n : List ℕ) → slice_get (area_names areas) i ≡ Some n → (a : Area) × (slice_get areas i ≡ Some a) × (a.name ≡ n)
name_there areas i n h = go (slice_get areas i) refl (sym (slice_get-map (λ (a : Area). a.name) areas i) ∙ h)
  where
    go : (o : Option Area) → slice_get areas i ≡ o → option_map (λ (a : Area). a.name) o ≡ Some n → (a : Area) × (slice_get areas i ≡ Some a) × (a.name ≡ n)
    go None e g = absurd cc
    go (Some a) e g = (a, e, cc)

area_named : (os : List (Named Object)) (n : List ℕ) → IsIn (names_of_areas (objects_in os)) n → IsAreaNamed os n
area_named [] n h = absurd cc
area_named (o ∷ os) n h = go (in_either (area_names o.value.areas) (names_of_areas (objects_in os)) n h) (area_named os n)
  where
    go : IsIn (area_names o.value.areas) n ⊎ IsIn (names_of_areas (objects_in os)) n → (IsIn (names_of_areas (objects_in os)) n → IsAreaNamed os n) → IsAreaNamed (o ∷ os) n
    go (inl first) later =
        let (a, there, named) = name_there o.value.areas first.0 n first.1 in
        record { own = 0; area = first.0; object = o; is = a; here = refl; there = there; named = named }
    go (inr behind) later =
        let r = later behind in
        record { own = suc r.own; area = r.area; object = r.object; is = r.is; here = r.here; there = r.there; named = r.named }

-- a name among those that a function makes of others
made_among : (f : List ℕ → List ℕ) (q : List ℕ) (ns : List (List ℕ)) → among q (map f ns) ≡ true → (n : List ℕ) × (find (λ a. bytes_eq (f a) q) ns ≡ Some n)
made_among f q [] h = absurd cc
made_among f q (n ∷ ns) h = go (bytes_eq (f n) q) h (made_among f q ns)
  where
    go : (b : Bool) → (b || among q (map f ns)) ≡ true → (among q (map f ns) ≡ true → (m : List ℕ) × (find (λ a. bytes_eq (f a) q) ns ≡ Some m))
        → (m : List ℕ) × (cond b (Some n) (find (λ a. bytes_eq (f a) q) ns) ≡ Some m)
    go true some rest = (n, refl)
    go false some rest = rest some

-- some areas have a least number and a greatest
abbrev HaveBoth : (PlacedArea → ℕ) → List PlacedArea → Type 0
HaveBoth f ps = (is_some (least (map f ps)) ≡ true) × (is_some (greatest (map f ps)) ≡ true)

some_least : (f : PlacedArea → ℕ) (t s : PlacedArea → Bool) (ps : List PlacedArea) (x : PlacedArea) → find t ps ≡ Some x → s x ≡ true → HaveBoth f (filter s ps)
some_least f t s [] x h e = absurd cc
some_least f t s (a ∷ ps) x h e = go (s a) refl (t a) h (λ g. some_least f t s ps x g e)
  where
    go : (b : Bool) → s a ≡ b → (c : Bool) → cond c (Some a) (find t ps) ≡ Some x → (find t ps ≡ Some x → HaveBoth f (filter s ps)) → HaveBoth f (cond b (a ∷ filter s ps) (filter s ps))
    go true is c g rest = (refl, refl)
    go false is false g rest = rest g
    go false is true g rest = let same : a ≡ x = cc in absurd (let bad : false ≡ true = sym is ∙ ap s same ∙ e in cc)

module _ (k : Kind) (ram : Option (List Range32)) (l : Linked) (regions : List (List AreaName)) (veneers : List Veneer) (h : IsPlacedLink k ram l regions veneers) where
  abbrev os : List Object
  os = objects_in l.objects

  abbrev plan : Plan
  plan = link_plan k l regions veneers

  abbrev p : Placement
  p = placement_of plan

  stands : (n : List ℕ) → IsAreaNamed l.objects n → (f : PlacedArea → ℕ) → HaveBoth f (areas_named os p n)
  stands n a f =
      let spot = found k ram l regions veneers h a.own a.object a.here a.area a.is a.there in
      let at : find (is_area a.own a.area) p.areas ≡ Some (placed_as a.own a.area spot.owner.number spot.spot.address) =
      area_found a.own a.area (regions_of plan) spot.owner spot.spot spot.region spot.there in
      let there : area_of os (record { object = a.own; area = a.area }) ≡ Some a.is =
      ap (option_and_then (λ (o : Object). slice_get o.areas a.area)) (slice_get-map (λ (o : Named Object). o.value) l.objects a.own ∙ ap (option_map (λ (o : Named Object). o.value)) a.here)
      ∙ a.there in
      let named : has_name n (area_of os (record { object = a.own; area = a.area })) ≡ true = ap (has_name n) there ∙ (bytes_eq-Decides a.is.name n).1 a.named in
      some_least f (is_area a.own a.area) (λ (x : PlacedArea). has_name n (area_of os x.area)) p.areas (placed_as a.own a.area spot.owner.number spot.spot.address) at named

  named_there : (f : List ℕ → List ℕ) (q n : List ℕ) → find (λ a. bytes_eq (f a) q) (names_of_areas os) ≡ Some n → IsAreaNamed l.objects n
  named_there f q n at = area_named l.objects n (found_in (λ a. bytes_eq (f a) q) (names_of_areas os) n at)

  area_numbered : (q : List ℕ) → names_an_area (names_of_areas os) q ≡ true → is_some (number_of_area os p q) ≡ true
  area_numbered q some = go (among q (map area_base (names_of_areas os))) refl some
    where
      go : (b : Bool) → among q (map area_base (names_of_areas os)) ≡ b → (b || among q (map area_limit (names_of_areas os))) ≡ true → is_some (number_of_area os p q) ≡ true
      go true first e =
          let (n, at) = made_among area_base q (names_of_areas os) first in
          some_first (option_and_then (least_start os p) (find (λ a. bytes_eq (area_base a) q) (names_of_areas os))) (option_and_then (greatest_end os p) (find (λ a. bytes_eq (area_limit a) q) (names_of_areas os)))
          (ap (λ (o : Option (List ℕ)). is_some (option_and_then (least_start os p) o)) at ∙ (stands n (named_there area_base q n at) (λ (a : PlacedArea). a.address)).0)
      go false first e =
          let (n, at) = made_among area_limit q (names_of_areas os) e in
          some_second (option_and_then (least_start os p) (find (λ a. bytes_eq (area_base a) q) (names_of_areas os))) (option_and_then (greatest_end os p) (find (λ a. bytes_eq (area_limit a) q) (names_of_areas os)))
          (ap (λ (o : Option (List ℕ)). is_some (option_and_then (greatest_end os p) o)) at ∙ (stands n (named_there area_limit q n at) (area_end os)).1)

  -- of regions with these names, and of areas
  pub numbered : (given : List (List ℕ)) → ((q : List ℕ) → among q given ≡ true → is_some (number_of_region p q) ≡ true) → (q : List ℕ) → names_a_region (Some given) os q ≡ true
      → is_some (numbers_by plan l.objects q) ≡ true
  numbered given each q some = some_mapped (reduced_by p.boot) (option_or (number_of_region p q) (number_of_area os p q)) (go (among q given) refl some)
    where
      go : (b : Bool) → among q given ≡ b → (b || names_an_area (names_of_areas os) q) ≡ true → is_some (option_or (number_of_region p q) (number_of_area os p q)) ≡ true
      go true first e = some_first (number_of_region p q) (number_of_area os p q) (each q first)
      go false first e = some_second (number_of_region p q) (number_of_area os p q) (area_numbered q e)
