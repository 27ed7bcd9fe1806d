-- A layout is where the plan has its regions.
use Rattle.std.proofs.Common.{◌≡◌, ℕ, zero, suc, ◌+◌, true, false, List, [], ◌∷◌, ◌++◌, length, map, refl, ap, sym, ◌∙◌, arith, take, drop}
use Rattle.std.specs.Prelude.{not, ◌==◌}
use Rattle.std.specs.List.{filter, flat_map, AllByRecursion}
use Rattle.std.proofs.lemmas.List.{map-append}
use Rattle.std.proofs.Math.Seq.{take-append_seam, drop-append_seam}
use Rattle.base_lemmas.proofs.BaseLemmas.{all_append}
use Rattle.place_model.specs.declared.scatter.Kind.{Kind}
use Rattle.place_model.specs.declared.scatter.Kind.TheVariants as kind
use Rattle.place_model.specs.declared.scatter.ScatterLoad.{ScatterLoad}
use Rattle.place_model.specs.declared.scatter.ScatterRegion.{ScatterRegion}
use Rattle.place_model.specs.Items.{Item, is_zero_initialised}
use Rattle.place_model.specs.Things as things
use Rattle.place_model.specs.Things.{Thing, AnArea, AVeneer, alignment_of, size_of, start_of, extent, Stood, stood}
use Rattle.place_model.specs.Plans.{RegionVeneer, Contents, areas_in, veneers_in, header_in, startup_in, origin_of, Planned, length_of, zero_length_of, end_of, base_behind, planned, planned_from, loads_from, Plan, regions_of}
use Rattle.link_place.specs.declared.layouts.RegionLayout.{RegionLayout}
use Rattle.link_place.specs.declared.parts.Part.{Part}
use Rattle.link_place.specs.declared.pieces.Piece.{Piece}
use Rattle.link_place.specs.Pieces.{size_in, multiple_in, reach, Seat, seats}
use Rattle.link_place.specs.Parts.{piece_of, things_in, zeros_in, part_by, parts_from, load_group}
use Rattle.link_place.specs.Layouts.{laid_by, laid_from, regions_by}
use Rattle.link_place.proofs.PartLemmas.{parts_append, parts_length}

-- ---- pieces stand as things do

abbrev pub HasTable : ℕ → Thing → Type 0
HasTable words things.Header = Unit {0}
HasTable words (AnArea i) = Unit {0}
HasTable words (AVeneer target thumb) = Unit {0}
HasTable words (things.Startup own) = own ≡ words

same_multiple : (region : ℕ) (t : Thing) → multiple_in (piece_of region t) ≡ alignment_of t
same_multiple region things.Header = refl
same_multiple region (AnArea i) = refl
same_multiple region (AVeneer target thumb) = refl
same_multiple region (things.Startup own) = refl

same_size : (words region : ℕ) (t : Thing) → HasTable words t → size_in words (piece_of region t) ≡ size_of t
same_size words region things.Header h = refl
same_size words region (AnArea i) h = refl
same_size words region (AVeneer target true) h = refl
same_size words region (AVeneer target false) h = refl
same_size words region (things.Startup own) h = omega (arith, h)

pub extent_same : (words origin region at : ℕ) (ts : List Thing) → AllByRecursion (HasTable words) ts → reach words origin at (map (piece_of region) ts) ≡ extent origin at ts
extent_same words origin region at [] all = refl
extent_same words origin region at (t ∷ ts) (h, all) =
    let m = same_multiple region t in
    let s = same_size words region t h in
    let rest = extent_same words origin region (start_of origin at t + size_of t) ts all in
    cc

-- as a seat of a region of one number, of a piece that is made for another
abbrev pub seat_of : ℕ → ℕ → Stood → Seat
seat_of region number s = record { region = region; piece = piece_of number s.thing; address = s.address }

pub seats_same : (words origin region number at : ℕ) (ts : List Thing) → AllByRecursion (HasTable words) ts
    → seats words origin region at (map (piece_of number) ts) ≡ map (seat_of region number) (stood origin at ts)
seats_same words origin region number at [] all = refl
seats_same words origin region number at (t ∷ ts) (h, all) =
    let m = same_multiple number t in
    let s = same_size words number t h in
    let rest = seats_same words origin region number (start_of origin at t + size_of t) ts all in
    cc

-- ---- the things of a region

areas_have : (words : ℕ) (items : List Item) → AllByRecursion (HasTable words) (map AnArea items)
areas_have words [] = tt
areas_have words (i ∷ items) = (tt, areas_have words items)

veneers_have : (words : ℕ) (vs : List RegionVeneer) → AllByRecursion (HasTable words) (map (λ v. AVeneer v.target v.thumb) vs)
veneers_have words [] = tt
veneers_have words (v ∷ vs) = (tt, veneers_have words vs)

header_has : (words : ℕ) (k : Kind) (region : ℕ) → AllByRecursion (HasTable words) (header_in k region)
header_has words (kind.Scatter s) region = tt
header_has words (kind.Plain base) region = tt
header_has words (kind.Aif base moves) zero = (tt, tt)
header_has words (kind.Aif base moves) (suc n) = tt

startup_has : (words : ℕ) (k : Kind) (region : ℕ) → AllByRecursion (HasTable words) (startup_in k region words)
startup_has words (kind.Scatter s) zero = (refl, tt)
startup_has words (kind.Scatter s) (suc n) = tt
startup_has words (kind.Plain base) region = tt
startup_has words (kind.Aif base moves) region = tt

startup_same : (words : ℕ) (k : Kind) (region : ℕ) → map (piece_of region) (startup_in k region 0) ≡ map (piece_of region) (startup_in k region words)
startup_same words (kind.Scatter s) zero = refl
startup_same words (kind.Scatter s) (suc n) = refl
startup_same words (kind.Plain base) region = refl
startup_same words (kind.Aif base moves) region = refl

behind_same : (f : Thing → Piece) (xs ys zs : List Thing) → map f ys ≡ map f zs → map f (xs ++ ys) ≡ map f (xs ++ zs)
behind_same f xs ys zs e = map-append f xs ys ∙ (ap (λ (ps : List Piece). map f xs ++ ps) e ∙ sym (map-append f xs zs))

things_same : (k : Kind) (c : Contents) (words region : ℕ) (r : ScatterRegion) (before load : ℕ)
    → map (piece_of region) (things_in k c region) ≡ map (piece_of region) (planned k c words region r before load).things
things_same k c words region r before load =
    let f = piece_of region in
    let areas = map AnArea (filter (λ i. not (is_zero_initialised i)) (areas_in c region)) in
    behind_same (piece_of region) (header_in k region) (areas ++ (veneers_in c region ++ startup_in k region 0)) (areas ++ (veneers_in c region ++ startup_in k region words))
    (behind_same (piece_of region) areas (veneers_in c region ++ startup_in k region 0) (veneers_in c region ++ startup_in k region words)
    (behind_same (piece_of region) (veneers_in c region) (startup_in k region 0) (startup_in k region words) (startup_same words k region)))

things_have : (k : Kind) (c : Contents) (words region : ℕ) (r : ScatterRegion) (before load : ℕ) → AllByRecursion (HasTable words) (planned k c words region r before load).things
things_have k c words region r before load =
    let H = HasTable words in
    let areas = map AnArea (filter (λ i. not (is_zero_initialised i)) (areas_in c region)) in
    all_append (HasTable words) (header_in k region) (areas ++ (veneers_in c region ++ startup_in k region words)) (header_has words k region)
    (all_append (HasTable words) areas (veneers_in c region ++ startup_in k region words) (areas_have words (filter (λ i. not (is_zero_initialised i)) (areas_in c region)))
    (all_append (HasTable words) (veneers_in c region) (startup_in k region words) (veneers_have words (filter (λ v. v.region == region) c.veneers)) (startup_has words k region)))

-- ---- a region is laid where it is planned

abbrev pub laid_of : ℕ → Planned → RegionLayout
laid_of n p = record {
  region = record { name = p.name; load_region = n; load = p.load; base = p.base; length = length_of p; zero = zero_length_of p };
  maximum = p.maximum;
}

pub record IsOf (words origin number : ℕ) (r : Planned) (p : Part) (l : RegionLayout) : Type 0 where
  pub named : r.number ≡ number
  pub based : r.origin ≡ origin
  pub load_region : ℕ
  pub laid : l ≡ laid_of load_region r
  pub things : p.things ≡ map (piece_of number) r.things
  pub zeros : p.zeros ≡ map (piece_of number) r.zeros
  pub tables : AllByRecursion (HasTable words) r.things
  pub no_tables : AllByRecursion (HasTable words) r.zeros

abbrev pub AreOf : ℕ → ℕ → ℕ → List Planned → List Part → List RegionLayout → Type 0
AreOf words origin number [] [] [] = Unit {0}
AreOf words origin number [] [] (l ∷ ls) = ⊥
AreOf words origin number [] (p ∷ ps) ls = ⊥
AreOf words origin number (r ∷ rs) [] ls = ⊥
AreOf words origin number (r ∷ rs) (p ∷ ps) [] = ⊥
AreOf words origin number (r ∷ rs) (p ∷ ps) (l ∷ ls) = IsOf words origin number r p l × AreOf words origin (suc number) rs ps ls

laid_next : (n load base : ℕ) (words origin : ℕ) (part : Part) (ps : List Part) (r : Planned) (a : ℕ) → a ≡ length_of r → r.base ≡ base → r.load ≡ load → r.name ≡ part.name → r.maximum ≡ part.maximum
    → reach words origin (base + length_of r) part.zeros ≡ zero_length_of r
    → laid_by n part load base a (reach words origin (base + a) part.zeros) ∷ laid_from words origin n ps (base + (a + reach words origin (base + a) part.zeros)) (load + a)
    ≡ laid_of n r ∷ laid_from words origin n ps (end_of r) (load + length_of r)
laid_next n load base words origin part ps r a ea eb el en em ez = cc

pub laid_same : (k : Kind) (c : Contents) (words n region : ℕ) (rs : List ScatterRegion) (before load : ℕ)
    → laid_from words (origin_of k) n (parts_from k c region rs) before load ≡ map (laid_of n) (planned_from k c words region rs before load)
laid_same k c words n region [] before load = refl
laid_same k c words n region (r ∷ rs) before load =
    let p = planned k c words region r before load in
    let base = base_behind r.base before in
    let same = things_same k c words region r before load in
    let length_same : reach words (origin_of k) base (map (piece_of region) (things_in k c region)) ≡ length_of p =
    ap (reach words (origin_of k) base) same ∙ extent_same words (origin_of k) region base p.things (things_have k c words region r before load) in
    let zero_same : reach words (origin_of k) (base + length_of p) (map (piece_of region) (zeros_in c region)) ≡ zero_length_of p =
    extent_same words (origin_of k) region (base + length_of p) p.zeros (areas_have words (filter is_zero_initialised (areas_in c region))) in
    laid_next n load base words (origin_of k) (part_by k c region r.name r.base r.max) (parts_from k c (suc region) rs) p _ length_same refl refl refl refl zero_same
    ∙ ap (λ (ls : List RegionLayout). laid_of n p ∷ ls) (laid_same k c words n (suc region) rs (end_of p) (load + length_of p))

pub of_same : (k : Kind) (c : Contents) (words n region : ℕ) (rs : List ScatterRegion) (before load : ℕ) (later : List Planned) (ps : List Part) (ls : List RegionLayout)
    → AreOf words (origin_of k) (region + length rs) later ps ls
    → AreOf words (origin_of k) region (planned_from k c words region rs before load ++ later) (parts_from k c region rs ++ ps) (map (laid_of n) (planned_from k c words region rs before load) ++ ls)
of_same k c words n region [] before load later ps ls rest = let e : region + 0 ≡ region = omega arith in rw e at rest
of_same k c words n region (r ∷ rs) before load later ps ls rest =
    let p = planned k c words region r before load in
    let e : region + suc (length rs) ≡ suc region + length rs = omega arith in (
      record {
        named = refl;
        based = refl;
        load_region = n;
        laid = refl;
        things = things_same k c words region r before load;
        zeros = refl;
        tables = things_have k c words region r before load;
        no_tables = areas_have words (filter is_zero_initialised (areas_in c region));
      },
      of_same k c words n (suc region) rs (end_of p) (load + length_of p) later ps ls (rw e at rest),
    )

-- ---- load regions

abbrev pub laid_plan : ℕ → Plan → List RegionLayout
laid_plan n [] = []
laid_plan n (l ∷ loads) = map (laid_of n) l.regions ++ laid_plan (suc n) loads

pub regions_same : (k : Kind) (c : Contents) (words n region : ℕ) (loads : List ScatterLoad)
    → regions_by words (origin_of k) n (map load_group loads) (parts_from k c region (flat_map (λ l. l.regions) loads)) ≡ laid_plan n (loads_from k c words region loads)
regions_same k c words n region [] = refl
regions_same k c words n region (l ∷ loads) =
    let own = parts_from k c region l.regions in
    let others = parts_from k c (region + length l.regions) (flat_map (λ d. d.regions) loads) in
    let all : parts_from k c region (l.regions ++ flat_map (λ d. d.regions) loads) ≡ own ++ others = parts_append k c region l.regions (flat_map (λ d. d.regions) loads) in
    let count = parts_length k c region l.regions in
    let front : take (length l.regions) (parts_from k c region (l.regions ++ flat_map (λ d. d.regions) loads)) ≡ own =
    ap (take (length l.regions)) all ∙ (ap (λ (i : ℕ). take i (own ++ others)) (sym count) ∙ take-append_seam own others) in
    let back : drop (length l.regions) (parts_from k c region (l.regions ++ flat_map (λ d. d.regions) loads)) ≡ others =
    ap (drop (length l.regions)) all ∙ (ap (λ (i : ℕ). drop i (own ++ others)) (sym count) ∙ drop-append_seam own others) in
    let here : laid_from words (origin_of k) n (take (length l.regions) (parts_from k c region (l.regions ++ flat_map (λ d. d.regions) loads))) l.base l.base ≡ map (laid_of n) (planned_from k c words region l.regions l.base l.base) =
    ap (λ (ps : List Part). laid_from words (origin_of k) n ps l.base l.base) front ∙ laid_same k c words n region l.regions l.base l.base in
    let there = ap (regions_by words (origin_of k) (suc n) (map load_group loads)) back ∙ regions_same k c words (suc n) (region + length l.regions) loads in
    cc

pub are_of : (k : Kind) (c : Contents) (words n region : ℕ) (loads : List ScatterLoad)
    → AreOf words (origin_of k) region (regions_of (loads_from k c words region loads)) (parts_from k c region (flat_map (λ l. l.regions) loads)) (laid_plan n (loads_from k c words region loads))
are_of k c words n region [] = tt
are_of k c words n region (l ∷ loads) =
    rw (parts_append k c region l.regions (flat_map (λ d. d.regions) loads))
    (of_same k c words n region l.regions l.base l.base _ _ _ (are_of k c words (suc n) (region + length l.regions) loads))
