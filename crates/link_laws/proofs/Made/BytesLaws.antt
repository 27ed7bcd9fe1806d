-- The bytes of all regions of a link that is made, and those of its files.
use Rattle.std.proofs.Common.{◌≡◌, ℕ, zero, suc, ◌+◌, ◌<◌, true, false, ◌==◌, List, [], ◌∷◌, ◌++◌, append_assoc, append-nil, length, map, refl, sym, ap, subst, ◌∙◌, arith, eq-eqb, Option}
use Rattle.std.specs.List.{flat_map, AllByRecursion}
use Rattle.std.proofs.lemmas.List.{map-append}
use Rattle.base_lemmas.proofs.BaseLemmas.{all_back}
use Rattle.sdt_word.specs.declared.ranges.Range32.{Range32}
use Rattle.boot_code.specs.Maps.{Segment}
use Rattle.place_model.specs.declared.scatter.Kind.{Kind}
use Rattle.place_model.specs.declared.scatter.Kind.TheVariants as kind
use Rattle.place_model.specs.declared.scatter.ScatterLoad.{ScatterLoad}
use Rattle.place_model.specs.Assignment.{description}
use Rattle.place_model.specs.Plans.{Contents, Planned, Plan, regions_of, loads_from, table_words}
use Rattle.place_model.proofs.ListLemmas.{all_indexed}
use Rattle.image_model.specs.Regions.{Filling, AreSized, region_bytes, filled}
use Rattle.image_model.specs.Views.{file_of, files_of}
use Rattle.link_model.specs.declared.placing.Assigned.{Assigned}
use Rattle.link_model.specs.declared.placing.Placement.{Placement}
use Rattle.link_model.specs.declared.placing.Region.{Region}
use Rattle.link_model.specs.declared.placing.Veneer.{Veneer}
use Rattle.link_model.specs.declared.selection.Linked.{Linked}
use Rattle.link_model.specs.Members.{Link, link_of, objects_in}
use Rattle.link_model.specs.RegionValues.{region_number}
use Rattle.link_model.proofs.NeedLemmas.{veneers_law}
use Rattle.link_items.specs.LinkedItems.{has_header, contents_of}
use Rattle.link_place.specs.Placed.{placed_region, placed_regions, placement_of}
use Rattle.link_apply.specs.RegionBytes as linked
use Rattle.link_apply.specs.RegionBytes.{bytes_from, regions_bytes}
use Rattle.link_laws.specs.Placing.{link_plan, IsHeaderOf}
use Rattle.link_laws.specs.Joins.{IsMade, given_in, front_of, filled_in, bytes_of_plan, bytes_of_load, files_from, MadeHasBytes, MadeFiles}
use Rattle.link_laws.proofs.Made.AddressLemmas.{AreCounted}
use Rattle.link_laws.proofs.Made.AppliedLemmas.{made_is_applied}
use Rattle.link_laws.proofs.Made.PlacedLemmas.{is_placement, are_needed, made_is_placed}
use Rattle.link_laws.proofs.Made.Once.{all_counted}
use Rattle.link_laws.proofs.Made.VeneerLemmas.{AreOnce}
use Rattle.link_laws.proofs.SizedLemmas.{applied_are_sized}
use Rattle.link_laws.proofs.Made.Bytes.{equal_not, not_equal}
use Rattle.link_laws.proofs.Made.BytesOfRegions.{region_same}

-- ---- all regions

-- a region has the same bytes, whichever load region it is of
abbrev IsAlike : Link → Placement → (Planned → List ℕ) → Planned → Type 0
IsAlike l p bytes r = (load : ℕ) → linked.region_bytes l p r.number (placed_region load r) ≡ bytes r

module _ (l : Link) (p : Placement) (bytes : Planned → List ℕ) where
  of_load : (load n : ℕ) (xs rest : List Planned) (regions : List Region) → AreCounted n (xs ++ rest) → AllByRecursion (IsAlike l p bytes) (xs ++ rest)
      → ((m : ℕ) → AreCounted m rest → bytes_from l p m regions ≡ map bytes rest) → bytes_from l p n (map (placed_region load) xs ++ regions) ≡ map bytes (xs ++ rest)
  of_load load n [] rest regions counted all later = later n counted
  of_load load n (x ∷ xs) rest regions counted all later =
      let first : linked.region_bytes l p n (placed_region load x) ≡ bytes x = ap (λ (m : ℕ). linked.region_bytes l p m (placed_region load x)) (sym counted.0) ∙ all.0 load in
      ap (λ (b : List ℕ). b ∷ bytes_from l p (suc n) (map (placed_region load) xs ++ regions)) first
      ∙ ap (λ (bs : List (List ℕ)). bytes x ∷ bs) (of_load load (suc n) xs rest regions counted.1 all.1 later)

  of_plan : (load n : ℕ) (q : Plan) → AreCounted n (regions_of q) → AllByRecursion (IsAlike l p bytes) (regions_of q) → bytes_from l p n (placed_regions load q) ≡ map bytes (regions_of q)
  of_plan load n [] counted all = refl
  of_plan load n (x ∷ q) counted all =
      of_load load n x.regions (regions_of q) (placed_regions (suc load) q) counted all
      (λ m later. of_plan (suc load) m q later (all_back (IsAlike l p bytes) x.regions (regions_of q) all))

-- ---- the files

module _ (bytes : Planned → List ℕ) where
  of_other : (number load : ℕ) (xs : List Planned) (regions : List Region) (parts : List (List ℕ)) → (load == number) ≡ false
      → bytes_of_load number (map (placed_region load) xs ++ regions) (map bytes xs ++ parts) ≡ bytes_of_load number regions parts
  of_other number load [] regions parts e = refl
  of_other number load (x ∷ xs) regions parts e = rw e (of_other number load xs regions parts e)

  of_own : (number load : ℕ) (xs : List Planned) (regions : List Region) (parts : List (List ℕ)) → (load == number) ≡ true
      → bytes_of_load number (map (placed_region load) xs ++ regions) (map bytes xs ++ parts) ≡ flat_map bytes xs ++ bytes_of_load number regions parts
  of_own number load [] regions parts e = refl
  of_own number load (x ∷ xs) regions parts e =
      rw e (ap (λ (b : List ℕ). bytes x ++ b) (of_own number load xs regions parts e) ∙ sym (append_assoc (bytes x) (flat_map bytes xs) (bytes_of_load number regions parts)))

  later_none : (number load : ℕ) (q : Plan) → number < load → bytes_of_load number (placed_regions load q) (map bytes (regions_of q)) ≡ []
  later_none number load [] lt = refl
  later_none number load (x ∷ q) lt =
      ap (bytes_of_load number (placed_regions load (x ∷ q))) (map-append bytes x.regions (regions_of q))
      ∙ of_other number load x.regions (placed_regions (suc load) q) (map bytes (regions_of q)) (equal_not load number lt)
      ∙ later_none number (suc load) q (omega (arith, lt))

  -- those of the load region at a place
  abbrev pub load_at : ℕ → Plan → List ℕ
  load_at n [] = []
  load_at zero (x ∷ q) = flat_map bytes x.regions
  load_at (suc n) (x ∷ q) = load_at n q

  load_bytes : (n load : ℕ) (q : Plan) (number : ℕ) → number ≡ load + n → bytes_of_load number (placed_regions load q) (map bytes (regions_of q)) ≡ load_at n q
  load_bytes zero load [] number e = refl
  load_bytes (suc n) load [] number e = refl
  load_bytes zero load (x ∷ q) number e =
      ap (bytes_of_load number (placed_regions load (x ∷ q))) (map-append bytes x.regions (regions_of q))
      ∙ of_own number load x.regions (placed_regions (suc load) q) (map bytes (regions_of q)) (eq-eqb load number (omega (arith, e)))
      ∙ ap (λ (b : List ℕ). flat_map bytes x.regions ++ b) (later_none number (suc load) q (omega (arith, e))) ∙ append-nil (flat_map bytes x.regions)
  load_bytes (suc n) load (x ∷ q) number e =
      ap (bytes_of_load number (placed_regions load (x ∷ q))) (map-append bytes x.regions (regions_of q))
      ∙ of_other number load x.regions (placed_regions (suc load) q) (map bytes (regions_of q)) (not_equal load number (omega (arith, e)))
      ∙ load_bytes n (suc load) q number (omega (arith, e))

files_alike : (held : Filling) (k : Kind) (c : Contents) (words region load : ℕ) (ds : List ScatterLoad) (regions : List Region) (parts : List (List ℕ))
    → ((n number : ℕ) → number ≡ load + n → bytes_of_load number regions parts ≡ load_at (region_bytes held) n (loads_from k c words region ds))
    → map (file_of held) (loads_from k c words region ds) ≡ files_from load regions parts ds
files_alike held k c words region load [] regions parts h = refl
files_alike held k c words region load (d ∷ ds) regions parts h =
    let rest = files_alike held k c words (region + length d.regions) (suc load) ds regions parts (λ n number e. h (suc n) number (omega (arith, e))) in
    ap (λ (b : List ℕ). (record { base = d.base; bytes = b }) ∷ map (file_of held) (loads_from k c words (region + length d.regions) ds)) (sym (h 0 load (omega arith)))
    ∙ ap (λ (fs : List Segment). (record { base = d.base; bytes = bytes_of_load load regions parts }) ∷ fs) rest

-- ---- with zeros in the place of a header

module _ (k : Kind) (ram : Option (List Range32)) (l : Linked) (a : Assigned) (vs : List Veneer) (p : Placement) (h : IsMade k ram l a vs p) where
  abbrev plan : Plan
  plan = link_plan k l a.regions vs

  abbrev pub fronted : Placement → Filling
  fronted q = filled (given_in (link_of l) q) plan (front_of k)

  once : AreOnce vs
  once = subst AreOnce (sym (are_needed k ram l a vs p h)) (veneers_law (link_of l) a.regions (has_header k)).once

  pub fronted_sized : AreSized (fronted p) plan
  fronted_sized =
      applied_are_sized k ram l a.regions vs (region_number (objects_in l.objects) p) (given_in (link_of l) p) (front_of k) (made_is_placed k ram l a vs p h) (made_is_applied k ram l a vs p h) (headed k)
    where
      headed : (q : Kind) → IsHeaderOf q (front_of q)
      headed (kind.Scatter s) = tt
      headed (kind.Plain base) = tt
      headed (kind.Aif base relocatable) = refl

  alike : AllByRecursion (IsAlike (link_of l) (placement_of plan) (region_bytes (fronted (placement_of plan)))) (regions_of plan)
  alike =
      all_indexed (IsAlike (link_of l) (placement_of plan) (region_bytes (fronted (placement_of plan)))) (regions_of plan)
      (λ n r at load.
      let sized = subst (λ (q : Placement). AreSized (fronted q) plan) (is_placement k ram l a vs p h) fronted_sized in
      region_same k ram l a.regions vs (made_is_placed k ram l a vs p h) once sized n r at load)

  pub fronted_bytes : regions_bytes (link_of l) p ≡ map (region_bytes (fronted p)) (regions_of plan)
  fronted_bytes =
      subst (λ (q : Placement). regions_bytes (link_of l) q ≡ map (region_bytes (fronted q)) (regions_of plan)) (sym (is_placement k ram l a vs p h))
      (of_plan (link_of l) (placement_of plan) (region_bytes (fronted (placement_of plan))) 0 0 plan (all_counted k (contents_of l.objects a.regions vs) (table_words k (contents_of l.objects a.regions vs))) alike)

  pub fronted_load : (n : ℕ) → bytes_of_load n p.regions (regions_bytes (link_of l) p) ≡ load_at (region_bytes (fronted p)) n plan
  fronted_load n =
      ap (bytes_of_load n p.regions) fronted_bytes
      ∙ ap (λ (q : Placement). bytes_of_load n q.regions (map (region_bytes (fronted p)) (regions_of plan))) (is_placement k ram l a vs p h)
      ∙ load_bytes (region_bytes (fronted p)) n 0 plan n (omega arith)

  fronted_files : files_of plan (fronted p) ≡ files_from 0 p.regions (regions_bytes (link_of l) p) (description k)
  fronted_files =
      let c : Contents = contents_of l.objects a.regions vs in
      files_alike (fronted p) k c (table_words k c) 0 0 (description k) p.regions (regions_bytes (link_of l) p)
      (λ n number e. let own : number ≡ n = omega (arith, e) in ap (λ (m : ℕ). bytes_of_load m p.regions (regions_bytes (link_of l) p)) own ∙ fronted_load n)

  -- ---- where there is none

  module _ (plain : has_header k ≡ false) where
    no_front : front_of k ≡ []
    no_front = rw plain refl

    pub made_sized : AreSized (filled_in l p plan) plan
    made_sized = subst (λ (header : List ℕ). AreSized (filled (given_in (link_of l) p) plan header) plan) no_front fronted_sized

    made_bytes : regions_bytes (link_of l) p ≡ bytes_of_plan l p plan
    made_bytes = fronted_bytes ∙ ap (λ (header : List ℕ). map (region_bytes (filled (given_in (link_of l) p) plan header)) (regions_of plan)) no_front

    made_files : files_of plan (filled_in l p plan) ≡ files_from 0 p.regions (regions_bytes (link_of l) p) (description k)
    made_files = ap (λ (header : List ℕ). files_of plan (filled (given_in (link_of l) p) plan header)) (sym no_front) ∙ fronted_files

pub made_has_bytes : MadeHasBytes
made_has_bytes k ram l a vs p h plain = made_bytes k ram l a vs p h plain

pub made_has_files : MadeFiles
made_has_files k ram l a vs p h plain = made_files k ram l a vs p h plain
