-- A scatter image that is linked can be run.
use Rattle.std.proofs.Common.{◌≡◌, ℕ, suc, ◌+◌, ◌*◌, ◌%◌, ◌^◌, ◌<◌, ◌≤◌, true, List, [], ◌∷◌, ◌++◌, length, map, refl, sym, ap, ◌∙◌, subst, arith, Option, Some, None}
use Rattle.std.specs.Prelude.{codes, is_some, sum_by, unwrap_or}
use Rattle.std.specs.List.{AllByRecursion}
use Rattle.base_lemmas.proofs.BaseLemmas.{all_weaker}
use Rattle.sdt_word.specs.declared.ranges.Range32.{Range32}
use Rattle.boot_code.specs.declared.rows.CopyRow.{CopyRow}
use Rattle.boot_code.specs.declared.rows.ZeroRow.{ZeroRow}
use Rattle.boot_code.specs.Boots.{Places}
use Rattle.boot_code.specs.Laws.{bound_of, written_by}
use Rattle.boot_code.specs.Startup.{copied_words, zeroed_words}
use Rattle.boot_code.specs.Maps.{Segment, map_of}
use Rattle.scatter_text.specs.Validity.{IsValidLoad}
use Rattle.scatter_text.specs.Validity as valid
use Rattle.place_model.specs.declared.scatter.Kind.TheVariants as kind
use Rattle.place_model.specs.declared.scatter.Scatter.{Scatter}
use Rattle.place_model.specs.declared.scatter.ScatterLoad.{ScatterLoad}
use Rattle.place_model.specs.Faults.{execution_meeting, load_meeting, load_span, shared, standing}
use Rattle.place_model.specs.Plans.{Contents, Plan, copies_of, load_size, parts_of, regions_of, table_words}
use Rattle.place_model.proofs.ListLemmas.{Pairs, pairs_map}
use Rattle.place_model.proofs.SpanLemmas.{meeting_none, or_none}
use Rattle.image_model.specs.Regions.{Filling}
use Rattle.image_model.specs.Views.{IsLoadView, IsView, files_of, view_of}
use Rattle.image_laws.proofs.FileLemmas.{overlap_none}
use Rattle.image_laws.proofs.Placed.{IsAccepted, accepted_facts, image_places}
use Rattle.link_model.specs.declared.images.Image.{Image}
use Rattle.link_model.specs.declared.images.LoadRegion.{LoadRegion}
use Rattle.link_model.specs.declared.placing.Assigned.{Assigned}
use Rattle.link_model.specs.declared.placing.Placement.{Placement}
use Rattle.link_model.specs.declared.placing.Region.{Region}
use Rattle.link_model.specs.declared.placing.Veneer.{Veneer}
use Rattle.link_model.specs.declared.selection.Linked.{Linked}
use Rattle.link_model.specs.Members.{link_of}
use Rattle.link_items.specs.LinkedItems.{contents_of}
use Rattle.link_place.specs.Placed.{placement_of}
use Rattle.link_apply.specs.RegionBytes.{regions_bytes}
use Rattle.link_laws.specs.Joins.{IsMade, filled_in, given_in}
use Rattle.link_laws.specs.Placing.{link_plan}
use Rattle.link_laws.proofs.Made.PlacedLemmas.{is_placement, made_is_placed}
use Rattle.link_laws.proofs.Made.Start.{made_starts}
use Rattle.bin_image.specs.Fields.{lacks}
use Rattle.bin_image.specs.Files.{map_file, map_of as image_map, map_region}
use Rattle.bin_image.specs.Maps.{IsRegion, IsValid}
use Rattle.armlink_core.specs.declared.making.PlacedImage.{PlacedImage}
use Rattle.armlink_core.specs.Images.{image_of, loads_from}
use Rattle.armlink_core.specs.Sizes.{copies_in, region_size, zeros_in}
use Rattle.armlink_core.proofs.LoadLemmas.{copies_few, zeros_few}
use Rattle.armlink_core.proofs.WithinLemmas.{is_small}
use Rattle.sdt_toolkit.specs.RunImages.{CanRun, is_needed, load_need, needs_of, region_need}
use Rattle.sdt_toolkit.specs.Starting.{segments_of}
use Rattle.sdt_toolkit.proofs.RunBytes.{loads_are_bytes}
use Rattle.sdt_toolkit.proofs.RunNames.{IsNamedLoad, files_differ, plan_named}
use Rattle.sdt_toolkit.proofs.RunRanges.{AreAlike, IsFit, IsFitLoad, alike, are_apart, are_fit, are_loads, executed_needed, loads_small, plan_regions}

-- ---- numbers

begins_low : (a n : ℕ) → a + 4 * suc n ≤ 2 ^ 32 → a < 2 ^ 32
begins_low a n h = omega (arith, h)

few_steps : (sum : ℕ) (copies : List CopyRow) (parts : List ZeroRow) → sum ≤ 2 ^ 26 → length copies ≤ sum → copied_words copies ≤ sum → length parts ≤ sum → zeroed_words parts ≤ sum
    → bound_of copies parts < 2 ^ 64
few_steps sum copies parts small a b c d = omega (arith, small, a, b, c, d)

-- ---- load regions

loads_fit : (number : ℕ) (rs : List Region) (parts : List (List ℕ)) (ds : List ScatterLoad) → AllByRecursion IsNamedLoad ds → AllByRecursion IsValidLoad ds → AllByRecursion IsFitLoad (loads_from number rs parts ds)
loads_fit number rs parts [] named whole = tt
loads_fit number rs parts (d ∷ ds) named whole = (record { named = named.0.0; low = whole.0.base.0 }, loads_fit (suc number) rs parts ds named.1 whole.1)

abbrev segment_in : LoadRegion → Segment
segment_in l = record { base = l.base; bytes = l.bytes }

bases_same : (ls : List LoadRegion) → map (λ l. l.base) ls ≡ map (λ z. z.base) (map segment_in ls)
bases_same [] = refl
bases_same (l ∷ ls) = ap (λ (ns : List ℕ). l.base ∷ ns) (bases_same ls)

sizes_same : (ls : List LoadRegion) → map (λ l. length l.bytes) ls ≡ map (λ z. length z.bytes) (map segment_in ls)
sizes_same [] = refl
sizes_same (l ∷ ls) = ap (λ (ns : List ℕ). length l.bytes ∷ ns) (sizes_same ls)

-- ---- the image

module _ (s : Scatter) (ram : Option (List Range32)) (l : Linked) (a : Assigned) (vs : List Veneer) (p : Placement) (h : IsMade (kind.Scatter s) ram l a vs p) where
  abbrev c : Contents
  c = contents_of l.objects a.regions vs

  abbrev plan : Plan
  plan = link_plan (kind.Scatter s) l a.regions vs

  abbrev held : Filling
  held = filled_in l p plan

  abbrev made : PlacedImage
  made = record { linked = l; assigned = a; veneers = vs; placement = p; bytes = regions_bytes (link_of l) p }

  abbrev image : Image
  image = image_of (kind.Scatter s) made []

  facts : IsAccepted s plan
  facts = accepted_facts s ram plan (made_is_placed (kind.Scatter s) ram l a vs p h).accepted

  -- the sum of all sizes
  small : sum_by region_size p.regions ≤ 2 ^ 26
  small = is_small (kind.Scatter s) ram c p h.placed

  regions_same : p.regions ≡ (placement_of plan).regions
  regions_same = ap (λ (q : Placement). q.regions) (is_placement (kind.Scatter s) ram l a vs p h)

  fit : AllByRecursion IsNamedLoad s.loads → AllByRecursion IsFit (regions_of plan)
  fit named = are_fit (regions_of plan) (plan_named (kind.Scatter s) c (table_words (kind.Scatter s) c) 0 s.loads named) facts.small facts.rooms

  few : image.bound < 2 ^ 64
  few =
      let copies = copies_few p.regions in
      let parts = zeros_few p.regions in
      few_steps (sum_by region_size p.regions) (copies_in p.regions) (zeros_in p.regions) small copies.rows copies.words parts.rows parts.words

  apart : Pairs (λ q m. shared (load_span q) (load_span m) ≡ None) plan
  apart =
      let none = (or_none (load_meeting plan) (execution_meeting plan) (overlap_none (kind.Scatter s) ram plan (made_is_placed (kind.Scatter s) ram l a vs p h).accepted)).0 in
      pairs_map (λ m n. shared m.written n.read ≡ None) (λ q. standing (load_span q)) plan (meeting_none (map (λ q. standing (load_span q)) plan) none)

  loads_low : AllByRecursion (λ q. load_size q ≤ 2 ^ 26) plan
  loads_low = loads_small 0 (2 ^ 26) plan (subst (λ (rs : List Region). sum_by region_size rs ≤ 2 ^ 26) regions_same small)

  module _ (boot : ℕ) (at : p.boot ≡ Some boot) (valid : valid.IsValid s.loads) (named : AllByRecursion IsNamedLoad s.loads) (files : segments_of image ≡ files_of plan held)
      (shown : IsView plan held (view_of plan held)) (loaded : IsLoadView plan (view_of plan held) (files_of plan held)) where
    places : Places (map_of (files_of plan held)) (view_of plan held) (written_by (copies_of plan) (parts_of plan)) (copies_of plan) (parts_of plan) (given_in (link_of l) p).entry boot
    places = image_places s c (given_in (link_of l) p) ram (view_of plan held) (files_of plan held) boot (made_starts s ram l a vs p boot h at)

    start : image.start ≡ boot
    start = ap (λ (o : Option ℕ). unwrap_or o 0) at

    load_ranges : AreAlike image.loads plan
    load_ranges =
        alike image.loads plan (bases_same image.loads ∙ ap (λ (ss : List Segment). map (λ z. z.base) ss) files ∙ loaded.bases)
        (sizes_same image.loads ∙ ap (λ (ss : List Segment). map (λ z. length z.bytes) ss) files ∙ loaded.sizes)

    is_valid : (out : List ℕ) → lacks 10 out ≡ true → IsValid (image_map image out)
    is_valid out line = record {
      loads = are_loads out line image.loads plan load_ranges (loads_fit 0 p.regions (regions_bytes (link_of l) p) s.loads named valid.each) loads_low facts.loads;
      apart = are_apart out image.loads plan load_ranges apart;
      regions = subst (λ (rs : List Region). AllByRecursion IsRegion (map map_region rs)) (sym regions_same) (plan_regions 0 plan (fit named));
      start_fits = subst (λ (n : ℕ). n < 2 ^ 32) (sym start) (begins_low boot _ places.room);
      start_aligned = ap (λ (n : ℕ). n % 4) start ∙ places.multiple;
      entry_fits = omega arith;
      bound_fits = few;
    }

    ranged : (x b : ℕ) → view_of plan held x ≡ Some b → is_needed (needs_of image) x ≡ true
    ranged x b shows =
        let executed = sym (shown.domain x) ∙ ap is_some shows in
        ap (λ (rs : List Region). is_needed (map load_need image.loads ++ map region_need rs) x) regions_same ∙ executed_needed x (map load_need image.loads) plan (fit named) executed

    pub can_run : CanRun image (view_of plan held)
    can_run = record {
      ranged = ranged;
      bytes = loads_are_bytes (link_of l) p l.objects refl h.bytes s.loads;
      filed = λ out line some. record { map = is_valid out line; named = some };
      named = λ out.
          files_differ out p.regions (regions_bytes (link_of l) p) (map_file image out) refl 0 s.loads
          (all_weaker IsValidLoad (λ d. d.name ≡ codes "map" → ⊥) (λ d one. one.no_map) s.loads valid.each) valid.load_names_differ;
    }
