-- How the image of a generated source starts, and what it needs. The object's bytes are variables, so that its link computes.
use Rattle.std.proofs.Common.{◌≡◌, ℕ, zero, suc, ◌+◌, ◌*◌, ◌%◌, ◌^◌, ◌<◌, ◌≤◌, ◌==◌, true, false, List, [], ◌∷◌, ◌++◌, length, map, refl, sym, ap, ◌∙◌, subst, arith, None, Some, nat_lt}
use Rattle.std.specs.Prelude.{codes}
use Rattle.std.specs.List.{AllByRecursion, range_with_len}
use Rattle.std.proofs.lemmas.Bool.{lt-ltb, ne_eqb}
use Rattle.sdt_word.specs.Bytes.{bytes_of}
use Rattle.aof_object.specs.declared.records.Area.{Area}
use Rattle.aof_object.specs.Validity.{IsValid}
use Rattle.arm7_model.specs.Memory.{Board}
use Rattle.arm7_model.specs.Registers.{State}
use Rattle.run_opening.specs.declared.image.Need.{Need}
use Rattle.armlink_core.specs.Images.{image_of}
use Rattle.armlink_core.specs.Sizes.{copies_in, zeros_in}
use Rattle.big_faults.specs.Big.{words_bytes}
use Rattle.big_model.specs.Words.{code_words, data_words, step_word}
use Rattle.big_place.specs.Big.{PlanHasNoFault, TextIsRead, big_contents, big_description, big_kind, big_scatter, code_item, data_item}
use Rattle.big_place.proofs.PlaceLemmas.{code_size, data_size, table_is}
use Rattle.boot_code.specs.declared.rows.CopyRow.{CopyRow}
use Rattle.boot_code.specs.declared.rows.ZeroRow.{ZeroRow}
use Rattle.boot_code.specs.Boots.{BootsIn, ByteMap, CanStart}
use Rattle.boot_code.specs.Laws.{StartupIsExact, bound_of, written_by}
use Rattle.boot_code.specs.Maps.{Holds, MapLaw, Segment, bytes_of_words, map_of}
use Rattle.boot_code.specs.Startup.{startup_steps}
use Rattle.image_laws.specs.Laws.{ImagePlaces, ViewLaw}
use Rattle.image_model.specs.Regions.{Filling}
use Rattle.image_model.specs.Views.{files_of, view_of}
use Rattle.link_apply.specs.Laws.{AreBytes}
use Rattle.link_apply.specs.PatchedBytes.{patched_from}
use Rattle.link_apply.specs.RegionBytes.{copy_rows, zero_rows}
use Rattle.link_items.specs.LinkedItems.{contents_of}
use Rattle.link_laws.specs.Joins.{IsMade, MadeFiles, MadeHasPlaces, MadeStarts, filled_in, given_in}
use Rattle.link_model.specs.declared.images.Image.{Image}
use Rattle.link_model.specs.declared.placing.Placement.{Placement}
use Rattle.link_model.specs.Members.{link_of}
use Rattle.link_values.specs.Placed.{values_in}
use Rattle.patch_model.specs.Fields.{Values}
use Rattle.place_model.specs.Plans.{Plan, copies_of, load_size, parts_of, table_words}
use Rattle.place_model.specs.Things.{AnArea, Startup, extent}
use Rattle.scatter_text.specs.Laws.{ReadingLaw}
use Rattle.sdt_toolkit.specs.BigMade.{big_assigned, big_placement, big_plan}
use Rattle.sdt_toolkit.specs.BigStarts.{ImageStarts, big_row, big_startup}
use Rattle.sdt_toolkit.specs.RunImages.{CanRun, needs_of, region_need}
use Rattle.sdt_toolkit.specs.Starting.{segments_of}
use Rattle.sdt_toolkit.proofs.BigMade.{linked, made, named, object}
use Rattle.sdt_toolkit.proofs.RunLinks.{can_run}
use Rattle.sdt_toolkit.proofs.RunNames.{named_by}

-- ---- bytes

unpatched : (p : Placement) (values : Values) (region base : ℕ) (a : Area) (i : ℕ) (bytes : List ℕ) → a.relocs ≡ [] → patched_from p values region base a i bytes ≡ bytes
unpatched p values region base a i [] none = refl
unpatched p values region base a i (byte ∷ bytes) none = rw (none, unpatched p values region base a (suc i) bytes none) refl

same_bytes : (ws : List ℕ) → words_bytes ws ≡ bytes_of_words ws
same_bytes [] = refl
same_bytes (w ∷ ws) = ap (λ (rest : List ℕ). bytes_of w 4 ++ rest) (same_bytes ws)

abbrev AreSmall : List ℕ → Type 0
AreSmall ws = AllByRecursion (λ w. w < 2 ^ 32) ws

steps_small : (k n : ℕ) → AreSmall (map step_word (range_with_len k n) ++ (0xE1A00004 ∷ 0xEF000011 ∷ []))
steps_small k zero = (omega arith, (omega arith, tt))
steps_small k (suc n) = (omega arith, steps_small (k + 1) n)

words_small : (n : ℕ) → AreSmall (code_words n)
words_small n = (omega arith, steps_small 0 n)

-- ---- rows

head_same : (a b : ℕ) → a ∷ [] ≡ b ∷ [] → a ≡ b
head_same a b h = cc

module _ (name home : List ℕ) (n : ℕ) (code words : List ℕ) (some : 1 ≤ n) (few : n ≤ 50000) where
  rows : (copy_rows (big_placement home n) ≡ (record { source = 0 + (4 * n + 216); target = 8388608; size = 4 * n }) ∷ []) × (zero_rows (big_placement home n) ≡ [])
  rows =
      let moved : ((0 + (4 * n + 216)) == 8388608) ≡ false = ne_eqb _ _ (λ e. omega arith) in
      let filled : nat_lt 0 (4 * n) ≡ true = lt-ltb _ _ (omega arith) in
      rw (table_is home n some few, code_size home n 9, data_size home n, moved, filled) (refl, refl)

  bound : bound_of (copy_rows (big_placement home n)) (zero_rows (big_placement home n)) ≡ 48 + 4 * n
  bound = rw (rows.0) (omega arith)

  abbrev row_from : ℕ → List CopyRow
  row_from k = (record { source = k; target = 8388608; size = 4 * n }) ∷ []

  counted : startup_steps (copy_rows (big_placement home n)) (zero_rows (big_placement home n)) ≡ big_startup n
  counted =
      let row : copy_rows (big_placement home n) ≡ big_row n ∷ [] = rows.0 ∙ ap row_from (omega arith) in
      ap (λ (rs : List CopyRow). startup_steps rs (zero_rows (big_placement home n))) row ∙ ap (λ (rs : List ZeroRow). startup_steps (big_row n ∷ []) rs) rows.1

  -- ---- the link

  is_made : PlanHasNoFault → IsValid (object n code words) → AllByRecursion (λ a. AreBytes a.bytes) (object n code words).areas
      → IsMade big_kind None (linked name home n code words) big_assigned [] (big_placement home n)
  is_made none valid bytes = record {
    valid = (valid, tt);
    bytes = (bytes, tt);
    loads = (refl, tt);
    bases = (refl, (refl, tt));
    entered = record { object = named name home n code words; at = refl; entry = refl; state = refl };
    assigned = refl;
    planned = refl;
    placed = rw (none home n some few) refl;
    sound = refl;
  }

  abbrev image : Image
  image = image_of big_kind (made name home n code words) []

  abbrev held : Filling
  held = filled_in (linked name home n code words) (big_placement home n) (big_plan home n)

  abbrev view : ByteMap
  view = view_of (big_plan home n) held

  boot : (big_placement home n).boot ≡ Some image.start
  boot = refl

  entry_is : image.entry ≡ 0
  entry_is = refl

  -- what is loaded is the plan's
  same_files : MadeFiles → IsMade big_kind None (linked name home n code words) big_assigned [] (big_placement home n)
      → files_of (big_plan home n) held ≡ segments_of image
  same_files files m = files big_kind None (linked name home n code words) big_assigned [] (big_placement home n) m refl

  -- the startup code takes exactly its steps
  abbrev Exact : List Segment → List CopyRow → List ZeroRow → ℕ → Type 0
  Exact fs copies parts steps =
      (board : Board) (s : State) → CanStart (map_of fs) view (written_by copies parts) image.start board s → BootsIn steps (map_of fs) view 0 board s

  exact : MadeHasPlaces → MadeFiles → MadeStarts → ImagePlaces → StartupIsExact
      → IsMade big_kind None (linked name home n code words) big_assigned [] (big_placement home n)
      → Exact (segments_of image) (copies_in image.regions) (zeros_in image.regions) (big_startup n)
  exact places files starts placed law m =
      let plan : Plan = big_plan home n in
      let p = places big_kind None (linked name home n code words) big_assigned [] (big_placement home n) m in
      let i = starts big_scatter None (linked name home n code words) big_assigned [] (big_placement home n) image.start m boot in
      let by_plan : Exact (files_of plan held) (copies_of plan) (parts_of plan) (startup_steps (copies_of plan) (parts_of plan)) =
      law (map_of (files_of plan held)) view (written_by (copies_of plan) (parts_of plan)) (copies_of plan) (parts_of plan) 0 image.start
      (placed big_scatter (contents_of (linked name home n code words).objects big_assigned.regions [])
      (given_in (link_of (linked name home n code words)) (big_placement home n)) None view (files_of plan held) image.start i) in
      let by_files = subst (λ (fs : List Segment). Exact fs (copies_of plan) (parts_of plan) (startup_steps (copies_of plan) (parts_of plan))) (same_files files m) by_plan in
      let by_copies = subst (λ (rs : List CopyRow). Exact (segments_of image) rs (parts_of plan) (startup_steps rs (parts_of plan))) (sym p.copies) by_files in
      let by_parts = subst (λ (rs : List ZeroRow). Exact (segments_of image) (copy_rows (big_placement home n)) rs (startup_steps (copy_rows (big_placement home n)) rs)) (sym p.parts) by_copies in
      subst (λ (steps : ℕ). Exact (segments_of image) (copy_rows (big_placement home n)) (zero_rows (big_placement home n)) steps) counted by_parts

  -- it can be run
  can : TextIsRead → ReadingLaw → MadeFiles → MadeStarts
      → IsMade big_kind None (linked name home n code words) big_assigned [] (big_placement home n) → CanRun image view
  can read law files starts m =
      let (spelled, valid) = (law big_description big_scatter).0 read in
      let i = starts big_scatter None (linked name home n code words) big_assigned [] (big_placement home n) image.start m boot in
      can_run big_scatter None (linked name home n code words) big_assigned [] (big_placement home n) m image.start boot valid
      (named_by big_description big_scatter.loads spelled) (sym (same_files files m)) i.shows i.loads

  -- how long the load region is, and where all ranges end
  sizes : map load_size (big_plan home n) ≡ (4 * n + 216 + 4 * n) ∷ []
  sizes = rw (table_is home n some few, code_size home n 9, data_size home n) (ap (λ (k : ℕ). k ∷ []) (omega arith))

  loaded : MadeFiles → MadeStarts → IsMade big_kind None (linked name home n code words) big_assigned [] (big_placement home n)
      → map (λ s. length s.bytes) (segments_of image) ≡ (4 * n + 216 + 4 * n) ∷ []
  loaded files starts m =
      let i = starts big_scatter None (linked name home n code words) big_assigned [] (big_placement home n) image.start m boot in
      ap (λ (fs : List Segment). map (λ s. length s.bytes) fs) (sym (same_files files m)) ∙ i.loads.sizes ∙ sizes

  abbrev Low : List Need → Type 0
  Low needs = AllByRecursion (λ r. r.base + r.size ≤ 0x01000000) needs

  -- of a region at a base below 2^32
  low_region : (base size more : ℕ) → base ≤ 8388608 → size ≤ 8000000 → more ≡ 0 → base % 2 ^ 32 + (size + more) ≤ 0x01000000
  low_region base size more lo few_bytes none = omega (arith, lo, few_bytes, none)

  low_regions : Low (map region_need image.regions)
  low_regions =
      let first : extent 0 0 (AnArea (code_item home n) ∷ Startup (table_words big_kind (big_contents home n)) ∷ []) ≤ 8000000 =
      (let table = table_is home n some few in let size = code_size home n (table_words big_kind (big_contents home n)) in omega (arith, few, table, size)) in
      let second : extent 0 8388608 (AnArea (data_item home n) ∷ []) ≤ 8000000 = (let size = data_size home n in omega (arith, few, size)) in
      (low_region 0 _ _ (omega arith) first refl, (low_region 8388608 _ _ (omega arith) second refl, tt))

  low_load : (k : ℕ) → k ≡ 4 * n + 216 + 4 * n → 0 + k ≤ 0x01000000
  low_load k e = omega (arith, e)

  low : MadeFiles → MadeStarts → IsMade big_kind None (linked name home n code words) big_assigned [] (big_placement home n) → Low (needs_of image)
  low files starts m = (low_load _ (head_same _ _ (loaded files starts m)), low_regions)

  abbrev area : Area
  area = record { name = codes "big"; attributes = 8706; size = 4 * (n + 3); bytes = code; relocs = [] }

  shows : MadeStarts → ViewLaw → IsMade big_kind None (linked name home n code words) big_assigned [] (big_placement home n) → Holds view 0 code
  shows starts law m =
      let i = starts big_scatter None (linked name home n code words) big_assigned [] (big_placement home n) image.start m boot in
      let all = law.things (big_plan home n) (filled_in (linked name home n code words) (big_placement home n) (big_plan home n)) view i.sized i.shows in
      let first = all.0.0 in
      subst (λ (bytes : List ℕ). Holds view 0 bytes)
      (unpatched (big_placement home n) (values_in (link_of (linked name home n code words)) (big_placement home n) 0) 0 0 area 0 code refl) first

pub image_starts : PlanHasNoFault → TextIsRead → ReadingLaw → MadeHasPlaces → MadeFiles → MadeStarts → ImagePlaces → StartupIsExact → ViewLaw → MapLaw → ImageStarts
image_starts none read reading places files starts_law placed startup law maps name home n some few valid bytes =
    let code = words_bytes (code_words n) in
    let words = words_bytes (data_words n) in
    let m = is_made name home n code words some few none valid bytes in
    let v = view name home n code words some few in
    record {
      exact = exact name home n code words some few places files starts_law placed startup m;
      can = can name home n code words some few read reading files starts_law m;
      entry = entry_is name home n code words some few;
      arm = refl;
      bound = bound name home n code words some few;
      shown = maps.words v 0 (code_words n) (words_small n) (subst (Holds v 0) (same_bytes (code_words n)) (shows name home n code words some few starts_law law m));
      low = low name home n code words some few files starts_law m;
    }
