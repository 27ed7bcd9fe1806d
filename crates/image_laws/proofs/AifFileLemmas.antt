-- The file of an image is the file of its plan.
use Rattle.std.proofs.Common.{◌≡◌, ℕ, ◌+◌, Bool, true, false, not, ◌==◌, if◌then◌else◌, List, [], ◌∷◌, ◌++◌, drop, map, append-nil, refl, sym, ap, ◌∙◌, arith, Option}
use Rattle.std.specs.Prelude.{slice_get, unwrap_or}
use Rattle.std.specs.List.{filter, flat_map, AllByRecursion}
use Rattle.std.proofs.lemmas.Option.{slice_get-map}
use Rattle.base_lemmas.proofs.BaseLemmas.{all_append}
use Rattle.sdt_word.specs.declared.ranges.Range32.{Range32}
use Rattle.boot_code.specs.Startup.{zeros}
use Rattle.boot_code.specs.Words.{relocator_list, zero_list}
use Rattle.boot_code.specs.Maps.{bytes_of_words}
use Rattle.place_model.specs.Items.{Item, is_zero_initialised}
use Rattle.place_model.specs.Plans.{Contents, Planned, Plan, RegionVeneer, areas_in, execution_size, length_of, regions_of, veneers_in}
use Rattle.place_model.specs.Things.{Thing, Header, AnArea, AVeneer, alignment_of, gap, size_of, start_of}
use Rattle.place_model.proofs.ListLemmas.{all_indexed, all_map}
use Rattle.image_model.specs.AifFiles as model
use Rattle.image_model.specs.AifFiles.{aif_plan, offsets_of, size_in, with_header}
use Rattle.image_model.specs.Regions.{Given, Filling, filled, laid, region_bytes}
use Rattle.image_laws.specs.AifLaws.{IsAif}
use Rattle.image_laws.proofs.AifLemmas.{base_whole, later, others, ro, rw_, split, words, zi}
use Rattle.link_model.specs.declared.images.Image.{Image}
use Rattle.link_model.specs.declared.placing.Region.{Region}
use Rattle.aif_image.specs.Files as files
use Rattle.aif_image.specs.Files.{first_words, header_words, loaded}
use Rattle.image_laws.specs.AifFiles.{FixedFile, IsOfPlan, RelocatableFile}

-- ---- sizes

size_same : (size : Region → ℕ) (planned : Planned → ℕ) (rs : List Region) (p : Plan) (n : ℕ) → map size rs ≡ map planned (regions_of p) → files.size_in size rs n ≡ size_in planned p n
size_same size planned rs p n same =
    ap (λ (o : Option ℕ). unwrap_or o 0) (sym (slice_get-map size rs n) ∙ ap (λ (xs : List ℕ). slice_get xs n) same ∙ slice_get-map planned (regions_of p) n)

first_same : (moves : Bool) (base : ℕ) (p : Plan) (g : Given) (i : Image) → IsOfPlan base p g i
    → first_words moves i.regions i.start i.call ++ zero_list ≡ model.header_words moves p base g.call
first_same moves base p g i is =
    let ro = size_same (λ r. r.length) length_of i.regions p 0 is.lengths in
    let rw_ = size_same (λ r. r.length) length_of i.regions p 1 is.lengths in
    let zi = size_same (λ r. r.length + r.zero) execution_size i.regions p 2 is.sizes in
    rw (ro, rw_, zi, is.start, is.call) refl

-- ---- bytes behind the header

laid_same : (one other : Thing → List ℕ) (origin at : ℕ) (ts : List Thing) → AllByRecursion (λ t. one t ≡ other t) ts → laid one origin at ts ≡ laid other origin at ts
laid_same one other origin at [] all = refl
laid_same one other origin at (t ∷ ts) all =
    ap (λ (bytes : List ℕ). zeros (gap origin (alignment_of t) at) ++ (bytes ++ laid one origin (start_of origin at t + size_of t) ts)) all.0
    ∙ ap (λ (bytes : List ℕ). zeros (gap origin (alignment_of t) at) ++ (other t ++ bytes)) (laid_same one other origin (start_of origin at t + size_of t) ts all.1)

module _ (base : ℕ) (rel : Bool) (c : Contents) (items : List Item) (g : Given) (ram : Option (List Range32)) (a : IsAif base rel c items g ram) where
  abbrev p : Plan
  p = aif_plan base rel c

  abbrev plain : Filling
  plain = filled g p (zeros 0x80)

  abbrev held : Bool → Filling
  held moves = with_header moves p base g

  abbrev first : Planned
  first = ro base rel c items g ram a

  abbrev second : Planned
  second = rw_ base rel c items g ram a

  abbrev third : Planned
  third = zi base rel c items g ram a

  abbrev behind_header : List Thing
  behind_header = map AnArea (filter (λ i. not (is_zero_initialised i)) (areas_in c 0)) ++ (veneers_in c 0 ++ [])

  gap_0 : gap first.origin 4 base ≡ 0
  gap_0 = go rel
    where
      go : (b : Bool) → gap (if b then base else 0) 4 base ≡ 0
      go true = let h = base_whole base rel c items g ram a in omega (arith, h)
      go false = let h = base_whole base rel c items g ram a in omega (arith, h)

  same_things : (moves : Bool) (r : Planned) (n : ℕ)
      → AllByRecursion (λ t. plain r t ≡ held moves r t) (map AnArea (filter (λ i. not (is_zero_initialised i)) (areas_in c n)) ++ (veneers_in c n ++ []))
  same_things moves r n =
      let own : List Item = filter (λ i. not (is_zero_initialised i)) (areas_in c n) in
      let some : List RegionVeneer = filter (λ v. v.region == n) c.veneers in
      let P : Thing → Type 0 = λ t. plain r t ≡ held moves r t in
      all_append P (map AnArea own) (veneers_in c n ++ []) (all_map P AnArea own (all_indexed (λ i. P (AnArea i)) own (λ i x h. refl)))
      (all_append P (veneers_in c n) [] (all_map P (λ v. AVeneer v.target v.thumb) some (all_indexed (λ v. P (AVeneer v.target v.thumb)) some (λ i x h. refl))) tt)

  abbrev behind : List ℕ
  behind = laid (plain first) first.origin (start_of first.origin base Header + 128) behind_header

  abbrev after : List ℕ
  after = region_bytes plain second ++ (region_bytes plain third ++ [])

  behind_same : (moves : Bool) → behind ≡ later base rel c items g ram a moves
  behind_same moves = laid_same (plain first) (held moves first) first.origin (start_of first.origin base Header + 128) behind_header (same_things moves first 0)

  after_same : (moves : Bool) → after ≡ others base rel c items g ram a moves
  after_same moves =
      ap (λ (bytes : List ℕ). bytes ++ (region_bytes plain third ++ [])) (laid_same (plain second) (held moves second) second.origin second.base second.things (same_things moves second 1))
      ∙ ap (λ (bytes : List ℕ). region_bytes (held moves) second ++ (bytes ++ [])) (laid_same (plain third) (held moves third) third.origin third.base third.things (same_things moves third 2))

  plain_split : flat_map (region_bytes plain) (regions_of p) ≡ zeros 0x80 ++ (behind ++ after)
  plain_split = ap (λ (n : ℕ). (zeros n ++ (zeros 0x80 ++ behind)) ++ after) gap_0

  dropped : (moves : Bool) → drop 0x80 (flat_map (region_bytes plain) (regions_of p)) ≡ later base rel c items g ram a moves ++ others base rel c items g ram a moves
  dropped moves =
      ap (drop 0x80) plain_split ∙ (ap (λ (b : List ℕ). b ++ after) (behind_same moves) ∙ ap (λ (b : List ℕ). later base rel c items g ram a moves ++ b) (after_same moves))

  -- the parts of the plan with their header
  parts_are : (moves : Bool) → bytes_of_words (model.header_words moves p base g.call) ++ drop 0x80 (flat_map (region_bytes plain) (regions_of p)) ≡ model.parts_bytes moves p base g
  parts_are moves =
      ap (λ (b : List ℕ). bytes_of_words (model.header_words moves p base g.call) ++ b) (dropped moves)
      ∙ sym (sym (append-nil (model.parts_bytes moves p base g)) ∙ split base rel c items g ram a moves [] ∙ ap (λ (b : List ℕ). bytes_of_words (words base rel c items g ram a moves) ++ (later base rel c items g ram a moves ++ b)) (append-nil (others base rel c items g ram a moves)))

  module _ (i : Image) (is : IsOfPlan base p g i) where
    file_parts : (moves : Bool) → bytes_of_words (first_words moves i.regions i.start i.call ++ zero_list) ++ drop 0x80 (loaded i.loads) ≡ model.parts_bytes moves p base g
    file_parts moves =
        ap (λ (ws : List ℕ). bytes_of_words ws ++ drop 0x80 (loaded i.loads)) (first_same moves base p g i is)
        ∙ ap (λ (b : List ℕ). bytes_of_words (model.header_words moves p base g.call) ++ drop 0x80 b) is.loads
        ∙ parts_are moves

pub fixed_file : FixedFile
fixed_file base c items g ram i a form_is is =
    rw form_is (append-nil (bytes_of_words (first_words false i.regions i.start i.call ++ zero_list) ++ drop 0x80 (loaded i.loads)) ∙ file_parts base false c items g ram a i is false)

pub relocatable_file : RelocatableFile
relocatable_file base c items g ram i shifts a form_is is moves =
    rw form_is (ap (λ (ms : List ℕ). (bytes_of_words (first_words true i.regions i.start i.call ++ zero_list) ++ drop 0x80 (loaded i.loads)) ++ bytes_of_words (relocator_list ++ (ms ++ 0xFFFFFFFF ∷ []))) moves
    ∙ ap (λ (b : List ℕ). b ++ bytes_of_words (relocator_list ++ (offsets_of shifts (aif_plan base true c) ++ 0xFFFFFFFF ∷ []))) (file_parts base true c items g ram a i is true))
