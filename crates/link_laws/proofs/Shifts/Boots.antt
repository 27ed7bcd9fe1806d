-- The file of a relocatable AIF becomes its view at every base.
use Rattle.std.proofs.Common.{◌≡◌, ℕ, ◌+◌, ◌-◌, ◌*◌, ◌/◌, ◌%◌, ◌^◌, ◌<◌, ◌≤◌, Bool, true, false, not, ◌==◌, if◌then◌else◌, List, [], ◌∷◌, ◌++◌, length, length-append, append_assoc, map, refl, sym, ap, ◌∙◌, arith, Option, Some, None}
use Rattle.std.specs.Prelude.{slice_index, slice_get, unwrap_or, is_some}
use Rattle.std.specs.List.{filter, flat_map, AllByRecursion}
use Rattle.std.proofs.lemmas.List.{get_or_append_left}
use Rattle.base_lemmas.proofs.BaseLemmas.{all_append, all_weaker, same}
use Rattle.sdt_word.specs.Bytes.{bytes_of}
use Rattle.sdt_word.specs.declared.ranges.Range32.{Range32}
use Rattle.arm7_model.specs.Memory.{store}
use Rattle.boot_code.specs.Aif.{ShowsImage, marked, moved_image, started_image, relocated, shifted_file}
use Rattle.boot_code.specs.Boots.{ByteMap}
use Rattle.boot_code.specs.Startup.{zeros}
use Rattle.boot_code.specs.Words.{zero_list, relocator_list}
use Rattle.boot_code.specs.Maps.{bytes_of_words}
use Rattle.place_model.specs.declared.scatter.Kind.TheVariants as kind
use Rattle.place_model.specs.Items.{Item, is_zero_initialised}
use Rattle.place_model.specs.Laws.{IsWholeRegion}
use Rattle.place_model.specs.Plans.{Contents, RegionVeneer, areas_in, veneers_in, Planned, length_of, zero_length_of, Plan, regions_of}
use Rattle.place_model.specs.Things.{Thing, Header, AnArea, AVeneer, Startup, alignment_of, size_of, gap, start_of, stood}
use Rattle.place_model.proofs.ListLemmas.{all_at, all_indexed, all_map}
use Rattle.place_model.proofs.PlanLemmas.{whole_law}
use Rattle.image_model.specs.AifFiles.{size_in, call_from, parts_size, zero_size, header_words, with_header, parts_bytes, offsets_of, aif_plan}
use Rattle.image_model.specs.Regions.{Given, Filling, laid, region_bytes, AreSized, filled}
use Rattle.image_laws.specs.AifLaws.{IsAif}
use Rattle.image_laws.proofs.AifLemmas.{no_length_2}
use Rattle.image_laws.proofs.AifViews.{started, within}
use Rattle.image_laws.proofs.PlainLemmas.{r0, r1, r2, zero_0, zero_1}
use Rattle.image_laws.proofs.ViewLemmas.{bytes_size}
use Rattle.link_model.specs.declared.placing.Assigned.{Assigned}
use Rattle.link_model.specs.declared.placing.Placement.{Placement}
use Rattle.link_model.specs.declared.placing.Veneer.{Veneer}
use Rattle.link_model.specs.declared.selection.Linked.{Linked}
use Rattle.link_model.specs.Members.{link_of, objects_in}
use Rattle.link_model.specs.RegionValues.{region_number}
use Rattle.link_items.specs.LinkedItems.{contents_of}
use Rattle.link_values.specs.Shifts.{shifts_of}
use Rattle.link_laws.specs.AifJoins.{shift_between, shifted_words, placement_at, MayMoveTo, filled_at, given_at, moving_list, moving_file, IsViewAt}
use Rattle.link_laws.specs.Joins.{given_in}
use Rattle.link_laws.proofs.Made.AppliedLemmas.{made_is_applied}
use Rattle.link_laws.proofs.Made.PlacedLemmas.{made_is_placed}
use Rattle.link_laws.proofs.Made.VeneerLemmas.{all_stood}
use Rattle.link_laws.proofs.RegionLemmas.{things_of_stood}
use Rattle.link_laws.proofs.Shifts.Aif.{aif_there, parts_at, zero_at, first_at}
use Rattle.link_laws.proofs.Shifts.Memory.{relocated_words, marked_bytes}
use Rattle.link_laws.proofs.Shifts.Moved.{bytes_law}
use Rattle.link_laws.proofs.Shifts.Placed.{base_whole}
use Rattle.link_laws.proofs.Shifts.Words.{shifted_length, shifted_append}
use Rattle.link_laws.proofs.SizedLemmas.{applied_are_sized}

-- ---- what isn't a header

laid_same : (held other : Thing → List ℕ) (origin at : ℕ) (ts : List Thing) → AllByRecursion (λ t. held t ≡ other t) ts → laid held origin at ts ≡ laid other origin at ts
laid_same held other origin at [] all = refl
laid_same held other origin at (t ∷ ts) (h, all) =
    ap (λ (bs : List ℕ). zeros (gap origin (alignment_of t) at) ++ (bs ++ laid held origin (start_of origin at t + size_of t) ts)) h
    ∙ ap (λ (bs : List ℕ). zeros (gap origin (alignment_of t) at) ++ (other t ++ bs)) (laid_same held other origin (start_of origin at t + size_of t) ts all)

-- the areas and veneers of a region
abbrev behind_header : Contents → ℕ → List Thing
behind_header c n = map AnArea (filter (λ i. not (is_zero_initialised i)) (areas_in c n)) ++ (veneers_in c n ++ [])

behind_all : (P : Thing → Type 0) (c : Contents) (n : ℕ) → ((i : Item) → P (AnArea i)) → ((v : RegionVeneer) → P (AVeneer v.target v.thumb)) → AllByRecursion P (behind_header c n)
behind_all P c n area veneer =
    let own : List Item = filter (λ i. not (is_zero_initialised i)) (areas_in c n) in
    let some : List RegionVeneer = filter (λ v. v.region == n) c.veneers in
    all_append P (map AnArea own) (veneers_in c n ++ []) (all_map P AnArea own (all_indexed (λ i. P (AnArea i)) own (λ i x h. area x)))
    (all_append P (veneers_in c n) [] (all_map P (λ v. AVeneer v.target v.thumb) some (all_indexed (λ v. P (AVeneer v.target v.thumb)) some (λ i x h. veneer x))) tt)

-- the words of a header
abbrev head : ℕ → ℕ → ℕ → ℕ → ℕ → ℕ → List ℕ
head call cleared first second entry base =
    0xE1A00000 ∷ call ∷ (if cleared == 0 then 0xE1A00000 else call_from 8 0x40) ∷ call_from 0xC entry ∷ 0xEF000011 ∷ first ∷ second ∷ 0 ∷ cleared ∷ 0 ∷ base ∷ 0 ∷ 32 ∷ 0 ∷ 0 ∷ 0 ∷ zero_list

module _ (base to : ℕ) (ram : Option (List Range32)) (l : Linked) (a : Assigned) (vs : List Veneer) (p : Placement) (items : List Item) (offset : ℕ)
    (m : MayMoveTo base to ram l a vs p) (image : IsAif base true (contents_of l.objects a.regions vs) items (given_at base l p offset) ram)
    (whole : to % 4 ≡ 0)
    (room : to + parts_size (aif_plan base true (contents_of l.objects a.regions vs)) + zero_size (aif_plan base true (contents_of l.objects a.regions vs)) ≤ 2 ^ 32) where
  abbrev c : Contents
  c = contents_of l.objects a.regions vs

  abbrev here : Plan
  here = aif_plan base true c

  abbrev there : Plan
  there = aif_plan to true c

  abbrev shifts : ℕ → ℕ
  shifts = shifts_of (link_of l) p

  abbrev by : ℕ
  by = shift_between base to

  same_parts : parts_size there ≡ parts_size here
  same_parts = parts_at to c ∙ sym (parts_at base c)

  same_zero : zero_size there ≡ zero_size here
  same_zero = zero_at to c ∙ sym (zero_at base c)

  -- ---- the regions, with the header that the program sees there

  abbrev front : List ℕ
  front = bytes_of_words (head 0xE1A00000 (zero_size here) (size_in length_of here 0) (size_in length_of here 1) (base + offset - base) to)

  same_front : bytes_of_words (header_words false there to (to + offset)) ≡ front
  same_front =
      let entry : to + offset - to ≡ base + offset - base = omega arith in
      ap (λ z. bytes_of_words (head 0xE1A00000 z (size_in length_of there 0) (size_in length_of there 1) (to + offset - to) to)) same_zero
      ∙ ap (λ z. bytes_of_words (head 0xE1A00000 (zero_size here) z (size_in length_of there 1) (to + offset - to) to)) (first_at to c 0 ∙ sym (first_at base c 0))
      ∙ ap (λ z. bytes_of_words (head 0xE1A00000 (zero_size here) (size_in length_of here 0) z (to + offset - to) to)) (first_at to c 1 ∙ sym (first_at base c 1))
      ∙ ap (λ z. bytes_of_words (head 0xE1A00000 (zero_size here) (size_in length_of here 0) (size_in length_of here 1) z to)) entry

  abbrev seen : Filling
  seen = filled_at to l a vs (placement_at to l a vs) front

  abbrev made_of : Filling
  made_of = filled_at base l a vs p front

  same_seen : with_header false there to (given_at to l (placement_at to l a vs) offset) ≡ seen
  same_seen = ap (filled (given_at to l (placement_at to l a vs) offset) there) same_front ∙ (λ i r t. each r t i)
    where
      each : (r : Planned) (t : Thing) → filled (given_at to l (placement_at to l a vs) offset) there front r t ≡ seen r t
      each r Header = refl
      each r (AnArea x) = refl
      each r (AVeneer target thumb) = refl
      each r (Startup words) = refl

  abbrev ro : Planned
  ro = r0 (kind.Aif base true) c base items image.assigned.each

  abbrev rw_ : Planned
  rw_ = r1 (kind.Aif base true) c base items image.assigned.each

  abbrev zi : Planned
  zi = r2 (kind.Aif base true) c base items image.assigned.each

  abbrev y0 : List ℕ
  y0 = region_bytes made_of ro

  abbrev y1 : List ℕ
  y1 = region_bytes made_of rw_

  abbrev y2 : List ℕ
  y2 = region_bytes made_of zi

  abbrev bytes : List ℕ
  bytes = y0 ++ (y1 ++ (y2 ++ []))

  sized_here : (header : List ℕ) → length header ≡ 128 → AreSized (filled_at base l a vs p header) here
  sized_here header headed =
      applied_are_sized (kind.Aif base true) ram l a.regions vs (region_number (objects_in l.objects) p) (given_in (link_of l) p) header
      (made_is_placed (kind.Aif base true) ram l a vs p m.made) (made_is_applied (kind.Aif base true) ram l a vs p m.made) headed

  l0 : length y0 ≡ length_of ro
  l0 = bytes_size made_of ro (sized_here front refl).0

  l1 : length y1 ≡ length_of rw_
  l1 = bytes_size made_of rw_ (sized_here front refl).1.0

  l2 : length y2 ≡ length_of zi
  l2 = bytes_size made_of zi (sized_here front refl).1.1.0

  no_zero_0 : zero_length_of ro ≡ 0
  no_zero_0 = zero_0 (kind.Aif base true) c base items image.assigned.each

  no_zero_1 : zero_length_of rw_ ≡ 0
  no_zero_1 = zero_1 (kind.Aif base true) c base items image.assigned.each

  wholes : AllByRecursion IsWholeRegion (ro ∷ rw_ ∷ zi ∷ [])
  wholes = whole_law (kind.Aif base true) c 0 image.whole

  regs : map (region_bytes seen) (regions_of there) ≡ map (λ r. shifted_words by shifts (r.base - base) (region_bytes made_of r)) (regions_of here)
  regs = bytes_law.regions base to ram l a vs p front m refl

  abbrev at_number : ℕ → List (List ℕ) → List ℕ
  at_number n xs = unwrap_or (slice_get xs n) []

  shifted_bytes : shifted_words by shifts 0 bytes ≡ parts_bytes false there to (given_at to l (placement_at to l a vs) offset)
  shifted_bytes =
      let z0 = no_zero_0 in let z1 = no_zero_1 in
      let s0 = l0 in let s1 = l1 in let s2 = l2 in
      let w0 = wholes.0.loaded in let w1 = wholes.1.0.loaded in let w2 = wholes.1.1.0.loaded in
      let b0 : ro.base - base ≡ 0 = omega arith in
      let b1 : rw_.base - base ≡ 0 + length y0 = omega (arith, z0, s0) in
      let b2 : zi.base - base ≡ 0 + length y0 + length y1 = omega (arith, z0, z1, s0, s1) in
      let e0 = ap (at_number 0) regs ∙ ap (λ n. shifted_words by shifts n y0) b0 in
      let e1 = ap (at_number 1) regs ∙ ap (λ n. shifted_words by shifts n y1) b1 in
      let e2 = ap (at_number 2) regs ∙ ap (λ n. shifted_words by shifts n y2) b2 in
      let third = shifted_append by shifts (0 + length y0 + length y1) y2 [] (omega (arith, s2, w2)) in
      let second = shifted_append by shifts (0 + length y0) y1 (y2 ++ []) (omega (arith, s1, w1)) in
      let first = shifted_append by shifts 0 y0 (y1 ++ (y2 ++ [])) (omega (arith, s0, w0)) in
      first ∙ ap (λ (bs : List ℕ). bs ++ shifted_words by shifts (0 + length y0) (y1 ++ (y2 ++ []))) (sym e0)
      ∙ ap (λ (bs : List ℕ). at_number 0 (map (region_bytes seen) (regions_of there)) ++ bs)
      (second ∙ ap (λ (bs : List ℕ). bs ++ shifted_words by shifts (0 + length y0 + length y1) (y2 ++ [])) (sym e1)
      ∙ ap (λ (bs : List ℕ). at_number 1 (map (region_bytes seen) (regions_of there)) ++ bs) (third ∙ ap (λ (bs : List ℕ). bs ++ []) (sym e2)))
      ∙ ap (λ (f : Filling). flat_map (region_bytes f) (regions_of there)) (sym same_seen)

  -- ---- the file

  abbrev held : Filling
  held = with_header true here base (given_at base l p offset)

  abbrev tail : List ℕ
  tail = bytes_of_words (relocator_list ++ (offsets_of shifts here ++ 0xFFFFFFFF ∷ []))

  abbrev file : List ℕ
  file = moving_file base l a vs p offset

  abbrev own_head : List ℕ
  own_head = bytes_of_words (head (call_from 4 (parts_size here)) (zero_size here) (size_in length_of here 0) (size_in length_of here 1) (base + offset - base) base)

  same_behind : (r : Planned) (n : ℕ) → AllByRecursion (λ t. held r t ≡ made_of r t) (behind_header c n)
  same_behind r n = behind_all (λ t. held r t ≡ made_of r t) c n (λ i. refl) (λ v. refl)

  abbrev start : ℕ
  start = start_of ro.origin base Header + 128

  abbrev later : List ℕ
  later = laid (made_of ro) ro.origin start (behind_header c 0)

  abbrev rest : List ℕ
  rest = later ++ (y1 ++ (y2 ++ []))

  no_gap : gap ro.origin 4 base ≡ 0
  no_gap = omega arith

  own_bytes : bytes ≡ front ++ rest
  own_bytes =
      ap (λ (n : ℕ). (zeros n ++ (front ++ later)) ++ (y1 ++ (y2 ++ []))) no_gap ∙ append_assoc front later (y1 ++ (y2 ++ []))

  file_bytes : file ≡ own_head ++ (rest ++ tail)
  file_bytes =
      let first : laid (held ro) ro.origin start (behind_header c 0) ≡ later = laid_same (held ro) (made_of ro) ro.origin start (behind_header c 0) (same_behind ro 0) in
      let second : region_bytes held rw_ ≡ y1 = laid_same (held rw_) (made_of rw_) rw_.origin rw_.base rw_.things (same_behind rw_ 1) in
      let third : region_bytes held zi ≡ y2 = laid_same (held zi) (made_of zi) zi.origin zi.base zi.things (same_behind zi 2) in
      ap (λ (n : ℕ). ((zeros n ++ (own_head ++ laid (held ro) ro.origin start (behind_header c 0))) ++ (region_bytes held rw_ ++ (region_bytes held zi ++ []))) ++ tail) no_gap
      ∙ ap (λ (bs : List ℕ). ((own_head ++ bs) ++ (region_bytes held rw_ ++ (region_bytes held zi ++ []))) ++ tail) first
      ∙ ap (λ (bs : List ℕ). ((own_head ++ later) ++ (bs ++ (region_bytes held zi ++ []))) ++ tail) second
      ∙ ap (λ (bs : List ℕ). ((own_head ++ later) ++ (y1 ++ (bs ++ []))) ++ tail) third
      ∙ ap (λ (bs : List ℕ). bs ++ tail) (append_assoc own_head later (y1 ++ (y2 ++ [])))
      ∙ append_assoc own_head rest tail

  bytes_length : length bytes ≡ parts_size here
  bytes_length =
      let s0 = l0 in let s1 = l1 in let s2 = l2 in
      let empty : length_of zi ≡ 0 = no_length in
      let x = length-append y0 (y1 ++ (y2 ++ [])) in
      let y = length-append y1 (y2 ++ []) in
      let z = length-append y2 [] in
      omega (arith, s0, s1, s2, empty, x, y, z)
    where
      no_length : length_of zi ≡ 0
      no_length = no_length_2 base true c items (given_at base l p offset) ram image

  -- the words that are marked
  abbrev eight_words : List ℕ
  eight_words =
      bytes_of_words ((if zero_size here == 0 then 0xE1A00000 else call_from 8 0x40) ∷ call_from 0xC (base + offset - base) ∷ 0xEF000011 ∷ size_in length_of here 0 ∷ size_in length_of here 1 ∷ 0 ∷ zero_size here ∷ 0 ∷ [])

  abbrev last_words : List ℕ
  last_words = bytes_of_words (0 ∷ 32 ∷ 0 ∷ 0 ∷ 0 ∷ zero_list)

  marked_there : (n : ℕ) → n < parts_size here → marked (shifted_file file to) to (to + n) ≡ slice_index bytes n
  marked_there n lt =
      marked_bytes (shifted_file file to) to (bytes_of 0xE1A00000 4) (bytes_of (call_from 4 (parts_size here)) 4) eight_words (bytes_of base 4) (last_words ++ (rest ++ tail)) (bytes_of 0xE1A00000 4) (bytes_of to 4) (last_words ++ rest)
      (parts_size here) refl refl refl refl refl refl
      (λ k below. let at : to + k - to ≡ k = omega arith in ap (slice_index file) at ∙ ap (λ (bs : List ℕ). slice_index bs k) file_bytes)
      (λ k below.
      let all : length bytes ≡ length (front ++ rest) = ap length own_bytes in
      let front_size : length front ≡ 128 = refl in
      let last_size : length last_words ≡ 84 = refl in
      let x = length-append front rest in
      let y = length-append last_words rest in
      let size = bytes_length in
      ap (λ (bs : List ℕ). slice_index bs k) (sym (append_assoc last_words rest tail)) ∙ get_or_append_left (last_words ++ rest) tail 0 k (omega (arith, below, all, front_size, last_size, x, y, size)))
      n lt
      ∙ ap (λ (bs : List ℕ). slice_index bs n) (sym own_bytes)

  -- ---- moved

  abbrev n_words : ℕ
  n_words = parts_size here / 4

  whole_parts : parts_size here ≡ 4 * n_words
  whole_parts = let w0 = wholes.0.loaded in let w1 = wholes.1.0.loaded in omega (arith, w0, w1)

  relocated_there : (j : ℕ) → j < parts_size here
      → relocated (marked (shifted_file file to) to) to by (offsets_of shifts here) (to + 0 + j) ≡ slice_index (parts_bytes false there to (given_at to l (placement_at to l a vs) offset)) j
  relocated_there j lt =
      let size = whole_parts in
      relocated_words (marked (shifted_file file to) to) to by shifts 0 n_words bytes (bytes_length ∙ whole_parts)
      (λ k below. let at : to + 0 + k ≡ to + k = omega arith in ap (marked (shifted_file file to) to) at ∙ marked_there k (omega (arith, below, size))) j (omega (arith, lt, size))
      ∙ ap (λ (bs : List ℕ). slice_index bs j) shifted_bytes

  moved_there : (to == base) ≡ false → (x : ℕ) → to ≤ x → x < to + parts_size there
      → moved_image (shifted_file file to) to base (offsets_of shifts here) x ≡ slice_index (parts_bytes false there to (given_at to l (placement_at to l a vs) offset)) (x - to)
  moved_there other x low high =
      let same_size = same_parts in
      let at : x ≡ to + 0 + (x - to) = omega (arith, low) in
      ap (λ (b : Bool). (if b then marked (shifted_file file to) to else relocated (marked (shifted_file file to) to) to by (offsets_of shifts here)) x) other
      ∙ ap (relocated (marked (shifted_file file to) to) to by (offsets_of shifts here)) at ∙ relocated_there (x - to) (omega (arith, low, high, same_size))

  -- ---- it is an AIF there

  abbrev given_there : Given
  given_there = given_at to l (placement_at to l a vs) offset

  abbrev rs : List Planned
  rs = ro ∷ rw_ ∷ zi ∷ []

  sized_thing : (header : List ℕ) → length header ≡ 128 → AllByRecursion (λ r. AllByRecursion (λ t. length (filled_at to l a vs (placement_at to l a vs) header r t) ≡ size_of t) r.things) rs
  sized_thing header headed = all_indexed (λ r. AllByRecursion (λ t. length (filled_at to l a vs (placement_at to l a vs) header r t) ≡ size_of t) r.things) rs (λ n r at.
      let things = all_at (λ z. AllByRecursion (λ s. filled_at to l a vs (placement_at to l a vs) header z s.thing ≡ shifted_words by shifts (s.address - base) (filled_at base l a vs p header z s.thing)) (stood z.origin z.base z.things)) rs n r
      (bytes_law.things base to ram l a vs p header m headed) at in
      let sizes = all_stood (λ t. length (filled_at base l a vs p header r t) ≡ size_of t) r.origin r.base r.things (all_at (λ z. AllByRecursion (λ t. length (filled_at base l a vs p header z t) ≡ size_of t) z.things) rs n r (sized_here header headed) at) in
      things_of_stood (λ t. length (filled_at to l a vs (placement_at to l a vs) header r t) ≡ size_of t) r.origin r.base r.things
      (all_indexed (λ s. length (filled_at to l a vs (placement_at to l a vs) header r s.thing) ≡ size_of s.thing) (stood r.origin r.base r.things) (λ i s known.
      ap length (all_at (λ s. filled_at to l a vs (placement_at to l a vs) header r s.thing ≡ shifted_words by shifts (s.address - base) (filled_at base l a vs p header r s.thing)) (stood r.origin r.base r.things) i s things known)
      ∙ shifted_length by shifts (s.address - base) (filled_at base l a vs p header r s.thing)
      ∙ all_at (λ s. length (filled_at base l a vs p header r s.thing) ≡ size_of s.thing) (stood r.origin r.base r.things) i s sizes known)))

  sized_there : (moves : Bool) → AreSized (with_header moves there to given_there) there
  sized_there moves =
      let header : List ℕ = bytes_of_words (header_words moves there to (to + offset)) in
      let all = sized_thing header refl in
      (each ro header moves refl all.0, (each rw_ header moves refl all.1.0, (each zi header moves refl all.1.1.0, tt)))
    where
      each : (r : Planned) (header : List ℕ) (moves : Bool) → header ≡ bytes_of_words (header_words moves there to (to + offset))
          → AllByRecursion (λ t. length (filled_at to l a vs (placement_at to l a vs) header r t) ≡ size_of t) r.things → AllByRecursion (λ t. length (filled given_there there header r t) ≡ size_of t) r.things
      each r header moves is all = all_weaker (λ t. length (filled_at to l a vs (placement_at to l a vs) header r t) ≡ size_of t) (λ t. length (filled given_there there header r t) ≡ size_of t) (λ t. by_thing t) r.things all
        where
          by_thing : (t : Thing) → length (filled_at to l a vs (placement_at to l a vs) header r t) ≡ size_of t → length (filled given_there there header r t) ≡ size_of t
          by_thing Header h = h
          by_thing (AnArea x) h = h
          by_thing (AVeneer target thumb) h = h
          by_thing (Startup words) h = h

  is_aif : IsAif to true c items given_there None
  is_aif =
      let parts = same_parts in let cleared = same_zero in
      aif_there base c items (given_at base l p offset) ram image to whole (omega (arith, room, parts, cleared)) given_there sized_there (omega arith) same_parts same_zero (base_whole base ram l a vs p m.made)

  module _ (view : ByteMap) (v : IsViewAt to l a vs offset view) (other : (to == base) ≡ false) where
    known : (x : ℕ) → to ≤ x → x < to + parts_size there + zero_size there → view x ≡ Some (started_image (shifted_file file to) to (parts_size here) (zero_size here) base (moving_list base l a vs p) x)
    known x low high =
        started to true c items given_there None is_aif view v (moved_image (shifted_file file to) to base (offsets_of shifts here)) (moved_there other) x low high
        ∙ ap (λ n. Some (store (moved_image (shifted_file file to) to base (offsets_of shifts here)) (to + n) (zeros (zero_size there)) x)) same_parts
        ∙ ap (λ n. Some (store (moved_image (shifted_file file to) to base (offsets_of shifts here)) (to + parts_size here) (zeros n) x)) same_zero

    pub shows : ShowsImage file (parts_size here) (zero_size here) base (moving_list base l a vs p) to view
    shows =
        let parts = same_parts in let cleared = same_zero in
        record {
          inside = λ x n e.
              let (low, high) = within to true c items given_there None is_aif view v x (ap is_some e) in
              (low, omega (arith, high, parts, cleared), same (started_image (shifted_file file to) to (parts_size here) (zero_size here) base (moving_list base l a vs p) x) n (sym (known x low high) ∙ e));
          whole = λ x low high. (started_image (shifted_file file to) to (parts_size here) (zero_size here) base (moving_list base l a vs p) x, known x low (omega (arith, high, parts, cleared)));
        }
