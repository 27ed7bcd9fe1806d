-- The load regions of a link are bytes, where the areas of its objects are.
use Rattle.std.proofs.Common.{◌≡◌, ℕ, zero, suc, ◌+◌, ◌-◌, ◌*◌, ◌/◌, ◌%◌, ◌^◌, ◌<◌, Bool, true, false, cond, ◌==◌, List, [], ◌∷◌, ◌++◌, length, Option, Some, None, refl, sym, subst, arith}
use Rattle.std.specs.Prelude.{slice_get, slice_index}
use Rattle.std.specs.List.{filter, find, AllByRecursion}
use Rattle.base_lemmas.proofs.BaseLemmas.{all_append, all_weaker, came_through, same}
use Rattle.sdt_word.specs.Bytes.{bytes_of}
use Rattle.sdt_word.specs.Numbers.{bit}
use Rattle.aof_object.specs.declared.records.Area.{Area}
use Rattle.aof_object.specs.declared.records.Object.{Object}
use Rattle.aof_object.specs.declared.records.Reloc.{Reloc}
use Rattle.boot_code.specs.Startup.{table_list, zeros}
use Rattle.boot_code.specs.Words.{boot_list}
use Rattle.boot_code.specs.Maps.{bytes_of_words}
use Rattle.patch_model.specs.Fields.{Home, Values, field_of}
use Rattle.patch_model.specs.Patched.{pc_offset, bias, total}
use Rattle.place_model.specs.declared.scatter.ScatterLoad.{ScatterLoad}
use Rattle.place_model.proofs.ListLemmas.{all_at, all_filter_map, all_indexed, all_map}
use Rattle.link_model.specs.declared.placing.PlacedArea.{PlacedArea}
use Rattle.link_model.specs.declared.placing.PlacedVeneer.{PlacedVeneer}
use Rattle.link_model.specs.declared.placing.Placement.{Placement}
use Rattle.link_model.specs.declared.placing.Region.{Region}
use Rattle.link_model.specs.declared.selection.Named.{Named}
use Rattle.link_model.specs.Members.{Link, objects_in}
use Rattle.link_model.specs.RegionValues.{area_of}
use Rattle.link_values.specs.Placed.{values_in}
use Rattle.link_apply.specs.Laws as law
use Rattle.link_apply.specs.PatchedBytes.{byte_by, has_byte, patched_bytes, patched_from, patched_number, veneer_bytes, with_displacement}
use Rattle.link_apply.specs.Placed.{target_in}
use Rattle.link_apply.specs.RegionBytes.{Piece, area_piece, area_pieces, bytes_from, copy_rows, entry_of, laid, region_bytes, regions_bytes, startup_list, startup_piece, veneer_piece, veneer_pieces, zero_rows}
use Rattle.armlink_core.specs.Images.{bytes_in, loads_from}
use Rattle.sdt_toolkit.specs.RunImages.{AreBytes}

abbrev IsByte : ℕ → Type 0
IsByte b = b < 256

abbrev pub OfBytes : List ℕ → Type 0
OfBytes bytes = AllByRecursion IsByte bytes

pub of_bytes : (bytes : List ℕ) → law.AreBytes bytes → OfBytes bytes
of_bytes [] h = tt
of_bytes (b ∷ bs) h = (h 0, of_bytes bs (λ i. h (suc i)))

pub each_byte : (bytes : List ℕ) → OfBytes bytes → (k : ℕ) → slice_index bytes k < 256
each_byte [] h k = omega arith
each_byte (b ∷ bs) h zero = h.0
each_byte (b ∷ bs) h (suc k) = each_byte bs h.1 k

pub joined : (xs ys : List ℕ) → OfBytes xs → OfBytes ys → OfBytes (xs ++ ys)
joined xs ys a b = all_append IsByte xs ys a b

-- ---- numbers, words and zeros

number_bytes : (v k : ℕ) → OfBytes (bytes_of v k)
number_bytes v zero = tt
number_bytes v (suc k) = (omega arith, number_bytes (v / 256) k)

pub words_bytes : (ws : List ℕ) → OfBytes (bytes_of_words ws)
words_bytes [] = tt
words_bytes (w ∷ ws) = joined (bytes_of w 4) (bytes_of_words ws) (number_bytes w 4) (words_bytes ws)

zero_bytes : (n : ℕ) → OfBytes (zeros n)
zero_bytes zero = tt
zero_bytes (suc n) = (omega arith, zero_bytes n)

-- ---- pieces of a region

low_byte : (n : ℕ) → n % 2 ^ 8 < 256
low_byte n = omega arith

module _ (p : Placement) (values : Values) (region base : ℕ) (a : Area) where
  patched_byte : (i byte : ℕ) (o : Option Reloc) → byte < 256 → byte_by p values region base a i byte o < 256
  patched_byte i byte None h = h
  patched_byte i byte (Some r) h = low_byte (patched_number p values region base a (field_of r) / 2 ^ (8 * (i - (field_of r).place)))

  are_patched : (i : ℕ) (bytes : List ℕ) → OfBytes bytes → OfBytes (patched_from p values region base a i bytes)
  are_patched i [] h = tt
  are_patched i (byte ∷ bytes) h = (patched_byte i byte (find (has_byte i) a.relocs) h.0, are_patched (suc i) bytes h.1)

three_numbers : (a b c j k n : ℕ) → OfBytes (bytes_of a j ++ bytes_of b k ++ bytes_of c n)
three_numbers a b c j k n = joined (bytes_of a j ++ bytes_of b k) (bytes_of c n) (joined (bytes_of a j) (bytes_of b k) (number_bytes a j) (number_bytes b k)) (number_bytes c n)

are_of_veneer : (v target : ℕ) (thumb : Bool) → OfBytes (veneer_bytes v target thumb)
are_of_veneer v target true = three_numbers 0xE59FC000 0xE12FFF1C ((target + 1) % 2 ^ 32) 4 4 4
are_of_veneer v target false = three_numbers 0x4778 0x46C0 (with_displacement false 0xEA000000 (total target (bias false) (v + 4 + pc_offset false))) 2 2 4

abbrev OfPiece : Piece → Type 0
OfPiece q = OfBytes q.1

are_laid : (at : ℕ) (pieces : List Piece) → AllByRecursion OfPiece pieces → OfBytes (laid at pieces)
are_laid at [] h = tt
are_laid at ((address, bytes) ∷ pieces) h =
    let later : List ℕ = laid (address + length bytes) pieces in
    joined (zeros (address - at)) (bytes ++ later) (zero_bytes (address - at)) (joined bytes later h.0 (are_laid (address + length bytes) pieces h.1))

-- ---- regions

abbrev HasBytes : Object → Type 0
HasBytes o = AllByRecursion (λ a. OfBytes a.bytes) o.areas

module _ (l : Link) (p : Placement) (objects : AllByRecursion HasBytes l.objects) where
  area_bytes : (placed : PlacedArea) (a : Area) → area_of l.objects placed.area ≡ Some a → OfBytes a.bytes
  area_bytes placed a at =
      let (o, there, own) = came_through (λ (o : Object). slice_get o.areas placed.area.area) (slice_get l.objects placed.area.object) a at in
      all_at (λ z. OfBytes z.bytes) o.areas placed.area.area a (all_at HasBytes l.objects placed.area.object o objects there) own

  of_area : (placed : PlacedArea) (o : Option Area) (y : Piece) → area_of l.objects placed.area ≡ o → area_piece l p placed o ≡ Some y → OfPiece y
  of_area placed None y at h = absurd cc
  of_area placed (Some a) y at h = go (bit a.attributes 12 == 1) h
    where
      patched : List ℕ
      patched = patched_bytes p (values_in l p placed.area.object) placed.region placed.address a

      go : (b : Bool) → cond b None (Some (placed.address, patched)) ≡ Some y → OfPiece y
      go true e = absurd (let bad : ◌≡◌ {A = Option Piece} None (Some y) = e in cc)
      go false e =
          subst OfPiece (same (placed.address, patched) y e)
          (are_patched p (values_in l p placed.area.object) placed.region placed.address a 0 a.bytes (area_bytes placed a at))

  of_areas : (region : ℕ) → AllByRecursion OfPiece (area_pieces l p region)
  of_areas region =
      all_filter_map OfPiece (λ a. area_piece l p a (area_of l.objects a.area)) (filter (λ a. a.region == region) p.areas)
      (λ placed y h. of_area placed (area_of l.objects placed.area) y refl h)

  abbrev home_in : PlacedVeneer → Home
  home_in v = record { object = v.veneer.area.object; area = v.veneer.area.area; offset = v.veneer.offset }

  of_veneers : (region : ℕ) → AllByRecursion OfPiece (veneer_pieces p region)
  of_veneers region =
      let vs : List PlacedVeneer = filter (λ v. v.veneer.region == region) p.veneers in
      all_map OfPiece (veneer_piece p) vs (all_indexed (λ v. OfPiece (veneer_piece p v)) vs (λ i v at. are_of_veneer v.address (target_in p (home_in v)) v.veneer.thumb))

  of_startup : (region : ℕ) (r : Region) (boot : Option ℕ) → AllByRecursion OfPiece (startup_piece l p region r boot)
  of_startup zero r (Some boot) =
      let filler : ℕ = r.base + r.length - boot - length (startup_list l p) in
      (joined (startup_list l p) (zeros filler) (words_bytes (boot_list ++ table_list (copy_rows p) (zero_rows p) (entry_of l p))) (zero_bytes filler), tt)
  of_startup zero r None = tt
  of_startup (suc n) r (Some boot) = tt
  of_startup (suc n) r None = tt

  of_region : (region : ℕ) (r : Region) → OfBytes (region_bytes l p region r)
  of_region region r =
      let pieces : List Piece = area_pieces l p region ++ (veneer_pieces p region ++ startup_piece l p region r p.boot) in
      let filler : ℕ = r.length - length (laid r.base pieces) in
      joined (laid r.base pieces) (zeros filler)
      (are_laid r.base pieces
      (all_append OfPiece (area_pieces l p region) (veneer_pieces p region ++ startup_piece l p region r p.boot) (of_areas region)
      (all_append OfPiece (veneer_pieces p region) (startup_piece l p region r p.boot) (of_veneers region) (of_startup region r p.boot))))
      (zero_bytes filler)

  of_regions : (region : ℕ) (rs : List Region) → AllByRecursion OfBytes (bytes_from l p region rs)
  of_regions region [] = tt
  of_regions region (r ∷ rs) = (of_region region r, of_regions (suc region) rs)

-- ---- load regions

of_load : (number : ℕ) (rs : List Region) (parts : List (List ℕ)) → AllByRecursion OfBytes parts → OfBytes (bytes_in number rs parts)
of_load number [] parts h = tt
of_load number (r ∷ rs) [] h = tt
of_load number (r ∷ rs) (bytes ∷ parts) h = go (r.load_region == number) (of_load number rs parts h.1)
  where
    go : (b : Bool) → OfBytes (bytes_in number rs parts) → OfBytes (cond b bytes [] ++ bytes_in number rs parts)
    go true rest = joined bytes (bytes_in number rs parts) h.0 rest
    go false rest = rest

of_loads : (number : ℕ) (rs : List Region) (parts : List (List ℕ)) (ds : List ScatterLoad) → AllByRecursion OfBytes parts → AreBytes (loads_from number rs parts ds)
of_loads number rs parts [] h = tt
of_loads number rs parts (d ∷ ds) h = (each_byte (bytes_in number rs parts) (of_load number rs parts h), of_loads (suc number) rs parts ds h)

objects_bytes : (os : List (Named Object)) → AllByRecursion (λ o. AllByRecursion (λ a. law.AreBytes a.bytes) o.value.areas) os → AllByRecursion HasBytes (objects_in os)
objects_bytes os h =
    all_map HasBytes (λ (o : Named Object). o.value) os
    (all_weaker (λ o. AllByRecursion (λ a. law.AreBytes a.bytes) o.value.areas) (λ o. HasBytes o.value)
    (λ o own. all_weaker (λ a. law.AreBytes a.bytes) (λ a. OfBytes a.bytes) (λ a bytes. of_bytes a.bytes bytes) o.value.areas own) os h)

pub loads_are_bytes : (l : Link) (p : Placement) (os : List (Named Object)) → l.objects ≡ objects_in os
    → AllByRecursion (λ o. AllByRecursion (λ a. law.AreBytes a.bytes) o.value.areas) os → (ds : List ScatterLoad) → AreBytes (loads_from 0 p.regions (regions_bytes l p) ds)
loads_are_bytes l p os own h ds =
    let objects : AllByRecursion HasBytes l.objects = subst (AllByRecursion HasBytes) (sym own) (objects_bytes os h) in
    of_loads 0 p.regions (regions_bytes l p) ds (of_regions l p objects 0 p.regions)
