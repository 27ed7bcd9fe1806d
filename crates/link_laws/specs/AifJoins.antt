-- A relocatable AIF starts at every base: its plan, its bytes and its view there are those at its link base, moved. SDT 2.50
-- Reference Guide, ARM Image Format; the counting of shifts is this project's.
use Rattle.std.specs.Prelude.{◌≡◌, ◌≢◌, ℕ, ◌+◌, ◌-◌, ◌*◌, ◌%◌, ◌^◌, ◌<◌, ◌≤◌, ◌==◌, true, false, if◌then◌else◌, List, [], ◌∷◌, ◌++◌, length, map, Option, None}
use Rattle.std.specs.List.{AllByRecursion}
use Rattle.sdt_word.specs.declared.ranges.Range32.{Range32}
use Rattle.sdt_word.specs.Bytes.{bytes_of, number_of}
use Rattle.place_model.specs.declared.scatter.Kind.TheVariants as kind
use Rattle.place_model.specs.Plans.{Contents, Planned, length_of, zero_length_of, PlannedLoad, Plan, regions_of, stood_in}
use Rattle.place_model.specs.Things.{Stood, stood}
use Rattle.boot_code.specs.Aif.{ShowsImage, BootsAif, aif_bound}
use Rattle.boot_code.specs.Boots.{ByteMap}
use Rattle.boot_code.specs.Maps.{Holds, bytes_of_words}
use Rattle.place_model.specs.Items.{Item}
use Rattle.image_model.specs.AifFiles.{parts_size, zero_size, with_header, offsets_of, relocatable_aif, aif_plan}
use Rattle.image_model.specs.Regions.{Given, Filling, region_bytes, filled}
use Rattle.image_model.specs.Views.{IsView}
use Rattle.image_laws.specs.AifLaws.{IsAif}
use Rattle.link_model.specs.declared.placing.Assigned.{Assigned}
use Rattle.link_model.specs.declared.placing.Placement.{Placement}
use Rattle.link_model.specs.declared.placing.Veneer.{Veneer}
use Rattle.link_model.specs.declared.selection.Linked.{Linked}
use Rattle.link_model.specs.Members.{link_of}
use Rattle.link_items.specs.LinkedItems.{contents_of}
use Rattle.link_place.specs.Placed.{placement_of}
use Rattle.link_values.specs.Shifts.{shifts_of, not_relocatable}
use Rattle.link_laws.specs.Joins.{IsMade, given_in}

-- ---- plans

abbrev pub moved_region : ℕ → Planned → Planned
moved_region by r = record r { origin = r.origin + by; load = r.load + by; base = r.base + by }

abbrev pub moved_load : ℕ → PlannedLoad → PlannedLoad
moved_load by l = record l { base = l.base + by; regions = map (moved_region by) l.regions }

abbrev pub moved_plan : ℕ → Plan → Plan
moved_plan by p = map (moved_load by) p

abbrev pub moved_thing : ℕ → Stood → Stood
moved_thing by s = record s { address = s.address + by }

-- the plan at another base has the same regions there, with the same things as far behind it
pub record PlanMoves : Type 0 where
  pub plan : (base by : ℕ) (c : Contents) → aif_plan (base + by) true c ≡ moved_plan by (aif_plan base true c)
  pub things : (by : ℕ) (r : Planned) → stood_in (moved_region by r) ≡ map (moved_thing by) (stood_in r)
  pub lengths : (by : ℕ) (r : Planned) → (length_of (moved_region by r) ≡ length_of r) × (zero_length_of (moved_region by r) ≡ zero_length_of r)

-- ---- bytes

-- from one base to another, modulo 2^32
abbrev pub shift_between : ℕ → ℕ → ℕ
shift_between from to = (to + 2 ^ 32 - from) % 2 ^ 32

-- a word that is shifted so often
abbrev pub shifted_word : ℕ → ℕ → List ℕ → List ℕ
shifted_word by n bytes = if n == 0 then bytes else bytes_of ((number_of bytes + by * n) % 2 ^ 32) 4

-- bytes from an offset on, each of whose words is shifted as often as it has shifts
abbrev pub shifted_words : ℕ → (ℕ → ℕ) → ℕ → List ℕ → List ℕ
shifted_words by shifts at (a ∷ b ∷ c ∷ d ∷ bytes) =
    shifted_word by (shifts at) (a ∷ b ∷ c ∷ d ∷ []) ++ shifted_words by shifts (at + 4) bytes
shifted_words by shifts at bytes = bytes

-- ---- a link that is made as a relocatable AIF, at another base

abbrev pub placement_at : ℕ → Linked → Assigned → List Veneer → Placement
placement_at base l a vs = placement_of (aif_plan base true (contents_of l.objects a.regions vs))

pub record MayMoveTo (base to : ℕ) (ram : Option (List Range32)) (l : Linked) (a : Assigned) (vs : List Veneer) (p : Placement) : Type 0 where
  pub made : IsMade (kind.Aif base true) ram l a vs p
  pub movable : not_relocatable l p ≡ None

-- what its regions hold there, with some header
abbrev pub filled_at : ℕ → Linked → Assigned → List Veneer → Placement → List ℕ → Filling
filled_at base l a vs p header = filled (given_in (link_of l) p) (aif_plan base true (contents_of l.objects a.regions vs)) header

-- each area and each veneer has the bytes that it has at the link base, each of whose words is shifted as often as it has
-- shifts; so have the regions, between things too; and no word of the header has any
pub record BytesMove : Type 0 where
  pub things : (base to : ℕ) (ram : Option (List Range32)) (l : Linked) (a : Assigned) (vs : List Veneer) (p : Placement) (header : List ℕ)
      → MayMoveTo base to ram l a vs p → length header ≡ 128
      → AllByRecursion (λ r. AllByRecursion (λ s. filled_at to l a vs (placement_at to l a vs) header r s.thing
      ≡ shifted_words (shift_between base to) (shifts_of (link_of l) p) (s.address - base) (filled_at base l a vs p header r s.thing)) (stood r.origin r.base r.things))
      (regions_of (aif_plan base true (contents_of l.objects a.regions vs)))
  pub regions : (base to : ℕ) (ram : Option (List Range32)) (l : Linked) (a : Assigned) (vs : List Veneer) (p : Placement) (header : List ℕ)
      → MayMoveTo base to ram l a vs p → length header ≡ 128
      → map (region_bytes (filled_at to l a vs (placement_at to l a vs) header)) (regions_of (aif_plan to true (contents_of l.objects a.regions vs)))
      ≡ map (λ r. shifted_words (shift_between base to) (shifts_of (link_of l) p) (r.base - base) (region_bytes (filled_at base l a vs p header) r))
      (regions_of (aif_plan base true (contents_of l.objects a.regions vs)))
  pub header : (base : ℕ) (ram : Option (List Range32)) (l : Linked) (a : Assigned) (vs : List Veneer) (p : Placement)
      → IsMade (kind.Aif base true) ram l a vs p → not_relocatable l p ≡ None
      → (offset : ℕ) → offset < 128 → shifts_of (link_of l) p offset ≡ 0

-- ---- its file, at every base

-- what it is made of there, where its header calls what stands at an offset in the image
abbrev pub given_at : ℕ → Linked → Placement → ℕ → Given
given_at base l p offset = record (given_in (link_of l) p) { call = base + offset }

abbrev pub moving_list : ℕ → Linked → Assigned → List Veneer → Placement → List ℕ
moving_list base l a vs p = offsets_of (shifts_of (link_of l) p) (aif_plan base true (contents_of l.objects a.regions vs))

abbrev pub moving_file : ℕ → Linked → Assigned → List Veneer → Placement → ℕ → List ℕ
moving_file base l a vs p offset =
    relocatable_aif (aif_plan base true (contents_of l.objects a.regions vs)) base (given_at base l p offset) (shifts_of (link_of l) p)

-- the view of its plan there
abbrev pub IsViewAt : ℕ → Linked → Assigned → List Veneer → ℕ → ByteMap → Type 0
IsViewAt to l a vs offset view =
    IsView (aif_plan to true (contents_of l.objects a.regions vs))
    (with_header false (aif_plan to true (contents_of l.objects a.regions vs)) to (given_at to l (placement_at to l a vs) offset)) view

-- at another base that leaves room, the file becomes that view
abbrev pub MovedImageShows : Type 0
MovedImageShows =
    (base to : ℕ) (ram : Option (List Range32)) (l : Linked) (a : Assigned) (vs : List Veneer) (p : Placement) (items : List Item) (offset : ℕ) (view : ByteMap)
    → MayMoveTo base to ram l a vs p → IsAif base true (contents_of l.objects a.regions vs) items (given_at base l p offset) ram
    → to % 4 ≡ 0
    → to + parts_size (aif_plan base true (contents_of l.objects a.regions vs)) + zero_size (aif_plan base true (contents_of l.objects a.regions vs)) ≤ 2 ^ 32
    → IsViewAt to l a vs offset view
    → ShowsImage (moving_file base l a vs p offset) (parts_size (aif_plan base true (contents_of l.objects a.regions vs)))
    (zero_size (aif_plan base true (contents_of l.objects a.regions vs))) base (moving_list base l a vs p) to view

-- a base at which there is room for the file and for the zero part
pub record HasRoomAt (file : List ℕ) (parts zero to : ℕ) : Type 0 where
  pub whole : to % 4 ≡ 0
  pub file_room : to + length file ≤ 2 ^ 32
  pub zero_room : to + parts + zero ≤ 2 ^ 32

-- a link that is made as a relocatable AIF, whose header calls what stands at an offset, with its view at each such base
pub record IsMovingImage (base : ℕ) (ram : Option (List Range32)) (l : Linked) (a : Assigned) (vs : List Veneer) (p : Placement) (items : List Item) (offset : ℕ)
    (view : ℕ → ByteMap) : Type 0 where
  pub made : IsMade (kind.Aif base true) ram l a vs p
  pub movable : not_relocatable l p ≡ None
  pub image : IsAif base true (contents_of l.objects a.regions vs) items (given_at base l p offset) ram
  pub shows : (to : ℕ) → HasRoomAt (moving_file base l a vs p offset) (parts_size (aif_plan base true (contents_of l.objects a.regions vs)))
      (zero_size (aif_plan base true (contents_of l.objects a.regions vs))) to → IsViewAt to l a vs offset (view to)

-- it goes by a veneer in its parts, which leads to an entry
pub record EntersByVeneer (parts offset entry to : ℕ) (view : ByteMap) : Type 0 where
  pub inside : offset + 12 ≤ parts
  pub shows : Holds view (to + offset) (bytes_of_words (0xE59FC000 ∷ 0xE12FFF1C ∷ entry ∷ []))
  pub small : entry < 2 ^ 32
  pub fair : entry % 4 ≢ 2

-- it boots from each such base, to what is called in ARM state, or by a veneer
pub record MovedImageBoots : Type 0 where
  pub in_arm : (base : ℕ) (ram : Option (List Range32)) (l : Linked) (a : Assigned) (vs : List Veneer) (p : Placement) (items : List Item) (offset : ℕ) (view : ℕ → ByteMap)
      → IsMovingImage base ram l a vs p items offset view
      → BootsAif (moving_file base l a vs p offset) (parts_size (aif_plan base true (contents_of l.objects a.regions vs)))
      (zero_size (aif_plan base true (contents_of l.objects a.regions vs))) view
      (aif_bound (length (moving_list base l a vs p)) (zero_size (aif_plan base true (contents_of l.objects a.regions vs)))) (λ to. to + offset)
  pub by_veneer : (base : ℕ) (ram : Option (List Range32)) (l : Linked) (a : Assigned) (vs : List Veneer) (p : Placement) (items : List Item) (offset : ℕ) (view : ℕ → ByteMap)
      (entry : ℕ → ℕ) → IsMovingImage base ram l a vs p items offset view
      → ((to : ℕ) → HasRoomAt (moving_file base l a vs p offset) (parts_size (aif_plan base true (contents_of l.objects a.regions vs)))
      (zero_size (aif_plan base true (contents_of l.objects a.regions vs))) to
      → EntersByVeneer (parts_size (aif_plan base true (contents_of l.objects a.regions vs))) offset (entry to) to (view to))
      → BootsAif (moving_file base l a vs p offset) (parts_size (aif_plan base true (contents_of l.objects a.regions vs)))
      (zero_size (aif_plan base true (contents_of l.objects a.regions vs))) view
      (aif_bound (length (moving_list base l a vs p)) (zero_size (aif_plan base true (contents_of l.objects a.regions vs)))) entry
