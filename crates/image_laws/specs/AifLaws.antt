-- The ARM image file of a placed image is what its startup needs, and it starts. This project's.
use Rattle.std.specs.Prelude.{◌≡◌, ◌≢◌, ℕ, ◌+◌, ◌-◌, ◌%◌, ◌^◌, ◌<◌, ◌≤◌, Bool, true, false, List, [], ◌∷◌, ◌++◌, Option, None}
use Rattle.sdt_word.specs.declared.ranges.Range32.{Range32}
use Rattle.boot_code.specs.Aif.{IsHeader, IsRelocatable, ShowsImage, IsFixedLoadable, shifted_file, file_at, aif_bound}
use Rattle.boot_code.specs.Boots.{ByteMap, Boots, covers}
use Rattle.boot_code.specs.Maps.{Holds, bytes_of_words}
use Rattle.place_model.specs.declared.scatter.Kind.TheVariants as kind
use Rattle.place_model.specs.Assignment.{AreAssigned}
use Rattle.place_model.specs.Faults.{place_refusal}
use Rattle.place_model.specs.Items.{Item}
use Rattle.place_model.specs.Laws.{AreWhole}
use Rattle.place_model.specs.Plans.{Contents, veneers_in}
use Rattle.image_model.specs.AifFiles.{parts_size, zero_size, with_header, offsets_of, parts_bytes, fixed_aif, relocatable_aif, aif_plan}
use Rattle.image_model.specs.Regions.{Given, AreSized}
use Rattle.image_model.specs.Views.{IsView}

-- what is placed is whole words, in the regions of its class, and nothing is refused; what stands in the regions has its
-- size; no veneer stands behind the parts, since what branches has bytes; the header calls a word of the image
pub record IsAif (base : ℕ) (relocatable : Bool) (c : Contents) (items : List Item) (g : Given) (ram : Option (List Range32)) : Type 0 where
  pub whole : AreWhole (kind.Aif base relocatable) c
  pub assigned : AreAssigned (kind.Aif base relocatable) items c.areas
  pub accepted : place_refusal (kind.Aif base relocatable) ram (aif_plan base relocatable c) ≡ None
  pub sized : (moves : Bool) → AreSized (with_header moves (aif_plan base relocatable c) base g) (aif_plan base relocatable c)
  pub no_veneers : veneers_in c 2 ≡ []
  pub call_whole : g.call % 4 ≡ 0
  pub call_low : base + 128 ≤ g.call
  pub call_high : g.call + 4 ≤ base + (parts_size (aif_plan base relocatable c) + zero_size (aif_plan base relocatable c))

-- wherever the file lies, with or without a relocator behind its parts, its header is one
abbrev pub HeaderLaw : Type 0
HeaderLaw =
    (base : ℕ) (relocatable : Bool) (c : Contents) (items : List Item) (g : Given) (ram : Option (List Range32)) → IsAif base relocatable c items g ram
    → (moves : Bool) (behind : List ℕ) (b : ℕ)
    → IsHeader (shifted_file (parts_bytes moves (aif_plan base relocatable c) base g ++ behind) b) b
    (parts_size (aif_plan base relocatable c)) (zero_size (aif_plan base relocatable c)) (g.call - base)

-- where the header has no shifts, the file of an image that can be moved has its relocator and list, wherever it lies
abbrev pub RelocatableLaw : Type 0
RelocatableLaw =
    (base : ℕ) (c : Contents) (items : List Item) (g : Given) (ram : Option (List Range32)) (shifts : ℕ → ℕ) → IsAif base true c items g ram
    → ((offset : ℕ) → offset < 128 → shifts offset ≡ 0) → (b : ℕ)
    → IsRelocatable (shifted_file (relocatable_aif (aif_plan base true c) base g shifts) b) b
    (parts_size (aif_plan base true c)) (zero_size (aif_plan base true c)) base (g.call - base) (offsets_of shifts (aif_plan base true c))

-- at its own base a view of the image, which calls no relocator, is what the file becomes there
abbrev pub OwnBaseLaw : Type 0
OwnBaseLaw =
    (base : ℕ) (c : Contents) (items : List Item) (g : Given) (ram : Option (List Range32)) (shifts : ℕ → ℕ) (view : ByteMap) → IsAif base true c items g ram
    → IsView (aif_plan base true c) (with_header false (aif_plan base true c) base g) view
    → ShowsImage (relocatable_aif (aif_plan base true c) base g shifts) (parts_size (aif_plan base true c)) (zero_size (aif_plan base true c)) base
    (offsets_of shifts (aif_plan base true c)) base view

-- the file of an image that can't be moved, and a view of it
pub record IsFixedImage (base : ℕ) (c : Contents) (items : List Item) (g : Given) (ram : Option (List Range32)) (view : ByteMap) : Type 0 where
  pub image : IsAif base false c items g ram
  pub shows : IsView (aif_plan base false c) (with_header false (aif_plan base false c) base g) view

abbrev pub FixedImageLoads : Type 0
FixedImageLoads =
    (base : ℕ) (c : Contents) (items : List Item) (g : Given) (ram : Option (List Range32)) (view : ByteMap) → IsFixedImage base c items g ram view
    → IsFixedLoadable (fixed_aif (aif_plan base false c) base g) (parts_size (aif_plan base false c)) (zero_size (aif_plan base false c)) (g.call - base) base view

-- where it goes by a veneer, that stands in the parts and leads to the entry
pub record HasEntryVeneer (base : ℕ) (c : Contents) (g : Given) (view : ByteMap) : Type 0 where
  pub inside : g.call + 12 ≤ base + parts_size (aif_plan base false c)
  pub shows : Holds view g.call (bytes_of_words (0xE59FC000 ∷ 0xE12FFF1C ∷ g.entry ∷ []))
  pub small : g.entry < 2 ^ 32
  pub fair : g.entry % 4 ≢ 2

-- it boots at its base
pub record FixedImageBoots : Type 0 where
  pub in_arm : (base : ℕ) (c : Contents) (items : List Item) (g : Given) (ram : Option (List Range32)) (view : ByteMap) → IsFixedImage base c items g ram view → g.entry ≡ g.call
      → Boots (file_at (fixed_aif (aif_plan base false c) base g) base) view (covers (base + parts_size (aif_plan base false c)) (zero_size (aif_plan base false c))) base
      (aif_bound 0 (zero_size (aif_plan base false c))) g.entry
  pub by_veneer : (base : ℕ) (c : Contents) (items : List Item) (g : Given) (ram : Option (List Range32)) (view : ByteMap) → IsFixedImage base c items g ram view → HasEntryVeneer base c g view
      → Boots (file_at (fixed_aif (aif_plan base false c) base g) base) view (covers (base + parts_size (aif_plan base false c)) (zero_size (aif_plan base false c))) base
      (aif_bound 0 (zero_size (aif_plan base false c))) g.entry
