-- What is written of an image is the file of its plan (SDT 2.50 Reference Guide, ARM Image Format).
use Rattle.std.specs.Prelude.{◌≡◌, ℕ, ◌+◌, true, false, List, map, Option}
use Rattle.std.specs.List.{flat_map}
use Rattle.sdt_word.specs.declared.ranges.Range32.{Range32}
use Rattle.boot_code.specs.Startup.{zeros}
use Rattle.place_model.specs.Items.{Item}
use Rattle.place_model.specs.Plans.{Contents, length_of, execution_size, Plan, regions_of}
use Rattle.image_model.specs.AifFiles.{aif_plan, fixed_aif, offsets_of, relocatable_aif}
use Rattle.image_model.specs.Regions.{Given, filled, region_bytes}
use Rattle.image_laws.specs.AifLaws.{IsAif}
use Rattle.link_model.specs.declared.images.Image.{Image}
use Rattle.link_model.specs.declared.images.ImageKind.TheVariants as form
use Rattle.aif_image.specs.Files.{aif_file, loaded}

-- the image of a plan: what its regions hold, with zeros in the place of the header, and their sizes
pub record IsOfPlan (base : ℕ) (p : Plan) (g : Given) (i : Image) : Type 0 where
  pub loads : loaded i.loads ≡ flat_map (region_bytes (filled g p (zeros 0x80))) (regions_of p)
  pub lengths : map (λ r. r.length) i.regions ≡ map length_of (regions_of p)
  pub sizes : map (λ r. r.length + r.zero) i.regions ≡ map execution_size (regions_of p)
  pub start : i.start ≡ base
  pub call : i.call ≡ g.call

abbrev pub FixedFile : Type 0
FixedFile =
    (base : ℕ) (c : Contents) (items : List Item) (g : Given) (ram : Option (List Range32)) (i : Image) → IsAif base false c items g ram
    → i.kind ≡ form.Aif false → IsOfPlan base (aif_plan base false c) g i
    → aif_file i ≡ fixed_aif (aif_plan base false c) base g

-- with a list of as many offsets of each word as it has shifts
abbrev pub RelocatableFile : Type 0
RelocatableFile =
    (base : ℕ) (c : Contents) (items : List Item) (g : Given) (ram : Option (List Range32)) (i : Image) (shifts : ℕ → ℕ) → IsAif base true c items g ram
    → i.kind ≡ form.Aif true → IsOfPlan base (aif_plan base true c) g i → i.moves ≡ offsets_of shifts (aif_plan base true c)
    → aif_file i ≡ relocatable_aif (aif_plan base true c) base g shifts
