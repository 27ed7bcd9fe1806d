-- The file of a linked image as an ARM image file (SDT 2.50 Reference Guide, ARM Image Format; the relocator, the
-- zero-init code and which fields are zero are this project's): the words of its header, the read-only part behind it and
-- the read-write part and, where it can be moved, the relocator with its list.
use Rattle.std.specs.Prelude.{◌≡◌, ℕ, ◌+◌, ◌-◌, ◌/◌, ◌%◌, ◌^◌, ◌<◌, ◌≤◌, Bool, false, ◌==◌, if◌then◌else◌, List, [], ◌∷◌, ◌++◌, length, drop, slice_get, unwrap_or}
use Rattle.std.specs.Option.{option_map}
use Rattle.boot_code.specs.Words.{zero_list, relocator_list}
use Rattle.boot_code.specs.Maps.{bytes_of_words}
use Rattle.link_model.specs.declared.images.Aif.{Aif}
use Rattle.link_model.specs.declared.images.Image.{Image}
use Rattle.link_model.specs.declared.images.ImageKind.{ImageKind}
use Rattle.link_model.specs.declared.images.ImageKind.TheVariants as form
use Rattle.link_model.specs.declared.images.LoadRegion.{LoadRegion}
use Rattle.link_model.specs.declared.placing.Region.{Region}
use Rattle.aif_image.specs.Checks.{ReadsAif}

-- ---- an image's parts: its regions are RO with the header, RW and ZI

abbrev pub size_in : (Region → ℕ) → List Region → ℕ → ℕ
size_in size regions number = unwrap_or (option_map size (slice_get regions number)) 0

abbrev pub ro_size : List Region → ℕ
ro_size regions = size_in (λ r. r.length) regions 0

abbrev pub rw_size : List Region → ℕ
rw_size regions = size_in (λ r. r.length) regions 1

abbrev pub parts_size : List Region → ℕ
parts_size regions = ro_size regions + rw_size regions

abbrev pub zero_size : List Region → ℕ
zero_size regions = size_in (λ r. r.length + r.zero) regions 2

-- what is loaded, with zeros in the header's place
abbrev pub loaded : List LoadRegion → List ℕ
loaded loads = unwrap_or (option_map (λ l. l.bytes) (slice_get loads 0)) []

abbrev pub can_move : ImageKind → Bool
can_move (form.Aif relocatable) = relocatable
can_move other = false

-- ---- the header

-- BL from one offset to another behind it
abbrev pub call_from : ℕ → ℕ → ℕ
call_from at target = 0xEB000000 + (target - (at + 8)) / 4

-- the words in front of the zero-init code: a call of the relocator behind the parts or none, one of the zero-init code
-- or none, and one of what the image's `call` says
abbrev pub first_words : Bool → List Region → ℕ → ℕ → List ℕ
first_words moves regions base call =
    0xE1A00000
    ∷ (if moves then call_from 4 (parts_size regions) else 0xE1A00000)
    ∷ (if zero_size regions == 0 then 0xE1A00000 else call_from 8 0x40)
    ∷ call_from 0xC (call - base)
    ∷ 0xEF000011
    ∷ ro_size regions ∷ rw_size regions ∷ 0 ∷ zero_size regions
    ∷ 0 ∷ base ∷ 0
    ∷ 32
    ∷ 0 ∷ 0 ∷ 0
    ∷ []

abbrev pub header_words : Image → List ℕ
header_words i = first_words (can_move i.kind) i.regions i.start i.call ++ zero_list

-- ---- the file

abbrev pub parts_bytes : Image → List ℕ
parts_bytes i = bytes_of_words (header_words i) ++ drop 0x80 (loaded i.loads)

-- the relocator and its list
abbrev pub mover_bytes : List ℕ → List ℕ
mover_bytes moves = bytes_of_words (relocator_list ++ (moves ++ 0xFFFFFFFF ∷ []))

abbrev pub aif_file : Image → List ℕ
aif_file i = parts_bytes i ++ (if can_move i.kind then mover_bytes i.moves else [])

-- ---- its record

abbrev pub aif_record : Image → Aif
aif_record i = record {
  ro = ro_size i.regions;
  rw = rw_size i.regions;
  zero = zero_size i.regions;
  base = i.start;
  relocatable = can_move i.kind;
}

-- the parts are whole words and all that is loaded, they have 64 MiB at most, and so far from the base on is what the
-- header calls
pub record IsAif (i : Image) : Type 0 where
  pub ro_whole : ro_size i.regions % 4 ≡ 0
  pub rw_whole : rw_size i.regions % 4 ≡ 0
  pub zero_whole : zero_size i.regions % 4 ≡ 0
  pub header : 0x80 ≤ ro_size i.regions
  pub loads : length (loaded i.loads) ≡ parts_size i.regions
  pub parts : parts_size i.regions ≤ 2 ^ 26
  pub zeros : zero_size i.regions < 2 ^ 32
  pub base : i.start < 2 ^ 32
  pub call : i.call - i.start ≤ 2 ^ 26

-- the file reads as that
abbrev pub WrittenLaw : Type 0
WrittenLaw = (i : Image) → IsAif i → ReadsAif (aif_file i) (aif_record i)
