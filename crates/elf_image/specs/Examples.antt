-- A file worked out by hand from the format (System V Application Binary Interface, Object Files; ELF for the ARM
-- Architecture): that of an image with one load region of 0xDC bytes at 0x8000, entered at 0x8004, and what reading tells
-- of it where its last byte is missing.
use Rattle.std.specs.Prelude.{◌≡◌, false, [], ◌∷◌, length, drop, replicate, take, Err}
use Rattle.sdt_fault.specs.declared.kinds.FileKind.TheVariants as kind
use Rattle.sdt_fault.specs.declared.refusal.Refusal.TheVariants.{BadImage}
use Rattle.link_model.specs.declared.images.Image.{Image}
use Rattle.link_model.specs.declared.images.ImageKind.TheVariants as form
use Rattle.link_model.specs.declared.images.LoadRegion.{LoadRegion}
use Rattle.elf_image.specs.Files.{elf_file, elf_words}
use Rattle.elf_image.specs.Reading.{elf_of}

abbrev pub region : LoadRegion
region = record { name = []; base = 0x8000; bytes = replicate 0xDC 0 }

abbrev pub image : Image
image = record {
  kind = form.Scatter;
  loads = region ∷ [];
  regions = [];
  start = 0x8004;
  entry = 0x8000;
  call = 0x8000;
  thumb = false;
  bound = 0;
  moves = [];
}

pub record WorkedExample : Type 0 where
  pub header :
      take 13 (elf_words image.start image.loads)
      ≡ 0x464C457F ∷ 0x00010101 ∷ 0 ∷ 0 ∷ 0x00280002
      ∷ 1 ∷ 0x8004 ∷ 0x34 ∷ 0 ∷ 0 ∷ 0x00200034 ∷ 1 ∷ 0 ∷ []
  pub load :
      drop 13 (elf_words image.start image.loads)
      ≡ 1 ∷ 0x54 ∷ 0x8000 ∷ 0x8000 ∷ 0xDC ∷ 0xDC ∷ 7 ∷ 4 ∷ []
  pub size : length (elf_file image) ≡ 0x130
  pub cut : elf_of (take 0x12F (elf_file image)) ≡ Err (BadImage [] 0x34 kind.Segment)
