-- The files of a scatter image, worked out by hand.
use Rattle.std.proofs.Common.{◌≡◌, false, [], ◌∷◌, refl}
use Rattle.std.specs.Prelude.{codes}
use Rattle.std.specs.List.{flat_map}
use Rattle.link_model.specs.declared.images.Image.{Image}
use Rattle.link_model.specs.declared.images.ImageKind.TheVariants as form
use Rattle.bin_image.specs.Fields.{address}
use Rattle.bin_image.specs.Maps.{bound_line, ended}
use Rattle.bin_image.specs.Files.{load_files}

abbrev scatter_image : Image
scatter_image = record {
  kind = form.Scatter;
  loads = (record { name = codes "ROM"; base = 0x8000; bytes = 1 ∷ 2 ∷ 3 ∷ 4 ∷ [] }) ∷ [];
  regions = (record { name = codes "CODE"; load_region = 0; load = 0x8000; base = 0x8000; length = 4; zero = 0 })
      ∷ (record { name = codes "DATA"; load_region = 0; load = 0x8004; base = 0x10000; length = 0; zero = 0x10 })
      ∷ (record { name = codes "END"; load_region = 0; load = 0x8004; base = 0x100000000; length = 0; zero = 0 }) ∷ [];
  start = 0x8000;
  entry = 0x8001;
  call = 0x8001;
  thumb = false;
  bound = 70;
  moves = [];
}

files_row : load_files scatter_image (codes "out")
    ≡ (record { name = codes "out.ROM"; bytes = 1 ∷ 2 ∷ 3 ∷ 4 ∷ [] })
    ∷ (record {
      name = codes "out.map";
      bytes = flat_map ended (
          codes "armsdt map 1"
          ∷ codes "load ROM 00008000 00000004 out.ROM"
          ∷ codes "exec CODE 00008000 00008000 00000004 00000000"
          ∷ codes "exec DATA 00008004 00010000 00000000 00000010"
          ∷ codes "exec END 00008004 00000000 00000000 00000000"
          ∷ codes "start 00008000"
          ∷ codes "entry 00008001 ARM"
          ∷ bound_line 70
          ∷ codes "end"
          ∷ []
          );
    }) ∷ []
unfolding address
files_row = refl
