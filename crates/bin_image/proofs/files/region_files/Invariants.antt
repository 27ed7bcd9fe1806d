use Rattle.std.proofs.Common.{◌≡◌, take, map}
use Rattle.bin_image.specs.Files.{load_file}
use Rattle.bin_image.proofs.files.region_files.Given as goal

abbrev pub invariant-loop-load : goal.invariant-loop-load
invariant-loop-load l = l.files.items ≡ map (load_file l.out) (take l.load-index l.loads)
