use Rattle.std.proofs.Common.{◌≡◌, take, map}
use Rattle.bin_image.specs.Files.{map_load}
use Rattle.bin_image.proofs.files.map_loads.Given as goal

abbrev pub invariant-loop-load : goal.invariant-loop-load
invariant-loop-load l = l.mapped.items ≡ map (map_load l.out) (take l.load-index l.loads)
