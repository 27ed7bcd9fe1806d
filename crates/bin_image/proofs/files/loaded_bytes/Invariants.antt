use Rattle.std.proofs.Common.{◌≡◌, ◌++◌, drop}
use Rattle.std.specs.List.{flat_map}
use Rattle.link_model.specs.declared.images.LoadRegion.{LoadRegion}
use Rattle.bin_image.proofs.files.loaded_bytes.Given as goal

abbrev pub invariant-loop-load : goal.invariant-loop-load
invariant-loop-load l = l.bytes.items ++ flat_map (λ (d : LoadRegion). d.bytes) (drop l.load-index l.loads) ≡ flat_map (λ (d : LoadRegion). d.bytes) l.loads
