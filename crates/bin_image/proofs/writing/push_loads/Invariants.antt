use Rattle.std.proofs.Common.{◌≡◌, ◌++◌, drop}
use Rattle.std.specs.List.{flat_map}
use Rattle.bin_image.specs.Maps.{ended, load_line}
use Rattle.bin_image.proofs.writing.push_loads.Given as goal

abbrev pub invariant-loop-load : goal.invariant-loop-load
invariant-loop-load l =
    l.out.items ++ flat_map (λ load. ended (load_line load)) (drop l.load-index l.loads)
    ≡ l.initial.out.items ++ flat_map (λ load. ended (load_line load)) l.loads
