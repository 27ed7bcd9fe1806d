use Rattle.std.proofs.Common.{◌≡◌, map}
use Rattle.sdt_toolkit.specs.RunImages as images
use Rattle.sdt_toolkit.proofs.big_image.loads_of.Given as goal

abbrev pub invariant-loop-load : goal.invariant-loop-load
invariant-loop-load l = l.out.items ≡ map images.load_of l.yielded
