use Rattle.std.proofs.Common.{◌≡◌, ◌++◌, map, take}
use Rattle.sdt_toolkit.specs.RunImages as images
use Rattle.sdt_toolkit.proofs.big_image.push_load_needs.Given as goal

abbrev pub invariant-loop-load : goal.invariant-loop-load
invariant-loop-load l = l.needs.items ≡ l.fn.needs.items ++ map images.load_need (take l.load-index l.loads)
