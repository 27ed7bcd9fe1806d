use Rattle.std.proofs.Common.{◌≡◌, ◌++◌, drop, flat_map}
use Rattle.sdt_listing.specs.Elfs as elfs
use Rattle.sdt_listing.proofs.elfs.push_loads.Given as goal

abbrev pub invariant-loop-segment : goal.invariant-loop-segment
invariant-loop-segment l = l.out.items ++ flat_map elfs.load_line (drop l.segment-index l.segments) ≡ l.fn.out.items ++ flat_map elfs.load_line l.segments
