use Rattle.std.proofs.Common.{◌≡◌}
use Rattle.sdt_toolkit.specs.Inputs.{objects_among, archives_among}
use Rattle.sdt_toolkit.proofs.images.parts_of.Given as goal

abbrev pub invariant-loop-input : goal.invariant-loop-input
invariant-loop-input l = record {
  objects : l.objects.items ≡ objects_among l.yielded;
  archives : l.archives.items ≡ archives_among l.yielded;
}
