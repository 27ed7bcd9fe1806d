use Rattle.std.proofs.Common.{◌≡◌, drop}
use Rattle.aof_object.specs.declared.parts.Found.TheVariants.{Absent}
use Rattle.aof_object.specs.Parts.{named, found_with}
use Rattle.aof_object.proofs.parts.find.Given as goal

abbrev pub invariant-loop-span : goal.invariant-loop-span
invariant-loop-span l = found_with l.found (named l.name (drop l.span-index l.spans)) ≡ found_with Absent (named l.name l.spans)
