use Rattle.std.proofs.Common.{◌<◌, ◌^◌, take}
use Rattle.std.specs.List.{AllByRecursion}
use Rattle.sdt_toolkit.proofs.sound.relocs_fit.Given as goal

abbrev pub invariant-loop-reloc : goal.invariant-loop-reloc
invariant-loop-reloc l = AllByRecursion (λ r. (r.offset < 2 ^ 32) × (r.word < 2 ^ 32)) (take l.reloc-index l.relocs)
