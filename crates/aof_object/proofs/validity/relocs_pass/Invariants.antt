use Rattle.std.proofs.Common.{◌≡◌, [], take, drop}
use Rattle.aof_object.specs.Tests.{all_pass, reloc_ok}
use Rattle.aof_object.proofs.validity.relocs_pass.Given as goal

abbrev pub invariant-loop-reloc : goal.invariant-loop-reloc
invariant-loop-reloc l = all_pass (reloc_ok l.areas l.symbols) (take l.reloc-index l.relocs) (drop l.reloc-index l.relocs) ≡ all_pass (reloc_ok l.areas l.symbols) [] l.relocs
