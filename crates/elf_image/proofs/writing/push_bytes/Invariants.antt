use Rattle.std.proofs.Common.{◌≡◌, ◌++◌, drop}
use Rattle.elf_image.specs.Files.{loads_bytes}
use Rattle.elf_image.proofs.writing.push_bytes.Given as goal

abbrev pub invariant-loop-load : goal.invariant-loop-load
invariant-loop-load l = l.out.items ++ loads_bytes (drop l.load-index l.loads) ≡ l.fn.out.items ++ loads_bytes l.loads
