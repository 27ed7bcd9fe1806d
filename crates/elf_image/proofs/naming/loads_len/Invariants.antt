use Rattle.std.proofs.Common.{◌≡◌, ◌+◌, drop, length}
use Rattle.elf_image.specs.Files.{loads_bytes}
use Rattle.elf_image.proofs.naming.loads_len.Given as goal

abbrev pub invariant-loop-load : goal.invariant-loop-load
invariant-loop-load l = l.len + length (loads_bytes (drop l.load-index l.loads)) ≡ length (loads_bytes l.loads)
