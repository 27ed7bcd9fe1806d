use Rattle.std.proofs.Common.{◌≡◌, ◌+◌, ◌-◌, ◌<◌, ◌^◌, drop, length, min}
use Rattle.elf_image.specs.Files.{file_size, loads_bytes}
use Rattle.sdt_toolkit.proofs.images.elf_size.Given as goal

abbrev pub invariant-loop-load : goal.invariant-loop-load
invariant-loop-load l = record {
  whole : min (l.size + length (loads_bytes (drop l.load-index l.loads))) (2 ^ 64 - 1) ≡ min (file_size l.loads) (2 ^ 64 - 1);
  small : l.size < 2 ^ 64;
}
