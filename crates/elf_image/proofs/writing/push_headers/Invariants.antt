use Rattle.std.proofs.Common.{◌≡◌, ◌+◌, ◌^◌, ◌<◌, ◌++◌, drop, length}
use Rattle.boot_code.specs.Maps.{bytes_of_words}
use Rattle.elf_image.specs.Files.{loads_bytes, loads_words}
use Rattle.elf_image.proofs.writing.push_headers.Given as goal

abbrev pub invariant-loop-load : goal.invariant-loop-load
invariant-loop-load l = record {
  so_far : l.out.items ++ bytes_of_words (loads_words l.offset (drop l.load-index l.loads)) ≡ l.fn.out.items ++ bytes_of_words (loads_words l.fn.first l.loads);
  small : l.offset + length (loads_bytes (drop l.load-index l.loads)) < 2 ^ 32;
}
