use Rattle.std.proofs.Common.{◌≡◌, ◌+◌, ◌≤◌, drop}
use Rattle.elf_image.specs.Tables.{locals_in}
use Rattle.elf_image.proofs.naming.locals_in.Given as goal

abbrev pub invariant-loop-symbol : goal.invariant-loop-symbol
invariant-loop-symbol l = record {
  so_far : l.locals + locals_in (drop l.symbol-index l.symbols) ≡ locals_in l.symbols;
  few : l.locals ≤ l.symbol-index;
}
