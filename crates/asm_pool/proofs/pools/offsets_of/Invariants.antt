use Rattle.std.proofs.Common.{◌≡◌, ◌<◌, ◌+◌, ◌*◌, ◌^◌, ◌++◌, length, drop}
use Rattle.asm_pool.specs.Index.{offsets_from}
use Rattle.asm_pool.proofs.pools.offsets_of.Given as goal

abbrev pub invariant-literals : goal.invariant-literals
invariant-literals l = record {
  told : l.offsets.items ++ offsets_from l.at (drop l._literal-index l.literals) ≡ offsets_from l.fn.offset l.literals;
  room : l.at + 4 * length (drop l._literal-index l.literals) < 2 ^ 32;
}
