use Rattle.std.proofs.Common.{◌≡◌, ◌+◌, ◌*◌, ◌^◌, ◌≤◌, ◌++◌, drop}
use Rattle.std.specs.Prelude.{sum_by}
use Rattle.link_place.specs.Parts.{piece_count}
use Rattle.link_place.specs.Layouts.{laid_from, loaded}
use Rattle.link_place.proofs.layouts.lay_parts.Given as goal

abbrev pub invariant-loop-part : goal.invariant-loop-part
invariant-loop-part l = record {
  size : l.size + loaded (laid_from l.words l.origin l.number (drop l.part-index l.parts) l.before (l.base + l.size))
      ≡ loaded (laid_from l.words l.origin l.number l.parts l.base l.base);
  regions : l.out.items ++ laid_from l.words l.origin l.number (drop l.part-index l.parts) l.before (l.base + l.size)
      ≡ l.initial.out.items ++ laid_from l.words l.origin l.number l.parts l.base l.base;
  room : l.before + 2 ^ 34 * sum_by piece_count (drop l.part-index l.parts) ≤ 2 ^ 62 + 2 ^ 32;
  short : l.size + 2 ^ 34 * sum_by piece_count (drop l.part-index l.parts) ≤ 2 ^ 62;
}
