use Rattle.std.proofs.Common.{◌≡◌, ◌+◌, ◌^◌, take}
use Rattle.std.specs.Prelude.{sum_by}
use Rattle.link_place.specs.Parts.{piece_count}
use Rattle.link_place.proofs.parts.are_few.Given as goal

abbrev pub invariant-loop-part : goal.invariant-loop-part
invariant-loop-part l = l.room + sum_by piece_count (take l.part-index l.parts) ≡ 2 ^ 28
