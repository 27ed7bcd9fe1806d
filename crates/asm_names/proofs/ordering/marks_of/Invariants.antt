use Rattle.std.proofs.Common.{◌≡◌, map, take}
use Rattle.asm_names.specs.Search.{is_known}
use Rattle.asm_names.proofs.ordering.marks_of.Given as goal

abbrev pub invariant-loop-equal : goal.invariant-loop-equal
invariant-loop-equal l = l.marks.items ≡ map (λ e. is_known l.index l.known e.name.now) (take l.equal-index l.equals)
