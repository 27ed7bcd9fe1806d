use Rattle.std.proofs.Common.{◌≡◌, ◌++◌, drop, length}
use Rattle.asm_layout.specs.Outline.{marks_of}
use Rattle.asm_layout.proofs.outline.circular_of.Given as goal

abbrev pub invariant-firsts : goal.invariant-firsts
invariant-firsts l = l.marks.items ++ marks_of l.left (drop l.taken l.settled) ≡ marks_of l.firsts l.settled

abbrev pub decreases-firsts : goal.decreases-firsts
decreases-firsts l = length l.left
