use Rattle.std.proofs.Common.{◌≡◌, ◌+◌, ◌≤◌, ℕ, false, length}
use Rattle.scatter_text.specs.Parts.{parts}
use Rattle.scatter_text.proofs.cuts.behind_gap.Given as goal

abbrev pub invariant-bytes : goal.invariant-bytes
invariant-bytes l =
    ((depth : ℕ) → parts false depth l.line l.rest ≡ parts false depth l.from l.text)
    × (l.line + length l.rest ≤ l.from + length l.text) × (length l.rest ≤ length l.text)

abbrev pub decreases-bytes : goal.decreases-bytes
decreases-bytes l = length l.rest
