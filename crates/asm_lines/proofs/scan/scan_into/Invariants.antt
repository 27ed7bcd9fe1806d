use Rattle.std.proofs.Common.{length, ◌-◌}
use Rattle.asm_lines.proofs.ScanLemmas.{IsScan}
use Rattle.asm_lines.proofs.scan.scan_into.Given as goal

abbrev pub invariant-tokens : goal.invariant-tokens
invariant-tokens l = IsScan l.text l.tokens.items l.due l.place

abbrev pub decreases-tokens : goal.decreases-tokens
decreases-tokens l = length l.text - l.place
