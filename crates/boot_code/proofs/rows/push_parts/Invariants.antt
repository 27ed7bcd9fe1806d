use Rattle.std.proofs.Common.{◌≡◌, ◌++◌, drop}
use Rattle.boot_code.specs.Startup.{zero_words}
use Rattle.boot_code.proofs.rows.push_parts.Given as goal

-- what is written, and the words of the rows that are left, are all words
abbrev pub invariant-loop-row : goal.invariant-loop-row
invariant-loop-row l = l.out.items ++ zero_words (drop l.row-index l.parts) ≡ l.fn.out.items ++ zero_words l.parts
