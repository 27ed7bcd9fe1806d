use Rattle.std.proofs.Common.{◌≡◌, ◌++◌, drop}
use Rattle.boot_code.specs.Startup.{copy_words}
use Rattle.boot_code.proofs.rows.push_copies.Given as goal

-- what is written, and the words of the rows that are left, are all words
abbrev pub invariant-loop-row : goal.invariant-loop-row
invariant-loop-row l = l.out.items ++ copy_words (drop l.row-index l.copies) ≡ l.fn.out.items ++ copy_words l.copies
