-- Words that were seen, as a set. This project's.
use Rattle.std.specs.Prelude.{ℕ, Bool, List}
use Rattle.std.specs.Ordering.{nat_cmp}
use Rattle.std.specs.Cmp.Lexicographic.{slice_cmp}
use Rattle.std.specs.BTreeSet.{BTreeSet, contains}

abbrev pub Seen : Type 0
Seen = BTreeSet (List ℕ)

abbrev pub has_seen : Seen → List ℕ → Bool
has_seen seen word = contains (slice_cmp nat_cmp) seen word
