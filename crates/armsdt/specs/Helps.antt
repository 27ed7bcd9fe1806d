-- The words of which each alone asks for the usage. This project's.
use Rattle.std.specs.Prelude.{ℕ, List, codes, bytes_eq, Bool, ◌||◌}

abbrev pub is_help : List ℕ → Bool
is_help word = bytes_eq word (codes "--help") || (bytes_eq word (codes "-h") || bytes_eq word (codes "help"))
