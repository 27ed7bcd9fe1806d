-- What the notes of stores mean. This project's.
use Rattle.std.specs.Prelude.{ℕ, List, ◌++◌, map, take}
use Rattle.arm7_bus.specs.declared.notes.Notes.{Notes}
use Rattle.arm7_bus.specs.Picks.{word_places}
use Rattle.arm7_bus.specs.Places.{place_of}

-- the ranges of the list, and behind them the words of the run
unfoldable pub noted_in : Notes → List (ℕ × ℕ)
noted_in notes = map place_of (take notes.count notes.list) ++ word_places notes.run_at notes.run
