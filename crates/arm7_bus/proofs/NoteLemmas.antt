-- The notes of stores: ranges of a list, and behind them a run of words.
use Rattle.std.proofs.Common.{◌≡◌, ℕ, zero, suc, ◌+◌, ◌≤◌, List, ◌++◌, length, map, take, append-nil, length-append, length-take-le, refl, ap, arith}
use Rattle.std.proofs.lemmas.List.{length-map}
use Rattle.sdt_word.specs.declared.ranges.Range32.{Range32}
use Rattle.arm7_model.specs.Accesses.{next_word}
use Rattle.arm7_bus.specs.declared.notes.Notes.{Notes}
use Rattle.arm7_bus.specs.Notes.{noted_in}
use Rattle.arm7_bus.specs.Picks.{word_places}
use Rattle.arm7_bus.specs.Places.{place_of}

-- ---- how many there are

places_count : (a n : ℕ) → length (word_places a n) ≡ n
places_count a zero = refl
places_count a (suc n) = ap suc (places_count (next_word a) n)

listed_count : (list : List Range32) (count at run : ℕ) → count ≤ length list → length (map place_of (take count list) ++ word_places at run) ≡ count + run
listed_count list count at run le =
    omega (arith, length-append (map place_of (take count list)) (word_places at run), length-map (take count list) place_of, length-take-le count list le, places_count at run)

pub noted_count : (notes : Notes) → notes.count ≤ length notes.list → length (noted_in notes) ≡ notes.count + notes.run
unfolding noted_in
noted_count notes le = listed_count notes.list notes.count notes.run_at notes.run le

-- ---- without a run

pub listed_alone : (ranges : List (ℕ × ℕ)) (at run : ℕ) → run ≡ 0 → ranges ++ word_places at run ≡ ranges
listed_alone ranges at zero e = append-nil ranges
listed_alone ranges at (suc run) e = absurd (omega arith)
