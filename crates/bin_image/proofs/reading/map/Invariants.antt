use Rattle.std.proofs.Common.{◌≡◌, ◌+◌, length}
use Rattle.bin_image.specs.declared.reading.Stage.TheVariants as stage
use Rattle.bin_image.specs.Reading.{shown, read, pieces_of, empty_map}
use Rattle.bin_image.proofs.reading.map.Given as goal

-- reading the rest behind what is read gives what reading all gives
abbrev pub invariant-lines : goal.invariant-lines
invariant-lines l =
    (l.at + length l.rest ≡ length l.b) × (read l.at (shown l.read).0 (shown l.read).1 (pieces_of l.rest) ≡ read 0 stage.Head empty_map (pieces_of l.b))

abbrev pub decreases-lines : goal.decreases-lines
decreases-lines l = length l.rest
