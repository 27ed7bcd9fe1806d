use Rattle.std.proofs.Common.{◌≡◌, ◌+◌, ◌++◌, drop}
use Rattle.std.specs.List.{flat_map}
use Rattle.std.specs.Option.{option_or}
use Rattle.link_place.specs.Pieces.{reach, seats}
use Rattle.link_place.specs.Placings.{area_at, veneer_at, boot_in}
use Rattle.link_place.proofs.placing.put_all.Given as goal

abbrev pub invariant-loop-piece : goal.invariant-loop-piece
invariant-loop-piece l = record {
  areas : l.out.areas.items ++ flat_map area_at (seats l.words l.origin l.region l.end (drop l.piece-index l.pieces))
      ≡ l.initial.out.areas.items ++ flat_map area_at (seats l.words l.origin l.region l.at l.pieces);
  veneers : l.out.veneers.items ++ flat_map veneer_at (seats l.words l.origin l.region l.end (drop l.piece-index l.pieces))
      ≡ l.initial.out.veneers.items ++ flat_map veneer_at (seats l.words l.origin l.region l.at l.pieces);
  boot : option_or l.out.boot (boot_in (seats l.words l.origin l.region l.end (drop l.piece-index l.pieces)))
      ≡ option_or l.initial.out.boot (boot_in (seats l.words l.origin l.region l.at l.pieces));
  place : l.end + reach l.words l.origin l.end (drop l.piece-index l.pieces) ≡ l.at + reach l.words l.origin l.at l.pieces;
}
