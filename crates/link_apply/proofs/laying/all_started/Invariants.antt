use Rattle.std.proofs.Common.{◌≡◌, ℕ, List, take}
use Rattle.link_apply.specs.RegionBytes.{Piece}
use Rattle.link_apply.specs.Pieces.{grown_from, laid_from}
use Rattle.link_apply.proofs.laying.all_started.Given as goal

abbrev pub invariant-regions : goal.invariant-regions
invariant-regions l = (rest : ℕ → List Piece) (i : ℕ) → grown_from rest i l.growing.items ≡ laid_from rest i (take l.region-index l.regions)
