use Rattle.std.proofs.Common.{◌≡◌, ◌++◌, map, drop}
use Rattle.link_items.specs.LinkedItems.{name_of}
use Rattle.link_assign.specs.Shown.{shown_kept}
use Rattle.link_assign.proofs.listing.names_of.Given as goal

abbrev pub invariant-loop-one : goal.invariant-loop-one
invariant-loop-one l = l.names.items ++ map name_of (map (λ k. k.item) (map shown_kept (drop l.one-index l.kept))) ≡ map name_of (map (λ k. k.item) (map shown_kept l.kept))
