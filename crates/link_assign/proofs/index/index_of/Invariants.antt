use Rattle.std.proofs.Common.{◌≡◌, ℕ, List, Option, map, drop}
use Rattle.std.specs.List.{filter}
use Rattle.place_model.specs.declared.scatter.Choice.{Choice}
use Rattle.place_model.specs.Assignment.{found}
use Rattle.link_assign.specs.Finding.{told}
use Rattle.link_assign.specs.Index.{in_index, is_keyed}
use Rattle.link_assign.specs.Shown.{shown_offer}
use Rattle.link_assign.proofs.FindingLemmas.{after}
use Rattle.link_assign.proofs.index.index_of.Given as goal

abbrev pub invariant-loop-offer : goal.invariant-loop-offer
invariant-loop-offer l = (home : Option (List ℕ)) (c : Choice) → after (in_index l.index home c) (filter (is_keyed home c) (map shown_offer (drop l.offer-index l.offers))) ≡ told (found (filter (is_keyed home c) (map shown_offer l.offers)))
