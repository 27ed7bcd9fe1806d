-- A link that is made is placed by its plan.
use Rattle.std.proofs.Common.{◌≡◌, List, Option}
use Rattle.sdt_word.specs.declared.ranges.Range32.{Range32}
use Rattle.place_model.specs.declared.scatter.Kind.{Kind}
use Rattle.place_model.specs.Faults.{place_refusal}
use Rattle.link_model.specs.declared.placing.Assigned.{Assigned}
use Rattle.link_model.specs.declared.placing.Placement.{Placement}
use Rattle.link_model.specs.declared.placing.Veneer.{Veneer}
use Rattle.link_model.specs.declared.selection.Linked.{Linked}
use Rattle.link_model.specs.Members.{link_of}
use Rattle.link_model.specs.Veneers.{veneers_of}
use Rattle.link_items.specs.LinkedItems.{has_header}
use Rattle.link_place.specs.Placed.{placement_of}
use Rattle.link_veneer.specs.Interworking.{not_interworking}
use Rattle.link_laws.specs.Placing.{link_plan}
use Rattle.link_laws.specs.Joins.{IsMade, MadeIsPlaced}
use Rattle.link_laws.proofs.Made.AnswerLemmas.{told_ok, not_refused}
use Rattle.link_laws.proofs.Made.AssignedLemmas.{are_assigned}

module _ (k : Kind) (ram : Option (List Range32)) (l : Linked) (a : Assigned) (vs : List Veneer) (p : Placement) (h : IsMade k ram l a vs p) where
  -- it is the placement of the plan
  pub is_placement : p ≡ placement_of (link_plan k l a.regions vs)
  is_placement = (told_ok (place_refusal k ram (link_plan k l a.regions vs)) (link_plan k l a.regions vs) p h.placed).1

  -- its veneers are those that are needed
  pub are_needed : vs ≡ veneers_of (link_of l) a.regions (has_header k)
  are_needed = (not_refused (not_interworking (link_of l)) (veneers_of (link_of l) a.regions (has_header k)) vs h.planned).1

pub made_is_placed : MadeIsPlaced
made_is_placed k ram l a vs p h = record {
  valid = h.valid;
  loads = h.loads;
  bases = h.bases;
  assigned = are_assigned k l.objects a h.assigned;
  accepted = (told_ok (place_refusal k ram (link_plan k l a.regions vs)) (link_plan k l a.regions vs) p h.placed).0;
}
