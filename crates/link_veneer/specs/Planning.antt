-- What a plan of veneers answers: the first branch that no veneer may serve, or the veneers that are needed.
-- This project's.
use Rattle.std.specs.Prelude.{Bool, List, Result}
use Rattle.sdt_fault.specs.declared.refusal.Refusal.{Refusal}
use Rattle.link_model.specs.declared.placing.Assigned.{Assigned}
use Rattle.link_model.specs.declared.placing.Veneer.{Veneer}
use Rattle.link_model.specs.declared.selection.Linked.{Linked}
use Rattle.link_model.specs.Members.{link_of}
use Rattle.link_model.specs.Options.{refused_or}
use Rattle.link_model.specs.Veneers.{veneers_of}
use Rattle.link_veneer.specs.Interworking.{not_interworking}

abbrev pub planned_veneers : Linked → Assigned → Bool → Result (List Veneer) Refusal
planned_veneers l a header = refused_or (not_interworking (link_of l)) (veneers_of (link_of l) a.regions header)
