-- What is shifted of an image where it is moved: the list of a relocatable AIF's words, and nothing of another (SDT 2.50
-- Reference Guide, ARM Image Format; the list is this project's).
use Rattle.std.specs.Prelude.{ℕ, Bool, false, if◌then◌else◌, List, [], Result, Ok}
use Rattle.sdt_fault.specs.declared.refusal.Refusal.{Refusal}
use Rattle.link_model.specs.declared.placing.Placement.{Placement}
use Rattle.link_model.specs.declared.selection.Linked.{Linked}
use Rattle.place_model.specs.declared.scatter.Kind.{Kind}
use Rattle.place_model.specs.declared.scatter.Kind.TheVariants as kind
use Rattle.link_shifts.specs.Moves.{moved}

abbrev pub can_move : Kind → Bool
can_move (kind.Aif base relocatable) = relocatable
can_move _ = false

abbrev pub moves_in : Kind → Linked → Placement → Result (List ℕ) Refusal
moves_in k l p = if can_move k then moved l p else Ok []
