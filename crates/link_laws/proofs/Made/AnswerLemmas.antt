-- What an answer says that isn't a refusal.
use Rattle.std.proofs.Common.{◌≡◌, refl, Option, Some, None, Ok}
use Rattle.sdt_fault.specs.declared.refusal.Refusal.{Refusal}
use Rattle.place_model.specs.Plans.{Plan}
use Rattle.link_model.specs.declared.placing.Placement.{Placement}
use Rattle.link_model.specs.Options.{refused_or}
use Rattle.link_place.specs.Placed.{placement_of, told}

pub told_ok : (o : Option Refusal) (q : Plan) (p : Placement) → told o q ≡ Ok p → (o ≡ None) × (p ≡ placement_of q)
told_ok None q p h = (refl, cc)
told_ok (Some r) q p h = absurd cc

pub not_refused : {A : Type 0} (o : Option Refusal) (x y : A) → refused_or o x ≡ Ok y → (o ≡ None) × (y ≡ x)
not_refused None x y h = (refl, cc)
not_refused (Some r) x y h = absurd cc
