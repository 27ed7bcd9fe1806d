-- The link of the object of a generated source with its description: no refusal, and one image. This project's.
use Rattle.std.specs.Prelude.{◌≡◌, ℕ, ◌≤◌, List, [], ◌∷◌, None, false, Ok}
use Rattle.aof_object.specs.declared.records.Object.{Object}
use Rattle.armlink_core.specs.declared.making.PlacedImage.{PlacedImage}
use Rattle.armlink_core.specs.Images.{image_of, scatter_linking}
use Rattle.big_faults.specs.Big.{big_object}
use Rattle.big_place.specs.Big.{big_contents, big_description, big_kind}
use Rattle.link_apply.specs.RegionBytes.{regions_bytes}
use Rattle.link_model.specs.declared.images.Image.{Image}
use Rattle.link_model.specs.declared.placing.Assigned.{Assigned}
use Rattle.link_model.specs.declared.placing.Placement.{Placement}
use Rattle.link_model.specs.declared.selection.Linked.{Linked}
use Rattle.link_model.specs.declared.selection.Named.{Named}
use Rattle.link_model.specs.Members.{link_of}
use Rattle.link_place.specs.Placed.{placement_of}
use Rattle.place_model.specs.Plans.{Plan, plan_of}

-- the one object, under a name and the name of its module
abbrev pub big_named : List ℕ → List ℕ → ℕ → Named Object
big_named name home n = record { name = name; «module» = home; value = big_object n }

-- nothing is imported, and the entry is the code's first word
abbrev pub big_linked : List ℕ → List ℕ → ℕ → Linked
big_linked name home n =
    record { objects = big_named name home n ∷ []; definitions = []; entry = record { object = 0; area = 0; offset = 0; thumb = false } }

-- each area in its region, without veneers
abbrev pub big_plan : List ℕ → ℕ → Plan
big_plan home n = plan_of big_kind (big_contents home n)

abbrev pub big_placement : List ℕ → ℕ → Placement
big_placement home n = placement_of (big_plan home n)

abbrev pub big_assigned : Assigned
big_assigned = record { regions = ((record { object = 0; area = 0 }) ∷ []) ∷ ((record { object = 0; area = 1 }) ∷ []) ∷ [] }

abbrev pub big_placed : List ℕ → List ℕ → ℕ → PlacedImage
big_placed name home n = record {
  linked = big_linked name home n;
  assigned = big_assigned;
  veneers = [];
  placement = big_placement home n;
  bytes = regions_bytes (link_of (big_linked name home n)) (big_placement home n);
}

abbrev pub big_image : List ℕ → List ℕ → ℕ → Image
big_image name home n = image_of big_kind (big_placed name home n) []

-- with no step or word of data there would be nothing to copy
abbrev pub ImageIsMade : Type 0
ImageIsMade =
    (name home : List ℕ) (n : ℕ) → 1 ≤ n → n ≤ 50000
    → scatter_linking big_description None (big_named name home n ∷ []) ≡ Ok (big_image name home n)
