-- The link of the object of a generated source with its description. The object's bytes are variables, so that the link computes.
use Rattle.std.proofs.Common.{◌≡◌, ℕ, ◌+◌, ◌*◌, ◌∷◌, [], List, refl, false, None, Some, ◌≤◌}
use Rattle.std.specs.Prelude.{codes, Ok}
use Rattle.aof_object.specs.declared.records.Object.{Object}
use Rattle.armlink_core.specs.declared.making.PlacedImage.{PlacedImage}
use Rattle.armlink_core.specs.Images.{image_of, scatter_linking}
use Rattle.big_faults.specs.Big.{words_bytes}
use Rattle.sdt_toolkit.specs.BigMade.{ImageIsMade, big_assigned, big_placement}
use Rattle.big_model.specs.Words.{code_words, data_words}
use Rattle.big_place.specs.Big.{PlanHasNoFault, TextIsRead, big_description, big_kind}
use Rattle.link_apply.specs.RegionBytes.{regions_bytes}
use Rattle.link_model.specs.declared.selection.Linked.{Linked}
use Rattle.link_model.specs.declared.selection.Named.{Named}
use Rattle.link_model.specs.Members.{link_of}
use Rattle.link_select.specs.Selection.{selection_of}

abbrev pub object : ℕ → List ℕ → List ℕ → Object
object n code words = record {
  areas =
      (record { name = codes "big"; attributes = 8706; size = 4 * (n + 3); bytes = code; relocs = [] })
      ∷ (record { name = codes "bigrw"; attributes = 2; size = 4 * n; bytes = words; relocs = [] }) ∷ [];
  symbols = [];
  entry = Some (record { area = 0; offset = 0 });
}

abbrev pub named : List ℕ → List ℕ → ℕ → List ℕ → List ℕ → Named Object
named name home n code words = record { name = name; «module» = home; value = object n code words }

abbrev pub linked : List ℕ → List ℕ → ℕ → List ℕ → List ℕ → Linked
linked name home n code words =
    record { objects = named name home n code words ∷ []; definitions = []; entry = record { object = 0; area = 0; offset = 0; thumb = false } }

abbrev pub made : List ℕ → List ℕ → ℕ → List ℕ → List ℕ → PlacedImage
made name home n code words = record {
  linked = linked name home n code words;
  assigned = big_assigned;
  veneers = [];
  placement = big_placement home n;
  bytes = regions_bytes (link_of (linked name home n code words)) (big_placement home n);
}

is_made : PlanHasNoFault → TextIsRead → (name home : List ℕ) (n : ℕ) (code words : List ℕ) → 1 ≤ n → n ≤ 50000
    → scatter_linking big_description None (named name home n code words ∷ []) ≡ Ok (image_of big_kind (made name home n code words) [])
unfolding selection_of
is_made none read name home n code words some few = rw (read, none home n some few) refl

pub image_is_made : PlanHasNoFault → TextIsRead → ImageIsMade
image_is_made none read name home n some few = is_made none read name home n (words_bytes (code_words n)) (words_bytes (data_words n)) some few
