-- The veneers of a placement by an index. This project's.
use Rattle.std.specs.Bool.{beq}
use Rattle.std.specs.Prelude.{◌≡◌, ℕ, Bool, ◌==◌, ◌&&◌, List, Option}
use Rattle.std.specs.List.{find}
use Rattle.std.specs.Option.{option_map}
use Rattle.std.specs.declared.hash.FoldHasher.{FoldHasher}
use Rattle.std.specs.declared.hash.BuildHasherDefault.{BuildHasherDefault}
use Rattle.indexmap.specs.IndexMap.{IndexMap, get_by}
use Rattle.link_model.specs.declared.placing.PlacedVeneer.{PlacedVeneer}
use Rattle.link_model.specs.declared.placing.Veneer.{Veneer}

abbrev pub VeneerIndex : Type 0
VeneerIndex = IndexMap Veneer ℕ (BuildHasherDefault FoldHasher)

abbrev pub is_same : Veneer → Veneer → Bool
is_same v w =
    v.region == w.region
    && ((v.area.object == w.area.object && v.area.area == w.area.area) && (v.offset == w.offset && beq v.thumb w.thumb))

abbrev pub veneer_in : VeneerIndex → Veneer → Option ℕ
veneer_in m v = get_by (is_same v) m

-- each has the address that it has first among these
abbrev pub AreVeneers : List PlacedVeneer → VeneerIndex → Type 0
AreVeneers veneers m = (v : Veneer) → veneer_in m v ≡ option_map (λ p. p.address) (find (λ p. is_same p.veneer v) veneers)
