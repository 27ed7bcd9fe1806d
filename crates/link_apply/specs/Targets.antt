-- The values of symbols and the ways of branches, as the code holds them. This project's.
use Rattle.std.specs.Prelude.{◌≡◌, ℕ, false, List, slice_get, Option, Some, None}
use Rattle.patch_model.specs.Fields.{Meant, Values}
use Rattle.patch_model.specs.Patched.{Way, Directly, ByVeneer}
use Rattle.link_model.specs.declared.placing.Placement.{Placement}
use Rattle.link_apply.specs.Placed.{veneers_at, target_in}
use Rattle.link_values.specs.declared.values.SymbolValue.{SymbolValue}
use Rattle.link_values.specs.declared.values.BranchTarget.{BranchTarget}
use Rattle.link_values.specs.Values.{home, meant}

-- of a number that no symbol has
abbrev pub meant_at : Option SymbolValue → Meant
meant_at None = record { number = 0; thumb = false; datum = false; home = None }
meant_at (Some s) = meant s

-- by the addresses of an object's areas and the values of its symbols
abbrev pub values_by : (ℕ → ℕ) → List SymbolValue → Values
values_by bases symbols = record { base = bases; symbol = λ k. meant_at (slice_get symbols k) }

abbrev pub way_by : Option BranchTarget → Way
way_by None = Directly
way_by (Some t) = ByVeneer (home t.place) t.thumb

-- a veneer of the region, and its target's address
abbrev pub IsWayOf : Placement → ℕ → Option BranchTarget → Option ℕ → ℕ → Type 0
IsWayOf p region None veneer goal = Unit {0}
IsWayOf p region (Some t) veneer goal = (veneers_at p region (home t.place) t.thumb ≡ veneer) × (target_in p (home t.place) ≡ goal)
