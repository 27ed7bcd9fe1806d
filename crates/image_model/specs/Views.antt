-- What the program sees at its entry, and what is loaded for that (SDT 2.50 Reference Guide, scatter loading:
-- execution view and load view).
use Rattle.std.specs.Prelude.{◌≡◌, ℕ, ◌+◌, ◌<◌, Bool, List, [], ◌∷◌, length, map, is_some}
use Rattle.std.specs.List.{flat_map, list_any, AllByRecursion}
use Rattle.boot_code.specs.Boots.{ByteMap, covers}
use Rattle.boot_code.specs.Startup.{zeros}
use Rattle.boot_code.specs.Maps.{Segment, map_of, Holds}
use Rattle.place_model.specs.Plans.{Planned, length_of, zero_base_of, zero_length_of, execution_size, PlannedLoad, load_size, Plan, regions_of}
use Rattle.image_model.specs.Regions.{Filling, region_bytes}

-- ---- the execution view

abbrev pub is_executed : ℕ → Planned → Bool
is_executed x r = covers r.base (execution_size r) x

-- a byte exactly at the addresses of the execution ranges, with their zero parts: there each region has its
-- bytes, and zeros behind them
pub record IsView (p : Plan) (held : Filling) (view : ByteMap) : Type 0 where
  pub domain : (x : ℕ) → is_some (view x) ≡ list_any (is_executed x) (regions_of p)
  pub loaded : AllByRecursion (λ r. Holds view r.base (region_bytes held r)) (regions_of p)
  pub cleared : AllByRecursion (λ r. Holds view (zero_base_of r) (zeros (zero_length_of r))) (regions_of p)

-- such a view, where no two execution ranges meet
abbrev pub region_segments : Filling → Planned → List Segment
region_segments held r =
    (record { base = r.base; bytes = region_bytes held r }) ∷ (record { base = zero_base_of r; bytes = zeros (zero_length_of r) }) ∷ []

abbrev pub view_of : Plan → Filling → ByteMap
view_of p held = map_of (flat_map (region_segments held) (regions_of p))

-- ---- the load view

-- one file for each load region, at its base and of exactly its length: at each region's load address are the
-- bytes that the view has at its execution address
pub record IsLoadView (p : Plan) (view : ByteMap) (files : List Segment) : Type 0 where
  pub bases : map (λ s. s.base) files ≡ map (λ l. l.base) p
  pub sizes : map (λ s. length s.bytes) files ≡ map load_size p
  pub shows : AllByRecursion (λ r. (k : ℕ) → k < length_of r → map_of files (r.load + k) ≡ view (r.base + k)) (regions_of p)

-- these files, where no two load ranges meet
abbrev pub file_of : Filling → PlannedLoad → Segment
file_of held l = record { base = l.base; bytes = flat_map (region_bytes held) l.regions }

abbrev pub files_of : Plan → Filling → List Segment
files_of p held = map (file_of held) p
