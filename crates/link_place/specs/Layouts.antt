-- Where regions stand, for a table of the startup code of so many words: by a walk over the parts, of which each
-- load region has so many. This project's.
use Rattle.std.specs.Prelude.{ℕ, suc, ◌+◌, Bool, not, ◌&&◌, nat_lt, nat_le, ◌==◌, if◌then◌else◌, List, [], ◌∷◌, ◌++◌, take, drop, sum_by, Option, Some, None}
use Rattle.place_model.specs.Plans.{base_behind, first_from}
use Rattle.link_place.specs.declared.layouts.RegionLayout.{RegionLayout}
use Rattle.link_place.specs.declared.layouts.Load.{Load}
use Rattle.link_place.specs.declared.layouts.Layout.{Layout}
use Rattle.link_place.specs.declared.parts.Group.{Group}
use Rattle.link_place.specs.declared.parts.Part.{Part}
use Rattle.link_place.specs.Pieces.{reach}

-- ---- a region of the load region of a number, behind the end of the one before it

abbrev pub laid_by : ℕ → Part → ℕ → ℕ → ℕ → ℕ → RegionLayout
laid_by number p load base length zeros = record {
  region = record { name = p.name; load_region = number; load = load; base = base; length = length; zero = zeros };
  maximum = p.maximum;
}

abbrev pub laid_at : ℕ → ℕ → ℕ → Part → ℕ → ℕ → RegionLayout
laid_at words origin number p load base =
    laid_by number p load base (reach words origin base p.things) (reach words origin (base + reach words origin base p.things) p.zeros)

abbrev pub size_of : RegionLayout → ℕ
size_of l = l.region.length + l.region.zero

abbrev pub laid_from : ℕ → ℕ → ℕ → List Part → ℕ → ℕ → List RegionLayout
laid_from words origin number [] before load = []
laid_from words origin number (p ∷ ps) before load =
    let l : RegionLayout = laid_at words origin number p load (base_behind p.base before) in
    l ∷ laid_from words origin number ps (l.region.base + size_of l) (load + l.region.length)

abbrev pub loaded : List RegionLayout → ℕ
loaded ls = sum_by (λ l. l.region.length) ls

-- ---- load regions, counted from a number on

abbrev pub laid_in : ℕ → ℕ → ℕ → Group → List Part → List RegionLayout
laid_in words origin number g ps = laid_from words origin number (take g.count ps) g.base g.base

abbrev pub regions_by : ℕ → ℕ → ℕ → List Group → List Part → List RegionLayout
regions_by words origin number [] ps = []
regions_by words origin number (g ∷ gs) ps =
    laid_in words origin number g ps ++ regions_by words origin (suc number) gs (drop g.count ps)

abbrev pub load_by : Option (List ℕ) → Group → ℕ → List Load
load_by None g size = []
load_by (Some name) g size = (record { name = name; base = g.base; size = size; maximum = g.maximum; count = g.count }) ∷ []

abbrev pub loads_by : ℕ → ℕ → ℕ → List Group → List Part → List Load
loads_by words origin number [] ps = []
loads_by words origin number (g ∷ gs) ps =
    load_by g.name g (loaded (laid_in words origin number g ps)) ++ loads_by words origin (suc number) gs (drop g.count ps)

-- ---- the least table

abbrev pub is_root : RegionLayout → Bool
is_root l = l.region.load == l.region.base

abbrev pub is_copied : RegionLayout → Bool
is_copied l = not (is_root l) && nat_lt 0 l.region.length

abbrev pub row_words : RegionLayout → ℕ
row_words l = (if is_copied l then 3 else 0) + (if nat_lt 0 l.region.zero then 2 else 0)

-- the rows, two rows of zeros and the entry
abbrev pub has_room : List RegionLayout → ℕ → Bool
has_room ls words = nat_le (sum_by row_words ls + 6) words

abbrev pub passes : ℕ → List Group → List Part → ℕ → Bool
passes origin gs ps words = has_room (regions_by words origin 0 gs ps) words

abbrev pub layout_for : ℕ → List Group → List Part → ℕ → Layout
layout_for origin gs ps words = record { words = words; loads = loads_by words origin 0 gs ps; regions = regions_by words origin 0 gs ps }

-- of tables of fewer than so many words, or of just so many
abbrev pub layout_of : ℕ → List Group → List Part → ℕ → Layout
layout_of origin gs ps most = layout_for origin gs ps (first_from (passes origin gs ps) 0 most)
