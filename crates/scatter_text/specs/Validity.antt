-- Which numbers, names and counts a scatter description may have (SDT 2.50 Reference Guide, scatter loading; the
-- limit on regions and the name `map` are this project's).
use Rattle.std.specs.Prelude.{◌≡◌, ℕ, ◌<◌, ◌≤◌, ◌%◌, ◌^◌, List, [], ◌∷◌, length, map, codes, Option, Some, None}
use Rattle.std.specs.List.{AllByRecursion, flat_map}
use Rattle.sdt_fault.specs.declared.kinds.ScatterKind.{ScatterKind}
use Rattle.sdt_fault.specs.declared.kinds.ScatterKind.TheVariants as kind
use Rattle.place_model.specs.declared.scatter.ScatterBase.{ScatterBase}
use Rattle.place_model.specs.declared.scatter.ScatterBase.TheVariants.{At, Plus}
use Rattle.place_model.specs.declared.scatter.ScatterLoad.{ScatterLoad}
use Rattle.place_model.specs.declared.scatter.ScatterRegion.{ScatterRegion}

-- a multiple of 4 below 2^32
abbrev pub IsWhole : ℕ → Type 0
IsWhole n = (n < 2 ^ 32) × (n % 4 ≡ 0)

abbrev pub OfMax : (ℕ → Type 0) → Option ℕ → Type 0
OfMax P None = Unit {0}
OfMax P (Some n) = P n

abbrev pub OfBase : (ℕ → Type 0) → ScatterBase → Type 0
OfBase P (At n) = P n
OfBase P (Plus n) = P n

abbrev pub IsWholeMax : Option ℕ → Type 0
IsWholeMax max = OfMax IsWhole max

abbrev pub IsWholeBase : ScatterBase → Type 0
IsWholeBase base = OfBase IsWhole base

abbrev pub AreWhole : ScatterRegion → Type 0
AreWhole r = IsWholeBase r.base × IsWholeMax r.max

-- the files of an image are named by its load regions, and its map is called `map`
pub record IsValidLoad (l : ScatterLoad) : Type 0 where
  pub base : IsWhole l.base
  pub max : IsWholeMax l.max
  pub regions : AllByRecursion AreWhole l.regions
  pub some : 0 < length l.regions
  pub no_map : l.name ≡ codes "map" → ⊥

-- no two are the same
abbrev pub AreDistinct : List (List ℕ) → Type 0
AreDistinct [] = Unit {0}
AreDistinct (name ∷ names) = AllByRecursion (λ other. name ≡ other → ⊥) names × AreDistinct names

abbrev pub load_names : List ScatterLoad → List (List ℕ)
load_names loads = map (λ l. l.name) loads

abbrev pub names_of : List ScatterRegion → List (List ℕ)
names_of regions = map (λ r. r.name) regions

-- of all execution regions
abbrev pub region_names : List ScatterLoad → List (List ℕ)
region_names loads = flat_map (λ l. names_of l.regions) loads

pub record IsValid (loads : List ScatterLoad) : Type 0 where
  pub some : 0 < length loads
  pub each : AllByRecursion IsValidLoad loads
  pub load_names_differ : AreDistinct (load_names loads)
  pub region_names_differ : AreDistinct (region_names loads)
  pub few : length (region_names loads) ≤ 64

-- ---- single rules

abbrev pub OfNumbers : (ℕ → Type 0) → ScatterLoad → Type 0
OfNumbers P l = P l.base × OfMax P l.max × AllByRecursion (λ r. OfBase P r.base × OfMax P r.max) l.regions

-- all names are as they may be
pub record AreNames (loads : List ScatterLoad) : Type 0 where
  pub load_names_differ : AreDistinct (load_names loads)
  pub region_names_differ : AreDistinct (region_names loads)
  pub no_map : AllByRecursion (λ l. l.name ≡ codes "map" → ⊥) loads

-- the load regions break the rule that a kind of fault stands for
abbrev pub Breaks : ScatterKind → List ScatterLoad → Type 0
Breaks kind.Syntax loads = ⊥
Breaks kind.Number loads = AllByRecursion (OfNumbers (λ n. n < 2 ^ 32)) loads → ⊥
Breaks kind.Unaligned loads = AllByRecursion (OfNumbers (λ n. n % 4 ≡ 0)) loads → ⊥
Breaks kind.DuplicateName loads = AreNames loads → ⊥
Breaks kind.TooMany loads = length (region_names loads) ≤ 64 → ⊥
Breaks kind.Empty loads = AllByRecursion (λ l. 0 < length l.regions) loads → ⊥
