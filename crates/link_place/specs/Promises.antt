-- What holds of each placement that is given: no two regions run at one address, copies can be made in order,
-- the startup code runs where it is loaded, and sizes and addresses are within memory and whole words (SDT 2.50
-- Reference Guide, scatter loading; the limits are this project's).
use Rattle.std.specs.Prelude.{◌≡◌, ℕ, ◌+◌, ◌*◌, ◌%◌, ◌^◌, ◌<◌, ◌≤◌, Bool, true, not, ◌&&◌, nat_lt, ◌==◌, List, length, slice_get, Some}
use Rattle.boot_code.specs.Words.{boot_list}
use Rattle.link_model.specs.declared.placing.Placement.{Placement}
use Rattle.link_model.specs.declared.placing.Region.{Region}
use Rattle.place_model.specs.Faults.{Span}
use Rattle.place_model.specs.Laws.{IsIn}

-- ---- the ranges of a region

-- where its bytes are loaded, where they run, and with the zero part behind them
abbrev pub source_of : Region → Span
source_of r = record { name = r.name; base = r.load; size = r.length }

abbrev pub target_of : Region → Span
target_of r = record { name = r.name; base = r.base; size = r.length }

abbrev pub execution_of : Region → Span
execution_of r = record { name = r.name; base = r.base; size = r.length + r.zero }

-- a region that runs elsewhere than it is loaded, if it has bytes
abbrev pub is_copied : Region → Bool
is_copied r = not (r.load == r.base) && nat_lt 0 r.length

-- no address is in both
abbrev pub AreApart : Span → Span → Type 0
AreApart s t = (x : ℕ) → IsIn x s → IsIn x t → ⊥

-- ---- what is promised

-- no two regions run at one address
abbrev pub RunApart : List Region → Type 0
RunApart rs = (i j : ℕ) (r s : Region) → i < j → slice_get rs i ≡ Some r → slice_get rs j ≡ Some s → AreApart (execution_of r) (execution_of s)

-- what a copy writes no later copy reads
abbrev pub CopiesKeep : List Region → Type 0
CopiesKeep rs =
    (i j : ℕ) (r s : Region) → i < j → slice_get rs i ≡ Some r → slice_get rs j ≡ Some s → is_copied r ≡ true → is_copied s ≡ true
    → AreApart (target_of r) (source_of s)

-- a region ends at 2^32 or below, and has 64 MiB at most
pub record HasRoom (r : Region) : Type 0 where
  pub end : r.base + (r.length + r.zero) ≤ 2 ^ 32
  pub size : r.length + r.zero ≤ 2 ^ 26

-- addresses and sizes are multiples of 4
pub record IsWhole (r : Region) : Type 0 where
  pub load : r.load % 4 ≡ 0
  pub base : r.base % 4 ≡ 0
  pub length : r.length % 4 ≡ 0
  pub zero : r.zero % 4 ≡ 0

-- the startup code at an address, with so many words of its table, is among the bytes of the first region, which
-- runs where it is loaded
pub record StartsInRoot (words : ℕ) (p : Placement) (a : ℕ) : Type 0 where
  pub region : Region
  pub first : slice_get p.regions 0 ≡ Some region
  pub root : region.load ≡ region.base
  pub begins : region.base ≤ a
  pub ends : a + 4 * (length boot_list + words) ≤ region.base + region.length
