-- What is added and taken away of what moves at the addresses of an image, by an index. This project's.
use Rattle.std.specs.Prelude.{◌≡◌, ℕ, ◌+◌, ◌-◌, Bool, true, false, ◌&&◌, ◌==◌, nat_eq, count_by, sum_by, unwrap_or, List, Option, Some, None}
use Rattle.std.specs.declared.hash.FoldHasher.{FoldHasher}
use Rattle.std.specs.declared.hash.BuildHasherDefault.{BuildHasherDefault}
use Rattle.indexmap.specs.IndexMap.{IndexMap, get}
use Rattle.aof_object.specs.declared.records.Area.{Area}
use Rattle.aof_object.specs.declared.records.Reloc.{Reloc}
use Rattle.patch_model.specs.Fields.{Kind, Word, field_of}
use Rattle.link_model.specs.declared.placing.PlacedArea.{PlacedArea}
use Rattle.link_model.specs.declared.placing.PlacedVeneer.{PlacedVeneer}
use Rattle.link_model.specs.declared.placing.Placement.{Placement}
use Rattle.link_model.specs.Members.{Link}
use Rattle.link_model.specs.RegionValues.{area_of}
use Rattle.link_values.specs.Shifts.{names_moving, veneer_shifts}
use Rattle.link_shifts.specs.declared.balances.Balance.{Balance}
use Rattle.link_shifts.specs.Balances.{is_gain, is_loss, none}

-- ---- an index of them

abbrev pub Changes : Type 0
Changes = IndexMap ℕ Balance (BuildHasherDefault FoldHasher)

abbrev pub change_in : Changes → ℕ → Balance
change_in m x = unwrap_or (get nat_eq m x) none

-- the shifts of a word, of which no more is taken away than is added
abbrev pub times_in : Changes → ℕ → ℕ
times_in m x = (change_in m x).more - (change_in m x).less

-- ---- of the words of an image

abbrev pub is_word : Kind → Bool
is_word Word = true
is_word kind = false

-- whether its field is the word at an address, where its area has this one
abbrev pub is_word_at : ℕ → ℕ → Reloc → Bool
is_word_at address x r = is_word (field_of r).kind && address + (field_of r).place == x

-- by relocations of an area at an address
abbrev pub change_by : (Reloc → Bool) → ℕ → ℕ → List Reloc → Balance
change_by moving address x relocs = record {
  more = count_by (λ r. is_word_at address x r && is_gain moving r) relocs;
  less = count_by (λ r. is_word_at address x r && is_loss moving r) relocs;
}

abbrev pub change_of : Link → Placement → ℕ → PlacedArea → Option Area → Balance
change_of l p x at None = none
change_of l p x at (Some a) = change_by (names_moving l p at.area.object) at.address x a.relocs

abbrev pub area_change : Link → Placement → ℕ → PlacedArea → Balance
area_change l p x at = change_of l p x at (area_of l.objects at.area)

abbrev pub areas_change : Link → Placement → ℕ → List PlacedArea → Balance
areas_change l p x areas = record {
  more = sum_by (λ at. (area_change l p x at).more) areas;
  less = sum_by (λ at. (area_change l p x at).less) areas;
}

abbrev pub veneers_change : ℕ → List PlacedVeneer → Balance
veneers_change x veneers = record { more = sum_by (veneer_shifts x) veneers; less = 0 }

-- ---- one after the other

-- by so much more
pub record Grows (before by after : Balance) : Type 0 where
  pub more : after.more ≡ before.more + by.more
  pub less : after.less ≡ before.less + by.less

-- what is there, with what is left, is what was there with all
pub record Leaves (before by now left : Balance) : Type 0 where
  pub more : now.more + left.more ≡ before.more + by.more
  pub less : now.less + left.less ≡ before.less + by.less

-- each word has the change that the areas and veneers of a placement make there
abbrev pub AreChanges : Link → Placement → Changes → Type 0
AreChanges l p m = (x : ℕ) → Grows (areas_change l p x p.areas) (veneers_change x p.veneers) (change_in m x)
