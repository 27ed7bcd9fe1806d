-- What the refusal of a branch says, in the subject's words. This project's.
use Rattle.std.specs.Prelude.{◌≡◌, ◌≢◌, ◌⊎◌, ◌↔◌, ℕ, ◌<◌, slice_get, Option, Some, None}
use Rattle.std.specs.Option.{option_and_then}
use Rattle.sdt_word.specs.Numbers.{bit}
use Rattle.sdt_fault.specs.declared.refusal.Refusal.{Refusal}
use Rattle.sdt_fault.specs.declared.refusal.Refusal.TheVariants.{NotInterworking}
use Rattle.aof_object.specs.declared.records.Area.{Area}
use Rattle.aof_object.specs.declared.records.Object.{Object}
use Rattle.aof_object.specs.declared.records.Reloc.{Reloc}
use Rattle.aof_object.specs.declared.records.Symbol.{Symbol}
use Rattle.patch_model.specs.Fields.{number_named}
use Rattle.link_model.specs.declared.placing.AreaName.{AreaName}
use Rattle.link_model.specs.declared.placing.Veneer.{Veneer}
use Rattle.link_model.specs.Meaning.{symbol_of}
use Rattle.link_model.specs.Members.{Link}
use Rattle.link_model.specs.RegionValues.{area_of}
use Rattle.link_model.specs.Veneers.{needed_by}
use Rattle.link_veneer.specs.Interworking.{not_interworking, refused_by}

-- the relocation needs a veneer to a place in an area without the bit, which is told with the symbol's name
pub record IsRefused (l : Link) (name : AreaName) (a : Area) (r : Reloc) (told : Refusal) : Type 0 where
  pub symbol : Symbol
  pub need : Veneer
  pub home : Area
  pub named : symbol_of l.objects name.object (number_named r) ≡ Some symbol
  pub needs : needed_by l 0 name a r ≡ Some need
  pub target : area_of l.objects need.area ≡ Some home
  pub lacks : bit home.attributes 22 ≢ 1
  pub says : told ≡ NotInterworking symbol.name home.name

-- ---- the first in input order

-- of the relocation of a number, in the area and the object of numbers
abbrev pub refused_of : Link → ℕ → ℕ → ℕ → Area → Option Refusal
refused_of l i j k a = option_and_then (refused_by l (record { object = i; area = j }) a) (slice_get a.relocs k)

abbrev pub refused_in_object : Link → ℕ → ℕ → ℕ → Object → Option Refusal
refused_in_object l i j k o = option_and_then (refused_of l i j k) (slice_get o.areas j)

abbrev pub refused_at : Link → ℕ → ℕ → ℕ → Option Refusal
refused_at l i j k = option_and_then (refused_in_object l i j k) (slice_get l.objects i)

abbrev pub IsBefore : ℕ → ℕ → ℕ → ℕ → ℕ → ℕ → Type 0
IsBefore m n p i j k = (m < i) ⊎ ((m ≡ i) × ((n < j) ⊎ ((n ≡ j) × (p < k))))

pub record FirstRefused (l : Link) (told : Refusal) : Type 0 where
  pub i : ℕ
  pub j : ℕ
  pub k : ℕ
  pub at : refused_at l i j k ≡ Some told
  pub earliest : (m n p : ℕ) → IsBefore m n p i j k → refused_at l m n p ≡ None

abbrev pub OfRefused : Link → Option Refusal → Type 0
OfRefused l None = (i j k : ℕ) → refused_at l i j k ≡ None
OfRefused l (Some told) = FirstRefused l told

pub record InterworkingLaw : Type 0 where
  pub refused : (l : Link) (name : AreaName) (a : Area) (r : Reloc) (told : Refusal) → (refused_by l name a r ≡ Some told) ↔ IsRefused l name a r told
  pub first : (l : Link) → OfRefused l (not_interworking l)
