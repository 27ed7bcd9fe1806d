-- Which areas each region keeps. This project's.
use Rattle.std.specs.Prelude.{◌≡◌, ℕ, List, [], slice_get, unwrap_or, Option, Some, None, Result, Ok, Err}
use Rattle.std.specs.List.{filter_map}
use Rattle.std.specs.Option.{option_map}
use Rattle.sdt_fault.specs.declared.answer.Fault.{Fault}
use Rattle.sdt_fault.specs.declared.answer.Fault.TheVariants as fault
use Rattle.sdt_fault.specs.declared.refusal.Refusal.{Refusal}
use Rattle.aof_object.specs.declared.records.Object.{Object}
use Rattle.link_model.specs.declared.selection.Named.{Named}
use Rattle.place_model.specs.Items.{Item}
use Rattle.place_model.specs.Assignment.{Offer, best, found, kept_by}
use Rattle.link_assign.specs.declared.keeping.Kept.{Kept}
use Rattle.link_assign.specs.Shown.{kept_in}

-- what reports call the object of a number
abbrev pub report_name : List (Named Object) → ℕ → List ℕ
report_name os i = unwrap_or (option_map (λ o. o.name) (slice_get os i)) []

-- each region keeps those of the areas that have their one best selection there, in input order
pub record AreKept (offers : List Offer) (items : List Item) (ks : List Kept) : Type 0 where
  pub each : (region : ℕ) → kept_in region ks ≡ filter_map (λ i. kept_by region i (found (best offers i))) items

-- a call refuses just what is to be refused, unless memory was refused
abbrev pub Judges : {A : Type 0} → Result A Fault → Option Refusal → Type 0
Judges (Ok x) refusal = refusal ≡ None
Judges (Err fault.NoMemory) refusal = Unit {0}
Judges (Err (fault.Refused r)) refusal = refusal ≡ Some r
Judges (Err (fault.ReadFault name)) refusal = ⊥
