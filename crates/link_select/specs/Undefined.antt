-- Names without a meaning: the first non-weak reference, by the order of the objects and their symbols,
-- that no linked object exports and that is no region symbol. This project's.
use Rattle.std.specs.Prelude.{ℕ, Bool, true, is_some, if◌then◌else◌, List, Option, Some, None}
use Rattle.sdt_fault.specs.declared.refusal.Refusal.{Refusal}
use Rattle.sdt_fault.specs.declared.refusal.Refusal.TheVariants.{Undefined}
use Rattle.aof_object.specs.declared.records.Object.{Object}
use Rattle.aof_object.specs.declared.records.Symbol.{Symbol}
use Rattle.link_model.specs.declared.selection.Named.{Named}
use Rattle.link_model.specs.Members.{objects_in}
use Rattle.link_model.specs.Options.{first_given}
use Rattle.link_model.specs.Chosen.{exporter, is_needed}
use Rattle.link_model.specs.RegionNames.{names_a_region}
use Rattle.link_select.specs.declared.undefined.Unresolved.{Unresolved}

-- a name means something among these objects
abbrev pub is_known : Option (List (List ℕ)) → List Object → List ℕ → Bool
is_known regions os q = if is_some (exporter 0 q os) then true else names_a_region regions os q

-- a symbol of the object called `name` that needs a meaning, and that by this test has none
abbrev pub lacking : (List ℕ → Bool) → List ℕ → Symbol → Option Refusal
lacking known name s = if is_needed s.attributes then (if known s.name then None else Some (Undefined s.name name)) else None

abbrev pub lacking_in : (List ℕ → Bool) → Named Object → Option Refusal
lacking_in known o = first_given (lacking known o.name) o.value.symbols

abbrev pub undefined : Option (List (List ℕ)) → List (Named Object) → Option Refusal
undefined regions os = first_given (lacking_in (is_known regions (objects_in os))) os

-- what is told of a name that has no meaning
abbrev pub told : Option Unresolved → Option Refusal
told None = None
told (Some names) = Some (Undefined names.symbol.now names.object.now)
