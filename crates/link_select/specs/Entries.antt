-- The entry: exactly one linked object has one. This project's.
use Rattle.std.specs.Prelude.{◌≡◌, ℕ, suc, List, [], ◌∷◌, ◌++◌, Option, Some, None, Result, Ok, Err}
use Rattle.std.specs.Option.{option_to_list}
use Rattle.sdt_fault.specs.declared.answer.Fault.{Fault}
use Rattle.sdt_fault.specs.declared.answer.Fault.TheVariants as fault
use Rattle.sdt_fault.specs.declared.refusal.Refusal.{Refusal}
use Rattle.sdt_fault.specs.declared.refusal.Refusal.TheVariants.{NoEntry, TwoEntries}
use Rattle.aof_object.specs.declared.records.Entry.{Entry}
use Rattle.aof_object.specs.declared.records.Object.{Object}
use Rattle.link_model.specs.declared.selection.Named.{Named}
use Rattle.link_model.specs.declared.selection.LinkedEntry.{LinkedEntry}
use Rattle.link_model.specs.Definitions.{linked_entry}
use Rattle.link_select.specs.declared.entries.Entered.{Entered}

abbrev pub entered_by : ℕ → Named Object → Option Entry → List Entered
entered_by i o None = []
entered_by i o (Some e) = (record { name = o.name; entry = linked_entry i o.value e }) ∷ []

-- the entries of objects, which are counted from i on, with the objects' names
abbrev pub entered_from : ℕ → List (Named Object) → List Entered
entered_from i [] = []
entered_from i (o ∷ os) = entered_by i o o.value.entry ++ entered_from (suc i) os

abbrev pub only_entry : List Entered → Result LinkedEntry Refusal
only_entry [] = Err NoEntry
only_entry (e ∷ []) = Ok e.entry
only_entry (e ∷ f ∷ es) = Err (TwoEntries e.name f.name)

-- a list of entries that has one or none, or two, of which the first two are told
abbrev pub Counts : List Entered → Result (Option Entered) Fault → Type 0
Counts es (Ok found) = es ≡ option_to_list found
Counts es (Err fault.NoMemory) = Unit {0}
Counts es (Err (fault.Refused r)) = (e : Entered) × (f : Entered) × (es ≡ e ∷ f ∷ []) × (r ≡ TwoEntries e.name f.name)
Counts es (Err (fault.ReadFault name)) = ⊥
