-- What a selection answers: the linked objects with their definitions and the entry, or the first refusal
-- that is present, in this order: a name that two objects export, a name without a meaning, no entry, two
-- entries, more than 65,535 areas, more than 1,000,000 symbols. This project's.
use Rattle.std.specs.Prelude.{◌≡◌, ℕ, nat_lt, if◌then◌else◌, List, length, sum_by, Option, Some, None, Result, Ok, Err}
use Rattle.sdt_fault.specs.declared.kinds.Quantity.{Quantity}
use Rattle.sdt_fault.specs.declared.kinds.Quantity.TheVariants.{Areas, Symbols}
use Rattle.sdt_fault.specs.declared.answer.Fault.{Fault}
use Rattle.sdt_fault.specs.declared.answer.Fault.TheVariants as fault
use Rattle.sdt_fault.specs.declared.refusal.Refusal.{Refusal}
use Rattle.sdt_fault.specs.declared.refusal.Refusal.TheVariants.{TooLarge}
use Rattle.chunk_file.specs.Reading.{◌>>=◌}
use Rattle.aof_object.specs.declared.records.Object.{Object}
use Rattle.alf_archive.specs.declared.records.Archive.{Archive}
use Rattle.link_model.specs.declared.selection.Named.{Named}
use Rattle.link_model.specs.declared.selection.Linked.{Linked}
use Rattle.link_model.specs.declared.selection.LinkedEntry.{LinkedEntry}
use Rattle.link_model.specs.Members.{objects_in}
use Rattle.link_model.specs.Chosen.{AreLinked}
use Rattle.link_model.specs.Definitions.{definitions_from}
use Rattle.link_select.specs.Entries.{entered_from, only_entry}
use Rattle.link_select.specs.Exports.{duplicate}
use Rattle.link_select.specs.Undefined.{undefined}

-- all areas, and all symbols, locals and references too
abbrev pub count_areas : List (Named Object) → ℕ
count_areas os = sum_by (λ o. length o.value.areas) os

abbrev pub count_symbols : List (Named Object) → ℕ
count_symbols os = sum_by (λ o. length o.value.symbols) os

abbrev pub refused : {A : Type 0} → Option Refusal → Result A Refusal → Result A Refusal
refused None next = next
refused (Some r) next = Err r

abbrev pub limited : {A : Type 0} → Quantity → ℕ → ℕ → Result A Refusal → Result A Refusal
limited quantity limit n next = if nat_lt limit n then Err (TooLarge quantity limit) else next

-- nothing, unless something is refused
abbrev pub passes : Option Refusal → Result (Unit {0}) Refusal
passes None = Ok tt
passes (Some r) = Err r

-- the entry of the linked objects, where there are not too many
abbrev pub sized : List (Named Object) → Result LinkedEntry Refusal
sized os = only_entry (entered_from 0 os) >>= λ e. limited Areas 65535 (count_areas os) (limited Symbols 1000000 (count_symbols os) (Ok e))

-- the entry of the linked objects, with the region symbols that the image has
abbrev pub judged : Option (List (List ℕ)) → List (Named Object) → Result LinkedEntry Refusal
judged regions os =
    refused (duplicate os) (refused (undefined regions os) (sized os))

unfoldable pub selection_of : Option (List (List ℕ)) → List (Named Object) → Result Linked Refusal
selection_of regions os = judged regions os >>= λ e. Ok (record { objects = os; definitions = definitions_from 0 (objects_in os); entry = e })

-- the answer of a call is the selection of what is linked, or memory was refused
abbrev pub Selects : List (Named Object) → List (Named Archive) → Option (List (List ℕ)) → Result Linked Fault → Type 0
Selects objects archives regions (Ok l) = (os : List (Named Object)) × AreLinked objects archives os × (selection_of regions os ≡ Ok l)
Selects objects archives regions (Err fault.NoMemory) = Unit {0}
Selects objects archives regions (Err (fault.Refused r)) = (os : List (Named Object)) × AreLinked objects archives os × (selection_of regions os ≡ Err r)
Selects objects archives regions (Err (fault.ReadFault name)) = ⊥
