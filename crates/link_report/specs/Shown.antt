-- What the values of the engine stand for, and what its indexes tell. This project's.
use Rattle.std.specs.Prelude.{◌≡◌, ℕ, Bool, false, ◌==◌, nat_eq, List, Option, Some, None}
use Rattle.std.specs.List.{find}
use Rattle.std.specs.Option.{option_map}
use Rattle.std.specs.declared.hash.FoldHasher.{FoldHasher}
use Rattle.std.specs.declared.hash.BuildHasherDefault.{BuildHasherDefault}
use Rattle.indexmap.specs.IndexMap.{IndexMap, get}
use Rattle.link_model.specs.declared.selection.Definition.{Definition}
use Rattle.link_values.specs.declared.definitions.Defined.{Defined}
use Rattle.link_values.specs.declared.values.SymbolValue.{SymbolValue}
use Rattle.link_values.specs.Index.{Index, found_in}
use Rattle.link_values.specs.Values.{meant, value_in}
use Rattle.link_report.specs.declared.members.Need.{Need}
use Rattle.link_report.specs.declared.symbols.Listed.{Listed}
use Rattle.link_report.specs.Members as members
use Rattle.link_report.specs.Symbols.{Exported}

-- ---- symbols

abbrev pub shown : Listed → Exported
shown e = record { definition = e.definition.now; value = meant e.value }

-- a definition with its value of a list
abbrev pub valued : List (List SymbolValue) → Definition → Exported
valued values d = record { definition = d; value = value_in values d.object d.symbol }

-- ---- members

abbrev pub shown_need : Need → members.Need
shown_need n = record { by = n.by; name = n.name.now }

abbrev pub is_of : ℕ → Option Defined → Bool
is_of object None = false
is_of object (Some d) = d.object == object

-- the object of a number answers it, as an index of definitions tells
abbrev pub is_answered : Index Defined → ℕ → members.Need → Bool
is_answered index object n = is_of object (found_in index n.name)

abbrev pub Firsts : Type 0
Firsts = IndexMap ℕ Need (BuildHasherDefault FoldHasher)

abbrev pub first_in : Firsts → ℕ → Option members.Need
first_in m object = option_map shown_need (get nat_eq m object)

-- each object has the first of these that it answers
abbrev pub AreFirsts : Index Defined → List members.Need → Firsts → Type 0
AreFirsts index needs m = (object : ℕ) → first_in m object ≡ find (is_answered index object) needs
