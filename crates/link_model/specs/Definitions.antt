-- Where the names of linked objects are defined, and where the program begins (SDT 2.50 Reference Guide,
-- ARM Object Format: exported symbols and the entry; that a definition is told by numbers is this
-- project's).
use Rattle.std.specs.Prelude.{ℕ, suc, Bool, false, ◌==◌, if◌then◌else◌, List, [], ◌∷◌, ◌++◌, slice_get, Option, Some, None}
use Rattle.sdt_word.specs.Numbers.{bit}
use Rattle.aof_object.specs.declared.records.Area.{Area}
use Rattle.aof_object.specs.declared.records.Entry.{Entry}
use Rattle.aof_object.specs.declared.records.Object.{Object}
use Rattle.aof_object.specs.declared.records.Symbol.{Symbol}
use Rattle.aof_object.specs.Checks.{is_exported}
use Rattle.link_model.specs.declared.selection.Definition.{Definition}
use Rattle.link_model.specs.declared.selection.LinkedEntry.{LinkedEntry}

-- a symbol's definition, where it is exported
abbrev pub definition_in : ℕ → ℕ → Symbol → List Definition
definition_in object k s = if is_exported s.attributes then (record { name = s.name; object = object; symbol = k }) ∷ [] else []

-- the definitions of an object's symbols, which are counted from k on
abbrev pub definitions_in : ℕ → ℕ → List Symbol → List Definition
definitions_in object k [] = []
definitions_in object k (s ∷ ss) = definition_in object k s ++ definitions_in object (suc k) ss

-- those of objects, which are counted from i on
abbrev pub definitions_from : ℕ → List Object → List Definition
definitions_from i [] = []
definitions_from i (o ∷ os) = definitions_in i 0 o.symbols ++ definitions_from (suc i) os

-- the area has Thumb code
abbrev pub is_thumb : Option Area → Bool
is_thumb None = false
is_thumb (Some a) = bit a.attributes 20 == 1

-- the entry of the object of a number
abbrev pub linked_entry : ℕ → Object → Entry → LinkedEntry
linked_entry i o e = record { object = i; area = e.area; offset = e.offset; thumb = is_thumb (slice_get o.areas e.area) }
