-- What a symbol means: a definition is itself; a reference is the exported definition of its name, or,
-- where no linked object exports it, the region symbol of the name, or, where it is weak, the value 0,
-- absolute, with the state of the branch that takes it (SDT 2.50 Reference Guide, armlink; what an
-- undefined weak reference is in a branch is this project's).
use Rattle.std.specs.Prelude.{ℕ, Bool, true, false, ◌==◌, if◌then◌else◌, List, slice_get, Option, Some, None}
use Rattle.std.specs.List.{find}
use Rattle.std.specs.Option.{option_and_then}
use Rattle.std.specs.Str.{bytes_eq}
use Rattle.sdt_word.specs.Numbers.{bit}
use Rattle.aof_object.specs.declared.records.Object.{Object}
use Rattle.aof_object.specs.declared.records.Symbol.{Symbol}
use Rattle.link_model.specs.declared.selection.Definition.{Definition}

-- a symbol of a linked object, a region symbol with its number before it is reduced modulo 2^32, or an
-- undefined weak reference
pub data Meaning : Type 0 where
  Defined : (object symbol : ℕ) → Meaning
  OfRegion : ℕ → Meaning
  Weak : Meaning

abbrev pub definition_of : List Definition → List ℕ → Option Definition
definition_of definitions q = find (λ d. bytes_eq d.name q) definitions

abbrev pub meaning_by : Option Definition → Option ℕ → Bool → Option Meaning
meaning_by (Some d) number weak = Some (Defined d.object d.symbol)
meaning_by None (Some n) weak = Some (OfRegion n)
meaning_by None None true = Some Weak
meaning_by None None false = None

-- of the symbol of these numbers; `numbers` has the region symbols
abbrev pub meaning_of : List Definition → (List ℕ → Option ℕ) → ℕ → ℕ → Symbol → Option Meaning
meaning_of definitions numbers object k s =
    if bit s.attributes 0 == 1 then Some (Defined object k)
    else meaning_by (definition_of definitions s.name) (numbers s.name) (bit s.attributes 4 == 1)

-- the symbol of these numbers
abbrev pub symbol_of : List Object → ℕ → ℕ → Option Symbol
symbol_of os object k = option_and_then (λ o. slice_get o.symbols k) (slice_get os object)
