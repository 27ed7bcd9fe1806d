-- What moves where an image is moved: symbols in areas and region symbols, which then are a Base or a Limit (SDT 2.50
-- Reference Guide, ARM Image Format; that an undefined weak reference stays is this project's).
use Rattle.std.specs.Prelude.{ℕ, Bool, true, false, ◌==◌, if◌then◌else◌, List, Option, Some, None}
use Rattle.std.specs.Option.{is_some}
use Rattle.sdt_word.specs.Numbers.{bit}
use Rattle.aof_object.specs.declared.records.Object.{Object}
use Rattle.aof_object.specs.declared.records.Symbol.{Symbol}
use Rattle.link_model.specs.Meaning.{Meaning, Defined, OfRegion, symbol_of}
use Rattle.link_model.specs.Members.{objects_in}
use Rattle.link_model.specs.Values.{home_area}
use Rattle.link_values.specs.declared.definitions.Defined.{Defined as Entry}
use Rattle.link_values.specs.declared.values.SymbolContext.{SymbolContext}
use Rattle.link_values.specs.Index.{found_in}
use Rattle.link_values.specs.Regions.{number_by}

-- a symbol that stands in an area; absolute ones stay
abbrev pub is_moving_symbol : Option Symbol → Bool
is_moving_symbol None = false
is_moving_symbol (Some s) = is_some (home_area s)

-- and a region symbol; an undefined weak reference stays
abbrev pub is_moving : List Object → Option Meaning → Bool
is_moving os (Some (Defined object k)) = is_moving_symbol (symbol_of os object k)
is_moving os (Some (OfRegion n)) = true
is_moving os _ = false

-- ---- by indexes

abbrev pub named_moving : List Object → Option Entry → Option ℕ → Bool
named_moving os (Some d) number = is_moving_symbol (symbol_of os d.object d.symbol)
named_moving os None number = is_some number

-- of a symbol of an object
abbrev pub known_moving : SymbolContext → Option Symbol → Bool
known_moving known None = false
known_moving known (Some s) =
    if bit s.attributes 0 == 1 then is_moving_symbol (Some s)
    else named_moving (objects_in known.objects.now) (found_in known.definitions s.name) (number_by known.symbols s.name)
