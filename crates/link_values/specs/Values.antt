-- The values of symbols, as indexes give them. This project's.
use Rattle.std.specs.Prelude.{◌≡◌, ℕ, suc, false, ◌==◌, if◌then◌else◌, unwrap_or, List, [], ◌∷◌, map, slice_get, Option, Some, None}
use Rattle.std.specs.Option.{option_map, option_and_then}
use Rattle.sdt_word.specs.Numbers.{bit}
use Rattle.aof_object.specs.declared.records.Object.{Object}
use Rattle.aof_object.specs.declared.records.Symbol.{Symbol}
use Rattle.patch_model.specs.Fields.{Home, Meant}
use Rattle.link_model.specs.declared.placing.Placement.{Placement}
use Rattle.link_model.specs.Meaning.{symbol_of}
use Rattle.link_model.specs.Members.{Link, objects_in}
use Rattle.link_model.specs.Values.{Bases, meant_of, unplaced}
use Rattle.link_values.specs.declared.definitions.Defined.{Defined}
use Rattle.link_values.specs.declared.values.AreaOffset.{AreaOffset}
use Rattle.link_values.specs.declared.values.SymbolValue.{SymbolValue}
use Rattle.link_values.specs.declared.values.SymbolContext.{SymbolContext}
use Rattle.link_values.specs.Bases.{base_of, AreBases}
use Rattle.link_values.specs.Index.{found_in, IsIndexOf}
use Rattle.link_values.specs.Regions.{number_by, AreSymbols}
use Rattle.link_values.specs.Placed.{reduced_meant, values_in}

abbrev pub home : AreaOffset → Home
home p = record { object = p.object; area = p.area; offset = p.offset }

abbrev pub meant : SymbolValue → Meant
meant v = record { number = v.number; thumb = v.thumb; datum = v.datum; home = option_map home v.home }

-- the value of the symbol of a number of an object, as this list of lists has it
abbrev pub value_in : List (List SymbolValue) → ℕ → ℕ → Meant
value_in values object k =
    unwrap_or (option_map meant (option_and_then (λ vs. slice_get vs k) (slice_get values object))) (unplaced 0 false false)

-- all symbols have the values that the definition gives them
abbrev pub AreValues : Link → Placement → List (List SymbolValue) → Type 0
AreValues l p values = (object k : ℕ) → value_in values object k ≡ (values_in l p object).symbol k

-- ---- what indexes tell

-- this is what a link and its placement tell
pub record Knows (l : Link) (p : Placement) (known : SymbolContext) : Type 0 where
  pub objects : objects_in known.objects.now ≡ l.objects
  pub bases : AreBases p known.bases.now
  pub definitions : IsIndexOf l.definitions known.definitions
  pub symbols : AreSymbols l.objects p known.symbols

abbrev pub of_region : Option ℕ → Meant
of_region None = unplaced 0 false false
of_region (Some n) = unplaced n false false

abbrev pub named_value : List Object → Bases → Option Defined → Option ℕ → Meant
named_value os base_at (Some d) number = meant_of base_at d.object (symbol_of os d.object d.symbol)
named_value os base_at None number = of_region number

-- of a symbol of an object
abbrev pub known_value : SymbolContext → ℕ → Symbol → Meant
known_value known object s =
    if bit s.attributes 0 == 1 then meant_of (base_of known.bases.now) object (Some s)
    else named_value (objects_in known.objects.now) (base_of known.bases.now) (found_in known.definitions s.name) (number_by known.symbols s.name)

-- as branches take it
abbrev pub taken_value : Option ℕ → SymbolContext → ℕ → Symbol → Meant
taken_value boot known object s = reduced_meant boot (known_value known object s)

-- of all symbols of objects, which are counted from i on
abbrev pub all_values : (ℕ → Symbol → Meant) → ℕ → List Object → List (List Meant)
all_values value i [] = []
all_values value i (o ∷ os) = map (value i) o.symbols ∷ all_values value (suc i) os
