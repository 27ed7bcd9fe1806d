-- Names that two linked objects export: the first such name, by the order of the objects and their
-- symbols, with the first two objects that export it. This project's.
use Rattle.std.specs.Prelude.{ℕ, if◌then◌else◌, List, [], ◌∷◌, Option, Some, None}
use Rattle.std.specs.List.{find}
use Rattle.std.specs.Option.{option_map, option_or}
use Rattle.sdt_fault.specs.declared.refusal.Refusal.{Refusal}
use Rattle.sdt_fault.specs.declared.refusal.Refusal.TheVariants.{Duplicate}
use Rattle.aof_object.specs.declared.records.Object.{Object}
use Rattle.aof_object.specs.declared.records.Symbol.{Symbol}
use Rattle.aof_object.specs.Checks.{is_exported}
use Rattle.link_model.specs.declared.selection.Named.{Named}
use Rattle.link_model.specs.Options.{first_given}
use Rattle.link_model.specs.Chosen.{exports}
use Rattle.link_select.specs.declared.exports.TwoExports.{TwoExports}

-- a symbol of the object called `name` that one of the later objects exports too
abbrev pub clash : List ℕ → List (Named Object) → Symbol → Option Refusal
clash name later s =
    if is_exported s.attributes then option_map (λ o. Duplicate s.name name o.name) (find (λ o. exports o.value s.name) later) else None

abbrev pub duplicate : List (Named Object) → Option Refusal
duplicate [] = None
duplicate (o ∷ os) = option_or (first_given (clash o.name os) o.value.symbols) (duplicate os)

-- what is told of a name that two objects export
abbrev pub told : Option TwoExports → Option Refusal
told None = None
told (Some names) = Some (Duplicate names.symbol.now names.first.now names.second.now)
