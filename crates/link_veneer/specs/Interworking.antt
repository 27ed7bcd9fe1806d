-- The first branch to a symbol of the other state whose area lacks the interworking bit, in input order: by
-- objects, areas and relocations (SDT 2.50 Reference Guide, ARM Object Format, area attributes, and armlink's
-- interworking veneers; the order is this project's). Branches that go by no veneer ask for no bit.
use Rattle.std.specs.Prelude.{ℕ, suc, ◌==◌, if◌then◌else◌, List, [], ◌∷◌, Option, Some, None}
use Rattle.std.specs.Option.{option_map, option_or}
use Rattle.sdt_word.specs.Numbers.{bit}
use Rattle.sdt_fault.specs.declared.refusal.Refusal.{Refusal}
use Rattle.sdt_fault.specs.declared.refusal.Refusal.TheVariants.{NotInterworking}
use Rattle.aof_object.specs.declared.records.Area.{Area}
use Rattle.aof_object.specs.declared.records.Object.{Object}
use Rattle.aof_object.specs.declared.records.Reloc.{Reloc}
use Rattle.aof_object.specs.declared.records.Symbol.{Symbol}
use Rattle.patch_model.specs.Fields.{number_named}
use Rattle.link_model.specs.declared.placing.AreaName.{AreaName}
use Rattle.link_model.specs.declared.placing.Veneer.{Veneer}
use Rattle.link_model.specs.Meaning.{symbol_of}
use Rattle.link_model.specs.Members.{Link}
use Rattle.link_model.specs.Options.{first_given}
use Rattle.link_model.specs.RegionValues.{area_of}
use Rattle.link_model.specs.Veneers.{needed_by}

-- the name of an area that lacks bit 22
abbrev pub lacking_bit : Option Area → Option (List ℕ)
lacking_bit None = None
lacking_bit (Some a) = if bit a.attributes 22 == 1 then None else Some a.name

-- a branch by a symbol that needs a veneer
abbrev pub refusal_by : List Object → Option Symbol → Option Veneer → Option Refusal
refusal_by os None need = None
refusal_by os (Some s) None = None
refusal_by os (Some s) (Some v) = option_map (NotInterworking s.name) (lacking_bit (area_of os v.area))

-- a relocation of an area; which region the area is in decides nothing
abbrev pub refused_by : Link → AreaName → Area → Reloc → Option Refusal
refused_by l name a r = refusal_by l.objects (symbol_of l.objects name.object (number_named r)) (needed_by l 0 name a r)

-- of an object's areas, which are counted from k on
abbrev pub refused_in : Link → ℕ → ℕ → List Area → Option Refusal
refused_in l object k [] = None
refused_in l object k (a ∷ areas) =
    option_or (first_given (refused_by l (record { object = object; area = k }) a) a.relocs) (refused_in l object (suc k) areas)

-- of objects, which are counted from i on
abbrev pub refused_from : Link → ℕ → List Object → Option Refusal
refused_from l i [] = None
refused_from l i (o ∷ os) = option_or (refused_in l i 0 o.areas) (refused_from l (suc i) os)

abbrev pub not_interworking : Link → Option Refusal
not_interworking l = refused_from l 0 l.objects
