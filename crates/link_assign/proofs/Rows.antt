-- Worked values: areas of two objects by their names and the objects' names in reports.
use Rattle.std.proofs.Common.{◌≡◌, ℕ, List, [], ◌∷◌, None, Ok, Err, refl}
use Rattle.std.specs.Prelude.{codes}
use Rattle.sdt_fault.specs.declared.refusal.Refusal.TheVariants.{Unassigned, Ambiguous}
use Rattle.aof_object.specs.declared.records.Area.{Area}
use Rattle.aof_object.specs.declared.records.Object.{Object}
use Rattle.link_model.specs.declared.placing.AreaName.{AreaName}
use Rattle.link_model.specs.declared.selection.Named.{Named}
use Rattle.place_model.specs.declared.scatter.Choice.TheVariants as choice
use Rattle.place_model.specs.declared.scatter.Kind.TheVariants as kind
use Rattle.place_model.specs.declared.scatter.ScatterBase.TheVariants.{At}
use Rattle.place_model.proofs.Rows.{any, code_region, image, region}
use Rattle.link_assign.specs.Assigning.{assignment_of}

abbrev area : List ℕ → ℕ → Area
area name attributes = record { name = name; attributes = attributes; size = 4; bytes = 0 ∷ 0 ∷ 0 ∷ 0 ∷ []; relocs = [] }

abbrev object : List ℕ → List ℕ → List Area → Named Object
object report home areas = record { name = report; «module» = home; value = record { areas = areas; symbols = []; entry = None } }

-- a member of a library is reported with its library
abbrev two : List (Named Object)
two = object (codes "main.o") (codes "main.o") (area (codes "m") 0x2202 ∷ area (codes "d") 2 ∷ []) ∷ object (codes "l(p.o)") (codes "p.o") (area (codes "c") 0x2202 ∷ area (codes "e") 2 ∷ []) ∷ []

abbrev named : ℕ → ℕ → AreaName
named i k = record { object = i; area = k }

plain : assignment_of (kind.Plain 0x8000) two ≡ Ok (record { regions = (named 1 0 ∷ named 0 0 ∷ []) ∷ (named 0 1 ∷ named 1 1 ∷ []) ∷ [] ∷ [] })
plain = refl

-- the first in input order
unassigned : assignment_of (image (code_region ∷ [])) two ≡ Err (Unassigned (codes "main.o") (codes "d"))
unassigned = refl

ambiguous : assignment_of (image (code_region ∷ region (codes "Y") (At 0x9000) (any (choice.Named (codes "d")) ∷ any choice.Rw ∷ any choice.Rw ∷ []) ∷ [])) two ≡ Err (Ambiguous (codes "l(p.o)") (codes "e") 1 1)
ambiguous = refl
