-- What a report tells of the names that linked objects export: each by its final value, as the headline gives it, in the
-- order of values and then of definitions. This project's.
use Rattle.std.specs.Prelude.{ℕ, Bool, false, nat_lt, ◌==◌, if◌then◌else◌, List, [], ◌∷◌, map, codes, Option, Some, None}
use Rattle.std.specs.List.{flat_map}
use Rattle.sdt_word.specs.Numbers.{bit}
use Rattle.aof_object.specs.declared.records.Area.{Area}
use Rattle.aof_object.specs.declared.records.Object.{Object}
use Rattle.patch_model.specs.Fields.{Home, Meant}
use Rattle.link_model.specs.declared.placing.Placement.{Placement}
use Rattle.link_model.specs.declared.selection.Definition.{Definition}
use Rattle.link_model.specs.declared.selection.Linked.{Linked}
use Rattle.link_model.specs.declared.selection.Named.{Named}
use Rattle.link_model.specs.Members.{link_of}
use Rattle.link_values.specs.Placed.{values_in}
use Rattle.link_report.specs.Lines.{line, eight, object_name, name_of_area, area_at}

-- a definition with the value of its symbol
pub record Exported : Type 0 where
  pub definition : Definition
  pub value : Meant

abbrev pub exported : Linked → Placement → Definition → Exported
exported l p d = record { definition = d; value = (values_in (link_of l) p d.object).symbol d.symbol }

-- ---- the order

-- one comes to stand before the first that it may precede
abbrev pub put_in : Exported → List Exported → List Exported
put_in e [] = e ∷ []
put_in e (f ∷ fs) = if nat_lt f.value.number e.value.number then f ∷ put_in e fs else e ∷ f ∷ fs

-- by value, and then by the order in which they are given
abbrev pub by_value : List Exported → List Exported
by_value [] = []
by_value (e ∷ es) = put_in e (by_value es)

-- ---- lines

-- where the symbol stands
abbrev pub area_of_home : List (Named Object) → Option Home → Option Area
area_of_home os None = None
area_of_home os (Some h) = area_at os (record { object = h.object; area = h.area })

abbrev pub is_code : Option Area → Bool
is_code None = false
is_code (Some a) = bit a.attributes 9 == 1

-- of a label of code; a datum and a number have none
abbrev pub symbol_state : Option Area → Meant → List ℕ
symbol_state area m =
    if m.datum then codes "-" else (
    if m.thumb then codes "THUMB" else (
    if is_code area then codes "ARM" else codes "-"))

abbrev pub symbol_line : List (Named Object) → Exported → List ℕ
symbol_line os e =
    line (codes "symbol" ∷ eight e.value.number ∷ symbol_state (area_of_home os e.value.home) e.value
    ∷ object_name os e.definition.object ∷ name_of_area (area_of_home os e.value.home) ∷ e.definition.name ∷ [])

abbrev pub symbols_text : Linked → Placement → List ℕ
symbols_text l p = flat_map (symbol_line l.objects) (by_value (map (exported l p) l.definitions))
