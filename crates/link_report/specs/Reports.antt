-- The report of a link: where everything went, by the placement of the headline's plan (SDT 2.50 Reference Guide, armlink,
-- has the facts; the text is this project's).
use Rattle.std.specs.Prelude.{ℕ, ◌==◌, Bool, if◌then◌else◌, List, [], ◌∷◌, ◌++◌, codes}
use Rattle.place_model.specs.declared.scatter.Kind.{Kind}
use Rattle.place_model.specs.declared.scatter.ScatterLoad.{ScatterLoad}
use Rattle.place_model.specs.Assignment.{description}
use Rattle.link_model.specs.declared.placing.AreaName.{AreaName}
use Rattle.link_model.specs.declared.placing.Placement.{Placement}
use Rattle.link_model.specs.declared.selection.Linked.{Linked}
use Rattle.link_model.specs.declared.selection.LinkedEntry.{LinkedEntry}
use Rattle.link_report.specs.Lines.{line, eight, state_word, object_name, name_of_area, area_at, place_of}
use Rattle.link_report.specs.Regions.{loads_text, regions_text}
use Rattle.link_report.specs.Symbols.{symbols_text}
use Rattle.link_report.specs.Members.{members_text}
use Rattle.link_report.specs.Selections.{selections_text}

-- ---- the image's first byte, and the entry

abbrev pub first_base : List ScatterLoad → ℕ
first_base [] = 0
first_base (l ∷ ls) = l.base

abbrev pub area_of_entry : LinkedEntry → AreaName
area_of_entry e = record { object = e.object; area = e.area }

abbrev pub entry_of : Linked → Placement → ℕ
entry_of l p = place_of p (area_of_entry l.entry) l.entry.offset

abbrev pub yes_or_no : Bool → List ℕ
yes_or_no b = if b then codes "yes" else codes "no"

abbrev pub first_line : Kind → Linked → Placement → List ℕ
first_line k l p = line (codes "first" ∷ eight (first_base (description k)) ∷ yes_or_no (entry_of l p == first_base (description k)) ∷ [])

abbrev pub entry_line : Linked → Placement → List ℕ
entry_line l p =
    line (codes "entry" ∷ eight (entry_of l p) ∷ state_word l.entry.thumb ∷ object_name l.objects l.entry.object
    ∷ name_of_area (area_at l.objects (area_of_entry l.entry)) ∷ [])

-- ---- the report

-- of an image of a form, whose first linked objects, so many as are given, stand on the command line
abbrev pub report_text : Kind → ℕ → Linked → Placement → List ℕ
report_text k given l p =
    codes "armsdt report 1\n"
    ++ (loads_text p.regions 0 (description k)
    ++ (regions_text k l.objects p 0 p.regions
    ++ (symbols_text l p
    ++ (members_text l given
    ++ (selections_text k l.objects
    ++ (first_line k l p
    ++ (entry_line l p
    ++ codes "end\n")))))))
