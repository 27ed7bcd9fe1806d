-- The areas that lines name, by the attributes of the first such line. This project's.
use Rattle.std.specs.Prelude.{◌≡◌, ℕ, List, ◌&&◌, not, Bool, false, Option, Some, None, if◌then◌else◌, Result, Ok, Err}
use Rattle.sdt_fault.specs.declared.kinds.LineKind.{LineKind}
use Rattle.asm_model.specs.declared.directives.AreaAttributes.{AreaAttributes}
use Rattle.asm_model.specs.declared.directives.DirectiveLine.TheVariants as line
use Rattle.asm_model.specs.declared.statements.What.{What}
use Rattle.asm_model.specs.declared.statements.What.TheVariants as what
use Rattle.asm_model.specs.declared.names.Names.{Names}
use Rattle.asm_model.specs.Forms.{same}
use Rattle.asm_model.specs.Laid.{LaidLine}
use Rattle.asm_model.specs.LayoutKinds.{exponent, same_contents, same_mark, same_exponent, is_named_otherwise}
use Rattle.asm_sets.specs.Sets.{found_in}
use Rattle.asm_checks.specs.declared.areas.AreaMarks.{AreaMarks}

abbrev pub Areas : Type 0
Areas = List (List ℕ × AreaMarks)

abbrev pub marks_in : Areas → List ℕ → Option AreaMarks
marks_in areas q = found_in q areas

-- whether attributes with an exponent agree with those of an area
abbrev pub agrees : AreaAttributes → Result ℕ LineKind → AreaMarks → Bool
agrees a x m =
    same_contents a.contents m.contents && same_mark a.read_only m.read_only && same_mark a.interwork m.interwork
    && same_mark a.halfword m.halfword && same_mark a.pic m.pic && same_mark a.reentrant m.reentrant
    && same_exponent x (Ok m.exponent)

abbrev pub is_otherwise : AreaAttributes → Result ℕ LineKind → Option AreaMarks → Bool
is_otherwise a x None = false
is_otherwise a x (Some m) = not (agrees a x m)

abbrev pub marks_of : AreaAttributes → ℕ → AreaMarks
marks_of a n = record {
  contents = a.contents;
  read_only = a.read_only;
  interwork = a.interwork;
  halfword = a.halfword;
  pic = a.pic;
  reentrant = a.reentrant;
  exponent = n;
}

-- what attributes with an exponent leave of an area of the name
abbrev pub noted : AreaAttributes → Result ℕ LineKind → Option AreaMarks → Option AreaMarks
noted a (Ok n) None = Some (marks_of a n)
noted a (Ok n) (Some m) = Some m
noted a (Err k) o = o

abbrev pub IsNoted : List ℕ → AreaAttributes → Result ℕ LineKind → Areas → Areas → Type 0
IsNoted name a x before after =
    (q : List ℕ) → marks_in after q ≡ (if same q name then noted a x (marks_in before name) else marks_in before q)

-- the map tells of any attributes whether lines name the area otherwise
abbrev pub AreAreasOf : List LaidLine → Areas → Type 0
AreAreasOf before areas =
    (name : List ℕ) (s : Names) (a : AreaAttributes)
    → is_named_otherwise name s a before ≡ is_otherwise a (exponent s a.alignments) (marks_in areas name)

-- the exponent of an AREA's alignment, by what its line sees
abbrev pub IsExponent : Names → What → Result ℕ LineKind → Type 0
IsExponent s (what.Directive (line.Area name a)) x = x ≡ exponent s a.alignments
IsExponent s _ x = Unit {0}
