use Rattle.std.proofs.Common.{◌≡◌, ◌∷◌, List, OnOk, rules}
use Rattle.std.specs.Prelude.{Result, Ok, Err}
use Rattle.sdt_fault.specs.declared.NoMemory.{NoMemory}
use Rattle.asm_model.specs.declared.directives.DirectiveLine.TheVariants as line
use Rattle.asm_model.specs.declared.statements.Statement.{Statement}
use Rattle.asm_model.specs.declared.statements.What.TheVariants as what
use Rattle.asm_model.specs.Laid.{LaidLine}
use Rattle.asm_checks.specs.Starts.{with_area, AreStarts, IsLineOf, IsSmall}
use Rattle.asm_checks.proofs.StartLemmas.{area_more}
use Rattle.asm_checks.proofs.starts.Starts.note.Goals as goal

pub returns-in-Directive-Area : goal.returns-in-Directive-Area
returns-in-Directive-Area c = on_ok c.note_area.result c.note_area.ensures
  where
    on_ok : (r : Result (Unit {0}) NoMemory) → OnOk r (IsSmall c.args.exponent
        → c.note_area.new.self ≡ with_area c.in-Directive-Area.name c.in-Directive-Area.attributes c.args.area c.args.thumb_area c.args.exponent
        c.args.self.now)
        → OnOk r ((all : List Statement) (l : LaidLine) (before : List LaidLine) → AreStarts all before c.args.self.now
        → IsLineOf all c.args.what.now c.args.area c.args.thumb_area c.args.exponent l before → AreStarts all (l ∷ before) c.note_area.new.self)
    on_ok (Err n) e = e
    on_ok (Ok u) e = λ all l before h i.
        let here : c.args.what.now ≡ what.Directive (line.Area c.in-Directive-Area.name c.in-Directive-Area.attributes) = search rules in
        let said : IsLineOf all (what.Directive (line.Area c.in-Directive-Area.name c.in-Directive-Area.attributes)) c.args.area c.args.thumb_area
        c.args.exponent l before =
        rw here at i in
        rw (e said.aligned.1) (area_more all l before c.args.self.now c.in-Directive-Area.name c.in-Directive-Area.attributes c.args.area c.args.thumb_area
        c.args.exponent h said)
