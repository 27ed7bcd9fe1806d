-- Faults of passes, as calls answer them.
use Rattle.std.proofs.Common.{◌≡◌, inl, inr, ℕ, List, false, Option, Some, None, Result, Ok, Err, refl, sym, ap, ◌∙◌, subst}
use Rattle.std.specs.List.{list_any}
use Rattle.sdt_fault.specs.declared.answer.Fault.{Fault}
use Rattle.sdt_fault.specs.declared.kinds.LineKind.{LineKind}
use Rattle.sdt_fault.specs.declared.refusal.Refusal.{Refusal}
use Rattle.aof_object.specs.declared.records.Object.{Object}
use Rattle.armasm_core.specs.Emitted.{IsEmitted}
use Rattle.asm_layout.specs.Layout.{IsTold}
use Rattle.asm_model.specs.declared.lines.Flat.{Flat}
use Rattle.asm_model.specs.declared.statements.Statement.{Statement}
use Rattle.asm_model.specs.Directives.{or_else}
use Rattle.asm_reading.specs.declared.flat_lines.Reading.{Reading}
use Rattle.source_model.specs.SourceFaults.{value_faults}
use Rattle.armasm_core.specs.Assembling.{said_by, says_area, told, line_faults, reading_faults, without_area}
use Rattle.armasm_core.specs.Passes.{IsToldAs, LaysLines, LaysOut, Makes}

-- ---- a fault

pub told_as : (t : Option (Statement × LineKind)) (f : Fault) → IsTold t f → IsToldAs (told t) f
told_as t f (inl none) = subst (IsToldAs (told t)) (sym none) tt
told_as t f (inr h) = subst (IsToldAs (told t)) (sym h.3) (ap told h.2)

no_area : (name : List ℕ) (flats : List Flat) (r : Reading) → list_any says_area flats ≡ false
    → reading_faults name flats r ≡ Some (without_area name (line_faults (said_by r) r.before r.unread))
no_area name flats r h = rw h refl

pub area_missing_beside : (name : List ℕ) (flats : List Flat) (r : Reading) (e f : Fault) → list_any says_area flats ≡ false
    → LaysLines (said_by r) r.before r.unread (Err e) → ((t : Option Refusal) → IsToldAs t e → IsToldAs (Some (without_area name t)) f)
    → LaysOut name flats r (Err f)
area_missing_beside name flats r e f h k tables =
    subst (λ (t : Option Refusal). IsToldAs t f) (sym (no_area name flats r h)) (tables (line_faults (said_by r) r.before r.unread) k)

-- ---- the object

pub makes : (name : List ℕ) (flats : List Flat) (r : Reading) (x : Result Object Fault) → reading_faults name flats r ≡ None → IsEmitted (said_by r) x
    → Makes name flats r x
makes name flats r (Ok o) none h = (ap (λ (t : Option Refusal). or_else t (told (value_faults (said_by r)))) none ∙ ap told h.0, h.1)
makes name flats r (Err f) none h =
    subst (λ (t : Option Refusal). IsToldAs t f)
    (sym (ap (λ (t : Option Refusal). or_else t (told (value_faults (said_by r)))) none)) (told_as (value_faults (said_by r)) f h)
