-- What a call answers of a text.
use Rattle.std.proofs.Common.{◌≡◌, inr, ℕ, ◌^◌, ◌<◌, ◌≤◌, Bool, true, false, cond, List, length, Option, Some, None, Result, Ok, Err, refl, sym, subst}
use Rattle.std.specs.Prelude.{IfErr, IfOk}
use Rattle.std.specs.List.{list_any}
use Rattle.sdt_fault.specs.declared.answer.Fault.{Fault}
use Rattle.sdt_fault.specs.declared.answer.Fault.TheVariants as fault
use Rattle.sdt_fault.specs.declared.kinds.LineKind.{LineKind}
use Rattle.sdt_fault.specs.declared.refusal.Refusal.{Refusal}
use Rattle.sdt_fault.specs.declared.refusal.Refusal.TheVariants.{BadLine, Missing}
use Rattle.sdt_outside.specs.Files.{Files, content}
use Rattle.aof_object.specs.declared.records.Object.{Object}
use Rattle.aof_object.specs.Validity.{IsValid}
use Rattle.asm_expand.specs.Leading.{Caused, IsFault, IsReadOf, IsToldBy, OfFiles}
use Rattle.asm_layout.specs.Front.{front_laid}
use Rattle.asm_model.specs.declared.lines.Flat.{Flat}
use Rattle.asm_model.specs.declared.statements.Statement.{Statement}
use Rattle.asm_model.specs.Directives.{or_else}
use Rattle.asm_reading.specs.declared.flat_lines.Reading.{Reading}
use Rattle.asm_reading.specs.declared.flat_lines.Unread.{Unread}
use Rattle.asm_reading.specs.FlatLines.{IsReading}
use Rattle.expand_model.specs.Expands.{Outcome, Flats, FaultAt, MissingFile, Expands, ExpansionLaw}
use Rattle.expand_model.specs.Gets.{GetsFile}
use Rattle.expand_model.specs.Steps.{visit_limit}
use Rattle.source_model.specs.SourceFaults.{layout_faults, value_faults}
use Rattle.stand_model.specs.Placed.{HoldsWherePlaced}
use Rattle.armasm_core.specs.Assembling.{most_bytes, said_by, says_area, told, unread_told, line_faults, without_area, reading_faults, source_faults, FlatsMake, OutcomeMakes, MayExpand, Assembles, IsCaused}
use Rattle.armasm_core.specs.Passes.{FlatsGive, Makes}
use Rattle.armasm_core.specs.Standing.{FlatsStand, StandsFrom, ObjectsOfFlatsAreValid, ObjectsOfFlatsStand}

-- ---- flat lines

pub flats_give : (name : List ℕ) (flats : List Flat) (r : Reading) (x : Result Object Fault) → IsReading flats r → Makes name flats r x → FlatsGive name flats x
flats_give name flats r (Ok o) says made = record { reading = r; says = says; makes = made }
flats_give name flats r (Err (fault.Refused q)) says made = record { reading = r; says = says; makes = made }
flats_give name flats r (Err (fault.ReadFault file)) says made = made
flats_give name flats r (Err fault.NoMemory) says made = tt

-- ---- what was expanded

may_expand : (told : Option Files) (name text : List ℕ) (o : Outcome) → OfFiles told (λ sources. Expands sources visit_limit name text o)
    → MayExpand told name text o
may_expand None name text o h = tt
may_expand (Some files) name text o h = h

pub assembled : (told : Option Files) (name text : List ℕ) (flats : List Flat) (x : Result Object Fault) → length text ≤ most_bytes
    → OfFiles told (λ sources. Expands sources visit_limit name text (Flats flats)) → FlatsGive name flats x → Assembles told name text x
assembled told name text flats (Ok o) short expands made = inr (short, Flats flats, may_expand told name text (Flats flats) expands, made)
assembled told name text flats (Err (fault.Refused r)) short expands made = inr (short, Flats flats, may_expand told name text (Flats flats) expands, made)
assembled told name text flats (Err (fault.ReadFault file)) short expands made = absurd made
assembled told name text flats (Err fault.NoMemory) short expands made = tt

-- each fault is of a line
abbrev IsOfLine : Option Refusal → Type 0
IsOfLine (Some (BadLine file n k)) = Unit {0}
IsOfLine None = Unit {0}
IsOfLine _ = ⊥

of_line : (t : Option (Statement × LineKind)) → IsOfLine (told t)
of_line None = tt
of_line (Some t) = tt

either_of_line : (a b : Option Refusal) → IsOfLine a → IsOfLine b → IsOfLine (or_else a b)
either_of_line None b h k = k
either_of_line (Some r) b h k = h

lines_of_line : (ss : List Statement) (before : ℕ) (u : Option Unread) → IsOfLine (line_faults ss before u)
lines_of_line ss before None = of_line (layout_faults ss)
lines_of_line ss before (Some u) = either_of_line (told (front_laid ss before)) (Some (unread_told u)) (of_line (front_laid ss before)) tt

tables_of_line : (name : List ℕ) (t : Option Refusal) → IsOfLine (Some (without_area name t))
tables_of_line name (Some (BadLine file n k)) = tt
tables_of_line name t = tt

reading_of_line : (name : List ℕ) (flats : List Flat) (r : Reading) → IsOfLine (reading_faults name flats r)
reading_of_line name flats r = by_area (list_any says_area flats)
  where
    by_area : (b : Bool)
        → IsOfLine (cond b (line_faults (said_by r) r.before r.unread) (Some (without_area name (line_faults (said_by r) r.before r.unread))))
    by_area true = lines_of_line (said_by r) r.before r.unread
    by_area false = tables_of_line name (line_faults (said_by r) r.before r.unread)

source_of_line : (name : List ℕ) (flats : List Flat) (r : Reading) → IsOfLine (source_faults name flats r)
source_of_line name flats r =
    either_of_line (reading_faults name flats r) (told (value_faults (said_by r))) (reading_of_line name flats r) (of_line (value_faults (said_by r)))

line_caused : (files : Option Files) (rose : Type 0) (q : Refusal) → IsOfLine (Some q) → IsCaused files rose (fault.Refused q)
line_caused files rose (Missing file) h = absurd h
line_caused files rose q h = tt

pub made_caused : (files : Option Files) (rose : Type 0) (name : List ℕ) (flats : List Flat) (x : Result Object Fault) → FlatsGive name flats x
    → IfErr x (IsCaused files rose)
made_caused files rose name flats (Ok o) made = tt
made_caused files rose name flats (Err (fault.Refused r)) made =
    line_caused files rose r (subst IsOfLine made.makes (source_of_line name flats made.reading))
made_caused files rose name flats (Err (fault.ReadFault file)) made = absurd made
made_caused files rose name flats (Err fault.NoMemory) made = tt

-- ---- a fault of expansion

told_made : (name : List ℕ) (r : Refusal) (o : Outcome) → IsToldBy r o → OutcomeMakes name o (Err r)
told_made name (BadLine file n k) o h = subst (λ (p : Outcome). OutcomeMakes name p (Err (BadLine file n k))) (sym h) refl
told_made name (Missing file) o h = subst (λ (p : Outcome). OutcomeMakes name p (Err (Missing file))) (sym h) refl
told_made name r o h = absurd h

pub refused : (told : Option Files) (rose : Type 0) (name text : List ℕ) (e : Fault) → length text ≤ most_bytes
    → OfFiles told (λ sources. IsFault e (λ o. Expands sources visit_limit name text o))
    → OfFiles told (λ sources. IsReadOf e (GetsFile sources visit_limit name text))
    → Caused e told rose → Assembles told name text (Err e)
refused None rose name text (fault.ReadFault file) short h gets cause = tt
refused (Some files) rose name text (fault.ReadFault file) short h gets cause = (short, gets)
refused told rose name text fault.NoMemory short h gets cause = tt
refused None rose name text (fault.Refused (BadLine file n k)) short h gets cause = inr (short, FaultAt file n k, tt, refl)
refused None rose name text (fault.Refused (Missing file)) short h gets cause = inr (short, MissingFile file, tt, refl)
refused None rose name text (fault.Refused r) short h gets cause = absurd cause
refused (Some files) rose name text (fault.Refused r) short h gets cause = inr (short, h.0, h.1, told_made name r h.0 h.2)

pub caused : (told : Option Files) (rose : Type 0) (e : Fault) → Caused e told rose → IsCaused told rose e
caused told rose (fault.Refused (Missing file)) h = h
caused told rose (fault.Refused r) h = tt
caused told rose (fault.ReadFault file) h = h
caused told rose fault.NoMemory h = tt

-- ---- an object

stands_from : ExpansionLaw → (told : Option Files) (name text : List ℕ) (flats : List Flat) (o : Object)
    → OfFiles told (λ sources. Expands sources visit_limit name text (Flats flats)) → FlatsMake name flats (Ok o) → HoldsWherePlaced (FlatsStand flats) o
    → StandsFrom told name text o
stands_from one None name text flats o expands make stand = record { flats = flats; make = make; stand = stand }
stands_from one (Some files) name text flats o expands make stand =
    λ own values area_at view region veneers placed shown others also.
    let is : Flats flats ≡ Flats others = one (content files) visit_limit name text (Flats flats) (Flats others) expands also in
    let same : flats ≡ others = cc in
    subst (λ (fs : List Flat). FlatsStand fs values view region) same (stand own values area_at view region veneers placed shown)

pub if_stands : ObjectsOfFlatsStand → ExpansionLaw → (told : Option Files) (name text : List ℕ) (flats : List Flat) (x : Result Object Fault)
    → OfFiles told (λ sources. Expands sources visit_limit name text (Flats flats)) → length flats ≤ visit_limit → FlatsGive name flats x
    → IfOk x (λ o. length o.symbols < 2 ^ 24) → IfOk x (StandsFrom told name text)
if_stands law one told name text flats (Ok o) expands short made few = stands_from one told name text flats o expands made (law name flats o made short few)
if_stands law one told name text flats (Err f) expands short made few = tt

pub if_valid : ObjectsOfFlatsAreValid → (name : List ℕ) (flats : List Flat) (x : Result Object Fault) → length flats ≤ visit_limit → FlatsGive name flats x
    → IfOk x (λ o. length o.symbols < 2 ^ 24) → IfOk x IsValid
if_valid law name flats (Ok o) short made few = law name flats o made short few
if_valid law name flats (Err f) short made few = tt
