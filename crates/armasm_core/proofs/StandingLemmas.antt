-- The object of flat lines stands wherever it is placed, and is valid.
use Rattle.std.proofs.Common.{◌≡◌, ℕ, ◌+◌, ◌^◌, ◌<◌, ◌≤◌, List, [], length, Bool, true, false, cond, Option, Some, None, Ok, refl, subst, arith}
use Rattle.std.specs.List.{list_any}
use Rattle.sdt_fault.specs.declared.kinds.LineKind.{LineKind}
use Rattle.sdt_fault.specs.declared.refusal.Refusal.{Refusal}
use Rattle.aof_object.specs.declared.records.Object.{Object}
use Rattle.armasm_core.proofs.PlacedLemmas.{few_areas as areas_few}
use Rattle.asm_layout.proofs.WalkLemmas.{reversed_long}
use Rattle.asm_layout.specs.Front.{front_laid}
use Rattle.asm_model.specs.declared.lines.Flat.{Flat}
use Rattle.asm_model.specs.declared.statements.Statement.{Statement}
use Rattle.asm_model.specs.Directives.{or_else}
use Rattle.asm_reading.specs.declared.flat_lines.Reading.{Reading}
use Rattle.asm_reading.specs.declared.flat_lines.Unread.{Unread}
use Rattle.asm_reading.proofs.ReadLemmas.{few_read}
use Rattle.asm_reading.specs.Laws.{AreFit, OneReading, ReadingsAreFit}
use Rattle.asm_model.specs.Laid.{reversed}
use Rattle.expand_model.specs.Steps.{visit_limit}
use Rattle.object_laws.specs.Laws.{ObjectsAreValid}
use Rattle.source_laws.specs.Laws.{SourcesKeepStates}
use Rattle.source_model.specs.Objects.{source_of}
use Rattle.source_model.specs.SourceFaults.{layout_faults, value_faults}
use Rattle.stand_laws.specs.Laws.{IsFaultless, ObjectsStand}
use Rattle.stand_model.specs.Stands.{AllStand}
use Rattle.armasm_core.specs.Assembling.{said_by, told, unread_told, line_faults, without_area, reading_faults, says_area, source_faults, FlatsMake}
use Rattle.armasm_core.specs.Standing.{ObjectsOfFlatsStand, ObjectsOfFlatsAreValid}

-- ---- without faults

told_none : (t : Option (Statement × LineKind)) → told t ≡ None → t ≡ None
told_none None e = refl
told_none (Some t) e = absurd (cc)

neither : (a b : Option Refusal) → or_else a b ≡ None → (a ≡ None) × (b ≡ None)
neither None b e = (refl, e)
neither (Some r) b e = absurd (cc)

lines_none : (ss : List Statement) (before : ℕ) (u : Option Unread) → line_faults ss before u ≡ None → layout_faults ss ≡ None
lines_none ss before None e = told_none (layout_faults ss) e
lines_none ss before (Some u) e =
    let bad : Some (unread_told u) ≡ None = (neither (told (front_laid ss before)) (Some (unread_told u)) e).1 in absurd (cc)

reading_none : (name : List ℕ) (flats : List Flat) (r : Reading) → reading_faults name flats r ≡ None → layout_faults (said_by r) ≡ None
reading_none name flats r e = by_area (list_any says_area flats) e
  where
    by_area : (b : Bool)
        → cond b (line_faults (said_by r) r.before r.unread) (Some (without_area name (line_faults (said_by r) r.before r.unread))) ≡ None
        → layout_faults (said_by r) ≡ None
    by_area true k = lines_none (said_by r) r.before r.unread k
    by_area false k = absurd (cc)

pub source_none : (name : List ℕ) (flats : List Flat) (r : Reading) → source_faults name flats r ≡ None
    → (layout_faults (said_by r) ≡ None) × (value_faults (said_by r) ≡ None)
source_none name flats r e =
    let both = neither (reading_faults name flats r) (told (value_faults (said_by r))) e in
    (reading_none name flats r both.0, told_none (value_faults (said_by r)) both.1)

-- ---- how many areas

few_areas : (name : List ℕ) (flats : List Flat) (o : Object) → FlatsMake name flats (Ok o) → length flats ≤ visit_limit → length o.areas < 2 ^ 24
few_areas name flats o h short =
    let read = h.reading in
    let few : length read.statements.items ≤ length flats = few_read flats read h.says in
    let long : length (said_by read) ≡ length read.statements.items + 0 = reversed_long read.statements.items [] in
    areas_few (said_by read) o (omega (arith, few, long, short)) h.makes.1

-- ---- laws

pub objects_of_flats_stand : OneReading → ReadingsAreFit → ObjectsStand → ObjectsOfFlatsStand
objects_of_flats_stand one fits stand name flats o h short few own values area_at view region veneers placed shown r says =
    let fit : AreFit (said_by h.reading) = fits flats h.reading h.says in
    let none = source_none name flats h.reading h.makes.0 in
    let faultless : IsFaultless (said_by h.reading) = record {
      said = fit.said;
      named = fit.named;
      laid_out = none.0;
      valued = none.1;
    } in
    subst (λ (items : List Statement). AllStand (source_of (reversed items [])) values view region) (one flats h.reading r h.says says).0
    (stand (said_by h.reading) o faultless h.makes.1 (few_areas name flats o h short) few own values area_at view region veneers placed shown)

pub objects_of_flats_are_valid : ReadingsAreFit → SourcesKeepStates → ObjectsAreValid → ObjectsOfFlatsAreValid
objects_of_flats_are_valid fits keep valid name flats o h short few =
    let fit : AreFit (said_by h.reading) = fits flats h.reading h.says in
    let none = source_none name flats h.reading h.makes.0 in
    valid (said_by h.reading) o fit.said fit.texts fit.fit none.0 none.1 (keep (said_by h.reading) fit.states) (few_areas name flats o h short) few h.makes.1
