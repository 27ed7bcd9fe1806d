-- A source whose lines have no fault of their own.
use Rattle.std.proofs.Common.{◌≡◌, ℕ, List, [], ◌∷◌, ◌++◌, Option, Some, None, Result, Ok, Err, refl, sym, ap, ◌∙◌, subst, arith}
use Rattle.sdt_fault.specs.declared.kinds.LineKind.{LineKind}
use Rattle.asm_checks.specs.Late.{AreWhole}
use Rattle.asm_checks.specs.Starts.{AreStarts}
use Rattle.asm_model.specs.declared.statements.Statement.{Statement}
use Rattle.asm_model.specs.Directives.{or_else}
use Rattle.asm_model.specs.Kinds.{told_kind}
use Rattle.asm_model.specs.Meaning.{named_in}
use Rattle.asm_offsets.specs.declared.extents.LaidPools.{LaidPools}
use Rattle.asm_offsets.specs.Coded.{IsExtent}
use Rattle.asm_offsets.specs.Finished.{AreLaid}
use Rattle.asm_offsets.specs.Laws.{AllExtents, ExtentsArePlaceable}
use Rattle.asm_model.specs.Extents.{Extent, extent_of}
use Rattle.asm_model.specs.declared.names.LaidName.{LaidName}
use Rattle.asm_model.specs.Labels.{declared_names}
use Rattle.asm_model.specs.Laid.{LaidLine, statements_of, laid, laid_of, names_behind, taken, pieces_of, reversed, final_names}
use Rattle.asm_model.specs.LayoutKinds.{layout_kinds, equals_in, settled, told_at, first_fault, first_late}
use Rattle.layout_laws.specs.Final.{KnownNamesAreFinal}
use Rattle.layout_laws.proofs.SoundLemmas.{statements_kept}
use Rattle.source_model.specs.Registers.{register_names, register_kinds}
use Rattle.source_model.specs.SourceFaults.{first_laid, layout_faults}
use Rattle.asm_laying.specs.Laying.{AreKnownNames}
use Rattle.asm_laying.specs.declared.laying.LaidStatement.{LaidStatement}
use Rattle.asm_layout.specs.declared.outline.Outline.{Outline}
use Rattle.asm_layout.specs.declared.walking.Walk.{Walk}
use Rattle.asm_layout.specs.Finishing.{IsNamed, IsWhole, AreAllNames}
use Rattle.asm_layout.proofs.SeenLemmas.{names_kept}
use Rattle.asm_layout.proofs.WalkLemmas.{all_read}
use Rattle.asm_expr.specs.Places.{names_of}
use Rattle.std.specs.Global.{Vec}
use Rattle.asm_layout.proofs.ToldLemmas.{none_parts}
use Rattle.asm_model.proofs.SaidLemmas.{are_plain as all_plain}

-- ---- a source without faults at its lines

none_left : {A : Type 0} (o p : Option A) → or_else o p ≡ None → o ≡ None
none_left None p e = refl
none_left (Some a) p e = absurd (cc)

none_right : {A : Type 0} (o p : Option A) → or_else o p ≡ None → p ≡ None
none_right None p e = e
none_right (Some a) p e = absurd (cc)

untold : (s : Statement) (o : Option LineKind) → told_at s o ≡ None → o ≡ None
untold s None e = refl
untold s (Some k) e = absurd (cc)

sound_lines : (names fixed : List (List ℕ)) (all : List Statement) (ls : List LaidLine) → first_laid names fixed all ls ≡ None → first_fault fixed all ls ≡ None
sound_lines names fixed all [] e = refl
sound_lines names fixed all (l ∷ before) e =
    let layout = layout_kinds fixed all l before in
    let registers = register_kinds names l before in
    let told = told_at l.statement (told_kind (layout ++ registers)) in
    let whole = untold l.statement (told_kind (layout ++ registers)) (none_right (first_laid names fixed all before) told e) in
    rw (sound_lines names fixed all before (none_left (first_laid names fixed all before) told e), (none_parts layout registers whole).0) refl

-- what laid lines take up can be placed
pub extent_fits : ExtentsArePlaceable → (d : List LaidName) (s : Statement) (before : List LaidLine) (r : Result Extent LineKind)
    → extent_of (names_behind d s before) s.what ≡ r → IsExtent (taken r)
extent_fits law d s before (Ok e) h = law (names_behind d s before) s.what e h
extent_fits law d s before (Err k) h = record { some = omega arith; small = omega arith }

pub all_extents : ExtentsArePlaceable → (d : List LaidName) (ss : List Statement) → AllExtents (pieces_of (laid_of d ss))
all_extents law d [] = tt
all_extents law d (s ∷ ss) = (extent_fits law d s (laid_of d ss) (extent_of (names_behind d s (laid_of d ss)) s.what) refl, all_extents law d ss)

-- ---- the whole source

pub whole_is : ExtentsArePlaceable → (statements : List Statement) (o : Outline) (w : Walk) (pools : List LaidPools) → IsWhole statements o w
    → AreLaid (pieces_of (laid statements)) pools
    → AreWhole (laid statements) pools
whole_is law statements o w pools h l = record { laid = l; extents = all_extents law (declared_names statements) statements }

pub begun_is : (statements : List Statement) (o : Outline) (w : Walk) → IsWhole statements o w
    → AreStarts (statements_of (laid statements)) (laid statements) w.starts
begun_is statements o w h =
    subst (λ (all : List Statement). AreStarts all (laid statements) w.starts) (sym (statements_kept (declared_names statements) statements)) h.walked.begun

pub named_is : (statements : List Statement) (o : Outline) (w : Walk) → IsWhole statements o w → IsNamed statements w.lines.items o.names
named_is statements o w h = record {
  sound = sound_lines (register_names statements) (settled (equals_in statements)) statements (laid statements) h.walked.none;
  plain = all_plain statements h.said;
  read = all_read statements h.said;
  lines = h.walked.kept;
  found = λ q. ap (named_in q) h.outlined.names;
}

pub names_are : KnownNamesAreFinal → (statements : List Statement) (xs : List LaidStatement) (declared : List LaidName) (names : Vec LaidName)
    → IsNamed statements xs declared
    → AreKnownNames (declared_names statements) (laid statements) (Some names) → names.items ≡ final_names (laid statements)
names_are law statements xs declared names h k = k.1 ∙ law statements h.sound h.plain k.0

-- names that its lines know
pub all_named : (statements : List Statement) (o : Outline) (w : Walk) (known : Option (Vec LaidName)) → IsWhole statements o w
    → AreKnownNames (declared_names statements) (laid statements) known → AreAllNames known o.names
all_named statements o w None h k = tt
all_named statements o w (Some names) h k =
    ap names_of k.1 ∙ names_kept (declared_names statements) statements (all_read statements h.said) ∙ ap names_of (sym h.outlined.names)

pub faults_are : (statements : List Statement) (o : Outline) (w : Walk) → IsWhole statements o w
    → layout_faults statements ≡ first_late (laid statements) [] (reversed (laid statements) [])
faults_are statements o w h = rw h.walked.none refl
