-- Sources without faults meet what the laws ask.
use Rattle.std.proofs.Common.{◌≡◌, ℕ, ◌+◌, ◌≤◌, List, [], ◌∷◌, ◌++◌, length, refl, sym, subst, None, ◌⊎◌}
use Rattle.asm_model.specs.declared.statements.Statement.{Statement}
use Rattle.asm_model.specs.Kinds.{told_kind}
use Rattle.asm_model.specs.Before.{thumb_behind}
use Rattle.asm_model.specs.Laid.{LaidLine, pieces_of, reversed, laid_behind, laid_of, laid}
use Rattle.asm_model.specs.LayoutKinds.{equals_in, settled, layout_kinds, told_at, first_fault, first_late}
use Rattle.asm_model.specs.Offsets.{area_size}
use Rattle.asm_model.specs.Sound.{IsSound}
use Rattle.layout_laws.proofs.SoundLemmas.{both_empty, or_none, told_none, statements_kept}
use Rattle.source_model.specs.Objects.{Piece, unit_bytes, source_of, StandsIn}
use Rattle.source_model.specs.Registers.{register_names, register_kinds}
use Rattle.source_model.specs.SourceFaults.{first_laid, layout_faults}
use Rattle.source_laws.specs.Laws.{IsOfState, AreOfState, KeepStates, StandApart}
use Rattle.source_laws.proofs.ListLemmas.{same_first, same_rest}
use Rattle.source_laws.proofs.ApartLemmas.{things_stand_apart, things_lie_in_areas}
use Rattle.asm_model.specs.Labels.{declared_names}
use Rattle.asm_model.specs.declared.names.LaidName.{LaidName}

-- ---- layouts without faults

pub sound_lines : (names fixed : List (List ℕ)) (all : List Statement) (ls : List LaidLine) → first_laid names fixed all ls ≡ None
    → first_fault fixed all ls ≡ None
sound_lines names fixed all [] e = refl
sound_lines names fixed all (l ∷ before) e =
    let kinds = layout_kinds fixed all l before ++ register_kinds names l before in
    let p = or_none (first_laid names fixed all before) (told_at l.statement (told_kind kinds)) e in
    let q = both_empty (layout_kinds fixed all l before) (register_kinds names l before) (told_none l.statement kinds p.1) in
    rw (sound_lines names fixed all before p.0, q.0) refl

pub layout_sound : (ss : List Statement) → layout_faults ss ≡ None → IsSound ss
layout_sound ss h =
    let fixed = settled (equals_in ss) in
    sound_lines (register_names ss) fixed ss (laid ss)
    (or_none (first_laid (register_names ss) fixed ss (laid ss)) (first_late (laid ss) [] (reversed (laid ss) [])) h).0

-- ---- states

pub states_kept : (d : List LaidName) (ss : List Statement) → KeepStates ss
    → (after before : List LaidLine) (l : LaidLine) → laid_of d ss ≡ after ++ l ∷ before
    → IsOfState l.thumb l.statement.what
states_kept d [] h [] before l e = absurd (cc)
states_kept d [] h (x ∷ after) before l e = absurd (cc)
states_kept d (s ∷ ss) h [] before l e =
    subst (λ (z : LaidLine). IsOfState z.thumb z.statement.what) (same_first (laid_behind d s (laid_of d ss)) l (laid_of d ss) before e)
    (subst (λ z. IsOfState (thumb_behind z) s.what) (sym (statements_kept d ss)) h.0)
states_kept d (s ∷ ss) h (x ∷ after) before l e =
    states_kept d ss h.1 after before l (same_rest (laid_behind d s (laid_of d ss)) x (laid_of d ss) (after ++ l ∷ before) e)

pub sources_keep_states : (ss : List Statement) → KeepStates ss → AreOfState ss
sources_keep_states ss h = states_kept (declared_names ss) ss h

-- ---- what stands in areas

pub sources_stand_apart : (ss : List Statement) → layout_faults ss ≡ None → AreOfState ss
    → (area : ℕ) (p q : Piece) → StandsIn (source_of ss) area p → StandsIn (source_of ss) area q → (p ≡ q) ⊎ StandApart p q
sources_stand_apart ss none states = things_stand_apart ss (layout_sound ss none)

pub sources_lie_in_areas : (ss : List Statement) → layout_faults ss ≡ None → AreOfState ss
    → (area : ℕ) (p : Piece) → StandsIn (source_of ss) area p → p.0 + length (unit_bytes p.1) ≤ area_size area (pieces_of (laid ss))
sources_lie_in_areas ss none states = things_lie_in_areas ss (layout_sound ss none)
