-- Statements that have no fault of values, and load nothing.
use Rattle.std.proofs.Common.{◌≡◌, ℕ, List, [], ◌∷◌, ◌++◌, Bool, true, false, cond, refl, ◌∙◌, Option, Some, None}
use Rattle.std.specs.Prelude.{Result, Ok}
use Rattle.sdt_fault.specs.declared.kinds.LineKind.{LineKind}
use Rattle.asm_model.specs.declared.names.LaidName.{LaidName}
use Rattle.asm_model.specs.declared.names.Names.{Names}
use Rattle.asm_model.specs.declared.statements.Statement.{Statement}
use Rattle.asm_model.specs.declared.statements.What.{What}
use Rattle.asm_model.specs.Before.{thumb_behind}
use Rattle.asm_model.specs.Directives.{or_else}
use Rattle.asm_model.specs.Extents.{Extent, Block}
use Rattle.asm_model.specs.Kinds.{told_kind}
use Rattle.source_model.specs.Contexts.{Context}
use Rattle.source_model.specs.ValueKinds.{value_kinds}
use Rattle.asm_model.specs.Laid.{LaidLine, laid, laid_of, reversed, taken, names_behind}
use Rattle.asm_model.specs.LayoutKinds.{entry_kinds, literal_kinds, first_late, told_at, first_state, state_at, is_true, is_thumb_area, is_entry}
use Rattle.asm_model.specs.Offsets.{Piece}
use Rattle.source_model.specs.SourceFaults.{first_valued}
use Rattle.word_source.specs.Words.{IsCalm, AllCalm, CalmHaveNoFault}

-- ---- lines

pub calm_arm : (ss : List Statement) → AllCalm ss → thumb_behind ss ≡ false
calm_arm [] h = refl
calm_arm (s ∷ ss) h = h.0.state (thumb_behind ss) ∙ calm_arm ss h.1

arm_or : (a b : Option Bool) → is_true a ≡ false → is_true b ≡ false → is_true (or_else a b) ≡ false
arm_or None b h k = k
arm_or (Some x) b h k = h

arm_if : (t b : Bool) → b ≡ false → is_true (cond t (Some b) None) ≡ false
arm_if true b h = h
arm_if false b h = refl

pub calm_area : (area : ℕ) (ss : List Statement) → AllCalm ss → is_thumb_area area ss ≡ false
calm_area area [] h = refl
calm_area area (s ∷ ss) h = arm_or (first_state area ss) (state_at area s ss) (calm_area area ss h.1) (arm_if _ (thumb_behind ss) (calm_arm ss h.1))

record IsCalmLine (l : LaidLine) : Type 0 where
  calm : IsCalm l.statement.what
  block : (a : ℕ) × (n : ℕ) × (l.extent ≡ Ok (Block a n))

abbrev AreCalm : List LaidLine → Type 0
AreCalm [] = Unit {0}
AreCalm (l ∷ ls) = IsCalmLine l × AreCalm ls

calm_laid : (d : List LaidName) (ss : List Statement) → AllCalm ss → AreCalm (laid_of d ss)
calm_laid d [] h = tt
calm_laid d (s ∷ ss) h = (record { calm = h.0; block = h.0.block (names_behind d s (laid_of d ss)) }, calm_laid d ss h.1)

calm_reversed : (ls after : List LaidLine) → AreCalm ls → AreCalm after → AreCalm (reversed ls after)
calm_reversed [] after h k = k
calm_reversed (l ∷ ls) after h k = calm_reversed ls (l ∷ after) h.1 (h.0, k)

none_else : (s : Statement) (ks : List LineKind) (o : Option (Statement × LineKind)) → ks ≡ [] → o ≡ None → or_else (told_at s (told_kind ks)) o ≡ None
none_else s ks o h k = rw (h, k) refl

line_value : (w : What) (r : Result Extent LineKind) (a n : ℕ) (c : Context) (data_names : List (List ℕ)) (sizes : ℕ → ℕ) (s : Names) (word : Option ℕ)
    → r ≡ Ok (Block a n) → IsCalm w → value_kinds c data_names sizes s (taken r) word w ≡ []
line_value w r a n c data_names sizes s word e h = rw e (h.no_kinds c data_names sizes s a n word)

valued_none : (all : List LaidLine) (statements : List Statement) (before ls : List LaidLine) → AreCalm ls → first_valued all statements before ls ≡ None
valued_none all statements before [] h = refl
valued_none all statements before (l ∷ ls) h =
    none_else _ _ _ (line_value l.statement.what l.extent h.0.block.0 h.0.block.1 _ _ _ _ _ h.0.block.2 h.0.calm)
    (valued_none all statements (l ∷ before) ls h.1)

pub calm_have_no_fault : CalmHaveNoFault
calm_have_no_fault ss h = valued_none (laid ss) ss [] (reversed (laid ss) []) (calm_reversed (laid ss) [] (calm_laid _ ss h) tt)

-- ---- what needs the whole layout

no_loading : (area : Option ℕ) (a n : ℕ) (ps qs : List Piece) → literal_kinds area (Block a n) ps qs ≡ []
no_loading None a n ps qs = refl
no_loading (Some area) a n ps qs = refl

-- an ENTRY stands before the end of its area
abbrev pub Enters : List LaidLine → LaidLine → Type 0
Enters all l = entry_kinds l.area l all ≡ []

abbrev pub AllEnter : List LaidLine → List LaidLine → Type 0
AllEnter all [] = Unit {0}
AllEnter all (l ∷ ls) = Enters all l × AllEnter all ls

enter_reversed : (all ls after : List LaidLine) → AllEnter all ls → AllEnter all after → AllEnter all (reversed ls after)
enter_reversed all [] after h k = k
enter_reversed all (l ∷ ls) after h k = enter_reversed all ls (l ∷ after) h.1 (h.0, k)

pub no_entry : (all : List LaidLine) (area : Option ℕ) (l : LaidLine) → is_entry l.statement.what ≡ false → entry_kinds area l all ≡ []
no_entry all None l h = refl
no_entry all (Some area) l h = rw h refl

both_none : (ks js : List LineKind) → ks ≡ [] → js ≡ [] → ks ++ js ≡ []
both_none ks js h k = rw (h, k) refl

loading_none : (area : Option ℕ) (r : Result Extent LineKind) (a n : ℕ) (ps qs : List Piece) → r ≡ Ok (Block a n) → literal_kinds area (taken r) ps qs ≡ []
loading_none area r a n ps qs e = rw e (no_loading area a n ps qs)

late_none : (all before ls : List LaidLine) → AreCalm ls → AllEnter all ls → first_late all before ls ≡ None
late_none all before [] h k = refl
late_none all before (l ∷ ls) h k =
    none_else _ _ _ (both_none _ _ k.0 (loading_none l.area l.extent h.0.block.0 h.0.block.1 _ _ h.0.block.2)) (late_none all (l ∷ before) ls h.1 k.1)

pub calm_late : (ss : List Statement) → AllCalm ss → AllEnter (laid ss) (laid ss) → first_late (laid ss) [] (reversed (laid ss) []) ≡ None
calm_late ss h k =
    late_none (laid ss) [] (reversed (laid ss) []) (calm_reversed (laid ss) [] (calm_laid _ ss h) tt) (enter_reversed (laid ss) (laid ss) [] k tt)
