-- Where the lines of a source stand.
use Rattle.std.proofs.Common.{◌≡◌, ℕ, ◌+◌, ◌≤◌, List, [], ◌∷◌, ◌++◌, refl, sym, ◌∙◌, ap, subst, arith, Some, None}
use Rattle.std.specs.Prelude.{Result, Ok, Err}
use Rattle.sdt_fault.specs.declared.kinds.LineKind.{LineKind}
use Rattle.sdt_fault.specs.declared.kinds.LineKind.TheVariants.{TooMany}
use Rattle.asm_model.specs.declared.statements.Statement.{Statement}
use Rattle.asm_model.specs.Kinds.{told_kind, kind_if}
use Rattle.asm_model.specs.Extents.{Extent}
use Rattle.asm_model.specs.Laid.{LaidLine, statements_of, taken, pieces_of, laid_behind, laid_of, laid, area_bytes}
use Rattle.asm_model.specs.Labels.{defined_by, declared_names}
use Rattle.asm_model.specs.LayoutKinds.{fault_kinds, map_kinds, no_area_kinds, contents_kinds, contents_behind, area_kinds, name_kinds, settled_kinds, first_equal, state_kinds, equals_in, settled, layout_kinds, told_at, first_fault}
use Rattle.asm_model.specs.Offsets.{Piece, lacking, waiting, alignment_of, end_behind, start_in, size_of, offset_of, size_behind, end_from, area_size}
use Rattle.asm_model.specs.OwnKinds.{own_kinds}
use Rattle.asm_model.proofs.LaidLemmas.{lines_stand_at_offsets}
use Rattle.asm_model.proofs.OffsetLemmas.{more, through, end_here, end_rises, all_rise, up_to_size}
use Rattle.asm_model.specs.Sound.{IsSound}
use Rattle.layout_laws.proofs.SoundLemmas.{or_none, told_none}
use Rattle.std.specs.Prelude.{nat_lt}
use Rattle.asm_model.specs.Extents.{Pool}
use Rattle.source_laws.proofs.ListLemmas.{same_first, same_rest}
use Rattle.asm_model.specs.declared.names.LaidName.{LaidName}

-- ---- lines

pub is_laid : (d : List LaidName) (ss : List Statement) (after before : List LaidLine) (l : LaidLine) → laid_of d ss ≡ after ++ l ∷ before
    → (s : Statement) × (l ≡ laid_behind d s before)
is_laid d [] [] before l e = absurd (cc)
is_laid d [] (x ∷ after) before l e = absurd (cc)
is_laid d (s ∷ ss) [] before l e = (
  s,
  sym (same_first (laid_behind d s (laid_of d ss)) l (laid_of d ss) before e)
      ∙ ap (laid_behind d s) (same_rest (laid_behind d s (laid_of d ss)) l (laid_of d ss) before e),
)
is_laid d (s ∷ ss) (x ∷ after) before l e = is_laid d ss after before l (same_rest (laid_behind d s (laid_of d ss)) x (laid_of d ss) (after ++ l ∷ before) e)

pub line_fine : (S : List (List ℕ)) (all : List Statement) (after before : List LaidLine) (l : LaidLine) → first_fault S all (after ++ l ∷ before) ≡ None
    → layout_kinds S all l before ≡ []
line_fine S all [] before l h =
    told_none l.statement (layout_kinds S all l before) (or_none (first_fault S all before) (told_at l.statement (told_kind (layout_kinds S all l before))) h).1
line_fine S all (x ∷ after) before l h =
    line_fine S all after before l
    (or_none (first_fault S all (after ++ l ∷ before)) (told_at x.statement (told_kind (layout_kinds S all x (after ++ l ∷ before)))) h).0

pub extent_known : (r : Result Extent LineKind) (b c d e f g h i j : List LineKind) → fault_kinds r ++ b ++ c ++ d ++ e ++ f ++ g ++ h ++ i ++ j ≡ []
    → (x : Extent) × (r ≡ Ok x)
extent_known (Ok x) b c d e f g h i j k = (x, refl)
extent_known (Err x) b c d e f g h i j k = absurd (cc)

pub line_known : (S : List (List ℕ)) (all : List Statement) (l : LaidLine) (before : List LaidLine) → layout_kinds S all l before ≡ [] → (x : Extent)
    × (l.extent ≡ Ok x)
line_known S all l before h =
    extent_known l.extent (map_kinds l.seen l.statement.what) (no_area_kinds l.area (defined_by l.statement) l.statement.what)
    (contents_kinds (contents_behind (l.statement ∷ statements_of before)) l.thumb l.statement.what)
    (area_kinds l.seen l.statement.what before) (name_kinds l.statement (statements_of before))
    (settled_kinds S (first_equal (defined_by l.statement) (statements_of before))) (state_kinds l.area l.thumb l.statement.what all)
    (kind_if (nat_lt area_bytes (l.offset + l.size)) TooMany)
    (own_kinds l.statement) h

pub stands_there : (d : List LaidName) (ss : List Statement) (after before : List LaidLine) (l : LaidLine) (x : Extent) → laid_of d ss ≡ after ++ l ∷ before
    → l.extent ≡ Ok x
    → (l.offset ≡ offset_of l.area (pieces_of before) x) × (l.size ≡ size_behind l.area (pieces_of before) x)
stands_there d ss after before l x e k =
    let p = is_laid d ss after before l e in
    subst (λ (z : LaidLine). z.extent ≡ Ok x → (z.offset ≡ offset_of z.area (pieces_of before) x) × (z.size ≡ size_behind z.area (pieces_of before) x))
    (sym p.1)
    (lines_stand_at_offsets d p.0 before x) k

-- ---- pieces

abbrev pub piece_of : LaidLine → Piece
piece_of l = record { area = l.area; extent = taken l.extent }

pub pieces_joined : (xs ys : List LaidLine) → pieces_of (xs ++ ys) ≡ pieces_of xs ++ pieces_of ys
pieces_joined [] ys = refl
pieces_joined (x ∷ xs) ys = ap (λ z. piece_of x ∷ z) (pieces_joined xs ys)

-- a line of an area stands where what it takes up starts behind the lines before
pub stands_in : (ss : List Statement) → IsSound ss → (area : ℕ) (after before : List LaidLine) (l : LaidLine) → laid ss ≡ after ++ l ∷ before
    → l.area ≡ Some area
    → (l.offset ≡ start_in area (pieces_of before) (taken l.extent))
    × (l.size ≡ size_of (waiting area (pieces_of before)) (start_in area (pieces_of before) (taken l.extent)) (taken l.extent))
stands_in ss sound area after before l e here =
    let S = settled (equals_in ss) in
    let x = line_known S ss l before (line_fine S ss after before l (subst (λ z. first_fault S ss z ≡ None) e sound)) in
    let p = stands_there (declared_names ss) ss after before l x.0 e x.1 in
    let t : taken l.extent ≡ x.0 = ap taken x.1 in (
      p.0 ∙ ap (λ a. offset_of a (pieces_of before) x.0) here ∙ ap (start_in area (pieces_of before)) (sym t),
      p.1 ∙ ap (λ a. size_behind a (pieces_of before) x.0) here ∙ ap (size_behind (Some area) (pieces_of before)) (sym t),
    )

pub both_sum : (a b x y : ℕ) → a ≡ x → b ≡ y → a + b ≡ x + y
both_sum a b x y h k = omega arith

-- its end is the end of its area behind it
pub line_ends : (ss : List Statement) → IsSound ss → (area : ℕ) (after before : List LaidLine) (l : LaidLine) → laid ss ≡ after ++ l ∷ before
    → l.area ≡ Some area
    → l.offset + l.size ≡ end_behind area (pieces_of (l ∷ before))
line_ends ss sound area after before l e here =
    let p = stands_in ss sound area after before l e here in
    both_sum l.offset l.size (start_in area (pieces_of before) (taken l.extent))
    (size_of (waiting area (pieces_of before)) (start_in area (pieces_of before) (taken l.extent)) (taken l.extent)) p.0 p.1
    ∙ end_here area (pieces_of before) (piece_of l) here

-- and it starts at the end of its area before it or behind it
pub line_starts : (ss : List Statement) → IsSound ss → (area : ℕ) (after before : List LaidLine) (l : LaidLine) → laid ss ≡ after ++ l ∷ before
    → l.area ≡ Some area
    → end_behind area (pieces_of before) ≤ l.offset
line_starts ss sound area after before l e here =
    subst (λ z. end_behind area (pieces_of before) ≤ z) (sym (stands_in ss sound area after before l e here).0)
    (more (end_behind area (pieces_of before)) (lacking (end_behind area (pieces_of before)) (alignment_of (waiting area (pieces_of before)) (taken l.extent))
    0))

pub pieces_rise : (area : ℕ) (later before : List LaidLine) → end_behind area (pieces_of before) ≤ end_behind area (pieces_of (later ++ before))
pieces_rise area later before =
    subst (λ z. end_behind area (pieces_of before) ≤ end_behind area z) (sym (pieces_joined later before)) (all_rise area (pieces_of later) (pieces_of before))

pub statements_lie_in_areas : (ss : List Statement) → IsSound ss
    → (area : ℕ) (after before : List LaidLine) (l : LaidLine) → laid ss ≡ after ++ l ∷ before
    → l.area ≡ Some area → l.offset + l.size ≤ area_size area (pieces_of (laid ss))
statements_lie_in_areas ss sound area after before l e here =
    let all = pieces_of (laid ss) in
    subst (λ z. z ≤ area_size area all) (sym (line_ends ss sound area after before l e here))
    (through (end_behind area (pieces_of (l ∷ before))) (end_behind area all) (area_size area all)
    (subst (λ z. end_behind area (pieces_of (l ∷ before)) ≤ end_behind area (pieces_of z)) (sym e) (pieces_rise area after (l ∷ before)))
    (through (end_behind area all) (end_from (end_behind area all) (waiting area all) Pool) (area_size area all)
    (end_rises (end_behind area all) (waiting area all) Pool) (up_to_size area all)))
