-- The areas of an object: each that a thing stands in is there, one that is not there has no size, and attributes tell
-- which are zero-initialised.
use Rattle.std.proofs.Common.{◌≡◌, ℕ, zero, suc, ◌+◌, ◌*◌, ◌/◌, ◌%◌, ◌^◌, ◌<◌, ◌≤◌, List, [], ◌∷◌, ◌++◌, length, Bool, true, false, cond, refl, sym, ◌∙◌, ap, subst, arith, Option, Some, None, ◌⊎◌, inl, inr, nat_lt}
use Rattle.std.specs.Prelude.{slice_get, Result, Ok, Err, ◌==◌, ◌||◌}
use Rattle.std.proofs.lemmas.Bool.{ltb-false, or_parts}
use Rattle.sdt_word.specs.Numbers.{bit, flag}
use Rattle.sdt_fault.specs.declared.kinds.LineKind.{LineKind}
use Rattle.sdt_fault.specs.declared.kinds.LineKind.TheVariants.{BadOperand}
use Rattle.asm_model.specs.declared.directives.AreaAttributes.{AreaAttributes}
use Rattle.asm_model.specs.declared.directives.Contents.{Contents}
use Rattle.asm_model.specs.declared.directives.Contents.TheVariants as contents
use Rattle.asm_model.specs.declared.directives.DirectiveLine.TheVariants as line
use Rattle.asm_model.specs.declared.statements.Statement.{Statement}
use Rattle.asm_model.specs.declared.statements.What.{What}
use Rattle.asm_model.specs.declared.statements.What.TheVariants as what
use Rattle.asm_model.specs.Directives.{or_else}
use Rattle.asm_model.specs.Kinds.{told_kind, kind_if}
use Rattle.asm_model.specs.Before.{area_named, areas_behind}
use Rattle.asm_model.specs.Laid.{LaidLine, statements_of, taken, pieces_of, laid}
use Rattle.asm_model.specs.LayoutKinds.{exponent, exponent_kinds, is_named_otherwise, area_kinds, layout_kinds, told_at, first_fault}
use Rattle.asm_model.specs.Offsets.{is_of, waiting, waiting_behind, end_from, end_behind, area_size}
use Rattle.layout_laws.proofs.SoundLemmas.{both_empty, or_none, told_none, kind_none}
use Rattle.source_model.specs.Objects.{or_two, attributes_word, says_area, attributes_of, contents_in, contents_of, is_kept}
use Rattle.source_laws.proofs.ListedLemmas.{owned}
use Rattle.source_laws.proofs.WithinLemmas.{IsWithin, area_within, fewer, line_within}
use Rattle.source_laws.proofs.ZeroLemmas.{AreNumbered, laid_numbered, line_kinds}
use Rattle.asm_model.specs.Labels.{declared_names}

-- ---- areas that are there

pub found_at : {A : Type 0} → (xs : List A) (i : ℕ) → i < length xs → (x : A) × (slice_get xs i ≡ Some x)
found_at [] i h = absurd (omega arith)
found_at (x ∷ xs) zero h = (x, refl)
found_at (x ∷ xs) (suc i) h = found_at xs i (omega arith)

-- a line's area is one of the source
pub area_there : (ss : List Statement) (n area : ℕ) (after before : List LaidLine) (l : LaidLine) → length (areas_behind (statements_of (laid ss))) ≤ n
    → laid ss ≡ after ++ l ∷ before → l.area ≡ Some area → area < n
area_there ss n area after before l few e own = subst (IsWithin n) own (line_within ss n after before l few e)

beyond_line : (area n : ℕ) (o : Option ℕ) → IsWithin n o → n ≤ area → is_of area o ≡ false
beyond_line area n o h k = by_test (is_of area o) refl
  where
    by_test : (b : Bool) → is_of area o ≡ b → is_of area o ≡ false
    by_test false e = e
    by_test true e = let less : area < n = subst (IsWithin n) (owned area o e) h in absurd (omega arith)

abbrev pub IsEmpty : ℕ → List LaidLine → Type 0
IsEmpty area lines = (end_behind area (pieces_of lines) ≡ 0) × (waiting area (pieces_of lines) ≡ [])

beyond : (lines : List LaidLine) → AreNumbered lines → (area : ℕ) → length (areas_behind (statements_of lines)) ≤ area → IsEmpty area lines
beyond [] h area k = (refl, refl)
beyond (l ∷ before) h area k =
    let n = length (areas_behind (statements_of (l ∷ before))) in
    let own : IsWithin n l.area = subst (IsWithin n) (sym h.0) (area_within n (statements_of (l ∷ before)) (omega arith)) in
    let less = fewer (area_named l.statement.what) (areas_behind (statements_of before)) in
    let few : length (areas_behind (statements_of before)) ≤ area = omega arith in
    by_test (is_of area l.area) (beyond_line area n l.area own k) (beyond before h.1 area few)
  where
    by_test : (b : Bool) → b ≡ false → IsEmpty area before
        → (cond b (end_from (end_behind area (pieces_of before)) (waiting area (pieces_of before)) (taken l.extent)) (end_behind area (pieces_of before)) ≡ 0)
        × (cond b (waiting_behind (taken l.extent) (waiting area (pieces_of before))) (waiting area (pieces_of before)) ≡ [])
    by_test false e r = r
    by_test true e r = absurd (cc)

-- an area that isn't there has no places
pub no_size : (ss : List Statement) (area : ℕ) → length (areas_behind (statements_of (laid ss))) ≤ area → area_size area (pieces_of (laid ss)) ≡ 0
no_size ss area h =
    let p = beyond (laid ss) (laid_numbered (declared_names ss) ss) area h in
    rw (p.0, p.1) refl

-- ---- attributes

abbrev pub is_zero : Contents → Bool
is_zero contents.Zeroes = true
is_zero _ = false

abbrev pub Agree : Option ℕ → Option Contents → Type 0
Agree None None = Unit {0}
Agree None (Some c) = ⊥
Agree (Some w) None = ⊥
Agree (Some w) (Some c) = (bit w 12 == 1) ≡ is_zero c

either_agrees : (a b : Option ℕ) (c d : Option Contents) → Agree a c → Agree b d → Agree (or_else a b) (or_else c d)
either_agrees None b None d h k = k
either_agrees None b (Some c) d h k = absurd h
either_agrees (Some w) b None d h k = absurd h
either_agrees (Some w) b (Some c) d h k = h

low_part : (e k r p q t h i : ℕ) → e + k < 2 ^ 13
    → bit (e + k + r * 2 ^ 13 + p * 2 ^ 14 + q * 2 ^ 17 + t * 2 ^ 20 + h * 2 ^ 21 + i * 2 ^ 22) 12 ≡ (e + k) / 2 ^ 12
low_part e k r p q t h i small =
    let m = r + p * 2 + q * 16 + t * 128 + h * 256 + i * 512 in
    let split : e + k + r * 2 ^ 13 + p * 2 ^ 14 + q * 2 ^ 17 + t * 2 ^ 20 + h * 2 ^ 21 + i * 2 ^ 22 ≡ (e + k) + 2 ^ 13 * m = omega arith in
    ap (λ w. bit w 12) split ∙ by_parts (e + k) m small
  where
    by_parts : (x m : ℕ) → x < 2 ^ 13 → (x + 2 ^ 13 * m) / 2 ^ 12 % 2 ≡ x / 2 ^ 12
    by_parts x m h = omega arith

marked : (e k r p q t h i m : ℕ) → e + k < 2 ^ 13 → (e + k) / 2 ^ 12 ≡ m
    → bit (e + k + r * 2 ^ 13 + p * 2 ^ 14 + q * 2 ^ 17 + t * 2 ^ 20 + h * 2 ^ 21 + i * 2 ^ 22) 12 ≡ m
marked e k r p q t h i m small is = low_part e k r p q t h i small ∙ is

attributes_agree : (a : AreaAttributes) (c : Contents) (e : ℕ) (thumb : Bool) → a.contents ≡ c → e ≤ 16 → (bit (attributes_word a e thumb) 12 == 1) ≡ is_zero c
attributes_agree a contents.Code e thumb is small =
    rw is
    (ap (λ m. m == 1)
    (marked e (2 ^ 9) (flag a.read_only) (flag a.pic) (flag a.reentrant) (flag thumb) (flag a.halfword) (flag a.interwork) 0 (omega arith) (omega arith)))
attributes_agree a contents.Data e thumb is small =
    rw is
    (ap (λ m. m == 1)
    (marked e 0 (flag a.read_only) (flag a.pic) (flag a.reentrant) (flag thumb) (flag a.halfword) (flag a.interwork) 0 (omega arith) (omega arith)))
attributes_agree a contents.Zeroes e thumb is small =
    rw is
    (ap (λ m. m == 1)
    (marked e (2 ^ 12) (flag a.read_only) (flag a.pic) (flag a.reentrant) (flag thumb) (flag a.halfword) (flag a.interwork) 1 (omega arith) (omega arith)))

pub exponent_small : (r : Result ℕ LineKind) → exponent_kinds r ≡ [] → or_two r ≤ 16
exponent_small (Ok n) h = ltb-false 16 n (or_parts (nat_lt n 2) (nat_lt 16 n) (kind_none (nat_lt n 2 || nat_lt 16 n) BadOperand h)).1
exponent_small (Err k) h = absurd (cc)

line_agrees : (area : ℕ) (thumb : Bool) (l : LaidLine) (before : List LaidLine) (w : What) → area_kinds l.seen w before ≡ []
    → Agree (says_area area l w thumb) (contents_in area l w)
line_agrees area thumb l before (what.Directive (line.Area name a)) fine = by_test (is_of area l.area)
  where
    by_test : (b : Bool) → Agree (cond b (Some (attributes_word a (or_two (exponent l.seen a.alignments)) thumb)) None) (cond b (Some a.contents) None)
    by_test false = tt
    by_test true =
        attributes_agree a a.contents (or_two (exponent l.seen a.alignments)) thumb refl
        (exponent_small (exponent l.seen a.alignments)
        (both_empty (exponent_kinds (exponent l.seen a.alignments)) (kind_if (is_named_otherwise name l.seen a before) BadOperand) fine).0)
line_agrees area thumb l before w fine = tt

pub lines_agree : (S : List (List ℕ)) (all : List Statement) (area : ℕ) (thumb : Bool) (lines : List LaidLine) → first_fault S all lines ≡ None
    → Agree (attributes_of area thumb lines) (contents_of area lines)
lines_agree S all area thumb [] fine = tt
lines_agree S all area thumb (l ∷ before) fine =
    let p = or_none (first_fault S all before) (told_at l.statement (told_kind (layout_kinds S all l before))) fine in
    either_agrees (attributes_of area thumb before) (says_area area l l.statement.what thumb) (contents_of area before) (contents_in area l l.statement.what)
    (lines_agree S all area thumb before p.0)
    (line_agrees area thumb l before l.statement.what (line_kinds S all l before (told_none l.statement (layout_kinds S all l before) p.1)).1)

-- an area of zeros is marked as one, and any other keeps its bytes
abbrev pub AreaKind : Option Contents → Bool → Type 0
AreaKind o marked = ((o ≡ Some contents.Zeroes) × (marked ≡ true)) ⊎ ((is_kept o ≡ true) × (marked ≡ false))

pub area_kind : (w : ℕ) (o : Option Contents) → Agree (Some w) o → AreaKind o (bit w 12 == 1)
area_kind w None h = absurd h
area_kind w (Some contents.Code) h = inr (refl, h)
area_kind w (Some contents.Data) h = inr (refl, h)
area_kind w (Some contents.Zeroes) h = inl (refl, h)
