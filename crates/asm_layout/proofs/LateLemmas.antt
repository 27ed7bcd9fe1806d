-- Lines that are checked once more when the whole layout is known.
use Rattle.std.proofs.Common.{◌≡◌, List, [], ◌∷◌, ◌++◌, map, Option, Some, None, refl, sym, ap, ◌∙◌, subst}
use Rattle.std.proofs.lemmas.List.{map-append}
use Rattle.sdt_fault.specs.declared.answer.Fault.{Fault}
use Rattle.sdt_fault.specs.declared.kinds.LineKind.{LineKind}
use Rattle.asm_checks.specs.Late.{IsPosition}
use Rattle.asm_laying.specs.Laying.{IsStatement}
use Rattle.asm_names.specs.Source.{AreEach}
use Rattle.asm_model.specs.declared.statements.Statement.{Statement}
use Rattle.asm_model.specs.Directives.{or_else}
use Rattle.asm_model.specs.Kinds.{told_kind}
use Rattle.asm_laying.specs.declared.laying.LaidStatement.{LaidStatement}
use Rattle.asm_model.specs.Laid.{LaidLine, pieces_of, taken, reversed}
use Rattle.asm_model.specs.LayoutKinds.{entry_kinds, literal_kinds, first_late, told_at}
use Rattle.asm_layout.specs.Layout.{AreStatements, IsTold}
use Rattle.asm_layout.specs.Late.{position_of, AreOn, IsLeft}

-- ---- from the first line on

pub lines_on : (before rest : List LaidLine) (front back : List LaidStatement) → AreStatements before front → AreOn before rest back
    → AreOn [] (reversed before rest) (front ++ back)
lines_on [] rest front back h k = rw h k
lines_on (l ∷ before) rest front back h k =
    subst (λ (xs : List LaidStatement). AreOn [] (reversed before (l ∷ rest)) (xs ++ back)) (sym h.2)
    (subst (λ (xs : List LaidStatement). AreOn [] (reversed before (l ∷ rest)) xs) (sym (append_one h.0 h.1 back))
    (lines_on before (l ∷ rest) h.0 (h.1 ∷ back) h.4 (h.1, back, refl, h.3, k)))
  where
    append_one : (xs : List LaidStatement) (y : LaidStatement) (ys : List LaidStatement) → (xs ++ y ∷ []) ++ ys ≡ xs ++ (y ∷ ys)
    append_one [] y ys = refl
    append_one (x ∷ xs) y ys = ap (λ (l : List LaidStatement). x ∷ l) (append_one xs y ys)

append_nil : (xs : List LaidStatement) → xs ++ [] ≡ xs
append_nil [] = refl
append_nil (x ∷ xs) = ap (λ (l : List LaidStatement). x ∷ l) (append_nil xs)

pub back_again : (xs ys : List LaidLine) → reversed (reversed xs ys) [] ≡ reversed ys xs
back_again [] ys = refl
back_again (x ∷ xs) ys = back_again xs (x ∷ ys)

pub first_left : (all : List LaidLine) (laid : List LaidStatement) → AreStatements all laid → IsLeft all laid
first_left all laid h = record {
  before = [];
  rest = reversed all [];
  parts = sym (back_again all []);
  lines = subst (λ (xs : List LaidStatement). AreOn [] (reversed all []) xs) (append_nil laid) (lines_on all [] laid [] h refl);
  none = refl;
}

-- ---- a line

-- the lines that are left begin with this one
pub record Next (all : List LaidLine) (x : LaidStatement) (more : List LaidStatement) : Type 0 where
  pub before : List LaidLine
  pub l : LaidLine
  pub rest : List LaidLine
  pub parts : all ≡ reversed rest (l ∷ before)
  pub line : IsStatement x l before
  pub lines : AreOn (l ∷ before) rest more
  pub none : first_late all [] (reversed all []) ≡ first_late all before (l ∷ rest)

pub next_of : (all : List LaidLine) (x : LaidStatement) (more : List LaidStatement) → IsLeft all (x ∷ more) → Next all x more
next_of all x more h = by_rest h.rest h.parts h.lines h.none
  where
    by_rest : (rest : List LaidLine) → all ≡ reversed rest h.before → AreOn h.before rest (x ∷ more)
        → first_late all [] (reversed all []) ≡ first_late all h.before rest → Next all x more
    by_rest [] parts lines none = absurd (cc)
    by_rest (l ∷ rest) parts lines none =
        let same : lines.0 ≡ x = cc in
        let others : lines.1 ≡ more = cc in
        record {
          before = h.before;
          l = l;
          rest = rest;
          parts = parts;
          line = subst (λ (y : LaidStatement). IsStatement y l h.before) same lines.3;
          lines = subst (λ (ys : List LaidStatement). AreOn (l ∷ h.before) rest ys) others lines.4;
          none = none;
        }

pub stands : (all : List LaidLine) (x : LaidStatement) (more : List LaidStatement) (n : Next all x more)
    → IsPosition all n.before n.rest n.l x.line.statement.now.what (position_of x)
stands all x more n = record {
  parts = n.parts;
  said = ap (λ (s : Statement). s.what) (sym n.line.line.statement);
  stands = n.line.line.place.area;
  start = n.line.line.place.offset;
  entry = n.line.literal;
}

pub told_here : (all : List LaidLine) (x : LaidStatement) (more : List LaidStatement) (n : Next all x more) (k : LineKind) (f : Fault)
    → Some k ≡ told_kind (entry_kinds n.l.area n.l all ++ literal_kinds n.l.area (taken n.l.extent) (pieces_of (n.l ∷ n.before)) (pieces_of n.rest))
    → IsTold (Some (x.line.statement.now, k)) f → IsTold (first_late all [] (reversed all [])) f
told_here all x more n k f e h =
    subst (λ (o : Option (Statement × LineKind)). IsTold o f)
    (ap (λ (s : Statement). Some (s, k)) n.line.line.statement ∙ ap (λ (o : Option LineKind). or_else (told_at n.l.statement o)
    (first_late all (n.l ∷ n.before) n.rest)) e ∙ sym n.none) h

pub none_here : (all : List LaidLine) (x : LaidStatement) (more : List LaidStatement) (n : Next all x more)
    → None ≡ told_kind (entry_kinds n.l.area n.l all ++ literal_kinds n.l.area (taken n.l.extent) (pieces_of (n.l ∷ n.before)) (pieces_of n.rest))
    → IsLeft all more
none_here all x more n e = record {
  before = n.l ∷ n.before;
  rest = n.rest;
  parts = n.parts;
  lines = n.lines;
  none = n.none ∙ ap (λ (o : Option LineKind). or_else (told_at n.l.statement o) (first_late all (n.l ∷ n.before) n.rest)) (sym e);
}

pub none_left : (all : List LaidLine) → IsLeft all [] → first_late all [] (reversed all []) ≡ None
none_left all h = by_rest h.rest h.lines h.none
  where
    by_rest : (rest : List LaidLine) → AreOn h.before rest [] → first_late all [] (reversed all []) ≡ first_late all h.before rest
        → first_late all [] (reversed all []) ≡ None
    by_rest [] lines none = none
    by_rest (l ∷ rest) lines none = absurd (cc)

-- ---- lines as names are made of them

pub each_of : (all : List LaidLine) (xs : List LaidStatement) → AreStatements all xs → AreEach all (map (λ (x : LaidStatement). x.line) xs)
each_of [] xs h = ap (map (λ (x : LaidStatement). x.line)) h
each_of (l ∷ before) xs h = (
  map (λ (x : LaidStatement). x.line) h.0,
  h.1.line,
  ap (map (λ (x : LaidStatement). x.line)) h.2 ∙ map-append (λ (x : LaidStatement). x.line) h.0 (h.1 ∷ []),
  h.3.line,
  each_of before h.0 h.4,
)
