-- Areas that are named again: what agrees with an area's attributes is the same.
use Rattle.std.proofs.Common.{◌≡◌, ℕ, ◌||◌, Bool, true, false, cond, List, ◌∷◌, ◌++◌, Option, Some, None, refl, sym, ap, ◌∙◌}
use Rattle.std.specs.Prelude.{not, nat_lt, Result, Ok, Err}
use Rattle.std.proofs.lemmas.Bool.{eqb-true}
use Rattle.sdt_fault.specs.declared.kinds.LineKind.{LineKind}
use Rattle.sdt_fault.specs.declared.kinds.LineKind.TheVariants.{BadOperand}
use Rattle.asm_model.specs.declared.directives.AreaAttributes.{AreaAttributes}
use Rattle.asm_model.specs.declared.directives.Contents.{Contents}
use Rattle.asm_model.specs.declared.directives.Contents.TheVariants as contents
use Rattle.asm_model.specs.declared.directives.DirectiveLine.TheVariants as line
use Rattle.asm_model.specs.declared.statements.What.TheVariants as what
use Rattle.asm_model.specs.Forms.{same}
use Rattle.asm_model.specs.Kinds.{told_kind, kind_if}
use Rattle.asm_model.proofs.WordLemmas.{same_true}
use Rattle.asm_model.specs.Laid.{LaidLine}
use Rattle.asm_model.specs.LayoutKinds.{exponent, exponent_kinds, same_contents, same_mark, same_attributes, again_with, is_named_otherwise}
use Rattle.asm_checks.specs.declared.areas.AreaMarks.{AreaMarks}
use Rattle.asm_checks.specs.Areas.{Areas, marks_in, agrees, is_otherwise, marks_of, noted, IsNoted, AreAreasOf}
use Rattle.base_lemmas.proofs.BaseLemmas.{both_true}

-- ---- the map

-- what is there for a name is there
as_it_was : (areas : Areas) (name : List ℕ) (o : Option AreaMarks) → o ≡ marks_in areas name → (q : List ℕ)
    → marks_in areas q ≡ cond (same q name) o (marks_in areas q)
as_it_was areas name o e q = by_test (same q name) refl
  where
    by_test : (b : Bool) → same q name ≡ b → marks_in areas q ≡ cond b o (marks_in areas q)
    by_test true t = ap (marks_in areas) (same_true q name t) ∙ sym e
    by_test false t = refl

pub unknown : (areas : Areas) (name : List ℕ) (a : AreaAttributes) (x : Result ℕ LineKind) (k : LineKind) → x ≡ Err k → IsNoted name a x areas areas
unknown areas name a x k e = as_it_was areas name (noted a x (marks_in areas name)) (rw e refl)

pub known : (areas : Areas) (name : List ℕ) (a : AreaAttributes) (x : Result ℕ LineKind) (n : ℕ) (m : AreaMarks) → x ≡ Ok n → marks_in areas name ≡ Some m
    → IsNoted name a x areas areas
known areas name a x n m e f = as_it_was areas name (noted a x (marks_in areas name)) (rw (e, f) refl)

pub put_new : (old new : Areas) (name : List ℕ) (a : AreaAttributes) (x : Result ℕ LineKind) (n : ℕ) → x ≡ Ok n → marks_in old name ≡ None
    → ((q : List ℕ) → marks_in new q ≡ cond (same q name) (Some (marks_of a n)) (marks_in old q)) → IsNoted name a x old new
put_new old new name a x n e f updates q =
    let first : noted a x (marks_in old name) ≡ Some (marks_of a n) = rw (e, f) refl in
    updates q ∙ rw first refl

-- ---- attributes

contents_are : (c d : Contents) → same_contents c d ≡ true → d ≡ c
contents_are contents.Code contents.Code e = refl
contents_are contents.Code contents.Data e = absurd (cc)
contents_are contents.Code contents.Zeroes e = absurd (cc)
contents_are contents.Data contents.Code e = absurd (cc)
contents_are contents.Data contents.Data e = refl
contents_are contents.Data contents.Zeroes e = absurd (cc)
contents_are contents.Zeroes contents.Code e = absurd (cc)
contents_are contents.Zeroes contents.Data e = absurd (cc)
contents_are contents.Zeroes contents.Zeroes e = refl

mark_is : (a b : Bool) → same_mark a b ≡ true → b ≡ a
mark_is true true e = refl
mark_is true false e = absurd (cc)
mark_is false true e = absurd (cc)
mark_is false false e = refl

abbrev made : Contents → Bool → Bool → Bool → Bool → Bool → ℕ → AreaMarks
made c r i h p e k = record { contents = c; read_only = r; interwork = i; halfword = h; pic = p; reentrant = e; exponent = k }

marks_are : (a : AreaAttributes) (n : ℕ) (c : Contents) (r i h p e : Bool) (k : ℕ)
    → c ≡ a.contents → r ≡ a.read_only → i ≡ a.interwork → h ≡ a.halfword → p ≡ a.pic → e ≡ a.reentrant → k ≡ n
    → made c r i h p e k ≡ marks_of a n
marks_are a n c r i h p e k e0 e1 e2 e3 e4 e5 e6 = rw (e0, e1, e2, e3, e4, e5, e6) refl

-- an area with which attributes agree has these
agreed : (a : AreaAttributes) (n : ℕ) (m : AreaMarks) → agrees a (Ok n) m ≡ true → m ≡ marks_of a n
agreed a n m e =
    let s6 = both_true _ _ e in
    let s5 = both_true _ _ s6.0 in
    let s4 = both_true _ _ s5.0 in
    let s3 = both_true _ _ s4.0 in
    let s2 = both_true _ _ s3.0 in
    let s1 = both_true _ _ s2.0 in
    marks_are a n m.contents m.read_only m.interwork m.halfword m.pic m.reentrant m.exponent
    (contents_are a.contents m.contents s1.0) (mark_is a.read_only m.read_only s1.1) (mark_is a.interwork m.interwork s2.1)
    (mark_is a.halfword m.halfword s3.1) (mark_is a.pic m.pic s4.1) (mark_is a.reentrant m.reentrant s5.1)
    (sym (eqb-true n m.exponent s6.1))

-- ---- lines

or_same : (b : Bool) → (b || b) ≡ b
or_same true = refl
or_same false = refl

or_nothing : (b : Bool) → (b || false) ≡ b
or_nothing true = refl
or_nothing false = refl

-- what a line without a fault says of its area
pub record IsGood (a : AreaAttributes) (x : Result ℕ LineKind) (o : Option AreaMarks) : Type 0 where
  pub number : ℕ
  pub is : x ≡ Ok number
  pub as_before : is_otherwise a (Ok number) o ≡ false

is_good : (a : AreaAttributes) (x : Result ℕ LineKind) (o : Option AreaMarks)
    → told_kind (exponent_kinds x ++ kind_if (is_otherwise a x o) BadOperand) ≡ None → IsGood a x o
is_good a (Err k) o e = absurd (cc)
is_good a (Ok n) o e = record { number = n; is = refl; as_before = by (nat_lt n 2 || nat_lt 16 n) (is_otherwise a (Ok n) o) e }
  where
    by : (b c : Bool) → told_kind (kind_if b BadOperand ++ kind_if c BadOperand) ≡ None → c ≡ false
    by b false e = refl
    by true true e = absurd (cc)
    by false true e = absurd (cc)

-- an area that is named with attributes is otherwise than others where these are others, or it was so before
again : (a : AreaAttributes) (n : ℕ) (o : Option AreaMarks) (b : AreaAttributes) (y : Result ℕ LineKind)
    → is_otherwise a (Ok n) o ≡ false
    → (not (agrees b y (marks_of a n)) || is_otherwise b y o) ≡ is_otherwise b y (noted a (Ok n) o)
again a n None b y e = or_nothing (not (agrees b y (marks_of a n)))
again a n (Some m) b y e = rw (agreed a n m (not_false (agrees a (Ok n) m) e)) (or_same (not (agrees b y (marks_of a n))))
  where
    not_false : (c : Bool) → not c ≡ false → c ≡ true
    not_false true f = refl
    not_false false f = absurd (cc)

pub named_again : (before : List LaidLine) (l : LaidLine) (name : List ℕ) (a : AreaAttributes) (x : Result ℕ LineKind) (old new : Areas)
    → AreAreasOf before old → IsNoted name a x old new → l.statement.what ≡ what.Directive (line.Area name a) → x ≡ exponent l.seen a.alignments
    → told_kind (exponent_kinds x ++ kind_if (is_otherwise a x (marks_in old name)) BadOperand) ≡ None → AreAreasOf (l ∷ before) new
named_again before l name a x old new areas note said aligned none other t b =
    let good = is_good a x (marks_in old name) none in
    ap (λ w. again_with other t b l.seen w (is_named_otherwise other t b before)) said
    ∙ by_test good (same other name) refl
    ∙ ap (is_otherwise b (exponent t b.alignments)) (sym (note other))
  where
    by_test : IsGood a x (marks_in old name) → (c : Bool) → same other name ≡ c
        → cond c (not (same_attributes t b l.seen a) || is_named_otherwise other t b before) (is_named_otherwise other t b before)
        ≡ is_otherwise b (exponent t b.alignments) (cond c (noted a x (marks_in old name)) (marks_in old other))
    by_test good false e = areas other t b
    by_test good true e =
        rw (areas other t b, same_true other name e, ← aligned, good.is)
        (again a good.number (marks_in old name) b (exponent t b.alignments) good.as_before)
