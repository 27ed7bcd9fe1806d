-- Maps from names, and tables of names.
use Rattle.std.proofs.Common.{◌≡◌, ℕ, List, [], ◌∷◌, ◌++◌, Bool, true, false, cond, ◌&&◌, length, refl, ◌∙◌, Some, None}
use Rattle.std.specs.Option.{is_some}
use Rattle.std.specs.Str.{bytes_eq}
use Rattle.asm_model.specs.Directives.{or_else}
use Rattle.asm_model.specs.Forms.{same}
use Rattle.asm_model.proofs.SharedLemmas.{same_back, tests}
use Rattle.asm_model.proofs.WordLemmas.{same_true}
use Rattle.expand_model.specs.States.{Table, found, with_row}
use Rattle.asm_variables.specs.Maps.{Map, value_named}

pub bytes_same : (a b : List ℕ) → bytes_eq a b ≡ same a b
bytes_same a b = tests a b ∙ same_back b a

-- the first row of two tables
pub found_append : {A : Type 0} (q : List ℕ) (rows more : Table A) → found q (rows ++ more) ≡ or_else (found q rows) (found q more)
found_append q [] more = refl
found_append q (row ∷ rows) more = by (same row.0 q) (found_append q rows more)
  where
    by : (b : Bool) → found q (rows ++ more) ≡ or_else (found q rows) (found q more)
        → cond b (Some row.1) (found q (rows ++ more)) ≡ or_else (cond b (Some row.1) (found q rows)) (found q more)
    by true e = refl
    by false e = e

-- another value in the first row with a name
pub found_with : {A : Type 0} (name : List ℕ) (v : A) (q : List ℕ) (rows : Table A)
    → found q (with_row name v rows) ≡ cond (same name q && is_some (found name rows)) (Some v) (found q rows)
found_with name v q [] = none (same name q)
  where
    none : (b : Bool) → None ≡ cond (b && false) (Some v) None
    none true = refl
    none false = refl
found_with name v q (row ∷ rows) = by (same row.0 name) refl (same name q) refl (same row.0 q) refl (found_with name v q rows)
  where
    by : (b : Bool) → same row.0 name ≡ b → (c : Bool) → same name q ≡ c → (d : Bool) → same row.0 q ≡ d
        → found q (with_row name v rows) ≡ cond (c && is_some (found name rows)) (Some v) (found q rows)
        → found q (cond b ((row.0, v) ∷ rows) (row ∷ with_row name v rows))
        ≡ cond (c && is_some (cond b (Some row.1) (found name rows))) (Some v) (cond d (Some row.1) (found q rows))
    by true e true f d g h =
        let x = same_true row.0 name e in
        let y : same row.0 q ≡ true = rw x f in
        rw y refl
    by true e false f true g h =
        let x = same_true row.0 name e in
        let y : same row.0 q ≡ false = rw x f in
        absurd (cc)
    by true e false f false g h = rw g refl
    by false e true f true g h =
        let x = same_true name q f in
        let y : same row.0 name ≡ true = rw x g in
        absurd (cc)
    by false e true f false g h = rw g h
    by false e false f true g h = rw g refl
    by false e false f false g h = rw g h

-- nothing is found where there is no entry
pub none_named : {V : Type 0} (m : Map V) (q : List ℕ) → length m.entries ≡ 0 → value_named m q ≡ None
none_named {V} m q h = by m.entries refl h
  where
    by : (es : List (List ℕ × V)) → m.entries ≡ es → length es ≡ 0 → value_named m q ≡ None
    by [] e z = rw e refl
    by (x ∷ xs) e z = absurd (cc)
