-- Rows with names: those that can't be the name of a word are left out.
use Rattle.std.proofs.Common.{◌≡◌, ◌≢◌, ℕ, suc, ◌+◌, ◌<◌, ◌≤◌, List, [], ◌∷◌, ◌++◌, length, drop, get_or, map, Bool, true, false, cond, refl, sym, ◌∙◌, ap, Option, Some, None}
use Rattle.std.specs.Prelude.{◌==◌}
use Rattle.std.specs.Char.{to_ascii_lowercase}
use Rattle.std.proofs.lemmas.Bool.{and_left, and_right, cond-false}
use Rattle.std.proofs.lemmas.List.{drop_more}
use Rattle.std.proofs.Math.ListN.{drop_of_length-le}
use Rattle.asm_model.specs.Forms.{same}
use Rattle.asm_model.specs.Tokens.{is_called}
use Rattle.asm_model.specs.Directives.{row_of, or_else}
use Rattle.asm_expr.specs.Beginnings.{BeginsWith, begins_alike}

abbrev lower : List ℕ → List ℕ
lower s = map to_ascii_lowercase s

-- what stands behind the first letter, in lower case
abbrev behind : List ℕ → List ℕ
behind [] = []
behind (c ∷ cs) = lower cs

-- a word and a name of other lengths, or with other first letters
pub other_length : (name word : List ℕ) → length name ≢ length word → is_called name word ≡ false
other_length [] [] h = absurd (h refl)
other_length (d ∷ ds) [] h = refl
other_length [] (c ∷ cs) h = refl
other_length (d ∷ ds) (c ∷ cs) h =
    and_right (to_ascii_lowercase c == to_ascii_lowercase d) (same (lower cs) (lower ds)) (other_length ds cs (λ e. h (ap suc e)))

pub other_letter : (word name : List ℕ) → begins_alike word name ≡ false → is_called name word ≡ false
other_letter [] name e = absurd (cc)
other_letter (c ∷ cs) [] e = absurd (cc)
other_letter (c ∷ cs) (d ∷ ds) e = and_left (to_ascii_lowercase c == to_ascii_lowercase d) (same (lower cs) (lower ds)) e

-- what the first row with a word in lower case names
abbrev pub lowered_row : {A : Type 0} → List ℕ → List (List ℕ × A) → Option A
lowered_row s [] = None
lowered_row s (row ∷ rows) = cond (same s (lower row.0)) (Some row.1) (lowered_row s rows)

lowered : {A : Type 0} (word : List ℕ) (rows : List (List ℕ × A)) → row_of word rows ≡ lowered_row (lower word) rows
lowered word [] = refl
lowered word (row ∷ rows) = ap (cond (is_called row.0 word) (Some row.1)) (lowered word rows)

pub at_letter : {A : Type 0} (letter k : ℕ) (word : List ℕ) (rows : List (List ℕ × A)) → letter ≡ k → BeginsWith letter word
    → row_of word rows ≡ lowered_row (k ∷ behind word) rows
at_letter letter k [] rows e h = absurd h
at_letter letter k (c ∷ cs) rows e h = lowered (c ∷ cs) rows ∙ ap (λ x. lowered_row (x ∷ lower cs) rows) (h ∙ e)

-- rows that give what others give for words with this first letter
pub few : {A : Type 0} (letter k : ℕ) (word : List ℕ) (rows others : List (List ℕ × A)) → letter ≡ k → BeginsWith letter word
    → ((s : List ℕ) → lowered_row (k ∷ s) rows ≡ lowered_row (k ∷ s) others) → row_of word rows ≡ row_of word others
few letter k word rows others e h alike = at_letter letter k word rows e h ∙ alike (behind word) ∙ sym (at_letter letter k word others e h)

abbrev begins : ℕ → List ℕ → Bool
begins letter [] = false
begins letter (c ∷ cs) = letter == to_ascii_lowercase c

-- the rows whose names begin with a letter
abbrev pub begun_by : {A : Type 0} → ℕ → List (List ℕ × A) → List (List ℕ × A)
begun_by letter [] = []
begun_by letter (row ∷ rows) = cond (begins letter row.0) (row ∷ begun_by letter rows) (begun_by letter rows)

unlike : (k : ℕ) (s name : List ℕ) → begins k name ≡ false → same (k ∷ s) (lower name) ≡ false
unlike k s [] e = refl
unlike k s (c ∷ cs) e = and_left (k == to_ascii_lowercase c) (same s (lower cs)) e

pub kept : {A : Type 0} (k : ℕ) (s : List ℕ) (rows : List (List ℕ × A)) → lowered_row (k ∷ s) (begun_by k rows) ≡ lowered_row (k ∷ s) rows
kept k s [] = refl
kept k s (row ∷ rows) = by_test (begins k row.0) refl (kept k s rows)
  where
    by_test : (b : Bool) → begins k row.0 ≡ b → lowered_row (k ∷ s) (begun_by k rows) ≡ lowered_row (k ∷ s) rows
        → lowered_row (k ∷ s) (cond b (row ∷ begun_by k rows) (begun_by k rows)) ≡ cond (same (k ∷ s) (lower row.0)) (Some row.1) (lowered_row (k ∷ s) rows)
    by_test true e h = ap (cond (same (k ∷ s) (lower row.0)) (Some row.1)) h
    by_test false e h = h ∙ sym (cond-false (same (k ∷ s) (lower row.0)) _ _ (unlike k s row.0 e))

-- rows behind others
pub appended : {A : Type 0} (word : List ℕ) (xs ys : List (List ℕ × A)) → row_of word (xs ++ ys) ≡ or_else (row_of word xs) (row_of word ys)
appended word [] ys = refl
appended word (x ∷ xs) ys = chosen (is_called x.0 word) (appended word xs ys)
  where
    chosen : (b : Bool) → row_of word (xs ++ ys) ≡ or_else (row_of word xs) (row_of word ys)
        → cond b (Some x.1) (row_of word (xs ++ ys)) ≡ or_else (cond b (Some x.1) (row_of word xs)) (row_of word ys)
    chosen true h = refl
    chosen false h = h

-- the rows behind one that isn't the word's, and one that is
pub row_step : {A T : Type 0} (f : A → List ℕ × T) (word : List ℕ) (xs : List A) (i : ℕ) (x : A) (b : Bool) (all : Option T) → i < length xs
    → x ≡ get_or xs i x → b ≡ is_called (f x).0 word → b ≡ false → row_of word (map f (drop i xs)) ≡ all → row_of word (map f (drop (i + 1) xs)) ≡ all
row_step f word xs i x b all h e t eb inv =
    let cons : drop i xs ≡ x ∷ drop (i + 1) xs = drop_more xs i x h ∙ ap (λ y. y ∷ drop (i + 1) xs) (sym e) in
    let other : is_called (f x).0 word ≡ false = sym t ∙ eb in
    rw (cons, other) at inv

pub row_found : {A T : Type 0} (f : A → List ℕ × T) (word : List ℕ) (xs : List A) (i : ℕ) (x : A) (b : Bool) (all : Option T) → i < length xs
    → x ≡ get_or xs i x → b ≡ is_called (f x).0 word → b ≡ true → row_of word (map f (drop i xs)) ≡ all → Some (f x).1 ≡ all
row_found f word xs i x b all h e t eb inv =
    let cons : drop i xs ≡ x ∷ drop (i + 1) xs = drop_more xs i x h ∙ ap (λ y. y ∷ drop (i + 1) xs) (sym e) in
    let this : is_called (f x).0 word ≡ true = sym t ∙ eb in
    rw (cons, this) at inv

pub row_missing : {A T : Type 0} (f : A → List ℕ × T) (word : List ℕ) (xs : List A) (i : ℕ) (all : Option T) → length xs ≤ i
    → row_of word (map f (drop i xs)) ≡ all → None ≡ all
row_missing f word xs i all h inv = let none : drop i xs ≡ [] = drop_of_length-le xs h in rw none at inv
