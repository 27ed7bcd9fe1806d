-- Names that lines note.
use Rattle.std.proofs.Common.{◌≡◌, ◌≤◌, ℕ, zero, suc, ◌+◌, ◌-◌, List, [], ◌∷◌, ◌++◌, length, take, drop, Bool, true, false, cond, ◌||◌, refl, sym, ap, ◌∙◌, arith, Option, Some, None}
use Rattle.std.specs.Option.{is_some}
use Rattle.std.specs.List.{list_any}
use Rattle.std.proofs.lemmas.Bool.{cond-true}
use Rattle.std.proofs.lemmas.List.{drop-take, take-take}
use Rattle.asm_model.specs.Directives.{or_else}
use Rattle.asm_model.specs.Forms.{is_name, same}
use Rattle.asm_model.specs.Says.{between_bars}
use Rattle.asm_model.proofs.WordLemmas.{same_true}
use Rattle.expand_model.specs.Words.{Words, as_name, in_column_1, listed, token_width, words_of}
use Rattle.asm_expand.specs.Plain.{Begins}

pub or_first : (a b : Bool) → (a || b) ≡ ((a || false) || b)
or_first true b = refl
or_first false b = refl

pub labels_listed : (q : List ℕ) (o : Option (List ℕ)) (ns : List (List ℕ))
    → list_any (λ n. same n q) (listed o ++ ns) ≡ (list_any (λ n. same n q) (listed o) || list_any (λ n. same n q) ns)
labels_listed q None ns = refl
labels_listed q (Some n) ns = by (same n q) (list_any (λ m. same m q) ns)
  where
    by : (a b : Bool) → (a || b) ≡ ((a || false) || b)
    by true b = refl
    by false b = refl

-- a name that has a number keeps it
pub number_known : (get : List ℕ → Option ℕ) (n q : List ℕ) (k : ℕ) → is_some (get n) ≡ true → get q ≡ or_else (get q) (cond (same n q) (Some k) None)
number_known get n q k h = by (get q) refl (same n q) refl
  where
    by : (o : Option ℕ) → get q ≡ o → (b : Bool) → same n q ≡ b → o ≡ or_else o (cond b (Some k) None)
    by (Some v) e b f = refl
    by None e false f = refl
    by None e true f = let x = same_true n q f in let y = rw x at h in absurd (let z : is_some (get q) ≡ false = rw e refl in cc)

pub number_new : (get : List ℕ → Option ℕ) (n q : List ℕ) (k : ℕ) → is_some (get n) ≡ false
    → cond (same n q) (Some k) (get q) ≡ or_else (get q) (cond (same n q) (Some k) None)
number_new get n q k h = by (get q) refl (same n q) refl
  where
    by : (o : Option ℕ) → get q ≡ o → (b : Bool) → same n q ≡ b → cond b (Some k) o ≡ or_else o (cond b (Some k) None)
    by None e true f = refl
    by None e false f = refl
    by (Some v) e false f = refl
    by (Some v) e true f = let x = same_true n q f in let y = rw x at h in absurd (let z : is_some (get q) ≡ true = rw e refl in cc)

-- ---- labels are parts of their lines

taken_begins : (n : ℕ) (xs : List ℕ) → Begins (take n xs) xs
taken_begins zero xs = (omega arith, refl)
taken_begins (suc n) [] = (omega arith, refl)
taken_begins (suc n) (x ∷ xs) = let h = taken_begins n xs in let le = h.0 in (omega arith, ap (λ (t : List ℕ). x ∷ t) h.1)

pub label_begins : (text label : List ℕ) (w : Words) → w ≡ words_of text → label ≡ w.label → Begins label text
unfolding words_of
label_begins text label w e l =
    let is : label ≡ take (in_column_1 token_width text) text = l ∙ ap (λ (v : Words). v.label) e in
    rw is (taken_begins (in_column_1 token_width text) text)

pub whole_name : (text label name : List ℕ) → Begins label text → name ≡ take (length label - 0) (drop 0 text) → is_name label ≡ true
    → Some name ≡ as_name label
whole_name text label name b e h =
    let width : length label - 0 ≡ length label = omega arith in
    ap (λ (n : List ℕ). Some n) (rw width at e ∙ sym b.1) ∙ sym (cond-true (is_name label) (Some label) _ h)

pub inner_begins : (text label : List ℕ) → Begins label text → 2 ≤ length label → take (length label - 1 - 1) (drop 1 text) ≡ between_bars label
inner_begins text label b two =
    let n = length label in
    let e : n ≡ 1 + (n - 1) = omega arith in
    let inside : drop 1 label ≡ take (n - 1) (drop 1 text) =
    ap (λ (l : List ℕ). drop 1 l) b.1 ∙ ap (λ (k : ℕ). drop 1 (take k text)) e ∙ drop-take 1 (n - 1) text
    in
    let width : n - 1 - 1 ≡ n - 2 = omega arith in
    rw (width, inside) (sym (take-take (n - 2) (n - 1) (drop 1 text) (omega arith)))
