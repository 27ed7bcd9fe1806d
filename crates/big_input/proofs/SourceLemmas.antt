-- Lines one behind the other.
use Rattle.std.proofs.Common.{◌≡◌, ℕ, ◌+◌, List, [], ◌∷◌, ◌++◌, map, refl, sym, ap, ◌∙◌, append_assoc, arith}
use Rattle.std.specs.Prelude.{codes}
use Rattle.std.specs.List.{range_with_len}
use Rattle.std.proofs.lemmas.List.FromFn.{map-range_with_len_more}
use Rattle.big_model.specs.Sources.{spelled, big_text, step_line, data_line}

pub spelled_joined : (xs ys : List (List ℕ)) → spelled (xs ++ ys) ≡ spelled xs ++ spelled ys
spelled_joined [] ys = refl
spelled_joined (x ∷ xs) ys =
    ap (λ (t : List ℕ). x ++ (10 ∷ t)) (spelled_joined xs ys) ∙ sym (append_assoc x (10 ∷ spelled xs) (spelled ys))

-- a text with the lines of each number below k, and the line of k
pub one_more : (line : ℕ → List ℕ) (before : List ℕ) (k : ℕ)
    → (before ++ spelled (map line (range_with_len 0 k))) ++ (line k ++ codes "\n") ≡ before ++ spelled (map line (range_with_len 0 (k + 1)))
one_more line before k =
    let more = map-range_with_len_more line 0 k k (omega arith) in
    let joined = spelled_joined (map line (range_with_len 0 k)) (line k ∷ []) in
    append_assoc before (spelled (map line (range_with_len 0 k))) (line k ++ codes "\n") ∙ ap (λ (t : List ℕ). before ++ t) (sym joined ∙ ap spelled (sym more))

-- the text, part by part
parts_joined : (n : ℕ)
    → (((codes " AREA big, CODE, READONLY\n ENTRY\n MOV r4,#0\n" ++ spelled (map step_line (range_with_len 0 n)))
    ++ codes " MOV r0,r4\n SWI 0x11\n AREA bigrw, DATA, READWRITE\n") ++ spelled (map data_line (range_with_len 0 n))) ++ codes " END\n" ≡ big_text n
parts_joined n =
    let steps = map step_line (range_with_len 0 n) in
    let words = map data_line (range_with_len 0 n) in
    let first = spelled_joined steps (codes " MOV r0,r4" ∷ codes " SWI 0x11" ∷ codes " AREA bigrw, DATA, READWRITE" ∷ (words ++ (codes " END" ∷ []))) in
    let second = spelled_joined words (codes " END" ∷ []) in
    let begin : List ℕ = codes " AREA big, CODE, READONLY\n ENTRY\n MOV r4,#0\n" in
    let middle : List ℕ = codes " MOV r0,r4\n SWI 0x11\n AREA bigrw, DATA, READWRITE\n" in
    let right : (((begin ++ spelled steps) ++ middle) ++ spelled words) ++ codes " END\n" ≡ begin
    ++ (spelled steps ++ (middle ++ (spelled words ++ codes " END\n"))) = simp append_assoc in
    right ∙ ap (λ (t : List ℕ). begin ++ (spelled steps ++ (middle ++ t))) (sym second) ∙ ap (λ (t : List ℕ). begin ++ t) (sym first)

-- the same, by what a buffer holds behind each part
pub in_parts : (n : ℕ) (a b c d e f r : List ℕ) → a ≡ [] → b ≡ a ++ codes " AREA big, CODE, READONLY\n ENTRY\n MOV r4,#0\n" → c ≡ b
    ++ spelled (map step_line (range_with_len 0 n))
    → d ≡ c ++ codes " MOV r0,r4\n SWI 0x11\n AREA bigrw, DATA, READWRITE\n" → e ≡ d ++ spelled (map data_line (range_with_len 0 n)) → f ≡ e ++ codes " END\n"
    → r ≡ f → r ≡ big_text n
in_parts n a b c d e f r ha hb hc hd he hf hr = rw (hr, hf, he, hd, hc, hb, ha) (parts_joined n)
