-- Lines one behind the other as a text, and their numbers.
use Rattle.std.proofs.Common.{◌≡◌, ℕ, zero, suc, ◌+◌, ◌-◌, ◌*◌, ◌≤◌, ◌==◌, List, [], ◌∷◌, ◌++◌, length, take, drop, Bool, true, false, refl, ◌∙◌, ap, arith, Some, drop-drop, nat_lt}
use Rattle.std.specs.Prelude.{◌||◌, position, slice_index}
use Rattle.std.specs.List.{list_any, position_or_len}
use Rattle.std.specs.Str.Lines.{lines, strip_carriage_return}
use Rattle.std.proofs.lemmas.Bool.{cond-false, lt-ltb}
use Rattle.std.proofs.lemmas.List.{length-append, take_at, drop_at}
use Rattle.asm_lines.proofs.LineLemmas.{lines_first}
use Rattle.big_model.specs.Sources.{spelled}

pub or_parts : (a b : Bool) → (a || b) ≡ false → (a ≡ false) × (b ≡ false)
or_parts true b h = absurd (cc)
or_parts false b h = (refl, h)

abbrev pub has_dollar : List ℕ → Bool
has_dollar text = list_any (λ c. c == 36) text

abbrev pub ends_line : ℕ → Bool
ends_line c = c == 10 || c == 13

-- a line that holds no line's end
abbrev pub IsClean : List ℕ → Type 0
IsClean l = list_any ends_line l ≡ false

abbrev pub AreClean : List (List ℕ) → Type 0
AreClean [] = Unit {0}
AreClean (l ∷ ls) = IsClean l × AreClean ls

run_to : (l rest : List ℕ) → IsClean l → position_or_len (λ b. b == 10) (l ++ (10 ∷ rest)) ≡ length l
run_to [] rest h = refl
run_to (c ∷ cs) rest h =
    let p = or_parts (c == 10 || c == 13) (list_any ends_line cs) h in
    let q = or_parts (c == 10) (c == 13) p.0 in
    rw (q.0, run_to cs rest p.1) (omega arith)

position_is : (l rest : List ℕ) → IsClean l → position (λ b. b == 10) (l ++ (10 ∷ rest)) ≡ Some (length l)
position_is l rest h =
    let lt : nat_lt (length l) (length (l ++ (10 ∷ rest))) ≡ true = lt-ltb _ _ (rw length-append (omega arith)) in
    rw (run_to l rest h, lt) refl

no_return : (l : List ℕ) (k : ℕ) → IsClean l → (slice_index l k == 13) ≡ false
no_return [] k h = refl
no_return (c ∷ cs) zero h = (or_parts (c == 10) (c == 13) (or_parts (c == 10 || c == 13) (list_any ends_line cs) h).0).1
no_return (c ∷ cs) (suc k) h = no_return cs k (or_parts (c == 10 || c == 13) (list_any ends_line cs) h).1

stripped : (l : List ℕ) → IsClean l → strip_carriage_return l ≡ l
stripped l h = cond-false _ _ l (no_return l (length l - 1) h)

line_first : (l rest : List ℕ) → IsClean l → lines (l ++ (10 ∷ rest)) ≡ l ∷ lines rest
line_first l rest h =
    let front : take (length l) (l ++ (10 ∷ rest)) ≡ l = take_at l (10 ∷ rest) (length l) refl in
    let two : drop (length l + 1) (l ++ (10 ∷ rest)) ≡ drop 1 (drop (length l) (l ++ (10 ∷ rest))) = search (drop-drop) in
    let back : drop (length l) (l ++ (10 ∷ rest)) ≡ 10 ∷ rest = drop_at l (10 ∷ rest) (length l) refl in
    let behind : drop (length l + 1) (l ++ (10 ∷ rest)) ≡ rest = two ∙ ap (drop 1) back in
    lines_first (l ++ (10 ∷ rest)) (length l) (position_is l rest h) ∙ ap (λ (x : List ℕ). strip_carriage_return x
    ∷ lines (drop (length l + 1) (l ++ (10 ∷ rest)))) front
    ∙ ap (λ (x : List ℕ). x ∷ lines (drop (length l + 1) (l ++ (10 ∷ rest)))) (stripped l h) ∙ ap (λ (x : List ℕ). l ∷ lines x) behind

pub lines_spelled : (ls : List (List ℕ)) → AreClean ls → lines (spelled ls) ≡ ls
lines_spelled [] h = refl
lines_spelled (l ∷ ls) h = line_first l (spelled ls) h.0 ∙ ap (λ (x : List (List ℕ)). l ∷ x) (lines_spelled ls h.1)

-- ---- how long a text is

abbrev pub AreShort : List (List ℕ) → Type 0
AreShort [] = Unit {0}
AreShort (l ∷ ls) = (length l ≤ 80) × AreShort ls

pub spelled_short : (ls : List (List ℕ)) → AreShort ls → length (spelled ls) ≤ 81 * length ls
spelled_short [] h = omega arith
spelled_short (l ∷ ls) h = let more = spelled_short ls h.1 in rw length-append (omega (arith, h.0))
