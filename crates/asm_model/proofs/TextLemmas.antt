-- Parts of parts of texts.
use Rattle.std.proofs.Common.{◌≡◌, ◌≤◌, ◌+◌, ◌-◌, arith, ◌∙◌, ap, sym, ℕ, List, length, take, drop}
use Rattle.std.proofs.lemmas.List.{drop-take, drop-drop, take-take, length-take-le, length-drop}

-- how long a part is
pub part_length : (whole : List ℕ) (start end : ℕ) → start ≤ end → end ≤ length whole → length (take (end - start) (drop start whole)) ≡ end - start
part_length whole start end ordered within =
    let rest : length (drop start whole) ≡ length whole - start = length-drop start whole in
    length-take-le (end - start) (drop start whole) (omega arith)

-- a part of a part is a part
pub part_of_part : (whole : List ℕ) (start end from to : ℕ) → start ≤ end → from ≤ to → to ≤ end - start
    → take ((start + to) - (start + from)) (drop (start + from) whole) ≡ take (to - from) (drop from (take (end - start) (drop start whole)))
part_of_part whole start end from to ordered some few =
    let count : (start + to) - (start + from) ≡ to - from = omega arith in
    let more : from + (end - start - from) ≡ end - start = omega arith in
    ap (λ n. take n (drop (start + from) whole)) count
    ∙ sym (take-take (to - from) (end - start - from) (drop (start + from) whole) (omega arith))
    ∙ ap (λ ys. take (to - from) (take (end - start - from) ys)) (sym (drop-drop from start whole))
    ∙ ap (take (to - from)) (sym (drop-take from (end - start - from) (drop start whole)))
    ∙ ap (λ n. take (to - from) (drop from (take n (drop start whole)))) more

-- a place of a part is a place of the whole
pub within_part : (whole : List ℕ) (start end to : ℕ) (part : List ℕ) → part ≡ take (end - start) (drop start whole)
    → start ≤ end → end ≤ length whole → to ≤ length part → start + to ≤ end
within_part whole start end to part is ordered within few =
    let count : length part ≡ end - start = ap length is ∙ part_length whole start end ordered within in
    omega arith
