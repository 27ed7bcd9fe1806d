-- A row's word determines its fields.
use Rattle.std.proofs.Common.{◌≡◌, ℕ, ◌+◌, ◌*◌, ◌/◌, ◌^◌, ◌<◌, ◌≤◌, List, [], ◌∷◌, refl, sym, ap, ◌∙◌, arith, mul-div_cancel, mul-le-mul_right, pow-add}
use Rattle.std.proofs.lemmas.Nat.{mod-mul-add, pow_pos}
use Rattle.sdt_word.specs.Rows.{Blank, Digit, Field, FitsRow, Part, placed_of, width_of}

-- fields that fit stay below the row's width
pub placed_of-lt : (row : List Part) (xs : List ℕ) → FitsRow row xs → placed_of row xs < 2 ^ width_of row
placed_of-lt [] [] h = omega arith
placed_of-lt [] (x ∷ xs) h = absurd h
placed_of-lt (Digit d ∷ row) xs h =
    let rest = placed_of-lt row xs h in
    let e = pow-add 2 1 (width_of row) in
    omega arith
placed_of-lt (Field a n ∷ row) [] h = absurd h
placed_of-lt (Field a n ∷ row) (x ∷ xs) h =
    let rest = placed_of-lt row xs h.1 in
    let e = pow-add 2 n (width_of row) in
    let top : (x + 1) * 2 ^ width_of row ≤ 2 ^ n * 2 ^ width_of row = mul-le-mul_right (2 ^ width_of row) (omega arith) in
    omega arith
placed_of-lt (Blank ∷ row) xs h = placed_of-lt row xs h

-- fields that make the same number are the same
pub fields-same : (row : List Part) (xs ys : List ℕ) → FitsRow row xs → FitsRow row ys → placed_of row xs ≡ placed_of row ys → xs ≡ ys
fields-same [] [] [] g h e = refl
fields-same [] (x ∷ xs) ys g h e = absurd g
fields-same [] [] (y ∷ ys) g h e = absurd h
fields-same (Digit d ∷ row) xs ys g h e = fields-same row xs ys g h e
fields-same (Field a n ∷ row) [] ys g h e = absurd g
fields-same (Field a n ∷ row) (x ∷ xs) [] g h e = absurd h
fields-same (Field a n ∷ row) (x ∷ xs) (y ∷ ys) g h e =
    let size = 2 ^ width_of row in
    let left = placed_of-lt row xs g.1 in
    let right = placed_of-lt row ys h.1 in
    let low = mod-mul-add x size (placed_of row xs) left in
    let other = mod-mul-add y size (placed_of row ys) right in
    let same : placed_of row xs ≡ placed_of row ys = cc in
    let product : x * size ≡ y * size = omega arith in
    let first : x ≡ y =
    sym (mul-div_cancel x (pow_pos (width_of row)))
    ∙ ap (λ (p : ℕ). p / size) product
    ∙ mul-div_cancel y (pow_pos (width_of row)) in
    let rest = fields-same row xs ys g.1 h.1 same in
    cc
fields-same (Blank ∷ row) xs ys g h e = fields-same row xs ys g h e
