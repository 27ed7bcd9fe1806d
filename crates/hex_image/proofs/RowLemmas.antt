-- The first data record of a piece, and the others.
use Rattle.std.proofs.Common.{◌≡◌, ◌∙◌, ℕ, zero, suc, ◌+◌, ◌-◌, ◌%◌, ◌<◌, ◌≤◌, ◌⊎◌, inl, inr, List, [], ◌∷◌, length, take, drop, Bool, true, false, cond, ◌==◌, min, refl, sym, ap, arith}
use Rattle.std.proofs.lemmas.Bool.{cases_lt}
use Rattle.hex_image.specs.declared.records.Piece.{Piece}
use Rattle.hex_image.specs.Images.{piece}
use Rattle.hex_image.specs.Writing.{before, rows}

-- what a byte stands before begins with it
head_by : (a b : ℕ) (p : Piece) (ps : List Piece) (t : Bool) → (xs : List ℕ) × (qs : List Piece) × (cond t (piece a (b ∷ []) ∷ p ∷ ps) (piece a (b ∷ p.bytes) ∷ ps) ≡ piece a xs ∷ qs)
head_by a b p ps true = (b ∷ [], p ∷ ps, refl)
head_by a b p ps false = (b ∷ p.bytes, ps, refl)

pub head_of : (a b : ℕ) (ps : List Piece) → (xs : List ℕ) × (qs : List Piece) × (before a b ps ≡ piece a xs ∷ qs)
head_of a b [] = (b ∷ [], [], refl)
head_of a b (p ∷ ps) = head_by a b p ps (p.base % 16 == 0)

-- before a record that begins at a multiple of 16 a byte stands alone, and else in it
alone : (a b : ℕ) (xs : List ℕ) (qs : List Piece) (t : Bool) → t ≡ true → cond t (piece a (b ∷ []) ∷ piece (a + 1) xs ∷ qs) (piece a (b ∷ xs) ∷ qs) ≡ piece a (b ∷ []) ∷ piece (a + 1) xs ∷ qs
alone a b xs qs true e = refl
alone a b xs qs false e = absurd cc

within : (a b : ℕ) (xs : List ℕ) (qs : List Piece) (t : Bool) → t ≡ false → cond t (piece a (b ∷ []) ∷ piece (a + 1) xs ∷ qs) (piece a (b ∷ xs) ∷ qs) ≡ piece a (b ∷ xs) ∷ qs
within a b xs qs true e = absurd cc
within a b xs qs false e = refl

-- the record ends with the bytes, or before a multiple of 16
abbrev pub Ends : ℕ → List ℕ → ℕ → Type 0
Ends a bs n = (n ≡ length bs) ⊎ ((a + n + 1) % 16 ≡ 0)

last_row : (a b : ℕ) (bs : List ℕ) → (a + 1) % 16 ≡ 0 → rows a (b ∷ bs) ≡ piece a (b ∷ []) ∷ rows (a + 1) bs
last_row a b [] h = refl
last_row a b (c ∷ cs) h =
    let r = head_of (a + 1) c (rows (a + 1 + 1) cs) in
    let t : ((a + 1) % 16 == 0) ≡ true = grind arith in
    ap (before a b) r.2 ∙ alone a b r.0 r.1 ((a + 1) % 16 == 0) t ∙ ap (λ (qs : List Piece). piece a (b ∷ []) ∷ qs) (sym r.2)

pub first_row : (n a b : ℕ) (bs : List ℕ) → a % 16 + n < 16 → n ≤ length bs → Ends a bs n → rows a (b ∷ bs) ≡ piece a (b ∷ take n bs) ∷ rows (a + n + 1) (drop n bs)
first_row zero a b bs low h (inl e) = ends bs e
  where
    ends : (cs : List ℕ) → 0 ≡ length cs → rows a (b ∷ cs) ≡ piece a (b ∷ []) ∷ rows (a + 0 + 1) cs
    ends [] i = refl
    ends (c ∷ cs) i = absurd (omega arith)
first_row zero a b bs low h (inr e) =
    let same : a + 1 ≡ a + 0 + 1 = omega arith in
    last_row a b bs (omega arith) ∙ ap (λ (k : ℕ). piece a (b ∷ []) ∷ rows k bs) same
first_row (suc m) a b [] low h ends = absurd (omega arith)
first_row (suc m) a b (c ∷ cs) low h ends =
    let rest : Ends (a + 1) cs m = elim ends [ inl e ↦ inl (omega arith) | inr e ↦ inr (omega arith) ] in
    let ih = first_row m (a + 1) c cs (omega arith) (omega arith) rest in
    let t : ((a + 1) % 16 == 0) ≡ false = grind arith in
    let same : a + 1 + m + 1 ≡ a + suc m + 1 = omega arith in
    ap (before a b) ih ∙ within a b (c ∷ take m cs) (rows (a + 1 + m + 1) (drop m cs)) ((a + 1) % 16 == 0) t
    ∙ ap (λ (k : ℕ). piece a (b ∷ c ∷ take m cs) ∷ rows k (drop m cs)) same

-- the first record of some bytes has so many
pub row_of : (a : ℕ) (bs : List ℕ) (n : ℕ) → 0 < n → n ≤ length bs → n + a % 16 ≤ 16 → (n ≡ length bs) ⊎ (n + a % 16 ≡ 16) → rows a bs ≡ piece a (take n bs) ∷ rows (a + n) (drop n bs)
row_of a [] n some h short ends = absurd (omega arith)
row_of a (b ∷ bs) zero some h short ends = absurd (omega arith)
row_of a (b ∷ bs) (suc m) some h short ends =
    let rest : Ends a bs m = elim ends [ inl e ↦ inl (omega arith) | inr e ↦ inr (omega arith) ] in
    let same : a + m + 1 ≡ a + suc m = omega arith in
    first_row m a b bs (omega arith) (omega arith) rest ∙ ap (λ (k : ℕ). piece a (b ∷ take m bs) ∷ rows k (drop m bs)) same

-- as many as are left, or up to the next multiple of 16
pub row_of_least : (a : ℕ) (bs : List ℕ) (n : ℕ) → 0 < length bs → n ≡ min (length bs) (16 - a % 16) → rows a bs ≡ piece a (take n bs) ∷ rows (a + n) (drop n bs)
row_of_least a bs n some e = elim (cases_lt (length bs) (16 - a % 16)) [
  | inl less ↦ row_of a bs n (omega arith) (omega arith) (omega arith) (inl (omega arith))
  | inr more ↦ row_of a bs n (omega arith) (omega arith) (omega arith) (inr (omega arith))
]
