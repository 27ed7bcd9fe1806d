-- A piece cut into records tells the same, and its records meet neither each other nor those of other pieces.
use Rattle.std.proofs.Common.{◌≡◌, ◌∙◌, ℕ, zero, suc, ◌+◌, ◌-◌, ◌%◌, ◌^◌, ◌<◌, ◌≤◌, ◌⊎◌, inl, inr, List, [], ◌∷◌, ◌++◌, length, take, drop, Bool, true, false, cond, ◌==◌, ◌&&◌, ◌||◌, nat_lt, Option, Some, refl, sym, ap, subst, arith, length-drop, length-take-le}
use Rattle.std.specs.Prelude.{slice_index}
use Rattle.std.specs.List.{AllByRecursion, list_any}
use Rattle.std.proofs.lemmas.Bool.{cases_eq, cases_lt, cond-true, cond-false, ltb-true}
use Rattle.std.proofs.lemmas.List.Folds.{list_any-append}
use Rattle.hex.specs.Hex.{IsBytes}
use Rattle.hex_image.specs.declared.records.Piece.{Piece}
use Rattle.hex_image.specs.Images.{AreApart, EachApart, end_of, holds, meets, piece, told}
use Rattle.hex_image.specs.Writing.{before, rows, rows_of}
use Rattle.hex_image.proofs.BackLemmas.{AreNew, IsRow}
use Rattle.hex_image.proofs.RowLemmas.{head_of, row_of}

-- ---- what is told

-- the byte of a piece, or what is told behind it
abbrev byte_or : Option ℕ → ℕ → List ℕ → ℕ → Option ℕ
byte_or other a bs x = cond (holds x (piece a bs)) (Some (slice_index bs (x - a))) other

holds_iff : (a x : ℕ) (bs : List ℕ) → ((a ≤ x) × (x < a + length bs)) ⊎ ((x < a) ⊎ (a + length bs ≤ x))
holds_iff a x bs = elim (cases_lt x a) [
  | inl below ↦ inr (inl below)
  | inr from ↦ elim (cases_lt x (a + length bs)) [
    | inl inside ↦ inl (from, inside)
    | inr beyond ↦ inr (inr beyond)
  ]
]

inside : (a x : ℕ) (bs : List ℕ) → a ≤ x → x < a + length bs → holds x (piece a bs) ≡ true
inside a x bs from below = grind arith

outside_low : (a x : ℕ) (bs : List ℕ) → x < a → holds x (piece a bs) ≡ false
outside_low a x bs h = grind arith

outside_high : (a x : ℕ) (bs : List ℕ) → a + length bs ≤ x → holds x (piece a bs) ≡ false
outside_high a x bs h = grind arith

in_byte : (other : Option ℕ) (a x : ℕ) (bs : List ℕ) → a ≤ x → x < a + length bs → byte_or other a bs x ≡ Some (slice_index bs (x - a))
in_byte other a x bs from below = cond-true (holds x (piece a bs)) (Some (slice_index bs (x - a))) other (inside a x bs from below)

not_byte : (other : Option ℕ) (a x : ℕ) (bs : List ℕ) → holds x (piece a bs) ≡ false → byte_or other a bs x ≡ other
not_byte other a x bs h = cond-false (holds x (piece a bs)) (Some (slice_index bs (x - a))) other h

-- the first byte by itself, and then the others
split_byte : (other : Option ℕ) (a b : ℕ) (bs : List ℕ) (x : ℕ) → byte_or other a (b ∷ bs) x ≡ byte_or (byte_or other (a + 1) bs x) a (b ∷ []) x
split_byte other a b bs x = elim (cases_lt x a) [
  | inl below ↦
      not_byte other a x (b ∷ bs) (outside_low a x (b ∷ bs) below)
      ∙ sym (not_byte other (a + 1) x bs (outside_low (a + 1) x bs (omega arith)))
      ∙ sym (not_byte (byte_or other (a + 1) bs x) a x (b ∷ []) (outside_low a x (b ∷ []) below))
  | inr from ↦ elim (cases_eq x a) [
    | inl here ↦
        let none : x - a ≡ 0 = omega arith in
        in_byte other a x (b ∷ bs) from (omega arith)
        ∙ ap (λ (i : ℕ). Some (slice_index (b ∷ bs) i)) none
        ∙ sym (in_byte (byte_or other (a + 1) bs x) a x (b ∷ []) from (omega arith) ∙ ap (λ (i : ℕ). Some (slice_index (b ∷ []) i)) none)
    | inr there ↦
        let next : x - a ≡ suc (x - (a + 1)) = omega arith in
        elim (cases_lt x (a + 1 + length bs)) [
          | inl in_rest ↦
              in_byte other a x (b ∷ bs) from (omega arith)
              ∙ ap (λ (i : ℕ). Some (slice_index (b ∷ bs) i)) next
              ∙ sym (in_byte other (a + 1) x bs (omega arith) in_rest)
              ∙ sym (not_byte (byte_or other (a + 1) bs x) a x (b ∷ []) (outside_high a x (b ∷ []) (omega arith)))
          | inr beyond ↦
              not_byte other a x (b ∷ bs) (outside_high a x (b ∷ bs) (omega arith))
              ∙ sym (not_byte other (a + 1) x bs (outside_high (a + 1) x bs (omega arith)))
              ∙ sym (not_byte (byte_or other (a + 1) bs x) a x (b ∷ []) (outside_high a x (b ∷ []) (omega arith)))
        ]
  ]
]

no_byte : (other : Option ℕ) (a x : ℕ) → byte_or other a [] x ≡ other
no_byte other a x = elim (cases_lt x a) [
  | inl below ↦ not_byte other a x [] (outside_low a x [] below)
  | inr from ↦ not_byte other a x [] (outside_high a x [] (omega arith))
]

-- a byte before records tells itself
told_by : (a b x : ℕ) (xs : List ℕ) (qs more : List Piece) (t : Bool)
    → told (cond t (piece a (b ∷ []) ∷ piece (a + 1) xs ∷ qs) (piece a (b ∷ xs) ∷ qs) ++ more) x ≡ byte_or (told ((piece (a + 1) xs ∷ qs) ++ more) x) a (b ∷ []) x
told_by a b x xs qs more true = refl
told_by a b x xs qs more false = split_byte (told (qs ++ more) x) a b xs x

pub told_rows : (a : ℕ) (bs : List ℕ) (more : List Piece) (x : ℕ) → told (rows a bs ++ more) x ≡ byte_or (told more x) a bs x
told_rows a [] more x = sym (no_byte (told more x) a x)
told_rows a (b ∷ []) more x = refl
told_rows a (b ∷ c ∷ cs) more x =
    let r = head_of (a + 1) c (rows (a + 1 + 1) cs) in
    ap (λ (ps : List Piece). told (before a b ps ++ more) x) r.2
    ∙ told_by a b x r.0 r.1 more ((a + 1) % 16 == 0)
    ∙ ap (λ (ps : List Piece). byte_or (told (ps ++ more) x) a (b ∷ []) x) (sym r.2)
    ∙ ap (λ (o : Option ℕ). byte_or o a (b ∷ []) x) (told_rows (a + 1) (c ∷ cs) more x)
    ∙ sym (split_byte (told more x) a b (c ∷ cs) x)

pub told_same : (ps : List Piece) (x : ℕ) → told (rows_of ps) x ≡ told ps x
told_same [] x = refl
told_same (p ∷ ps) x = told_rows p.base p.bytes (rows_of ps) x ∙ ap (λ (o : Option ℕ). byte_or o p.base p.bytes x) (told_same ps x)

-- ---- what is apart

and_parts : (a b : Bool) → (a && b) ≡ true → (a ≡ true) × (b ≡ true)
and_parts true b e = (refl, e)
and_parts false b e = absurd cc

-- two pieces with bytes that meet share an address
shared : (p q : Piece) → 0 < length p.bytes → 0 < length q.bytes → meets p q ≡ true → (a : ℕ) × (holds a p ≡ true) × (holds a q ≡ true)
shared p q some others e =
    let parts = and_parts (nat_lt p.base (end_of q)) (nat_lt q.base (end_of p)) e in
    let first = ltb-true p.base (end_of q) parts.0 in
    let second = ltb-true q.base (end_of p) parts.1 in
    elim (cases_lt p.base q.base) [
      | inl below ↦ (q.base, inside p.base q.base p.bytes (omega arith) second, inside q.base q.base q.bytes (omega arith) (omega (arith, others)))
      | inr from ↦ (p.base, inside p.base p.base p.bytes (omega arith) (omega (arith, some)), inside q.base p.base q.bytes (omega arith) first)
    ]

-- every piece has bytes
abbrev pub AreSome : List Piece → Type 0
AreSome ps = AllByRecursion (λ p. 0 < length p.bytes) ps

-- no address of the piece is in the others
abbrev pub IsFree : Piece → List Piece → Type 0
IsFree p ps = (a : ℕ) → holds a p ≡ true → list_any (holds a) ps ≡ false

neither : (a b : Bool) → (a || b) ≡ false → (a ≡ false) × (b ≡ false)
neither true b e = absurd cc
neither false b e = (refl, e)

either_fails : (a b : Bool) → a ≡ false → b ≡ false → (a || b) ≡ false
either_fails true b e f = absurd cc
either_fails false b e f = f

pub free_unmet : (p : Piece) (ps : List Piece) → 0 < length p.bytes → AreSome ps → IsFree p ps → list_any (meets p) ps ≡ false
free_unmet p [] some others free = refl
free_unmet p (q ∷ qs) some others free =
    either_fails (meets p q) (list_any (meets p) qs) (by (meets p q) refl)
    (free_unmet p qs some others.1 (λ a h. (neither (holds a q) (list_any (holds a) qs) (free a h)).1))
  where
    by : (t : Bool) → meets p q ≡ t → t ≡ false
    by false e = refl
    by true e =
        let s = shared p q some others.0 e in
        let n = neither (holds s.0 q) (list_any (holds s.0) qs) (free s.0 s.1) in
        let no = n.0 in let yes = s.2 in absurd (cc)

-- ---- the records of a piece

slice_of : (bs : List ℕ) (n : ℕ) → IsBytes bs → IsBytes (take n bs)
slice_of [] zero h i = omega arith
slice_of [] (suc n) h i = omega arith
slice_of (b ∷ bs) zero h i = omega arith
slice_of (b ∷ bs) (suc n) h zero = h 0
slice_of (b ∷ bs) (suc n) h (suc i) = slice_of bs n (λ k. h (suc k)) i

rest_of : (bs : List ℕ) (n : ℕ) → IsBytes bs → IsBytes (drop n bs)
rest_of bs zero h = h
rest_of [] (suc n) h = h
rest_of (b ∷ bs) (suc n) h = rest_of bs n (λ k. h (suc k))

-- how many bytes the first record has
row_size : (a : ℕ) (bs : List ℕ) → 0 < length bs → (n : ℕ) × (0 < n) × (n ≤ length bs) × (n + a % 16 ≤ 16) × ((n ≡ length bs) ⊎ (n + a % 16 ≡ 16))
row_size a bs some = elim (cases_lt (length bs) (16 - a % 16)) [
  | inl less ↦ (length bs, some, omega arith, omega arith, inl refl)
  | inr more ↦ (16 - a % 16, omega arith, more, omega arith, inr (omega arith))
]

-- one more piece with bytes
pub some_more : (ps : List Piece) (p : Piece) → AreSome ps → 0 < length p.bytes → AreSome (ps ++ p ∷ [])
some_more [] p h k = (k, tt)
some_more (q ∷ qs) p h k = (h.0, some_more qs p h.1 k)

-- where an address of a piece lies
bounds : (a x : ℕ) (bs : List ℕ) → holds x (piece a bs) ≡ true → (a ≤ x) × (x < a + length bs)
bounds a x bs e = elim (holds_iff a x bs) [
  | inl is ↦ is
  | inr out ↦ elim out [
    | inl low ↦ let f = outside_low a x bs low in absurd (cc)
    | inr high ↦ let f = outside_high a x bs high in absurd (cc)
  ]
]

pub parts_of : (a : ℕ) (p : Piece) → holds a p ≡ true → (p.base ≤ a) × (a < end_of p)
parts_of a p e = bounds p.base a p.bytes e

-- what is read with the records of a piece, and then with others, is what all bring
pub new_rows : (most a : ℕ) (bs : List ℕ) (old more : List Piece) → length bs ≤ most → IsBytes bs → a + length bs ≤ 2 ^ 32 → AreSome old → IsFree (piece a bs) old
    → ((new : List Piece) → AreSome new → ((x : ℕ) → list_any (holds x) new ≡ (list_any (holds x) old || holds x (piece a bs))) → AreNew new more) → AreNew old (rows a bs ++ more)
new_rows most a [] old more few h space some free next =
    next old some (λ x. sym (alone (list_any (holds x) old) (holds x (piece a [])) (empty a x)))
  where
    alone : (s t : Bool) → t ≡ false → (s || t) ≡ s
    alone true t e = refl
    alone false t e = e

    empty : (a x : ℕ) → holds x (piece a []) ≡ false
    empty a x = elim (cases_lt x a) [ inl below ↦ outside_low a x [] below | inr from ↦ outside_high a x [] (omega arith) ]
new_rows zero a (b ∷ bs) old more few h space some free next = absurd (omega arith)
new_rows (suc m) a (b ∷ bs) old more few h space some free next =
    let all = b ∷ bs in
    let r = row_size a all (omega arith) in
    let n = r.0 in
    let p = piece a (take n all) in
    let rest = drop n all in
    let taken : length (take n all) ≡ n = length-take-le n all r.2 in
    let left = length-drop n all in
    let row : IsRow p = record {
      some = omega (arith, taken, r.1);
      short = omega (arith, taken, r.3);
      are_bytes = slice_of all n h;
      in_space = omega (arith, taken, r.2, space);
    } in
    let free_first : IsFree p old = λ x e. free x (first_in a all n x r.2 e) in
    subst (λ (rs : List Piece). AreNew old (rs ++ more)) (sym (row_of a all n r.1 r.2 r.3 r.4)) (
      row,
      free_unmet p old row.some some free_first,
      new_rows m (a + n) rest (old ++ p ∷ []) more (omega (arith, left, few, r.1)) (rest_of all n h) (omega (arith, left, space, r.2)) (some_more old p some row.some)
          (λ x e. either_more old p x (free x (rest_in a all n x r.2 e)) (first_not_rest a all n x r.2 e))
          (λ new some' same. next new some' (λ x. same x ∙ joined old a all n x r.2)),
    )
  where
    any_more : (ps : List Piece) (p : Piece) (x : ℕ) → list_any (holds x) (ps ++ p ∷ []) ≡ (list_any (holds x) ps || (holds x p || false))
    any_more ps p x = list_any-append (holds x) ps (p ∷ [])

    none_of : (s t : Bool) → s ≡ false → t ≡ false → (s || (t || false)) ≡ false
    none_of true t e f = absurd cc
    none_of false true e f = absurd cc
    none_of false false e f = refl

    either_more : (ps : List Piece) (p : Piece) (x : ℕ) → list_any (holds x) ps ≡ false → holds x p ≡ false → list_any (holds x) (ps ++ p ∷ []) ≡ false
    either_more ps p x e f = any_more ps p x ∙ none_of (list_any (holds x) ps) (holds x p) e f

    first_in : (a : ℕ) (bs : List ℕ) (n x : ℕ) → n ≤ length bs → holds x (piece a (take n bs)) ≡ true → holds x (piece a bs) ≡ true
    first_in a bs n x le e =
        let k = bounds a x (take n bs) e in
        inside a x bs k.0 (omega (arith, k.1, length-take-le n bs le))

    rest_in : (a : ℕ) (bs : List ℕ) (n x : ℕ) → n ≤ length bs → holds x (piece (a + n) (drop n bs)) ≡ true → holds x (piece a bs) ≡ true
    rest_in a bs n x le e =
        let k = bounds (a + n) x (drop n bs) e in
        inside a x bs (omega (arith, k.0)) (omega (arith, k.1, length-drop n bs))

    first_not_rest : (a : ℕ) (bs : List ℕ) (n x : ℕ) → n ≤ length bs → holds x (piece (a + n) (drop n bs)) ≡ true → holds x (piece a (take n bs)) ≡ false
    first_not_rest a bs n x le e =
        let k = bounds (a + n) x (drop n bs) e in
        outside_high a x (take n bs) (omega (arith, k.0, length-take-le n bs le))

    -- an address of the bytes is one of the first or of the rest
    parted : (a : ℕ) (bs : List ℕ) (n x : ℕ) → n ≤ length bs → (holds x (piece a (take n bs)) || holds x (piece (a + n) (drop n bs))) ≡ holds x (piece a bs)
    parted a bs n x le =
        let taken = length-take-le n bs le in
        let left = length-drop n bs in
        elim (cases_lt x (a + n)) [
          | inl front ↦ elim (cases_lt x a) [
            | inl low ↦ rw (outside_low a x (take n bs) low, outside_low (a + n) x (drop n bs) (omega arith), outside_low a x bs low) refl
            | inr from ↦ rw (inside a x (take n bs) from (omega (arith, taken)), inside a x bs from (omega arith)) refl
          ]
          | inr back ↦ elim (cases_lt x (a + length bs)) [
            | inl is ↦ rw (outside_high a x (take n bs) (omega (arith, taken)), inside (a + n) x (drop n bs) back (omega (arith, left)), inside a x bs (omega arith) is) refl
            | inr high ↦ rw (outside_high a x (take n bs) (omega (arith, taken)), outside_high (a + n) x (drop n bs) (omega (arith, left)), outside_high a x bs high) refl
          ]
        ]

    regroup : (s t u : Bool) → ((s || (t || false)) || u) ≡ (s || (t || u))
    regroup true t u = refl
    regroup false true u = refl
    regroup false false u = refl

    joined : (ps : List Piece) (a : ℕ) (bs : List ℕ) (n x : ℕ) → n ≤ length bs
        → (list_any (holds x) (ps ++ piece a (take n bs) ∷ []) || holds x (piece (a + n) (drop n bs))) ≡ (list_any (holds x) ps || holds x (piece a bs))
    joined ps a bs n x le =
        ap (λ (s : Bool). s || holds x (piece (a + n) (drop n bs))) (any_more ps (piece a (take n bs)) x)
        ∙ regroup (list_any (holds x) ps) (holds x (piece a (take n bs))) (holds x (piece (a + n) (drop n bs)))
        ∙ ap (λ (s : Bool). list_any (holds x) ps || s) (parted a bs n x le)

pub apart_free : (p : Piece) (front : List Piece) (a : ℕ) → AllByRecursion (AreApart p) front → holds a p ≡ true → list_any (holds a) front ≡ false
apart_free p [] a h e = refl
apart_free p (q ∷ qs) a h e = either_fails (holds a q) (list_any (holds a) qs) (by (holds a q) refl) (apart_free p qs a h.1 e)
  where
    by : (t : Bool) → holds a q ≡ t → t ≡ false
    by false f = refl
    by true f = absurd (h.0 a e f)

-- the records of pieces that are apart are new one by one
pub rows_new : (ps old front : List Piece) → AreSome old → ((x : ℕ) → list_any (holds x) old ≡ list_any (holds x) front) → EachApart front ps
    → AllByRecursion (λ p. IsBytes p.bytes) ps → AllByRecursion (λ p. end_of p ≤ 2 ^ 32) ps → AreNew old (rows_of ps)
rows_new [] old front some same apart bytes space = tt
rows_new (p ∷ ps) old front some same apart bytes space =
    new_rows (length p.bytes) p.base p.bytes old (rows_of ps) (omega arith) bytes.0 space.0 some
    (λ a e. same a ∙ apart_free p front a apart.0 e)
    (λ new some' same'. rows_new ps new (front ++ p ∷ []) some' (λ x. same' x ∙ with_front x) apart.1 bytes.1 space.1)
  where
    last : (s t : Bool) → (s || t) ≡ (s || (t || false))
    last true t = refl
    last false true = refl
    last false false = refl

    with_front : (x : ℕ) → (list_any (holds x) old || holds x p) ≡ list_any (holds x) (front ++ p ∷ [])
    with_front x =
        ap (λ (s : Bool). s || holds x p) (same x) ∙ last (list_any (holds x) front) (holds x p) ∙ sym (list_any-append (holds x) front (p ∷ []))
