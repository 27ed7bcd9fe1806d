-- A text cut at a byte, and at each.
use Rattle.std.proofs.Common.{◌≡◌, ◌∙◌, ℕ, suc, ◌+◌, ◌<◌, ◌≤◌, List, [], ◌∷◌, ◌++◌, length, take, drop, Bool, true, false, cond, ◌==◌, not, nat_lt, Option, Some, None, option_map, MatchOption, refl, ap, sym, subst, arith, eq-eqb, eqb-true, lt-ltb, ltb-true, ltb-false, le-ltb, append_assoc}
use Rattle.std.specs.List.{position, position_or_len, slice_split, onto_first, AllByRecursion, join_with_byte, flat_map}
use Rattle.std.proofs.lemmas.Bool.{and_parts}
use Rattle.bin_image.specs.Fields.{lacks, cut}
use Rattle.bin_image.specs.Maps.{ended}
use Rattle.base_lemmas.proofs.BaseLemmas.{same}

abbrev pub Pair : Type 0
Pair = List ℕ × List ℕ

abbrev onto : ℕ → Pair → Pair
onto x q = (x ∷ q.0, q.1)

pub not_true : (b : Bool) → not b ≡ true → b ≡ false
not_true true h = absurd (cc)
not_true false h = refl

pub cut_at : (c : ℕ) (a r : List ℕ) → lacks c a ≡ true → cut c (a ++ c ∷ r) ≡ Some (a, r)
cut_at c [] r h = let e = eq-eqb c c refl in rw e refl
cut_at c (x ∷ xs) r h =
    let parts = and_parts (not (x == c)) (lacks c xs) h in
    rw (not_true (x == c) parts.0, cut_at c xs r parts.1) refl

pub record IsCut (c : ℕ) (t : List ℕ) (p : Pair) : Type 0 where
  pub whole : t ≡ p.0 ++ c ∷ p.1
  pub first : lacks c p.0 ≡ true

pub cut_is : (c : ℕ) (t : List ℕ) (p : Pair) → cut c t ≡ Some p → IsCut c t p
cut_is c [] p h = absurd (cc)
cut_is c (x ∷ xs) p h = by_test (λ q k. cut_is c xs q k) (x == c) refl (cut c xs) refl h where
  by_test : ((q : Pair) → cut c xs ≡ Some q → IsCut c xs q) → (b : Bool) → (x == c) ≡ b → (o : Option Pair) → cut c xs ≡ o
      → cond {A = Option Pair} b (Some ([], xs)) (option_map (onto x) o) ≡ Some p → IsCut c (x ∷ xs) p
  by_test more true e o eo k =
      subst (λ q. IsCut c (x ∷ xs) q) (same ([], xs) p k) (record { whole = ap (λ y. y ∷ xs) (eqb-true x c e); first = refl })
  by_test more false e None eo k = absurd (cc)
  by_test more false e (Some q) eo k =
      let i = more q eo in
      subst (λ r. IsCut c (x ∷ xs) r) (same (x ∷ q.0, q.1) p k) (record { whole = ap (λ ys. x ∷ ys) i.whole; first = rw (e, i.first) refl })

-- the cut, by the answer of a search for the byte
cut_from : (c : ℕ) (t : List ℕ) → cut c t ≡ cond (nat_lt (position_or_len (λ b. b == c) t) (length t)) (Some (take (position_or_len (λ b. b == c) t) t, drop (position_or_len (λ b. b == c) t + 1) t)) None
cut_from c [] = refl
cut_from c (x ∷ xs) = by_test (cut_from c xs) (x == c) refl where
  at : ℕ
  at = position_or_len (λ b. b == c) xs

  inside : (b : Bool) → nat_lt at (length xs) ≡ b → option_map (onto x) (cond {A = Option Pair} b (Some (take at xs, drop (at + 1) xs)) None)
      ≡ cond (nat_lt (1 + at) (length (x ∷ xs))) (Some (take (1 + at) (x ∷ xs), drop (1 + at + 1) (x ∷ xs))) None
  inside true l =
      let low : at < length xs = ltb-true _ _ l in
      let up : nat_lt (1 + at) (length (x ∷ xs)) ≡ true = lt-ltb _ _ (omega arith) in
      let one : 1 + at ≡ suc at = omega arith in
      let two : suc at + 1 ≡ suc (at + 1) = omega arith in
      rw (up, one, two) refl
  inside false l =
      let past : length xs ≤ at = ltb-false _ _ l in
      let up : nat_lt (1 + at) (length (x ∷ xs)) ≡ false = le-ltb _ _ (omega arith) in
      rw up refl

  by_test : cut c xs ≡ cond (nat_lt at (length xs)) (Some (take at xs, drop (at + 1) xs)) None → (b : Bool) → (x == c) ≡ b
      → cond {A = Option Pair} b (Some ([], xs)) (option_map (onto x) (cut c xs))
      ≡ cond (nat_lt (cond (not b) (1 + at) 0) (length (x ∷ xs))) (Some (take (cond (not b) (1 + at) 0) (x ∷ xs), drop (cond (not b) (1 + at) 0 + 1) (x ∷ xs))) None
  by_test more true e = let up : nat_lt 0 (length (x ∷ xs)) ≡ true = lt-ltb _ _ (omega arith) in rw up refl
  by_test more false e = ap (option_map (onto x)) more ∙ inside (nat_lt at (length xs)) refl

pub cut_by : (c : ℕ) (t : List ℕ) (o : Option ℕ) → o ≡ position (λ b. b == c) t → MatchOption o (cut c t ≡ None) (λ at. cut c t ≡ Some (take at t, drop (at + 1) t))
cut_by c t o e = rw e (by_test (nat_lt (position_or_len (λ b. b == c) t) (length t)) refl) where
  at : ℕ
  at = position_or_len (λ b. b == c) t

  by_test : (b : Bool) → nat_lt at (length t) ≡ b → MatchOption (cond b (Some at) None) (cut c t ≡ None) (λ at. cut c t ≡ Some (take at t, drop (at + 1) t))
  by_test true h = cut_from c t ∙ rw h refl
  by_test false h = cut_from c t ∙ rw h refl

-- ---- all cuts

pub pieces_at : (c : ℕ) (a r : List ℕ) → lacks c a ≡ true → slice_split (λ b. b == c) (a ++ c ∷ r) ≡ a ∷ slice_split (λ b. b == c) r
pieces_at c [] r h = let e = eq-eqb c c refl in rw e refl
pieces_at c (x ∷ xs) r h =
    let parts = and_parts (not (x == c)) (lacks c xs) h in
    rw (not_true (x == c) parts.0, pieces_at c xs r parts.1) refl

pub pieces_none : (c : ℕ) (t : List ℕ) → cut c t ≡ None → slice_split (λ b. b == c) t ≡ t ∷ []
pieces_none c [] h = refl
pieces_none c (x ∷ xs) h = by_test (λ k. pieces_none c xs k) (x == c) refl (cut c xs) refl h where
  by_test : (cut c xs ≡ None → slice_split (λ b. b == c) xs ≡ xs ∷ []) → (b : Bool) → (x == c) ≡ b → (o : Option Pair) → cut c xs ≡ o
      → cond {A = Option Pair} b (Some ([], xs)) (option_map (onto x) o) ≡ None → slice_split (λ b. b == c) (x ∷ xs) ≡ (x ∷ xs) ∷ []
  by_test more true e o eo k = absurd (cc)
  by_test more false e None eo k = rw (e, more eo) refl
  by_test more false e (Some q) eo k = absurd (cc)

-- no piece has the byte
pub pieces_lack : (c : ℕ) (t : List ℕ) → AllByRecursion (λ p. lacks c p ≡ true) (slice_split (λ b. b == c) t)
pieces_lack c [] = (refl, tt)
pieces_lack c (x ∷ xs) = by_test (x == c) refl (slice_split (λ b. b == c) xs) (pieces_lack c xs) where
  by_test : (b : Bool) → (x == c) ≡ b → (ps : List (List ℕ)) → AllByRecursion (λ p. lacks c p ≡ true) ps
      → AllByRecursion (λ p. lacks c p ≡ true) (cond b ([] ∷ ps) (onto_first x ps))
  by_test true e ps h = (refl, h)
  by_test false e [] h = (rw e refl, tt)
  by_test false e (p ∷ ps) h = (rw (e, h.0) refl, h.1)

-- ---- lines joined

joined_more : (line : List ℕ) (ls : List (List ℕ)) (x : List ℕ) (xs : List (List ℕ)) → join_with_byte 10 (line ∷ (ls ++ x ∷ xs)) ≡ line ++ (10 ∷ join_with_byte 10 (ls ++ x ∷ xs))
joined_more line [] x xs = refl
joined_more line (l ∷ ls) x xs = refl

-- lines with their line feeds, and what stands behind them
pub joined : (ls : List (List ℕ)) (x : List ℕ) (xs : List (List ℕ)) → join_with_byte 10 (ls ++ x ∷ xs) ≡ flat_map ended ls ++ join_with_byte 10 (x ∷ xs)
joined [] x xs = refl
joined (l ∷ ls) x xs =
    joined_more l ls x xs ∙ ap (λ t. l ++ (10 ∷ t)) (joined ls x xs)
    ∙ sym (append_assoc l (10 ∷ []) (flat_map ended ls ++ join_with_byte 10 (x ∷ xs)))
    ∙ sym (append_assoc (ended l) (flat_map ended ls) (join_with_byte 10 (x ∷ xs)))

-- the pieces of lines with their line feeds
pub pieces_of_lines : (ls : List (List ℕ)) (rest : List ℕ) → AllByRecursion (λ p. lacks 10 p ≡ true) ls → slice_split (λ b. b == 10) (flat_map ended ls ++ rest) ≡ ls ++ slice_split (λ b. b == 10) rest
pieces_of_lines [] rest h = refl
pieces_of_lines (l ∷ ls) rest h =
    ap (slice_split (λ b. b == 10)) (append_assoc (ended l) (flat_map ended ls) rest ∙ append_assoc l (10 ∷ []) (flat_map ended ls ++ rest))
    ∙ pieces_at 10 l (flat_map ended ls ++ rest) h.0 ∙ ap (λ ps. l ∷ ps) (pieces_of_lines ls rest h.1)
