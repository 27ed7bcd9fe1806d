-- Gaps and parts at the front of a text.
use Rattle.std.proofs.Common.{◌≡◌, ℕ, suc, ◌+◌, ◌≤◌, List, [], ◌∷◌, take, drop, Bool, true, false, cond, not, ◌&&◌, refl, ap, sym, subst, arith, eqb-true}
use Rattle.std.specs.Prelude.{◌==◌}
use Rattle.std.specs.List.{prefix_len}
use Rattle.base_lemmas.proofs.BaseLemmas.{both_true}
use Rattle.scatter_text.specs.Parts.{Part, is_name_byte, is_gap, joins, opened, put, goes_on, line_behind, parts, part_len}

abbrev pub is_line : ℕ → Bool
is_line b = not (b == 10)

-- ---- comments

comment_is : (depth line : ℕ) (bs : List ℕ) → parts true depth line bs ≡ parts false depth line (drop (prefix_len is_line bs) bs)
comment_is depth line [] = refl
comment_is depth line (b ∷ bs) = by_feed (b == 10) refl (comment_is depth line bs) where
  by_feed : (t : Bool) → (b == 10) ≡ t → parts true depth line bs ≡ parts false depth line (drop (prefix_len is_line bs) bs)
      → parts true depth line (b ∷ bs) ≡ parts false depth line (drop (prefix_len is_line (b ∷ bs)) (b ∷ bs))
  by_feed true e more =
      let P : ℕ → Type 0 = λ c. parts true depth line (c ∷ bs) ≡ parts false depth line (drop (prefix_len is_line (c ∷ bs)) (c ∷ bs)) in
      subst P (sym (eqb-true b 10 e)) refl
  by_feed false e more = let s : 1 + prefix_len is_line bs ≡ suc (prefix_len is_line bs) = omega arith in rw (e, s) more

-- ---- gaps

and_false : (x : Bool) → (x && false) ≡ false
and_false true = refl
and_false false = refl

-- a byte of a gap is no brace
gap_depth : (depth b : ℕ) (bs : List ℕ) → is_gap false b bs ≡ true → opened depth b ≡ depth
gap_depth depth b bs gap = by_open (b == 123) refl where
  by_close : (t : Bool) → (b == 125) ≡ t → (b == 123) ≡ false → opened depth b ≡ depth
  by_close true e other = let h : is_gap false 125 bs ≡ true = subst (λ c. is_gap false c bs ≡ true) (eqb-true b 125 e) gap in absurd (cc)
  by_close false e other = rw (other, e) refl

  by_open : (t : Bool) → (b == 123) ≡ t → opened depth b ≡ depth
  by_open true e = let h : is_gap false 123 bs ≡ true = subst (λ c. is_gap false c bs ≡ true) (eqb-true b 123 e) gap in absurd (cc)
  by_open false e = by_close (b == 125) refl e

pub gap_is : (depth line b : ℕ) (bs : List ℕ) → is_gap false b bs ≡ true → parts false depth line (b ∷ bs) ≡ parts false depth (line_behind line b) (cond (b == 59) (drop (prefix_len is_line bs) bs) bs)
gap_is depth line b bs gap = rw (gap, gap_depth depth b bs gap) (by_comment (b == 59) refl) where
  by_comment : (t : Bool) → (b == 59) ≡ t → parts (not (b == 10) && t) depth (line_behind line b) bs ≡ parts false depth (line_behind line b) (cond t (drop (prefix_len is_line bs) bs) bs)
  by_comment true e =
      let P : ℕ → Type 0 = λ c. parts (not (c == 10) && true) depth (line_behind line c) bs ≡ parts false depth (line_behind line c) (drop (prefix_len is_line bs) bs) in
      subst P (sym (eqb-true b 59 e)) (comment_is depth line bs)
  by_comment false e = ap (λ t. parts t depth (line_behind line b) bs) (and_false (not (b == 10)))

pub line_grows : (line b : ℕ) → line_behind line b ≤ line + 1
line_grows line b = by_feed (b == 10) where
  by_feed : (t : Bool) → cond t (suc line) line ≤ line + 1
  by_feed true = omega arith
  by_feed false = omega arith

-- ---- parts

-- a byte of a name is of no gap, ends no line, and opens or closes nothing
record IsPlain (depth line b : ℕ) (bs : List ℕ) : Type 0 where
  visible : is_gap false b bs ≡ false
  depth_is : opened depth b ≡ depth
  line_is : line_behind line b ≡ line

plain : (depth line b : ℕ) (bs : List ℕ) → is_name_byte b ≡ true → IsPlain depth line b bs
plain depth line b bs named = record {
  visible = rw (other 10 refl, other 59 refl, other 32 refl, other 9 refl, other 13 refl) refl;
  depth_is = rw (other 123 refl, other 125 refl) refl;
  line_is = rw (other 10 refl) refl;
} where
  other : (c : ℕ) → is_name_byte c ≡ false → (b == c) ≡ false
  other c not_named = by_test (b == c) refl where
    by_test : (t : Bool) → (b == c) ≡ t → (b == c) ≡ false
    by_test false e = e
    by_test true e = let h : is_name_byte c ≡ true = subst (λ d. is_name_byte d ≡ true) (eqb-true b c e) named in absurd (cc)

-- what a part begins isn't the end of a line
visible_line : (line b : ℕ) (bs : List ℕ) → is_gap false b bs ≡ false → line_behind line b ≡ line
visible_line line b bs seen = by_feed (b == 10) refl where
  by_feed : (t : Bool) → (b == 10) ≡ t → line_behind line b ≡ line
  by_feed true e = let h : is_gap false 10 bs ≡ false = subst (λ c. is_gap false c bs ≡ false) (eqb-true b 10 e) seen in absurd (cc)
  by_feed false e = rw e refl

visible_comment : (b : ℕ) (bs : List ℕ) → is_gap false b bs ≡ false → goes_on false b ≡ false
visible_comment b bs seen = by_sign (b == 59) refl where
  by_sign : (t : Bool) → (b == 59) ≡ t → goes_on false b ≡ false
  by_sign true e = let h : is_gap false 59 bs ≡ false = subst (λ c. is_gap false c bs ≡ false) (eqb-true b 59 e) seen in absurd (cc)
  by_sign false e = rw e (and_false (not (b == 10)))

-- a rest that begins with a part, from a depth to the depth behind it
abbrev pub cut_from : ℕ → ℕ → ℕ → List ℕ → List Part
cut_from depth deep line text =
    record { line = line; text = take (part_len depth text) text } ∷ parts false deep line (drop (part_len depth text) text)

apart : (line b : ℕ) (ps : List Part) → put false line b ps ≡ record { line = line; text = b ∷ [] } ∷ ps
apart line b [] = refl
apart line b (p ∷ ps) = refl

pub cut_is : (bs : List ℕ) (depth line b : ℕ) → is_gap false b bs ≡ false → parts false depth line (b ∷ bs) ≡ cut_from depth (opened depth b) line (b ∷ bs)
cut_is [] depth line b seen = rw seen refl
cut_is (c ∷ cs) depth line b seen = by_join (joins depth b (c ∷ cs)) refl (λ s. cut_is cs depth line c s) where
  by_join : (t : Bool) → joins depth b (c ∷ cs) ≡ t
      → (is_gap false c cs ≡ false → parts false depth line (c ∷ cs) ≡ cut_from depth (opened depth c) line (c ∷ cs))
      → parts false depth line (b ∷ c ∷ cs) ≡ cut_from depth (opened depth b) line (b ∷ c ∷ cs)
  by_join false e more = rw (seen, e, visible_line line b (c ∷ cs) seen, visible_comment b (c ∷ cs) seen) (apart line b (parts false (opened depth b) line (c ∷ cs)))
  by_join true e more =
      let names = both_true (is_name_byte b && is_name_byte c) _ e in
      let each = both_true (is_name_byte b) (is_name_byte c) names.0 in
      let here = plain depth line b (c ∷ cs) each.0 in
      let next = plain depth line c cs each.1 in
      let s : 1 + part_len depth (c ∷ cs) ≡ suc (part_len depth (c ∷ cs)) = omega arith in
      rw (seen, e, here.line_is, visible_comment b (c ∷ cs) seen, here.depth_is, s, more next.visible, next.depth_is) refl
