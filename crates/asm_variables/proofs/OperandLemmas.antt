-- What stands behind an operation, byte by byte.
use Rattle.std.proofs.Common.{◌≡◌, ℕ, ◌+◌, ◌-◌, ◌≤◌, List, [], ◌∷◌, ◌++◌, Bool, true, false, length, take, drop, reverse, map, refl, sym, ◌∙◌, ap, arith, zero, suc, append-nil, append_assoc, length-drop}
use Rattle.std.proofs.lemmas.List.{reverse-append, reverse-reverse, length-reverse, take-append-drop}
use Rattle.std.proofs.Math.Seq.{take-append_seam}
use Rattle.std.specs.Prelude.{◌==◌, if◌then◌else◌, nat_lt, not}
use Rattle.std.specs.List.{prefix_len}
use Rattle.expand_model.specs.declared.standing.Standing.{Standing}
use Rattle.expand_model.specs.declared.standing.Standing.TheVariants.{Open, Quoted, Barred, Comment}
use Rattle.expand_model.specs.Standing.{Byte, standing, standing_from, begun_at, begins_character, bars_width, is_in_comment, before_comment}
use Rattle.expand_model.specs.Substitution.{plain}
use Rattle.asm_variables.specs.Operands.{uncommented, fronted, with_pieces}
use Rattle.expand_model.specs.Words.{trimmed, pieces, in_front, is_quoted}
use Rattle.asm_variables.proofs.SubstitutionLemmas.{behind_one, inside_one}

-- without n at the end
pub front_part : (n : ℕ) (s : List ℕ) → take (length s - n) s ≡ reverse (drop n (reverse s))
front_part n s =
    let split : reverse (drop n (reverse s)) ++ reverse (take n (reverse s)) ≡ s = sym (reverse-append (take n (reverse s)) (drop n (reverse s)))
    ∙ ap (λ (xs : List ℕ). reverse xs) (take-append-drop n (reverse s)) ∙ reverse-reverse s in
    let len : length (reverse (drop n (reverse s))) ≡ length s - n =
    length-reverse (drop n (reverse s)) ∙ length-drop n (reverse s) ∙ ap (λ (k : ℕ). k - n) (length-reverse s) in
    ap (λ (k : ℕ). take k s) (sym len)
    ∙ ap (λ (xs : List ℕ). take (length (reverse (drop n (reverse s)))) xs) (sym split)
    ∙ take-append_seam (reverse (drop n (reverse s))) (reverse (take n (reverse s)))

-- the rest of a comment
all_in_comment : (n : ℕ) (cs : List ℕ) → length cs ≤ n → uncommented (standing_from Comment n cs) ≡ []
all_in_comment n [] e = refl
all_in_comment zero (c ∷ cs) e = absurd (omega (arith, e))
all_in_comment (suc n) (c ∷ cs) e = all_in_comment n cs (omega (arith, e))

abbrev choice : Bool → Bool → Bool → Bool → ℕ → ℕ → ℕ → Standing × ℕ
choice a b d e q n m = if a then (Quoted, q) else if b then (Quoted, 3) else if d then (Barred, n) else if e then (Comment, m) else (Open, 1)

chosen : (a b d e : Bool) (q n m : ℕ) → is_in_comment (choice a b d e q n m).0 ≡ true → choice a b d e q n m ≡ (Comment, m)
chosen true b d e q n m h = cc
chosen false true d e q n m h = cc
chosen false false true e q n m h = cc
chosen false false false true q n m h = refl
chosen false false false false q n m h = cc

comment_width : (c : ℕ) (cs : List ℕ) → is_in_comment (begun_at c cs).0 ≡ true → begun_at c cs ≡ (Comment, length cs + 1)
comment_width c cs e =
    chosen (c == 34) (begins_character c cs) (nat_lt 0 (bars_width c cs)) (c == 59) (prefix_len (λ d. not (d == 34)) cs + 2) (bars_width c cs) (length cs + 1) e

heads : (x y : Byte) (xs ys : List Byte) → x ∷ xs ≡ y ∷ ys → x.1 ≡ y.1
heads x y xs ys e = cc

comment_ends : (s : Standing) (left c : ℕ) (cs : List ℕ) (t : Standing) (n : ℕ) → is_in_comment s ≡ false
    → standing_from s left (c ∷ cs) ≡ (c, t) ∷ standing_from t n cs → is_in_comment t ≡ true
    → uncommented (standing_from s left (c ∷ cs)) ≡ []
comment_ends s zero c cs t n o e h =
    let same : (begun_at c cs).0 ≡ t = heads _ _ _ _ e in
    let w : begun_at c cs ≡ (Comment, length cs + 1) = comment_width c cs (ap (λ (x : Standing). is_in_comment x) same ∙ h) in
    rw w (all_in_comment (length cs + 1 - 1) cs (omega arith))
comment_ends s (suc m) c cs t n o e h =
    let same : s ≡ t = heads _ _ _ _ e in
    let x : true ≡ false = sym h ∙ ap (λ (y : Standing). is_in_comment y) (sym same) ∙ o in
    cc

-- what is passed is before the comment
pub record IsPassing (text : List ℕ) (s : Standing) (left at : ℕ) : Type 0 where
  pub within : at ≤ length text
  pub outside : is_in_comment s ≡ false
  pub same : take at text ++ plain (uncommented (standing_from s left (drop at text))) ≡ plain (before_comment text)

pub begun : (text : List ℕ) → IsPassing text Open 0 0
unfolding standing
begun text = record { within = omega arith; outside = refl; same = refl }

taken_suc : (at : ℕ) (text : List ℕ) (c : ℕ) (cs : List ℕ) → drop at text ≡ c ∷ cs → take (suc at) text ≡ take at text ++ c ∷ []
taken_suc zero text c cs e = rw e refl
taken_suc (suc at) [] c cs e = cc
taken_suc (suc at) (x ∷ xs) c cs e = ap (λ (ys : List ℕ). x ∷ ys) (taken_suc at xs c cs e)

taken_one : (at : ℕ) (text : List ℕ) (c : ℕ) (cs : List ℕ) → drop at text ≡ c ∷ cs → take (at + 1) text ≡ take at text ++ c ∷ []
taken_one at text c cs e =
    let more : at + 1 ≡ suc at = omega arith in
    rw more (taken_suc at text c cs e)

kept : (c : ℕ) (t : Standing) (bs : List Byte) → is_in_comment t ≡ false → plain (uncommented ((c, t) ∷ bs)) ≡ c ∷ plain (uncommented bs)
kept c t bs h = rw h refl

module _ (text : List ℕ) (s : Standing) (left at : ℕ) (is : IsPassing text s left at) (c : ℕ) (cs : List ℕ) (here : drop at text ≡ c ∷ cs)
    (t : Standing) (n : ℕ) (stands : standing_from s left (c ∷ cs) ≡ (c, t) ∷ standing_from t n cs) where
  here_too : take at text ++ plain (uncommented (standing_from s left (c ∷ cs))) ≡ plain (before_comment text)
  here_too = ap (λ (xs : List ℕ). take at text ++ plain (uncommented (standing_from s left xs))) (sym here) ∙ is.same

  pub stops : is_in_comment t ≡ true → take at text ≡ plain (before_comment text)
  stops h =
      sym (append-nil (take at text))
      ∙ ap (λ (bs : List Byte). take at text ++ plain bs) (sym (comment_ends s left c cs t n is.outside stands h))
      ∙ here_too

  pub passed : is_in_comment t ≡ false → IsPassing text t n (at + 1)
  passed h = record {
    within = inside_one text at c cs here;
    outside = h;
    same =
        rw (taken_one at text c cs here, behind_one text at c cs here)
        (append_assoc (take at text) (c ∷ []) (plain (uncommented (standing_from t n cs)))
        ∙ ap (λ (xs : List ℕ). take at text ++ xs) (sym (kept c t (standing_from t n cs) h))
        ∙ ap (λ (bs : List Byte). take at text ++ plain (uncommented bs)) (sym stands)
        ∙ here_too);
  }

-- ---- pieces

nothing_before : (b : Bool) (c : ℕ) (ps : List (List ℕ)) → fronted [] (if b then [] ∷ ps else in_front c ps) ≡ (if b then [] ∷ ps else in_front c ps)
nothing_before true c ps = refl
nothing_before false c [] = refl
nothing_before false c (s ∷ ss) = refl

fronted_nothing : (bs : List Byte) → fronted [] (pieces bs) ≡ pieces bs
fronted_nothing [] = refl
fronted_nothing (b ∷ bs) = nothing_before _ b.0 (pieces bs)

-- a comma
pub piece_ended : (done newer : List (List ℕ)) (piece new : List ℕ) (c : ℕ) (t : Standing) → c ≡ 44 → is_quoted t ≡ false
    → new ≡ [] → newer ≡ done ++ trimmed piece ∷ []
    → (bs : List Byte) → with_pieces newer new (pieces bs) ≡ with_pieces done piece (pieces ((c, t) ∷ bs))
piece_ended done newer piece new c t d e f g bs =
    rw (d, e, f, g, fronted_nothing bs)
    (append_assoc done (trimmed piece ∷ []) (map trimmed (pieces bs))
    ∙ ap (λ (xs : List ℕ). done ++ trimmed xs ∷ map trimmed (pieces bs)) (sym (append-nil piece)))

-- what is passed is in the pieces so far
pub record IsCutting (text : List ℕ) (done : List (List ℕ)) (piece : List ℕ) (s : Standing) (left at : ℕ) : Type 0 where
  pub within : at ≤ length text
  pub outside : is_in_comment s ≡ false
  pub same : with_pieces done piece (pieces (uncommented (standing_from s left (drop at text)))) ≡ map trimmed (pieces (before_comment text))

pub begun_pieces : (text : List ℕ) → IsCutting text [] [] Open 0 0
unfolding standing
begun_pieces text = record { within = omega arith; outside = refl; same = ap (λ (ps : List (List ℕ)). map trimmed ps) (fronted_nothing (before_comment text)) }

kept_byte : (c : ℕ) (t : Standing) (bs : List Byte) → is_in_comment t ≡ false → uncommented ((c, t) ∷ bs) ≡ (c, t) ∷ uncommented bs
kept_byte c t bs h = rw h refl

module _ (text : List ℕ) (done : List (List ℕ)) (piece : List ℕ) (s : Standing) (left at : ℕ) (is : IsCutting text done piece s left at) where
  module _ (c : ℕ) (cs : List ℕ) (here : drop at text ≡ c ∷ cs) (t : Standing) (n : ℕ)
      (stands : standing_from s left (c ∷ cs) ≡ (c, t) ∷ standing_from t n cs) where
    all_here : with_pieces done piece (pieces (uncommented (standing_from s left (c ∷ cs)))) ≡ map trimmed (pieces (before_comment text))
    all_here = ap (λ (xs : List ℕ). with_pieces done piece (pieces (uncommented (standing_from s left xs)))) (sym here) ∙ is.same

    pub pieces_stop : is_in_comment t ≡ true → done ++ trimmed piece ∷ [] ≡ map trimmed (pieces (before_comment text))
    pieces_stop h =
        ap (λ (xs : List ℕ). done ++ trimmed xs ∷ []) (sym (append-nil piece))
        ∙ ap (λ (bs : List Byte). with_pieces done piece (pieces bs)) (sym (comment_ends s left c cs t n is.outside stands h))
        ∙ all_here

    pub pieces_pass : (newer : List (List ℕ)) (new : List ℕ) → is_in_comment t ≡ false
        → ((bs : List Byte) → with_pieces newer new (pieces bs) ≡ with_pieces done piece (pieces ((c, t) ∷ bs)))
        → IsCutting text newer new t n (at + 1)
    pieces_pass newer new h f = record {
      within = inside_one text at c cs here;
      outside = h;
      same =
          rw (behind_one text at c cs here)
          (f (uncommented (standing_from t n cs))
          ∙ ap (λ (bs : List Byte). with_pieces done piece (pieces bs)) (sym (kept_byte c t (standing_from t n cs) h))
          ∙ ap (λ (bs : List Byte). with_pieces done piece (pieces (uncommented bs))) (sym stands)
          ∙ all_here);
    }
