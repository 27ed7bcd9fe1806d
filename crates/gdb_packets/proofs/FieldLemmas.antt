-- Fields between marks.
use Rattle.std.proofs.Common.{◌≡◌, ℕ, suc, ◌+◌, ◌==◌, ◌&&◌, nat_lt, nat_le, not, Bool, true, false, cond, List, [], ◌∷◌, ◌++◌, length, take, drop, get_or, position, Option, Some, None, refl, ap, ap₂, sym, ◌∙◌, subst, arith, drop-cons, take-append-drop, suc-add, lt-ltb, length-append}
use Rattle.std.specs.List.{list_all, position_or_len}
use Rattle.std.specs.Char.{digit_value}
use Rattle.std.specs.Str.Parse.{digits_value}
use Rattle.std.proofs.lemmas.Bool.{eqb-true}
use Rattle.std.proofs.lemmas.List.Quantifiers.{position-Some}
use Rattle.std.proofs.Math.Seq.{take-append_seam}
use Rattle.gdb_packets.specs.Fields.{cut, cut_at, number, pair, pair_of, both}
use Rattle.gdb_packets.specs.Forms.{IsPair}

abbrev pub is_digit : ℕ → Bool
is_digit d = nat_lt (digit_value d) 16

abbrev pub differs : ℕ → ℕ → Bool
differs mark x = not (x == mark)

apart : (mark x : ℕ) → is_digit x ≡ true → is_digit mark ≡ false → differs mark x ≡ true
apart mark x d m = by (x == mark) refl
  where
    by : (b : Bool) → (x == mark) ≡ b → not b ≡ true
    by false e = refl
    by true e = let same : x ≡ mark = eqb-true x mark e in
        absurd (let d' : is_digit mark ≡ true = subst (λ k. is_digit k ≡ true) same d in cc)

-- digits are no mark
pub digits_differ : (mark : ℕ) (front : List ℕ) → list_all is_digit front ≡ true → is_digit mark ≡ false
    → list_all (differs mark) front ≡ true
digits_differ mark [] d m = refl
digits_differ mark (x ∷ front) d m =
    let here : is_digit x ≡ true = grind arith in
    let there : list_all is_digit front ≡ true = grind arith in
    rw (apart mark x here m) (digits_differ mark front there m)

place_whole : (mark : ℕ) (front rest : List ℕ) → list_all (differs mark) front ≡ true
    → position_or_len (λ b. b == mark) (front ++ mark ∷ rest) ≡ length front
place_whole mark [] rest d = grind arith
place_whole mark (x ∷ front) rest d =
    let here : differs mark x ≡ true = grind arith in
    let there : list_all (differs mark) front ≡ true = grind arith in
    let more : position_or_len (λ b. b == mark) (front ++ mark ∷ rest) ≡ length front = place_whole mark front rest there in
    rw here (rw more (omega arith))

behind_front : (mark : ℕ) (front rest : List ℕ) → drop (length front + 1) (front ++ mark ∷ rest) ≡ rest
behind_front mark [] rest = refl
behind_front mark (x ∷ front) rest = rw suc-add (behind_front mark front rest)

-- what stands before the first mark is cut off
pub cut_whole : (mark : ℕ) (front rest : List ℕ) → list_all (differs mark) front ≡ true
    → cut mark (front ++ mark ∷ rest) ≡ Some (front, rest)
cut_whole mark front rest d =
    let at : position_or_len (λ b. b == mark) (front ++ mark ∷ rest) ≡ length front = place_whole mark front rest d in
    let within : nat_lt (length front) (length (front ++ mark ∷ rest)) ≡ true =
    lt-ltb (length front) (length (front ++ mark ∷ rest)) (simp length-append (omega arith)) in
    let found : position (λ b. b == mark) (front ++ mark ∷ rest) ≡ Some (length front) =
    subst (λ (n : ℕ). cond (nat_lt n (length (front ++ mark ∷ rest))) (Some n) None ≡ Some (length front)) (sym at)
    (ap (λ (b : Bool). cond b (Some (length front)) None) within) in
    ap (cut_at (front ++ mark ∷ rest)) found ∙ ap₂ (λ (p q : List ℕ). Some (p, q)) (take-append_seam front (mark ∷ rest))
    (behind_front mark front rest)

one_more : (i : ℕ) → suc i ≡ i + 1
one_more i = omega arith

-- and stood there
pub cut_back : (mark : ℕ) (text front rest : List ℕ) → cut mark text ≡ Some (front, rest) → text ≡ front ++ mark ∷ rest
cut_back mark text front rest e = by (position (λ b. b == mark) text) refl e
  where
    by : (o : Option ℕ) → position (λ b. b == mark) text ≡ o → cut_at text o ≡ Some (front, rest) → text ≡ front ++ mark ∷ rest
    by None f g = absurd (cc)
    by (Some i) f g =
        let s = position-Some (λ b. b == mark) text i 0 f in
        let here : get_or text i 0 ≡ mark = eqb-true (get_or text i 0) mark s.1 in
        let both' : (take i text, drop (i + 1) text) ≡ (front, rest) = cc in
        let front' : take i text ≡ front = ap (λ (p : List ℕ × List ℕ). p.0) both' in
        let rest' : drop (i + 1) text ≡ rest = ap (λ (p : List ℕ × List ℕ). p.1) both' in
        let tail : drop i text ≡ get_or text i 0 ∷ drop (suc i) text = drop-cons text i 0 s.0 in
        let next : drop (suc i) text ≡ drop (i + 1) text = ap (λ (j : ℕ). drop j text) (one_more i) in
        sym (take-append-drop i text)
        ∙ ap₂ (λ (p q : List ℕ). p ++ q) front' (tail ∙ ap₂ (λ (x : ℕ) (q : List ℕ). x ∷ q) here (next ∙ rest'))

pub digits_of : (t : List ℕ) (k : ℕ) → number t ≡ Some k → list_all is_digit t ≡ true
digits_of t k e = by (nat_lt 0 (length t)) (list_all is_digit t) e
  where
    by : (b c : Bool) → cond (b && c) (cond (nat_le (digits_value 16 t) 0xFFFFFFFF) (Some (digits_value 16 t)) None) None ≡ Some k
        → c ≡ true
    by true true f = refl
    by true false f = absurd (cc)
    by false c f = absurd (cc)

pub pair_whole : (text : List ℕ) (a n : ℕ) → IsPair text a n → pair 44 text ≡ Some (a, n)
pair_whole text a n p =
    ap (pair 44) p.whole ∙ ap pair_of (cut_whole 44 p.s p.t (digits_differ 44 p.s (digits_of p.s a p.first) refl))
    ∙ ap₂ both p.first p.second

pub pair_back : (text : List ℕ) (a n : ℕ) → pair 44 text ≡ Some (a, n) → IsPair text a n
pair_back text a n e = by (cut 44 text) refl e
  where
    numbers : (s t : List ℕ) (o p : Option ℕ) → number s ≡ o → number t ≡ p → text ≡ s ++ 44 ∷ t → both o p ≡ Some (a, n) → IsPair text a n
    numbers s t None p f g w h = absurd (cc)
    numbers s t (Some x) None f g w h = absurd (cc)
    numbers s t (Some x) (Some y) f g w h =
        let two : (x, y) ≡ (a, n) = cc in
        record { s = s; t = t; whole = w; first = f ∙ ap (λ (q : ℕ × ℕ). Some q.0) two; second = g ∙ ap (λ (q : ℕ × ℕ). Some q.1) two }

    by : (o : Option (List ℕ × List ℕ)) → cut 44 text ≡ o → pair_of o ≡ Some (a, n) → IsPair text a n
    by None f g = absurd (cc)
    by (Some p) f g = numbers p.0 p.1 (number p.0) (number p.1) refl refl (cut_back 44 text p.0 p.1 f) g
