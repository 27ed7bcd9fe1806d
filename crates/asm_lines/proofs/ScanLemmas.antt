-- The token at the front of a rest.
use Rattle.std.proofs.Common.{◌≡◌, ℕ, ◌≤◌, ◌+◌, List, [], ◌∷◌, ◌<◌, ◌++◌, length, take, drop, Bool, true, false, cond, refl, sym, ◌∙◌, ap, arith, Option, Some, None, zero, suc, append-nil, append_assoc, length-drop, add_assoc}
use Rattle.std.specs.Prelude.{MatchBool, ◌==◌}
use Rattle.std.proofs.lemmas.List.{drop-drop}
use Rattle.std.proofs.lemmas.Bool.{eqb-true, cond-false, ne_eqb}
use Rattle.asm_model.specs.declared.tokens.Due.{Due}
use Rattle.asm_model.specs.declared.tokens.Due.TheVariants.{Label, Operation, Operands, Nothing}
use Rattle.asm_model.specs.declared.tokens.Token.{Token}
use Rattle.asm_model.specs.declared.tokens.TokenKind.{TokenKind}
use Rattle.asm_model.specs.declared.tokens.TokenKind.TheVariants.{Sign}
use Rattle.asm_model.specs.Forms.{form_of}
use Rattle.asm_model.specs.Tokens.{IsLongest, IsTokenAt, is_operation_sign, blanks, is_end, due_behind, TokensFrom, Tokens, NoTokens, begins_comment, OneScan, first_due}
use Rattle.asm_lines.specs.Steps.{IsTheToken, is_sign_due, some_token, ends_at}
use Rattle.asm_lines.specs.Lengths.{best_of}
use Rattle.asm_lines.proofs.KindLemmas.{one_longest, some_longest, best_longest, best_none}

-- a longest token is the one
pub longest_is_the : (rest : List ℕ) (k : TokenKind) (n : ℕ) → IsLongest k n rest → IsTheToken Operands rest (Some (k, n))
longest_is_the rest k n p = (p, λ j m q. one_longest j k m n rest q p, some_longest k n rest p, p.within)

pub none_is_the : (rest : List ℕ) → ((m : ℕ) → m ≤ length rest → form_of (take m rest) ≡ None) → IsTheToken Operands rest None
none_is_the rest none k n p = let a = p.form in let b = none n p.within in cc

-- the best of the kinds is the one, where it has a length
pub best_is_the : (rest : List ℕ) (best : TokenKind × ℕ) → best ≡ best_of rest → IsTheToken Operands rest (some_token best)
best_is_the rest best e = chosen (best.1 == 0) refl
  where
    positive : (n : ℕ) → (n == 0) ≡ false → 0 < n
    positive zero z = absurd (cc)
    positive (suc n) z = omega arith

    chosen : (b : Bool) → (best.1 == 0) ≡ b → IsTheToken Operands rest (cond b None (Some best))
    chosen true z = none_is_the rest (best_none rest (ap (λ (b : TokenKind × ℕ). b.1) (sym e) ∙ eqb-true best.1 0 z))
    chosen false z = rw e (longest_is_the rest (best_of rest).0 (best_of rest).1 (best_longest rest (rw e at (positive best.1 z))))

pub any_is_the : (rest : List ℕ) (o : Option (TokenKind × ℕ)) → is_operation_sign rest ≡ false → IsTheToken Operands rest o → IsTheToken Operation rest o
any_is_the rest None e h = λ k n p. h k n (let P : Bool → Type 0 = λ b. MatchBool b ((k ≡ Sign) × (n ≡ 1)) (IsLongest k n rest) in rw e at p)
any_is_the rest (Some t) e h = (rw e h.0, λ k n p. h.1 k n (rw e at p), h.2, h.3)

pub sign_is_the : (rest : List ℕ) → is_operation_sign rest ≡ true → IsTheToken Operation rest (Some (Sign, 1))
sign_is_the [] e = absurd (cc)
sign_is_the (c ∷ cs) e = (rw e (refl, refl), λ k n p. rw e at p, omega arith, omega arith)

pub label_is_the : (rest : List ℕ) (o : Option (TokenKind × ℕ)) → IsTheToken Operands rest o → IsTheToken Label rest o
label_is_the rest None h = h
label_is_the rest (Some t) h = h

-- the same where a token is due, and no sign by itself
pub token_is_the : (due : Due) (rest : List ℕ) (best : TokenKind × ℕ) → ends_at due rest ≡ false → is_sign_due due rest ≡ false
    → best ≡ best_of rest
    → IsTheToken due rest (some_token best)
token_is_the Label rest best n s e = label_is_the rest (some_token best) (best_is_the rest best e)
token_is_the Operation rest best n s e = any_is_the rest (some_token best) s (best_is_the rest best e)
token_is_the Operands rest best n s e = best_is_the rest best e
token_is_the Nothing rest best n s e = absurd (cc)

pub lone_is_the : (due : Due) (rest : List ℕ) → is_sign_due due rest ≡ true → IsTheToken due rest (some_token (Sign, 1))
lone_is_the Label rest s = absurd (cc)
lone_is_the Operation rest s = sign_is_the rest s
lone_is_the Operands rest s = absurd (cc)
lone_is_the Nothing rest s = absurd (cc)

-- a scan at a place: what it has so far, and what the rest of the line has, is what the line has
pub record IsScan (text : List ℕ) (list : List Token) (due : Due) (place : ℕ) : Type 0 where
  pub found : (ts : List Token) → TokensFrom ts due place (drop place text) → Tokens text (list ++ ts)
  pub only : (all : List Token) → Tokens text all → (ts : List Token) × (all ≡ list ++ ts) × TokensFrom ts due place (drop place text)
  pub within : place ≤ length text

token_is : (t : Token) (kind : TokenKind) (start end : ℕ) → t.kind ≡ kind → t.start ≡ start → t.end ≡ end → t ≡ record { kind = kind; start = start; end = end }
token_is t kind start end a b c = λ i. record { kind = a i; start = b i; end = c i }

module _ (text : List ℕ) (list : List Token) (due : Due) (place : ℕ) (scan : IsScan text list due place) where
  pub ended : is_end due (drop place text) ≡ true → Tokens text list
  ended e = rw (sym (append-nil list)) (scan.found [] e)

  pub stuck : is_end due (drop place text) ≡ false → IsTheToken due (drop (blanks (drop place text)) (drop place text)) None → (all : List Token)
      → Tokens text all → ⊥
  stuck e none all h = let o = scan.only all h in goes o.0 o.2
    where
      goes : (ts : List Token) → TokensFrom ts due place (drop place text) → ⊥
      goes [] p = let q = p in absurd (cc)
      goes (t ∷ ts) p = none t.kind p.0 p.3

  abbrev token : TokenKind → ℕ → Token
  token kind n = record { kind = kind; start = place + blanks (drop place text); end = place + blanks (drop place text) + n }

  moved : (ts : List Token) (n m e d : ℕ) → m ≡ n → d ≡ e
      → TokensFrom ts (due_behind due (take m (drop (blanks (drop place text)) (drop place text)))) d
      (drop m (drop (blanks (drop place text)) (drop place text)))
      → TokensFrom ts (due_behind due (take n (drop (blanks (drop place text)) (drop place text)))) e
      (drop n (drop (blanks (drop place text)) (drop place text)))
  moved ts n m e d p q h = rw (← p, ← q) h

  behind : (n : ℕ) → drop n (drop (blanks (drop place text)) (drop place text)) ≡ drop (place + blanks (drop place text) + n) text
  behind n =
      let b = blanks (drop place text) in
      drop-drop n b (drop place text) ∙ drop-drop (b + n) place text ∙ ap (λ (k : ℕ). drop k text) (sym (add_assoc place b n))

  pub advanced : (kind : TokenKind) (n : ℕ) → is_end due (drop place text) ≡ false
      → IsTheToken due (drop (blanks (drop place text)) (drop place text)) (Some (kind, n))
      → IsScan text (list ++ token kind n ∷ [])
      (due_behind due (take n (drop (blanks (drop place text)) (drop place text)))) (place + blanks (drop place text) + n)
  advanced kind n e the =
      record {
        found = λ ts h. rw append_assoc (scan.found (token kind n ∷ ts) (n, refl, refl, the.0, rw (behind n) h));
        only = λ all h. let o = scan.only all h in again all o.0 o.1 o.2;
        within = (let some = the.2 in let fits = simp (length-drop, length-drop) at the.3 in omega arith);
      }
    where
      again : (all ts : List Token) → all ≡ list ++ ts → TokensFrom ts due place (drop place text)
          → (more : List Token) × (all ≡ (list ++ token kind n ∷ []) ++ more)
          × TokensFrom more (due_behind due (take n (drop (blanks (drop place text)) (drop place text)))) (place + blanks (drop place text) + n)
          (drop (place + blanks (drop place text) + n) text)
      again all [] q p = let r = p in absurd (cc)
      again all (t ∷ ts) q p =
          let u = the.1 t.kind p.0 p.3 in
          let start = p.1 in
          let end = p.2 in
          let end_is : t.end ≡ place + blanks (drop place text) + n = cc in
          let is = token_is t kind (place + blanks (drop place text)) (place + blanks (drop place text) + n) u.0 p.1 end_is in (
            ts,
            q ∙ ap (λ (x : Token). list ++ x ∷ ts) is ∙ sym (append_assoc list (token kind n ∷ []) ts),
            rw (← behind n) (moved ts n p.0 (place + blanks (drop place text) + n) t.end u.1 end_is p.4),
          )

none_shown : (t : TokenKind × ℕ) → t.1 ≡ 0 → some_token t ≡ None
none_shown t z = rw z refl

some_shown : (t : TokenKind × ℕ) → 0 < t.1 → some_token t ≡ Some (t.0, t.1)
some_shown t some = cond-false (t.1 == 0) None (Some t) (ne_eqb t.1 0 (λ e. omega arith))

end_at : (due : Due) (rest : List ℕ) → is_end due rest ≡ ends_at due (drop (blanks rest) rest)
end_at Label rest = refl
end_at Operation rest = refl
end_at Operands rest = refl
end_at Nothing rest = refl

-- the same, as the code has it
module _ (text : List ℕ) (list : List Token) (due : Due) (place : ℕ) (rest : List ℕ) (count : ℕ) (front : List ℕ) (b : Bool)
    (scan : IsScan text list due place) (rest_is : rest ≡ drop place text) (count_is : count ≡ blanks rest) (front_is : front ≡ drop count rest)
    (b_is : b ≡ ends_at due front) where
  end_is : is_end due (drop place text) ≡ b
  end_is = rw (b_is, front_is, count_is, rest_is) (end_at due (drop place text))

  pub at_end : b ≡ true → Tokens text list
  at_end e = ended text list due place scan (end_is ∙ e)

  module _ (more : b ≡ false) (t : TokenKind × ℕ) (the : IsTheToken due front (some_token t)) where
    the_at : IsTheToken due (drop (blanks (drop place text)) (drop place text)) (some_token t)
    the_at = rw (front_is, count_is, rest_is) at the

    pub at_nothing : t.1 ≡ 0 → NoTokens text
    at_nothing z = let h = the_at in stuck text list due place scan (end_is ∙ more) (rw (none_shown t z) at h)

    pub at_token : (word : List ℕ) (after : Due) (items : List Token) → 0 < t.1 → word ≡ take t.1 front → after ≡ due_behind due word
        → items ≡ list ++ record { kind = t.0; start = place + count; end = place + count + t.1 } ∷ [] → IsScan text items after (place + count + t.1)
    at_token word after items some w d i =
        let h = the_at in
        let s = advanced text list due place scan t.0 t.1 (end_is ∙ more) (rw (some_shown t some) at h) in
        rw (i, d, w, front_is, count_is, rest_is) s

-- no token begins a comment
no_form : (s : List ℕ) → form_of (59 ∷ s) ≡ None
no_form s = refl

no_comment : (front : List ℕ) (k : TokenKind) (n : ℕ) → begins_comment front ≡ true → IsLongest k n front → ⊥
no_comment [] k zero e p = let f = p.form in cc
no_comment [] k (suc n) e p = let f = p.form in cc
no_comment (c ∷ cs) k zero e p = let f = p.form in cc
no_comment (c ∷ cs) k (suc n) e p =
    let is = eqb-true c 59 e in
    let f = rw is at p.form in
    let g = no_form (take n cs) in
    cc

no_token : (due : Due) (front : List ℕ) (k : TokenKind) (n : ℕ) → begins_comment front ≡ true → IsTokenAt due k n front → ⊥
no_token Label front k n e p = no_comment front k n e p
no_token Operands front k n e p = no_comment front k n e p
no_token Nothing front k n e p = p
no_token Operation [] k n e p = no_comment [] k n e p
no_token Operation (c ∷ cs) k n e p = let is = eqb-true c 59 e in no_comment (59 ∷ cs) k n refl (rw is at p)

-- a line has its tokens once
module _ where
  pub one_token : (due : Due) (k j : TokenKind) (n m : ℕ) (rest : List ℕ) → IsTokenAt due k n rest → IsTokenAt due j m rest → (k ≡ j) × (n ≡ m)
  one_token Label k j n m rest p q = one_longest k j n m rest p q
  one_token Operands k j n m rest p q = one_longest k j n m rest p q
  one_token Nothing k j n m rest p q = absurd p
  one_token Operation k j n m rest p q = chosen (is_operation_sign rest) p q
    where
      chosen : (b : Bool) → MatchBool b ((k ≡ Sign) × (n ≡ 1)) (IsLongest k n rest) → MatchBool b ((j ≡ Sign) × (m ≡ 1)) (IsLongest j m rest) → (k ≡ j)
          × (n ≡ m)
      chosen true p q = (p.0 ∙ sym q.0, p.1 ∙ sym q.1)
      chosen false p q = one_longest k j n m rest p q

-- no token stands where a line may end
ends_alone : (t : Token) (ts : List Token) (due : Due) (place : ℕ) (rest : List ℕ) → is_end due rest ≡ true → TokensFrom (t ∷ ts) due place rest → ⊥
ends_alone t ts Label place rest e p = no_token Label (drop (blanks rest) rest) t.kind p.0 e p.3
ends_alone t ts Operation place rest e p = no_token Operation (drop (blanks rest) rest) t.kind p.0 e p.3
ends_alone t ts Operands place rest e p = no_token Operands (drop (blanks rest) rest) t.kind p.0 e p.3
ends_alone t ts Nothing place rest e p = p.3

pub one_list : (a b : List Token) (due : Due) (place : ℕ) (rest : List ℕ) → TokensFrom a due place rest → TokensFrom b due place rest → a ≡ b
one_list [] [] due place rest p q = refl
one_list [] (t ∷ ts) due place rest p q = absurd (ends_alone t ts due place rest p q)
one_list (t ∷ ts) [] due place rest p q = absurd (ends_alone t ts due place rest q p)
one_list (t ∷ ts) (u ∷ us) due place rest p q =
    let one = one_token due t.kind u.kind p.0 q.0 (drop (blanks rest) rest) p.3 q.3 in
    let start : t.start ≡ u.start = p.1 ∙ sym q.1 in
    let end : t.end ≡ u.end = cc in
    let same_token : t ≡ u = λ i. record { kind = one.0 i; start = start i; end = end i } in
    let tails : TokensFrom us (due_behind due (take p.0 (drop (blanks rest) rest))) t.end (drop p.0 (drop (blanks rest) rest)) = rw (one.1, end) q.4 in
    let same_tail = one_list ts us (due_behind due (take p.0 (drop (blanks rest) rest))) t.end (drop p.0 (drop (blanks rest) rest)) p.4 tails in
    cc

pub one_scan : OneScan
one_scan text (Some ts) (Some us) p q = ap Some (one_list ts us (first_due text) 0 text p q)
one_scan text (Some ts) None p q = absurd (q ts p)
one_scan text None (Some us) p q = absurd (p us q)
one_scan text None None p q = refl
