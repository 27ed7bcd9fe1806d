-- The lengths are those of the longest prefixes that have the forms.
use Rattle.std.proofs.Common.{◌≡◌, ℕ, zero, suc, ◌+◌, ◌-◌, ◌<◌, ◌≤◌, List, [], ◌∷◌, ◌++◌, length, take, drop, Bool, true, false, cond, refl, sym, ◌∙◌, ap, arith, one-add, length-take, max, ◌⊎◌, inl, inr}
use Rattle.std.specs.Prelude.{◌==◌, nat_lt, nat_le, ◌&&◌, ◌||◌, nat_eq}
use Rattle.std.specs.List.{prefix_len, list_all, list_any, slice_split, starts_with}
use Rattle.std.proofs.lemmas.Bool.{eqb-true, ne_eqb, cases_lt, and_left, and_right, and_from, or_from, or_left, or_right, cond-true, cond-false, false_from_ne_true}
use Rattle.std.proofs.lemmas.Bool.Decides.{Decides-eqb}
use Rattle.std.proofs.lemmas.List.Sums.{prefix_len-le-length, prefix_len_passes, prefix_len_stops, list_all-from_AllPass}
use Rattle.std.proofs.lemmas.List.Folds.{list_all_at}
use Rattle.std.proofs.lemmas.List.{get_or-take, length-append, take-append-drop}
use Rattle.std.proofs.Math.Seq.{take-append_seam}
use Rattle.std.proofs.lemmas.Slice.Eq.{starts_is}
use Rattle.asm_model.specs.Forms.{is_digit, is_hex_digit, is_digit_of, is_letter, is_word, is_between_bars, one_or_more, behind, begun, is_name, ends_with_bar, is_barred, is_based, is_hexadecimal, is_number, ends_string, is_quoted, is_character, is_short, is_local, same, is_one_of}
use Rattle.asm_model.proofs.WordLemmas.{same_refl, same_true}
use Rattle.asm_lines.specs.Lengths.{added, kept, behind_len, begun_len, name_len, bar_len, barred_len, based_len, zero_x_len, ampersand_len, number_len, string_len, quoted_len, character_len, short_len, local_len, word_len, words_len, one_of_len}

-- n is the length of the longest prefix with the form, or 0
pub record IsBest (has : List ℕ → Bool) (n : ℕ) (rest : List ℕ) : Type 0 where
  pub within : n ≤ length rest
  pub holds : 0 < n → has (take n rest) ≡ true
  pub longest : (m : ℕ) → n < m → m ≤ length rest → has (take m rest) ≡ false

pub added-suc : (i k : ℕ) → added i (suc k) ≡ i + suc k
added-suc i k = cond-false (suc k == 0) 0 (i + suc k) (ne_eqb (suc k) 0 (λ e. omega arith))

-- a test that fails at each prefix but the empty one
none_best : (has : List ℕ → Bool) (rest : List ℕ) → ((m : ℕ) → 0 < m → m ≤ length rest → has (take m rest) ≡ false) → IsBest has 0 rest
none_best has rest h = record { within = omega arith; holds = λ l. absurd (omega arith); longest = h }

empty_best : (has : List ℕ → Bool) → IsBest has 0 []
empty_best has = none_best has [] (λ m l w. absurd (omega arith))

or_best : (f g : List ℕ → Bool) (a b : ℕ) (rest : List ℕ) → IsBest f a rest → IsBest g b rest → IsBest (λ s. f s || g s) (max a b) rest
or_best f g a b rest p q =
    record {
      within = let v = p.within in let w = q.within in omega arith;
      holds = λ some. elim (pick a b) [ inl e ↦ rw e (or_left _ _ (p.holds (omega arith))) | inr e ↦ rw e (or_right _ _ (q.holds (omega arith))) ];
      longest = λ m l w. or_from _ _ (p.longest m (omega arith) w) (q.longest m (omega arith) w);
    }
  where
    pick : (a b : ℕ) → (max a b ≡ a) ⊎ (max a b ≡ b)
    pick a b = elim (cases_lt a b) [ inl h ↦ inr (omega arith) | inr h ↦ inl (omega arith) ]

-- one byte or more
all_of : (p : ℕ → Bool) (s : List ℕ) → 0 < length s → one_or_more p s ≡ list_all p s
all_of p [] h = absurd (omega arith)
all_of p (c ∷ cs) h = refl

run_best : (p : ℕ → Bool) (rest : List ℕ) → IsBest (one_or_more p) (prefix_len p rest) rest
run_best p rest =
    let n = prefix_len p rest in
    let le = prefix_len-le-length p rest in
    record {
      within = le;
      holds = λ some.
          rw (all_of p (take n rest) (simp length-take (omega arith)))
          (list_all-from_AllPass p (take n rest)
          (λ k d h. let le2 = simp length-take at h in let lt : k < n = omega arith in rw (get_or-take n rest k d lt) (prefix_len_passes p rest k d lt)));
      longest = λ m l w.
          rw (all_of p (take m rest) (simp length-take (omega arith)))
          (list_all_at p (take m rest) n 0 (simp length-take (omega arith))
          (rw (get_or-take m rest n 0 l) (prefix_len_stops p rest 0 (omega arith))));
    }

-- a byte that passes, and a form behind it
behind_yes : (test : ℕ → Bool) (f : List ℕ → Bool) (c : ℕ) (cs : List ℕ) (k : ℕ) → test c ≡ true → f [] ≡ false → IsBest f k cs
    → IsBest (behind test f) (added 1 k) (c ∷ cs)
behind_yes test f c cs zero passing none best =
    none_best (behind test f) (c ∷ cs) (λ m l w. after m l w)
  where
    after : (m : ℕ) → 0 < m → m ≤ length (c ∷ cs) → behind test f (take m (c ∷ cs)) ≡ false
    after zero l w = absurd (omega arith)
    after (suc zero) l w = and_right (test c) (f []) none
    after (suc (suc m)) l w = and_right (test c) (f (take (suc m) cs)) (best.longest (suc m) (omega arith) (omega arith))
behind_yes test f c cs (suc k) passing none best =
    rw (added-suc 1 k, one-add (suc k)) (record {
      within = let v = best.within in omega arith;
      holds = λ l. and_from (test c) (f (take (suc k) cs)) passing (best.holds (omega arith));
      longest = after;
    })
  where
    after : (m : ℕ) → suc (suc k) < m → m ≤ length (c ∷ cs) → behind test f (take m (c ∷ cs)) ≡ false
    after zero l w = absurd (omega arith)
    after (suc m) l w = and_right (test c) (f (take m cs)) (best.longest m (omega arith) (omega arith))

behind_no : (test : ℕ → Bool) (f : List ℕ → Bool) (c : ℕ) (cs : List ℕ) → test c ≡ false → IsBest (behind test f) 0 (c ∷ cs)
behind_no test f c cs failing = none_best (behind test f) (c ∷ cs) after
  where
    after : (m : ℕ) → 0 < m → m ≤ length (c ∷ cs) → behind test f (take m (c ∷ cs)) ≡ false
    after zero l w = absurd (omega arith)
    after (suc m) l w = and_left (test c) (f (take m cs)) failing

behind_best : (test : ℕ → Bool) (f : List ℕ → Bool) (g : List ℕ → ℕ) → f [] ≡ false → ((cs : List ℕ) → IsBest f (g cs) cs) → (rest : List ℕ)
    → IsBest (behind test f) (behind_len test g rest) rest
behind_best test f g none best [] = empty_best (behind test f)
behind_best test f g none best (c ∷ cs) = chosen (test c) refl
  where
    chosen : (b : Bool) → test c ≡ b → IsBest (behind test f) (cond b (added 1 (g cs)) 0) (c ∷ cs)
    chosen true e = behind_yes test f c cs (g cs) e none (best cs)
    chosen false e = behind_no test f c cs e

begun_best : (test : ℕ → Bool) (f : List ℕ → Bool) (g : List ℕ → ℕ) → ((cs : List ℕ) → IsBest f (g cs) cs) → (rest : List ℕ)
    → IsBest (begun test f) (begun_len test g rest) rest
begun_best test f g best [] = empty_best (begun test f)
begun_best test f g best (c ∷ cs) = chosen (test c) refl
  where
    fails : (m : ℕ) → test c ≡ false → 0 < m → m ≤ length (c ∷ cs) → begun test f (take m (c ∷ cs)) ≡ false
    fails zero e l w = absurd (omega arith)
    fails (suc m) e l w = and_left (test c) (f (c ∷ take m cs)) e

    holds : (n : ℕ) → test c ≡ true → 0 < n → f (take n (c ∷ cs)) ≡ true → begun test f (take n (c ∷ cs)) ≡ true
    holds zero e l h = absurd (omega arith)
    holds (suc n) e l h = and_from (test c) (f (c ∷ take n cs)) e h

    longest : (n m : ℕ) → n < m → f (take m (c ∷ cs)) ≡ false → begun test f (take m (c ∷ cs)) ≡ false
    longest n zero l h = absurd (omega arith)
    longest n (suc m) l h = and_right (test c) (f (c ∷ take m cs)) h

    chosen : (b : Bool) → test c ≡ b → IsBest (begun test f) (cond b (g (c ∷ cs)) 0) (c ∷ cs)
    chosen true e =
        record {
          within = (best (c ∷ cs)).within;
          holds = λ l. holds (g (c ∷ cs)) e l ((best (c ∷ cs)).holds l);
          longest = λ m l w. longest (g (c ∷ cs)) m l ((best (c ∷ cs)).longest m l w);
        }
    chosen false e = none_best (begun test f) (c ∷ cs) (λ m l w. fails m e l w)

pub name_best : (rest : List ℕ) → IsBest is_name (name_len rest) rest
name_best rest = begun_best is_letter (one_or_more is_word) (prefix_len is_word) (run_best is_word) rest

-- a bar behind bytes of a name
bar_after : (c : ℕ) (s : List ℕ) → 0 < length s → ends_with_bar (c ∷ s) ≡ (is_between_bars c && ends_with_bar s)
bar_after c [] h = absurd (omega arith)
bar_after c (d ∷ ds) h = refl

bar_best : (rest : List ℕ) → IsBest ends_with_bar (bar_len rest) rest
bar_best [] = empty_best ends_with_bar
bar_best (c ∷ cs) = chosen (c == 124) (is_between_bars c) refl refl (bar_len cs) (bar_best cs)
  where
    result : Bool → Bool → ℕ → ℕ
    result a b k = cond a 1 (cond b (added 1 k) 0)

    ends : (m : ℕ) → 1 < m → m ≤ length (c ∷ cs) → is_between_bars c ≡ false → ends_with_bar (take m (c ∷ cs)) ≡ false
    ends zero l w e = absurd (omega arith)
    ends (suc m) l w e = rw (bar_after c (take m cs) (simp length-take (omega arith))) (and_left (is_between_bars c) (ends_with_bar (take m cs)) e)

    goes_on : (m : ℕ) → 0 < m → m ≤ length (c ∷ cs) → (c == 124) ≡ false → ((j : ℕ) → m ≡ suc j → 0 < j → ends_with_bar (take j cs) ≡ false)
        → ends_with_bar (take m (c ∷ cs)) ≡ false
    goes_on zero l w e h = absurd (omega arith)
    goes_on (suc zero) l w e h = e
    goes_on (suc (suc m)) l w e h = rw (bar_after c (take (suc m) cs) (simp length-take (omega arith)))
        (and_right (is_between_bars c) (ends_with_bar (take (suc m) cs)) (h (suc m) refl (omega arith)))

    chosen : (a b : Bool) → (c == 124) ≡ a → is_between_bars c ≡ b → (k : ℕ) → IsBest ends_with_bar k cs → IsBest ends_with_bar (result a b k) (c ∷ cs)
    chosen true b ea eb k best =
        let is = eqb-true c 124 ea in
        let no : is_between_bars c ≡ false = rw is refl in
        record { within = omega arith; holds = λ l. ea; longest = λ m l w. ends m l w no }
    chosen false false ea eb k best =
        none_best ends_with_bar (c ∷ cs) (λ m l w. elim (cases_lt 1 m) [
          | inl more ↦ ends m more w eb
          | inr one ↦ goes_on m l w ea (λ j e z. absurd (omega arith))
        ])
    chosen false true ea eb zero best =
        none_best ends_with_bar (c ∷ cs) (λ m l w. goes_on m l w ea (λ j e z. best.longest j z (omega arith)))
    chosen false true ea eb (suc k) best =
        rw (added-suc 1 k, one-add (suc k)) (record {
          within = let v = best.within in omega arith;
          holds = λ l.
              let v = best.within in
              rw (bar_after c (take (suc k) cs) (simp length-take (omega arith)))
              (and_from (is_between_bars c) (ends_with_bar (take (suc k) cs)) eb (best.holds (omega arith)));
          longest = λ m l w. goes_on m (omega arith) w ea (λ j e z. best.longest j (omega arith) (omega arith));
        })

pub barred_best : (rest : List ℕ) → IsBest is_barred (barred_len rest) rest
barred_best rest =
    behind_best (λ c. c == 124) (begun is_between_bars ends_with_bar) (begun_len is_between_bars bar_len) refl
    (begun_best is_between_bars ends_with_bar bar_len bar_best) rest

-- a quote behind a byte of a string
quote_after : (c : ℕ) (s : List ℕ) → (c == 34) ≡ false → ends_string (c ∷ s) ≡ ends_string s
quote_after c [] e = e
quote_after c (d ∷ ds) e = cond-false (c == 34) _ _ e

string_best : (rest : List ℕ) → IsBest ends_string (string_len rest) rest
string_best [] = empty_best ends_string
string_best (c ∷ []) = chosen (c == 34) refl
  where
    fails : (m : ℕ) → 0 < m → m ≤ 1 → (c == 34) ≡ false → ends_string (take m (c ∷ [])) ≡ false
    fails zero l w e = absurd (omega arith)
    fails (suc zero) l w e = e
    fails (suc (suc m)) l w e = absurd (omega arith)

    chosen : (b : Bool) → (c == 34) ≡ b → IsBest ends_string (cond b 1 0) (c ∷ [])
    chosen true e = record { within = omega arith; holds = λ l. e; longest = λ m l w. absurd (omega arith) }
    chosen false e = none_best ends_string (c ∷ []) (λ m l w. fails m l w e)
string_best (c ∷ d ∷ cs) = chosen (c == 34) (d == 34) refl refl (string_len cs) (string_len (d ∷ cs)) (string_best cs) (string_best (d ∷ cs))
  where
    result : Bool → Bool → ℕ → ℕ → ℕ
    result a b j k = cond a (cond b (kept 1 2 j) 1) (added 1 k)

    one : (c == 34) ≡ true → (d == 34) ≡ false → IsBest ends_string 1 (c ∷ d ∷ cs)
    one ea eb = record { within = omega arith; holds = λ l. ea; longest = longest }
      where
        longest : (m : ℕ) → 1 < m → m ≤ length (c ∷ d ∷ cs) → ends_string (take m (c ∷ d ∷ cs)) ≡ false
        longest zero l w = absurd (omega arith)
        longest (suc zero) l w = absurd (omega arith)
        longest (suc (suc m)) l w = cond-true (c == 34) _ _ ea ∙ and_left (d == 34) (ends_string (take m cs)) eb

    pair_fails : (m : ℕ) → 1 < m → (c == 34) ≡ true → ((i : ℕ) → m ≡ suc (suc i) → ends_string (take i cs) ≡ false) → ends_string (take m (c ∷ d ∷ cs)) ≡ false
    pair_fails zero l ea h = absurd (omega arith)
    pair_fails (suc zero) l ea h = absurd (omega arith)
    pair_fails (suc (suc m)) l ea h = cond-true (c == 34) _ _ ea ∙ and_right (d == 34) (ends_string (take m cs)) (h m refl)

    goes_on : (m : ℕ) → 0 < m → (c == 34) ≡ false → ((i : ℕ) → m ≡ suc i → 0 < i → ends_string (take i (d ∷ cs)) ≡ false)
        → ends_string (take m (c ∷ d ∷ cs)) ≡ false
    goes_on zero l e h = absurd (omega arith)
    goes_on (suc zero) l e h = e
    goes_on (suc (suc m)) l e h = quote_after c (take (suc m) (d ∷ cs)) e ∙ h (suc m) refl (omega arith)

    chosen : (a b : Bool) → (c == 34) ≡ a → (d == 34) ≡ b → (j k : ℕ) → IsBest ends_string j cs → IsBest ends_string k (d ∷ cs)
        → IsBest ends_string (result a b j k) (c ∷ d ∷ cs)
    chosen true false ea eb j k bj bk = one ea eb
    chosen true true ea eb zero k bj bk =
        record {
          within = omega arith;
          holds = λ l. ea;
          longest = λ m l w. pair_fails m l ea (λ i e. elim (cases_lt 0 i) [
            | inl some ↦ bj.longest i some (omega arith)
            | inr none ↦ (let z : i ≡ 0 = omega arith in rw z refl)
          ]);
        }
    chosen true true ea eb (suc j) k bj bk =
        let e : kept 1 2 (suc j) ≡ suc (suc (suc j)) = cond-false (suc j == 0) 1 (2 + suc j) (ne_eqb (suc j) 0 (λ z. omega arith)) ∙ omega arith in
        rw e (record {
          within = let v = bj.within in omega arith;
          holds = λ l. cond-true (c == 34) _ _ ea ∙ and_from (d == 34) (ends_string (take (suc j) cs)) eb (bj.holds (omega arith));
          longest = λ m l w. pair_fails m (omega arith) ea (λ i q. bj.longest i (omega arith) (omega arith));
        })
    chosen false b ea eb j zero bj bk =
        none_best ends_string (c ∷ d ∷ cs) (λ m l w. goes_on m l ea (λ i e z. bk.longest i z (omega arith)))
    chosen false b ea eb j (suc k) bj bk =
        rw (added-suc 1 k, one-add (suc k)) (record {
          within = let v = bk.within in omega arith;
          holds = λ l. quote_after c (take (suc k) (d ∷ cs)) ea ∙ bk.holds (omega arith);
          longest = λ m l w. goes_on m (omega arith) ea (λ i e z. bk.longest i (omega arith) (omega arith));
        })

pub quoted_best : (rest : List ℕ) → IsBest is_quoted (quoted_len rest) rest
quoted_best rest = behind_best (λ c. c == 34) ends_string string_len refl string_best rest

pub character_best : (rest : List ℕ) → IsBest is_character (character_len rest) rest
character_best [] = empty_best is_character
character_best (a ∷ []) = none_best is_character (a ∷ []) fails
  where
    fails : (m : ℕ) → 0 < m → m ≤ 1 → is_character (take m (a ∷ [])) ≡ false
    fails zero l w = absurd (omega arith)
    fails (suc zero) l w = and_right (a == 39) false refl
    fails (suc (suc m)) l w = absurd (omega arith)
character_best (a ∷ b ∷ []) = none_best is_character (a ∷ b ∷ []) fails
  where
    fails : (m : ℕ) → 0 < m → m ≤ 2 → is_character (take m (a ∷ b ∷ [])) ≡ false
    fails zero l w = absurd (omega arith)
    fails (suc zero) l w = and_right (a == 39) false refl
    fails (suc (suc zero)) l w = and_right (a == 39) (nat_lt b 128 && false) (and_right (nat_lt b 128) false refl)
    fails (suc (suc (suc m))) l w = absurd (omega arith)
character_best (a ∷ b ∷ c ∷ cs) = chosen (a == 39 && (nat_lt b 128 && c == 39)) refl
  where
    regroup : (x y z : Bool) → (x && (y && (z && true))) ≡ (x && (y && z))
    regroup true true true = refl
    regroup true true false = refl
    regroup true false z = refl
    regroup false y z = refl

    ends : (x y z : Bool) → (x && (y && (z && false))) ≡ false
    ends true true true = refl
    ends true true false = refl
    ends true false z = refl
    ends false y z = refl

    fails : (m : ℕ) → 0 < m → (m ≡ 3 → (a == 39 && (nat_lt b 128 && c == 39)) ≡ false) → m ≤ length (a ∷ b ∷ c ∷ cs)
        → is_character (take m (a ∷ b ∷ c ∷ cs)) ≡ false
    fails zero l h w = absurd (omega arith)
    fails (suc zero) l h w = and_right (a == 39) false refl
    fails (suc (suc zero)) l h w = and_right (a == 39) (nat_lt b 128 && false) (and_right (nat_lt b 128) false refl)
    fails (suc (suc (suc zero))) l h w = regroup (a == 39) (nat_lt b 128) (c == 39) ∙ h refl
    fails (suc (suc (suc (suc m)))) l h w = more cs (omega arith)
      where
        more : (cs : List ℕ) → 0 < length cs → is_character (a ∷ b ∷ c ∷ take (suc m) cs) ≡ false
        more [] z = absurd (omega arith)
        more (d ∷ ds) z = ends (a == 39) (nat_lt b 128) (c == 39)

    chosen : (t : Bool) → (a == 39 && (nat_lt b 128 && c == 39)) ≡ t → IsBest is_character (cond t 3 0) (a ∷ b ∷ c ∷ cs)
    chosen true e = record {
      within = omega arith;
      holds = λ l. regroup (a == 39) (nat_lt b 128) (c == 39) ∙ e;
      longest = λ m l w. fails m (omega arith) (λ z. absurd (omega arith)) w;
    }
    chosen false e = none_best is_character (a ∷ b ∷ c ∷ cs) (λ m l w. fails m l (λ z. e) w)

short_best : (rest : List ℕ) → IsBest is_short (short_len rest) rest
short_best [] = empty_best is_short
short_best (c ∷ []) = chosen (is_digit c) refl
  where
    fails : (m : ℕ) → 0 < m → m ≤ 1 → is_digit c ≡ false → is_short (take m (c ∷ [])) ≡ false
    fails zero l w e = absurd (omega arith)
    fails (suc zero) l w e = e
    fails (suc (suc m)) l w e = absurd (omega arith)

    chosen : (b : Bool) → is_digit c ≡ b → IsBest is_short (cond b 1 0) (c ∷ [])
    chosen true e = record { within = omega arith; holds = λ l. e; longest = λ m l w. absurd (omega arith) }
    chosen false e = none_best is_short (c ∷ []) (λ m l w. fails m l w e)
short_best (c ∷ d ∷ cs) = chosen (is_digit c) (is_digit d) refl refl
  where
    fails : (m : ℕ) → 0 < m → m ≤ length (c ∷ d ∷ cs) → (m ≡ 1 → is_digit c ≡ false) → (m ≡ 2 → (is_digit c && is_digit d) ≡ false)
        → is_short (take m (c ∷ d ∷ cs)) ≡ false
    fails zero l w h1 h2 = absurd (omega arith)
    fails (suc zero) l w h1 h2 = h1 refl
    fails (suc (suc zero)) l w h1 h2 = h2 refl
    fails (suc (suc (suc m))) l w h1 h2 = more cs (omega arith)
      where
        more : (cs : List ℕ) → 0 < length cs → is_short (c ∷ d ∷ take (suc m) cs) ≡ false
        more [] z = absurd (omega arith)
        more (e ∷ es) z = refl

    chosen : (a b : Bool) → is_digit c ≡ a → is_digit d ≡ b → IsBest is_short (cond a (cond b 2 1) 0) (c ∷ d ∷ cs)
    chosen true true ea eb = record {
      within = omega arith;
      holds = λ l. and_from (is_digit c) (is_digit d) ea eb;
      longest =
          λ m l w. fails m (omega arith) w (λ z. absurd (omega arith)) (λ z. absurd (omega arith));
    }
    chosen true false ea eb = record {
      within = omega arith;
      holds = λ l. ea;
      longest =
          λ m l w. fails m (omega arith) w (λ z. absurd (omega arith)) (λ z. and_right (is_digit c) (is_digit d) eb);
    }
    chosen false b ea eb = none_best is_short (c ∷ d ∷ cs) (λ m l w. fails m l w (λ z. ea) (λ z. and_left (is_digit c) (is_digit d) ea))

pub local_best : (rest : List ℕ) → IsBest is_local (local_len rest) rest
local_best rest =
    behind_best (λ c. c == 37) (λ t. is_short t || behind (λ c. c == 70 || c == 66) is_short t)
    (λ t. max (short_len t) (behind_len (λ c. c == 70 || c == 66) short_len t)) refl
    (λ t. or_best is_short (behind (λ c. c == 70 || c == 66) is_short) (short_len t) (behind_len (λ c. c == 70 || c == 66) short_len t) t
    (short_best t) (behind_best (λ c. c == 70 || c == 66) is_short short_len refl short_best t)) rest

same_best : (f g : List ℕ → Bool) (n : ℕ) (rest : List ℕ) → ((m : ℕ) → g (take m rest) ≡ f (take m rest)) → IsBest f n rest → IsBest g n rest
same_best f g n rest e best =
    record { within = best.within; holds = λ l. e n ∙ best.holds l; longest = λ m l w. e m ∙ best.longest m l w }

based_best : (rest : List ℕ) → IsBest is_based (based_len rest) rest
based_best [] = empty_best is_based
based_best (c ∷ cs) =
    same_best (behind test digits) is_based (behind_len test (behind_len (λ d. d == 95) (prefix_len (is_digit_of (c - 48)))) (c ∷ cs)) (c ∷ cs) agrees
    (behind_best test digits (behind_len (λ d. d == 95) (prefix_len (is_digit_of (c - 48)))) refl
    (behind_best (λ d. d == 95) (one_or_more (is_digit_of (c - 48))) (prefix_len (is_digit_of (c - 48))) refl (run_best (is_digit_of (c - 48)))) (c ∷ cs))
  where
    test : ℕ → Bool
    test d = nat_le 50 d && nat_le d 57

    digits : List ℕ → Bool
    digits s = behind (λ d. d == 95) (one_or_more (is_digit_of (c - 48))) s

    agrees : (m : ℕ) → is_based (take m (c ∷ cs)) ≡ behind test digits (take m (c ∷ cs))
    agrees zero = refl
    agrees (suc m) = refl

pub number_best : (rest : List ℕ) → IsBest is_number (number_len rest) rest
number_best rest =
    or_best (λ s. one_or_more is_digit s || is_hexadecimal s) is_based (max (prefix_len is_digit rest) (max (zero_x_len rest) (ampersand_len rest)))
    (based_len rest) rest
    (or_best (one_or_more is_digit) is_hexadecimal (prefix_len is_digit rest) (max (zero_x_len rest) (ampersand_len rest)) rest (run_best is_digit rest)
    (or_best (behind (λ c. c == 48) (behind (λ c. c == 120) (one_or_more is_hex_digit))) (behind (λ c. c == 38) (one_or_more is_hex_digit)) (zero_x_len rest)
    (ampersand_len rest) rest
    (behind_best (λ c. c == 48) (behind (λ c. c == 120) (one_or_more is_hex_digit)) (behind_len (λ c. c == 120) (prefix_len is_hex_digit)) refl
    (behind_best (λ c. c == 120) (one_or_more is_hex_digit) (prefix_len is_hex_digit) refl (run_best is_hex_digit)) rest)
    (behind_best (λ c. c == 38) (one_or_more is_hex_digit) (prefix_len is_hex_digit) refl (run_best is_hex_digit) rest)))
    (based_best rest)

word_best : (word rest : List ℕ) → IsBest (λ s. same s word) (word_len word rest) rest
word_best word rest = chosen (starts_with nat_eq rest word) refl
  where
    whole : (m : ℕ) → m ≤ length rest → same (take m rest) word ≡ true → (word ≡ take m rest) × (length word ≡ m)
    whole m w h = let e = same_true (take m rest) word h in (sym e, sym (ap length e) ∙ (simp length-take (omega arith)))

    chosen : (b : Bool) → starts_with nat_eq rest word ≡ b → IsBest (λ s. same s word) (cond b (length word) 0) rest
    chosen true e =
        let split = (starts_is Decides-eqb rest word true (sym e)).0 refl in
        let lengths = ap length split in
        let fits : length word ≤ length rest = omega (arith, simp length-append at lengths) in
        let front : take (length word) rest ≡ word = ap (take (length word)) split ∙ take-append_seam word (drop (length word) rest) in
        record {
          within = fits;
          holds = λ l. rw front (same_refl word);
          longest = λ m l w. false_from_ne_true _ (λ h. let k = (whole m w h).1 in omega arith);
        }
    chosen false e =
        none_best (λ s. same s word) rest (λ m l w. false_from_ne_true _ (λ h.
        let k = whole m w h in
        let z = (starts_is Decides-eqb rest word false (sym e)).1 (drop m rest) (sym (take-append-drop m rest) ∙ ap (λ x. x ++ drop m rest) (sym k.0)) in
        absurd (cc)))

words_best : (ws : List (List ℕ)) (rest : List ℕ) → IsBest (λ s. list_any (same s) ws) (words_len ws rest) rest
words_best [] rest = none_best (λ s. list_any (same s) []) rest (λ m l w. refl)
words_best (w ∷ ws) rest =
    or_best (λ s. same s w) (λ s. list_any (same s) ws) (word_len w rest) (words_len ws rest) rest (word_best w rest) (words_best ws rest)

pub one_of_best : (text rest : List ℕ) → IsBest (is_one_of text) (one_of_len text rest) rest
one_of_best text rest = words_best (slice_split (λ c. c == 32) text) rest
