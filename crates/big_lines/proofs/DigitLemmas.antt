-- Decimal digits as a token of a line.
use Rattle.std.proofs.Common.{◌≡◌, ℕ, ◌+◌, ◌*◌, ◌/◌, ◌%◌, ◌^◌, ◌<◌, ◌≤◌, ◌==◌, List, [], ◌∷◌, ◌++◌, length, Bool, true, false, refl, sym, ◌∙◌, ap, subst, arith, nat_lt, Some}
use Rattle.std.specs.Prelude.{nat_le, ◌||◌}
use Rattle.std.specs.Fmt.{decimal}
use Rattle.std.specs.List.{list_all, list_any}
use Rattle.std.proofs.lemmas.Bool.{and_left, and_from, and_parts, or_left, ne_eqb, cond-true, cond-false}
use Rattle.std.proofs.lemmas.Bool.Decides.{nat_tests}
use Rattle.std.proofs.lemmas.Fmt.{decimal_by_steps, length-decimal-le}
use Rattle.std.proofs.lemmas.List.{length-append, take_all}
use Rattle.std.proofs.lemmas.List.Folds.{list_all-append}
use Rattle.std.proofs.lemmas.List.Sums.{fold_push}
use Rattle.asm_model.specs.Forms.{is_blank, is_digit, is_letter, is_name, is_barred, is_number, form_of, same}
use Rattle.asm_model.specs.Parts.{digit_value, digits_value, number_value, number_item, part_of_kind}
use Rattle.asm_model.specs.declared.exprs.ExprItem.TheVariants as item
use Rattle.asm_model.specs.declared.exprs.Part.TheVariants.{Operand}
use Rattle.asm_model.specs.declared.values.Value.TheVariants as value
use Rattle.asm_model.specs.declared.tokens.TokenKind.{TokenKind}
use Rattle.asm_model.specs.Tokens.{IsLongest, blanks}
use Rattle.asm_model.specs.declared.tokens.TokenKind.TheVariants.{Number}
use Rattle.asm_lines.specs.Lengths.{best_of}
use Rattle.asm_lines.proofs.KindLemmas.{best_longest}

-- one digit or more
pub record AreDigits (ds : List ℕ) : Type 0 where
  pub all : list_all is_digit ds ≡ true
  pub some : 0 < length ds

pub record IsDecimal (n : ℕ) (ds : List ℕ) : Type 0 where
  pub are : AreDigits ds
  pub value : digits_value 10 ds ≡ n

digit_is : (n : ℕ) → n < 10 → is_digit (48 + n) ≡ true
digit_is n h = grind (arith, nat_tests)

digit_means : (n : ℕ) → n < 10 → digit_value (48 + n) ≡ n
digit_means n h = let e : nat_le (48 + n) 57 ≡ true = grind (arith, nat_tests) in cond-true (nat_le (48 + n) 57) _ _ e ∙ omega arith

pub decimal_is : (n : ℕ) → n < 2 ^ 64 → IsDecimal n (decimal n)
decimal_is n h = decimal_by_steps IsDecimal one more n h
  where
    one : (n : ℕ) → n < 10 → IsDecimal n ((48 + n) ∷ [])
    one n h =
        record { are = record { all = and_from (is_digit (48 + n)) true (digit_is n h) refl; some = omega arith }; value = omega (arith, digit_means n h) }

    more : (n : ℕ) (ds : List ℕ) → 10 ≤ n → IsDecimal (n / 10) ds → IsDecimal n (ds ++ ((48 + n % 10) ∷ []))
    more n ds h d =
        let lt : n % 10 < 10 = omega arith in
        record {
          are = record {
            all =
                list_all-append is_digit ds ((48 + n % 10) ∷ []) ∙ and_from _ _ d.are.all (and_from (is_digit (48 + n % 10)) true (digit_is (n % 10) lt) refl);
            some = rw length-append (omega (arith, d.are.some));
          };
          value = fold_push (λ m c. 10 * m + digit_value c) 0 ds (48 + n % 10) ∙ omega (arith, d.value, digit_means (n % 10) lt);
        }

-- ---- the longest prefix

digit_no_letter : (c : ℕ) → is_digit c ≡ true → is_letter c ≡ false
digit_no_letter c e = grind (arith, nat_tests)

number_form : (ds : List ℕ) → AreDigits ds → form_of ds ≡ Some Number
number_form [] h = absurd (omega (arith, h.some))
number_form (c ∷ cs) h =
    let first : is_digit c ≡ true = (and_parts (is_digit c) (list_all is_digit cs) h.all).0 in
    let letter = digit_no_letter c first in
    let bar : (c == 124) ≡ false = grind (arith, nat_tests) in
    let no_name : is_name (c ∷ cs) ≡ false = and_left (is_letter c) _ letter in
    let no_bars : is_barred (c ∷ cs) ≡ false = and_left (c == 124) _ bar in
    let number : is_number (c ∷ cs) ≡ true = or_left _ _ (or_left _ _ h.all) in
    rw (no_name, no_bars, number) refl

-- digits are one token, where nothing stands behind them
pub number_longest : (ds : List ℕ) → AreDigits ds → IsLongest Number (length ds) ds
number_longest ds h = record {
  within = omega arith;
  form = rw (take_all (length ds) ds (omega arith)) (number_form ds h);
  longest = λ m more within. absurd (omega arith);
}

pub longest_is : (k : TokenKind) (n : ℕ) (rest : List ℕ) → (k, n) ≡ best_of rest → 0 < n → IsLongest k n rest
longest_is k n rest e h = subst (λ b. IsLongest b.0 b.1 rest) (sym e) (best_longest rest (subst (λ b. 0 < b.1) e h))

-- ---- what stands before digits, and behind them

pub digits_begin : (ds : List ℕ) → AreDigits ds → blanks ds ≡ 0
digits_begin [] h = refl
digits_begin (c ∷ cs) h =
    let first : is_digit c ≡ true = (and_parts (is_digit c) (list_all is_digit cs) h.all).0 in
    let none : is_blank c ≡ false = grind (arith, nat_tests) in
    cond-false (is_blank c) _ 0 none

-- ---- what they mean

pub digits_number : (n : ℕ) (ds : List ℕ) → IsDecimal n ds → number_value ds ≡ n
digits_number n [] d = absurd (omega (arith, d.are.some))
digits_number n (a ∷ []) d = d.value
digits_number n (a ∷ b ∷ cs) d =
    let first : is_digit a ≡ true = (and_parts (is_digit a) (list_all is_digit (b ∷ cs)) d.are.all).0 in
    let others : list_all is_digit (b ∷ cs) ≡ true = (and_parts (is_digit a) (list_all is_digit (b ∷ cs)) d.are.all).1 in
    let second : is_digit b ≡ true = (and_parts (is_digit b) (list_all is_digit cs) others).0 in
    let x : (a == 38) ≡ false = grind (arith, nat_tests) in
    let y : (b == 120) ≡ false = grind (arith, nat_tests) in
    let z : (b == 95) ≡ false = grind (arith, nat_tests) in
    cond-false (a == 38) _ _ x ∙ cond-false (b == 120) _ _ y ∙ cond-false (b == 95) _ _ z ∙ d.value

pub digits_part : (n : ℕ) (ds : List ℕ) → n < 2 ^ 32 → IsDecimal n ds → part_of_kind Number ds ≡ Operand (item.Constant (value.Number n))
digits_part n ds h d =
    let fits : nat_lt n (2 ^ 32) ≡ true = grind (arith, nat_tests) in
    ap (λ m. Operand (number_item m)) (digits_number n ds d) ∙ ap Operand (cond-true (nat_lt n (2 ^ 32)) _ _ fits)

-- they are no sign
pub digits_no : (sign : ℕ) (more ds : List ℕ) → AreDigits ds → is_digit sign ≡ false → same ds (sign ∷ more) ≡ false
digits_no sign more [] h e = refl
digits_no sign more (c ∷ cs) h e =
    let first : is_digit c ≡ true = (and_parts (is_digit c) (list_all is_digit cs) h.all).0 in
    let other : (c == sign) ≡ false = ne_eqb c sign (λ q. let f = rw q at first in absurd (let g = e in cc)) in
    and_left (c == sign) _ other

-- ---- none of them is such a byte

pub any_joined : (p : ℕ → Bool) → ((c : ℕ) → is_digit c ≡ true → p c ≡ false) → (ds rest : List ℕ) → list_all is_digit ds ≡ true
    → list_any p (ds ++ rest) ≡ list_any p rest
any_joined p none [] rest h = refl
any_joined p none (c ∷ cs) rest h =
    let q = and_parts (is_digit c) (list_all is_digit cs) h in
    rw (none c q.0) (any_joined p none cs rest q.1)

pub any_alone : (p : ℕ → Bool) → ((c : ℕ) → is_digit c ≡ true → p c ≡ false) → (ds : List ℕ) → list_all is_digit ds ≡ true → list_any p ds ≡ false
any_alone p none [] h = refl
any_alone p none (c ∷ cs) h =
    let q = and_parts (is_digit c) (list_all is_digit cs) h in
    rw (none c q.0) (any_alone p none cs q.1)

pub no_dollar : (c : ℕ) → is_digit c ≡ true → (c == 36) ≡ false
no_dollar c h = grind (arith, nat_tests)

pub no_end : (c : ℕ) → is_digit c ≡ true → (c == 10 || c == 13) ≡ false
no_end c h = grind (arith, nat_tests)

pub few_digits : (k : ℕ) → k ≤ 50000 → length (decimal k) ≤ 10
few_digits k h = length-decimal-le 10 k (omega arith) (omega arith) (omega arith)
