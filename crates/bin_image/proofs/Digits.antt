-- Numbers in digits: what is written is read, and what is read is written so.
use Rattle.std.proofs.Common.{◌≡◌, ◌∙◌, ℕ, zero, suc, ◌+◌, ◌-◌, ◌*◌, ◌/◌, ◌%◌, ◌^◌, ◌<◌, ◌≤◌, List, [], ◌∷◌, ◌++◌, length, drop, get_or, Bool, true, false, cond, ◌==◌, not, ◌&&◌, ◌||◌, nat_lt, nat_le, Option, Some, None, refl, ap, sym, subst, arith, eq-eqb, eqb-true, ltb-true, le-leb, leb-true, append_assoc, append-nil, length-append}
use Rattle.std.proofs.Math.Seq.{drop-cons}
use Rattle.std.proofs.lemmas.Bool.{and_parts, and_from}
use Rattle.std.proofs.lemmas.Bool.Decides.{nat_tests}
use Rattle.std.proofs.lemmas.List.Folds.{list_all-append}
use Rattle.std.proofs.lemmas.Slice.Eq.{bytes_eq-Decides}
use Rattle.std.proofs.lemmas.Fmt.{decimal_is_IsNumeral}
use Rattle.std.specs.Prelude.{bytes_eq}
use Rattle.std.specs.List.{list_all}
use Rattle.std.specs.Char.{digit_value}
use Rattle.std.specs.Str.Parse.{digits_value, digits_value_after, AllDigits}
use Rattle.std.specs.Fmt.{decimal, digit_glyph}
use Rattle.sdt_fault.specs.Digits.{hexadecimal_places}
use Rattle.bin_image.specs.Fields.{◌>>=◌, lacks, is_upper_digit, at_most, address, address_of, decimal_of}
use Rattle.base_lemmas.proofs.BaseLemmas.{grows, same}

-- ---- where a number fits

pub fits : (most n : ℕ) → n ≤ most → at_most most n ≡ Some n
fits most n h = let e = le-leb n most h in rw e refl

pub fits_is : (most n k : ℕ) → at_most most n ≡ Some k → (n ≡ k) × (k ≤ most)
fits_is most n k h = by_test (nat_le n most) refl h where
  by_test : (b : Bool) → nat_le n most ≡ b → cond b (Some n) None ≡ Some k → (n ≡ k) × (k ≤ most)
  by_test true e j = let s = same n k j in let l = leb-true n most e in (s, omega arith)
  by_test false e j = absurd (cc)

-- ---- hexadecimal

record IsGlyph (c : ℕ) : Type 0 where
  low : digit_value c < 16
  glyph : digit_glyph true (digit_value c) ≡ c

glyph_of : (c : ℕ) → is_upper_digit c ≡ true → IsGlyph c
glyph_of c h = by_kind (nat_le 48 c && nat_le c 57) refl h where
  by_kind : (b : Bool) → (nat_le 48 c && nat_le c 57) ≡ b → (b || (nat_le 65 c && nat_le c 70)) ≡ true → IsGlyph c
  by_kind true e k =
      let p = and_parts (nat_le 48 c) (nat_le c 57) e in
      let l = leb-true 48 c p.0 in let m = leb-true c 57 p.1 in
      let v : digit_value c ≡ c - 48 = grind (arith, nat_tests) in
      record { low = omega arith; glyph = ap (digit_glyph true) v ∙ grind (arith, nat_tests) }
  by_kind false e k =
      let p = and_parts (nat_le 65 c) (nat_le c 70) k in
      let l = leb-true 65 c p.0 in let m = leb-true c 70 p.1 in
      let v : digit_value c ≡ c - 55 = grind (arith, nat_tests) in
      record { low = omega arith; glyph = ap (digit_glyph true) v ∙ grind (arith, nat_tests) }

one : (k a d c : ℕ) → d < 16 → digit_glyph true d ≡ c → hexadecimal_places (suc k) (a * 16 + d) ≡ hexadecimal_places k a ++ c ∷ []
one k a d c low g =
    let q : (a * 16 + d) / 16 ≡ a = omega arith in
    let r : (a * 16 + d) % 16 ≡ d = omega arith in
    ap (λ n. hexadecimal_places k n ++ digit_glyph true ((a * 16 + d) % 16) ∷ []) q
    ∙ ap (λ n. hexadecimal_places k a ++ digit_glyph true n ∷ []) r ∙ ap (λ b. hexadecimal_places k a ++ b ∷ []) g

-- digits that follow those of a number
longer : (k a : ℕ) (ds : List ℕ) → list_all is_upper_digit ds ≡ true → hexadecimal_places (k + length ds) (digits_value_after 16 a ds) ≡ hexadecimal_places k a ++ ds
longer k a [] h = let e : k + 0 ≡ k = omega arith in ap (λ n. hexadecimal_places n a) e ∙ sym (append-nil (hexadecimal_places k a))
longer k a (c ∷ cs) h =
    let parts = and_parts (is_upper_digit c) (list_all is_upper_digit cs) h in
    let g = glyph_of c parts.0 in
    let e : k + length (c ∷ cs) ≡ suc k + length cs = omega arith in
    ap (λ n. hexadecimal_places n (digits_value_after 16 (a * 16 + digit_value c) cs)) e
    ∙ longer (suc k) (a * 16 + digit_value c) cs parts.1
    ∙ ap (λ f. f ++ cs) (one k a (digit_value c) c g.low g.glyph) ∙ append_assoc (hexadecimal_places k a) (c ∷ []) cs

pub record IsAddress (ds : List ℕ) (n : ℕ) : Type 0 where
  pub spelled : ds ≡ address n
  pub small : n < 2 ^ 32

pub address_is : (ds : List ℕ) (n : ℕ) → address_of ds ≡ Some n → IsAddress ds n
unfolding address
address_is ds n h = by_test (length ds == 8 && list_all is_upper_digit ds) refl h where
  by_test : (b : Bool) → (length ds == 8 && list_all is_upper_digit ds) ≡ b → cond b (at_most 0xFFFFFFFF (digits_value 16 ds)) None ≡ Some n → IsAddress ds n
  by_test true e k =
      let parts = and_parts (length ds == 8) (list_all is_upper_digit ds) e in
      let f = fits_is 0xFFFFFFFF (digits_value 16 ds) n k in
      let l = longer 0 0 ds parts.1 in
      let eight : 0 + length ds ≡ 8 = omega (arith, eqb-true (length ds) 8 parts.0) in
      record {
        spelled = sym l ∙ ap (λ k. hexadecimal_places k (digits_value 16 ds)) eight ∙ ap (hexadecimal_places 8) f.0;
        small = omega (arith, f.1);
      }
  by_test false e k = absurd (cc)

-- the digit that writes a number below 16
record IsDigit (d : ℕ) : Type 0 where
  value : digit_value (digit_glyph true d) ≡ d
  upper : is_upper_digit (digit_glyph true d) ≡ true

digit_is : (d : ℕ) → d < 16 → IsDigit d
digit_is d low = by_test (nat_lt d 10) refl where
  by_test : (b : Bool) → nat_lt d 10 ≡ b → IsDigit d
  by_test true e =
      let l = ltb-true d 10 e in
      record { value = rw e (grind (arith, nat_tests)); upper = rw e (grind (arith, nat_tests)) }
  by_test false e = record { value = rw e (grind (arith, nat_tests)); upper = rw e (grind (arith, nat_tests)) }

value_more : (a : ℕ) (xs : List ℕ) (g : ℕ) → digits_value_after 16 a (xs ++ g ∷ []) ≡ digits_value_after 16 a xs * 16 + digit_value g
value_more a [] g = refl
value_more a (x ∷ xs) g = value_more (a * 16 + digit_value x) xs g

-- one above the greatest number of so many digits
width : ℕ → ℕ
width zero = 1
width (suc k) = 16 * width k

places_value : (k n : ℕ) → n < width k → digits_value 16 (hexadecimal_places k n) ≡ n
unfolding width
places_value zero n h = omega arith
places_value (suc k) n h =
    let d = digit_is (n % 16) (omega arith) in
    let i = places_value k (n / 16) (omega arith) in
    let m = value_more 0 (hexadecimal_places k (n / 16)) (digit_glyph true (n % 16)) in
    m ∙ ap (λ v. v * 16 + digit_value (digit_glyph true (n % 16))) i ∙ ap (λ v. n / 16 * 16 + v) d.value ∙ omega arith

places_upper : (k n : ℕ) → list_all is_upper_digit (hexadecimal_places k n) ≡ true
places_upper zero n = refl
places_upper (suc k) n =
    let d = digit_is (n % 16) (omega arith) in
    list_all-append is_upper_digit (hexadecimal_places k (n / 16)) (digit_glyph true (n % 16) ∷ [])
    ∙ and_from (list_all is_upper_digit (hexadecimal_places k (n / 16))) (list_all is_upper_digit (digit_glyph true (n % 16) ∷ [])) (places_upper k (n / 16))
    (and_from (is_upper_digit (digit_glyph true (n % 16))) true d.upper refl)

places_length : (k n : ℕ) → length (hexadecimal_places k n) ≡ k
places_length zero n = refl
places_length (suc k) n = length-append (hexadecimal_places k (n / 16)) (digit_glyph true (n % 16) ∷ []) ∙ omega (arith, places_length k (n / 16))

pub address_read : (n : ℕ) → n < 2 ^ 32 → address_of (address n) ≡ Some n
unfolding width address
address_read n h =
    let good = and_from (length (address n) == 8) (list_all is_upper_digit (address n)) (eq-eqb (length (address n)) 8 (places_length 8 n)) (places_upper 8 n) in
    let w : width 8 ≡ 2 ^ 32 = refl in
    let v = places_value 8 n (omega arith) in
    ap (λ b. cond b (at_most 0xFFFFFFFF (digits_value 16 (address n))) None) good ∙ ap (at_most 0xFFFFFFFF) v ∙ fits 0xFFFFFFFF n (omega arith)

-- ---- no other bytes

pub implied : (p q : ℕ → Bool) → ((c : ℕ) → p c ≡ true → q c ≡ true) → (xs : List ℕ) → list_all p xs ≡ true → list_all q xs ≡ true
implied p q each [] h = refl
implied p q each (x ∷ xs) h =
    let parts = and_parts (p x) (list_all p xs) h in
    and_from (q x) (list_all q xs) (each x parts.0) (implied p q each xs parts.1)

upper_other : (c : ℕ) → is_upper_digit c ≡ true → (not (c == 10) ≡ true) × (not (c == 32) ≡ true)
upper_other c h = (grind (arith, nat_tests), grind (arith, nat_tests))

pub address_lacks_feed : (n : ℕ) → lacks 10 (address n) ≡ true
unfolding address
address_lacks_feed n = implied is_upper_digit (λ c. not (c == 10)) (λ c h. (upper_other c h).0) (address n) (places_upper 8 n)

pub address_lacks_space : (n : ℕ) → lacks 32 (address n) ≡ true
unfolding address
address_lacks_space n = implied is_upper_digit (λ c. not (c == 32)) (λ c h. (upper_other c h).1) (address n) (places_upper 8 n)

-- ---- decimal

digits_lack : (ds : List ℕ) → AllDigits 10 ds → lacks 10 ds ≡ true
digits_lack [] h = refl
digits_lack (d ∷ ds) h =
    let other : not (d == 10) ≡ true = by_test (d == 10) refl in
    and_from (not (d == 10)) (lacks 10 ds) other (digits_lack ds h.1) where
      by_test : (b : Bool) → (d == 10) ≡ b → not b ≡ true
      by_test true e = let s = eqb-true d 10 e in let v : digit_value d ≡ 36 = ap digit_value s in absurd (omega (arith, h.0))
      by_test false e = refl

pub decimal_lacks_feed : (n : ℕ) → n < 2 ^ 64 → lacks 10 (decimal n) ≡ true
decimal_lacks_feed n h = digits_lack (decimal n) (decimal_is_IsNumeral n h).0.1

pub decimal_read : (n : ℕ) → n < 2 ^ 64 → decimal_of (decimal n) ≡ Some n
decimal_read n h =
    let v = (decimal_is_IsNumeral n h).1 in
    ap (λ k. at_most 0xFFFFFFFFFFFFFFFF k >>= λ n1. cond (bytes_eq (decimal n1) (decimal n)) (Some n1) None) v
    ∙ ap (λ o. o >>= λ n1. cond (bytes_eq (decimal n1) (decimal n)) (Some n1) None) (fits 0xFFFFFFFFFFFFFFFF n (omega arith))
    ∙ ap (λ b. cond b (Some n) None) ((bytes_eq-Decides (decimal n) (decimal n)).1 refl)

pub record IsDecimal (ds : List ℕ) (n : ℕ) : Type 0 where
  pub spelled : ds ≡ decimal n
  pub small : n < 2 ^ 64

pub decimal_is : (ds : List ℕ) (n : ℕ) → decimal_of ds ≡ Some n → IsDecimal ds n
decimal_is ds n h = by_value (at_most 0xFFFFFFFFFFFFFFFF (digits_value 10 ds)) refl h where
  by_test : (m : ℕ) → m ≤ 0xFFFFFFFFFFFFFFFF → (b : Bool) → bytes_eq (decimal m) ds ≡ b → cond b (Some m) None ≡ Some n → IsDecimal ds n
  by_test m l true e k =
      let s = same m n k in
      subst (λ j. IsDecimal ds j) s (record { spelled = sym ((bytes_eq-Decides (decimal m) ds).0 e); small = omega arith })
  by_test m l false e k = absurd (cc)

  by_value : (o : Option ℕ) → at_most 0xFFFFFFFFFFFFFFFF (digits_value 10 ds) ≡ o → (o >>= λ m. cond (bytes_eq (decimal m) ds) (Some m) None) ≡ Some n → IsDecimal ds n
  by_value None e k = absurd (cc)
  by_value (Some m) e k = by_test m (fits_is 0xFFFFFFFFFFFFFFFF (digits_value 10 ds) m e).1 (bytes_eq (decimal m) ds) refl k
