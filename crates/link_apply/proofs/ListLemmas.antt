-- Relocations found in a list, and the bytes of a number.
use Rattle.std.proofs.Common.{◌≡◌, ℕ, zero, suc, ◌+◌, ◌*◌, ◌/◌, ◌%◌, ◌^◌, ◌<◌, Bool, true, false, cond, List, [], ◌∷◌, get_or, refl, sym, ap, ◌∙◌, arith}
use Rattle.std.specs.Prelude.{Some, None, slice_get}
use Rattle.std.specs.List.{find, list_any}
use Rattle.std.proofs.lemmas.Bool.{or_parts}
use Rattle.std.proofs.lemmas.Nat.{div-add-mod', div-mul-add, pow_pos, pow-add}
use Rattle.sdt_word.specs.Bytes.{bytes_of}

-- ---- the first item that a test passes

pub record Found {A : Type 0} (test : A → Bool) (xs : List A) (x : A) : Type 0 where
  pub number : ℕ
  pub there : slice_get xs number ≡ Some x
  pub passes : test x ≡ true

pub found : {A : Type 0} (test : A → Bool) (xs : List A) (x : A) → find test xs ≡ Some x → Found test xs x
found test [] x e = absurd (cc)
found test (y ∷ ys) x e = by_test (test y) refl e (found test ys x)
  where
    by_test : (b : Bool) → test y ≡ b → cond b (Some y) (find test ys) ≡ Some x → (find test ys ≡ Some x → Found test ys x) → Found test (y ∷ ys) x
    by_test true t h rest = let same : y ≡ x = cc in record { number = 0; there = ap Some same; passes = ap test (sym same) ∙ t }
    by_test false t h rest = let f = rest h in record { number = suc f.number; there = f.there; passes = f.passes }

pub none_passes : {A : Type 0} (test : A → Bool) (xs : List A) → find test xs ≡ None → (k : ℕ) (x : A) → slice_get xs k ≡ Some x → test x ≡ false
none_passes test [] e k x there = absurd (cc)
none_passes {A = A} test (y ∷ ys) e k x there = by_test (test y) refl e k there (none_passes test ys)
  where
    by_test : (b : Bool) → test y ≡ b → cond b (Some y) (find test ys) ≡ None → (k : ℕ) → slice_get (y ∷ ys) k ≡ Some x
        → (find test ys ≡ None → (k : ℕ) (x : A) → slice_get ys k ≡ Some x → test x ≡ false) → test x ≡ false
    by_test true t h k there rest = absurd (cc)
    by_test false t h zero there rest = let same : y ≡ x = cc in ap test (sym same) ∙ t
    by_test false t h (suc k) there rest = rest h k x there

pub find_none : {A : Type 0} (test : A → Bool) (xs : List A) → ((k : ℕ) (x : A) → slice_get xs k ≡ Some x → test x ≡ false) → find test xs ≡ None
find_none test [] none = refl
find_none test (x ∷ xs) none = rw (none 0 x refl) (find_none test xs (λ k y there. none (suc k) y there))

pub any_none : {A : Type 0} (test : A → Bool) (xs : List A) → list_any test xs ≡ false → (k : ℕ) (x : A) → slice_get xs k ≡ Some x → test x ≡ false
any_none test [] e k x there = absurd (cc)
any_none test (y ∷ ys) e zero x there = let same : y ≡ x = cc in ap test (sym same) ∙ (or_parts (test y) (list_any test ys) e).0
any_none test (y ∷ ys) e (suc k) x there = any_none test ys (or_parts (test y) (list_any test ys) e).1 k x there

-- ---- bytes of a number

divided_twice : (v m : ℕ) → 0 < m → v / 256 / m ≡ v / (256 * m)
divided_twice v m h =
    let e : v / 256 / m * (256 * m) + (256 * (v / 256 % m) + v % 256) ≡ v = omega (arith, div-add-mod' (v / 256) m) in
    let d = div-mul-add (v / 256 / m) (256 * m) (256 * (v / 256 % m) + v % 256) (omega arith) in
    sym (ap (λ n. n / (256 * m)) (sym e) ∙ d)

higher : (v k : ℕ) → v / 256 / 2 ^ (8 * k) ≡ v / 2 ^ (8 * suc k)
higher v k =
    let e : 8 * suc k ≡ 8 + 8 * k = omega arith in
    divided_twice v (2 ^ (8 * k)) (pow_pos (8 * k)) ∙ ap (λ n. v / n) (sym (ap (λ n. 2 ^ n) e ∙ pow-add 2 8 (8 * k)))

pub get_bytes : (v n k : ℕ) → k < n → get_or (bytes_of v n) k 0 ≡ v / 2 ^ (8 * k) % 2 ^ 8
get_bytes v zero k h = absurd (omega arith)
get_bytes v (suc n) zero h = omega arith
get_bytes v (suc n) (suc k) h = get_bytes (v / 256) n k (omega arith) ∙ ap (λ q. q % 2 ^ 8) (higher v k)
