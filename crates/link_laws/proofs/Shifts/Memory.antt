-- A memory with the bytes of an image, whose relocator shifts its words.
use Rattle.std.proofs.Common.{◌≡◌, ◌⊎◌, inl, inr, ℕ, zero, suc, ◌+◌, ◌-◌, ◌*◌, ◌%◌, ◌^◌, ◌<◌, ◌≤◌, Bool, false, ◌==◌, if◌then◌else◌, List, [], ◌∷◌, ◌++◌, length, get_or, refl, sym, ap, ◌∙◌, arith}
use Rattle.std.specs.Prelude.{replicate, slice_index}
use Rattle.std.proofs.lemmas.Bool.{cases_lt, ne_eqb}
use Rattle.std.proofs.lemmas.List.{get_or_append_left}
use Rattle.std.proofs.Math.Seq.{get_or-append_right}
use Rattle.sdt_word.specs.Bytes.{bytes_of, number_of, word}
use Rattle.sdt_word.proofs.BytesLemmas.{length-bytes_of, number_of-bytes_of}
use Rattle.arm7_model.specs.Memory.{Bytes, store}
use Rattle.arm7_model.proofs.MemoryLemmas.{load-same, store-in, store-at}
use Rattle.boot_code.specs.Aif.{relocated}
use Rattle.boot_code.proofs.ViewLemmas.{apart_store}
use Rattle.image_model.specs.AifFiles.{shifted_offsets}
use Rattle.link_laws.specs.AifJoins.{shifted_word, shifted_words}

-- ---- a word that is shifted so often

word_stored : (m : Bytes) (x n : ℕ) → word (store m x (bytes_of (n % 2 ^ 32) 4)) x ≡ n % 2 ^ 32
word_stored m x n =
    ap number_of (load-same (store m x (bytes_of (n % 2 ^ 32) 4)) (λ i. get_or (bytes_of (n % 2 ^ 32) 4) i 0) x 0 4 (λ i lt.
    let own : i ≡ 0 + i = omega arith in
    store-at m x (bytes_of (n % 2 ^ 32) 4) i (omega (arith, lt, length-bytes_of (n % 2 ^ 32) 4)) ∙ ap (λ z. get_or (bytes_of (n % 2 ^ 32) 4) z 0) own))
    ∙ number_of-bytes_of (n % 2 ^ 32) 4 (omega arith)

stored_twice : (m : Bytes) (x v u y : ℕ) → store (store m x (bytes_of v 4)) x (bytes_of u 4) y ≡ store m x (bytes_of u 4) y
stored_twice m x v u y = go (cases_lt y x) (cases_lt y (x + 4))
  where
    go : (y < x) ⊎ (x ≤ y) → (y < x + 4) ⊎ (x + 4 ≤ y) → store (store m x (bytes_of v 4)) x (bytes_of u 4) y ≡ store m x (bytes_of u 4) y
    go (inl lt) side = apart_store (store m x (bytes_of v 4)) x (bytes_of u 4) y (inl lt) ∙ apart_store m x (bytes_of v 4) y (inl lt) ∙ sym (apart_store m x (bytes_of u 4) y (inl lt))
    go (inr from) (inr le) =
        apart_store (store m x (bytes_of v 4)) x (bytes_of u 4) y (inr (omega (arith, le))) ∙ apart_store m x (bytes_of v 4) y (inr (omega (arith, le))) ∙ sym (apart_store m x (bytes_of u 4) y (inr (omega (arith, le))))
    go (inr from) (inl lt) =
        store-in (store m x (bytes_of v 4)) x (bytes_of u 4) y from (omega (arith, lt)) ∙ sym (store-in m x (bytes_of u 4) y from (omega (arith, lt)))

relocated_both : (m : Bytes) (b d : ℕ) (xs ys : List ℕ) → relocated m b d (xs ++ ys) ≡ relocated (relocated m b d xs) b d ys
relocated_both m b d [] ys = refl
relocated_both m b d (x ∷ xs) ys = relocated_both (store m (b + x) (bytes_of ((word m (b + x) + d) % 2 ^ 32) 4)) b d xs ys

often : (m : Bytes) (b d o k y : ℕ) → relocated m b d (replicate (suc k) o) y ≡ store m (b + o) (bytes_of ((word m (b + o) + d * suc k) % 2 ^ 32) 4) y
often m b d o zero y = let one : d ≡ d * 1 = omega arith in ap (λ n. store m (b + o) (bytes_of ((word m (b + o) + n) % 2 ^ 32) 4) y) one
often m b d o (suc k) y =
    let w : ℕ = word m (b + o) in
    let m1 : Bytes = store m (b + o) (bytes_of ((w + d) % 2 ^ 32) 4) in
    let first = word_stored m (b + o) (w + d) in
    let times : d * suc (suc k) ≡ d + d * suc k = omega arith in
    let sum : ((w + d) % 2 ^ 32 + d * suc k) % 2 ^ 32 ≡ (w + d * suc (suc k)) % 2 ^ 32 = plain w d (d * suc k) (d * suc (suc k)) times in
    often m1 b d o k y
    ∙ ap (λ n. store m1 (b + o) (bytes_of ((n + d * suc k) % 2 ^ 32) 4) y) first
    ∙ ap (λ n. store m1 (b + o) (bytes_of n 4) y) sum
    ∙ stored_twice m (b + o) ((w + d) % 2 ^ 32) ((w + d * suc (suc k)) % 2 ^ 32) y
  where
    plain : (w d x y : ℕ) → y ≡ d + x → ((w + d) % 2 ^ 32 + x) % 2 ^ 32 ≡ (w + y) % 2 ^ 32
    plain w d x y e = omega (arith, e)

-- what lies before all offsets stays
before_all : (m : Bytes) (b d : ℕ) (shifts : ℕ → ℕ) (at n y : ℕ) → y < b + at → relocated m b d (shifted_offsets shifts at n) y ≡ m y
before_all m b d shifts at zero y lt = refl
before_all m b d shifts at (suc n) y lt =
    ap (λ (f : Bytes). f y) (relocated_both m b d (replicate (shifts at) at) (shifted_offsets shifts (at + 4) n))
    ∙ before_all (relocated m b d (replicate (shifts at) at)) b d shifts (at + 4) n y (omega (arith, lt)) ∙ go (shifts at)
  where
    go : (k : ℕ) → relocated m b d (replicate k at) y ≡ m y
    go zero = refl
    go (suc k) = often m b d at k y ∙ apart_store m (b + at) (bytes_of ((word m (b + at) + d * suc k) % 2 ^ 32) 4) y (inl lt)

-- ---- all words

four_in : (a e f g : ℕ) (rest : List ℕ) (j : ℕ) → j < 4 → slice_index (a ∷ e ∷ f ∷ g ∷ []) j ≡ slice_index (a ∷ e ∷ f ∷ g ∷ rest) j
four_in a e f g rest zero lt = refl
four_in a e f g rest (suc zero) lt = refl
four_in a e f g rest (suc (suc zero)) lt = refl
four_in a e f g rest (suc (suc (suc zero))) lt = refl
four_in a e f g rest (suc (suc (suc (suc j)))) lt = absurd (omega arith)

some_shifts : (d k : ℕ) (bytes : List ℕ) → shifted_word d (suc k) bytes ≡ bytes_of ((number_of bytes + d * suc k) % 2 ^ 32) 4
some_shifts d k bytes =
    let some : (suc k == 0) ≡ false = ne_eqb (suc k) 0 (λ e. absurd (omega (arith, e))) in
    ap (λ (z : Bool). if z then bytes else bytes_of ((number_of bytes + d * suc k) % 2 ^ 32) 4) some

-- the first word
first_word : (m : Bytes) (x d k a e f g : ℕ) (b at : ℕ) → x ≡ b + at → ((j : ℕ) → j < 4 → m (b + at + j) ≡ slice_index (a ∷ e ∷ f ∷ g ∷ []) j)
    → (rest : List ℕ) (j : ℕ) → j < 4 → relocated m b d (replicate k at) (b + at + j) ≡ slice_index (shifted_word d k (a ∷ e ∷ f ∷ g ∷ []) ++ rest) j
first_word m x d zero a e f g b at is has rest j lt = has j lt ∙ four_in a e f g rest j lt
first_word m x d (suc k) a e f g b at is has rest j lt =
    let number : word m (b + at) ≡ number_of (a ∷ e ∷ f ∷ g ∷ []) =
    ap number_of (load-same m (λ i. slice_index (a ∷ e ∷ f ∷ g ∷ []) i) (b + at) 0 4 (λ i below. let own : i ≡ 0 + i = omega arith in has i below ∙ ap (slice_index (a ∷ e ∷ f ∷ g ∷ [])) own)) in
    let n : ℕ = (number_of (a ∷ e ∷ f ∷ g ∷ []) + d * suc k) % 2 ^ 32 in
    often m b d at k (b + at + j)
    ∙ ap (λ z. store m (b + at) (bytes_of ((z + d * suc k) % 2 ^ 32) 4) (b + at + j)) number
    ∙ store-at m (b + at) (bytes_of n 4) j (omega (arith, lt, length-bytes_of n 4))
    ∙ sym (get_or_append_left (bytes_of n 4) rest 0 j (omega (arith, lt, length-bytes_of n 4))) ∙ ap (λ (z : List ℕ). slice_index (z ++ rest) j) (sym (some_shifts d k (a ∷ e ∷ f ∷ g ∷ [])))

word_size : (d k a e f g : ℕ) → length (shifted_word d k (a ∷ e ∷ f ∷ g ∷ [])) ≡ 4
word_size d zero a e f g = refl
word_size d (suc k) a e f g = ap length (some_shifts d k (a ∷ e ∷ f ∷ g ∷ [])) ∙ length-bytes_of ((number_of (a ∷ e ∷ f ∷ g ∷ []) + d * suc k) % 2 ^ 32) 4

pub relocated_words : (m : Bytes) (b d : ℕ) (shifts : ℕ → ℕ) (at n : ℕ) (bytes : List ℕ) → length bytes ≡ 4 * n → ((j : ℕ) → j < 4 * n → m (b + at + j) ≡ slice_index bytes j)
    → (j : ℕ) → j < 4 * n → relocated m b d (shifted_offsets shifts at n) (b + at + j) ≡ slice_index (shifted_words d shifts at bytes) j
relocated_words m b d shifts at zero bytes size has j lt = absurd (omega (arith, lt))
relocated_words m b d shifts at (suc n) [] size has j lt = absurd (omega (arith, size))
relocated_words m b d shifts at (suc n) (a ∷ []) size has j lt = absurd (omega (arith, size))
relocated_words m b d shifts at (suc n) (a ∷ e ∷ []) size has j lt = absurd (omega (arith, size))
relocated_words m b d shifts at (suc n) (a ∷ e ∷ f ∷ []) size has j lt = absurd (omega (arith, size))
relocated_words m b d shifts at (suc n) (a ∷ e ∷ f ∷ g ∷ bytes) size has j lt =
    ap (λ (h : Bytes). h (b + at + j)) (relocated_both m b d (replicate (shifts at) at) (shifted_offsets shifts (at + 4) n))
    ∙ go (cases_lt j 4) (λ i below. relocated_words m1 b d shifts (at + 4) n bytes (omega (arith, size)) later i below)
  where
    m1 : Bytes
    m1 = relocated m b d (replicate (shifts at) at)

    rest : List ℕ
    rest = shifted_words d shifts (at + 4) bytes

    own : (i : ℕ) → i < 4 → m (b + at + i) ≡ slice_index (a ∷ e ∷ f ∷ g ∷ []) i
    own i below = has i (omega (arith, below)) ∙ sym (four_in a e f g bytes i below)

    unmoved : (k y : ℕ) → b + at + 4 ≤ y → relocated m b d (replicate k at) y ≡ m y
    unmoved zero y le = refl
    unmoved (suc k) y le = often m b d at k y ∙ apart_store m (b + at) (bytes_of ((word m (b + at) + d * suc k) % 2 ^ 32) 4) y (inr (omega (arith, le)))

    later : (i : ℕ) → i < 4 * n → relocated m b d (replicate (shifts at) at) (b + (at + 4) + i) ≡ slice_index bytes i
    later i below =
        let there : b + (at + 4) + i ≡ b + at + suc (suc (suc (suc i))) = omega arith in
        unmoved (shifts at) (b + (at + 4) + i) (omega arith) ∙ ap m there ∙ has (suc (suc (suc (suc i)))) (omega (arith, below))

    go : (j < 4) ⊎ (4 ≤ j)
        → ((i : ℕ) → i < 4 * n → relocated (relocated m b d (replicate (shifts at) at)) b d (shifted_offsets shifts (at + 4) n) (b + (at + 4) + i) ≡ slice_index (shifted_words d shifts (at + 4) bytes) i)
        → relocated (relocated m b d (replicate (shifts at) at)) b d (shifted_offsets shifts (at + 4) n) (b + at + j)
        ≡ slice_index (shifted_word d (shifts at) (a ∷ e ∷ f ∷ g ∷ []) ++ shifted_words d shifts (at + 4) bytes) j
    go (inl first) behind =
        before_all (relocated m b d (replicate (shifts at) at)) b d shifts (at + 4) n (b + at + j) (omega (arith, first))
        ∙ first_word m (b + at) d (shifts at) a e f g b at refl own (shifted_words d shifts (at + 4) bytes) j first
    go (inr from) behind =
        let there : b + at + j ≡ b + (at + 4) + (j - 4) = omega (arith, from) in
        let size4 = word_size d (shifts at) a e f g in
        let back : j - length (shifted_word d (shifts at) (a ∷ e ∷ f ∷ g ∷ [])) ≡ j - 4 = omega (arith, size4) in
        ap (relocated (relocated m b d (replicate (shifts at) at)) b d (shifted_offsets shifts (at + 4) n)) there ∙ behind (j - 4) (omega (arith, lt, from))
        ∙ ap (slice_index (shifted_words d shifts (at + 4) bytes)) (sym back)
        ∙ sym (get_or-append_right (shifted_word d (shifts at) (a ∷ e ∷ f ∷ g ∷ [])) (shifted_words d shifts (at + 4) bytes) j 0 (omega (arith, size4, from)))

-- ---- two words that are marked: four bytes from 4 on, and four from 40 on

module _ (m : Bytes) (b : ℕ) (front call middle own rest call2 own2 rest2 : List ℕ) (limit : ℕ)
    (s1 : length front ≡ 4) (s2 : length call ≡ 4) (s3 : length middle ≡ 32) (s4 : length own ≡ 4) (t2 : length call2 ≡ 4) (t4 : length own2 ≡ 4)
    (has : (n : ℕ) → n < limit → m (b + n) ≡ slice_index (front ++ (call ++ (middle ++ (own ++ rest)))) n)
    (same : (n : ℕ) → 44 + n < limit → slice_index rest n ≡ slice_index rest2 n) where
  skip : (xs ys : List ℕ) (k n : ℕ) → length xs ≡ k → k ≤ n → slice_index (xs ++ ys) n ≡ slice_index ys (n - k)
  skip xs ys k n size le = get_or-append_right xs ys n 0 (omega (arith, size, le)) ∙ ap (λ z. slice_index ys (n - z)) size

  take_ : (xs ys : List ℕ) (k n : ℕ) → length xs ≡ k → n < k → slice_index (xs ++ ys) n ≡ slice_index xs n
  take_ xs ys k n size lt = get_or_append_left xs ys 0 n (omega (arith, size, lt))

  pub marked_bytes : (n : ℕ) → n < limit → store (store m (b + 40) own2) (b + 4) call2 (b + n) ≡ slice_index (front ++ (call2 ++ (middle ++ (own2 ++ rest2)))) n
  marked_bytes n lt = go (cases_lt n 4) (cases_lt n 8) (cases_lt n 40) (cases_lt n 44)
    where
      old : ℕ → ℕ
      old k = slice_index (front ++ (call ++ (middle ++ (own ++ rest)))) k

      go : (n < 4) ⊎ (4 ≤ n) → (n < 8) ⊎ (8 ≤ n) → (n < 40) ⊎ (40 ≤ n) → (n < 44) ⊎ (44 ≤ n) → store (store m (b + 40) own2) (b + 4) call2 (b + n) ≡ slice_index (front ++ (call2 ++ (middle ++ (own2 ++ rest2)))) n
      go (inl h) h8 h40 h44 =
          apart_store (store m (b + 40) own2) (b + 4) call2 (b + n) (inl (omega (arith, h))) ∙ apart_store m (b + 40) own2 (b + n) (inl (omega (arith, h))) ∙ has n lt
          ∙ take_ front (call ++ (middle ++ (own ++ rest))) 4 n s1 h ∙ sym (take_ front (call2 ++ (middle ++ (own2 ++ rest2))) 4 n s1 h)
      go (inr f) (inl h) h40 h44 =
          let back : b + n - (b + 4) ≡ n - 4 = omega arith in
          store-in (store m (b + 40) own2) (b + 4) call2 (b + n) (omega (arith, f)) (omega (arith, h, t2)) ∙ ap (slice_index call2) back
          ∙ sym (skip front (call2 ++ (middle ++ (own2 ++ rest2))) 4 n s1 f ∙ take_ call2 (middle ++ (own2 ++ rest2)) 4 (n - 4) t2 (omega (arith, f, h)))
      go (inr f) (inr g) (inl h) h44 =
          apart_store (store m (b + 40) own2) (b + 4) call2 (b + n) (inr (omega (arith, g, t2))) ∙ apart_store m (b + 40) own2 (b + n) (inl (omega (arith, h))) ∙ has n lt
          ∙ skip front (call ++ (middle ++ (own ++ rest))) 4 n s1 f ∙ skip call (middle ++ (own ++ rest)) 4 (n - 4) s2 (omega (arith, g))
          ∙ take_ middle (own ++ rest) 32 (n - 4 - 4) s3 (omega (arith, g, h))
          ∙ sym (skip front (call2 ++ (middle ++ (own2 ++ rest2))) 4 n s1 f ∙ skip call2 (middle ++ (own2 ++ rest2)) 4 (n - 4) t2 (omega (arith, g)) ∙ take_ middle (own2 ++ rest2) 32 (n - 4 - 4) s3 (omega (arith, g, h)))
      go (inr f) (inr g) (inr h) (inl k) =
          let back : b + n - (b + 40) ≡ n - 4 - 4 - 32 = omega arith in
          apart_store (store m (b + 40) own2) (b + 4) call2 (b + n) (inr (omega (arith, g, t2))) ∙ store-in m (b + 40) own2 (b + n) (omega (arith, h)) (omega (arith, k, t4)) ∙ ap (slice_index own2) back
          ∙ sym (skip front (call2 ++ (middle ++ (own2 ++ rest2))) 4 n s1 f ∙ skip call2 (middle ++ (own2 ++ rest2)) 4 (n - 4) t2 (omega (arith, g)) ∙ skip middle (own2 ++ rest2) 32 (n - 4 - 4) s3 (omega (arith, h))
          ∙ take_ own2 rest2 4 (n - 4 - 4 - 32) t4 (omega (arith, k, h)))
      go (inr f) (inr g) (inr h) (inr k) =
          apart_store (store m (b + 40) own2) (b + 4) call2 (b + n) (inr (omega (arith, g, t2))) ∙ apart_store m (b + 40) own2 (b + n) (inr (omega (arith, k, t4))) ∙ has n lt
          ∙ skip front (call ++ (middle ++ (own ++ rest))) 4 n s1 f ∙ skip call (middle ++ (own ++ rest)) 4 (n - 4) s2 (omega (arith, g)) ∙ skip middle (own ++ rest) 32 (n - 4 - 4) s3 (omega (arith, h))
          ∙ skip own rest 4 (n - 4 - 4 - 32) s4 (omega (arith, k)) ∙ same (n - 4 - 4 - 32 - 4) (omega (arith, k, lt))
          ∙ sym (skip front (call2 ++ (middle ++ (own2 ++ rest2))) 4 n s1 f ∙ skip call2 (middle ++ (own2 ++ rest2)) 4 (n - 4) t2 (omega (arith, g)) ∙ skip middle (own2 ++ rest2) 32 (n - 4 - 4) s3 (omega (arith, h))
          ∙ skip own2 rest2 4 (n - 4 - 4 - 32) t4 (omega (arith, k)))
