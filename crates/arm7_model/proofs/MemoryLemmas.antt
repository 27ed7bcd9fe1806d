-- Memory: what a store leaves, what is loaded after it, and copies by parts in both directions.
use Rattle.std.proofs.Common.{◌≡◌, ◌≢◌, ℕ, zero, suc, ◌+◌, ◌-◌, ◌<◌, ◌≤◌, Bool, true, false, nat_lt, ◌==◌, List, [], ◌∷◌, ◌++◌, length, get_or, refl, sym, ap, ◌∙◌, arith, ltb-true, ltb-false, eqb-true, eq-eqb, ◌⊎◌, inl, inr, length-append, cond}
use Rattle.std.proofs.Math.ListN.{get_or-append}
use Rattle.std.proofs.Math.Seq.{get_or-append_right}
use Rattle.std.proofs.Math.Path.{fun_ext}
use Rattle.sdt_word.specs.Bytes.{bytes_of, number_of, load, word}
use Rattle.sdt_word.proofs.BytesLemmas.{length-load, bytes_of-number_of}
use Rattle.arm7_model.specs.Memory.{Bytes, store, all_from, any_from}

-- ---- one order or the other
pub below_or_not : (x a : ℕ) → (x < a) ⊎ (a ≤ x)
below_or_not x a = go (nat_lt x a) refl
  where
    go : (b : Bool) → nat_lt x a ≡ b → (x < a) ⊎ (a ≤ x)
    go true e = inl (ltb-true x a e)
    go false e = inr (ltb-false x a e)

pub not-eq : (x a : ℕ) → x ≢ a → (x == a) ≡ false
not-eq x a h = go (x == a) refl
  where
    go : (b : Bool) → (x == a) ≡ b → (x == a) ≡ false
    go true e = absurd (h (eqb-true x a e))
    go false e = e

-- ---- a store at an address, and outside
pub store-below : (m : Bytes) (a : ℕ) (bs : List ℕ) (x : ℕ) → x < a → store m a bs x ≡ m x
store-below m a [] x h = refl
store-below m a (b ∷ bs) x h =
    let other = not-eq x a (λ e. omega arith) in
    rw other (store-below m (suc a) bs x (omega arith))

pub store-above : (m : Bytes) (a : ℕ) (bs : List ℕ) (x : ℕ) → a + length bs ≤ x → store m a bs x ≡ m x
store-above m a [] x h = refl
store-above m a (b ∷ bs) x h =
    let other = not-eq x a (λ e. omega arith) in
    rw other (store-above m (suc a) bs x (omega arith))

pub store-at : (m : Bytes) (a : ℕ) (bs : List ℕ) (k : ℕ) → k < length bs → store m a bs (a + k) ≡ get_or bs k 0
store-at m a [] k h = absurd (omega arith)
store-at m a (b ∷ bs) zero h =
    let here : (a + 0 == a) ≡ true = eq-eqb (a + 0) a (omega arith) in
    rw here refl
store-at m a (b ∷ bs) (suc k) h =
    let other = not-eq (a + suc k) a (λ e. omega arith) in
    let moved : a + suc k ≡ suc a + k = omega arith in
    rw other (ap (store m (suc a) bs) moved ∙ store-at m (suc a) bs k (omega arith))

-- at x between a and the end, the byte is the one of its place
pub store-in : (m : Bytes) (a : ℕ) (bs : List ℕ) (x : ℕ) → a ≤ x → x < a + length bs → store m a bs x ≡ get_or bs (x - a) 0
store-in m a bs x low high =
    let place : x ≡ a + (x - a) = omega arith in
    ap (store m a bs) place ∙ store-at m a bs (x - a) (omega arith)

-- ---- loads of equal bytes
pub load-same : (m n : Bytes) (a b k : ℕ) → ((i : ℕ) → i < k → m (a + i) ≡ n (b + i)) → load m a k ≡ load n b k
load-same m n a b zero h = refl
load-same m n a b (suc k) h =
    let first : m a ≡ n b = ap m (omega arith) ∙ h 0 (omega arith) ∙ ap n (omega arith) in
    let rest = load-same m n (suc a) (suc b) k (λ i lt. ap m (omega arith) ∙ h (suc i) (omega arith) ∙ ap n (omega arith)) in
    rw (first, rest) refl

-- a load outside a store
pub load-store_apart : (m : Bytes) (a : ℕ) (bs : List ℕ) (b k : ℕ) → (b + k ≤ a) ⊎ (a + length bs ≤ b) → load (store m a bs) b k ≡ load m b k
load-store_apart m a bs b k (inl h) = load-same (store m a bs) m b b k (λ i lt. store-below m a bs (b + i) (omega arith))
load-store_apart m a bs b k (inr h) = load-same (store m a bs) m b b k (λ i lt. store-above m a bs (b + i) (omega arith))

pub word-store_apart : (m : Bytes) (a : ℕ) (bs : List ℕ) (b : ℕ) → (b + 4 ≤ a) ⊎ (a + length bs ≤ b) → word (store m a bs) b ≡ word m b
word-store_apart m a bs b h = ap number_of (load-store_apart m a bs b 4 h)

-- ---- stores by parts
pub store-append : (m : Bytes) (a : ℕ) (front back : List ℕ) → store m a (front ++ back) ≡ store (store m a front) (a + length front) back
store-append m a front back = fun_ext (λ x. go x (below_or_not x a) (below_or_not x (a + length front)))
  where
    whole : length (front ++ back) ≡ length front + length back
    whole = length-append front back

    at : (x : ℕ) → (x < a + length front + length back) ⊎ (a + length front + length back ≤ x) → a + length front ≤ x
        → store m a (front ++ back) x ≡ store (store m a front) (a + length front) back x
    at x (inl k) h =
        let inside : x - a - length front ≡ x - (a + length front) = omega arith in
        store-in m a (front ++ back) x (omega arith) (omega (arith, whole))
        ∙ get_or-append_right front back (x - a) 0 (omega arith)
        ∙ ap (λ (i : ℕ). get_or back i 0) inside
        ∙ sym (store-in (store m a front) (a + length front) back x h (omega arith))
    at x (inr k) h =
        store-above m a (front ++ back) x (omega (arith, whole))
        ∙ sym (store-above (store m a front) (a + length front) back x (omega arith) ∙ store-above m a front x h)

    go : (x : ℕ) → (x < a) ⊎ (a ≤ x) → (x < a + length front) ⊎ (a + length front ≤ x)
        → store m a (front ++ back) x ≡ store (store m a front) (a + length front) back x
    go x (inl h) _ =
        store-below m a (front ++ back) x h
        ∙ sym (store-below (store m a front) (a + length front) back x (omega arith) ∙ store-below m a front x h)
    go x (inr h) (inl k) =
        store-in m a (front ++ back) x h (omega (arith, whole))
        ∙ get_or-append front back 0 (x - a) (omega arith)
        ∙ sym (store-below (store m a front) (a + length front) back x k ∙ store-in m a front x h k)
    go x (inr h) (inr k) = at x (below_or_not x (a + length front + length back)) k

-- stores to places apart change places
pub store-swap : (m : Bytes) (a : ℕ) (cs : List ℕ) (b : ℕ) (bs : List ℕ) → a + length cs ≤ b → store (store m a cs) b bs ≡ store (store m b bs) a cs
store-swap m a cs b bs apart = fun_ext (λ x. go x (below_or_not x a) (below_or_not x (a + length cs)) (below_or_not x b) (below_or_not x (b + length bs)))
  where
    go : (x : ℕ) → (x < a) ⊎ (a ≤ x) → (x < a + length cs) ⊎ (a + length cs ≤ x) → (x < b) ⊎ (b ≤ x) → (x < b + length bs) ⊎ (b + length bs ≤ x)
        → store (store m a cs) b bs x ≡ store (store m b bs) a cs x
    go x (inl h) _ _ _ =
        store-below (store m a cs) b bs x (omega arith) ∙ store-below m a cs x h
        ∙ sym (store-below (store m b bs) a cs x h ∙ store-below m b bs x (omega arith))
    go x (inr h) (inl k) _ _ =
        store-below (store m a cs) b bs x (omega arith) ∙ store-in m a cs x h k ∙ sym (store-in (store m b bs) a cs x h k)
    go x (inr h) (inr k) (inl l) _ =
        store-below (store m a cs) b bs x l ∙ store-above m a cs x k
        ∙ sym (store-above (store m b bs) a cs x k ∙ store-below m b bs x l)
    go x (inr h) (inr k) (inr l) (inl p) =
        store-in (store m a cs) b bs x l p ∙ sym (store-above (store m b bs) a cs x k ∙ store-in m b bs x l p)
    go x (inr h) (inr k) (inr l) (inr p) =
        store-above (store m a cs) b bs x p ∙ store-above m a cs x k
        ∙ sym (store-above (store m b bs) a cs x k ∙ store-above m b bs x p)

-- ---- loads by parts
pub load-add : (m : Bytes) (a n k : ℕ) → load m a (n + k) ≡ load m a n ++ load m (a + n) k
load-add m a zero k =
    let none : 0 + k ≡ k = omega arith in
    let same : a + 0 ≡ a = omega arith in
    rw (none, same) refl
load-add m a (suc n) k =
    let more : suc n + k ≡ suc (n + k) = omega arith in
    let moved : a + suc n ≡ suc a + n = omega arith in
    rw (more, moved) (ap (λ (l : List ℕ). m a ∷ l) (load-add m (suc a) n k))

-- ---- copies by parts: a copy is a store of what was loaded

-- upwards to a lower address: the first part, then the rest as it then is
pub copy_up : (m : Bytes) (s t n k : ℕ) → t ≤ s
    → store (store m t (load m s n)) (t + n) (load (store m t (load m s n)) (s + n) k) ≡ store m t (load m s (n + k))
copy_up m s t n k h =
    let count = length-load m s n in
    let still : load (store m t (load m s n)) (s + n) k ≡ load m (s + n) k = load-store_apart m t (load m s n) (s + n) k (inr (omega arith)) in
    let place : t + n ≡ t + length (load m s n) = omega arith in
    rw still (ap (λ (a : ℕ). store (store m t (load m s n)) a (load m (s + n) k)) place
    ∙ sym (store-append m t (load m s n) (load m (s + n) k))
    ∙ ap (store m t) (sym (load-add m s n k)))

-- downwards to a higher address: the last part, then the rest as it then is
pub copy_down : (m : Bytes) (s t n k : ℕ) → s ≤ t
    → store (store m (t + n) (load m (s + n) k)) t (load (store m (t + n) (load m (s + n) k)) s n) ≡ store m t (load m s (n + k))
copy_down m s t n k h =
    let count = length-load m s n in
    let still : load (store m (t + n) (load m (s + n) k)) s n ≡ load m s n = load-store_apart m (t + n) (load m (s + n) k) s n (inl (omega arith)) in
    let place : t + n ≡ t + length (load m s n) = omega arith in
    rw still (sym (store-swap m t (load m s n) (t + n) (load m (s + n) k) (omega arith))
    ∙ ap (λ (a : ℕ). store (store m t (load m s n)) a (load m (s + n) k)) place
    ∙ sym (store-append m t (load m s n) (load m (s + n) k))
    ∙ ap (store m t) (sym (load-add m s n k)))

-- ---- words
-- the bytes of a word are loaded as they stand
pub bytes_of-word : (m : Bytes) (a : ℕ) → ((x : ℕ) → m x < 256) → bytes_of (word m a) 4 ≡ load m a 4
bytes_of-word m a h = bytes_of-number_of (load m a 4) (λ i. search (arith, h))

cond_below : (t : Bool) (x y : ℕ) → x < 256 → y < 256 → cond t x y < 256
cond_below true x y hx hy = hx
cond_below false x y hx hy = hy

-- memory holds bytes after a store of bytes
pub bytes-store : (m : Bytes) (a : ℕ) (bs : List ℕ) → ((x : ℕ) → m x < 256) → ((k : ℕ) → get_or bs k 0 < 256) → (x : ℕ) → store m a bs x < 256
bytes-store m a [] hm hb x = hm x
bytes-store m a (b ∷ bs) hm hb x = cond_below (x == a) b (store m (suc a) bs x) (hb 0) (bytes-store m (suc a) bs hm (λ k. hb (suc k)) x)

-- ---- the board
pub all-from : (p : ℕ → Bool) (a n : ℕ) → ((k : ℕ) → k < n → p (a + k) ≡ true) → all_from p a n ≡ true
all-from p a zero h = refl
all-from p a (suc n) h =
    let first : p a ≡ true = ap p (omega arith) ∙ h 0 (omega arith) in
    rw first (all-from p (suc a) n (λ k lt. ap p (omega arith) ∙ h (suc k) (omega arith)))

pub any-from : (p : ℕ → Bool) (a n : ℕ) → ((k : ℕ) → k < n → p (a + k) ≡ false) → any_from p a n ≡ false
any-from p a zero h = refl
any-from p a (suc n) h =
    let first : p a ≡ false = ap p (omega arith) ∙ h 0 (omega arith) in
    rw first (any-from p (suc a) n (λ k lt. ap p (omega arith) ∙ h (suc k) (omega arith)))
