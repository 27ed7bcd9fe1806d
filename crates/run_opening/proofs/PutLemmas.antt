-- Bytes that are put into memory, an access at a time.
use Rattle.std.proofs.Common.{◌≡◌, ℕ, zero, suc, ◌+◌, ◌-◌, ◌/◌, ◌%◌, ◌<◌, ◌≤◌, Bool, true, false, ◌||◌, List, [], ◌∷◌, ◌++◌, length, take, drop, get_or, None, refl, sym, ap, ◌∙◌, subst, arith, length-take-le, length-drop}
use Rattle.std.proofs.lemmas.Bool.Decides.{nat_tests}
use Rattle.sdt_word.specs.declared.codes.Width.{Width}
use Rattle.sdt_word.specs.declared.codes.Width.TheVariants.{Byte, Half, Word}
use Rattle.sdt_word.specs.Bytes.{bytes_of, number_of, word_in}
use Rattle.sdt_word.specs.Codes.{bytes_in}
use Rattle.sdt_word.proofs.BytesLemmas.{bytes_of-number_of}
use Rattle.arm7_model.specs.Memory.{store}
use Rattle.arm7_model.proofs.MemoryLemmas.{any-from, store-append}
use Rattle.arm7_bus.specs.declared.memory.Bank.{Bank}
use Rattle.arm7_bus.specs.Buses.{after_forget, after_write}
use Rattle.arm7_bus.specs.Paging.{page_used_in}
use Rattle.arm7_bus.specs.Seats.{has_access}
use Rattle.arm7_bus.specs.States.{Contents, State, after_store, bank_has, is_protected, protected_at, store_fault}
use Rattle.arm7_bus.specs.WholeWords.{AreWholeBanks}
use Rattle.arm7_transfers.proofs.ReadyLemmas.{set-used}
use Rattle.run_opening.specs.Fills.{IsOpen, IsUsable, after_put}

or_true : (x y z : Bool) → (x || y) ≡ true → (x ≡ true → z ≡ true) → (y ≡ true → z ≡ true) → z ≡ true
or_true true y z e f g = f refl
or_true false y z e f g = g e

or_left : (x y : Bool) → x ≡ true → (x || y) ≡ true
or_left true y e = refl
or_left false y e = absurd (cc)

or_right : (x y : Bool) → y ≡ true → (x || y) ≡ true
or_right true y e = refl
or_right false y e = e

-- a range of whole words has an aligned access where it has its first byte
whole : (base size a : ℕ) (w : Width) → base % 4 ≡ 0 → size % 4 ≡ 0 → a % bytes_in w ≡ 0 → has_access base size a 1 ≡ true → has_access base size a (bytes_in w) ≡ true
whole base size a Byte b s h e = e
whole base size a Half b s h e = grind (arith, nat_tests)
whole base size a Word b s h e = grind (arith, nat_tests)

all_of : (banks : List Bank) (a : ℕ) (w : Width) → AreWholeBanks banks → a % bytes_in w ≡ 0 → bank_has banks a 1 ≡ true → bank_has banks a (bytes_in w) ≡ true
all_of [] a w words h e = absurd (cc)
all_of (b ∷ bs) a w words h e =
    or_true (has_access b.range.base b.range.size a 1) (bank_has bs a 1) (bank_has (b ∷ bs) a (bytes_in w)) e
    (λ x. or_left (has_access b.range.base b.range.size a (bytes_in w)) (bank_has bs a (bytes_in w)) (whole b.range.base b.range.size a w words.0.0 words.0.1 h x))
    (λ x. or_right (has_access b.range.base b.range.size a (bytes_in w)) (bank_has bs a (bytes_in w)) (all_of bs a w words.1 h x))

some_bytes : (w : Width) → 0 < bytes_in w
some_bytes Byte = omega arith
some_bytes Half = omega arith
some_bytes Word = omega arith

no_fault : (c : Contents) (a : ℕ) (w : Width) → is_protected c.banks a (bytes_in w) ≡ false → page_used_in c.used a ≡ true → store_fault c a (bytes_in w) ≡ None
no_fault c a w p u = rw (p, u) refl

made : (s : State) (a : ℕ) (w : Width) (v : ℕ) → bank_has s.contents.banks a (bytes_in w) ≡ true → store_fault s.contents a (bytes_in w) ≡ None
    → after_write s a w v ≡ record s { contents = after_store s.contents a w v }
made s a w v b f = rw (b, f) refl

pub put : (s t u : State) (a : ℕ) (w : Width) (v : ℕ) → IsOpen s → IsUsable s.contents a (bytes_in w) → a % bytes_in w ≡ 0
    → t ≡ after_write s a w v → u ≡ after_forget t → u ≡ after_put s a (bytes_of v (bytes_in w))
put s t u a w v o here h e k =
    let some = some_bytes w in
    let bank : bank_has s.contents.banks a (bytes_in w) ≡ true = all_of s.contents.banks a w o.whole h (here.bank a (omega arith) (omega arith)) in
    let page : page_used_in s.contents.used a ≡ true = here.page a (omega arith) (omega arith) in
    let free : is_protected s.contents.banks a (bytes_in w) ≡ false = any-from (protected_at s.contents.banks) a (bytes_in w) (λ i lt. o.free (a + i)) in
    k ∙ ap after_forget (e ∙ made s a w v bank (no_fault s.contents a w free page))
    ∙ rw (set-used s.contents.used (a / 4096) page, o.quiet) refl

-- ---- a piece of some bytes

part_length : (xs : List ℕ) (i k : ℕ) → i + k ≤ length xs → length (take k (drop i xs)) ≡ k
part_length xs i k le = let d = length-drop i xs in length-take-le k (drop i xs) (omega arith)

word_bytes : (xs : List ℕ) (i v : ℕ) → i + 4 ≤ length xs → ((k : ℕ) → get_or xs k 0 < 256) → v ≡ word_in xs i → bytes_of v 4 ≡ take 4 (drop i xs)
word_bytes xs i v le small e =
    rw e (subst (λ (n : ℕ). bytes_of (number_of (take 4 (drop i xs))) n ≡ take 4 (drop i xs)) (part_length xs i 4 le) (bytes_of-number_of (take 4 (drop i xs)) (λ k. part_small xs i 4 k small)))
  where
    drop_small : (xs : List ℕ) (i k : ℕ) → ((k : ℕ) → get_or xs k 0 < 256) → get_or (drop i xs) k 0 < 256
    drop_small [] zero k h = h k
    drop_small [] (suc i) k h = h k
    drop_small (x ∷ xs) zero k h = h k
    drop_small (x ∷ xs) (suc i) k h = drop_small xs i k (λ j. h (suc j))

    take_small : (xs : List ℕ) (n k : ℕ) → ((k : ℕ) → get_or xs k 0 < 256) → get_or (take n xs) k 0 < 256
    take_small xs zero k h = omega arith
    take_small [] (suc n) k h = h k
    take_small (x ∷ xs) (suc n) zero h = h 0
    take_small (x ∷ xs) (suc n) (suc k) h = take_small xs n k (λ j. h (suc j))

    part_small : (xs : List ℕ) (i n k : ℕ) → ((k : ℕ) → get_or xs k 0 < 256) → get_or (take n (drop i xs)) k 0 < 256
    part_small xs i n k h = take_small (drop i xs) n k (λ j. drop_small xs i j h)

pub put_word : (s u : State) (a i v : ℕ) (xs : List ℕ) → i + 4 ≤ length xs → ((k : ℕ) → get_or xs k 0 < 256) → v ≡ word_in xs i → u ≡ after_put s a (bytes_of v 4)
    → u ≡ after_put s a (take (i + 4 - i) (drop i xs))
put_word s u a i v xs le small e k =
    let n : i + 4 - i ≡ 4 = omega arith in
    k ∙ ap (after_put s a) (word_bytes xs i v le small e ∙ ap (λ (m : ℕ). take m (drop i xs)) (sym n))

-- ---- one piece after another

joined : (xs : List ℕ) (i j : ℕ) → i ≤ j → take j xs ≡ take i xs ++ take (j - i) (drop i xs)
joined xs zero j le = let e : j - 0 ≡ j = omega arith in rw e refl
joined [] (suc i) zero le = absurd (omega arith)
joined [] (suc i) (suc j) le = take_none (suc j - suc i)
  where
    take_none : (n : ℕ) → [] ≡ take {A = ℕ} n []
    take_none zero = refl
    take_none (suc n) = refl
joined (x ∷ xs) (suc i) zero le = absurd (omega arith)
joined (x ∷ xs) (suc i) (suc j) le =
    let e : suc j - suc i ≡ j - i = omega arith in
    rw e (ap (λ (ys : List ℕ). x ∷ ys) (joined xs i j (omega arith)))

pub put_on : (s t u : State) (base_of i j : ℕ) (xs : List ℕ) → i ≤ j → i ≤ length xs → t ≡ after_put s base_of (take i xs) → u ≡ after_put t (base_of + i) (take (j - i) (drop i xs))
    → u ≡ after_put s base_of (take j xs)
put_on s t u base_of i j xs le within e k =
    let n : length (take i xs) ≡ i = length-take-le i xs within in
    k ∙ ap (λ (x : State). after_put x (base_of + i) (take (j - i) (drop i xs))) e
    ∙ ap (λ (m : ℕ → ℕ). record s { contents = record s.contents { memory = m } })
    (ap (λ (l : ℕ). store (store s.contents.memory base_of (take i xs)) (base_of + l) (take (j - i) (drop i xs))) (sym n)
    ∙ sym (store-append s.contents.memory base_of (take i xs) (take (j - i) (drop i xs)))
    ∙ ap (store s.contents.memory base_of) (sym (joined xs i j le)))
