-- What is read, loaded and stored beside other bytes in the work area.
use Rattle.std.proofs.Common.{◌≡◌, ℕ, zero, suc, ◌+◌, ◌-◌, ◌<◌, ◌≤◌, Bool, true, false, List, length, refl, sym, ap, ◌∙◌, arith, ◌⊎◌, inl, inr}
use Rattle.std.specs.Prelude.{◌||◌}
use Rattle.base_lemmas.proofs.BaseLemmas.{first_of_both}
use Rattle.sdt_word.specs.Bytes.{bytes_of, load}
use Rattle.sdt_word.specs.Codes.{bytes_in}
use Rattle.sdt_word.specs.declared.codes.Width.{Width}
use Rattle.sdt_word.specs.declared.codes.Width.TheVariants.{Byte, Half, Word}
use Rattle.arm7_model.specs.Accesses.{Working, after_fetch, after_load, after_store, answers_after, memory_after, read_at}
use Rattle.arm7_model.specs.Memory.{Board, Bytes, all_from, in_memory, is_there, may_store, store}
use Rattle.arm7_model.proofs.MemoryLemmas.{below_or_not, load-same, store-above, store-below, store-swap}
use Rattle.kit_laws.specs.Beside.{Scratch, besides}
use Rattle.kit_laws.specs.Rules.{IsOff, IsPlain, EachFrom}

pub off-store : (m : Bytes) (work : ℕ) (k : Scratch) (x : ℕ) → IsOff work x → store m work k.bytes x ≡ m x
off-store m work k x (inl h) = store-below m work k.bytes x h
off-store m work k x (inr h) = let n = k.twelve in store-above m work k.bytes x (omega arith)

pub off-load : (b : Board) (m : Bytes) (work : ℕ) (k : Scratch) (a n : ℕ) → EachFrom (IsPlain b work) a n → load (store m work k.bytes) a n ≡ load m a n
off-load b m work k a n own = load-same (store m work k.bytes) m a a n (λ i lt. off-store m work k (a + i) (own i lt).off)

-- an access off the work area lies on one side of it
pub apart : (work a n : ℕ) → 0 < n → ((i : ℕ) → i < n → IsOff work (a + i)) → (a + n ≤ work) ⊎ (work + 12 ≤ a)
apart work a n some off = go (off 0 some) (below_or_not work (a + n))
  where
    wrong : a < work → IsOff work (a + (work - a)) → ⊥
    wrong l (inl h) = omega arith
    wrong l (inr h) = omega arith

    go : IsOff work (a + 0) → (work < a + n) ⊎ (a + n ≤ work) → (a + n ≤ work) ⊎ (work + 12 ≤ a)
    go (inr h) s = inr (omega arith)
    go (inl h) (inr s) = inl s
    go (inl h) (inl s) = absurd (wrong (omega arith) (off (work - a) (omega arith)))

pub off-stored : (m : Bytes) (work : ℕ) (k : Scratch) (a : ℕ) (bs : List ℕ) → (a + length bs ≤ work) ⊎ (work + 12 ≤ a)
    → store (store m work k.bytes) a bs ≡ store (store m a bs) work k.bytes
off-stored m work k a bs (inl h) = sym (store-swap m a bs work k.bytes h)
off-stored m work k a bs (inr h) = let n = k.twelve in store-swap m work k.bytes a bs (omega arith)

-- what is there and no device is memory
pub plain-memory : (b : Board) (work a : ℕ) (width : Width) → EachFrom (IsPlain b work) a (bytes_in width) → is_there b a (bytes_in width) ≡ true → in_memory b a (bytes_in width) ≡ true
unfolding is_there in_memory
plain-memory b work a width own there = go (bytes_in width) (some width) own there
  where
    some : (w : Width) → 0 < bytes_in w
    some Byte = omega arith
    some Half = omega arith
    some Word = omega arith

    or-first : (x y : Bool) → y ≡ false → (x || y) ≡ true → x ≡ true
    or-first true y e h = refl
    or-first false y e h = absurd cc

    go : (n : ℕ) → 0 < n → EachFrom (IsPlain b work) a n → (all_from b.memory a n || all_from b.device a n) ≡ true → all_from b.memory a n ≡ true
    go zero p own h = absurd (omega arith)
    go (suc n) p own h =
        let none : b.device a ≡ false = ap b.device (omega arith) ∙ (own 0 (omega arith)).device in
        or-first (all_from b.memory a (suc n)) (all_from b.device a (suc n)) (rw none refl) h

pub plain-store : (b : Board) (work a : ℕ) (width : Width) → EachFrom (IsPlain b work) a (bytes_in width) → may_store b a (bytes_in width) ≡ true → in_memory b a (bytes_in width) ≡ true
unfolding may_store is_there
plain-store b work a width own may = plain-memory b work a width own (first_of_both (all_from b.memory a (bytes_in width) || all_from b.device a (bytes_in width)) _ may)

-- ---- reads and writes under way

module _ (b : Board) (work : ℕ) (k : Scratch) (answers : List ℕ) where
  pub read-beside : (w : Working) (a : ℕ) (width : Width) → EachFrom (IsPlain b work) a (bytes_in width) → in_memory b a (bytes_in width) ≡ true
      → read_at b (besides work k answers w) a width ≡ read_at b w a width
  unfolding read_at
  read-beside w a width own inside = rw (inside, off-load b w.memory work k a (bytes_in width) own) refl

  pub fetch-beside : (w : Working) (a : ℕ) (width : Width) → in_memory b a (bytes_in width) ≡ true
      → after_fetch b (besides work k answers w) a width ≡ besides work k answers (after_fetch b w a width)
  unfolding after_fetch answers_after
  fetch-beside w a width inside = rw inside refl

  pub load-beside : (w : Working) (a : ℕ) (width : Width) → in_memory b a (bytes_in width) ≡ true
      → after_load b (besides work k answers w) a width ≡ besides work k answers (after_load b w a width)
  unfolding after_load answers_after
  load-beside w a width inside = rw inside refl

  pub store-beside : (w : Working) (a : ℕ) (width : Width) (v : ℕ) → EachFrom (IsPlain b work) a (bytes_in width) → in_memory b a (bytes_in width) ≡ true
      → after_store b (besides work k answers w) a width v ≡ besides work k answers (after_store b w a width v)
  unfolding after_store memory_after
  store-beside w a width v own inside =
      rw (inside, off-stored w.memory work k a (bytes_of v (bytes_in width)) (side width (apart work a (bytes_in width) (some width) (λ i lt. (own i lt).off)))) refl
    where
      some : (x : Width) → 0 < bytes_in x
      some Byte = omega arith
      some Half = omega arith
      some Word = omega arith

      side : (x : Width) → (a + bytes_in x ≤ work) ⊎ (work + 12 ≤ a) → (a + length (bytes_of v (bytes_in x)) ≤ work) ⊎ (work + 12 ≤ a)
      side Byte h = h
      side Half h = h
      side Word h = h
