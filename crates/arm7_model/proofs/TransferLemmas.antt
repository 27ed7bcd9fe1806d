-- Loads and stores of whole words in memory: one of them, and several in a row.
use Rattle.std.proofs.Common.{◌≡◌, ℕ, zero, suc, ◌+◌, ◌-◌, ◌*◌, ◌%◌, ◌^◌, ◌<◌, ◌≤◌, Bool, true, false, ◌==◌, List, [], ◌∷◌, ◌++◌, length, refl, sym, ap, ◌∙◌, arith, append_assoc, append-nil}
use Rattle.std.specs.Prelude.{map}
use Rattle.sdt_word.specs.Numbers.{rotated}
use Rattle.sdt_word.specs.Bytes.{bytes_of, load, word}
use Rattle.sdt_word.proofs.BytesLemmas.{length-load}
use Rattle.sdt_word.specs.declared.codes.Width.TheVariants.{Word}
use Rattle.arm7_model.specs.declared.state.ArmState.{ArmState}
use Rattle.arm7_model.specs.Memory.{Bytes, Board, store, in_memory, is_there, may_store}
use Rattle.arm7_model.specs.Registers.{with_register, with_result, stored_at}
use Rattle.arm7_model.specs.Accesses.{Access, Load, Store, Working, next_word, read_at, answers_after, after_load, after_store, memory_after}
use Rattle.arm7_model.specs.Outcomes.{Under, ran}
use Rattle.arm7_model.specs.Transfers.{loaded, stored, loaded_value, load_end}
use Rattle.arm7_model.specs.Blocks.{take_end, block_loaded, block_stored, with_block_base, take_all, give_all, all_there, all_may_store, with_listed, listed_at}
use Rattle.arm7_model.proofs.MemoryLemmas.{all-from, any-from, store-append, bytes_of-word, load-add}
use Rattle.arm7_model.proofs.Placed.{words_at, store_words, loads_at, stores_at, with_words}
use Rattle.sdt_word.proofs.NumbersLemmas.{rotated-none as rotated-zero}

-- ---- what is there

-- each of the n addresses from a on is memory, and may be stored to
abbrev pub Mapped : Board → ℕ → ℕ → Type 0
Mapped board a n = (k : ℕ) → k < n → board.memory (a + k) ≡ true

abbrev pub Writable : Board → ℕ → ℕ → Type 0
Writable board a n = (k : ℕ) → k < n → board.read_only (a + k) ≡ false

pub in_memory-mapped : (board : Board) (a n : ℕ) → Mapped board a n → in_memory board a n ≡ true
unfolding in_memory
in_memory-mapped board a n h = all-from board.memory a n h

pub is_there-mapped : (board : Board) (a n : ℕ) → Mapped board a n → is_there board a n ≡ true
unfolding is_there
is_there-mapped board a n h = rw (all-from board.memory a n h) refl

pub may_store-mapped : (board : Board) (a n : ℕ) → Mapped board a n → Writable board a n → may_store board a n ≡ true
unfolding may_store
may_store-mapped board a n h w = rw (all-from board.memory a n h, any-from board.read_only a n w) refl

-- ---- one word

aligned-same : (a : ℕ) → a % 4 ≡ 0 → a - a % 4 ≡ a
aligned-same a h = omega arith

pub loaded-word : (u : Under) (a rd : ℕ) (core : ArmState) (w : Working) → a % 4 ≡ 0 → Mapped u.board a 4 → (rd == 15) ≡ false
    → loaded u false Word a rd core w
    ≡ ran (record w { core = with_register core rd (word w.memory a); accesses = w.accesses ++ Load a Word ∷ [] })
unfolding loaded load_end loaded_value read_at after_load answers_after with_result
loaded-word u a rd core w whole mapped plain =
    let same = aligned-same a whole in
    let there = is_there-mapped u.board a 4 mapped in
    let inside = in_memory-mapped u.board a 4 mapped in
    rw (same, there, inside, plain, whole, rotated-zero (word w.memory a)) refl

pub stored-word : (u : Under) (a rd : ℕ) (core : ArmState) (w : Working) → a % 4 ≡ 0 → Mapped u.board a 4 → Writable u.board a 4
    → stored u Word a rd core w
    ≡ ran (record w {
      core = core;
      memory = store w.memory a (bytes_of (stored_at w.core rd) 4);
      accesses = w.accesses ++ Store a Word (stored_at w.core rd % 256 ^ 4) ∷ [];
    })
unfolding stored after_store memory_after
stored-word u a rd core w whole mapped writable =
    let same = aligned-same a whole in
    let may = may_store-mapped u.board a 4 mapped writable in
    let inside = in_memory-mapped u.board a 4 mapped in
    rw (same, may, inside) refl

-- ---- several words

next_word-below : (a : ℕ) → a + 4 < 2 ^ 32 → next_word a ≡ a + 4
next_word-below a h = omega arith

later : (board : Board) (a n : ℕ) → Mapped board a (4 + n) → Mapped board (a + 4) n
later board a n h k lt = ap board.memory (omega arith) ∙ h (4 + k) (omega arith)

later_writable : (board : Board) (a n : ℕ) → Writable board a (4 + n) → Writable board (a + 4) n
later_writable board a n h k lt = ap board.read_only (omega arith) ∙ h (4 + k) (omega arith)

pub all_there-mapped : (board : Board) (ks : List ℕ) (a : ℕ) → a + 4 * length ks ≤ 2 ^ 32 → Mapped board a (4 * length ks) → all_there board ks a ≡ true
all_there-mapped board [] a room h = refl
all_there-mapped board (k ∷ []) a room h = rw (is_there-mapped board a 4 (λ i lt. h i (omega arith))) refl
all_there-mapped board (k ∷ j ∷ ks) a room h =
    let next = next_word-below a (omega arith) in
    let first = is_there-mapped board a 4 (λ i lt. h i (omega arith)) in
    rw (first, next) (all_there-mapped board (j ∷ ks) (a + 4) (omega arith) (later board a (4 * length (j ∷ ks)) (λ i lt. h i (omega arith))))

pub all_may_store-mapped : (board : Board) (ks : List ℕ) (a : ℕ) → a + 4 * length ks ≤ 2 ^ 32 → Mapped board a (4 * length ks) → Writable board a (4 * length ks) → all_may_store board ks a ≡ true
all_may_store-mapped board [] a room h w = refl
all_may_store-mapped board (k ∷ []) a room h w = rw (may_store-mapped board a 4 (λ i lt. h i (omega arith)) (λ i lt. w i (omega arith))) refl
all_may_store-mapped board (k ∷ j ∷ ks) a room h w =
    let next = next_word-below a (omega arith) in
    let first = may_store-mapped board a 4 (λ i lt. h i (omega arith)) (λ i lt. w i (omega arith)) in
    rw (first, next) (all_may_store-mapped board (j ∷ ks) (a + 4) (omega arith)
    (later board a (4 * length (j ∷ ks)) (λ i lt. h i (omega arith))) (later_writable board a (4 * length (j ∷ ks)) (λ i lt. w i (omega arith))))

-- the registers of a list are loaded with the words from a on
pub take_all-words : (board : Board) (ks : List ℕ) (a : ℕ) (w : Working) → a + 4 * length ks ≤ 2 ^ 32 → Mapped board a (4 * length ks)
    → take_all board false ks a w
    ≡ record w { core = with_words w.core ks (words_at w.memory a (length ks)); accesses = w.accesses ++ loads_at a (length ks) }
unfolding read_at after_load answers_after with_listed
take_all-words board [] a w room h = ap (λ (l : List Access). record w { accesses = l }) (sym (append-nil w.accesses))
take_all-words board (k ∷ []) a w room h =
    let inside = in_memory-mapped board a 4 (λ i lt. h i (omega arith)) in
    rw inside refl
take_all-words board (k ∷ j ∷ ks) a w room h =
    let inside = in_memory-mapped board a 4 (λ i lt. h i (omega arith)) in
    let next = next_word-below a (omega arith) in
    rw (inside, next) (take_all-words board (j ∷ ks) (a + 4)
    (record w { core = with_register w.core k (word w.memory a); accesses = w.accesses ++ Load a Word ∷ [] })
    (omega arith) (later board a (4 * length (j ∷ ks)) (λ i lt. h i (omega arith)))
    ∙ ap (λ (l : List Access). record w { core = with_words (with_register w.core k (word w.memory a)) (j ∷ ks) (words_at w.memory (a + 4) (length (j ∷ ks))); accesses = l })
    (append_assoc w.accesses (Load a Word ∷ []) (loads_at (a + 4) (length (j ∷ ks)))))

-- the registers of a list are stored as the words from a on
pub give_all-words : (board : Board) (core : ArmState) (ks : List ℕ) (a : ℕ) (w : Working) → a + 4 * length ks ≤ 2 ^ 32
    → Mapped board a (4 * length ks)
    → give_all board false core ks a w
    ≡ record w { memory = store_words w.memory a (map (stored_at core) ks); accesses = w.accesses ++ stores_at a (map (stored_at core) ks) }
unfolding after_store memory_after listed_at
give_all-words board core [] a w room h = ap (λ (l : List Access). record w { accesses = l }) (sym (append-nil w.accesses))
give_all-words board core (k ∷ []) a w room h =
    let inside = in_memory-mapped board a 4 (λ i lt. h i (omega arith)) in
    rw inside refl
give_all-words board core (k ∷ j ∷ ks) a w room h =
    let inside = in_memory-mapped board a 4 (λ i lt. h i (omega arith)) in
    let next = next_word-below a (omega arith) in
    let v = stored_at core k in
    rw (inside, next) (give_all-words board core (j ∷ ks) (a + 4)
    (record w { memory = store w.memory a (bytes_of v 4); accesses = w.accesses ++ Store a Word (v % 256 ^ 4) ∷ [] })
    (omega arith) (later board a (4 * length (j ∷ ks)) (λ i lt. h i (omega arith)))
    ∙ ap (λ (l : List Access). record w { memory = store_words (store w.memory a (bytes_of v 4)) (a + 4) (map (stored_at core) (j ∷ ks)); accesses = l })
    (append_assoc w.accesses (Store a Word (v % 256 ^ 4) ∷ []) (stores_at (a + 4) (map (stored_at core) (j ∷ ks)))))

-- words that were loaded are stored as the bytes that they were
pub store_words-copy : (m origin : Bytes) (t s n : ℕ) → ((x : ℕ) → origin x < 256)
    → store_words m t (words_at origin s n) ≡ store m t (load origin s (4 * n))
store_words-copy m origin t s zero h = refl
store_words-copy m origin t s (suc n) h =
    let count = length-load origin s 4 in
    let bytes : bytes_of (word origin s) 4 ≡ load origin s 4 = bytes_of-word origin s h in
    let whole : 4 * suc n ≡ 4 + 4 * n = omega arith in
    let place : t + length (load origin s 4) ≡ t + 4 = ap (λ (k : ℕ). t + k) count in
    store_words-copy (store m t (bytes_of (word origin s) 4)) origin (t + 4) (s + 4) n h
    ∙ ap (λ (bs : List ℕ). store (store m t bs) (t + 4) (load origin (s + 4) (4 * n))) bytes
    ∙ ap (λ (k : ℕ). store (store m t (load origin s 4)) k (load origin (s + 4) (4 * n))) (sym place)
    ∙ sym (store-append m t (load origin s 4) (load origin (s + 4) (4 * n)))
    ∙ ap (store m t) (sym (load-add origin s 4 (4 * n)))
    ∙ ap (λ (k : ℕ). store m t (load origin s k)) (sym whole)

-- ---- blocks

-- LDM of registers other than pc, without ^
pub block_loaded-words : (u : Under) (write_back : Bool) (ks : List ℕ) (a rn end : ℕ) (w : Working) → a + 4 * length ks ≤ 2 ^ 32 → Mapped u.board a (4 * length ks)
    → block_loaded u false false write_back ks a rn end false w
    ≡ ran (record w {
      core = with_words (with_block_base write_back rn end w.core) ks (words_at w.memory a (length ks));
      accesses = w.accesses ++ loads_at a (length ks);
    })
unfolding block_loaded take_end
block_loaded-words u write_back ks a rn end w room h =
    rw (all_there-mapped u.board ks a room h) (ap ran (take_all-words u.board ks a (record w { core = with_block_base write_back rn end w.core }) room h))

-- STM without ^
pub block_stored-words : (u : Under) (write_back : Bool) (ks : List ℕ) (a rn end : ℕ) (w : Working) → a + 4 * length ks ≤ 2 ^ 32 → Mapped u.board a (4 * length ks) → Writable u.board a (4 * length ks)
    → block_stored u false write_back ks a rn end w
    ≡ ran (record w {
      core = with_block_base write_back rn end w.core;
      memory = store_words w.memory a (map (stored_at w.core) ks);
      accesses = w.accesses ++ stores_at a (map (stored_at w.core) ks);
    })
unfolding block_stored
block_stored-words u write_back ks a rn end w room h free =
    rw (all_may_store-mapped u.board ks a room h free) (ap ran (give_all-words u.board w.core ks a (record w { core = with_block_base write_back rn end w.core }) room h))
