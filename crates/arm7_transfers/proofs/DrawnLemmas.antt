-- Registers that are loaded from the bytes of a run of memory: the same as word by word over the bus.
use Rattle.std.proofs.Common.{◌≡◌, ℕ, zero, suc, ◌+◌, ◌*◌, ◌%◌, ◌^◌, ◌<◌, ◌≤◌, Bool, true, false, List, [], ◌∷◌, ◌++◌, length, take, drop, refl, sym, ap, ◌∙◌, subst, arith}
use Rattle.sdt_word.specs.Bytes.{load, number_of, word_in}
use Rattle.sdt_word.specs.Numbers.{places_from, registers}
use Rattle.sdt_word.specs.declared.codes.Width.TheVariants.{Word}
use Rattle.sdt_word.proofs.BytesLemmas.{length-load}
use Rattle.arm7_model.specs.declared.state.ArmState.{ArmState}
use Rattle.arm7_model.specs.Accesses.{next_word}
use Rattle.arm7_model.specs.Blocks.{all_there, with_block_base, with_listed}
use Rattle.arm7_bus.specs.Buses.{after_read}
use Rattle.arm7_bus.specs.Lookups.{HasFrom}
use Rattle.arm7_bus.specs.Pieces.{IsPart, IsPiece}
use Rattle.arm7_bus.specs.States.{Contents, State, bank_has}
use Rattle.arm7_bus.proofs.PartLemmas.{four_parts}
use Rattle.arm7_bus.proofs.StoreLemmas.{part_of}
use Rattle.arm7_transfers.specs.BlockAccesses.{drawn, loads_of, taken}
use Rattle.arm7_transfers.specs.Boards.{board_of}
use Rattle.arm7_transfers.specs.Ready.{IsReady}
use Rattle.arm7_transfers.specs.Served.{served, value_at}
use Rattle.arm7_transfers.proofs.BoardLemmas.{bank-whole}
use Rattle.arm7_transfers.proofs.SpanLemmas.{there-each}

-- ---- four parts of a list

drawn-append : (user : Bool) (ks ls : List ℕ) (at : ℕ) (core : ArmState) (bytes : List ℕ)
    → drawn user (ks ++ ls) at core bytes ≡ drawn user ls (at + 4 * length ks) (drawn user ks at core bytes) bytes
drawn-append user [] ls at core bytes = let same : at ≡ at + 4 * 0 = omega arith in ap (λ (n : ℕ). drawn user ls n core bytes) same
drawn-append user (k ∷ ks) ls at core bytes =
    let same : at + 4 + 4 * length ks ≡ at + 4 * suc (length ks) = omega arith in
    drawn-append user ks ls (at + 4) (with_listed user core k (word_in bytes at)) bytes
    ∙ ap (λ (n : ℕ). drawn user ls n (drawn user (k ∷ ks) at core bytes) bytes) same

both-drawn : (ks ls : List ℕ) (at next : ℕ) (old mid new : ArmState) (bytes : List ℕ) → next ≡ at + 4 * length ks
    → mid ≡ drawn false ks at old bytes → new ≡ drawn false ls next mid bytes → new ≡ drawn false (ks ++ ls) at old bytes
both-drawn ks ls at next old mid new bytes e f g =
    g ∙ ap (λ (c : ArmState). drawn false ls next c bytes) f ∙ ap (λ (n : ℕ). drawn false ls n (drawn false ks at old bytes) bytes) e
    ∙ sym (drawn-append false ks ls at old bytes)

pub four_drawn : (k k1 k2 k3 m list at at1 at2 at3 : ℕ) (old one two three new : ArmState) (bytes : List ℕ) → k1 ≡ k + m → k2 ≡ k1 + m → k3 ≡ k2 + m
    → at1 ≡ at + 4 * length (places_from k m list) → at2 ≡ at1 + 4 * length (places_from k1 m list) → at3 ≡ at2 + 4 * length (places_from k2 m list)
    → one ≡ drawn false (places_from k m list) at old bytes → two ≡ drawn false (places_from k1 m list) at1 one bytes
    → three ≡ drawn false (places_from k2 m list) at2 two bytes → new ≡ drawn false (places_from k3 m list) at3 three bytes
    → new ≡ drawn false (places_from k (m + (m + (m + m))) list) at old bytes
four_drawn k k1 k2 k3 m list at at1 at2 at3 old one two three new bytes i j l p q r e f g h =
    let b = places_from k1 m list in
    let c = places_from k2 m list in
    let d = places_from k3 m list in
    both-drawn (places_from k m list) (b ++ (c ++ d)) at at1 old one new bytes p e
    (both-drawn b (c ++ d) at1 at2 one two new bytes q f (both-drawn c d at2 at3 two three new bytes r g h))
    ∙ ap (λ (ks : List ℕ). drawn false ks at old bytes) (sym (four_parts k k1 k2 k3 m list i j l))

-- ---- a run of memory: the bytes that banks have from an address on, as many as there are here

pub record AreBytes (c : Contents) (a : ℕ) (bytes : List ℕ) : Type 0 where
  pub are : bytes ≡ load c.memory a (length bytes)
  pub held : HasFrom c.banks a (length bytes)
  pub within : a + length bytes ≤ 2 ^ 32

pub piece-bytes : (c : Contents) (a : ℕ) (bytes : List ℕ) → IsPiece c a bytes → AreBytes c a bytes
piece-bytes c a bytes p = record { are = p.are; held = p.held; within = p.within }

pub part-length : (c : Contents) (a n : ℕ) (bytes : List ℕ) → IsPart c a n bytes → length bytes ≡ n
part-length c a n bytes p = ap length p.are ∙ length-load c.memory a n

pub part-bytes : (c : Contents) (a n : ℕ) (bytes : List ℕ) → a < 2 ^ 32 → IsPart c a n bytes → AreBytes c a bytes
part-bytes c a n bytes lt p =
    let size = part-length c a n bytes p in
    let within = p.within in
    record {
      are = p.are ∙ ap (load c.memory a) (sym size);
      held = record { each = λ k less. part_of c.banks a n (a + k) 1 (omega arith) (omega arith) p.held };
      within = omega arith;
    }

-- ---- a word of a run

take-load : (m : ℕ → ℕ) (a n k : ℕ) → k ≤ n → take k (load m a n) ≡ load m a k
take-load m a n zero le = refl
take-load m a zero (suc k) le = absurd (omega arith)
take-load m a (suc n) (suc k) le = ap (λ (l : List ℕ). m a ∷ l) (take-load m (suc a) n k (omega arith))

part-load : (m : ℕ → ℕ) (a n at k : ℕ) → at + k ≤ n → take k (drop at (load m a n)) ≡ load m (a + at) k
part-load m a n zero k le = take-load m a n k (omega arith) ∙ ap (λ (x : ℕ). load m x k) (omega arith)
part-load m a zero (suc at) k le = short k (omega arith)
  where
    short : (j : ℕ) → j ≡ 0 → take j (drop (suc at) (load m a 0)) ≡ load m (a + suc at) j
    short zero e = refl
    short (suc j) e = absurd (omega arith)
part-load m a (suc n) (suc at) k le = part-load m (suc a) n at k (omega arith) ∙ ap (λ (x : ℕ). load m x k) (omega arith)

word-there : (s : State) (a at : ℕ) (bytes : List ℕ) → IsReady s → AreBytes s.contents a bytes → a % 4 ≡ 0 → at % 4 ≡ 0 → at + 4 ≤ length bytes
    → bank_has s.contents.banks (a + at) 4 ≡ true
word-there s a at bytes r p h g le =
    let here : bank_has s.contents.banks (a + at + 0) 1 ≡ true = subst (λ (x : ℕ). bank_has s.contents.banks x 1 ≡ true) (omega arith) (p.held.each at (omega arith)) in
    sym (bank-whole s.contents.banks (a + at) 0 Word r.laid_out.banks (omega arith) (omega arith)) ∙ here

word-is : (s : State) (a at : ℕ) (bytes : List ℕ) → IsReady s → AreBytes s.contents a bytes → a % 4 ≡ 0 → at % 4 ≡ 0 → at + 4 ≤ length bytes
    → value_at s (a + at) Word ≡ word_in bytes at
word-is s a at bytes r p h g le =
    let same : word_in bytes at ≡ number_of (load s.contents.memory (a + at) 4) =
    ap (λ (l : List ℕ). number_of (take 4 (drop at l))) p.are ∙ ap number_of (part-load s.contents.memory a (length bytes) at 4 le) in
    rw (word-there s a at bytes r p h g le) (sym same)

left-so : (s : State) (a at : ℕ) (bytes : List ℕ) → IsReady s → AreBytes s.contents a bytes → a % 4 ≡ 0 → at % 4 ≡ 0 → at + 4 ≤ length bytes
    → after_read s (a + at) Word ≡ s
left-so s a at bytes r p h g le = rw (word-there s a at bytes r p h g le) refl

-- ---- all of them

further : (a at x n : ℕ) → x ≡ (a + at) % 2 ^ 32 → at + 4 ≤ n → a + n ≤ 2 ^ 32 → next_word x ≡ (a + (at + 4)) % 2 ^ 32
further a at x n e le small = omega arith

place : (a at x n : ℕ) → x ≡ (a + at) % 2 ^ 32 → at + 4 ≤ n → a + n ≤ 2 ^ 32 → x ≡ a + at
place a at x n e le small = omega arith

drawn-taken : (s : State) (a : ℕ) (bytes : List ℕ) → IsReady s → AreBytes s.contents a bytes → a % 4 ≡ 0
    → (user : Bool) (ks : List ℕ) (at x : ℕ) (core : ArmState) → at % 4 ≡ 0 → at + 4 * length ks ≤ length bytes → x ≡ (a + at) % 2 ^ 32
    → drawn user ks at core bytes ≡ taken user ks x core s
drawn-taken s a bytes r p h user [] at x core g le e = refl
drawn-taken s a bytes r p h user (k ∷ ks) at x core g le e =
    let small = p.within in
    let q : x ≡ a + at = place a at x (length bytes) e (omega arith) small in
    let value : value_at s x Word ≡ word_in bytes at = ap (λ (y : ℕ). value_at s y Word) q ∙ word-is s a at bytes r p h g (omega arith) in
    let left : after_read s x Word ≡ s = ap (λ (y : ℕ). after_read s y Word) q ∙ left-so s a at bytes r p h g (omega arith) in
    drawn-taken s a bytes r p h user ks (at + 4) (next_word x) (with_listed user core k (word_in bytes at)) (omega arith) (omega arith)
    (further a at x (length bytes) e (omega arith) small)
    ∙ sym (ap (λ (t : State). taken user ks (next_word x) (with_listed user core k (value_at s x Word)) t) left
    ∙ ap (λ (v : ℕ). taken user ks (next_word x) (with_listed user core k v) s) value)

served-so : (s : State) (a : ℕ) (bytes : List ℕ) → IsReady s → AreBytes s.contents a bytes → a % 4 ≡ 0
    → (ks : List ℕ) (at x : ℕ) → at % 4 ≡ 0 → at + 4 * length ks ≤ length bytes → x ≡ (a + at) % 2 ^ 32 → s ≡ served s (loads_of ks x)
served-so s a bytes r p h [] at x g le e = refl
served-so s a bytes r p h (k ∷ ks) at x g le e =
    let small = p.within in
    let q : x ≡ a + at = place a at x (length bytes) e (omega arith) small in
    let left : after_read s x Word ≡ s = ap (λ (y : ℕ). after_read s y Word) q ∙ left-so s a at bytes r p h g (omega arith) in
    served-so s a bytes r p h ks (at + 4) (next_word x) (omega arith) (omega arith) (further a at x (length bytes) e (omega arith) small)
    ∙ sym (ap (λ (t : State). served t (loads_of ks (next_word x))) left)

pub piece-taken : (s : State) (user write_back : Bool) (list n a rn top : ℕ) (core based end : ArmState) (bytes : List ℕ) → IsReady s → a % 4 ≡ 0 → a < 2 ^ 32 → AreBytes s.contents a bytes
    → n ≡ length (registers 16 list) → 4 * n ≤ length bytes → based ≡ with_block_base write_back rn top core
    → end ≡ drawn user (registers 16 list) 0 based bytes → end ≡ taken user (registers 16 list) a (with_block_base write_back rn top core) s
piece-taken s user write_back list n a rn top core based end bytes r h lt p f le b e =
    e ∙ drawn-taken s a bytes r p h user (registers 16 list) 0 a based (omega arith) (omega arith) (omega arith)
    ∙ ap (λ (c : ArmState). taken user (registers 16 list) a c s) b

pub piece-served : (s : State) (list n a : ℕ) (bytes : List ℕ) → IsReady s → a % 4 ≡ 0 → a < 2 ^ 32 → AreBytes s.contents a bytes
    → n ≡ length (registers 16 list) → 4 * n ≤ length bytes → s ≡ served s (loads_of (registers 16 list) a)
piece-served s list n a bytes r h lt p f le =
    served-so s a bytes r p h (registers 16 list) 0 a (omega arith) (omega arith) (omega arith)

pub piece-there : (s : State) (list n a : ℕ) (bytes : List ℕ) → IsReady s → a % 4 ≡ 0 → a < 2 ^ 32 → AreBytes s.contents a bytes
    → n ≡ length (registers 16 list) → 4 * n ≤ length bytes → all_there (board_of s) (registers 16 list) a ≡ true
piece-there s list n a bytes r h lt p f le =
    let small = p.within in
    there-each s (registers 16 list) a r h lt
    (λ j l. let at : (a + 4 * j) % 2 ^ 32 ≡ a + 4 * j = omega arith in subst (λ (x : ℕ). bank_has s.contents.banks x 4 ≡ true) (sym at)
    (word-there s a (4 * j) bytes r p h (omega arith) (omega arith)))
