-- Blocks whose words lie in one span of a bank: they are all there, and may be stored where the span isn't protected.
use Rattle.std.proofs.Common.{◌≡◌, ℕ, suc, ◌+◌, ◌*◌, ◌%◌, ◌^◌, ◌<◌, ◌≤◌, true, false, List, [], ◌∷◌, length, refl, sym, subst, arith}
use Rattle.sdt_word.specs.Numbers.{registers}
use Rattle.sdt_word.specs.declared.codes.Width.TheVariants.{Word}
use Rattle.arm7_model.specs.Accesses.{next_word}
use Rattle.arm7_model.specs.Blocks.{all_there, all_may_store}
use Rattle.arm7_bus.specs.States.{State, bank_has, is_protected}
use Rattle.arm7_bus.proofs.StoreLemmas.{free_part, part_of}
use Rattle.arm7_transfers.specs.Boards.{board_of}
use Rattle.arm7_transfers.specs.Ready.{IsReady}
use Rattle.arm7_transfers.proofs.BoardLemmas.{there-whole, may-whole}
use Rattle.arm7_transfers.proofs.BlockLemmas.{next-small, next-whole}
use Rattle.arm7_transfers.proofs.BlockSteps.{sixteen}

-- ---- the words of a block, each by itself

next-at : (a j : ℕ) → (next_word a + 4 * j) % 2 ^ 32 ≡ (a + 4 * suc j) % 2 ^ 32
next-at a j = omega arith

pub there-each : (s : State) (ks : List ℕ) (a : ℕ) → IsReady s → a % 4 ≡ 0 → a < 2 ^ 32
    → ((j : ℕ) → j < length ks → bank_has s.contents.banks ((a + 4 * j) % 2 ^ 32) 4 ≡ true) → all_there (board_of s) ks a ≡ true
there-each s [] a r h lt f = refl
there-each s (k ∷ ks) a r h lt f =
    let here : bank_has s.contents.banks a 4 ≡ true = subst (λ (x : ℕ). bank_has s.contents.banks x 4 ≡ true) (omega arith) (f 0 (omega arith)) in
    let rest : all_there (board_of s) ks (next_word a) ≡ true =
    there-each s ks (next_word a) r (next-whole a h) (next-small a)
    (λ j few. subst (λ (x : ℕ). bank_has s.contents.banks x 4 ≡ true) (sym (next-at a j)) (f (suc j) (omega arith))) in
    rw (there-whole s a Word r h, here, rest) refl

pub may-each : (s : State) (ks : List ℕ) (a : ℕ) → IsReady s → a % 4 ≡ 0 → a < 2 ^ 32
    → ((j : ℕ) → j < length ks → bank_has s.contents.banks ((a + 4 * j) % 2 ^ 32) 4 ≡ true)
    → ((j : ℕ) → j < length ks → is_protected s.contents.banks ((a + 4 * j) % 2 ^ 32) 4 ≡ false) → all_may_store (board_of s) ks a ≡ true
may-each s [] a r h lt f g = refl
may-each s (k ∷ ks) a r h lt f g =
    let here : bank_has s.contents.banks a 4 ≡ true = subst (λ (x : ℕ). bank_has s.contents.banks x 4 ≡ true) (omega arith) (f 0 (omega arith)) in
    let free : is_protected s.contents.banks a 4 ≡ false = subst (λ (x : ℕ). is_protected s.contents.banks x 4 ≡ false) (omega arith) (g 0 (omega arith)) in
    let rest : all_may_store (board_of s) ks (next_word a) ≡ true =
    may-each s ks (next_word a) r (next-whole a h) (next-small a)
    (λ j few. subst (λ (x : ℕ). bank_has s.contents.banks x 4 ≡ true) (sym (next-at a j)) (f (suc j) (omega arith)))
    (λ j few. subst (λ (x : ℕ). is_protected s.contents.banks x 4 ≡ false) (sym (next-at a j)) (g (suc j) (omega arith))) in
    rw (may-whole s a Word r h, here, free, rest) refl

-- ---- a span of sixteen words

within : (a j : ℕ) → a ≤ 4294967232 → j < 16 → (a + 4 * j) % 2 ^ 32 ≡ a + 4 * j
within a j lt few = omega arith

pub span-there : (s : State) (list a : ℕ) → IsReady s → a % 4 ≡ 0 → a ≤ 4294967232 → bank_has s.contents.banks a 64 ≡ true
    → true ≡ all_there (board_of s) (registers 16 list) a
span-there s list a r h lt e =
    let few = sixteen list in
    sym (there-each s (registers 16 list) a r h (omega arith)
    (λ j l. subst (λ (x : ℕ). bank_has s.contents.banks x 4 ≡ true) (sym (within a j lt (omega arith)))
    (part_of s.contents.banks a 64 (a + 4 * j) 4 (omega arith) (omega arith) e)))

pub span-storable : (s : State) (list a : ℕ) → IsReady s → a % 4 ≡ 0 → a ≤ 4294967232 → bank_has s.contents.banks a 64 ≡ true
    → is_protected s.contents.banks a 64 ≡ false → true ≡ all_may_store (board_of s) (registers 16 list) a
span-storable s list a r h lt e f =
    let few = sixteen list in
    sym (may-each s (registers 16 list) a r h (omega arith)
    (λ j l. subst (λ (x : ℕ). bank_has s.contents.banks x 4 ≡ true) (sym (within a j lt (omega arith)))
    (part_of s.contents.banks a 64 (a + 4 * j) 4 (omega arith) (omega arith) e))
    (λ j l. subst (λ (x : ℕ). is_protected s.contents.banks x 4 ≡ false) (sym (within a j lt (omega arith)))
    (free_part s.contents.banks a 64 (a + 4 * j) 4 (omega arith) (omega arith) f)))
