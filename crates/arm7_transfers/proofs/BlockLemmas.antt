-- Blocks of words: they are loaded and stored one after the other.
use Rattle.std.proofs.Common.{◌≡◌, ℕ, suc, ◌+◌, ◌-◌, ◌/◌, ◌%◌, ◌^◌, ◌<◌, ◌≤◌, Bool, true, false, not, ◌||◌, List, [], ◌∷◌, ◌++◌, set, refl, sym, ap, ◌∙◌, arith, cond, append-nil, append_assoc, eqb-true}
use Rattle.std.specs.Prelude.{◌&&◌, nat_lt}
use Rattle.sdt_word.specs.Numbers.{bit, places_from, kept}
use Rattle.sdt_word.specs.declared.codes.Width.TheVariants.{Word}
use Rattle.arm7_model.specs.declared.state.ArmState.{ArmState}
use Rattle.arm7_model.specs.Accesses.{Access, Load, Store, Working, next_word, after_load}
use Rattle.arm7_model.specs.Blocks.{all_there, all_may_store, take_all, give_all, lists, listed_at, with_listed}
use Rattle.arm7_model.specs.Memory.{Board, is_there, may_store}
use Rattle.arm7_bus.specs.declared.memory.Bank.{Bank}
use Rattle.arm7_bus.specs.Buses.{after_read, after_write, has_whole}
use Rattle.arm7_bus.specs.Paging.{used_count, page_used_in}
use Rattle.arm7_bus.specs.States.{State, bank_has, is_protected}
use Rattle.arm7_transfers.specs.BlockAccesses.{loads_of, stores_of, taken, words_in}
use Rattle.arm7_transfers.specs.Boards.{board_of, working}
use Rattle.arm7_transfers.specs.Frames.{stored_to, used_with}
use Rattle.arm7_transfers.specs.Ready.{IsReady}
use Rattle.arm7_transfers.specs.Served.{given, value_at, served, answers_to}
use Rattle.arm7_transfers.proofs.BoardLemmas.{there-whole, may-whole, reads, loads, contents-read}
use Rattle.arm7_transfers.proofs.ReadyLemmas.{ready-read, ready-write, board-read, set-grows}
use Rattle.arm7_transfers.proofs.StoreLemmas.{CanStore, Notes, stores-word, board-write, places-write, notes-write}
use Rattle.arm7_bus.proofs.ClaimLemmas.{count_fresh as set-fresh}
use Rattle.arm7_bus.proofs.MeetLemmas.{and_left as and-left, and_right as and-right}
use Rattle.arm7_model.proofs.ValidThumb.{never as false-true}

-- ---- the places of a list

one_more : (k : ℕ) → k < 16 → 16 - k ≡ suc (16 - (k + 1))
one_more k lt = omega arith

kept-one : (b k : ℕ) (ks : List ℕ) → b ≡ 1 → kept b k ks ≡ k ∷ ks
kept-one b k ks e = rw e refl

next-place : (k n list : ℕ) → places_from (k + 1) n list ≡ places_from (suc k) n list
next-place k n list = ap (λ (j : ℕ). places_from j n list) (omega arith)

pub places_here : (k list : ℕ) (b : Bool) → k < 16 → b ≡ lists list k → b ≡ true → places_from k (16 - k) list ≡ k ∷ places_from (k + 1) (16 - (k + 1)) list
places_here k list b lt e t =
    ap (λ (n : ℕ). places_from k n list) (one_more k lt)
    ∙ kept-one (bit list k) k (places_from (suc k) (16 - (k + 1)) list) (eqb-true (bit list k) 1 (sym e ∙ t))
    ∙ ap (λ (ks : List ℕ). k ∷ ks) (sym (next-place k (16 - (k + 1)) list))

left-true : (x y : Bool) → (x && not y) ≡ true → x ≡ true
left-true true y h = refl
left-true false y h = h

right-false : (x y : Bool) → (x && not y) ≡ true → y ≡ false
right-false true true h = false-true h
right-false true false h = refl
right-false false y h = false-true h

pub next-whole : (a : ℕ) → a % 4 ≡ 0 → next_word a % 4 ≡ 0
next-whole a h = omega arith

pub next-small : (a : ℕ) → next_word a < 2 ^ 32
next-small a = omega arith

-- ---- loads

pub contents-loads : (ks : List ℕ) (a : ℕ) (s : State) → (served s (loads_of ks a)).contents ≡ s.contents
contents-loads [] a s = refl
contents-loads (k ∷ ks) a s = contents-loads ks (next_word a) (after_read s a Word) ∙ contents-read s a Word

pub no-stores : (ks : List ℕ) (a : ℕ) (banks : List Bank) → stored_to banks (loads_of ks a) ≡ []
no-stores [] a banks = refl
no-stores (k ∷ ks) a banks = no-stores ks (next_word a) banks

pub take-served : (user : Bool) (ks : List ℕ) (a : ℕ) (core : ArmState) (s : State) (later : List ℕ) (before : List Access) → IsReady s → a % 4 ≡ 0
    → all_there (board_of s) ks a ≡ true
    → take_all (board_of s) user ks a (working core s (answers_to s (loads_of ks a) ++ later) before)
    ≡ working (taken user ks a core s) (served s (loads_of ks a)) later (before ++ loads_of ks a)
take-served user [] a core s later before r h t = ap (λ (l : List Access). working core s later l) (sym (append-nil before))
take-served user (k ∷ ks) a core s later before r h t =
    let there = sym (there-whole s a Word r h) ∙ and-left (is_there (board_of s) a 4) (all_there (board_of s) ks (next_word a)) t in
    let rest = answers_to (after_read s a Word) (loads_of ks (next_word a)) ++ later in
    let b = board-read s a Word in
    let t' : all_there (board_of (after_read s a Word)) ks (next_word a) ≡ true =
    ap (λ (x : Board). all_there x ks (next_word a)) b ∙ and-right (is_there (board_of s) a 4) (all_there (board_of s) ks (next_word a)) t in
    ap (λ (l : List ℕ). take_all (board_of s) user (k ∷ ks) a (working core s l before)) (append_assoc (given s a Word) (answers_to (after_read s a Word) (loads_of ks (next_word a))) later)
    ∙ ap (λ (v : ℕ). take_all (board_of s) user ks (next_word a) (record (after_load (board_of s) (working core s (given s a Word ++ rest) before) a Word) { core = with_listed user core k v }))
    (reads s a Word core rest before r h there).0
    ∙ ap (λ (w : Working). take_all (board_of s) user ks (next_word a) (record w { core = with_listed user core k (value_at s a Word) })) (loads s a Word core rest before r h there)
    ∙ ap (λ (x : Board). take_all x user ks (next_word a) (working (with_listed user core k (value_at s a Word)) (after_read s a Word) rest (before ++ Load a Word ∷ []))) (sym b)
    ∙ take-served user ks (next_word a) (with_listed user core k (value_at s a Word)) (after_read s a Word) later (before ++ Load a Word ∷ []) (ready-read s a Word r) (next-whole a h) t'
    ∙ ap (λ (l : List Access). working (taken user (k ∷ ks) a core s) (served s (loads_of (k ∷ ks) a)) later l) (append_assoc before (Load a Word ∷ []) (loads_of ks (next_word a)))

-- ---- stores

pub no-answers : (user : Bool) (core : ArmState) (ks : List ℕ) (a : ℕ) (s : State) → answers_to s (stores_of user core ks a) ≡ []
no-answers user core [] a s = refl
no-answers user core (k ∷ ks) a s = no-answers user core ks (next_word a) (after_write s a Word (listed_at user core k % 256 ^ 4))

pub stored-words : (user : Bool) (core : ArmState) (ks : List ℕ) (a : ℕ) (banks : List Bank) → stored_to banks (stores_of user core ks a) ≡ words_in banks ks a
stored-words user core [] a banks = refl
stored-words user core (k ∷ ks) a banks = ap (λ (l : List ℕ). cond (bank_has banks a 4) (a ∷ l) l) (stored-words user core ks (next_word a) banks)

pub used-grows : (used : List Bool) (rest : List ℕ) → used_count used ≤ used_count (used_with used rest)
used-grows used [] = omega arith
used-grows used (a ∷ rest) =
    let x = set-grows used (a / 4096) in let y = used-grows (set used (a / 4096) true) rest in omega arith

lt-true : (x y : ℕ) → x < y → nat_lt x y ≡ true
lt-true x y h = grind arith

-- where the pages of all words have frames, that of the first has
first-frame : (s : State) (a : ℕ) (rest : List ℕ) → IsReady s → a < 2 ^ 32
    → used_count (used_with s.contents.used (a ∷ rest)) ≤ s.contents.frames
    → (page_used_in s.contents.used a || nat_lt (used_count s.contents.used) s.contents.frames) ≡ true
first-frame s a rest r lt h = go (page_used_in s.contents.used a) refl
  where
    go : (u : Bool) → page_used_in s.contents.used a ≡ u → (page_used_in s.contents.used a || nat_lt (used_count s.contents.used) s.contents.frames) ≡ true
    go true e = rw e refl
    go false e =
        let l = r.started in
        let x = set-fresh s.contents.used (a / 4096) (omega arith) e in
        let y = used-grows (set s.contents.used (a / 4096) true) rest in
        rw e (lt-true (used_count s.contents.used) s.contents.frames (omega arith))

-- after the first word, the others still have frames
next-frames : (s t : State) (a : ℕ) (ks : List ℕ) (b : Bool) → bank_has s.contents.banks a 4 ≡ b → t.contents.banks ≡ s.contents.banks → Notes s t a b
    → used_count (used_with s.contents.used (cond b (a ∷ words_in s.contents.banks ks (next_word a)) (words_in s.contents.banks ks (next_word a)))) ≤ s.contents.frames
    → used_count (used_with t.contents.used (words_in t.contents.banks ks (next_word a))) ≤ t.contents.frames
next-frames s t a ks true e banks n f = rw (banks, n.used, n.frames) f
next-frames s t a ks false e banks n f = rw (banks, n.used, n.frames) f

pub give-served : (user : Bool) (from core : ArmState) (ks : List ℕ) (a : ℕ) (s : State) (later : List ℕ) (before : List Access) → IsReady s → a % 4 ≡ 0 → a < 2 ^ 32
    → all_may_store (board_of s) ks a ≡ true
    → used_count (used_with s.contents.used (words_in s.contents.banks ks a)) ≤ s.contents.frames
    → give_all (board_of s) user from ks a (working core s later before)
    ≡ working core (served s (stores_of user from ks a)) later (before ++ stores_of user from ks a)
give-served user from core [] a s later before r h lt m f = ap (λ (l : List Access). working core s later l) (sym (append-nil before))
give-served user from core (k ∷ ks) a s later before r h lt m f =
    let may = sym (may-whole s a Word r h) ∙ and-left (may_store (board_of s) a 4) (all_may_store (board_of s) ks (next_word a)) m in
    let can : CanStore s a 4 = record {
      there = left-true (has_whole s a 4) (is_protected s.contents.banks a 4) may;
      free = right-false (has_whole s a 4) (is_protected s.contents.banks a 4) may;
      frame = λ e. first-frame s a (words_in s.contents.banks ks (next_word a)) r lt (rw e at f);
    } in
    let v = listed_at user from k in
    let t = after_write s a Word (v % 256 ^ 4) in
    let b = board-write s a Word (v % 256 ^ 4) can in
    let m' : all_may_store (board_of t) ks (next_word a) ≡ true =
    ap (λ (x : Board). all_may_store x ks (next_word a)) b ∙ and-right (may_store (board_of s) a 4) (all_may_store (board_of s) ks (next_word a)) m in
    ap (λ (w : Working). give_all (board_of s) user from ks (next_word a) w) (stores-word s a Word v core later before r h can)
    ∙ ap (λ (x : Board). give_all x user from ks (next_word a) (working core t later (before ++ Store a Word (v % 256 ^ 4) ∷ []))) (sym b)
    ∙ give-served user from core ks (next_word a) t later (before ++ Store a Word (v % 256 ^ 4) ∷ []) (ready-write s a Word (v % 256 ^ 4) r) (next-whole a h) (next-small a) m'
    (next-frames s t a ks (bank_has s.contents.banks a 4) refl (places-write s a Word (v % 256 ^ 4) can).banks (notes-write s a Word (v % 256 ^ 4) can) f)
    ∙ ap (λ (l : List Access). working core (served s (stores_of user from (k ∷ ks) a)) later l) (append_assoc before (Store a Word (v % 256 ^ 4) ∷ []) (stores_of user from ks (next_word a)))
