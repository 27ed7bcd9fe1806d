-- Registers that are stored at once: the same as word by word over the bus.
use Rattle.std.proofs.Common.{◌≡◌, ℕ, zero, suc, ◌+◌, ◌*◌, ◌/◌, ◌%◌, ◌^◌, ◌<◌, ◌≤◌, Bool, true, false, List, [], ◌∷◌, ◌++◌, length, get_or, append-nil, append_assoc, refl, sym, ap, ◌∙◌, subst, arith, ◌==◌}
use Rattle.std.specs.Prelude.{count_ones}
use Rattle.sdt_word.specs.Bytes.{bytes_of}
use Rattle.sdt_word.specs.Numbers.{bit, kept, places_from, registers}
use Rattle.sdt_word.specs.declared.codes.Width.TheVariants.{Word}
use Rattle.sdt_word.proofs.BytesLemmas.{length-bytes_of}
use Rattle.arm7_model.specs.declared.state.ArmState.{ArmState}
use Rattle.arm7_model.specs.Accesses.{next_word}
use Rattle.arm7_model.specs.Blocks.{all_may_store, listed_at, lists}
use Rattle.arm7_model.specs.Memory.{store}
use Rattle.arm7_model.specs.Registers.{register, stored_at}
use Rattle.arm7_model.proofs.MemoryLemmas.{store-append}
use Rattle.arm7_bus.specs.declared.memory.Bank.{Bank}
use Rattle.arm7_bus.specs.Buses.{after_write}
use Rattle.arm7_bus.specs.Paging.{page_used_in}
use Rattle.arm7_bus.specs.Picked.{IsPicked}
use Rattle.arm7_bus.specs.Picks.{picked_bytes, word_places}
use Rattle.arm7_bus.specs.Seats.{Seat}
use Rattle.arm7_bus.specs.States.{Contents, State, bank_has, is_protected}
use Rattle.arm7_bus.proofs.PickLemmas.{count_picked, low_picked}
use Rattle.arm7_bus.proofs.StoreLemmas.{free_part, part_of}
use Rattle.arm7_transfers.specs.BlockAccesses.{stores_of, words_in}
use Rattle.arm7_transfers.specs.Boards.{board_of}
use Rattle.arm7_transfers.specs.Frames.{Fits, used_with}
use Rattle.arm7_transfers.specs.Ready.{IsReady}
use Rattle.arm7_transfers.specs.Served.{served}
use Rattle.arm7_transfers.proofs.BlockSteps.{sixteen}
use Rattle.arm7_transfers.proofs.ReadyLemmas.{ready-same, set-used}
use Rattle.arm7_transfers.proofs.SpanLemmas.{may-each}
use Rattle.arm7_transfers.proofs.StoreLemmas.{low-bytes}

-- ---- a list without pc

abbrev Plain : List ℕ → Type 0
Plain [] = Unit {0}
Plain (k ∷ ks) = (k < 15) × Plain ks

plain-kept : (b k : ℕ) (ks : List ℕ) → k < 15 → Plain ks → Plain (kept b k ks)
plain-kept zero k ks lt h = h
plain-kept (suc b) k ks lt h = (lt, h)

plain-places : (k n v : ℕ) → k + n ≤ 15 → Plain (places_from k n v)
plain-places k zero v le = tt
plain-places k (suc n) v le = plain-kept (bit v k) k (places_from (suc k) n v) (omega arith) (plain-places (suc k) n v (omega arith))

without-last : (k n v : ℕ) → bit v (k + n) ≡ 0 → places_from k (suc n) v ≡ places_from k n v
without-last k zero v e = let same : k + 0 ≡ k = omega arith in rw (rw same at e) refl
without-last k (suc n) v e = ap (kept (bit v k) k) (without-last (suc k) n v (ap (bit v) (omega arith) ∙ e))

no-pc : (list : ℕ) → lists list 15 ≡ false → Plain (registers 16 list)
no-pc list e =
    let few : bit list 15 < 2 = omega arith in
    let none : bit list 15 ≡ 0 = clear (bit list 15) few e in
    subst Plain (sym (without-last 0 15 list none)) (plain-places 0 15 list (omega arith))
  where
    clear : (b : ℕ) → b < 2 → (b == 1) ≡ false → b ≡ 0
    clear zero lt f = refl
    clear (suc zero) lt f = absurd (cc)
    clear (suc (suc b)) lt f = absurd (omega arith)

stored-plain : (core : ArmState) (k : ℕ) → k < 15 → listed_at false core k ≡ get_or core.r k 0
unfolding listed_at stored_at register
stored-plain core k lt = let other : (k == 15) ≡ false = grind arith in rw other refl

-- ---- how many there are

pub listed_count : (list n : ℕ) → n ≡ count_ones (list % 65536) → n ≡ length (registers 16 list)
listed_count list n e = e ∙ sym (count_picked (list % 65536) (omega arith)) ∙ ap length (low_picked list)

pub listed_few : (list n : ℕ) → n ≡ count_ones (list % 65536) → n ≤ 16
listed_few list n e = let few = sixteen list in let count = listed_count list n e in omega arith

-- ---- one word

write-word : (s : State) (a v : ℕ) → bank_has s.contents.banks a 4 ≡ true → is_protected s.contents.banks a 4 ≡ false → page_used_in s.contents.used a ≡ true
    → after_write s a Word v ≡ record s { contents = record s.contents { memory = store s.contents.memory a (bytes_of v 4); stores = s.contents.stores ++ (a, 4) ∷ [] } }
write-word s a v has free used = rw (has, free, used, set-used s.contents.used (a / 4096) used) refl

-- ---- all of them

module _ (banks : List Bank) (used : List Bool) (base size : ℕ) (has : bank_has banks base size ≡ true) (free : is_protected banks base size ≡ false)
    (page : page_used_in used base ≡ true) (within : base % 4096 + size ≤ 4096) (small : base < 2 ^ 32) (core : ArmState) where
  page-at : (x : ℕ) → base ≤ x → x < base + size → page_used_in used x ≡ true
  page-at x low high = let same : x / 4096 ≡ base / 4096 = omega arith in ap (λ (p : ℕ). get_or used p false) same ∙ page

  next-store : (m : ℕ → ℕ) (a : ℕ) (ks : List ℕ) → a + 4 + 4 * length ks ≤ 2 ^ 32 → store m (a + 4) (picked_bytes core.r ks) ≡ store m (next_word a) (picked_bytes core.r ks)
  next-store m a [] le = refl
  next-store m a (k ∷ ks) le = let same : a + 4 ≡ next_word a = omega arith in ap (λ (x : ℕ). store m x (picked_bytes core.r (k ∷ ks))) same

  next-low : (a : ℕ) (ks : List ℕ) → base ≤ a → a + 4 + 4 * length ks ≤ base + size → (0 < length ks → base ≤ next_word a)
  next-low a ks low high some = omega arith

  abbrev left : Contents → List ℕ → ℕ → Contents
  left c ks a = record c { memory = store c.memory a (picked_bytes core.r ks); stores = c.stores ++ word_places a (length ks) }

  abbrev Lies : List ℕ → ℕ → Type 0
  Lies ks a = 0 < length ks → (base ≤ a) × (a + 4 * length ks ≤ base + size)

  lies-next : (k a : ℕ) (ks : List ℕ) → Lies (k ∷ ks) a → Lies ks (next_word a)
  lies-next k a ks h some =
      let here = h (omega arith) in
      let low = here.0 in
      let high = here.1 in
      (omega arith, omega arith)

  gave-left : (s : State) (k a : ℕ) (ks : List ℕ) → Lies (k ∷ ks) a
      → left s.contents (k ∷ ks) a
      ≡ left (record s.contents { memory = store s.contents.memory a (bytes_of (get_or core.r k 0) 4); stores = s.contents.stores ++ (a, 4) ∷ [] }) ks (next_word a)
  gave-left s k a ks h =
      let high = (h (omega arith)).1 in
      let bytes = bytes_of (get_or core.r k 0) 4 in
      let memory : store s.contents.memory a (bytes ++ picked_bytes core.r ks) ≡ store (store s.contents.memory a bytes) (next_word a) (picked_bytes core.r ks) =
      store-append s.contents.memory a bytes (picked_bytes core.r ks)
      ∙ ap (λ (n : ℕ). store (store s.contents.memory a bytes) (a + n) (picked_bytes core.r ks)) (length-bytes_of (get_or core.r k 0) 4)
      ∙ next-store (store s.contents.memory a bytes) a ks (omega arith) in
      ap (λ (m : ℕ → ℕ). record s.contents { memory = m; stores = s.contents.stores ++ word_places a (length (k ∷ ks)) }) memory
      ∙ ap (λ (l : List (ℕ × ℕ)). record s.contents { memory = store (store s.contents.memory a bytes) (next_word a) (picked_bytes core.r ks); stores = l })
      (sym (append_assoc s.contents.stores ((a, 4) ∷ []) (word_places (next_word a) (length ks))))

  gave-served : (ks : List ℕ) (a : ℕ) (s : State) → Plain ks → s.contents.banks ≡ banks → s.contents.used ≡ used → Lies ks a
      → record s { contents = left s.contents ks a } ≡ served s (stores_of false core ks a)
  gave-served [] a s p b u h = ap (λ (l : List (ℕ × ℕ)). record s { contents = record s.contents { stores = l } }) (append-nil s.contents.stores)
  gave-served (k ∷ ks) a s p b u h =
      let here = h (omega arith) in
      let low = here.0 in
      let high = here.1 in
      let there : bank_has s.contents.banks a 4 ≡ true = ap (λ (bs : List Bank). bank_has bs a 4) b ∙ part_of banks base size a 4 low (omega arith) has in
      let unlocked : is_protected s.contents.banks a 4 ≡ false = ap (λ (bs : List Bank). is_protected bs a 4) b ∙ free_part banks base size a 4 low (omega arith) free in
      let held : page_used_in s.contents.used a ≡ true = ap (λ (us : List Bool). page_used_in us a) u ∙ page-at a low (omega arith) in
      let bytes : bytes_of (listed_at false core k % 256 ^ 4) 4 ≡ bytes_of (get_or core.r k 0) 4 = low-bytes (listed_at false core k) Word ∙ ap (λ (v : ℕ). bytes_of v 4) (stored-plain core k p.0) in
      let step = write-word s a (listed_at false core k % 256 ^ 4) there unlocked held
      ∙ ap (λ (bs : List ℕ). record s { contents = record s.contents { memory = store s.contents.memory a bs; stores = s.contents.stores ++ (a, 4) ∷ [] } }) bytes in
      ap (λ (c : Contents). record s { contents = c }) (gave-left s k a ks h)
      ∙ gave-served ks (next_word a) (record s { contents = record s.contents { memory = store s.contents.memory a (bytes_of (get_or core.r k 0) 4); stores = s.contents.stores ++ (a, 4) ∷ [] } }) p.1 b u (lies-next k a ks h)
      ∙ ap (λ (t : State). served t (stores_of false core ks (next_word a))) (sym step)

  used-same : (ks : List ℕ) (a : ℕ) → Lies ks a → used_with used (words_in banks ks a) ≡ used
  used-same [] a h = refl
  used-same (k ∷ ks) a h =
      let here = h (omega arith) in
      let low = here.0 in
      let high = here.1 in
      let there : bank_has banks a 4 ≡ true = part_of banks base size a 4 low (omega arith) has in
      rw there (ap (λ (us : List Bool). used_with us (words_in banks ks (next_word a))) (set-used used (a / 4096) (page-at a low (omega arith))) ∙ used-same ks (next_word a) (lies-next k a ks h))

-- ---- what the call of the bus gave

module _ (s : State) (core : ArmState) (list n a : ℕ) (r : IsReady s) (count : n ≡ length (registers 16 list)) (small : a < 2 ^ 32)
    (bytes : List ℕ) (new : Contents) (p : IsPicked s.contents a n bytes new) where
  lies : 0 < length (registers 16 list) → (a ≤ a) × (a + 4 * length (registers 16 list) ≤ a + 4 * n)
  lies some = (omega arith, omega arith)

  at-place : (j : ℕ) → j < length (registers 16 list) → (a + 4 * j) % 2 ^ 32 ≡ a + 4 * j
  at-place j lt = let w = p.within in omega arith

  pub picked_may : a % 4 ≡ 0 → all_may_store (board_of s) (registers 16 list) a ≡ true
  picked_may whole =
      may-each s (registers 16 list) a r whole small
      (λ j lt. subst (λ (x : ℕ). bank_has s.contents.banks x 4 ≡ true) (sym (at-place j lt)) (part_of s.contents.banks a (4 * n) (a + 4 * j) 4 (omega arith) (omega arith) p.has))
      (λ j lt. subst (λ (x : ℕ). is_protected s.contents.banks x 4 ≡ false) (sym (at-place j lt)) (free_part s.contents.banks a (4 * n) (a + 4 * j) 4 (omega arith) (omega arith) p.free))

  pub picked_fits : Fits s (words_in s.contents.banks (registers 16 list) a)
  picked_fits =
      let same = used-same s.contents.banks s.contents.used a (4 * n) p.has p.free p.used p.within small core (registers 16 list) a lies in
      record { room = rw same r.room }

  pub picked_ready : (s' : State) → s'.contents ≡ new → s'.devices ≡ s.devices → IsReady s'
  picked_ready s' to same =
      let left : State = record { contents = record s.contents { memory = store s.contents.memory a bytes; stores = s.contents.stores ++ word_places a n }; devices = s.devices } in
      let is : s' ≡ left = ap (λ (c : Contents). record s' { contents = c }) (to ∙ p.after)
      ∙ ap (λ (ds : List Seat). record { contents = record s.contents { memory = store s.contents.memory a bytes; stores = s.contents.stores ++ word_places a n }; devices = ds }) same in
      subst IsReady (sym is) (ready-same s left (record { banks = refl; have = λ x. refl; share = λ x. refl; whole = λ w. w }) refl r.room r)

  pub picked_served : (s' : State) → s'.contents ≡ new → lists list 15 ≡ false → bytes ≡ picked_bytes core.r (registers 16 list) → s'.devices ≡ s.devices
      → s' ≡ served s (stores_of false core (registers 16 list) a)
  picked_served s' to none is same =
      ap (λ (c : Contents). record s' { contents = c }) (to ∙ p.after)
      ∙ ap (λ (ds : List Seat). record { contents = record s.contents { memory = store s.contents.memory a bytes; stores = s.contents.stores ++ word_places a n }; devices = ds }) same
      ∙ ap (λ (bs : List ℕ). record s { contents = record s.contents { memory = store s.contents.memory a bs; stores = s.contents.stores ++ word_places a n } }) is
      ∙ ap (λ (m : ℕ). record s { contents = record s.contents { memory = store s.contents.memory a (picked_bytes core.r (registers 16 list)); stores = s.contents.stores ++ word_places a m } }) count
      ∙ gave-served s.contents.banks s.contents.used a (4 * n) p.has p.free p.used p.within small core (registers 16 list) a s (no-pc list none) refl refl lies
