-- What a bus has served, where all stores to memory lie in used pages: the memory that the model says.
use Rattle.std.proofs.Common.{◌≡◌, ℕ, ◌/◌, ◌≤◌, Bool, true, false, not, List, [], ◌∷◌, set, Option, Some, None, is_some, refl, sym, ap, ◌∙◌, subst, cond}
use Rattle.sdt_word.specs.declared.codes.Width.{Width}
use Rattle.sdt_word.specs.Codes.{bytes_in}
use Rattle.arm7_model.specs.Accesses.{Access, Fetch, Load, Store, memory_after}
use Rattle.arm7_model.specs.Memory.{Board, Bytes}
use Rattle.arm7_bus.specs.declared.memory.Bank.{Bank}
use Rattle.arm7_bus.specs.declared.memory.BusFault.{BusFault}
use Rattle.arm7_bus.specs.Buses.{after_read, after_write, has_whole}
use Rattle.arm7_bus.specs.Paging.{used_count}
use Rattle.arm7_bus.specs.Seats.{changed_at, device_at, seat_written}
use Rattle.arm7_bus.specs.States.{Contents, State, after_store, bank_has, is_protected, noted, store_fault, store_leaves}
use Rattle.arm7_bus.proofs.MeetLemmas.{and_left as and-left, and_right as and-right}
use Rattle.arm7_transfers.specs.Boards.{board_of}
use Rattle.arm7_transfers.specs.Frames.{has_frames, stored_to, used_with}
use Rattle.arm7_transfers.specs.Ready.{IsReady}
use Rattle.arm7_transfers.specs.Served.{served}
use Rattle.arm7_transfers.proofs.BoardLemmas.{contents-read, may-whole}
use Rattle.arm7_transfers.proofs.DoneLemmas.{fits}
use Rattle.arm7_transfers.proofs.ReadyLemmas.{SamePlaces, board-read, board-same, changes, ready-read, ready-write, set-used, stays, written-kept}
use Rattle.arm7_transfers.proofs.StoreLemmas.{CanStore, memory-write, notes-write, places-write}
use Rattle.run_laws.specs.Steps.{AreUsed, StoresAreUsed}
use Rattle.kit_laws.proofs.Added.{AreSound, IsSound, moved}

-- ---- accesses of any kind leave the board, and the bus ready

left-banks : (o : Option BusFault) (c d : Contents) → d.banks ≡ c.banks → (store_leaves o c d).banks ≡ c.banks
left-banks None c d e = e
left-banks (Some fault) c d e = refl

pub places-any : (s : State) (a : ℕ) (width : Width) (v : ℕ) → SamePlaces s (after_write s a width v)
places-any s a width v = go (bank_has s.contents.banks a (bytes_in width)) (is_some (device_at s.devices a (bytes_in width)))
  where
    go : (b d : Bool) → SamePlaces s (cond b (record s { contents = store_leaves (store_fault s.contents a (bytes_in width)) s.contents (after_store s.contents a width v) })
        (cond d (record { contents = noted s.contents a (bytes_in width); devices = changed_at (seat_written a width v) a (bytes_in width) s.devices }) s))
    go true d = record {
      banks = left-banks (store_fault s.contents a (bytes_in width)) s.contents (after_store s.contents a width v) refl;
      have = λ x. refl;
      share = λ x. refl;
      whole = λ w. w;
    }
    go false true = changes s (noted s.contents a (bytes_in width)) (seat_written a width v) a (bytes_in width) (written-kept a width v) refl
    go false false = stays s

pub board-served : (s : State) (xs : List Access) → board_of (served s xs) ≡ board_of s
board-served s [] = refl
board-served s (Fetch a width ∷ rest) = board-served (after_read s a width) rest ∙ board-read s a width
board-served s (Load a width ∷ rest) = board-served (after_read s a width) rest ∙ board-read s a width
board-served s (Store a width v ∷ rest) = board-served (after_write s a width v) rest ∙ board-same s (after_write s a width v) (places-any s a width v)

pub ready-served : (s : State) (xs : List Access) → IsReady s → IsReady (served s xs)
ready-served s [] r = r
ready-served s (Fetch a width ∷ rest) r = ready-served (after_read s a width) rest (ready-read s a width r)
ready-served s (Load a width ∷ rest) r = ready-served (after_read s a width) rest (ready-read s a width r)
ready-served s (Store a width v ∷ rest) r = ready-served (after_write s a width v) rest (ready-write s a width v r)

-- ---- stores in used pages

pub used-as : (c d : Contents) (xs : List Access) → d.used ≡ c.used → d.banks ≡ c.banks → StoresAreUsed c xs → StoresAreUsed d xs
used-as c d xs e f h =
    subst (λ (used : List Bool). AreUsed used (stored_to d.banks xs)) (sym e) (subst (λ (banks : List Bank). AreUsed c.used (stored_to banks xs)) (sym f) h)

used-with : (used : List Bool) (l : List ℕ) → AreUsed used l → used_with used l ≡ used
used-with used [] h = refl
used-with used (a ∷ rest) h = ap (λ (us : List Bool). used_with us rest) (set-used used (a / 4096) h.0) ∙ used-with used rest h.1

pub frames-used : (s : State) (xs : List Access) → IsReady s → StoresAreUsed s.contents xs → has_frames s xs ≡ true
frames-used s xs r h =
    fits _ _ (subst (λ (us : List Bool). used_count us ≤ s.contents.frames) (sym (used-with s.contents.used (stored_to s.contents.banks xs) h)) r.room)

-- the bus holds this memory, in the same banks and the same used pages
pub record Holds (s t : State) (m : Bytes) : Type 0 where
  pub memory : t.contents.memory ≡ m
  pub used : t.contents.used ≡ s.contents.used
  pub banks : t.contents.banks ≡ s.contents.banks

abbrev pub Serves : State → List Access → Type 0
Serves s xs = AreSound (board_of s) xs → StoresAreUsed s.contents xs → Holds s (served s xs) (moved (board_of s) s.contents.memory xs)

behind-read : (s : State) (a : ℕ) (width : Width) (rest : List Access) → Serves (after_read s a width) rest
    → AreSound (board_of s) rest → StoresAreUsed s.contents rest → Holds s (served (after_read s a width) rest) (moved (board_of s) s.contents.memory rest)
behind-read s a width rest more sound used =
    let t = after_read s a width in
    let b = board-read s a width in
    let c = contents-read s a width in
    let p = more (subst (λ (x : Board). AreSound x rest) (sym b) sound) (subst (λ (x : Contents). StoresAreUsed x rest) (sym c) used) in
    record {
      memory = p.memory ∙ ap (λ (x : Board). moved x t.contents.memory rest) b ∙ ap (λ (x : Contents). moved (board_of s) x.memory rest) c;
      used = p.used ∙ ap (λ (x : Contents). x.used) c;
      banks = p.banks ∙ ap (λ (x : Contents). x.banks) c;
    }

not-true : (b : Bool) → not b ≡ true → b ≡ false
not-true true e = sym e
not-true false e = refl

can-store : (s : State) (a : ℕ) (width : Width) (v : ℕ) (rest : List Access) → IsReady s → IsSound (board_of s) a width v
    → StoresAreUsed s.contents (Store a width v ∷ rest) → CanStore s a (bytes_in width)
can-store s a width v rest r sound used =
    let may = sym (may-whole s a width r sound.aligned) ∙ sound.may in
    record {
      there = and-left (has_whole s a (bytes_in width)) (not (is_protected s.contents.banks a (bytes_in width))) may;
      free = not-true (is_protected s.contents.banks a (bytes_in width)) (and-right (has_whole s a (bytes_in width)) (not (is_protected s.contents.banks a (bytes_in width))) may);
      frame = λ e. let h = rw e at used in rw h.0 refl;
    }

used-kept : (s : State) (a : ℕ) (l : List ℕ) (b : Bool) → AreUsed s.contents.used (cond b (a ∷ l) l)
    → (cond b (set s.contents.used (a / 4096) true) s.contents.used ≡ s.contents.used) × AreUsed s.contents.used l
used-kept s a l true h = (set-used s.contents.used (a / 4096) h.0, h.1)
used-kept s a l false h = (refl, h)

behind-write : (s : State) (a : ℕ) (width : Width) (v : ℕ) (rest : List Access) → IsReady s → Serves (after_write s a width v) rest
    → AreSound (board_of s) (Store a width v ∷ rest) → StoresAreUsed s.contents (Store a width v ∷ rest)
    → Holds s (served (after_write s a width v) rest) (moved (board_of s) s.contents.memory (Store a width v ∷ rest))
behind-write s a width v rest r more sound used =
    let t = after_write s a width v in
    let can = can-store s a width v rest r sound.0 used in
    let kept = used-kept s a (stored_to s.contents.banks rest) (bank_has s.contents.banks a (bytes_in width)) used in
    let same_used : t.contents.used ≡ s.contents.used = (notes-write s a width v can).used ∙ kept.0 in
    let same_banks : t.contents.banks ≡ s.contents.banks = (places-write s a width v can).banks in
    let b = board-same s t (places-any s a width v) in
    let memory : t.contents.memory ≡ memory_after (board_of s) s.contents.memory a width v =
    ap (λ (x : ℕ). (after_write s a width x).contents.memory) (sym sound.0.small) ∙ memory-write s a width v r sound.0.aligned can in
    let p = more (subst (λ (x : Board). AreSound x rest) (sym b) sound.1) (used-as s.contents t.contents rest same_used same_banks kept.1) in
    record {
      memory = p.memory ∙ ap (λ (x : Board). moved x t.contents.memory rest) b ∙ ap (λ (m : Bytes). moved (board_of s) m rest) memory;
      used = p.used ∙ same_used;
      banks = p.banks ∙ same_banks;
    }

pub serves : (s : State) (xs : List Access) → IsReady s → Serves s xs
serves s [] r sound used = record { memory = refl; used = refl; banks = refl }
serves s (Fetch a width ∷ rest) r sound used = behind-read s a width rest (serves (after_read s a width) rest (ready-read s a width r)) sound used
serves s (Load a width ∷ rest) r sound used = behind-read s a width rest (serves (after_read s a width) rest (ready-read s a width r)) sound used
serves s (Store a width v ∷ rest) r sound used = behind-write s a width v rest r (serves (after_write s a width v) rest (ready-write s a width v r)) sound used
