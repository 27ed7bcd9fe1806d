-- Stores: what one leaves of a bus, and when there is a frame for it.
use Rattle.std.proofs.Common.{◌≡◌, ℕ, ◌+◌, ◌-◌, ◌/◌, ◌%◌, ◌^◌, ◌<◌, ◌≤◌, Bool, true, false, not, ◌||◌, ◌==◌, List, [], ◌∷◌, ◌++◌, length, set, Some, is_some, refl, sym, ap, ◌∙◌, subst, arith, cond, length-append, eqb-true}
use Rattle.std.specs.Prelude.{nat_le, nat_lt}
use Rattle.std.proofs.lemmas.Bool.{eqb-false}
use Rattle.sdt_word.specs.declared.codes.Width.{Width}
use Rattle.sdt_word.specs.declared.codes.Width.TheVariants.{Byte, Half, Word}
use Rattle.sdt_word.specs.Bytes.{bytes_of}
use Rattle.sdt_word.specs.Codes.{bytes_in}
use Rattle.arm7_model.specs.declared.state.ArmState.{ArmState}
use Rattle.arm7_model.specs.Accesses.{Access, Store, memory_after}
use Rattle.arm7_model.specs.Accesses.{after_store as model_store}
use Rattle.arm7_model.specs.Memory.{store}
use Rattle.arm7_bus.specs.Buses.{after_write, has_whole}
use Rattle.arm7_bus.specs.Paging.{used_count, page_used_in}
use Rattle.arm7_bus.specs.Seats.{device_at, changed_at, seat_written}
use Rattle.arm7_bus.specs.States.{State, bank_has, is_protected, after_store, noted}
use Rattle.arm7_transfers.specs.Boards.{board_of, working}
use Rattle.arm7_transfers.specs.Frames.{has_frames, least_unused, stored_to, lacks_frame}
use Rattle.arm7_transfers.specs.Ready.{IsReady}
use Rattle.arm7_transfers.proofs.BoardLemmas.{memory-whole}
use Rattle.arm7_transfers.proofs.ReadyLemmas.{SamePlaces, board-same, changes, written-kept, set-used}
use Rattle.arm7_bus.proofs.ClaimLemmas.{count_fresh as set-fresh}
use Rattle.arm7_model.proofs.ValidThumb.{never as false-true}

-- ---- what a write changes

-- a store that the machine may make
pub record CanStore (s : State) (a n : ℕ) : Type 0 where
  pub there : has_whole s a n ≡ true
  pub free : is_protected s.contents.banks a n ≡ false
  pub frame : bank_has s.contents.banks a n ≡ true → (page_used_in s.contents.used a || nat_lt (used_count s.contents.used) s.contents.frames) ≡ true

-- a write to memory, and one to a device
write-memory : (s : State) (a : ℕ) (width : Width) (v : ℕ) → CanStore s a (bytes_in width) → bank_has s.contents.banks a (bytes_in width) ≡ true
    → after_write s a width v ≡ record s { contents = after_store s.contents a width v }
write-memory s a width v c e = let f = c.frame e in rw (e, c.free, f) refl

write-device : (s : State) (a : ℕ) (width : Width) (v : ℕ) → CanStore s a (bytes_in width) → bank_has s.contents.banks a (bytes_in width) ≡ false
    → after_write s a width v ≡ record { contents = noted s.contents a (bytes_in width); devices = changed_at (seat_written a width v) a (bytes_in width) s.devices }
write-device s a width v c e = let d : is_some (device_at s.devices a (bytes_in width)) ≡ true = rw e at c.there in rw (e, d) refl

pub low-bytes : (v : ℕ) (width : Width) → bytes_of (v % 256 ^ bytes_in width) (bytes_in width) ≡ bytes_of v (bytes_in width)
low-bytes v Byte = ap (λ (x : ℕ). x ∷ []) (omega arith)
low-bytes v Half =
    let a : v % 65536 % 256 ≡ v % 256 = omega arith in
    let b : v % 65536 / 256 % 256 ≡ v / 256 % 256 = omega arith in rw (a, b) refl
low-bytes v Word =
    let a : v % 4294967296 % 256 ≡ v % 256 = omega arith in
    let b : v % 4294967296 / 256 % 256 ≡ v / 256 % 256 = omega arith in
    let c : v % 4294967296 / 256 / 256 % 256 ≡ v / 256 / 256 % 256 = omega arith in
    let d : v % 4294967296 / 256 / 256 / 256 % 256 ≡ v / 256 / 256 / 256 % 256 = omega arith in rw (a, b, c, d) refl

pub memory-write : (s : State) (a : ℕ) (width : Width) (v : ℕ) → IsReady s → a % bytes_in width ≡ 0 → CanStore s a (bytes_in width)
    → (after_write s a width (v % 256 ^ bytes_in width)).contents.memory ≡ memory_after (board_of s) s.contents.memory a width v
unfolding memory_after
memory-write s a width v r h c = go (bank_has s.contents.banks a (bytes_in width)) refl
  where
    go : (b : Bool) → bank_has s.contents.banks a (bytes_in width) ≡ b
        → (after_write s a width (v % 256 ^ bytes_in width)).contents.memory ≡ memory_after (board_of s) s.contents.memory a width v
    go true e =
        let m = memory-whole s a width r h ∙ e in
        ap (λ (t : State). t.contents.memory) (write-memory s a width (v % 256 ^ bytes_in width) c e)
        ∙ rw m (ap (store s.contents.memory a) (low-bytes v width))
    go false e =
        let m = memory-whole s a width r h ∙ e in
        ap (λ (t : State). t.contents.memory) (write-device s a width (v % 256 ^ bytes_in width) c e) ∙ rw m refl

pub stores-word : (s : State) (a : ℕ) (width : Width) (v : ℕ) (core : ArmState) (later : List ℕ) (before : List Access) → IsReady s → a % bytes_in width ≡ 0 → CanStore s a (bytes_in width)
    → model_store (board_of s) (working core s later before) a width v
    ≡ working core (after_write s a width (v % 256 ^ bytes_in width)) later (before ++ Store a width (v % 256 ^ bytes_in width) ∷ [])
unfolding model_store
stores-word s a width v core later before r h c =
    ap (λ (m : ℕ → ℕ). record { core = core; memory = m; answers = later; accesses = before ++ Store a width (v % 256 ^ bytes_in width) ∷ [] })
    (sym (memory-write s a width v r h c))

-- the board, the pages and the number of noted stores
pub places-write : (s : State) (a : ℕ) (width : Width) (v : ℕ) → CanStore s a (bytes_in width) → SamePlaces s (after_write s a width v)
places-write s a width v c = go (bank_has s.contents.banks a (bytes_in width)) refl
  where
    go : (b : Bool) → bank_has s.contents.banks a (bytes_in width) ≡ b → SamePlaces s (after_write s a width v)
    go true e = subst (λ (t : State). SamePlaces s t) (sym (write-memory s a width v c e)) (record { banks = refl; have = λ x. refl; share = λ x. refl; whole = λ w. w })
    go false e = subst (λ (t : State). SamePlaces s t) (sym (write-device s a width v c e)) (changes s (noted s.contents a (bytes_in width)) (seat_written a width v) a (bytes_in width) (written-kept a width v) refl)

pub board-write : (s : State) (a : ℕ) (width : Width) (v : ℕ) → CanStore s a (bytes_in width) → board_of (after_write s a width v) ≡ board_of s
board-write s a width v c = board-same s (after_write s a width v) (places-write s a width v c)

pub record Notes (s t : State) (a : ℕ) (b : Bool) : Type 0 where
  pub frames : t.contents.frames ≡ s.contents.frames
  pub used : t.contents.used ≡ cond b (set s.contents.used (a / 4096) true) s.contents.used
  pub stores : length t.contents.stores ≡ length s.contents.stores + 1

pub notes-write : (s : State) (a : ℕ) (width : Width) (v : ℕ) → CanStore s a (bytes_in width) → Notes s (after_write s a width v) a (bank_has s.contents.banks a (bytes_in width))
notes-write s a width v c = go (bank_has s.contents.banks a (bytes_in width)) refl
  where
    go : (b : Bool) → bank_has s.contents.banks a (bytes_in width) ≡ b → Notes s (after_write s a width v) a b
    go true e = subst (λ (t : State). Notes s t a true) (sym (write-memory s a width v c e))
        (record { frames = refl; used = refl; stores = length-append s.contents.stores ((a, bytes_in width) ∷ []) })
    go false e = subst (λ (t : State). Notes s t a false) (sym (write-device s a width v c e))
        (record { frames = refl; used = refl; stores = length-append s.contents.stores ((a, bytes_in width) ∷ []) })

-- ---- one store and the frames

page-within : (s : State) (a : ℕ) → IsReady s → a < 2 ^ 32 → a / 4096 < length s.contents.used
page-within s a r lt = let l = r.started in omega arith

le-true : (x y : ℕ) → x ≤ y → nat_le x y ≡ true
le-true x y h = grind arith

le-false : (x y : ℕ) → y < x → nat_le x y ≡ false
le-false x y h = grind arith

lt-true : (x y : ℕ) → x < y → nat_lt x y ≡ true
lt-true x y h = grind arith

-- whether a store lacks a frame, by the same facts
pub one-frame : (s : State) (a : ℕ) (width : Width) (x : ℕ) → IsReady s → a < 2 ^ 32
    → has_frames s (Store a width x ∷ []) ≡ not (lacks_frame s a (bytes_in width))
one-frame s a width x r lt =
    go (bank_has s.contents.banks a (bytes_in width)) refl (page_used_in s.contents.used a) refl (s.contents.frames - used_count s.contents.used == 0) refl
  where
    go : (b : Bool) → bank_has s.contents.banks a (bytes_in width) ≡ b → (u : Bool) → page_used_in s.contents.used a ≡ u
        → (n : Bool) → (s.contents.frames - used_count s.contents.used == 0) ≡ n
        → has_frames s (Store a width x ∷ []) ≡ not (lacks_frame s a (bytes_in width))
    go false e u f n g = rw e (le-true (used_count s.contents.used) s.contents.frames r.room)
    go true e true f n g = rw (e, f, set-used s.contents.used (a / 4096) f) (le-true (used_count s.contents.used) s.contents.frames r.room)
    go true e false f true g =
        let z = eqb-true (s.contents.frames - used_count s.contents.used) 0 g in
        let room = r.room in
        rw (e, f, g, set-fresh s.contents.used (a / 4096) (page-within s a r lt) f) (le-false (used_count s.contents.used + 1) s.contents.frames (omega arith))
    go true e false f false g =
        let z = eqb-false (s.contents.frames - used_count s.contents.used) 0 g in
        rw (e, f, g, set-fresh s.contents.used (a / 4096) (page-within s a r lt) f) (le-true (used_count s.contents.used + 1) s.contents.frames (omega arith))

-- a store that lacks no frame
pub can-store : (s : State) (a n : ℕ) → has_whole s a n ≡ true → is_protected s.contents.banks a n ≡ false → lacks_frame s a n ≡ false → CanStore s a n
can-store s a n h p l = record {
  there = h;
  free = p;
  frame = λ e. go e (page_used_in s.contents.used a) refl (s.contents.frames - used_count s.contents.used == 0) refl;
}
  where
    go : bank_has s.contents.banks a n ≡ true → (u : Bool) → page_used_in s.contents.used a ≡ u → (z : Bool) → (s.contents.frames - used_count s.contents.used == 0) ≡ z
        → (page_used_in s.contents.used a || nat_lt (used_count s.contents.used) s.contents.frames) ≡ true
    go e true f z g = rw f refl
    go e false f true g = absurd (wrong (rw (e, f, g) at l))
      where
        wrong : true ≡ false → ⊥
        wrong h = cc
    go e false f false g =
        let z = eqb-false (s.contents.frames - used_count s.contents.used) 0 g in
        rw f (lt-true (used_count s.contents.used) s.contents.frames (omega arith))

-- the least address of one store that lacks a frame is its own
pub one-least : (s : State) (a : ℕ) (width : Width) (x : ℕ) → lacks_frame s a (bytes_in width) ≡ true
    → least_unused s.contents.used (stored_to s.contents.banks (Store a width x ∷ [])) ≡ Some a
one-least s a width x l = go (bank_has s.contents.banks a (bytes_in width)) refl (page_used_in s.contents.used a) refl
  where
    go : (b : Bool) → bank_has s.contents.banks a (bytes_in width) ≡ b → (u : Bool) → page_used_in s.contents.used a ≡ u
        → least_unused s.contents.used (stored_to s.contents.banks (Store a width x ∷ [])) ≡ Some a
    go false e u f = false-true (rw e at l)
    go true e true f = false-true (rw (e, f) at l)
    go true e false f = rw (e, f) refl
