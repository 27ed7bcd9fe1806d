-- What accesses and time leave as it is: the board, and that a bus is ready.
use Rattle.std.proofs.Common.{◌≡◌, ℕ, zero, suc, ◌+◌, ◌/◌, ◌%◌, ◌≤◌, Bool, true, false, ◌||◌, List, [], ◌∷◌, length, get_or, set, map, Some, None, is_some, refl, sym, ap, ◌∙◌, subst, arith, cond}
use Rattle.std.specs.Prelude.{nat_lt}
use Rattle.std.proofs.Math.Path.{fun_ext}
use Rattle.std.proofs.lemmas.List.{length-set}
use Rattle.std.proofs.lemmas.List.Sums.{sum_by-cons}
use Rattle.std.proofs.Common.{ltb-true}
use Rattle.sdt_word.specs.declared.codes.Width.{Width}
use Rattle.sdt_word.specs.Codes.{bytes_in}
use Rattle.arm7_model.specs.Memory.{Board}
use Rattle.arm7_bus.specs.declared.memory.Bank.{Bank}
use Rattle.arm7_bus.specs.declared.memory.BusFault.TheVariants.{NoFrame, ReadOnly}
use Rattle.arm7_bus.specs.Buses.{after_read, after_write, after_tick}
use Rattle.arm7_bus.specs.Meets.{seats_have, seats_share}
use Rattle.arm7_bus.specs.Paging.{used_count, page_used_in}
use Rattle.arm7_bus.specs.Seats.{Seat, has_access, device_at, changed_at, seat_read, seat_written, seat_ticked}
use Rattle.arm7_bus.specs.States.{State, Contents, bank_has, is_protected, protected_at, store_fault, after_store, noted, store_leaves}
use Rattle.arm7_bus.specs.WholeWords.{AreWholeBanks, AreWholeSeats}
use Rattle.arm7_transfers.specs.Boards.{board_of}
use Rattle.arm7_transfers.specs.Ready.{IsReady, IsLaidOut}

-- ---- devices that change keep their places

abbrev pub Keeps : (Seat → Seat) → Type 0
Keeps change = (d : Seat) → ((change d).base ≡ d.base) × ((change d).size ≡ d.size)

have-changed : (change : Seat → Seat) → Keeps change → (a n : ℕ) (ds : List Seat) (x : ℕ) → seats_have (changed_at change a n ds) x ≡ seats_have ds x
have-changed change k a n [] x = refl
have-changed change k a n (d ∷ ds) x = go (has_access d.base d.size a n) (have-changed change k a n ds x)
  where
    go : (b : Bool) → seats_have (changed_at change a n ds) x ≡ seats_have ds x → seats_have (cond b (change d ∷ ds) (d ∷ changed_at change a n ds)) x ≡ seats_have (d ∷ ds) x
    go true e = rw ((k d).0, (k d).1) refl
    go false e = ap (λ (b : Bool). has_access d.base d.size x 1 || b) e

share-changed : (change : Seat → Seat) → Keeps change → (a n : ℕ) (ds : List Seat) (x : ℕ) → seats_share (changed_at change a n ds) x ≡ seats_share ds x
share-changed change k a n [] x = refl
share-changed change k a n (d ∷ ds) x = go (has_access d.base d.size a n) (share-changed change k a n ds x)
  where
    go : (b : Bool) → seats_share (changed_at change a n ds) x ≡ seats_share ds x → seats_share (cond b (change d ∷ ds) (d ∷ changed_at change a n ds)) x ≡ seats_share (d ∷ ds) x
    go true e = rw ((k d).0, (k d).1) refl
    go false e = rw (have-changed change k a n ds x, e) refl

whole-changed : (change : Seat → Seat) → Keeps change → (a n : ℕ) (ds : List Seat) → AreWholeSeats ds → AreWholeSeats (changed_at change a n ds)
whole-changed change k a n [] w = tt
whole-changed change k a n (d ∷ ds) w = go (has_access d.base d.size a n) (whole-changed change k a n ds w.1)
  where
    go : (b : Bool) → AreWholeSeats (changed_at change a n ds) → AreWholeSeats (cond b (change d ∷ ds) (d ∷ changed_at change a n ds))
    go true e = ((ap (λ (x : ℕ). x % 4) (k d).0 ∙ w.0.0, ap (λ (x : ℕ). x % 4) (k d).1 ∙ w.0.1), w.1)
    go false e = (w.0, e)

have-ticked : (ds : List Seat) (x : ℕ) → seats_have (map seat_ticked ds) x ≡ seats_have ds x
have-ticked [] x = refl
have-ticked (d ∷ ds) x = ap (λ (b : Bool). has_access d.base d.size x 1 || b) (have-ticked ds x)

share-ticked : (ds : List Seat) (x : ℕ) → seats_share (map seat_ticked ds) x ≡ seats_share ds x
share-ticked [] x = refl
share-ticked (d ∷ ds) x = rw (have-ticked ds x, share-ticked ds x) refl

whole-ticked : (ds : List Seat) → AreWholeSeats ds → AreWholeSeats (map seat_ticked ds)
whole-ticked [] w = tt
whole-ticked (d ∷ ds) w = (w.0, whole-ticked ds w.1)

-- ---- states with the same places

pub record SamePlaces (s t : State) : Type 0 where
  pub banks : t.contents.banks ≡ s.contents.banks
  pub have : (x : ℕ) → seats_have t.devices x ≡ seats_have s.devices x
  pub share : (x : ℕ) → seats_share t.devices x ≡ seats_share s.devices x
  pub whole : AreWholeSeats s.devices → AreWholeSeats t.devices

pub board-same : (s t : State) → SamePlaces s t → board_of t ≡ board_of s
unfolding board_of
board-same s t p =
    let by : List Bank → (ℕ → Bool) → Board = λ bs f. record { memory = λ a. bank_has bs a 1; device = f; read_only = λ a. protected_at bs a } in
    ap (λ (bs : List Bank). by bs (λ a. seats_have t.devices a)) p.banks
    ∙ ap (λ (f : ℕ → Bool). by s.contents.banks f) (fun_ext p.have)

laid_out-same : (s t : State) → SamePlaces s t → IsLaidOut s → IsLaidOut t
laid_out-same s t p r = record {
  banks = let Whole : List Bank → Type 0 = λ bs. AreWholeBanks bs in subst Whole (sym p.banks) r.banks;
  devices = p.whole r.devices;
  apart = λ a h. ap (λ (bs : List Bank). bank_has bs a 1) p.banks ∙ r.apart a (sym (p.have a) ∙ h);
  alone = record { none = λ a. p.share a ∙ r.alone.none a };
}

pub ready-same : (s t : State) → SamePlaces s t → length t.contents.used ≡ length s.contents.used → used_count t.contents.used ≤ t.contents.frames → IsReady s → IsReady t
ready-same s t p e c r = record { laid_out = laid_out-same s t p r.laid_out; started = e ∙ r.started; room = c }

pub stays : (s : State) → SamePlaces s s
stays s = record { banks = refl; have = λ x. refl; share = λ x. refl; whole = λ w. w }

pub changes : (s : State) (c : Contents) (change : Seat → Seat) (a n : ℕ) → Keeps change → c.banks ≡ s.contents.banks → SamePlaces s (record { contents = c; devices = changed_at change a n s.devices })
changes s c change a n k e = record {
  banks = e;
  have = have-changed change k a n s.devices;
  share = share-changed change k a n s.devices;
  whole = whole-changed change k a n s.devices;
}

-- ---- a read

read-kept : Keeps seat_read
read-kept d = (refl, refl)

pub places-read : (s : State) (a : ℕ) (width : Width) → SamePlaces s (after_read s a width)
places-read s a width = go (bank_has s.contents.banks a (bytes_in width))
  where
    go : (b : Bool) → SamePlaces s (cond b s (record s { devices = changed_at seat_read a (bytes_in width) s.devices }))
    go true = stays s
    go false = changes s s.contents seat_read a (bytes_in width) read-kept refl

contents-by : (b : Bool) (s t : State) → t.contents ≡ s.contents → (cond b s t).contents ≡ s.contents
contents-by true s t e = refl
contents-by false s t e = e

pub board-read : (s : State) (a : ℕ) (width : Width) → board_of (after_read s a width) ≡ board_of s
board-read s a width = board-same s (after_read s a width) (places-read s a width)

pub ready-read : (s : State) (a : ℕ) (width : Width) → IsReady s → IsReady (after_read s a width)
ready-read s a width r =
    let e = contents-by (bank_has s.contents.banks a (bytes_in width)) s (record s { devices = changed_at seat_read a (bytes_in width) s.devices }) refl in
    ready-same s (after_read s a width) (places-read s a width) (ap (λ (c : Contents). length c.used) e)
    (subst (λ (c : Contents). used_count c.used ≤ c.frames) (sym e) r.room) r

-- ---- used pages

count-cons : (u : Bool) (us : List Bool) → used_count (u ∷ us) ≡ cond u 1 0 + used_count us
count-cons u us = sum_by-cons (λ (u : Bool). cond u 1 0) u us

as_one-below : (u : Bool) → cond u 1 0 ≤ 1
as_one-below true = omega arith
as_one-below false = omega arith

pub set-grows : (us : List Bool) (p : ℕ) → used_count us ≤ used_count (set us p true)
set-grows [] p = omega arith
set-grows (u ∷ us) zero =
    let a = count-cons u us in let b = count-cons true us in let c = as_one-below u in omega arith
set-grows (u ∷ us) (suc p) =
    let a = count-cons u us in let b = count-cons u (set us p true) in let c = set-grows us p in omega arith

pub set-by-one : (us : List Bool) (p : ℕ) → used_count (set us p true) ≤ used_count us + 1
set-by-one [] p = omega arith
set-by-one (u ∷ us) zero =
    let a = count-cons u us in let b = count-cons true us in omega arith
set-by-one (u ∷ us) (suc p) =
    let a = count-cons u us in let b = count-cons u (set us p true) in let c = set-by-one us p in omega arith

pub set-used : (us : List Bool) (p : ℕ) → get_or us p false ≡ true → set us p true ≡ us
set-used [] p e = refl
set-used (u ∷ us) zero e = ap (λ (x : Bool). x ∷ us) (sym e)
set-used (u ∷ us) (suc p) e = ap (λ (l : List Bool). u ∷ l) (set-used us p e)

pub written-kept : (a : ℕ) (width : Width) (v : ℕ) → Keeps (seat_written a width v)
written-kept a width v d = (refl, refl)

-- a page is used, or there is a frame for it
pub record HasFrame (c : Contents) (a : ℕ) : Type 0 where
  pub grows : used_count (set c.used (a / 4096) true) ≤ c.frames

frame-used : (c : Contents) (a : ℕ) → used_count c.used ≤ c.frames → page_used_in c.used a ≡ true → HasFrame c a
frame-used c a r e = record { grows = rw (set-used c.used (a / 4096) e) r }

frame-left : (c : Contents) (a : ℕ) → nat_lt (used_count c.used) c.frames ≡ true → HasFrame c a
frame-left c a e = let lt = ltb-true (used_count c.used) c.frames e in let b = set-by-one c.used (a / 4096) in record { grows = omega arith }

store-kept : (s : State) (a : ℕ) (width : Width) (v : ℕ) → IsReady s → (u l : Bool) → page_used_in s.contents.used a ≡ u → nat_lt (used_count s.contents.used) s.contents.frames ≡ l
    → (p : Bool) → IsReady (record s { contents = store_leaves (cond p (Some ReadOnly) (cond (u || l) None (Some (NoFrame a)))) s.contents (after_store s.contents a width v) })
store-kept s a width v r u l e f true = r
store-kept s a width v r true l e f false =
    ready-same s (record s { contents = after_store s.contents a width v }) (record { banks = refl; have = λ x. refl; share = λ x. refl; whole = λ w. w })
    (length-set s.contents.used (a / 4096) true) (frame-used s.contents a r.room e).grows r
store-kept s a width v r false true e f false =
    ready-same s (record s { contents = after_store s.contents a width v }) (record { banks = refl; have = λ x. refl; share = λ x. refl; whole = λ w. w })
    (length-set s.contents.used (a / 4096) true) (frame-left s.contents a f).grows r
store-kept s a width v r false false e f false = r

pub ready-write : (s : State) (a : ℕ) (width : Width) (v : ℕ) → IsReady s → IsReady (after_write s a width v)
ready-write s a width v r = go (bank_has s.contents.banks a (bytes_in width)) (is_some (device_at s.devices a (bytes_in width)))
  where
    go : (b d : Bool) → IsReady (cond b (record s { contents = store_leaves (store_fault s.contents a (bytes_in width)) s.contents (after_store s.contents a width v) })
        (cond d (record { contents = noted s.contents a (bytes_in width); devices = changed_at (seat_written a width v) a (bytes_in width) s.devices }) s))
    go true d = store-kept s a width v r (page_used_in s.contents.used a) (nat_lt (used_count s.contents.used) s.contents.frames) refl refl (is_protected s.contents.banks a (bytes_in width))
    go false true = ready-same s (record { contents = noted s.contents a (bytes_in width); devices = changed_at (seat_written a width v) a (bytes_in width) s.devices })
        (changes s (noted s.contents a (bytes_in width)) (seat_written a width v) a (bytes_in width) (written-kept a width v) refl) refl r.room r
    go false false = r

-- ---- time

pub places-tick : (s : State) → SamePlaces s (after_tick s)
places-tick s = record { banks = refl; have = have-ticked s.devices; share = share-ticked s.devices; whole = whole-ticked s.devices }

pub ready-tick : (s : State) → IsReady s → IsReady (after_tick s)
ready-tick s r = ready-same s (after_tick s) (places-tick s) refl r.room r

-- ---- the same, of what a call left

pub ready_after_read : (s t : State) (a : ℕ) (width : Width) → t ≡ after_read s a width → IsReady s → IsReady t
ready_after_read s t a width e r = subst (λ (x : State). IsReady x) (sym e) (ready-read s a width r)

pub ready_after_write : (s t : State) (a : ℕ) (width : Width) (v : ℕ) → t ≡ after_write s a width v → IsReady s → IsReady t
ready_after_write s t a width v e r = subst (λ (x : State). IsReady x) (sym e) (ready-write s a width v r)
