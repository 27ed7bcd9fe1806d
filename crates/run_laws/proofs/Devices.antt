-- Steps that access no device.
use Rattle.std.proofs.Common.{◌≡◌, ℕ, zero, suc, ◌<◌, Bool, true, false, ◌||◌, List, [], ◌∷◌, ◌++◌, length, map, None, is_some, refl, sym, ap, ◌∙◌, subst, arith, cond}
use Rattle.std.specs.Prelude.{option_map}
use Rattle.std.specs.Option.{option_to_list}
use Rattle.sdt_word.specs.declared.codes.Width.{Width}
use Rattle.sdt_word.specs.Codes.{bytes_in}
use Rattle.arm7_model.specs.Accesses.{Access, Fetch, Load, Store}
use Rattle.arm7_model.specs.Memory.{Board}
use Rattle.arm7_model.specs.Runs.{EachStep, Input}
use Rattle.arm7_bus.specs.Buses.{after_read, after_tick, after_write}
use Rattle.arm7_bus.specs.Meets.{seats_have}
use Rattle.arm7_bus.specs.Seats.{Seat, changed_at, device_at, has_access, lines_up, seat_answer, seat_read, seat_ticked, seat_written}
use Rattle.arm7_bus.specs.States.{State, bank_has, noted, store_fault, store_leaves}
use Rattle.arm7_bus.specs.States.{after_store}
use Rattle.arm7_transfers.specs.Boards.{board_of}
use Rattle.arm7_transfers.specs.Served.{answers_to, given, served}
use Rattle.arm7_transfers.proofs.AccessLemmas.{unchanged}
use Rattle.arm7_transfers.proofs.BoardLemmas.{some-bytes}
use Rattle.arm7_transfers.proofs.ReadyLemmas.{board-same, places-tick}
use Rattle.arm7_core.specs.Machines.{levels}
use Rattle.run_laws.specs.Devices.{AreOffDevices, address, lines_for, ticked_for, touches_of}
use Rattle.run_laws.specs.Laws.{DevicesAreLeft}
use Rattle.run_laws.specs.Steps.{given_by, left_by}
use Rattle.run_laws.proofs.ServedMemory.{board-served}

-- ---- one access

no-access : (base size a n : ℕ) → 0 < n → has_access base size a 1 ≡ false → has_access base size a n ≡ false
no-access base size a n some h = grind arith

left-false : (x y : Bool) → (x || y) ≡ false → x ≡ false
left-false true y e = e
left-false false y e = refl

right-false : (x y : Bool) → (x || y) ≡ false → y ≡ false
right-false true true e = e
right-false true false e = refl
right-false false y e = e

pub none-at : (ds : List Seat) (a n : ℕ) → 0 < n → seats_have ds a ≡ false → device_at ds a n ≡ None
none-at [] a n some h = refl
none-at (d ∷ ds) a n some h =
    let first = no-access d.base d.size a n some (left-false (has_access d.base d.size a 1) (seats_have ds a) h) in
    rw first (none-at ds a n some (right-false (has_access d.base d.size a 1) (seats_have ds a) h))

none-given : (s : State) (a : ℕ) (width : Width) → device_at s.devices a (bytes_in width) ≡ None → given s a width ≡ []
none-given s a width e = go (bank_has s.contents.banks a (bytes_in width))
  where
    go : (b : Bool) → cond b [] (option_to_list (option_map (seat_answer a width) (device_at s.devices a (bytes_in width)))) ≡ []
    go true = refl
    go false = rw e refl

pub read-left : (s : State) (a : ℕ) (width : Width) → device_at s.devices a (bytes_in width) ≡ None → (after_read s a width).devices ≡ s.devices
read-left s a width e = go (bank_has s.contents.banks a (bytes_in width))
  where
    go : (b : Bool) → (cond b s (record s { devices = changed_at seat_read a (bytes_in width) s.devices })).devices ≡ s.devices
    go true = refl
    go false = unchanged seat_read a (bytes_in width) s.devices e

pub write-left : (s : State) (a : ℕ) (width : Width) (v : ℕ) → device_at s.devices a (bytes_in width) ≡ None → (after_write s a width v).devices ≡ s.devices
write-left s a width v e = go (bank_has s.contents.banks a (bytes_in width)) (is_some (device_at s.devices a (bytes_in width)))
  where
    go : (b d : Bool) → (cond b (record s { contents = store_leaves (store_fault s.contents a (bytes_in width)) s.contents (after_store s.contents a width v) })
        (cond d (record { contents = noted s.contents a (bytes_in width); devices = changed_at (seat_written a width v) a (bytes_in width) s.devices }) s)).devices ≡ s.devices
    go true d = refl
    go false true = unchanged (seat_written a width v) a (bytes_in width) s.devices e
    go false false = refl

-- ---- the accesses of a step

-- no address of the accesses is a device's
abbrev pub AreOff : List Seat → List Access → Type 0
AreOff seats [] = Unit {0}
AreOff seats (x ∷ xs) = (seats_have seats (address x) ≡ false) × AreOff seats xs

pub off-board : (s : State) (xs : List Access) → AreOffDevices (board_of s) xs → AreOff s.devices xs
unfolding board_of
off-board s [] h = tt
off-board s (x ∷ xs) h = (h.0, off-board s xs h.1)

abbrev Untouched : State → List Access → Type 0
Untouched s xs = (answers_to s xs ≡ []) × ((served s xs).devices ≡ s.devices)

behind-one : (s t : State) (xs : List Access) → t.devices ≡ s.devices → (AreOff t.devices xs → Untouched t xs) → AreOff s.devices xs → Untouched t xs
behind-one s t xs e more off = more (subst (λ (ds : List Seat). AreOff ds xs) (sym e) off)

pub untouched : (s : State) (xs : List Access) → AreOff s.devices xs → Untouched s xs
untouched s [] off = (refl, refl)
untouched s (Fetch a width ∷ rest) off =
    let none = none-at s.devices a (bytes_in width) (some-bytes width) off.0 in
    let kept = read-left s a width none in
    let p = behind-one s (after_read s a width) rest kept (untouched (after_read s a width) rest) off.1 in
    (ap (λ (l : List ℕ). l ++ answers_to (after_read s a width) rest) (none-given s a width none) ∙ p.0, p.1 ∙ kept)
untouched s (Load a width ∷ rest) off =
    let none = none-at s.devices a (bytes_in width) (some-bytes width) off.0 in
    let kept = read-left s a width none in
    let p = behind-one s (after_read s a width) rest kept (untouched (after_read s a width) rest) off.1 in
    (ap (λ (l : List ℕ). l ++ answers_to (after_read s a width) rest) (none-given s a width none) ∙ p.0, p.1 ∙ kept)
untouched s (Store a width v ∷ rest) off =
    let none = none-at s.devices a (bytes_in width) (some-bytes width) off.0 in
    let kept = write-left s a width v none in
    let p = behind-one s (after_write s a width v) rest kept (untouched (after_write s a width v) rest) off.1 in
    (p.0, p.1 ∙ kept)

-- a fetch alone
pub one-read : (s : State) (a : ℕ) (width : Width) (rest : List Access) → AreOff s.devices (Fetch a width ∷ rest) → (after_read s a width).devices ≡ s.devices
one-read s a width rest off = read-left s a width (none-at s.devices a (bytes_in width) (some-bytes width) off.0)

-- ---- all steps

touches-ticked : (ds : List Seat) → touches_of (map seat_ticked ds) ≡ touches_of ds
touches-ticked [] = refl
touches-ticked (d ∷ ds) = ap (λ (l : List ℕ). d.touches ∷ l) (touches-ticked ds)

pub touches-kept : (n : ℕ) (ds : List Seat) → touches_of (ticked_for n ds) ≡ touches_of ds
touches-kept zero ds = refl
touches-kept (suc n) ds = touches-kept n (map seat_ticked ds) ∙ touches-ticked ds

pub each-board : (b c : Board) (xs : List (List Access)) → b ≡ c → EachStep (AreOffDevices b) xs → EachStep (AreOffDevices c) xs
each-board b c xs e h = subst (λ (x : Board). EachStep (AreOffDevices x) xs) e h

left : (s : State) (xs : List (List Access)) → EachStep (AreOffDevices (board_of s)) xs
    → (given_by s xs ≡ lines_for (length xs) s.devices) × ((left_by s xs).devices ≡ ticked_for (length xs) s.devices)
left s [] off = (refl, refl)
left s (x ∷ xs) (first, rest) =
    let t = after_tick s in
    let board = board-same s t (places-tick s) in
    let u = untouched t x (off-board t x (subst (λ (b : Board). AreOffDevices b x) (sym board) first)) in
    let n = served t x in
    let p = left n xs (each-board (board_of s) (board_of n) xs (sym (board-served t x ∙ board)) rest) in (
      ap (λ (l : List ℕ). record { lines = levels (lines_up t.devices); answers = l } ∷ given_by n xs) u.0
          ∙ ap (λ (l : List Input). record { lines = levels (lines_up t.devices); answers = [] } ∷ l) (p.0 ∙ ap (lines_for (length xs)) u.1),
      p.1 ∙ ap (ticked_for (length xs)) u.1,
    )

pub devices-are-left : DevicesAreLeft
devices-are-left s xs off =
    let p = left s xs off in
    (p.0, p.1, ap touches_of p.1 ∙ touches-kept (length xs) s.devices)
