-- Devices in whose places silent ones stand: they have the same addresses, and a run may open over them.
use Rattle.std.proofs.Common.{◌≡◌, ℕ, ◌+◌, ◌<◌, Bool, true, false, ◌||◌, List, [], ◌∷◌, map, refl, sym, ap, ◌∙◌, arith}
use Rattle.std.proofs.lemmas.Bool.Decides.{nat_tests}
use Rattle.std.specs.Prelude.{◌&&◌}
use Rattle.sdt_outside.specs.declared.device.DeviceState.TheVariants.{Quiet}
use Rattle.arm7_bus.specs.declared.memory.Bank.{Bank}
use Rattle.arm7_bus.specs.Meets.{seats_have, seats_share}
use Rattle.arm7_bus.specs.Seats.{Seat, has_access, lines_up, seat_ticked}
use Rattle.arm7_bus.specs.States.{State, bank_has, protected_at}
use Rattle.arm7_bus.specs.WholeWords.{AreWholeSeats}
use Rattle.arm7_transfers.specs.Boards.{board_of}
use Rattle.arm7_transfers.proofs.ReadyLemmas.{SamePlaces}
use Rattle.irq_kit.specs.Transparent.{IsDeviceWord}
use Rattle.run_laws.specs.Boards.{IsBoard}
use Rattle.run_laws.specs.Silent.{AreSilent}
use Rattle.run_opening.specs.declared.image.Need.{Need}
use Rattle.run_opening.specs.Banks.{IsRoomy, banks_share}
use Rattle.sdt_toolkit.specs.Interrupts.{has_word, silenced}

-- ---- the same addresses

pub have_same : (seats : List Seat) (a : ℕ) → seats_have (silenced seats) a ≡ seats_have seats a
have_same [] a = refl
have_same (d ∷ ds) a = ap (λ (b : Bool). has_access d.base d.size a 1 || b) (have_same ds a)

share_same : (seats : List Seat) (a : ℕ) → seats_share (silenced seats) a ≡ seats_share seats a
share_same [] a = refl
share_same (d ∷ ds) a = rw (have_same ds a, share_same ds a) refl

whole_same : (seats : List Seat) → AreWholeSeats seats → AreWholeSeats (silenced seats)
whole_same [] h = tt
whole_same (d ∷ ds) h = (h.0, whole_same ds h.1)

-- a bus with the silent devices of another
abbrev pub silent_bus : State → State
silent_bus s = record { contents = s.contents; devices = silenced s.devices }

pub same_places : (s : State) → SamePlaces s (silent_bus s)
same_places s = record { banks = refl; have = have_same s.devices; share = share_same s.devices; whole = whole_same s.devices }

pub roomy_silenced : (banks : List Bank) (seats : List Seat) (needs : List Need) → IsRoomy banks seats needs → IsRoomy banks (silenced seats) needs
roomy_silenced banks seats needs r = record {
  apart = record {
    none = λ a.
        let h : (banks_share banks a || seats_share seats a || (bank_has banks a 1 && seats_have seats a)) ≡ false = r.apart.none a in
        rw (share_same seats a, have_same seats a) h;
  };
  room = r.room;
  frames = r.frames;
}

-- ---- silence

still : (seats : List Seat) → map seat_ticked (silenced seats) ≡ silenced seats
still [] = refl
still (d ∷ ds) = ap (λ (l : List Seat). record d { state = Quiet } ∷ l) (still ds)

down : (seats : List Seat) → lines_up (silenced seats) ≡ record { irq = false; fiq = false }
down [] = refl
down (d ∷ ds) = rw (down ds) refl

pub are_silent : (seats : List Seat) → AreSilent (silenced seats)
are_silent seats = record { still = still seats; down = down seats }

-- ---- a device's word

part : (base size a i : ℕ) → i < 4 → has_access base size a 4 ≡ true → has_access base size (a + i) 1 ≡ true
part base size a i lt e = grind (arith, nat_tests)

word_has : (seats : List Seat) (a i : ℕ) → i < 4 → has_word seats a ≡ true → seats_have seats (a + i) ≡ true
word_has [] a i lt e = absurd (let bad : false ≡ true = e in cc)
word_has (d ∷ ds) a i lt e = go (has_access d.base d.size a 4) refl e (word_has ds a i lt)
  where
    go : (b : Bool) → has_access d.base d.size a 4 ≡ b → (b || has_word ds a) ≡ true → (has_word ds a ≡ true → seats_have ds (a + i) ≡ true)
        → (has_access d.base d.size (a + i) 1 || seats_have ds (a + i)) ≡ true
    go true f h more = rw (part d.base d.size a i lt f) refl
    go false f h more = either (has_access d.base d.size (a + i) 1) (more h)
      where
        either : (x : Bool) → seats_have ds (a + i) ≡ true → (x || seats_have ds (a + i)) ≡ true
        either true p = refl
        either false p = p

not_there : (b : Bool) {m : Bool} → (b ≡ true → m ≡ true) → m ≡ false → b ≡ false
not_there true h e = absurd (let bad : true ≡ false = sym (h refl) ∙ e in cc)
not_there false h e = refl

pub device_word : (s : State) (ack : ℕ) → IsBoard (board_of s) → has_word s.devices ack ≡ true → IsDeviceWord (board_of s) ack
unfolding board_of
device_word s ack board has = record {
  device = λ i lt. word_has s.devices ack i lt has;
  memory = λ i lt. board.apart (ack + i) (word_has s.devices ack i lt has);
  free = λ i lt. not_there (protected_at s.contents.banks (ack + i)) (board.protected (ack + i)) (board.apart (ack + i) (word_has s.devices ack i lt has));
}

-- no bank has it
first_byte : (base size a : ℕ) → has_access base size a 4 ≡ true → has_access base size a 1 ≡ true
first_byte base size a e = grind (arith, nat_tests)

first_of_bank : (banks : List Bank) (a : ℕ) → bank_has banks a 4 ≡ true → bank_has banks a 1 ≡ true
first_of_bank [] a e = e
first_of_bank (b ∷ bs) a e = go (has_access b.range.base b.range.size a 4) refl e (first_of_bank bs a)
  where
    go : (x : Bool) → has_access b.range.base b.range.size a 4 ≡ x → (x || bank_has bs a 4) ≡ true → (bank_has bs a 4 ≡ true → bank_has bs a 1 ≡ true)
        → (has_access b.range.base b.range.size a 1 || bank_has bs a 1) ≡ true
    go true f h more = rw (first_byte b.range.base b.range.size a f) refl
    go false f h more = either (has_access b.range.base b.range.size a 1) (more h)
      where
        either : (x : Bool) → bank_has bs a 1 ≡ true → (x || bank_has bs a 1) ≡ true
        either true p = refl
        either false p = p

pub no_bank : (banks : List Bank) (a : ℕ) → bank_has banks a 1 ≡ false → bank_has banks a 4 ≡ false
no_bank banks a none = not_there (bank_has banks a 4) (first_of_bank banks a) none
