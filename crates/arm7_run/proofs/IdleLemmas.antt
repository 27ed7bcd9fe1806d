-- Idle devices are idle behind a step whose stores all lie in banks.
use Rattle.std.proofs.Common.{◌≡◌, ℕ, ◌==◌, Bool, true, false, List, [], ◌∷◌, ◌++◌, map, Option, Some, None, is_some, refl, sym, ap, ◌∙◌, subst, cond}
use Rattle.std.specs.Prelude.{◌&&◌, not}
use Rattle.std.proofs.lemmas.Bool.{and_from, and_parts, false≢true}
use Rattle.sdt_word.specs.declared.codes.Width.{Width}
use Rattle.sdt_word.specs.Codes.{bytes_in}
use Rattle.sdt_word.specs.Numbers.{bit}
use Rattle.sdt_outside.specs.declared.device.DeviceState.{DeviceState}
use Rattle.sdt_outside.specs.declared.device.DeviceState.TheVariants as device
use Rattle.sdt_outside.specs.Devices.{is_idle, ticked, counted_to}
use Rattle.arm7_model.specs.declared.state.ArmState.{ArmState}
use Rattle.arm7_model.specs.declared.event.Event.{Event}
use Rattle.arm7_model.specs.Accesses.{Access, Fetch, Load, Store}
use Rattle.arm7_model.specs.Registers.{is_thumb, register}
use Rattle.arm7_model.specs.Step.{fetch_width}
use Rattle.arm7_model.specs.Outcomes.{Stepped}
use Rattle.arm7_bus.specs.declared.memory.Bank.{Bank}
use Rattle.arm7_bus.specs.declared.memory.BusFault.{BusFault}
use Rattle.arm7_bus.specs.Buses.{after_read, after_tick, after_write}
use Rattle.arm7_bus.specs.Seats.{Seat, are_idle, changed_at, device_at, has_access, seat_read, seat_ticked, seat_written}
use Rattle.arm7_bus.specs.States.{Contents, State, after_store, bank_has, lie_in_banks, noted, store_fault, store_leaves}
use Rattle.arm7_transfers.specs.Frames.{has_frames}
use Rattle.arm7_transfers.specs.Served.{served}
use Rattle.arm7_core.specs.Machines.{Ends, IsStep, IsStepFrom}

-- the devices of a bus are idle, and the noted stores of its memory lie in banks
abbrev pub AreIdle : State → Type 0
AreIdle s = are_idle s.devices ≡ true

abbrev pub Lie : Contents → Type 0
Lie c = lie_in_banks c.banks c.stores ≡ true

-- ---- a step of time and reads

idle-ticked : (d : DeviceState) → is_idle d ≡ true → is_idle (ticked d) ≡ true
idle-ticked device.Quiet h = refl
idle-ticked (device.TimerState period control count up) h =
    go (bit control 0 == 1 && not (period == 0)) refl (and_parts (not up) (not (bit control 0 == 1 && not (period == 0))) h).1
  where
    go : (runs : Bool) → (bit control 0 == 1 && not (period == 0)) ≡ runs → not (bit control 0 == 1 && not (period == 0)) ≡ true → is_idle (ticked (device.TimerState period control count up)) ≡ true
    go true is n = absurd (false≢true (sym (ap (λ (b : Bool). not b) is) ∙ n))
    go false is n = rw is h
idle-ticked (device.UartState last number) h = refl

are-idle-ticked : (ds : List Seat) → are_idle ds ≡ true → are_idle (map seat_ticked ds) ≡ true
are-idle-ticked [] h = refl
are-idle-ticked (d ∷ ds) h =
    let both = and_parts (is_idle d.state) (are_idle ds) h in
    and_from (is_idle (ticked d.state)) (are_idle (map seat_ticked ds)) (idle-ticked d.state both.0) (are-idle-ticked ds both.1)

idle-read-at : (a n : ℕ) (ds : List Seat) → are_idle (changed_at seat_read a n ds) ≡ are_idle ds
idle-read-at a n [] = refl
idle-read-at a n (d ∷ ds) = go (has_access d.base d.size a n) (idle-read-at a n ds)
  where
    go : (here : Bool) → are_idle (changed_at seat_read a n ds) ≡ are_idle ds
        → are_idle (cond here (seat_read d ∷ ds) (d ∷ changed_at seat_read a n ds)) ≡ (is_idle d.state && are_idle ds)
    go true e = refl
    go false e = ap (λ (b : Bool). is_idle d.state && b) e

-- a read leaves the memory, and idle devices
record ReadKeeps (s t : State) : Type 0 where
  pub contents : t.contents ≡ s.contents
  pub devices : are_idle t.devices ≡ are_idle s.devices

read-keeps : (s : State) (a : ℕ) (width : Width) → ReadKeeps s (after_read s a width)
read-keeps s a width = go (bank_has s.contents.banks a (bytes_in width))
  where
    go : (banked : Bool) → ReadKeeps s (cond banked s (record s { devices = changed_at seat_read a (bytes_in width) s.devices }))
    go true = record { contents = refl; devices = refl }
    go false = record { contents = refl; devices = idle-read-at a (bytes_in width) s.devices }

-- ---- stores are only added to

lie-earlier : (banks : List Bank) (xs ys : List (ℕ × ℕ)) → lie_in_banks banks (xs ++ ys) ≡ true → (lie_in_banks banks xs ≡ true) × (lie_in_banks banks ys ≡ true)
lie-earlier banks [] ys h = (refl, h)
lie-earlier banks ((a, n) ∷ xs) ys h =
    let both = and_parts (bank_has banks a n) (lie_in_banks banks (xs ++ ys)) h in
    let rest = lie-earlier banks xs ys both.1 in
    (and_from (bank_has banks a n) (lie_in_banks banks xs) both.0 rest.0, rest.1)

-- where the stores behind a write lie in banks, those before it do, and the devices are as they were
record WriteKeeps (s t : State) : Type 0 where
  pub contents : Lie s.contents
  pub devices : t.devices ≡ s.devices

abbrev written : State → ℕ → Width → ℕ → Option BusFault → Bool → Bool → State
written s a width v fault banked seated =
    cond banked (record s { contents = store_leaves fault s.contents (after_store s.contents a width v) })
    (cond seated (record { contents = noted s.contents a (bytes_in width); devices = changed_at (seat_written a width v) a (bytes_in width) s.devices }) s)

write-keeps : (s : State) (a : ℕ) (width : Width) (v : ℕ) → Lie (after_write s a width v).contents → WriteKeeps s (after_write s a width v)
write-keeps s a width v = go (bank_has s.contents.banks a (bytes_in width)) (is_some (device_at s.devices a (bytes_in width))) refl (store_fault s.contents a (bytes_in width))
  where
    go : (banked seated : Bool) → bank_has s.contents.banks a (bytes_in width) ≡ banked → (fault : Option BusFault)
        → Lie (written s a width v fault banked seated).contents → WriteKeeps s (written s a width v fault banked seated)
    go true seated is (Some fault) h = record { contents = h; devices = refl }
    go true seated is None h = record { contents = (lie-earlier s.contents.banks s.contents.stores ((a, bytes_in width) ∷ []) h).0; devices = refl }
    go false true is fault h =
        let last = (lie-earlier s.contents.banks s.contents.stores ((a, bytes_in width) ∷ []) h).1 in
        absurd (false≢true (sym is ∙ (and_parts (bank_has s.contents.banks a (bytes_in width)) true last).0))
    go false false is fault h = record { contents = h; devices = refl }

-- ---- accesses

lie-served : (s : State) (accesses : List Access) → Lie (served s accesses).contents → Lie s.contents
lie-served s [] h = h
lie-served s (Fetch a width ∷ rest) h = subst (λ (c : Contents). Lie c) (read-keeps s a width).contents (lie-served (after_read s a width) rest h)
lie-served s (Load a width ∷ rest) h = subst (λ (c : Contents). Lie c) (read-keeps s a width).contents (lie-served (after_read s a width) rest h)
lie-served s (Store a width v ∷ rest) h = (write-keeps s a width v (lie-served (after_write s a width v) rest h)).contents

idle-served : (s : State) (accesses : List Access) → AreIdle s → Lie (served s accesses).contents → AreIdle (served s accesses)
idle-served s [] idle h = idle
idle-served s (Fetch a width ∷ rest) idle h = idle-served (after_read s a width) rest ((read-keeps s a width).devices ∙ idle) h
idle-served s (Load a width ∷ rest) idle h = idle-served (after_read s a width) rest ((read-keeps s a width).devices ∙ idle) h
idle-served s (Store a width v ∷ rest) idle h =
    let kept = write-keeps s a width v (lie-served (after_write s a width v) rest h) in
    idle-served (after_write s a width v) rest (ap (λ (ds : List Seat). are_idle ds) kept.devices ∙ idle) h

-- ---- a step, from the bus after its tick

idle-step : (core : ArmState) (s : State) (e : Event) (core' : ArmState) (s' : State) → IsStepFrom core s e core' s' → AreIdle s → Lie s'.contents → AreIdle s'
idle-step core s e core' s' m idle lie = go (has_frames s m.first.accesses) m.first m.ends
  where
    go : (room : Bool) (first : Stepped) → Ends room core s first e core' s' → AreIdle s'
    go true first ends =
        let end = ends.2 in
        subst (λ (t : State). AreIdle t) (sym end) (idle-served s first.accesses idle (subst (λ (t : State). Lie t.contents) end lie))
    go false first (a, named, least, same, fetched) =
        subst (λ (t : State). AreIdle t) (sym fetched) ((read-keeps s (register core 15) (fetch_width (is_thumb core.cpsr))).devices ∙ idle)

-- ---- what a run knows of the devices

-- Where it is said that the devices of a bus are idle, they are.
pub record IsKnown (idle : Bool) (s : State) : Type 0 where
  pub devices : idle ≡ true → are_idle s.devices ≡ true

pub known_asked : (idle : Bool) (s : State) → idle ≡ are_idle s.devices → IsKnown idle s
known_asked idle s e = record { devices = λ h. sym e ∙ h }

-- behind one more step whose stores lie in banks, what was known still is
pub known_more : (core : ArmState) (s : State) (e : Event) (core' : ArmState) (s' : State) (idle : Bool)
    → IsKnown idle s → IsStep core s e core' s' → lie_in_banks s'.contents.banks s'.contents.stores ≡ true → IsKnown idle s'
known_more core s e core' s' idle known step lie =
    record { devices = λ h. idle-step core (after_tick s) e core' s' step (are-idle-ticked s.devices (known.devices h)) lie }
