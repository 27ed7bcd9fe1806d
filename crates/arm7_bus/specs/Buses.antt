-- What a read, a write and a step of time of the bus answer and leave. This project's.
use Rattle.std.specs.Prelude.{◌≡◌, ℕ, Bool, if◌then◌else◌, List, Option, Some, None, option_map, is_some, length, map, [], true, remove}
use Rattle.std.specs.Prelude.{false, ◌++◌, ◌∷◌, ◌/◌, ◌&&◌, not}
use Rattle.arm7_bus.specs.Paging.{page_used_in}
use Rattle.sdt_word.specs.declared.ranges.Range32.{Range32}
use Rattle.std.specs.declared.alloc.Global.{Global}
use Rattle.std.specs.declared.dyn_box.DynBox.{DynBox}
use Rattle.sdt_word.specs.declared.codes.Width.{Width}
use Rattle.sdt_word.specs.Bytes.{load, number_of}
use Rattle.sdt_word.specs.Codes.{bytes_in}
use Rattle.sdt_outside.specs.declared.device.DeviceState.{DeviceState}
use Rattle.arm7_bus.specs.declared.bus.Bus.{Bus}
use Rattle.arm7_bus.specs.declared.memory.BusFault.{BusFault}
use Rattle.arm7_bus.specs.declared.memory.BusFault.TheVariants.{Absent}
use Rattle.arm7_bus.specs.Protection.{protected_bank}
use Rattle.arm7_bus.specs.Seats.{Seat, seats_by, device_at, changed_at, seat_read, seat_written, seat_ticked, seat_answer}
use Rattle.arm7_bus.specs.States.{Contents, State, contents_of, claimed, pages_of, bank_has, noted, store_fault, store_leaves, after_store}

-- a bus whose devices have these bases, sizes, states and counts
abbrev pub bus_state : {X : Type 0} {F : X → Type 0} → (DynBox X Global F → ℕ) → (DynBox X Global F → ℕ) → (DynBox X Global F → DeviceState) → (DynBox X Global F → ℕ) → Bus X F → State
bus_state base size state touched bus = record { contents = contents_of bus.memory; devices = seats_by base size state touched bus.devices.items }

-- a bus of these devices with no bank, all bytes 0, no pages and no stores
pub record IsNew (seats : List Seat) (s : State) : Type 0 where
  pub banks : s.contents.banks ≡ []
  pub memory : (a : ℕ) → s.contents.memory a ≡ 0
  pub used : s.contents.used ≡ []
  pub frames : s.contents.frames ≡ 0
  pub stores : s.contents.stores ≡ []
  pub devices : s.devices ≡ seats

-- memory has its pages
abbrev pub IsStarted : State → Type 0
IsStarted s = length s.contents.used ≡ 1048576

-- one bank or one device has the whole access
abbrev pub has_whole : State → ℕ → ℕ → Bool
has_whole s a n = if bank_has s.contents.banks a n then true else is_some (device_at s.devices a n)

-- a store would use one more page: a bank has the whole access, and its page isn't used
abbrev pub needs_page : State → ℕ → ℕ → Bool
needs_page s a n = bank_has s.contents.banks a n && not (page_used_in s.contents.used a)

-- the answer to a read: the bytes that memory has, or what the device answers; None where the access is absent
abbrev pub read_answer : State → ℕ → Width → Option ℕ
read_answer s a width =
    if bank_has s.contents.banks a (bytes_in width) then Some (number_of (load s.contents.memory a (bytes_in width)))
    else option_map (seat_answer a width) (device_at s.devices a (bytes_in width))

-- a read of memory leaves all as it was; one of a device touches that device
abbrev pub after_read : State → ℕ → Width → State
after_read s a width =
    if bank_has s.contents.banks a (bytes_in width) then s
    else record s { devices = changed_at seat_read a (bytes_in width) s.devices }

-- why a write isn't made
abbrev pub write_fault : State → ℕ → ℕ → Option BusFault
write_fault s a n =
    if bank_has s.contents.banks a n then store_fault s.contents a n
    else (if is_some (device_at s.devices a n) then None else Some Absent)

-- a write in memory sets the bytes that it names; one to a device changes that device. Both are noted
abbrev pub after_write : State → ℕ → Width → ℕ → State
after_write s a width value =
    if bank_has s.contents.banks a (bytes_in width)
    then record s { contents = store_leaves (store_fault s.contents a (bytes_in width)) s.contents (after_store s.contents a width value) }
    else (if is_some (device_at s.devices a (bytes_in width))
    then record { contents = noted s.contents a (bytes_in width); devices = changed_at (seat_written a width value) a (bytes_in width) s.devices }
    else s)

-- each device takes a step, and no store is noted any more
abbrev pub after_tick : State → State
after_tick s = record { contents = record s.contents { stores = [] }; devices = map seat_ticked s.devices }

abbrev pub after_forget : State → State
after_forget s = record s { contents = record s.contents { stores = [] } }

-- without the device of this number
abbrev pub after_detach : State → ℕ → State
after_detach s i = record s { devices = remove s.devices i }

-- one more bank, which isn't protected
abbrev pub with_bank : Contents → Range32 → Contents
with_bank c r = record c { banks = c.banks ++ record { range = r; read_only = false } ∷ [] }

-- the banks of this range become protected
abbrev pub with_protected : Contents → Range32 → Contents
with_protected c r = record c { banks = map (protected_bank r) c.banks }

abbrev pub after_protect : State → Range32 → State
after_protect s r = record s { contents = with_protected s.contents r }

-- no pages but those of the range are used that weren't
abbrev pub after_claim : State → Range32 → State
after_claim s r = record s { contents = record s.contents { used = claimed s.contents.used (r.base / 4096) (pages_of r.base r.size) } }

abbrev pub after_bank : State → Range32 → State
after_bank s r = record s { contents = with_bank s.contents r }
