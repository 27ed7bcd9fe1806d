-- What the bus is to those who call it: banks of memory with one map of bytes, pages of which some are used, the stores
-- since the last tick, and devices in their seats. This project's.
use Rattle.std.specs.Prelude.{◌≡◌, ℕ, zero, suc, ◌+◌, ◌-◌, ◌/◌, Bool, true, false, nat_lt, ◌||◌, if◌then◌else◌, List, [], ◌∷◌, ◌++◌, Option, Some, None, Result, Ok, Err, length, min, slice_set, slice_index_or}
use Rattle.sdt_word.specs.declared.codes.Width.{Width}
use Rattle.sdt_word.specs.Bytes.{bytes_of}
use Rattle.sdt_word.specs.Codes.{bytes_in}
use Rattle.arm7_model.specs.Memory.{store}
use Rattle.arm7_bus.specs.declared.memory.Bank.{Bank}
use Rattle.arm7_bus.specs.declared.memory.Memory.{Memory}
use Rattle.arm7_bus.specs.declared.memory.BusFault.{BusFault}
use Rattle.arm7_bus.specs.declared.memory.BusFault.TheVariants.{NoFrame, ReadOnly}
pub use Rattle.arm7_bus.specs.Lookups.{bank_has, is_protected, lie_in_banks, protected_at}
use Rattle.arm7_bus.specs.Paging.{memory_in, used_in, page_used_in, used_count}
use Rattle.arm7_bus.specs.Notes.{noted_in}
use Rattle.arm7_bus.specs.Touches.{pages_touched}
use Rattle.arm7_bus.specs.Seats.{Seat}

-- the memory of a bus. There are no pages until memory is started; then each page is used or not, and at most as many
-- as there are frames are
pub record Contents : Type 0 where
  pub banks : List Bank
  pub memory : ℕ → ℕ
  pub used : List Bool
  pub frames : ℕ
  pub stores : List (ℕ × ℕ)

pub record State : Type 0 where
  pub contents : Contents
  pub devices : List Seat

-- ---- pages
-- the used pages once the n pages from the first on are used too
abbrev pub claimed : List Bool → ℕ → ℕ → List Bool
claimed used first zero = used
claimed used first (suc n) = slice_set (claimed used first n) (first + n) true

-- the first page that a range of addresses touches, and how many it touches
abbrev pub pages_of : ℕ → ℕ → ℕ
pages_of base zero = 0
pages_of base (suc size) = (base + size) / 4096 + 1 - base / 4096

-- ---- stores
-- why a store of n bytes at a that lies in a bank isn't made
abbrev pub store_fault : Contents → ℕ → ℕ → Option BusFault
store_fault c a n =
    if is_protected c.banks a n then Some ReadOnly
    else (if page_used_in c.used a || nat_lt (used_count c.used) c.frames then None else Some (NoFrame a))

abbrev pub noted : Contents → ℕ → ℕ → Contents
noted c a n = record c { stores = c.stores ++ (a, n) ∷ [] }

-- the memory after a store
abbrev pub after_store : Contents → ℕ → Width → ℕ → Contents
after_store c a width value = record c {
  memory = store c.memory a (bytes_of value (bytes_in width));
  used = slice_set c.used (a / 4096) true;
  stores = c.stores ++ (a, bytes_in width) ∷ [];
}

-- ---- the memory that the fields of a bus make
abbrev pub contents_of : Memory → Contents
contents_of m = record {
  banks = m.banks.items;
  memory = memory_in m.pages.table m.pages.frames;
  used = used_in m.pages.table;
  frames = m.pages.room;
  stores = noted_in m.stores;
}

-- the answer to a store, and what it leaves: the memory as it was where there is a fault
abbrev pub store_answer : Option BusFault → Result Unit BusFault
store_answer None = Ok tt
store_answer (Some fault) = Err fault

abbrev pub store_leaves : Option BusFault → Contents → Contents → Contents
store_leaves None before after = after
store_leaves (Some fault) before after = before

-- the byte at a, where a bank has it
abbrev pub peeked : Contents → ℕ → Option ℕ
peeked c a = if bank_has c.banks a 1 then Some (c.memory a) else None

-- ---- the start of memory
-- memory has its pages, none of them used, and frames for those that the banks touch, as far as there are any
pub record IsStart (old new : Contents) : Type 0 where
  pub banks : new.banks ≡ old.banks
  pub memory : new.memory ≡ old.memory
  pub stores : new.stores ≡ old.stores
  pub pages : length new.used ≡ 1048576
  pub unused : (page : ℕ) → slice_index_or new.used page false ≡ false
  pub count : used_count new.used ≡ 0
  pub frames : new.frames ≡ min 65536 (pages_touched old.banks 1048576)
