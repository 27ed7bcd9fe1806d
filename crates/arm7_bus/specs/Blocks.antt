-- What a block of bytes owns and lends. This project's.
use Rattle.std.specs.Prelude.{ℕ, ◌+◌, ◌-◌, List, length}
use Rattle.std.specs.Borrow.{u8}
use base.Fraction.{full_share}
use base.Fml.{Lft, Fml, fsep, feq, froom}
use mir.Syntax.{Ty, w8, ty_int, ty_array}
use denote.Index.{row}
use denote.RawPtr.{Ptr, block_ptr, null_ptr}
use denote.Sharing.{said}
use denote.Slice.{elements_shared}

-- the type of a block for so many bytes
abbrev pub bytes_type : ℕ → Ty
bytes_type n = ty_array (ty_int w8) n

-- the bytes that are made, and behind them memory for the rest; without a block there is no room
abbrev pub cells_own : Ptr → ℕ → List ℕ → Fml
cells_own (block_ptr b o) room xs = fsep (row u8 full_share xs b o) (froom (bytes_type (room - length xs)) b (length xs + o))
cells_own null_ptr room xs = feq ℕ room 0

-- what a `&` to them holds: one to each byte that is made
abbrev pub cells_lent : Ptr → ℕ → List ℕ → Lft → Fml
cells_lent (block_ptr b o) room xs = elements_shared u8 xs b o
cells_lent null_ptr room xs = said (feq ℕ room 0)

-- the allocator's token for a block of so many bytes
abbrev pub lease_owns : (Ty → Ptr → Fml) → Ptr → ℕ → Fml
lease_owns token p room = token (bytes_type room) p
