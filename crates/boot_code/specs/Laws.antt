-- The laws of the startup code, as its empty public functions state them. This project's.
use Rattle.std.specs.Prelude.{ℕ, ◌+◌, ◌*◌, Bool, ◌||◌, List, length}
use Rattle.std.specs.List.{list_any}
use Rattle.arm7_model.specs.Memory.{Board}
use Rattle.arm7_model.specs.Registers.{State}
use Rattle.boot_code.specs.declared.rows.CopyRow.{CopyRow}
use Rattle.boot_code.specs.declared.rows.ZeroRow.{ZeroRow}
use Rattle.boot_code.specs.Startup.{startup_steps, copied_words, zeroed_words}
use Rattle.boot_code.specs.Boots.{ByteMap, CanStart, Boots, BootsIn, Places, covers}

-- the bound for these rows
abbrev pub bound_of : List CopyRow → List ZeroRow → ℕ
bound_of copies parts = 32 + 16 * length copies + 4 * copied_words copies + 12 * length parts + 3 * zeroed_words parts

-- from every permitted state the rows of a placement take exactly their steps
abbrev pub StartupIsExact : Type 0
StartupIsExact =
    (files view : ByteMap) (written : ℕ → Bool) (copies : List CopyRow) (parts : List ZeroRow) (entry a : ℕ)
    → Places files view written copies parts entry a → (board : Board) (s : State) → CanStart files view written a board s
    → BootsIn (startup_steps copies parts) files view entry board s

-- what the rows write: the targets of the copies, and the zero parts
abbrev pub written_by : List CopyRow → List ZeroRow → ℕ → Bool
written_by copies parts x = list_any (λ r. covers r.target r.size x) copies || list_any (λ r. covers r.base r.size x) parts

-- and these are within the bound, wherever read-only ranges are that meet nothing written
abbrev pub StartupBoots : Type 0
StartupBoots =
    (files view : ByteMap) (copies : List CopyRow) (parts : List ZeroRow) (entry a : ℕ)
    → Places files view (written_by copies parts) copies parts entry a
    → Boots files view (written_by copies parts) a (bound_of copies parts) entry
