-- How the image of a generated source starts: from every permitted state its load regions reach the program's first word at 0 in so
-- many steps, with memory as a view that has the program there; and what it needs. This project's.
use Rattle.std.specs.Prelude.{◌≡◌, ℕ, ◌+◌, ◌*◌, ◌≤◌, false, List, [], ◌∷◌}
use Rattle.std.specs.List.{AllByRecursion}
use Rattle.aof_object.specs.Validity.{IsValid}
use Rattle.arm7_model.specs.Memory.{Board}
use Rattle.arm7_model.specs.Registers.{State}
use Rattle.boot_code.specs.declared.rows.CopyRow.{CopyRow}
use Rattle.boot_code.specs.Boots.{BootsIn, ByteMap, CanStart, HoldsWords}
use Rattle.boot_code.specs.Maps.{map_of}
use Rattle.boot_code.specs.Startup.{startup_steps}
use Rattle.image_model.specs.Views.{view_of}
use Rattle.link_laws.specs.Joins.{filled_in}
use Rattle.link_model.specs.declared.images.Image.{Image}
use Rattle.big_faults.specs.Big.{big_object}
use Rattle.big_model.specs.Words.{code_words}
use Rattle.sdt_toolkit.specs.BigMade.{big_image, big_linked, big_placement, big_plan}
use Rattle.sdt_toolkit.specs.RunImages.{CanRun, needs_of}
use Rattle.sdt_toolkit.specs.Starting.{HasBytes, segments_of, written_in}

-- what the program sees at its entry
abbrev pub big_view : List ℕ → List ℕ → ℕ → ByteMap
big_view name home n = view_of (big_plan home n) (filled_in (big_linked name home n) (big_placement home n) (big_plan home n))

-- the one copy that the startup code makes: the words of data, to where they run
abbrev pub big_row : ℕ → CopyRow
big_row n = record { source = 4 * n + 216; target = 8388608; size = 4 * n }

-- and how many steps it takes
abbrev pub big_startup : ℕ → ℕ
big_startup n = startup_steps (big_row n ∷ []) []

pub record IsBigStart (n : ℕ) (i : Image) (view : ByteMap) : Type 0 where
  pub exact : (board : Board) (s : State) → CanStart (map_of (segments_of i)) view (written_in i) i.start board s
      → BootsIn (big_startup n) (map_of (segments_of i)) view 0 board s
  pub can : CanRun i view
  pub entry : i.entry ≡ 0
  pub arm : i.thumb ≡ false
  pub bound : i.bound ≡ 48 + 4 * n
  pub shown : HoldsWords view 0 (code_words n)
  -- all that is to be memory lies in the default bank
  pub low : AllByRecursion (λ r. r.base + r.size ≤ 0x01000000) (needs_of i)

-- a valid object of bytes, as assembly gives it
abbrev pub ImageStarts : Type 0
ImageStarts =
    (name home : List ℕ) (n : ℕ) → 1 ≤ n → n ≤ 50000 → IsValid (big_object n) → HasBytes (big_object n)
    → IsBigStart n (big_image name home n) (big_view name home n)
