-- Where a linked image is put and how it starts there: a scatter image by its load regions, an ARM image file at its own
-- address or, where it can be moved, at each that leaves room. From every permitted state the startup code reaches the entry
-- within the image's bound, with the memory as a view says (SDT 2.50 Reference Guide, scatter loading: load view and execution
-- view; ARM Image Format; the startup code is this project's).
use Rattle.std.specs.Prelude.{◌≡◌, ℕ, ◌+◌, ◌-◌, ◌%◌, ◌^◌, ◌<◌, ◌≤◌, Bool, true, false, List, length, map, Some}
use Rattle.std.specs.List.{AllByRecursion}
use Rattle.sdt_word.specs.Numbers.{flag}
use Rattle.aof_object.specs.declared.records.Object.{Object}
use Rattle.aof_object.specs.Validity.{IsValid}
use Rattle.boot_code.specs.Aif.{BootsAif, file_at}
use Rattle.boot_code.specs.Boots.{ByteMap, Boots, covers}
use Rattle.boot_code.specs.Laws.{written_by}
use Rattle.boot_code.specs.Maps.{Segment, map_of}
use Rattle.aif_image.specs.Checks.{ReadsAif}
use Rattle.aif_image.specs.Files.{aif_file, aif_record, can_move, parts_size, zero_size}
use Rattle.link_model.specs.declared.images.Image.{Image}
use Rattle.link_model.specs.declared.selection.Named.{Named}
use Rattle.link_apply.specs.Laws.{AreBytes}
use Rattle.place_model.specs.declared.scatter.Kind.{Kind}
use Rattle.place_model.specs.declared.scatter.Kind.TheVariants as kind
use Rattle.armlink_core.specs.Sizes.{copies_in, zeros_in}
use Rattle.sdt_toolkit.specs.RunImages.{CanRun}

-- the load regions, where a loader puts them
abbrev pub segments_of : Image → List Segment
segments_of i = map (λ l. record { base = l.base; bytes = l.bytes }) i.loads

-- what the startup code of a scatter image writes: the regions that don't run where they are loaded, and the zero parts
abbrev pub written_in : Image → ℕ → Bool
written_in i = written_by (copies_in i.regions) (zeros_in i.regions)

-- ---- where it is put

-- an address that leaves room for an ARM image file, and for the zero part behind its parts
pub record HasRoom (i : Image) (to : ℕ) : Type 0 where
  pub whole : to % 4 ≡ 0
  pub file : to + length (aif_file i) ≤ 2 ^ 32
  pub zero : to + parts_size i.regions + zero_size i.regions ≤ 2 ^ 32

-- an ARM image file that can be moved is put wherever it has room, and another image where it starts
abbrev pub FitsAt : Kind → Image → ℕ → Type 0
FitsAt (kind.Aif base true) i to = HasRoom i to
FitsAt other i to = to ≡ i.start

-- the kind of the image there: what is moved is as if it were linked for that address
abbrev pub kind_at : Kind → ℕ → Kind
kind_at (kind.Aif base true) to = kind.Aif to true
kind_at other to = other

abbrev pub is_movable : Kind → Bool
is_movable (kind.Aif base true) = true
is_movable other = false

-- and its entry: what is moved begins as far behind
abbrev pub entry_at : Kind → Image → ℕ → ℕ
entry_at (kind.Aif base true) i to = to + (i.entry - i.start)
entry_at other i to = i.entry

-- ---- what a run asks of an ARM image file

-- a view has bytes in the file's parts and its zero part alone, where it is put
abbrev pub IsWithin : Image → ℕ → ByteMap → Type 0
IsWithin i to view = (x v : ℕ) → view x ≡ Some v → (to ≤ x) × (x < to + parts_size i.regions + zero_size i.regions)

-- the file is bytes, which read as its record, and can be moved where its kind says so
pub record CanLoad (k : Kind) (i : Image) (views : ℕ → ByteMap) : Type 0 where
  pub bytes : AreBytes (aif_file i)
  pub reads : ReadsAif (aif_file i) (aif_record i)
  pub within : (to : ℕ) → FitsAt k i to → IsWithin i to (views to)
  pub moves : can_move i.kind ≡ is_movable k

-- ---- how it starts

-- with bit 0 set for Thumb
abbrev pub entered_at : Kind → Image → ℕ → ℕ
entered_at k i to = entry_at k i to + flag i.thumb

-- the load regions of a scatter image, which can be run, and an ARM image file reach the entry with memory as the view there;
-- bytes alone have no startup code
abbrev pub ReachesEntry : Kind → Image → (ℕ → ByteMap) → Type 0
ReachesEntry (kind.Scatter s) i views =
    Boots (map_of (segments_of i)) (views i.start) (written_in i) i.start i.bound (i.entry + flag i.thumb) × CanRun i (views i.start)
ReachesEntry (kind.Plain base) i views = Unit {0}
ReachesEntry (kind.Aif base true) i views =
    BootsAif (aif_file i) (parts_size i.regions) (zero_size i.regions) views i.bound (entered_at (kind.Aif base true) i)
    × CanLoad (kind.Aif base true) i views
ReachesEntry (kind.Aif base false) i views =
    Boots (file_at (aif_file i) i.start) (views i.start) (covers (i.start + parts_size i.regions) (zero_size i.regions))
    i.start i.bound (i.entry + flag i.thumb)
    × CanLoad (kind.Aif base false) i views

-- ---- objects as they are read and assembled

-- its areas have bytes
abbrev pub HasBytes : Object → Type 0
HasBytes o = AllByRecursion (λ a. AreBytes a.bytes) o.areas

pub record AreSound (os : List (Named Object)) : Type 0 where
  pub valid : AllByRecursion (λ o. IsValid o.value) os
  pub bytes : AllByRecursion (λ o. HasBytes o.value) os
