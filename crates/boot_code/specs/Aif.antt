-- An AIF's start: its header, what its relocator and its zero-init code make of the image, and in how
-- many steps (SDT 2.50 Reference Guide, ARM Image Format; the code and its counts are this project's).
use Rattle.std.specs.Prelude.{◌≡◌, ◌≢◌, ℕ, ◌+◌, ◌-◌, ◌*◌, ◌/◌, ◌%◌, ◌^◌, ◌<◌, ◌≤◌, ◌==◌, ◌||◌, Bool, if◌then◌else◌, List, [], ◌∷◌, ◌++◌, length, Some, None, slice_index}
use Rattle.sdt_word.specs.Bytes.{bytes_of, word}
use Rattle.arm7_model.specs.Memory.{Bytes, Board, store}
use Rattle.arm7_model.specs.Registers.{State}
use Rattle.boot_code.specs.Words.{relocator_list, zero_code}
use Rattle.boot_code.specs.Startup.{HasWords, zeros}
use Rattle.boot_code.specs.Boots.{ByteMap, Boots, BootsIn, CanStart, covers}

-- ---- the image

-- each word named by an offset from b gets the shift d, as often as it is named
abbrev pub relocated : Bytes → ℕ → ℕ → List ℕ → Bytes
relocated m b d [] = m
relocated m b d (o ∷ offsets) = relocated (store m (b + o) (bytes_of ((word m (b + o) + d) % 2 ^ 32) 4)) b d offsets

-- the header of an image that was moved to b: its base is b, and it calls no relocator
abbrev pub marked : Bytes → ℕ → Bytes
marked m b = store (store m (b + 40) (bytes_of b 4)) (b + 4) (bytes_of 0xE1A00000 4)

-- the image of a base, moved to b
abbrev pub moved_image : Bytes → ℕ → ℕ → List ℕ → Bytes
moved_image m b base offsets =
    if b == base then marked m b else relocated (marked m b) b ((b + 2 ^ 32 - base) % 2 ^ 32) offsets

-- moved, and then its zero part set to zero, which may lie over the relocator and its list
abbrev pub started_image : Bytes → ℕ → ℕ → ℕ → ℕ → List ℕ → Bytes
started_image m b parts zero_size base offsets = store (moved_image m b base offsets) (b + parts) (zeros zero_size)

-- ---- the steps

abbrev pub clear_steps : ℕ → ℕ
clear_steps zero_size = if zero_size == 0 then 1 else 10 + 3 * (zero_size / 4)

-- with k entries in the list, from another base and from its own
abbrev pub aif_steps : ℕ → ℕ → ℕ → ℕ → ℕ
aif_steps b base zero_size k = 3 + (if b == base then 7 else 15 + 6 * k) + clear_steps zero_size

-- ---- the header

-- a list of offsets of whole words behind the header and below a limit
abbrev pub Offsets : ℕ → List ℕ → Type 0
Offsets limit [] = Unit {0}
Offsets limit (o ∷ offsets) = (o % 4 ≡ 0) × (128 ≤ o) × (o + 4 ≤ limit) × Offsets limit offsets

-- these words stand in the memory
abbrev pub HasCode : Bytes → ℕ → List ℕ → Type 0
HasCode m a code = (i : ℕ) → i < length code → word m (a + 4 * i) ≡ slice_index code i

-- The header of an image at b, with its parts, its zero part and the offset of its entry, which lies in
-- these or in the zero part, where the header's branch reaches it.
pub record IsHeader (m : Bytes) (b parts zero_size e : ℕ) : Type 0 where
  pub parts_whole : parts % 4 ≡ 0
  pub parts_low : 128 ≤ parts
  pub parts_small : parts < 2 ^ 25
  pub zero_whole : zero_size % 4 ≡ 0
  pub zero_small : zero_size < 2 ^ 32
  pub entry_whole : e % 4 ≡ 0
  pub entry_low : 128 ≤ e
  pub entry_high : e + 4 ≤ parts + zero_size
  pub entry_near : e < 2 ^ 25 + 20
  pub nothing : word m b ≡ 0xE1A00000
  pub clear_call : word m (b + 8) ≡ (if zero_size == 0 then 0xE1A00000 else 0xEB00000C)
  pub entry_call : word m (b + 12) ≡ 0xEB000000 + (e - 20) / 4
  pub sizes : word m (b + 20) + word m (b + 24) ≡ parts
  pub zero_word : word m (b + 32) ≡ zero_size
  pub clear_code : HasCode m (b + 64) zero_code

-- a relocatable image: its relocator and the list of offsets stand behind the parts
pub record IsRelocatable (m : Bytes) (b parts zero_size base e : ℕ) (offsets : List ℕ) : Type 0 where
  pub header : IsHeader m b parts zero_size e
  pub base_small : base < 2 ^ 32
  pub move_call : word m (b + 4) ≡ 0xEB000000 + (parts - 12) / 4
  pub base_word : word m (b + 40) ≡ base
  pub move_code : HasCode m (b + parts) relocator_list
  pub list_words : HasWords m (b + parts + 60) (offsets ++ 0xFFFFFFFF ∷ [])
  pub list_fits : Offsets parts offsets

-- an image that isn't: it calls no relocator
pub record IsFixed (m : Bytes) (b parts zero_size e : ℕ) : Type 0 where
  pub header : IsHeader m b parts zero_size e
  pub no_call : word m (b + 4) ≡ 0xE1A00000

-- ---- the file, wherever it is loaded

-- the file's bytes from b on
abbrev pub file_at : List ℕ → ℕ → ByteMap
file_at file b x = if covers b (length file) x then Some (slice_index file (x - b)) else None

abbrev pub shifted_file : List ℕ → ℕ → Bytes
shifted_file file b x = slice_index file (x - b)

-- what is written: the file and the zero part
abbrev pub aif_written : List ℕ → ℕ → ℕ → ℕ → ℕ → Bool
aif_written file b parts zero_size x = covers b (length file) x || covers (b + parts) zero_size x

-- the view at b has a byte exactly in the parts and the zero part, that of the started image
pub record ShowsImage (file : List ℕ) (parts zero_size base : ℕ) (offsets : List ℕ) (b : ℕ) (view : ByteMap) : Type 0 where
  pub inside : (x v : ℕ) → view x ≡ Some v → (b ≤ x) × (x < b + parts + zero_size) × (started_image (shifted_file file b) b parts zero_size base offsets x ≡ v)
  pub whole : (x : ℕ) → b ≤ x → x < b + parts + zero_size → (v : ℕ) × (view x ≡ Some v)

-- a veneer at offset e of the image: it loads the entry from its third word, and goes there in the state
-- that bit 0 says
pub record HasVeneer (m : Bytes) (b parts e entry : ℕ) : Type 0 where
  pub fits : e + 12 ≤ parts
  pub load_word : word m (b + e) ≡ 0xE59FC000
  pub exchange_word : word m (b + e + 4) ≡ 0xE12FFF1C
  pub target : word m (b + e + 8) ≡ entry
  pub fair : entry % 4 ≢ 2

-- The file may be loaded at b, and the view there is its started image.
pub record IsLoadable (file : List ℕ) (parts zero_size base e : ℕ) (offsets : List ℕ) (b : ℕ) (view : ByteMap) : Type 0 where
  pub image : IsRelocatable (shifted_file file b) b parts zero_size base e offsets
  pub size : length file ≡ parts + 60 + 4 * length offsets + 4
  pub whole : b % 4 ≡ 0
  pub file_room : b + length file ≤ 2 ^ 32
  pub zero_room : b + parts + zero_size ≤ 2 ^ 32
  pub shows : ShowsImage file parts zero_size base offsets b view

-- A relocatable file boots from b in exactly its steps, to its entry in ARM state,
abbrev pub AifIsExact : Type 0
AifIsExact =
    (file : List ℕ) (parts zero_size base e : ℕ) (offsets : List ℕ) (b : ℕ) (view : ByteMap)
    → IsLoadable file parts zero_size base e offsets b view
    → (board : Board) (s : State) → CanStart (file_at file b) view (aif_written file b parts zero_size) b board s
    → BootsIn (aif_steps b base zero_size (length offsets)) (file_at file b) view (b + e) board s

-- and in two steps more by a veneer.
abbrev pub AifVeneerIsExact : Type 0
AifVeneerIsExact =
    (file : List ℕ) (parts zero_size base e entry : ℕ) (offsets : List ℕ) (b : ℕ) (view : ByteMap)
    → IsLoadable file parts zero_size base e offsets b view
    → HasVeneer (started_image (shifted_file file b) b parts zero_size base offsets) b parts e entry
    → (board : Board) (s : State) → CanStart (file_at file b) view (aif_written file b parts zero_size) b board s
    → BootsIn (aif_steps b base zero_size (length offsets) + 2) (file_at file b) view entry board s

-- ---- from every address that leaves room, within the bound

-- for k entries in the list and a zero part of these bytes
abbrev pub aif_bound : ℕ → ℕ → ℕ
aif_bound k zero_size = 32 + 7 * k + 4 * (zero_size / 4)

abbrev pub BootsAif : List ℕ → ℕ → ℕ → (ℕ → ByteMap) → ℕ → (ℕ → ℕ) → Type 0
BootsAif file parts zero_size view bound entry =
    (b : ℕ) → b % 4 ≡ 0 → b + length file ≤ 2 ^ 32 → b + parts + zero_size ≤ 2 ^ 32
    → Boots (file_at file b) (view b) (aif_written file b parts zero_size) b bound (entry b)

-- the file may be loaded wherever there is room
abbrev pub LoadsAnywhere : List ℕ → ℕ → ℕ → ℕ → ℕ → List ℕ → (ℕ → ByteMap) → Type 0
LoadsAnywhere file parts zero_size base e offsets view =
    (b : ℕ) → b % 4 ≡ 0 → b + length file ≤ 2 ^ 32 → b + parts + zero_size ≤ 2 ^ 32 → IsLoadable file parts zero_size base e offsets b (view b)

abbrev pub AifBoots : Type 0
AifBoots =
    (file : List ℕ) (parts zero_size base e : ℕ) (offsets : List ℕ) (view : ℕ → ByteMap)
    → LoadsAnywhere file parts zero_size base e offsets view
    → BootsAif file parts zero_size view (aif_bound (length offsets) zero_size) (λ b. b + e)

abbrev pub AifVeneerBoots : Type 0
AifVeneerBoots =
    (file : List ℕ) (parts zero_size base e : ℕ) (offsets : List ℕ) (view : ℕ → ByteMap) (entry : ℕ → ℕ)
    → LoadsAnywhere file parts zero_size base e offsets view
    → ((b : ℕ) → b % 4 ≡ 0 → b + length file ≤ 2 ^ 32 → b + parts + zero_size ≤ 2 ^ 32 → HasVeneer (started_image (shifted_file file b) b parts zero_size base offsets) b parts e (entry b))
    → BootsAif file parts zero_size view (aif_bound (length offsets) zero_size) entry

-- ---- an image that isn't relocatable, at its own base

-- The file is loaded at b, and the view there is the file with its zero part set to zero.
pub record IsFixedLoadable (file : List ℕ) (parts zero_size e b : ℕ) (view : ByteMap) : Type 0 where
  pub image : IsFixed (shifted_file file b) b parts zero_size e
  pub size : length file ≡ parts
  pub whole : b % 4 ≡ 0
  pub room : b + parts + zero_size ≤ 2 ^ 32
  pub inside : (x v : ℕ) → view x ≡ Some v → (b ≤ x) × (x < b + parts + zero_size) × (store (shifted_file file b) (b + parts) (zeros zero_size) x ≡ v)
  pub complete : (x : ℕ) → b ≤ x → x < b + parts + zero_size → (v : ℕ) × (view x ≡ Some v)

-- only the zero part is written: a read-only range may meet the file
abbrev pub FixedAifIsExact : Type 0
FixedAifIsExact =
    (file : List ℕ) (parts zero_size e b : ℕ) (view : ByteMap) → IsFixedLoadable file parts zero_size e b view
    → (board : Board) (s : State) → CanStart (file_at file b) view (covers (b + parts) zero_size) b board s
    → BootsIn (3 + clear_steps zero_size) (file_at file b) view (b + e) board s

abbrev pub FixedAifVeneerIsExact : Type 0
FixedAifVeneerIsExact =
    (file : List ℕ) (parts zero_size e entry b : ℕ) (view : ByteMap) → IsFixedLoadable file parts zero_size e b view
    → HasVeneer (shifted_file file b) b parts e entry
    → (board : Board) (s : State) → CanStart (file_at file b) view (covers (b + parts) zero_size) b board s
    → BootsIn (3 + clear_steps zero_size + 2) (file_at file b) view entry board s

-- within the bound of an empty list
abbrev pub FixedAifBoots : Type 0
FixedAifBoots =
    (file : List ℕ) (parts zero_size e b : ℕ) (view : ByteMap) → IsFixedLoadable file parts zero_size e b view
    → Boots (file_at file b) view (covers (b + parts) zero_size) b (aif_bound 0 zero_size) (b + e)

abbrev pub FixedAifVeneerBoots : Type 0
FixedAifVeneerBoots =
    (file : List ℕ) (parts zero_size e entry b : ℕ) (view : ByteMap) → IsFixedLoadable file parts zero_size e b view
    → HasVeneer (shifted_file file b) b parts e entry
    → Boots (file_at file b) view (covers (b + parts) zero_size) b (aif_bound 0 zero_size) entry
