-- What the files of an image hold, container by container: the image, as a loader of that container puts it into memory (SDT
-- 2.50 Reference Guide, scatter loading; System V Application Binary Interface, Object Files: Program Loading; the map is this
-- project's).
use Rattle.std.specs.Prelude.{◌≡◌, ℕ, ◌+◌, true, false, List, length}
use Rattle.sdt_word.specs.Numbers.{flag}
use Rattle.boot_code.specs.Aif.{file_at}
use Rattle.boot_code.specs.Boots.{ByteMap, Boots}
use Rattle.boot_code.specs.Maps.{map_of}
use Rattle.link_model.specs.declared.images.Image.{Image}
use Rattle.bin_image.specs.Fields.{lacks}
use Rattle.bin_image.specs.Files as load
use Rattle.bin_image.specs.Files.{binary_file, map_file}
use Rattle.bin_image.specs.Maps.{ReadsMap}
use Rattle.elf_image.specs.declared.records.Elf.{Elf}
use Rattle.elf_image.specs.Checks.{ReadsElf}
use Rattle.elf_image.specs.declared.tables.Tables.{Tables}
use Rattle.elf_image.specs.Files.{elf_file, elf_load}
use Rattle.elf_image.specs.Symbols.{HasSections, HasSymbols}
use Rattle.elf_image.specs.Tables.{named_file}
use Rattle.tool_words.specs.declared.command.Container.{Container}
use Rattle.tool_words.specs.declared.command.Container.TheVariants as container
use Rattle.tool_run.specs.Images.{has_zero}
use Rattle.sdt_toolkit.specs.Starting.{segments_of, written_in}

-- the map, under a name of one line without a zero byte, reads as the image's
abbrev pub IsMapFile : List ℕ → Image → Type 0
IsMapFile out i = lacks 10 out ≡ true → has_zero out ≡ false → ReadsMap (map_file i out).bytes (load.map_of i out)

-- the file reads as an ELF executable that is entered where the image starts, and what it loads are the image's load regions: so
-- every memory that holds what it loads reaches the entry with memory as the view
pub record IsElfFile (i : Image) (view : ByteMap) (file : List ℕ) : Type 0 where
  pub elf : Elf
  pub reads : ReadsElf file elf
  pub entry : elf.entry ≡ i.start
  pub loads : elf_load file elf ≡ map_of (segments_of i)
  pub boots : Boots (elf_load file elf) view (written_in i) elf.entry i.bound (i.entry + flag i.thumb)

-- and in one with symbols a debugger finds the tables
pub record IsNamedFile (i : Image) (t : Tables) (view : ByteMap) (file : List ℕ) : Type 0 where
  pub elf : IsElfFile i view file
  pub sections : HasSections file t.sections
  pub symbols : HasSymbols file (length t.sections + 1) t.symbols

-- the file, put where the image starts, is the image's load region
abbrev pub IsBinaryFile : Image → List ℕ → Type 0
IsBinaryFile i file = (x : ℕ) → file_at file i.start x ≡ map_of (segments_of i) x

-- of each container; a load region's file has its bytes, and of an ARM image file the plan of the image says what it is in memory
abbrev pub FilesHold : Container → List ℕ → Tables → Image → (ℕ → ByteMap) → Type 0
FilesHold container.LoadFiles out t i views = IsMapFile out i
FilesHold (container.Elf false) out t i views = IsElfFile i (views i.start) (elf_file i)
FilesHold (container.Elf true) out t i views = IsNamedFile i t (views i.start) (named_file i t)
FilesHold container.Binary out t i views = IsBinaryFile i (binary_file i)
FilesHold container.ImageFile out t i views = Unit {0}
