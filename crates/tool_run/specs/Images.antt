-- The image that the words of a run name, by files: a binary at an address, an ARM image file, an ELF executable, a text of
-- records, or the load files of a map. This project's.
use Rattle.std.proofs.lemmas.Bool.{false≢true}
use Rattle.std.specs.Prelude.{◌≡◌, ◌⊎◌, ℕ, ◌+◌, ◌==◌, if◌then◌else◌, Bool, false}
use Rattle.std.specs.Prelude.{List, [], ◌∷◌, ◌++◌, map, take, length, slice_index_or, Option, Some, None, Result, Ok, Err}
use Rattle.std.specs.List.{list_any, position, zip}
use Rattle.sdt_fault.specs.declared.kinds.FileKind.TheVariants as kind
use Rattle.sdt_fault.specs.declared.refusal.Refusal.{Refusal}
use Rattle.sdt_fault.specs.declared.refusal.Refusal.TheVariants.{BadImage, Missing}
use Rattle.sdt_outside.specs.Files.{Files, IsFound}
use Rattle.chunk_file.specs.Reading.{◌>>=◌}
use Rattle.bin_image.specs.declared.records.MapFile.{MapFile}
use Rattle.bin_image.specs.declared.records.MapLoad.{MapLoad}
use Rattle.bin_image.specs.declared.records.MapRegion.{MapRegion}
use Rattle.bin_image.specs.Maps.{ReadsMap}
use Rattle.bin_image.specs.Reading.{map_of}
use Rattle.run_opening.specs.declared.image.Image.{Image}
use Rattle.run_opening.specs.declared.image.Load.{Load}
use Rattle.run_opening.specs.declared.image.Need.{Need}
use Rattle.tool_answers.specs.Inputs.{input_of, inputs_of, IsReached}
use Rattle.tool_words.specs.declared.command.RunImage.{RunImage}
use Rattle.tool_words.specs.declared.command.RunImage.TheVariants as image
use Rattle.tool_run.specs.Aifs.{aif_at}
use Rattle.tool_run.specs.Burned.{burned_image}
use Rattle.tool_run.specs.Elfs.{elf_image}
use Rattle.tool_run.specs.Ends.{named_by}

-- ---- a binary

-- the bytes from the address on, which are to be memory, and the start there
abbrev pub binary_image : ℕ → List ℕ → Image
binary_image at bytes = record {
  loads = record { base = at; bytes = bytes } ∷ [];
  needs = record { base = at; size = length bytes } ∷ [];
  start = at;
  thumb = false;
  even = λ e. absurd (false≢true e);
}

-- ---- the load files of a map

-- each file at its line's base
abbrev pub load_of : MapLoad × List ℕ → Load
load_of p = record { base = p.0.base; bytes = p.1 }

abbrev pub loads_of : List MapLoad → List (List ℕ) → List Load
loads_of lines contents = map load_of (zip lines contents)

abbrev pub load_need : MapLoad → Need
load_need l = record { base = l.base; size = l.size }

-- a range with its zero part
abbrev pub region_need : MapRegion → Need
region_need r = record { base = r.base; size = r.length + r.zero }

-- the files, the load and execution ranges, and the map's start
abbrev pub map_image : MapFile → List (List ℕ) → Image
map_image m contents = record {
  loads = loads_of m.loads contents;
  needs = map load_need m.loads ++ map region_need m.regions;
  start = m.start;
  thumb = false;
  even = λ e. absurd (false≢true e);
}

-- each file has the length that its line tells, or the refusal of the first that hasn't
abbrev pub length_judged : MapLoad → List ℕ → Result Unit Refusal
length_judged l bytes = if length bytes == l.size then Ok tt else Err (BadImage l.file (length bytes) kind.Length)

abbrev pub lengths_judged : List MapLoad → List (List ℕ) → Result Unit Refusal
lengths_judged [] contents = Ok tt
lengths_judged (l ∷ ls) [] = Ok tt
lengths_judged (l ∷ ls) (b ∷ bs) = length_judged l b >>= λ right. lengths_judged ls bs

-- the image of files that were read
abbrev pub loaded_image : MapFile → List (List ℕ) → Result Image Refusal
loaded_image m contents = lengths_judged m.loads contents >>= λ right. Ok (map_image m contents)

abbrev pub files_in : MapFile → List (List ℕ)
files_in m = map (λ l. l.file) m.loads

-- a name with a zero byte is the name of no file
abbrev pub has_zero : List ℕ → Bool
has_zero name = list_any (λ b. b == 0) name

-- the place of the first such name; the names before it, and what it asks for
abbrev pub unnamed : List (List ℕ) → Option ℕ
unnamed names = position has_zero names

abbrev pub front_of : List (List ℕ) → Option ℕ → List (List ℕ)
front_of names None = names
front_of names (Some k) = take k names

abbrev pub all_named : List (List ℕ) → Option ℕ → Result Unit Refusal
all_named names None = Ok tt
all_named names (Some k) = Err (Missing (slice_index_or names k []))

-- all files are read first, up to a name that is the name of no file, then their lengths are judged
abbrev pub mapped_image : MapFile → Files → Result Image Refusal
mapped_image m files =
    inputs_of files (front_of (files_in m) (unnamed (files_in m))) >>= λ contents.
    all_named (files_in m) (unnamed (files_in m)) >>= λ right. loaded_image m contents

-- ---- the image

-- what the words name, or the first refusal: the file is missing, it is no ARM image file or may not stand at the
-- address, it is no ELF executable, a line of records is at fault, the map's text is wrong, a load file is missing, a load
-- file has another length
abbrev pub image_of : RunImage → Files → Result Image Refusal
image_of (image.Binary file at) files = input_of files file >>= λ bytes. Ok (binary_image at bytes)
image_of (image.Aif file at) files = input_of files file >>= λ bytes. aif_at file at bytes
image_of (image.Elf file) files = input_of files file >>= λ bytes. elf_image file bytes
image_of (image.Burned file) files = input_of files file >>= λ text. burned_image file text
image_of (image.Map file) files =
    input_of files file >>= λ text. named_by file (map_of text) >>= λ m. mapped_image m files

-- the file is a load file of a map that was read, and those before it were read
pub record IsLoadFile (told : Option Files) (file name : List ℕ) : Type 0 where
  pub text : List ℕ
  pub found : IsFound told file text
  pub m : MapFile
  pub reads : ReadsMap text m
  pub reached : IsReached told (files_in m) name

-- the file is one that the words name: the binary, the ARM image file, the ELF executable, the text of records, the map, or one of
-- the map's load files
abbrev pub IsInput : Option Files → RunImage → List ℕ → Type 0
IsInput told (image.Binary file at) name = name ≡ file
IsInput told (image.Aif file at) name = name ≡ file
IsInput told (image.Elf file) name = name ≡ file
IsInput told (image.Burned file) name = name ≡ file
IsInput told (image.Map file) name = (name ≡ file) ⊎ IsLoadFile told file name

-- one of the inputs is missing, for which a read failed
abbrev pub IsLost : Type 0 → (List ℕ → Type 0) → Result Image Refusal → Type 0
IsLost rose input read = (name : List ℕ) × (read ≡ Err (Missing name)) × rose × input name

-- what some contents of the load files of a map give, up to a name that is the name of no file
abbrev pub SomeLoads : MapFile → Result Image Refusal → Type 0
SomeLoads m read =
    (contents : List (List ℕ)) × (length contents ≡ length (front_of (files_in m) (unnamed (files_in m))))
    × (read ≡ (all_named (files_in m) (unnamed (files_in m)) >>= λ right. loaded_image m contents))

abbrev pub SomeMapped : Result MapFile Refusal → Result Image Refusal → Type 0
SomeMapped (Ok m) read = SomeLoads m read
SomeMapped (Err r) read = read ≡ Err r

-- what some contents of the files that the words name give
abbrev pub SomeGive : RunImage → Result Image Refusal → Type 0
SomeGive (image.Binary file at) read = (bytes : List ℕ) × (read ≡ Ok (binary_image at bytes))
SomeGive (image.Aif file at) read = (bytes : List ℕ) × (read ≡ aif_at file at bytes)
SomeGive (image.Elf file) read = (bytes : List ℕ) × (read ≡ elf_image file bytes)
SomeGive (image.Burned file) read = (text : List ℕ) × (read ≡ burned_image file text)
SomeGive (image.Map file) read = (text : List ℕ) × SomeMapped (named_by file (map_of text)) read

-- what was read is what the files that are told give; where none are told, it is what some contents of them give, or one is missing
abbrev pub IsGiven : (Files → Result Image Refusal) → (Result Image Refusal → Type 0) → Option Files → Type 0 → (List ℕ → Type 0)
    → Result Image Refusal → Type 0
IsGiven judge some_give None rose input read = some_give read ⊎ IsLost rose input read
IsGiven judge some_give (Some files) rose input read = read ≡ judge files

-- what the words name reads so
abbrev pub IsRead : Option Files → Type 0 → RunImage → Result Image Refusal → Type 0
IsRead told rose image read = IsGiven (image_of image) (SomeGive image) told rose (IsInput told image) read
