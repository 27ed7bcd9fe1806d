-- What the command `list` prints of a file: a chunk file with a directory of a library is listed as a library, any other
-- file that begins as a chunk file does as an object, one that begins as an ELF file does as an ELF executable, and a file
-- that begins as neither as an ARM image file. This project's.
use Rattle.std.specs.Prelude.{ℕ, nat_le, ◌==◌, ◌&&◌, Bool, if◌then◌else◌, List, length, Result, Ok}
use Rattle.sdt_word.specs.Bytes.{word_in}
use Rattle.sdt_fault.specs.declared.refusal.Refusal.{Refusal}
use Rattle.sdt_outside.specs.Files.{Files}
use Rattle.chunk_file.specs.Reading.{◌>>=◌}
use Rattle.aof_object.specs.Objects.{object_of}
use Rattle.alf_archive.specs.Archives.{archive_of, is_library}
use Rattle.aif_image.specs.Reading.{aif_of}
use Rattle.elf_image.specs.Reading.{elf_of}
use Rattle.sdt_listing.specs.Elfs.{elf_text}
use Rattle.sdt_listing.specs.Images.{aif_text}
use Rattle.sdt_listing.specs.Listings.{archive_text, object_text}
use Rattle.tool_answers.specs.Inputs.{input_of}
use Rattle.tool_answers.specs.Outcomes.{Outcome, prints_only}
use Rattle.tool_library.specs.Libraries.{named_by}

-- the listing of a file, or its refusal with the file's name
abbrev pub archive_listing : List ℕ → List ℕ → Result (List ℕ) Refusal
archive_listing name bytes = named_by name (archive_of bytes) >>= λ a. Ok (archive_text a)

abbrev pub object_listing : List ℕ → List ℕ → Result (List ℕ) Refusal
object_listing name bytes = named_by name (object_of bytes) >>= λ o. Ok (object_text o)

abbrev pub aif_listing : List ℕ → List ℕ → Result (List ℕ) Refusal
aif_listing name bytes = named_by name (aif_of bytes) >>= λ a. Ok (aif_text a bytes)

abbrev pub elf_listing : List ℕ → List ℕ → Result (List ℕ) Refusal
elf_listing name bytes = named_by name (elf_of bytes) >>= λ e. Ok (elf_text e)

abbrev pub chunk_listing : List ℕ → List ℕ → Result (List ℕ) Refusal
chunk_listing name bytes = if is_library bytes then archive_listing name bytes else object_listing name bytes

-- the first word is this
abbrev pub begins_with : ℕ → List ℕ → Bool
begins_with word bytes = nat_le 4 (length bytes) && word_in bytes 0 == word

-- that of chunk files comes first, then that of ELF files
unfoldable pub listing : List ℕ → List ℕ → Result (List ℕ) Refusal
listing name bytes =
    if begins_with 0xC3CBC6C5 bytes then chunk_listing name bytes else (
    if begins_with 0x464C457F bytes then elf_listing name bytes else aif_listing name bytes)

abbrev pub lists : List ℕ → List ℕ → Result Outcome Refusal
lists name bytes = listing name bytes >>= λ text. Ok (prints_only text)

abbrev pub listing_of : List ℕ → Files → Result Outcome Refusal
listing_of name files = input_of files name >>= lists name
