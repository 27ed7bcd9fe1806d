-- What a file is to a link: a library where it is a chunk file with a LIB_DIRY chunk, else an object. This project's.
use Rattle.std.specs.Prelude.{ℕ, List, if◌then◌else◌, Result, Ok}
use Rattle.sdt_fault.specs.declared.refusal.Refusal.{Refusal}
use Rattle.chunk_file.specs.Reading.{◌>>=◌}
use Rattle.aof_object.specs.Objects.{object_of}
use Rattle.aof_object.specs.Validity as object
use Rattle.alf_archive.specs.Archives.{archive_of, is_library}
use Rattle.alf_archive.specs.Grammar as library
use Rattle.tool_library.specs.declared.linkables.Linkable.{Linkable}
use Rattle.tool_library.specs.declared.linkables.Linkable.TheVariants as input
use Rattle.tool_library.specs.Libraries.{named_by}

abbrev pub object_input : List ℕ → List ℕ → Result Linkable Refusal
object_input name bytes = named_by name (object_of bytes) >>= λ o. Ok (input.Object o)

abbrev pub archive_input : List ℕ → List ℕ → Result Linkable Refusal
archive_input name bytes = named_by name (archive_of bytes) >>= λ a. Ok (input.Library a)

-- the file under a name, or its reader's refusal with the name
unfoldable pub linkable_of : List ℕ → List ℕ → Result Linkable Refusal
linkable_of name bytes = if is_library bytes then archive_input name bytes else object_input name bytes

abbrev pub IsValidInput : Linkable → Type 0
IsValidInput (input.Object o) = object.IsValid o
IsValidInput (input.Library a) = library.IsValid a
