-- What a command prints of a file: its listing, or the names of a library's members. This project's.
use Rattle.std.specs.Prelude.{ℕ, List, Result, Ok}
use Rattle.sdt_fault.specs.declared.refusal.Refusal.{Refusal}
use Rattle.sdt_outside.specs.Files.{Files}
use Rattle.chunk_file.specs.Reading.{◌>>=◌}
use Rattle.tool_answers.specs.Inputs.{input_of}
use Rattle.tool_answers.specs.Outcomes.{Outcome, prints_only}
use Rattle.tool_library.specs.declared.printing.Shown.{Shown}
use Rattle.tool_library.specs.declared.printing.Shown.TheVariants as shown
use Rattle.tool_library.specs.Libraries as libraries
use Rattle.tool_library.specs.Lists as lists

abbrev pub text_shown : Shown → List ℕ → List ℕ → Result (List ℕ) Refusal
text_shown shown.Listing name bytes = lists.listing name bytes
text_shown shown.Members name bytes = libraries.listing name bytes

abbrev pub prints : Shown → List ℕ → List ℕ → Result Outcome Refusal
prints s name bytes = text_shown s name bytes >>= λ text. Ok (prints_only text)

abbrev pub asked : Shown → List ℕ → Files → Result Outcome Refusal
asked s name files = input_of files name >>= prints s name
