-- The inputs of a command: named files, read in order. This project's.
use Rattle.std.specs.Prelude.{◌≡◌, ℕ, List, [], ◌∷◌, ◌++◌, Option, Some, None, Result, Ok, Err}
use Rattle.sdt_fault.specs.declared.refusal.Refusal.{Refusal}
use Rattle.sdt_fault.specs.declared.refusal.Refusal.TheVariants.{BadChunk, BadObject, BadLibrary, BadImage, BadRecord, BadCommand, Missing}
use Rattle.sdt_outside.specs.Files.{Files, content, IsMissing}
use Rattle.sdt_outside.specs.declared.store.StoreError.{StoreError}
use Rattle.sdt_outside.specs.declared.store.StoreError.TheVariants as store
use Rattle.tool_answers.specs.declared.inputs.InputEnd.{InputEnd}
use Rattle.tool_answers.specs.declared.inputs.InputEnd.TheVariants as end

-- what a file holds, or that it is missing
abbrev pub found_or : List ℕ → Option (List ℕ) → Result (List ℕ) Refusal
found_or name None = Err (Missing name)
found_or name (Some bytes) = Ok bytes

abbrev pub input_of : Files → List ℕ → Result (List ℕ) Refusal
input_of files name = found_or name (content files name)

-- what comes before others, where nothing is missing
abbrev pub before_others : List ℕ → Result (List (List ℕ)) Refusal → Result (List (List ℕ)) Refusal
before_others bytes (Ok others) = Ok (bytes ∷ others)
before_others bytes (Err r) = Err r

abbrev pub and_others : Result (List ℕ) Refusal → Result (List (List ℕ)) Refusal → Result (List (List ℕ)) Refusal
and_others (Ok bytes) others = before_others bytes others
and_others (Err r) others = Err r

-- what files hold, in order, or the first that is missing
abbrev pub inputs_of : Files → List (List ℕ) → Result (List (List ℕ)) Refusal
inputs_of files [] = Ok []
inputs_of files (name ∷ names) = and_others (input_of files name) (inputs_of files names)

-- a refusal of a reader, which knows no file's name, with the name of the file
abbrev pub named : List ℕ → Refusal → Refusal
named name (BadChunk file at kind) = BadChunk name at kind
named name (BadObject file at kind) = BadObject name at kind
named name (BadLibrary file at kind) = BadLibrary name at kind
named name (BadImage file at kind) = BadImage name at kind
named name (BadRecord file line kind) = BadRecord name line kind
named name (BadCommand file line kind) = BadCommand name line kind
named name other = other

-- what files hold, in order, where they are told
abbrev pub AreInputs : Option Files → List (List ℕ) → List (List ℕ) → Type 0
AreInputs None names contents = Unit {0}
AreInputs (Some files) names contents = inputs_of files names ≡ Ok contents

-- the name is one of these, and those before it were read
pub record IsReached (told : Option Files) (names : List (List ℕ)) (name : List ℕ) : Type 0 where
  pub front : List (List ℕ)
  pub rest : List (List ℕ)
  pub names_are : names ≡ front ++ name ∷ rest
  pub contents : List (List ℕ)
  pub read_before : AreInputs told front contents

-- why one file was not read
abbrev pub IsEnd : InputEnd → Option Files → List ℕ → Type 0 → Type 0
IsEnd (end.Missing q) told name rose = (q ≡ name) × IsMissing told name rose
IsEnd (end.Failed q) told name rose = (q ≡ name) × rose
IsEnd end.NoMemory told name rose = Unit {0}

-- the end that an error of the store makes, unless memory was refused
abbrev pub EndsAs : InputEnd → StoreError → List ℕ → Type 0
EndsAs (end.Missing q) e name = (q ≡ name) × (e ≡ store.Missing)
EndsAs (end.Failed q) e name = (q ≡ name) × (e ≡ store.Failed)
EndsAs end.NoMemory e name = Unit {0}

-- why an input was not read: it is the first that is missing, or a read failed, or memory was refused
abbrev pub InputsEnd : InputEnd → Option Files → List (List ℕ) → Type 0 → Type 0
InputsEnd (end.Missing name) None names rose = rose × IsReached None names name
InputsEnd (end.Missing name) (Some files) names rose = inputs_of files names ≡ Err (Missing name)
InputsEnd (end.Failed name) told names rose = rose × IsReached told names name
InputsEnd end.NoMemory told names rose = Unit {0}
