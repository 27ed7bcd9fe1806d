-- The inputs of a link: each file by its name and its bytes, as an object or a library; which names are those of sources,
-- and what reports and scatter descriptions call an input. This project's.
use Rattle.std.specs.Prelude.{◌≡◌, ◌⊎◌, ℕ, ◌-◌, ◌==◌, ◌&&◌, nat_eq, Bool, true, false, if◌then◌else◌}
use Rattle.std.specs.Prelude.{List, [], ◌∷◌, ◌++◌, length, take, codes, Option, Some, None, Result, Ok, Err}
use Rattle.std.specs.List.{ends_with, list_any, filter_map, AllByRecursion}
use Rattle.sdt_fault.specs.declared.answer.Fault.{Fault}
use Rattle.sdt_fault.specs.declared.answer.Fault.TheVariants as fault
use Rattle.sdt_fault.specs.declared.refusal.Refusal.{Refusal}
use Rattle.sdt_outside.specs.Files.{Files}
use Rattle.chunk_file.specs.Reading.{◌>>=◌}
use Rattle.aof_object.specs.declared.records.Object.{Object}
use Rattle.alf_archive.specs.declared.records.Archive.{Archive}
use Rattle.armasm_core.specs.Assembling.{AssembledFrom, MayGet}
use Rattle.link_model.specs.declared.selection.Named.{Named}
use Rattle.tool_library.specs.declared.linkables.Linkable.{Linkable}
use Rattle.tool_library.specs.declared.linkables.Linkable.TheVariants as input
use Rattle.tool_library.specs.Linkables.{linkable_of, IsValidInput}
use Rattle.sdt_toolkit.specs.Reads.{Reads, HasCause}
use Rattle.sdt_toolkit.specs.Sources.{IsObjectOf}

-- what a call gives, of which this is told; want of memory is free
abbrev pub Tells : {A : Type 0} → Result A Fault → (Result A Refusal → Type 0) → Type 0
Tells (Ok x) is = is (Ok x)
Tells (Err (fault.Refused r)) is = is (Err r)
Tells (Err (fault.ReadFault name)) is = ⊥
Tells (Err fault.NoMemory) is = Unit {0}

-- ---- names

-- the part of a name behind the last '/'
abbrev pub last_part : List ℕ → List ℕ
last_part [] = []
last_part (c ∷ cs) = if list_any (λ d. d == 47) (c ∷ cs) then last_part cs else c ∷ cs

-- a source's name ends in .s
abbrev pub is_source_name : List ℕ → Bool
is_source_name name = ends_with nat_eq name (codes ".s")

abbrev pub object_name : List ℕ → List ℕ
object_name name = take (length name - 2) name ++ codes ".o"

-- the module of a file: the last part of its name, where a source's object has the name with .o
abbrev pub module_of : List ℕ → List ℕ
module_of name = if is_source_name (last_part name) then object_name (last_part name) else last_part name

-- ---- an input

-- the object of a source, which is valid and whose statements stand wherever it is placed, or its first refusal
pub record IsSource (s : Reads) (name bytes : List ℕ) (made : Result Linkable Refusal) : Type 0 where
  pub object : Result Object Refusal
  pub assembled : AssembledFrom s.told name bytes object
  pub caused : HasCause s object
  pub as_input : made ≡ (object >>= λ o. Ok (input.Object o))
  pub sound : (o : Object) → object ≡ Ok o → IsObjectOf s.told name bytes o

abbrev pub InputBy : Reads → Bool → List ℕ → List ℕ → Result Linkable Refusal → Type 0
InputBy s true name bytes made = IsSource s name bytes made
InputBy s false name bytes made = made ≡ linkable_of name bytes

-- the file under a name as an input; where sources are taken, one with a source's name is assembled
abbrev pub InputIs : Reads → Bool → List ℕ → List ℕ → Result Linkable Refusal → Type 0
InputIs s sources name bytes made = InputBy s (sources && is_source_name name) name bytes made

-- a source gets the file, where sources are taken
abbrev pub IsGotBy : Option Files → Bool → List ℕ → List ℕ → List ℕ → Type 0
IsGotBy told sources name bytes file = ((sources && is_source_name name) ≡ true) × MayGet told name bytes file

-- reports call an input by the name under which it is read
abbrev pub named : List ℕ → Linkable → Named Linkable
named name x = record { name = name; «module» = module_of name; value = x }

abbrev pub with_name : List ℕ → Result Linkable Refusal → Result (Named Linkable) Refusal
with_name name made = made >>= λ x. Ok (named name x)

-- the input of a file with its names
abbrev pub NamedIs : Reads → Bool → List ℕ → List ℕ → Result (Named Linkable) Refusal → Type 0
NamedIs s sources name bytes made = (x : Result Linkable Refusal) × InputIs s sources name bytes x × (made ≡ with_name name x)

-- ---- inputs in order

-- an input and the others behind it, which are judged where it is not refused
abbrev pub Behind : Result (Named Linkable) Refusal → (Result (List (Named Linkable)) Refusal → Type 0)
    → Result (List (Named Linkable)) Refusal → Type 0
Behind (Err r) others made = made ≡ Err r
Behind (Ok x) others made = (rest : Result (List (Named Linkable)) Refusal) × others rest × (made ≡ (rest >>= λ xs. Ok (x ∷ xs)))

-- files of these names and contents as inputs, or the first refusal
abbrev pub InputsAre : Reads → Bool → List (List ℕ) → List (List ℕ) → Result (List (Named Linkable)) Refusal → Type 0
InputsAre s sources [] contents made = made ≡ Ok []
InputsAre s sources (name ∷ names) [] made = made ≡ Ok []
InputsAre s sources (name ∷ names) (bytes ∷ contents) made =
    (first : Result (Named Linkable) Refusal) × NamedIs s sources name bytes first × Behind first (InputsAre s sources names contents) made

-- one of the sources gets the file
abbrev pub IsGot : Option Files → Bool → List (List ℕ) → List (List ℕ) → List ℕ → Type 0
IsGot told sources [] contents file = ⊥
IsGot told sources (name ∷ names) [] file = ⊥
IsGot told sources (name ∷ names) (bytes ∷ contents) file =
    IsGotBy told sources name bytes file ⊎ IsGot told sources names contents file

-- ---- objects and libraries among them

abbrev pub as_object : List ℕ → List ℕ → Linkable → Option (Named Object)
as_object name part (input.Object o) = Some (record { name = name; «module» = part; value = o })
as_object name part (input.Library a) = None

abbrev pub as_archive : List ℕ → List ℕ → Linkable → Option (Named Archive)
as_archive name part (input.Object o) = None
as_archive name part (input.Library a) = Some (record { name = name; «module» = part; value = a })

abbrev pub objects_among : List (Named Linkable) → List (Named Object)
objects_among xs = filter_map (λ x. as_object x.name x.«module» x.value) xs

abbrev pub archives_among : List (Named Linkable) → List (Named Archive)
archives_among xs = filter_map (λ x. as_archive x.name x.«module» x.value) xs

abbrev pub AreValid : List (Named Linkable) → Type 0
AreValid xs = AllByRecursion (λ x. IsValidInput x.value) xs
