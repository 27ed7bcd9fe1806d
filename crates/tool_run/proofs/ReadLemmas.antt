-- An image that was read, or why not, by what the store told.
use Rattle.std.proofs.Common.{◌≡◌, ℕ, zero, suc, ◌<◌, List, [], ◌∷◌, ◌++◌, length, Option, Some, None, Result, Ok, Err, refl, sym, ap, ◌∙◌, subst, inl, inr, take, drop, arith, append_assoc}
use Rattle.std.specs.Prelude.{slice_index_or}
use Rattle.std.proofs.lemmas.List.{take-append-drop}
use Rattle.std.proofs.lemmas.List.Quantifiers.{position-Some}
use Rattle.sdt_fault.specs.declared.answer.Fault.{Fault}
use Rattle.sdt_fault.specs.declared.answer.Fault.TheVariants as fault
use Rattle.sdt_fault.specs.declared.refusal.Refusal.{Refusal}
use Rattle.sdt_fault.specs.declared.refusal.Refusal.TheVariants.{Missing}
use Rattle.sdt_outside.specs.Files.{Files, IsFound}
use Rattle.chunk_file.specs.Reading.{◌>>=◌, Gives}
use Rattle.bin_image.specs.declared.records.MapFile.{MapFile}
use Rattle.bin_image.specs.Maps.{ReadsMap}
use Rattle.bin_image.specs.Reading.{map_of, read}
use Rattle.run_opening.specs.declared.image.Image.{Image}
use Rattle.tool_answers.specs.declared.inputs.InputEnd.{InputEnd}
use Rattle.tool_answers.specs.declared.inputs.InputEnd.TheVariants as input
use Rattle.tool_answers.specs.Inputs.{AreInputs, InputsEnd, IsEnd, IsReached, found_or, input_of, inputs_of}
use Rattle.tool_words.specs.declared.command.RunImage.TheVariants as image
use Rattle.tool_run.specs.declared.ends.ImageEnd.{ImageEnd}
use Rattle.tool_run.specs.declared.ends.ImageEnd.TheVariants as end
use Rattle.tool_run.specs.Aifs.{aif_at}
use Rattle.tool_run.specs.Burned.{burned_image}
use Rattle.tool_run.specs.Elfs.{elf_image}
use Rattle.tool_run.specs.Ends.{IsMissing, Reads, fault_end, input_end, named_by}
use Rattle.tool_run.specs.Images.{IsGiven, IsInput, IsRead, SomeLoads, SomeMapped, all_named, files_in, front_of, has_zero, loaded_image, mapped_image, unnamed}

-- ---- one file

abbrev missing_of : List ℕ → Result Image Refusal
missing_of name = Err (Missing name)

-- it was not read
pub file_ended : (e : InputEnd) (told : Option Files) (rose : Type 0) (judge : Files → Result Image Refusal) (some_give : Result Image Refusal → Type 0) (is_input : List ℕ → Type 0) (file : List ℕ)
    → IsEnd e told file rose → is_input file → ((files : Files) → input_of files file ≡ Err (Missing file) → judge files ≡ Err (Missing file))
    → Reads (IsGiven judge some_give told rose is_input) rose is_input (Err (input_end e))
file_ended (input.Missing name) None rose judge some_give is_input file h own missing =
    inr (name, refl, h.1, subst is_input (sym h.0) own)
file_ended (input.Missing name) (Some files) rose judge some_give is_input file h own missing =
    ap missing_of h.0 ∙ sym (missing files (ap (found_or file) h.1))
file_ended (input.Failed name) told rose judge some_give is_input file h own missing = (h.1, subst is_input (sym h.0) own)
file_ended input.NoMemory told rose judge some_give is_input file h own missing = tt

-- it was read, and all that is told is what it holds
pub file_read : (told : Option Files) (rose : Type 0) (judge : Files → Result Image Refusal) (some_give : Result Image Refusal → Type 0) (is_input : List ℕ → Type 0) (file bytes : List ℕ) (read : Result Image Refusal)
    → IsFound told file bytes → some_give read → ((files : Files) → input_of files file ≡ Ok bytes → judge files ≡ read) → IsGiven judge some_give told rose is_input read
file_read None rose judge some_give is_input file bytes read found gives told_so = inl gives
file_read (Some files) rose judge some_give is_input file bytes read found gives told_so = sym (told_so files (ap (found_or file) found))

-- ---- a map

pub map_refused : (e : Fault) (told : Option Files) (rose : Type 0) (file text : List ℕ) → IsFound told file text
    → Gives {A = MapFile} (Err e) (named_by file (map_of text))
    → Reads (IsRead told rose (image.Map file)) rose (IsInput told (image.Map file)) (Err (fault_end e))
map_refused (fault.Refused r) None rose file text found h = inl (text, subst (λ (x : Result MapFile Refusal). SomeMapped x (Err r)) (sym h) refl)
map_refused (fault.Refused r) (Some files) rose file text found h =
    sym (ap (λ x. found_or file x >>= λ t. named_by file (map_of t) >>= λ m. mapped_image m files) found ∙ ap (λ x. x >>= λ m. mapped_image m files) h)
map_refused (fault.ReadFault name) told rose file text found h = absurd h
map_refused fault.NoMemory told rose file text found h = tt

module _ (before after : Type 0) (file text : List ℕ) (m : MapFile) (more : after → before) (reads : ReadsMap text m) (is : named_by file (map_of text) ≡ Ok m) where
  -- what some load files give, some map with them gives
  some_map : (r : Result Image Refusal) → IsGiven (mapped_image m) (SomeLoads m) None after (IsReached None (files_in m)) r → IsRead None before (image.Map file) r
  some_map r (inl h) = inl (text, subst (λ (x : Result MapFile Refusal). SomeMapped x r) (sym is) h)
  some_map r (inr (name, e, rose, reached)) = inr (name, e, more rose, inr (record { text = text; found = tt; m = m; reads = reads; reached = reached }))

-- the map's text was read; what comes of its load files comes of the map
pub map_read : (r : Result Image ImageEnd) (told : Option Files) (before after : Type 0) (file text : List ℕ) (m : MapFile) → (after → before) → IsFound told file text → ReadsMap text m
    → named_by file (map_of text) ≡ Ok m
    → Reads (IsGiven (mapped_image m) (SomeLoads m) told after (IsReached told (files_in m))) after (IsReached told (files_in m)) r
    → Reads (IsRead told before (image.Map file)) before (IsInput told (image.Map file)) r
map_read (Ok i) None before after file text m more found reads is h = some_map before after file text m more reads is (Ok i) h
map_read (Ok i) (Some files) before after file text m more found reads is h =
    h ∙ sym (ap (λ x. found_or file x >>= λ t. named_by file (map_of t) >>= λ n. mapped_image n files) found ∙ ap (λ x. x >>= λ n. mapped_image n files) is)
map_read (Err (end.Refused r)) None before after file text m more found reads is h = some_map before after file text m more reads is (Err r) h
map_read (Err (end.Refused r)) (Some files) before after file text m more found reads is h =
    h ∙ sym (ap (λ x. found_or file x >>= λ t. named_by file (map_of t) >>= λ n. mapped_image n files) found ∙ ap (λ x. x >>= λ n. mapped_image n files) is)
map_read (Err (end.Failed name)) told before after file text m more found reads is h =
    (more h.0, inr (record { text = text; found = found; m = m; reads = reads; reached = h.1 }))
map_read (Err end.NoMemory) told before after file text m more found reads is h = tt

-- ---- an ARM image file

pub aif_refused : (e : Fault) (told : Option Files) (rose : Type 0) (file bytes : List ℕ) (at : Option ℕ) → IsFound told file bytes → Gives {A = Image} (Err e) (aif_at file at bytes)
    → Reads (IsRead told rose (image.Aif file at)) rose (IsInput told (image.Aif file at)) (Err (fault_end e))
aif_refused (fault.Refused r) None rose file bytes at found h = inl (bytes, sym h)
aif_refused (fault.Refused r) (Some files) rose file bytes at found h = sym (ap (λ x. found_or file x >>= λ b. aif_at file at b) found ∙ h)
aif_refused (fault.ReadFault name) told rose file bytes at found h = absurd h
aif_refused fault.NoMemory told rose file bytes at found h = tt

-- ---- an ELF executable

pub elf_refused : (e : Fault) (told : Option Files) (rose : Type 0) (file bytes : List ℕ) → IsFound told file bytes → Gives {A = Image} (Err e) (elf_image file bytes)
    → Reads (IsRead told rose (image.Elf file)) rose (IsInput told (image.Elf file)) (Err (fault_end e))
elf_refused (fault.Refused r) None rose file bytes found h = inl (bytes, sym h)
elf_refused (fault.Refused r) (Some files) rose file bytes found h = sym (ap (λ x. found_or file x >>= λ b. elf_image file b) found ∙ h)
elf_refused (fault.ReadFault name) told rose file bytes found h = absurd h
elf_refused fault.NoMemory told rose file bytes found h = tt

-- ---- a text of records

pub burned_refused : (e : Fault) (told : Option Files) (rose : Type 0) (file text : List ℕ) → IsFound told file text → Gives {A = Image} (Err e) (burned_image file text)
    → Reads (IsRead told rose (image.Burned file)) rose (IsInput told (image.Burned file)) (Err (fault_end e))
burned_refused (fault.Refused r) None rose file text found h = inl (text, sym h)
burned_refused (fault.Refused r) (Some files) rose file text found h = sym (ap (λ x. found_or file x >>= λ t. burned_image file t) found ∙ h)
burned_refused (fault.ReadFault name) told rose file text found h = absurd h
burned_refused fault.NoMemory told rose file text found h = tt

-- ---- load files

-- what a map's names have in front of one that is the name of no file
reached-front : (told : Option Files) (names : List (List ℕ)) (place : Option ℕ) (name : List ℕ) → IsReached told (front_of names place) name → IsReached told names name
reached-front told names None name h = h
reached-front told names (Some k) name h = record {
  front = h.front;
  rest = h.rest ++ drop k names;
  names_are = sym (take-append-drop k names) ∙ ap (λ (l : List (List ℕ)). l ++ drop k names) h.names_are ∙ append_assoc h.front (name ∷ h.rest) (drop k names);
  contents = h.contents;
  read_before = h.read_before;
}

at-place : (names : List (List ℕ)) (k : ℕ) → k < length names → names ≡ take k names ++ slice_index_or names k [] ∷ drop (suc k) names
at-place [] k lt = absurd (omega arith)
at-place (x ∷ xs) zero lt = refl
at-place (x ∷ xs) (suc k) lt = ap (λ (l : List (List ℕ)). x ∷ l) (at-place xs k (omega arith))

reached-place : (told : Option Files) (names contents : List (List ℕ)) (k : ℕ) → k < length names → AreInputs told (take k names) contents
    → IsReached told names (slice_index_or names k [])
reached-place told names contents k lt read = record {
  front = take k names;
  rest = drop (suc k) names;
  names_are = at-place names k lt;
  contents = contents;
  read_before = read;
}

abbrev Ends : Option Files → Type 0 → MapFile → ImageEnd → Type 0
Ends told rose m e =
    Reads (IsGiven (mapped_image m) (SomeLoads m) told rose (IsReached told (files_in m))) rose (IsReached told (files_in m)) (Err e)

pub inputs_ended : (e : InputEnd) (told : Option Files) (rose : Type 0) (m : MapFile) (place : Option ℕ) → place ≡ unnamed (files_in m)
    → InputsEnd e told (front_of (files_in m) place) rose → Ends told rose m (input_end e)
inputs_ended (input.Missing name) None rose m place is h = inr (name, refl, h.0, reached-front None (files_in m) place name h.1)
inputs_ended (input.Missing name) (Some files) rose m place is h =
    sym (ap (λ x. x >>= λ c. all_named (files_in m) (unnamed (files_in m)) >>= λ right. loaded_image m c)
    (ap (λ (p : Option ℕ). inputs_of files (front_of (files_in m) p)) (sym is) ∙ h))
inputs_ended (input.Failed name) told rose m place is h = (h.0, reached-front told (files_in m) place name h.1)
inputs_ended input.NoMemory told rose m place is h = tt

any-default : (names : List (List ℕ)) (k : ℕ) (d e : List ℕ) → k < length names → slice_index_or names k d ≡ slice_index_or names k e
any-default [] k d e lt = absurd (omega arith)
any-default (x ∷ xs) zero d e lt = refl
any-default (x ∷ xs) (suc k) d e lt = any-default xs k d e (omega arith)

-- as many contents as there are names in front
counted : (m : MapFile) (place : Option ℕ) (contents : List (List ℕ)) → place ≡ unnamed (files_in m) → length contents ≡ length (front_of (files_in m) place)
    → length contents ≡ length (front_of (files_in m) (unnamed (files_in m)))
counted m place contents is count = subst (λ (p : Option ℕ). length contents ≡ length (front_of (files_in m) p)) is count

-- what comes of them, by the place of a name that is the name of no file
abbrev by_place : MapFile → List (List ℕ) → Option ℕ → Result Image Refusal
by_place m contents place = all_named (files_in m) place >>= λ right. loaded_image m contents

some_loads : (m : MapFile) (place found : Option ℕ) (contents : List (List ℕ)) (read : Result Image Refusal) → place ≡ unnamed (files_in m) → place ≡ found
    → length contents ≡ length (front_of (files_in m) place) → by_place m contents found ≡ read → SomeLoads m read
some_loads m place found contents read is at count h =
    (contents, counted m place contents is count, sym (ap (by_place m contents) (sym is ∙ at) ∙ h))

missing-at : (e : ImageEnd) (told : Option Files) (rose : Type 0) (m : MapFile) (place : Option ℕ) (k : ℕ) (contents : List (List ℕ))
    → place ≡ unnamed (files_in m) → place ≡ Some k → AreInputs told (front_of (files_in m) place) contents → length contents ≡ length (front_of (files_in m) place)
    → IsMissing (slice_index_or (files_in m) k []) e → Ends told rose m e
missing-at (end.Refused r) None rose m place k contents is at read count h =
    rw h (inl (some_loads m place (Some k) contents (missing_of (slice_index_or (files_in m) k [])) is at count refl))
missing-at (end.Refused r) (Some files) rose m place k contents is at read count h =
    rw h (sym (ap (λ x. x >>= λ c. all_named (files_in m) (unnamed (files_in m)) >>= λ right. loaded_image m c)
    (ap (λ (p : Option ℕ). inputs_of files (front_of (files_in m) p)) (sym is) ∙ read)
    ∙ ap (λ (p : Option ℕ). all_named (files_in m) p >>= λ right. loaded_image m contents) (sym is ∙ at)))
missing-at (end.Failed q) told rose m place k contents is at read count h = absurd h
missing-at end.NoMemory told rose m place k contents is at read count h = tt

pub name_missing : (e : ImageEnd) (told : Option Files) (rose : Type 0) (m : MapFile) (place : Option ℕ) (k : ℕ) (name : List ℕ) (contents : List (List ℕ))
    → place ≡ unnamed (files_in m) → place ≡ Some k → name ≡ slice_index_or (files_in m) k name
    → AreInputs told (front_of (files_in m) place) contents → length contents ≡ length (front_of (files_in m) place) → IsMissing name e → Ends told rose m e
name_missing e told rose m place k name contents is at it read count h =
    let there = position-Some has_zero (files_in m) k [] (sym is ∙ at) in
    missing-at e told rose m place k contents is at read count
    (subst (λ (n : List ℕ). IsMissing n e) (it ∙ any-default (files_in m) k name [] there.0) h)

-- all load files were read
given-all : (files : Files) (m : MapFile) (contents : List (List ℕ)) (place : Option ℕ) → place ≡ unnamed (files_in m) → place ≡ None
    → inputs_of files (front_of (files_in m) place) ≡ Ok contents → mapped_image m files ≡ loaded_image m contents
given-all files m contents place is none read =
    ap (λ x. x >>= λ c. all_named (files_in m) (unnamed (files_in m)) >>= λ right. loaded_image m c)
    (ap (λ (p : Option ℕ). inputs_of files (front_of (files_in m) p)) (sym is) ∙ read)
    ∙ ap (λ (p : Option ℕ). all_named (files_in m) p >>= λ right. loaded_image m contents) (sym is ∙ none)

pub loads_given : (told : Option Files) (rose : Type 0) (m : MapFile) (contents : List (List ℕ)) (place : Option ℕ) (read : Result Image Refusal)
    → place ≡ unnamed (files_in m) → place ≡ None → AreInputs told (front_of (files_in m) place) contents → length contents ≡ length (front_of (files_in m) place)
    → loaded_image m contents ≡ read → IsGiven (mapped_image m) (SomeLoads m) told rose (IsReached told (files_in m)) read
loads_given None rose m contents place read is none found count h = inl (some_loads m place None contents read is none count h)
loads_given (Some files) rose m contents place read is none found count h = sym (given-all files m contents place is none found ∙ h)

pub loads_refused : (e : Fault) (told : Option Files) (rose : Type 0) (m : MapFile) (contents : List (List ℕ)) (place : Option ℕ)
    → place ≡ unnamed (files_in m) → place ≡ None → AreInputs told (front_of (files_in m) place) contents → length contents ≡ length (front_of (files_in m) place)
    → Gives {A = Image} (Err e) (loaded_image m contents) → Ends told rose m (fault_end e)
loads_refused (fault.Refused r) told rose m contents place is none found count h = loads_given told rose m contents place (Err r) is none found count h
loads_refused (fault.ReadFault name) told rose m contents place is none found count h = absurd h
loads_refused fault.NoMemory told rose m contents place is none found count h = tt
