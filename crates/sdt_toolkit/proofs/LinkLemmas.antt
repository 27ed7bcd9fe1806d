-- What the files of a link make and ask for, and answers to it, by its ends.
use Rattle.std.proofs.Common.{◌≡◌, ℕ, List, [], length, Bool, true, false, Option, Some, None, Result, Ok, Err, refl, sym, subst, inl, inr}
use Rattle.sdt_fault.specs.declared.answer.Answer.{Answer}
use Rattle.sdt_fault.specs.declared.answer.Answer.TheVariants as answer
use Rattle.sdt_fault.specs.declared.answer.Fault.{Fault}
use Rattle.sdt_fault.specs.declared.answer.Fault.TheVariants as fault
use Rattle.sdt_fault.specs.declared.refusal.Refusal.{Refusal}
use Rattle.sdt_fault.specs.declared.refusal.Refusal.TheVariants.{Missing}
use Rattle.sdt_outside.specs.Counts.{Rose}
use Rattle.sdt_outside.specs.Files.{Files}
use Rattle.sdt_outside.specs.Sinks.{Got}
use Rattle.chunk_file.specs.Reading.{Gives}
use Rattle.elf_image.specs.declared.tables.Tables.{Tables}
use Rattle.link_model.specs.declared.images.Image.{Image}
use Rattle.link_model.specs.declared.selection.Named.{Named}
use Rattle.bin_image.specs.declared.records.OutFile.{OutFile}
use Rattle.armlink_core.specs.declared.naming.NamedImage.{NamedImage}
use Rattle.armlink_core.specs.Tables.{no_tables}
use Rattle.tool_words.specs.declared.command.Container.{Container}
use Rattle.tool_words.specs.declared.command.Container.TheVariants as container
use Rattle.tool_words.specs.Commands.{ComeTogether}
use Rattle.tool_words.specs.declared.command.LinkPlacement.{LinkPlacement}
use Rattle.tool_words.specs.declared.command.LinkPlacement.TheVariants as placement
use Rattle.tool_words.specs.declared.command.LinkWords.{LinkWords}
use Rattle.tool_answers.specs.declared.inputs.InputEnd.{InputEnd}
use Rattle.tool_answers.specs.declared.inputs.InputEnd.TheVariants as end
use Rattle.tool_answers.specs.Inputs.{AreInputs, InputsEnd}
use Rattle.tool_answers.specs.Outcomes.{Outcome, Outside, IsLeft}
use Rattle.tool_library.specs.declared.linkables.Linkable.{Linkable}
use Rattle.tool_library.specs.Libraries.{end_answer, fault_answer}
use Rattle.sdt_toolkit.specs.Inputs.{InputsAre, IsGot, Tells}
use Rattle.sdt_toolkit.specs.Reads.{Reads, HasFailed, TellsOf, reads_of}
use Rattle.sdt_toolkit.specs.Links.{AllWritten, FilesAsk, HasImage, HasNamedImage, ImageIs, InputsMake, LinkAnswers, LinkAsks, LinkMakes, ReadAsks, WordsAsk, filed, files_read, has_tables, inputs_in, outputs, text_in}

-- ---- what it makes

abbrev pub Makes : Reads → Bool → LinkWords → List (List ℕ) → Result (List OutFile) Fault → Type 0
Makes s sources w contents r = TellsOf s r (LinkMakes s sources w contents) (IsGot s.told sources w.names (inputs_in w.placement contents))

pub no_inputs : (s : Reads) (sources : Bool) (w : LinkWords) (contents : List (List ℕ)) (f : Fault)
    → TellsOf {A = List (Named Linkable)} s (Err f) (InputsAre s sources w.names (inputs_in w.placement contents)) (IsGot s.told sources w.names (inputs_in w.placement contents))
    → Makes s sources w contents (Err f)
no_inputs s sources w contents (fault.Refused r) h = record { inputs = Err r; judged = h; files = refl }
no_inputs s sources w contents (fault.ReadFault q) h = h
no_inputs s sources w contents fault.NoMemory h = tt

pub no_image_made : (w : LinkWords) (text : List ℕ) (inputs : List (Named Linkable)) (f : Fault) → Tells {A = Image} (Err f) (HasImage w.placement text w.ram inputs)
    → Tells {A = List OutFile} (Err f) (InputsMake w text (Ok inputs))
no_image_made w text inputs (fault.Refused r) h = (Err r, h.0, h.1, refl)
no_image_made w text inputs (fault.ReadFault q) h = h
no_image_made w text inputs fault.NoMemory h = tt

pub image_made : (w : LinkWords) (text : List ℕ) (inputs : List (Named Linkable)) (i : Image) (t : Tables) (r : Result (List OutFile) Fault) → ImageIs w.placement text w.ram inputs (Ok i) t → Gives r (filed w.container w.output t i)
    → Tells r (InputsMake w text (Ok inputs))
image_made w text inputs i t (Ok fs) is h = (Ok i, t, is, sym h)
image_made w text inputs i t (Err (fault.Refused r)) is h = (Ok i, t, is, sym h)
image_made w text inputs i t (Err (fault.ReadFault q)) is h = h
image_made w text inputs i t (Err fault.NoMemory) is h = tt

-- without tables the files are those with none
filed_without : (c : Container) (out : List ℕ) (t : Tables) (i : Image) → has_tables c ≡ false → filed c out no_tables i ≡ filed c out t i
filed_without container.LoadFiles out t i h = refl
filed_without (container.Elf false) out t i h = refl
filed_without (container.Elf true) out t i h = absurd (let bad : true ≡ false = h in cc)
filed_without container.Binary out t i h = refl
filed_without container.ImageFile out t i h = refl

pub plain_made : (w : LinkWords) (text : List ℕ) (inputs : List (Named Linkable)) (i : Image) (r : Result (List OutFile) Fault) → has_tables w.container ≡ false
    → HasImage w.placement text w.ram inputs (Ok i) → Gives r (filed w.container w.output no_tables i) → Tells r (InputsMake w text (Ok inputs))
plain_made w text inputs i r plain is h =
    image_made w text inputs i is.0 r is.1 (subst (λ (x : Result (List OutFile) Refusal). Gives r x) (filed_without w.container w.output is.0 i plain) h)

-- tables are those of a scatter image
pub is_scattered : (p : LinkPlacement) (c : Container) → has_tables c ≡ true → ComeTogether p c → (file : List ℕ) × (p ≡ placement.Scatter file) × (c ≡ container.Elf true)
is_scattered p container.LoadFiles h together = absurd (let bad : false ≡ true = h in cc)
is_scattered p (container.Elf false) h together = absurd (let bad : false ≡ true = h in cc)
is_scattered p container.Binary h together = absurd (let bad : false ≡ true = h in cc)
is_scattered p container.ImageFile h together = absurd (let bad : false ≡ true = h in cc)
is_scattered (placement.Scatter file) (container.Elf true) h together = (file, refl, refl)
is_scattered (placement.Plain base) (container.Elf true) h together = absurd together
is_scattered (placement.Aif base relocatable) (container.Elf true) h together = absurd together

module _ (w : LinkWords) (text : List ℕ) (inputs : List (Named Linkable)) (file : List ℕ) (scattered : w.placement ≡ placement.Scatter file) where
  pub named_is : (n : NamedImage) → HasNamedImage (placement.Scatter file) text w.ram inputs (Ok n) → ImageIs w.placement text w.ram inputs (Ok n.image) n.tables
  named_is n h = subst (λ (p : LinkPlacement). ImageIs p text w.ram inputs (Ok n.image) n.tables) (sym scattered) h

  pub named_made : (n : NamedImage) (r : Result (List OutFile) Fault) → w.container ≡ container.Elf true → HasNamedImage (placement.Scatter file) text w.ram inputs (Ok n)
      → Gives r (filed (container.Elf true) w.output n.tables n.image) → Tells r (InputsMake w text (Ok inputs))
  named_made n r elf h files =
      image_made w text inputs n.image n.tables r (named_is n h) (subst (λ (c : Container). Gives r (filed c w.output n.tables n.image)) (sym elf) files)

  pub no_named_made : (f : Fault) → Tells {A = NamedImage} (Err f) (HasNamedImage (placement.Scatter file) text w.ram inputs) → Tells {A = List OutFile} (Err f) (InputsMake w text (Ok inputs))
  no_named_made (fault.Refused r) h = let is = subst (λ (p : LinkPlacement). HasImage p text w.ram inputs (Err r)) (sym scattered) h in (Err r, is.0, is.1, refl)
  no_named_made (fault.ReadFault q) h = h
  no_named_made fault.NoMemory h = tt

pub inputs_made : (s : Reads) (sources : Bool) (w : LinkWords) (contents : List (List ℕ)) (inputs : List (Named Linkable)) (r : Result (List OutFile) Fault)
    → InputsAre s sources w.names (inputs_in w.placement contents) (Ok inputs) → Tells r (InputsMake w (text_in w.placement contents) (Ok inputs)) → Makes s sources w contents r
inputs_made s sources w contents inputs (Ok fs) judged h = record { inputs = Ok inputs; judged = judged; files = h }
inputs_made s sources w contents inputs (Err (fault.Refused r)) judged h = record { inputs = Ok inputs; judged = judged; files = h }
inputs_made s sources w contents inputs (Err (fault.ReadFault q)) judged h = absurd h
inputs_made s sources w contents inputs (Err fault.NoMemory) judged h = tt

-- ---- what is asked

contents_ask : (told : Option Files) (s : Reads) (sources : Bool) (w : LinkWords) (contents : List (List ℕ)) (asked : Result Outcome Refusal)
    → AreInputs told (files_read w) contents → length contents ≡ length (files_read w) → LinkAsks s sources w contents asked → FilesAsk told s sources w asked
contents_ask None s sources w contents asked read count asks = inl (contents, count, asks)
contents_ask (Some files) s sources w contents asked read count asks =
    subst (λ (x : Result (List (List ℕ)) Refusal). ReadAsks s sources w x asked) (sym read) asks

missing_asks : (told : Option Files) (s : Reads) (sources : Bool) (w : LinkWords) (name : List ℕ) → InputsEnd (end.Missing name) told (files_read w) (HasFailed s)
    → FilesAsk told s sources w (Err (Missing name))
missing_asks None s sources w name h = inr (name, refl, h.0, h.1)
missing_asks (Some files) s sources w name h =
    subst (λ (x : Result (List (List ℕ)) Refusal). ReadAsks s sources w x (Err (Missing name))) (sym h) refl

-- ---- answers

pub unread : (e : InputEnd) (sources : Bool) (w : LinkWords) (o : Outside) → InputsEnd e o.before (files_read w) (Rose o.reads o.reads_now) → IsLeft o
    → LinkAnswers sources w o (end_answer e)
unfolding LinkAnswers
unread (end.Missing name) sources w o h left =
    (Err (Missing name), missing_asks o.before (reads_of o) sources w name h, (refl, left))
unread (end.Failed name) sources w o h left = (h.0, inl h.1, left)
unread end.NoMemory sources w o h left = inl left

pub refused : (f : Fault) (sources : Bool) (w : LinkWords) (contents : List (List ℕ)) (o : Outside) → AreInputs o.before (files_read w) contents → length contents ≡ length (files_read w)
    → Makes (reads_of o) sources w contents (Err f) → IsLeft o → LinkAnswers sources w o (fault_answer f)
unfolding LinkAnswers
refused (fault.Refused r) sources w contents o read count h left =
    let asks : LinkAsks (reads_of o) sources w contents (Err r) = record { made = Err r; makes = h; outcome = refl } in
    (Err r, contents_ask o.before (reads_of o) sources w contents (Err r) read count asks, (refl, left))
refused (fault.ReadFault q) sources w contents o read count h left = (h.0, inr (contents, read, h.1), left)
refused fault.NoMemory sources w contents o read count h left = inl left

all_of : List OutFile → Outcome
all_of fs = record { files = outputs fs; prints = [] }

all_asked : (s : Reads) (sources : Bool) (w : LinkWords) (contents : List (List ℕ)) (fs : List OutFile) → AreInputs s.told (files_read w) contents
    → length contents ≡ length (files_read w) → Makes s sources w contents (Ok fs) → WordsAsk s sources w (Ok (all_of fs))
unfolding all_of
all_asked s sources w contents fs read count h =
    contents_ask s.told s sources w contents (Ok (all_of fs)) read count (record { made = Ok fs; makes = h; outcome = refl })

by_answer : (a : Answer) (sources : Bool) (w : LinkWords) (fs : List OutFile) (o : Outside) → WordsAsk (reads_of o) sources w (Ok (all_of fs))
    → Got o.printed o.prints [] → o.prints ≡ o.printed → AllWritten (outputs fs) o.before o.after (Rose o.writes o.writes_now) a → LinkAnswers sources w o a
unfolding all_of LinkAnswers
by_answer answer.Done sources w fs o asked got same k = (Ok (all_of fs), asked, (all_of fs, refl, k, got))
by_answer (answer.WriteFault q) sources w fs o asked got same k = (Ok (all_of fs), asked, (k.0, (all_of fs, refl, k.1), same))
by_answer answer.NoMemory sources w fs o asked got same k = inr (Ok (all_of fs), asked, inl (all_of fs, refl, k, same))
by_answer (answer.Refused r) sources w fs o asked got same k = absurd k
by_answer (answer.ReadFault q) sources w fs o asked got same k = absurd k
by_answer answer.SinkFault sources w fs o asked got same k = absurd k
by_answer (answer.Stopped stop) sources w fs o asked got same k = absurd k

pub wrote : (a : Answer) (sources : Bool) (w : LinkWords) (contents : List (List ℕ)) (fs : List OutFile) (o : Outside) → AreInputs o.before (files_read w) contents
    → length contents ≡ length (files_read w) → Makes (reads_of o) sources w contents (Ok fs) → Got o.printed o.prints [] → o.prints ≡ o.printed
    → AllWritten (outputs fs) o.before o.after (Rose o.writes o.writes_now) a → LinkAnswers sources w o a
wrote a sources w contents fs o read count h got same written =
    by_answer a sources w fs o (all_asked (reads_of o) sources w contents fs read count h) got same written
