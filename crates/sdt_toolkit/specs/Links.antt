-- What the commands `link` and `build` make of files: the files of an image, or the first refusal, and what each answer
-- says and leaves (SDT 2.50 Reference Guide, armlink; the order of refusals, and that `build` assembles the sources among
-- its inputs, are this project's).
use Rattle.std.specs.Prelude.{◌≡◌, ◌⊎◌, ℕ, ◌+◌, ◌^◌, ◌<◌, ◌≤◌, nat_le, Bool, true, false, if◌then◌else◌}
use Rattle.std.specs.Prelude.{List, [], ◌∷◌, length, map, Option, Some, None, Result, Ok, Err}
use Rattle.std.specs.List.{list_any, AllByRecursion}
use Rattle.sdt_word.specs.declared.ranges.Range32.{Range32}
use Rattle.sdt_fault.specs.declared.answer.Answer.{Answer}
use Rattle.sdt_fault.specs.declared.answer.Answer.TheVariants as answer
use Rattle.sdt_fault.specs.declared.kinds.Quantity.TheVariants.{FileBytes}
use Rattle.sdt_fault.specs.declared.refusal.Refusal.{Refusal}
use Rattle.sdt_fault.specs.declared.refusal.Refusal.TheVariants.{TooLarge}
use Rattle.sdt_outside.specs.Counts.{Rose}
use Rattle.sdt_outside.specs.Files.{Files}
use Rattle.chunk_file.specs.Reading.{◌>>=◌}
use Rattle.aof_object.specs.declared.records.Object.{Object}
use Rattle.alf_archive.specs.declared.records.Archive.{Archive}
use Rattle.aif_image.specs.Files.{aif_file}
use Rattle.link_model.specs.declared.images.Image.{Image}
use Rattle.link_model.specs.declared.images.LoadRegion.{LoadRegion}
use Rattle.link_model.specs.declared.selection.Named.{Named}
use Rattle.link_model.specs.Chosen.{AreLinked}
use Rattle.boot_code.specs.Boots.{ByteMap}
use Rattle.place_model.specs.declared.scatter.Kind.{Kind}
use Rattle.place_model.specs.declared.scatter.Kind.TheVariants as kind
use Rattle.place_model.specs.declared.scatter.Scatter.{Scatter}
use Rattle.scatter_text.specs.Reading.{scatter_of}
use Rattle.armlink_core.specs.declared.naming.NamedImage.{NamedImage}
use Rattle.armlink_core.specs.Images.{linking, scatter_linking}
use Rattle.armlink_core.specs.Tables.{link_tables, named_scatter, scatter_tables}
use Rattle.bin_image.specs.declared.records.OutFile.{OutFile}
use Rattle.bin_image.specs.Files.{binary_file, load_files}
use Rattle.elf_image.specs.declared.tables.Tables.{Tables}
use Rattle.elf_image.specs.Files.{elf_file}
use Rattle.elf_image.specs.Tables.{named_file}
use Rattle.tool_words.specs.declared.command.Bank.{Bank}
use Rattle.tool_words.specs.declared.command.Container.{Container}
use Rattle.tool_words.specs.declared.command.Container.TheVariants as container
use Rattle.tool_words.specs.declared.command.LinkPlacement.{LinkPlacement}
use Rattle.tool_words.specs.declared.command.LinkPlacement.TheVariants as placement
use Rattle.tool_words.specs.declared.command.LinkWords.{LinkWords}
use Rattle.tool_answers.specs.Inputs.{AreInputs, inputs_of, IsReached}
use Rattle.tool_answers.specs.Outcomes.{Outcome, Outside, AreWritten, FailsAt, IsCutShort, IsLeft, IsLost, Says, unprinted}
use Rattle.tool_library.specs.declared.linkables.Linkable.{Linkable}
use Rattle.tool_run.specs.Openings.{AreRanges}
use Rattle.sdt_toolkit.specs.Inputs.{InputsAre, IsGot, objects_among, archives_among}
use Rattle.sdt_toolkit.specs.Reads.{Reads, HasFailed, reads_of}
use Rattle.sdt_toolkit.specs.Plans.{IsPlacedAs}

-- ---- what is read, by the placement: the scatter file first, if there is one, and then the names

abbrev pub read_by : LinkPlacement → List (List ℕ) → List (List ℕ)
read_by (placement.Scatter file) names = file ∷ names
read_by (placement.Aif base relocatable) names = names
read_by (placement.Plain base) names = names

abbrev pub files_read : LinkWords → List (List ℕ)
files_read w = read_by w.placement w.names

abbrev pub first_of : List (List ℕ) → List ℕ
first_of [] = []
first_of (bytes ∷ others) = bytes

abbrev pub behind_first : List (List ℕ) → List (List ℕ)
behind_first [] = []
behind_first (bytes ∷ others) = others

-- the scatter file's text, and what stands under the names
abbrev pub text_in : LinkPlacement → List (List ℕ) → List ℕ
text_in (placement.Scatter file) contents = first_of contents
text_in (placement.Aif base relocatable) contents = []
text_in (placement.Plain base) contents = []

abbrev pub inputs_in : LinkPlacement → List (List ℕ) → List (List ℕ)
inputs_in (placement.Scatter file) contents = behind_first contents
inputs_in (placement.Aif base relocatable) contents = contents
inputs_in (placement.Plain base) contents = contents

-- ---- the image, by the placement

-- the ranges that can be written, where they are told
abbrev pub IsRam : Option (List Bank) → Option (List Range32) → Type 0
IsRam None ram = ram ≡ None
IsRam (Some banks) ram = (ranges : List Range32) × AreRanges banks ranges × (ram ≡ Some ranges)

abbrev pub ScattersTo : List ℕ → Option (List Bank) → List (Named Object) → Result Image Refusal → Type 0
ScattersTo text banks os image = (ram : Option (List Range32)) × IsRam banks ram × (image ≡ scatter_linking text ram os)

abbrev pub AsAif : ℕ → Bool → Option (List Bank) → List (Named Object) → Result Image Refusal → Type 0
AsAif base relocatable banks os image =
    (ram : Option (List Range32)) × IsRam banks ram × (image ≡ linking (kind.Aif base relocatable) ram os)

abbrev pub LinksTo : LinkPlacement → List ℕ → Option (List Bank) → List (Named Object) → Result Image Refusal → Type 0
LinksTo (placement.Scatter file) text banks os image = ScattersTo text banks os image
LinksTo (placement.Aif base relocatable) text banks os image = AsAif base relocatable banks os image
LinksTo (placement.Plain base) text banks os image = image ≡ linking (kind.Plain base) None os

-- the sections and symbols of its link
abbrev pub TablesTo : LinkPlacement → List ℕ → Option (List Bank) → List (Named Object) → Tables → Type 0
TablesTo (placement.Scatter file) text banks os t = (ram : Option (List Range32)) × IsRam banks ram × (t ≡ scatter_tables text ram os)
TablesTo (placement.Aif base relocatable) text banks os t =
    (ram : Option (List Range32)) × IsRam banks ram × (t ≡ link_tables (kind.Aif base relocatable) ram os)
TablesTo (placement.Plain base) text banks os t = t ≡ link_tables (kind.Plain base) None os

-- the kind of image that the words ask for, by the scatter file's text, and the ranges that it may write
abbrev pub IsAskedAs : LinkPlacement → List ℕ → Option (List Bank) → Kind → Option (List Range32) → Type 0
IsAskedAs (placement.Scatter file) text banks k ram = (s : Scatter) × (scatter_of text ≡ Ok s) × (k ≡ kind.Scatter s) × IsRam banks ram
IsAskedAs (placement.Aif base relocatable) text banks k ram = (k ≡ kind.Aif base relocatable) × IsRam banks ram
IsAskedAs (placement.Plain base) text banks k ram = (k ≡ kind.Plain base) × (ram ≡ None)

-- its objects were placed by one plan, with a view wherever the image is put
pub record IsInMemory (f : LinkPlacement) (text : List ℕ) (banks : Option (List Bank)) (os : List (Named Object)) (i : Image) : Type 0 where
  pub shape : Kind
  pub ram : Option (List Range32)
  pub asked : IsAskedAs f text banks shape ram
  pub views : ℕ → ByteMap
  pub placed : IsPlacedAs shape ram os i views

-- the image of inputs, and the tables of its link: of the objects among them, and the members of the libraries among them that
-- are needed
pub record ImageIs (f : LinkPlacement) (text : List ℕ) (banks : Option (List Bank)) (inputs : List (Named Linkable))
    (image : Result Image Refusal) (tables : Tables) : Type 0 where
  pub objects : List (Named Object)
  pub linked : AreLinked (objects_among inputs) (archives_among inputs) objects
  pub links : LinksTo f text banks objects image
  pub named : TablesTo f text banks objects tables
  pub memory : (i : Image) → image ≡ Ok i → IsInMemory f text banks objects i

-- with tables that aren't told, and with those that are
abbrev pub HasImage : LinkPlacement → List ℕ → Option (List Bank) → List (Named Linkable) → Result Image Refusal → Type 0
HasImage f text banks inputs image = (tables : Tables) × ImageIs f text banks inputs image tables

abbrev pub HasNamedImage : LinkPlacement → List ℕ → Option (List Bank) → List (Named Linkable) → Result NamedImage Refusal → Type 0
HasNamedImage f text banks inputs (Ok n) = ImageIs f text banks inputs (Ok n.image) n.tables
HasNamedImage f text banks inputs (Err r) = HasImage f text banks inputs (Err r)

abbrev pub IsScatterImage : List (Named Object) → List (Named Archive) → List ℕ → Option (List Bank) → Result Image Refusal → Type 0
IsScatterImage objects archives text banks image =
    (os : List (Named Object)) × AreLinked objects archives os × ScattersTo text banks os image

abbrev pub IsNamedScatter : List (Named Object) → List (Named Archive) → List ℕ → Option (List Bank) → Result NamedImage Refusal → Type 0
IsNamedScatter objects archives text banks named =
    (os : List (Named Object)) × AreLinked objects archives os × (ram : Option (List Range32)) × IsRam banks ram
    × (named ≡ named_scatter text ram os)

abbrev pub IsAifImage : List (Named Object) → List (Named Archive) → ℕ → Bool → Option (List Bank) → Result Image Refusal → Type 0
IsAifImage objects archives base relocatable banks image =
    (os : List (Named Object)) × AreLinked objects archives os × AsAif base relocatable banks os image

-- ---- the files, by the container

abbrev pub too_large : Refusal
too_large = TooLarge FileBytes 0xFFFFFFFF

abbrev pub is_long_load : LoadRegion → Bool
is_long_load l = nat_le (2 ^ 32) (length l.bytes)

abbrev pub is_long : OutFile → Bool
is_long f = nat_le (2 ^ 32) (length f.bytes)

abbrev pub one_file : List ℕ → List ℕ → List OutFile
one_file out bytes = (record { name = out; bytes = bytes }) ∷ []

-- what is written of an image: a file for each load region and the map, or one file, which has the tables where these are asked for
abbrev pub image_files : Container → List ℕ → Tables → Image → List OutFile
image_files container.LoadFiles out t i = load_files i out
image_files (container.Elf false) out t i = one_file out (elf_file i)
image_files (container.Elf true) out t i = one_file out (named_file i t)
image_files container.Binary out t i = one_file out (binary_file i)
image_files container.ImageFile out t i = one_file out (aif_file i)

-- files, unless one of them has 2^32 bytes or more
abbrev pub unless_long : List OutFile → Result (List OutFile) Refusal
unless_long fs = if list_any is_long fs then Err too_large else Ok fs

abbrev pub filed : Container → List ℕ → Tables → Image → Result (List OutFile) Refusal
filed c out t i = unless_long (image_files c out t i)

-- these are asked for
abbrev pub has_tables : Container → Bool
has_tables (container.Elf symbols) = symbols
has_tables other = false

-- an ELF file counts the load regions by a half-word
abbrev pub AreCounted : Container → List LoadRegion → Type 0
AreCounted (container.Elf symbols) loads = length loads < 2 ^ 16
AreCounted other loads = Unit {0}

-- an image whose regions have 64 MiB at most, and no more of them than its container counts
pub record IsWritable (c : Container) (i : Image) : Type 0 where
  pub regions : AllByRecursion (λ r. r.length + r.zero ≤ 2 ^ 26) i.regions
  pub loads : AreCounted c i.loads

abbrev pub InputsMake : LinkWords → List ℕ → Result (List (Named Linkable)) Refusal → Result (List OutFile) Refusal → Type 0
InputsMake w text (Err r) made = made ≡ Err r
InputsMake w text (Ok inputs) made =
    (image : Result Image Refusal) × (tables : Tables) × ImageIs w.placement text w.ram inputs image tables
    × (made ≡ (image >>= filed w.container w.output tables))

-- what the files that are read make
pub record LinkMakes (s : Reads) (sources : Bool) (w : LinkWords) (contents : List (List ℕ))
    (made : Result (List OutFile) Refusal) : Type 0 where
  pub inputs : Result (List (Named Linkable)) Refusal
  pub judged : InputsAre s sources w.names (inputs_in w.placement contents) inputs
  pub files : InputsMake w (text_in w.placement contents) inputs made

abbrev pub outputs : List OutFile → List (List ℕ × List ℕ)
outputs fs = map {B = List ℕ × List ℕ} (λ f. (f.name, f.bytes)) fs

abbrev pub writes_all : List OutFile → Result Outcome Refusal
writes_all fs = Ok (record { files = outputs fs; prints = [] })

-- what they ask for
pub record LinkAsks (s : Reads) (sources : Bool) (w : LinkWords) (contents : List (List ℕ)) (asked : Result Outcome Refusal) : Type 0 where
  pub made : Result (List OutFile) Refusal
  pub makes : LinkMakes s sources w contents made
  pub outcome : asked ≡ (made >>= writes_all)

-- ---- files

abbrev pub ReadAsks : Reads → Bool → LinkWords → Result (List (List ℕ)) Refusal → Result Outcome Refusal → Type 0
ReadAsks s sources w (Err r) asked = asked ≡ Err r
ReadAsks s sources w (Ok contents) asked = LinkAsks s sources w contents asked

-- what the store's files ask for; where it doesn't tell them, what some contents of them ask for, or one is missing, for
-- which a read failed
abbrev pub FilesAsk : Option Files → Reads → Bool → LinkWords → Result Outcome Refusal → Type 0
FilesAsk None s sources w asked =
    ((contents : List (List ℕ)) × (length contents ≡ length (files_read w)) × LinkAsks s sources w contents asked)
    ⊎ IsLost (files_read w) (HasFailed s) asked
FilesAsk (Some files) s sources w asked = ReadAsks s sources w (inputs_of files (files_read w)) asked

abbrev pub WordsAsk : Reads → Bool → LinkWords → Result Outcome Refusal → Type 0
WordsAsk s sources w asked = FilesAsk s.told s sources w asked

-- ---- answers

-- the files were written in order, or some of them, and why no more
abbrev pub AllWritten : List (List ℕ × List ℕ) → Option Files → Option Files → Type 0 → Answer → Type 0
AllWritten fs before after rose answer.Done = AreWritten before after fs
AllWritten fs before after rose (answer.WriteFault name) = rose × FailsAt before after fs name
AllWritten fs before after rose answer.NoMemory = IsCutShort before after fs
AllWritten fs before after rose other = ⊥

abbrev pub LinkSays : Bool → LinkWords → Outside → Answer → Type 0
LinkSays sources w o a =
    (asked : Result Outcome Refusal) × WordsAsk (reads_of o) sources w asked × Says asked (files_read w) o a

-- the file whose read may fail: one that the words name, or, where all these were read, one that a source gets
abbrev pub MayFail : Bool → LinkWords → Option Files → List ℕ → Type 0
MayFail sources w told name =
    IsReached told (files_read w) name ⊎ ((contents : List (List ℕ)) × AreInputs told (files_read w) contents
    × IsGot told sources w.names (inputs_in w.placement contents) name)

-- the answer to a link, and to a build, where sources are taken: where a read failed, nothing is told of the inputs and
-- nothing is written; where memory was refused, either nothing is written, or a beginning of what the inputs ask for
unfoldable pub LinkAnswers : Bool → LinkWords → Outside → Answer → Type 0
LinkAnswers sources w o (answer.ReadFault name) = Rose o.reads o.reads_now × MayFail sources w o.before name × IsLeft o
LinkAnswers sources w o answer.NoMemory = IsLeft o ⊎ LinkSays sources w o answer.NoMemory
LinkAnswers sources w o a = LinkSays sources w o a

-- the same over the files and counts of a store and beside any sink, of which it prints nothing
abbrev pub LinkAnswersOver : Bool → LinkWords → Option Files → Option Files → ℕ → ℕ → ℕ → ℕ → Answer → Type 0
LinkAnswersOver sources w before after reads reads_now writes writes_now a =
    (printed : Option (List ℕ)) (faults : ℕ)
    → LinkAnswers sources w (unprinted printed faults before after reads reads_now writes writes_now) a

-- files ask for one thing
abbrev pub OneLinkAsked : Type 0
OneLinkAsked =
    (s : Reads) (sources : Bool) (w : LinkWords) (files : Files) (a b : Result Outcome Refusal) → s.told ≡ Some files
    → WordsAsk s sources w a → WordsAsk s sources w b → a ≡ b
