-- What the command `report` prints: where everything of a link went, as a text over the plan by which the headline places the image
-- of that link, or the first refusal of that link; and what each answer says and leaves. Names of sources are those of `build`. This
-- project's.
use Rattle.std.specs.Prelude.{◌≡◌, ◌⊎◌, ℕ, List, length, true, Option, Some, None, Result, Ok, Err}
use Rattle.sdt_word.specs.declared.ranges.Range32.{Range32}
use Rattle.sdt_fault.specs.declared.answer.Answer.{Answer}
use Rattle.sdt_fault.specs.declared.answer.Answer.TheVariants as answer
use Rattle.sdt_fault.specs.declared.refusal.Refusal.{Refusal}
use Rattle.sdt_outside.specs.Counts.{Rose}
use Rattle.sdt_outside.specs.Files.{Files}
use Rattle.chunk_file.specs.Reading.{◌>>=◌}
use Rattle.aof_object.specs.declared.records.Object.{Object}
use Rattle.alf_archive.specs.declared.records.Archive.{Archive}
use Rattle.link_model.specs.declared.images.Image.{Image}
use Rattle.link_model.specs.declared.selection.Named.{Named}
use Rattle.link_model.specs.Chosen.{AreLinked}
use Rattle.place_model.specs.declared.scatter.Kind.TheVariants as kind
use Rattle.link_report.specs.Reports.{report_text}
use Rattle.armlink_core.specs.declared.placing.PlacedLink.{PlacedLink}
use Rattle.armlink_core.specs.Placing.{placed_link, placed_scatter}
use Rattle.armlink_core.specs.Reports.{report_made}
use Rattle.tool_words.specs.declared.command.Bank.{Bank}
use Rattle.tool_words.specs.declared.command.LinkPlacement.{LinkPlacement}
use Rattle.tool_words.specs.declared.command.LinkPlacement.TheVariants as placement
use Rattle.tool_words.specs.declared.command.ReportWords.{ReportWords}
use Rattle.tool_answers.specs.Inputs.{AreInputs, inputs_of, IsReached}
use Rattle.tool_answers.specs.Outcomes.{Outcome, Outside, IsLeft, IsLost, Says, prints_only}
use Rattle.tool_library.specs.declared.linkables.Linkable.{Linkable}
use Rattle.sdt_toolkit.specs.Inputs.{InputsAre, IsGot, objects_among, archives_among}
use Rattle.sdt_toolkit.specs.Links.{IsInMemory, IsRam, LinksTo, inputs_in, read_by, text_in}
use Rattle.sdt_toolkit.specs.Reads.{Reads, HasFailed, reads_of}

-- ---- the text, by the placement

-- a link that is placed; an image of bytes alone is told no ranges that it may write
abbrev pub placed_as : LinkPlacement → List ℕ → Option (List Range32) → List (Named Object) → Result PlacedLink Refusal
placed_as (placement.Scatter file) text ram os = placed_scatter text ram os
placed_as (placement.Aif base relocatable) text ram os = placed_link (kind.Aif base relocatable) ram os
placed_as (placement.Plain base) text ram os = placed_link (kind.Plain base) None os

abbrev pub report_as : LinkPlacement → List ℕ → Option (List Range32) → ℕ → List (Named Object) → Result (List ℕ) Refusal
report_as f text ram given os = placed_as f text ram os >>= report_made given

-- of objects that are linked of these, which are so many
abbrev pub IsReport : List (Named Object) → List (Named Archive) → LinkPlacement → List ℕ → Option (List Bank)
    → Result (List ℕ) Refusal → Type 0
IsReport objects archives f text banks report =
    (os : List (Named Object)) × AreLinked objects archives os × (ram : Option (List Range32)) × IsRam banks ram
    × (report ≡ report_as f text ram (length objects) os)

-- a text tells of the plan by which the image of these objects is placed; so many of them as are given are inputs
pub record TellsPlan (f : LinkPlacement) (text : List ℕ) (banks : Option (List Bank)) (os : List (Named Object)) (given : ℕ)
    (told : List ℕ) : Type 0 where
  pub image : Image
  pub links : LinksTo f text banks os (Ok image)
  pub memory : IsInMemory f text banks os image
  pub tells : told ≡ report_text memory.shape given memory.placed.link memory.placed.placement

-- the report of inputs: its text tells of the plan of their image, and it is refused just where that image is
pub record ReportIs (f : LinkPlacement) (text : List ℕ) (banks : Option (List Bank)) (inputs : List (Named Linkable))
    (report : Result (List ℕ) Refusal) : Type 0 where
  pub objects : List (Named Object)
  pub linked : AreLinked (objects_among inputs) (archives_among inputs) objects
  pub ram : Option (List Range32)
  pub writable : IsRam banks ram
  pub made : report ≡ report_as f text ram (length (objects_among inputs)) objects
  pub plan : (told : List ℕ) → report ≡ Ok told → TellsPlan f text banks objects (length (objects_among inputs)) told
  pub refused : (r : Refusal) → report ≡ Err r → LinksTo f text banks objects (Err r)

-- ---- what is asked

abbrev pub report_reads : ReportWords → List (List ℕ)
report_reads w = read_by w.placement w.names

abbrev pub InputsReport : ReportWords → List ℕ → Result (List (Named Linkable)) Refusal → Result (List ℕ) Refusal → Type 0
InputsReport w text (Err r) report = report ≡ Err r
InputsReport w text (Ok inputs) report = ReportIs w.placement text w.ram inputs report

-- what the files that are read report
pub record Reports (s : Reads) (w : ReportWords) (contents : List (List ℕ)) (report : Result (List ℕ) Refusal) : Type 0 where
  pub inputs : Result (List (Named Linkable)) Refusal
  pub judged : InputsAre s true w.names (inputs_in w.placement contents) inputs
  pub told : InputsReport w (text_in w.placement contents) inputs report

abbrev pub prints_text : List ℕ → Result Outcome Refusal
prints_text text = Ok (prints_only text)

-- what they ask for
pub record ReportAsks (s : Reads) (w : ReportWords) (contents : List (List ℕ)) (asked : Result Outcome Refusal) : Type 0 where
  pub report : Result (List ℕ) Refusal
  pub reports : Reports s w contents report
  pub outcome : asked ≡ (report >>= prints_text)

abbrev pub ReadAsks : Reads → ReportWords → Result (List (List ℕ)) Refusal → Result Outcome Refusal → Type 0
ReadAsks s w (Err r) asked = asked ≡ Err r
ReadAsks s w (Ok contents) asked = ReportAsks s w contents asked

-- what the store's files ask for; where it doesn't tell them, what some contents of them ask for, or one is missing, for
-- which a read failed
abbrev pub FilesAsk : Option Files → Reads → ReportWords → Result Outcome Refusal → Type 0
FilesAsk None s w asked =
    ((contents : List (List ℕ)) × (length contents ≡ length (report_reads w)) × ReportAsks s w contents asked)
    ⊎ IsLost (report_reads w) (HasFailed s) asked
FilesAsk (Some files) s w asked = ReadAsks s w (inputs_of files (report_reads w)) asked

abbrev pub ReportAsked : Reads → ReportWords → Result Outcome Refusal → Type 0
ReportAsked s w asked = FilesAsk s.told s w asked

-- ---- answers

-- the file whose read may fail: one that the words name, or, where all these were read, one that a source gets
abbrev pub MayFail : ReportWords → Option Files → List ℕ → Type 0
MayFail w told name =
    IsReached told (report_reads w) name ⊎ ((contents : List (List ℕ)) × AreInputs told (report_reads w) contents
    × IsGot told true w.names (inputs_in w.placement contents) name)

abbrev pub ReportSays : ReportWords → Outside → Answer → Type 0
ReportSays w o a = (asked : Result Outcome Refusal) × ReportAsked (reads_of o) w asked × Says asked (report_reads w) o a

-- the answer to a report, which writes nothing: where a read failed or memory was refused, nothing is told of the inputs and nothing
-- is printed
unfoldable pub ReportAnswers : ReportWords → Outside → Answer → Type 0
ReportAnswers w o (answer.ReadFault name) = Rose o.reads o.reads_now × MayFail w o.before name × IsLeft o
ReportAnswers w o answer.NoMemory = IsLeft o
ReportAnswers w o a = ReportSays w o a

-- files ask for one thing
abbrev pub OneReportAsked : Type 0
OneReportAsked =
    (s : Reads) (w : ReportWords) (files : Files) (a b : Result Outcome Refusal) → s.told ≡ Some files
    → ReportAsked s w a → ReportAsked s w b → a ≡ b
