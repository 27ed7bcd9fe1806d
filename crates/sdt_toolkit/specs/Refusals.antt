-- What a refusal of `link`, `build` and `report` says, in the order in which refusals are told: of the files, of the linked objects'
-- names, of the regions of their areas, and of their plan (SDT 2.50 Reference Guide, armlink and scatter loading; the order is this
-- project's).
use Rattle.std.specs.Prelude.{◌≡◌, ◌⊎◌, ℕ, ◌<◌, Bool, true, false, List, Option, Some, None, Result, Ok, Err}
use Rattle.sdt_word.specs.declared.ranges.Range32.{Range32}
use Rattle.sdt_fault.specs.declared.answer.Answer.{Answer}
use Rattle.sdt_fault.specs.declared.answer.Answer.TheVariants as answer
use Rattle.sdt_fault.specs.declared.refusal.Refusal.{Refusal}
use Rattle.sdt_outside.specs.Files.{Files}
use Rattle.chunk_file.specs.Reading.{◌>>=◌}
use Rattle.aof_object.specs.declared.records.Object.{Object}
use Rattle.place_model.specs.declared.scatter.Kind.{Kind}
use Rattle.link_model.specs.declared.images.Image.{Image}
use Rattle.link_model.specs.declared.placing.Assigned.{Assigned}
use Rattle.link_model.specs.declared.placing.Placement.{Placement}
use Rattle.link_model.specs.declared.placing.Veneer.{Veneer}
use Rattle.link_model.specs.declared.selection.Linked.{Linked}
use Rattle.link_model.specs.declared.selection.Named.{Named}
use Rattle.link_model.specs.Chosen.{AreLinked}
use Rattle.link_items.specs.LinkedItems.{contents_of, has_header}
use Rattle.link_assign.specs.Assigning.{assignment_of}
use Rattle.link_select.specs.Selection.{selection_of}
use Rattle.elf_image.specs.declared.tables.Tables.{Tables}
use Rattle.link_refusals.specs.Refusals.{FirstHomeless, SaysOfNames, SaysOfPlan}
use Rattle.link_veneer.specs.Planning.{planned_veneers}
use Rattle.link_place.specs.Placed.{placed}
use Rattle.link_laws.specs.Placing.{link_plan}
use Rattle.scatter_text.specs.Reading.{scatter_of}
use Rattle.armlink_core.specs.Images.{image_made}
use Rattle.armlink_core.specs.Linking.{made_at, symbols_of}
use Rattle.tool_answers.specs.Inputs.{inputs_of}
use Rattle.tool_library.specs.declared.linkables.Linkable.{Linkable}
use Rattle.tool_words.specs.declared.command.Bank.{Bank}
use Rattle.tool_words.specs.declared.command.Command.{Command}
use Rattle.tool_words.specs.declared.command.Command.TheVariants as command
use Rattle.tool_words.specs.declared.command.LinkPlacement.{LinkPlacement}
use Rattle.tool_words.specs.declared.command.LinkPlacement.TheVariants as placement
use Rattle.tool_words.specs.declared.command.LinkWords.{LinkWords}
use Rattle.tool_words.specs.declared.command.ReportWords.{ReportWords}
use Rattle.tool_answers.specs.Outcomes.{Outside}
use Rattle.sdt_toolkit.specs.Inputs.{InputsAre, archives_among, objects_among}
use Rattle.sdt_toolkit.specs.Links.{IsAskedAs, LinksTo, TablesTo, filed, files_read, inputs_in, text_in}
use Rattle.sdt_toolkit.specs.Reads.{Reads, reads_of}
use Rattle.sdt_toolkit.specs.Reports.{report_reads}

-- ---- linked objects

-- the plan is refused, or else the relocations are
abbrev pub SaysOfVeneers : Kind → Option (List Range32) → Linked → Assigned → List Veneer → Refusal → Type 0
SaysOfVeneers k ram l a vs r =
    SaysOfPlan k ram (link_plan k l a.regions vs) r
    ⊎ ((p : Placement) × (placed k ram (contents_of l.objects a.regions vs) ≡ Ok p) × ((made_at l a vs p >>= image_made k) ≡ Err r))

-- a branch needs a veneer that it can't have, or else the plan or the relocations are refused
abbrev pub SaysOfAreas : Kind → Option (List Range32) → Linked → Assigned → Refusal → Type 0
SaysOfAreas k ram l a r =
    (planned_veneers l a (has_header k) ≡ Err r)
    ⊎ ((vs : List Veneer) × (planned_veneers l a (has_header k) ≡ Ok vs) × SaysOfVeneers k ram l a vs r)

abbrev pub SaysOfLink : Kind → Option (List Range32) → Linked → Refusal → Type 0
SaysOfLink k ram l r =
    FirstHomeless k l.objects r
    ⊎ ((a : Assigned) × (assignment_of k l.objects ≡ Ok a) × SaysOfAreas k ram l a r)

-- objects that were linked as an image of this kind
abbrev pub SaysOfObjects : Kind → Option (List Range32) → List (Named Object) → Refusal → Type 0
SaysOfObjects k ram os r =
    SaysOfNames (Some (symbols_of k)) os r
    ⊎ ((l : Linked) × (selection_of (Some (symbols_of k)) os ≡ Ok l) × SaysOfLink k ram l r)

-- or by a description that can't be read, which is told where all names, and any of a region symbol's form, have a meaning
abbrev pub SaysOfText : List ℕ → List (Named Object) → Refusal → Type 0
SaysOfText text os r =
    (wrong : Refusal) × (scatter_of text ≡ Err wrong)
    × (SaysOfNames None os r ⊎ ((l : Linked) × (selection_of None os ≡ Ok l) × (r ≡ wrong)))

-- ---- the clause of the top call

-- what the linked objects are refused for, by the placement that the words ask for
abbrev pub SaysOfPlaced : LinkPlacement → List ℕ → Option (List Bank) → List (Named Object) → Refusal → Type 0
SaysOfPlaced form text banks os r =
    ((k : Kind) × (ram : Option (List Range32)) × IsAskedAs form text banks k ram × SaysOfObjects k ram os r)
    ⊎ ((file : List ℕ) × (form ≡ placement.Scatter file) × SaysOfText text os r)

-- or a file of their image would have 2^32 bytes or more
abbrev pub IsLongImage : LinkWords → List ℕ → List (Named Object) → Refusal → Type 0
IsLongImage w text os r =
    (i : Image) × (t : Tables) × LinksTo w.placement text w.ram os (Ok i) × TablesTo w.placement text w.ram os t
    × (filed w.container w.output t i ≡ Err r)

-- the inputs were read, and the link of their objects is refused, or the files of its image are
pub record IsLinkRefused (s : Reads) (sources : Bool) (w : LinkWords) (contents : List (List ℕ)) (r : Refusal) : Type 0 where
  pub inputs : List (Named Linkable)
  pub objects : List (Named Object)
  pub judged : InputsAre s sources w.names (inputs_in w.placement contents) (Ok inputs)
  pub linked : AreLinked (objects_among inputs) (archives_among inputs) objects
  pub says : SaysOfPlaced w.placement (text_in w.placement contents) w.ram objects r
      ⊎ IsLongImage w (text_in w.placement contents) objects r

-- a file is missing; or the first input that can't be taken is refused; or the link is
abbrev pub LinkSaysWhy : Reads → Files → Bool → LinkWords → Refusal → Type 0
LinkSaysWhy s files sources w r =
    (inputs_of files (files_read w) ≡ Err r)
    ⊎ ((contents : List (List ℕ)) × (inputs_of files (files_read w) ≡ Ok contents)
    × (InputsAre s sources w.names (inputs_in w.placement contents) (Err r) ⊎ IsLinkRefused s sources w contents r))

-- of a report, which makes no files, the same without their sizes
pub record IsReportRefused (s : Reads) (w : ReportWords) (contents : List (List ℕ)) (r : Refusal) : Type 0 where
  pub inputs : List (Named Linkable)
  pub objects : List (Named Object)
  pub judged : InputsAre s true w.names (inputs_in w.placement contents) (Ok inputs)
  pub linked : AreLinked (objects_among inputs) (archives_among inputs) objects
  pub says : SaysOfPlaced w.placement (text_in w.placement contents) w.ram objects r

abbrev pub ReportSaysWhy : Reads → Files → ReportWords → Refusal → Type 0
ReportSaysWhy s files w r =
    (inputs_of files (report_reads w) ≡ Err r)
    ⊎ ((contents : List (List ℕ)) × (inputs_of files (report_reads w) ≡ Ok contents)
    × (InputsAre s true w.names (inputs_in w.placement contents) (Err r) ⊎ IsReportRefused s w contents r))

abbrev pub LinkRefusalsAreTrue : Result Command ℕ → Outside → Answer → Type 0
LinkRefusalsAreTrue asked o a =
    (files : Files) (w : LinkWords) (r : Refusal) → o.before ≡ Some files → a ≡ answer.Refused r
    → (asked ≡ Ok (command.Link w) → LinkSaysWhy (reads_of o) files false w r)
    × (asked ≡ Ok (command.Build w) → LinkSaysWhy (reads_of o) files true w r)

abbrev pub ReportRefusalsAreTrue : Result Command ℕ → Outside → Answer → Type 0
ReportRefusalsAreTrue asked o a =
    (files : Files) (w : ReportWords) (r : Refusal) → o.before ≡ Some files → a ≡ answer.Refused r
    → asked ≡ Ok (command.Report w) → ReportSaysWhy (reads_of o) files w r

abbrev pub RefusalsAreTrue : Result Command ℕ → Outside → Answer → Type 0
RefusalsAreTrue asked o a = LinkRefusalsAreTrue asked o a × ReportRefusalsAreTrue asked o a
