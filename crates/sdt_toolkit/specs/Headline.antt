-- What `link` and `build` leave where they are done and the store tells its files: the files of the image that the linked
-- objects make, with its entry and its bound. The objects stand by one plan, and put into memory the files are, or become by the
-- startup code, the view of that plan, in which each object is shown and each statement of what `build` assembled stands; those
-- of a scatter image and an ARM image file reach the entry within the bound. An ARM image file that can be moved does so at each
-- address that leaves room, with a view for each. SDT 2.50 Reference Guide; the startup code is this project's.
use Rattle.std.specs.Prelude.{◌≡◌, ℕ, ◌==◌, true, false, Bool, List, length, take, slice_get, Option, Some, Result, Ok}
use Rattle.sdt_word.specs.declared.ranges.Range32.{Range32}
use Rattle.sdt_fault.specs.declared.answer.Answer.{Answer}
use Rattle.sdt_fault.specs.declared.answer.Answer.TheVariants as answer
use Rattle.sdt_outside.specs.Files.{Files, content}
use Rattle.aof_object.specs.declared.records.Object.{Object}
use Rattle.boot_code.specs.Boots.{ByteMap}
use Rattle.place_model.specs.declared.scatter.Kind.{Kind}
use Rattle.place_model.specs.Plans.{Plan}
use Rattle.armasm_core.specs.Assembling.{AssembledFrom}
use Rattle.armasm_core.specs.Beginning.{SourceBegins}
use Rattle.armasm_core.specs.Standing.{SourceStands}
use Rattle.elf_image.specs.declared.tables.Tables.{Tables}
use Rattle.link_model.specs.declared.images.Image.{Image}
use Rattle.link_model.specs.declared.selection.Linked.{Linked}
use Rattle.link_model.specs.declared.selection.Named.{Named}
use Rattle.link_model.specs.Chosen.{AreLinked}
use Rattle.link_laws.specs.Laws.{AreRanges}
use Rattle.link_laws.specs.Placing.{bases_of, link_plan}
use Rattle.link_laws.specs.Plans.{entry_by, values_by}
use Rattle.link_symbols.specs.Symbols.{tables_in}
use Rattle.tool_words.specs.declared.command.Command.{Command}
use Rattle.tool_words.specs.declared.command.Command.TheVariants as command
use Rattle.tool_words.specs.declared.command.LinkWords.{LinkWords}
use Rattle.tool_answers.specs.Inputs.{inputs_of}
use Rattle.tool_answers.specs.Outcomes.{written}
use Rattle.tool_library.specs.declared.linkables.Linkable.{Linkable}
use Rattle.tool_library.specs.declared.linkables.Linkable.TheVariants as input
use Rattle.sdt_toolkit.specs.Containers.{FilesHold}
use Rattle.sdt_toolkit.specs.Debug.{NamesHold}
use Rattle.sdt_toolkit.specs.Inputs.{InputsAre, archives_among, is_source_name, objects_among}
use Rattle.sdt_toolkit.specs.Links.{IsAskedAs, LinksTo, files_read, image_files, inputs_in, outputs, text_in}
use Rattle.sdt_toolkit.specs.Plans.{IsPlacedAs, plan_at}
use Rattle.sdt_toolkit.specs.Reads.{Reads}
use Rattle.sdt_toolkit.specs.Starting.{FitsAt}

-- of the inputs that were read, the linked objects were placed by one plan and make the image, and its files, which hold it, were
-- written in order; where symbols are asked for, these are those of the link, and a debugger finds each definition by its name
pub record IsLinkedInto (sources : Bool) (w : LinkWords) (before : Files) (after : Option Files) (image : Image)
    (views : ℕ → ByteMap) : Type 0 where
  pub reads : Reads
  pub contents : List (List ℕ)
  pub inputs : List (Named Linkable)
  pub objects : List (Named Object)
  pub shape : Kind
  pub ram : Option (List Range32)
  pub read : inputs_of before (files_read w) ≡ Ok contents
  pub told : reads.told ≡ Some before
  pub judged : InputsAre reads sources w.names (inputs_in w.placement contents) (Ok inputs)
  pub linked : AreLinked (objects_among inputs) (archives_among inputs) objects
  pub made : LinksTo w.placement (text_in w.placement contents) w.ram objects (Ok image)
  pub tables : Tables
  pub left : after ≡ Some (written before (outputs (image_files w.container w.output tables image)))
  pub asked : IsAskedAs w.placement (text_in w.placement contents) w.ram shape ram
  pub placed : IsPlacedAs shape ram objects image views
  pub holds : FilesHold w.container w.output tables image views
  pub named : tables ≡ tables_in placed.link placed.placement (length image.loads)
  pub names : NamesHold w.container image tables (link_plan shape placed.link placed.assigned.regions placed.veneers) placed.link

-- ---- statements

-- the input of a place is the object of a number among the linked ones, which begin with the objects among the inputs
pub record IsLinkedInput (inputs : List (Named Linkable)) (objects : List (Named Object)) (place own : ℕ) (o : Named Object) : Type 0 where
  pub is : slice_get inputs place ≡ Some (record { name = o.name; «module» = o.«module»; value = input.Object o.value })
  pub before : own ≡ length (objects_among (take place inputs))
  pub there : slice_get objects own ≡ Some o

-- The input of a place is the object of a source: its areas, symbols and relocations are those of what the source's lines say.
-- That stands where the object stands by the plan: with the plan's values of its symbols, and in the ranges of the plan's
-- regions. Where it is the one object with an entry, the program begins at the source's one line ENTRY, in its state, where the
-- plan has that line; otherwise the source has none.
pub record StandsBy (files : Files) (inputs : List (Named Linkable)) (plan : Plan) (l : Linked) (view : ByteMap)
    (place : ℕ) (name text : List ℕ) : Type 0 where
  pub own : ℕ
  pub object : Named Object
  pub linked : IsLinkedInput inputs l.objects place own object
  pub assembled : AssembledFrom (Some files) name text (Ok object.value)
  pub stands : (region : ℕ → Range32) → AreRanges plan own region
      → SourceStands (content files) name text (values_by plan l own) view region
  pub begins : SourceBegins (own == l.entry.object) (content files) name text (bases_of plan own) (entry_by plan l) l.entry.thumb

-- of each source among the names
abbrev pub SourcesStand : List (List ℕ) → Files → List (Named Linkable) → Plan → Linked → ByteMap → Type 0
SourcesStand names files inputs plan l view =
    (place : ℕ) (name text : List ℕ) → slice_get names place ≡ Some name → is_source_name name ≡ true → content files name ≡ Some text
    → StandsBy files inputs plan l view place name text

-- wherever the image is put
abbrev pub StatementsStand : (w : LinkWords) (before : Files) (after : Option Files) (image : Image) (views : ℕ → ByteMap)
    → IsLinkedInto true w before after image views → Type 0
StatementsStand w before after image views h =
    (to : ℕ) → FitsAt h.shape image to
    → SourcesStand w.names before h.inputs (plan_at h.shape h.placed.link h.placed.assigned h.placed.veneers to) h.placed.link (views to)

pub record Headline (asked : Result Command ℕ) (told after : Option Files) (a : Answer) : Type 0 where
  pub link : (w : LinkWords) (before : Files) → asked ≡ Ok (command.Link w) → told ≡ Some before → a ≡ answer.Done
      → (image : Image) × (views : ℕ → ByteMap) × IsLinkedInto false w before after image views
  pub build : (w : LinkWords) (before : Files) → asked ≡ Ok (command.Build w) → told ≡ Some before → a ≡ answer.Done
      → (image : Image) × (views : ℕ → ByteMap) × (h : IsLinkedInto true w before after image views)
      × StatementsStand w before after image views h
