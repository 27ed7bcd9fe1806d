-- The table of the command line: how each command is called, which options it takes, and which names. This project's.
use Rattle.std.specs.Prelude.{ℕ, List, [], ◌∷◌, codes, Option, Some, None, Bool, true, false}
use Rattle.tool_words.specs.declared.table.Verb.{Verb}
use Rattle.tool_words.specs.declared.table.Verb.TheVariants.{Assemble, Library, List as Listing, Run, Link, Build}
use Rattle.tool_words.specs.declared.table.Verb.TheVariants.{InterruptKit, Burn, Report, MakeBig, Debug}
use Rattle.tool_words.specs.declared.table.Flag.{Flag}
use Rattle.tool_words.specs.declared.table.Flag.TheVariants.{Create, Table, Extract, Output, Map, Bin, At, Memory, Rom, Steps}
use Rattle.tool_words.specs.declared.table.Flag.TheVariants.{Scatter, Aif, Reloc, Base, Ram, Elf, Acknowledge}
use Rattle.tool_words.specs.declared.table.Flag.TheVariants.{IntelHex, SRecords, Burned, Symbols, Script}
use Rattle.tool_words.specs.declared.table.Value.{Value}
use Rattle.tool_words.specs.declared.table.Value.TheVariants.{Nothing, File, Address, StepCount, Bank}
use Rattle.tool_words.specs.declared.table.Standing.{Standing}
use Rattle.tool_words.specs.declared.table.Standing.TheVariants.{Mode, Free, Needed, With, NeededWith, NeededOr, Without, WithNeither}
use Rattle.tool_words.specs.declared.table.Entry.{Entry}
use Rattle.tool_words.specs.declared.table.Names.{Names}
use Rattle.tool_words.specs.declared.table.Names.TheVariants.{Nameless, One, Many, Different, CountAndFile}

-- ---- how commands and options are spelled

abbrev pub verb_word : Verb → List ℕ
verb_word Assemble = codes "asm"
verb_word Library = codes "lib"
verb_word Listing = codes "list"
verb_word Run = codes "run"
verb_word Link = codes "link"
verb_word Build = codes "build"
verb_word InterruptKit = codes "irqkit"
verb_word Burn = codes "burn"
verb_word Report = codes "report"
verb_word MakeBig = codes "make-big"
verb_word Debug = codes "debug"

abbrev pub verbs : List Verb
verbs =
    Assemble ∷ Library ∷ Listing ∷ Run ∷ Link ∷ Build ∷ InterruptKit ∷ Burn ∷ Report ∷ MakeBig ∷ Debug ∷ []

abbrev pub flag_word : Flag → List ℕ
flag_word Create = codes "-c"
flag_word Table = codes "-t"
flag_word Extract = codes "-e"
flag_word Output = codes "-o"
flag_word Map = codes "-map"
flag_word Bin = codes "-bin"
flag_word At = codes "-at"
flag_word Memory = codes "-mem"
flag_word Rom = codes "-rom"
flag_word Steps = codes "-steps"
flag_word Scatter = codes "-scatter"
flag_word Aif = codes "-aif"
flag_word Reloc = codes "-reloc"
flag_word Base = codes "-base"
flag_word Ram = codes "-ram"
flag_word Elf = codes "-elf"
flag_word Acknowledge = codes "-ack"
flag_word IntelHex = codes "-ihex"
flag_word SRecords = codes "-srec"
flag_word Burned = codes "-burned"
flag_word Symbols = codes "-symbols"
flag_word Script = codes "-script"

-- ---- the options of each command: an option, what it takes as its value, and when it stands

abbrev entry : Flag → Value → Standing → Entry
entry f v s = record { 0 = f; 1 = v; 2 = s }

-- of an image that is made
abbrev image_options : List Entry
image_options =
    entry Scatter File Mode ∷ entry Aif Nothing Mode ∷ entry Bin Nothing Mode
    ∷ entry Reloc Nothing (With Aif) ∷ entry Base Address (Without Scatter) ∷ entry Ram Bank (WithNeither Bin Reloc)
    ∷ entry Elf Nothing (With Scatter) ∷ entry Symbols Nothing (With Elf) ∷ entry Output File Needed ∷ []

abbrev pub options : Verb → List Entry
options Assemble = entry Output File Needed ∷ []
options Library =
    entry Create File Mode ∷ entry Table File Mode ∷ entry Extract File Mode ∷ entry Output File (NeededWith Extract) ∷ []
options Listing = []
options Run =
    entry Map File Mode ∷ entry Burned File Mode ∷ entry Elf File Mode ∷ entry Aif File Mode ∷ entry Bin File Mode
    ∷ entry At Address (NeededOr Bin Aif) ∷ entry Memory Bank Free ∷ entry Rom Bank Free ∷ entry Steps StepCount Free ∷ []
options Debug =
    entry Map File Mode ∷ entry Elf File Mode ∷ entry Aif File Mode ∷ entry Bin File Mode
    ∷ entry At Address (NeededOr Bin Aif) ∷ entry Memory Bank Free ∷ entry Rom Bank Free ∷ entry Script File Needed ∷ []
options Report =
    entry Scatter File Mode ∷ entry Aif Nothing Mode ∷ entry Bin Nothing Mode
    ∷ entry Reloc Nothing (With Aif) ∷ entry Base Address (Without Scatter) ∷ entry Ram Bank (WithNeither Bin Reloc) ∷ []
options Link = image_options
options Build = image_options
options InterruptKit = entry Output File Needed ∷ entry Acknowledge Address Free ∷ []
options Burn =
    entry IntelHex Nothing Mode ∷ entry SRecords Nothing Mode ∷ entry Map File Needed ∷ entry Output File Needed ∷ []
options MakeBig = []

-- ---- the names of each command, by the first of the options of which it has one

abbrev pub names_for : Verb → Option Flag → Names
names_for Assemble mode = One
names_for Library None = Many
names_for Library (Some Create) = Different
names_for Library (Some Table) = Nameless
names_for Library (Some Extract) = One
names_for Library (Some other) = Many
names_for Listing mode = One
names_for Run mode = Nameless
names_for Link mode = Many
names_for Build mode = Many
names_for InterruptKit mode = Nameless
names_for Burn mode = Nameless
names_for Report mode = Many
names_for MakeBig mode = CountAndFile
names_for Debug mode = Nameless

-- ---- what the words of the table say

-- how many words follow an option: a base and a size, one, or none
abbrev pub value_count : Value → ℕ
value_count Nothing = 0
value_count Bank = 2
value_count one = 1

-- banks may stand more than once
abbrev pub is_bank : Value → Bool
is_bank Bank = true
is_bank other = false

abbrev pub is_mode : Standing → Bool
is_mode Mode = true
is_mode other = false

-- the least and the most names, where there is a limit
abbrev pub least_names : Names → ℕ
least_names Nameless = 0
least_names CountAndFile = 2
least_names some = 1

abbrev pub most_names : Names → Option ℕ
most_names Nameless = Some 0
most_names One = Some 1
most_names Many = None
most_names Different = None
most_names CountAndFile = Some 2

-- no two names are the same
abbrev pub must_differ : Names → Bool
must_differ Different = true
must_differ other = false

-- the first name is a count
abbrev pub is_counted : Names → Bool
is_counted CountAndFile = true
is_counted other = false
