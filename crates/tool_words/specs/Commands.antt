-- What good words ask for. This project's.
use Rattle.std.specs.Prelude.{◌≡◌, ℕ, ◌+◌, ◌%◌, ◌^◌, ◌<◌, ◌≤◌, min, if◌then◌else◌}
use Rattle.std.specs.Prelude.{List, [], map, filter, find, length, slice_get, Option, Some, None, option_map, unwrap_or, Result, Ok, Err}
use Rattle.std.specs.List.{AllByRecursion}
use Rattle.std.specs.Option.{option_map_or}
use Rattle.tool_words.specs.declared.table.Verb.{Verb}
use Rattle.tool_words.specs.declared.table.Verb.TheVariants.{Assemble, Library, List as Listing, Run, Link, Build}
use Rattle.tool_words.specs.declared.table.Verb.TheVariants.{InterruptKit, Burn, Report, MakeBig, Debug}
use Rattle.tool_words.specs.declared.table.Flag.{Flag}
use Rattle.tool_words.specs.declared.table.Flag.TheVariants.{Create, Table, Extract, Output, Bin, At, Memory}
use Rattle.tool_words.specs.declared.table.Flag.TheVariants.{Rom, Steps, Reloc, Base, Ram, Acknowledge, Script}
use Rattle.tool_words.specs.declared.table.Flag.TheVariants as flag
use Rattle.tool_words.specs.declared.items.Item.{Item}
use Rattle.tool_words.specs.declared.command.Bank.{Bank}
use Rattle.tool_words.specs.declared.command.Command.{Command}
use Rattle.tool_words.specs.declared.command.Command.TheVariants as command
use Rattle.tool_words.specs.declared.command.RunImage.{RunImage}
use Rattle.tool_words.specs.declared.command.RunImage.TheVariants as image
use Rattle.tool_words.specs.declared.command.LinkPlacement.{LinkPlacement}
use Rattle.tool_words.specs.declared.command.LinkPlacement.TheVariants as placement
use Rattle.tool_words.specs.declared.command.Container.{Container}
use Rattle.tool_words.specs.declared.command.Container.TheVariants as container
use Rattle.tool_words.specs.declared.command.LinkWords.{LinkWords}
use Rattle.tool_words.specs.declared.command.ReportWords.{ReportWords}
use Rattle.tool_words.specs.declared.command.BurnForm.{BurnForm}
use Rattle.tool_words.specs.declared.command.BurnForm.TheVariants as form
use Rattle.tool_words.specs.declared.command.WordsFault.{WordsFault}
use Rattle.tool_words.specs.declared.command.WordsFault.TheVariants as fault
use Rattle.tool_words.specs.Items.{word_at, verb_named, items_of}
use Rattle.tool_words.specs.Rules.{has, is_flag, is_name, mode_of, number_at, decimal_at, verb_fault}

-- the place of an option
abbrev pub place_of : Flag → List Item → Option ℕ
place_of f items = option_map (λ i. i.at) (find (λ i. is_flag f i.role) items)

-- the first value of an option, and its number
abbrev pub value_of : List (List ℕ) → List Item → Flag → List ℕ
value_of words items f = option_map_or (λ at. word_at words (at + 1)) (place_of f items) []

abbrev pub number_of : List (List ℕ) → List Item → Flag → ℕ → ℕ
number_of words items f usual = option_map_or (λ at. unwrap_or (number_at words (at + 1)) 0) (place_of f items) usual

abbrev pub number_told : List (List ℕ) → List Item → Flag → Option ℕ
number_told words items f = option_map (λ at. unwrap_or (number_at words (at + 1)) 0) (place_of f items)

abbrev pub names_in : List (List ℕ) → List Item → List (List ℕ)
names_in words items = map (λ i. word_at words i.at) (filter (λ i. is_name i.role) items)

abbrev pub name_place : List Item → Option ℕ
name_place items = option_map (λ i. i.at) (find (λ i. is_name i.role) items)

abbrev pub first_name : List (List ℕ) → List Item → List ℕ
first_name words items = option_map_or (λ at. word_at words at) (name_place items) []

-- the number that the first name counts, and the second name
abbrev pub count_of : List (List ℕ) → List Item → ℕ
count_of words items = option_map_or (λ at. unwrap_or (decimal_at words at) 0) (name_place items) 0

abbrev pub second_name : List (List ℕ) → List Item → List ℕ
second_name words items = unwrap_or (slice_get (names_in words items) 1) []

-- the banks of an option
abbrev pub bank_at : List (List ℕ) → ℕ → Bank
bank_at words at = record { base = unwrap_or (number_at words (at + 1)) 0; size = unwrap_or (number_at words (at + 2)) 0 }

abbrev pub banks_in : List (List ℕ) → List Item → Flag → List Bank
banks_in words items f = map (λ i. bank_at words i.at) (filter (λ i. is_flag f i.role) items)

abbrev pub image_of : Option Flag → List (List ℕ) → List Item → RunImage
image_of (Some flag.Map) words items = image.Map (value_of words items flag.Map)
image_of (Some flag.Burned) words items = image.Burned (value_of words items flag.Burned)
image_of (Some flag.Elf) words items = image.Elf (value_of words items flag.Elf)
image_of (Some flag.Aif) words items = image.Aif (value_of words items flag.Aif) (number_told words items At)
image_of mode words items = image.Binary (value_of words items Bin) (number_of words items At 0)

-- where an image that is made is placed, what is written of it, and the banks that it may use, where any is told
abbrev pub placement_of : Option Flag → List (List ℕ) → List Item → LinkPlacement
placement_of (Some flag.Scatter) words items = placement.Scatter (value_of words items flag.Scatter)
placement_of (Some flag.Aif) words items = placement.Aif (number_of words items Base 0x8000) (has Reloc items)
placement_of mode words items = placement.Plain (number_of words items Base 0x8000)

abbrev pub container_of : Option Flag → List Item → Container
container_of (Some flag.Scatter) items = if has flag.Elf items then container.Elf (has flag.Symbols items) else container.LoadFiles
container_of (Some flag.Aif) items = container.ImageFile
container_of mode items = container.Binary

abbrev pub ram_of : List (List ℕ) → List Item → Option (List Bank)
ram_of words items = if has Ram items then Some (banks_in words items Ram) else None

abbrev pub link_words : Option Flag → List (List ℕ) → List Item → LinkWords
link_words mode words items = record {
  placement = placement_of mode words items;
  container = container_of mode items;
  output = value_of words items Output;
  names = names_in words items;
  ram = ram_of words items;
}

abbrev pub report_words : Option Flag → List (List ℕ) → List Item → ReportWords
report_words mode words items = record {
  placement = placement_of mode words items;
  names = names_in words items;
  ram = ram_of words items;
}

-- as which text an image is burned
abbrev pub form_of : Option Flag → BurnForm
form_of (Some flag.IntelHex) = form.IntelHex
form_of mode = form.SRecords

abbrev pub library_command : Option Flag → List (List ℕ) → List Item → Command
library_command (Some Create) words items = command.CreateLibrary (value_of words items Create) (names_in words items)
library_command (Some Extract) words items =
    command.ExtractMember (value_of words items Extract) (first_name words items) (value_of words items Output)
library_command mode words items = command.ListMembers (value_of words items Table)

abbrev pub verb_command : Verb → Option Flag → List (List ℕ) → List Item → Command
verb_command Assemble mode words items = command.Assemble (first_name words items) (value_of words items Output)
verb_command Library mode words items = library_command mode words items
verb_command Listing mode words items = command.List (first_name words items)
verb_command Run mode words items = command.Run (record {
  image = image_of mode words items;
  memory = banks_in words items Memory;
  rom = banks_in words items Rom;
  steps = number_of words items Steps 10000000;
})
verb_command Link mode words items = command.Link (link_words mode words items)
verb_command Build mode words items = command.Build (link_words mode words items)
verb_command InterruptKit mode words items =
    command.InterruptKit (value_of words items Output) (number_of words items Acknowledge 0xF000000C)
verb_command Burn mode words items = command.Burn (form_of mode) (value_of words items flag.Map) (value_of words items Output)
verb_command Report mode words items = command.Report (report_words mode words items)
verb_command MakeBig mode words items = command.MakeBig (count_of words items) (second_name words items)
verb_command Debug mode words items = command.Debug (record {
  image = image_of mode words items;
  memory = banks_in words items Memory;
  rom = banks_in words items Rom;
  script = value_of words items Script;
})

-- by what its options choose
abbrev pub chosen_command : Verb → List (List ℕ) → List Item → Command
chosen_command verb words items = verb_command verb (mode_of items) words items

-- a place as it is told: counted from 1, and at most 2^32 - 1
abbrev pub told : ℕ → ℕ
told place = min (place + 1) 0xFFFFFFFF

abbrev pub unless : Option ℕ → Command → Result Command ℕ
unless None c = Ok c
unless (Some place) c = Err (told place)

abbrev pub verb_words : Option Verb → List (List ℕ) → Result Command ℕ
verb_words None words = Err (told 0)
verb_words (Some verb) words =
    let items = items_of verb words in
    unless (verb_fault verb words items) (chosen_command verb words items)

-- the command that words ask for, or the place of the first that breaks a rule
abbrev pub command_of : List (List ℕ) → Result Command ℕ
command_of words = verb_words (verb_named (word_at words 0)) words

-- an answer that is this, unless memory was refused
abbrev pub IsPlace : ℕ → WordsFault → Type 0
IsPlace place (fault.Place told) = told ≡ place
IsPlace place fault.NoMemory = Unit {0}

abbrev pub IsRefused : WordsFault → Type 0
IsRefused (fault.Place told) = ⊥
IsRefused fault.NoMemory = Unit {0}

abbrev pub Reads : Result Command WordsFault → Result Command ℕ → Type 0
Reads (Ok c) (Ok asked) = c ≡ asked
Reads (Ok c) (Err place) = ⊥
Reads (Err e) (Ok asked) = IsRefused e
Reads (Err e) (Err place) = IsPlace place e

-- ---- what good words keep

-- whole words, one at least, that end at 2^32 or below
pub record IsBank (b : Bank) : Type 0 where
  pub base : b.base % 4 ≡ 0
  pub size : b.size % 4 ≡ 0
  pub some : 0 < b.size
  pub end : b.base + b.size ≤ 2 ^ 32

abbrev pub IsAddress : Option ℕ → Type 0
IsAddress None = Unit {0}
IsAddress (Some at) = at % 4 ≡ 0

abbrev pub IsPlaced : RunImage → Type 0
IsPlaced (image.Map file) = Unit {0}
IsPlaced (image.Burned file) = Unit {0}
IsPlaced (image.Elf file) = Unit {0}
IsPlaced (image.Aif file at) = IsAddress at
IsPlaced (image.Binary file at) = at % 4 ≡ 0

abbrev pub IsBased : LinkPlacement → Type 0
IsBased (placement.Scatter file) = Unit {0}
IsBased (placement.Plain base) = base % 4 ≡ 0
IsBased (placement.Aif base relocatable) = base % 4 ≡ 0

-- what is written of an image that is placed so
abbrev pub ComeTogether : LinkPlacement → Container → Type 0
ComeTogether (placement.Scatter file) container.LoadFiles = Unit {0}
ComeTogether (placement.Scatter file) (container.Elf symbols) = Unit {0}
ComeTogether (placement.Plain base) container.Binary = Unit {0}
ComeTogether (placement.Aif base relocatable) container.ImageFile = Unit {0}
ComeTogether placed written = ⊥

abbrev pub AreBanks : Option (List Bank) → Type 0
AreBanks None = Unit {0}
AreBanks (Some banks) = AllByRecursion IsBank banks

pub record IsLinked (l : LinkWords) : Type 0 where
  pub based : IsBased l.placement
  pub written : ComeTogether l.placement l.container
  pub named : 0 < length l.names
  pub ram : AreBanks l.ram

pub record IsReported (r : ReportWords) : Type 0 where
  pub based : IsBased r.placement
  pub named : 0 < length r.names
  pub ram : AreBanks r.ram

-- where an image that is to run is placed, and banks of memory and of read-only memory
abbrev pub IsBoard : RunImage → List Bank → List Bank → Type 0
IsBoard image memory rom = IsPlaced image × AllByRecursion IsBank memory × AllByRecursion IsBank rom

abbrev pub IsGood : Command → Type 0
IsGood (command.Run run) = IsBoard run.image run.memory run.rom
IsGood (command.Debug debug) = IsBoard debug.image debug.memory debug.rom
IsGood (command.Link link) = IsLinked link
IsGood (command.Build link) = IsLinked link
IsGood (command.InterruptKit output acknowledge) = acknowledge % 4 ≡ 0
IsGood (command.Report report) = IsReported report
IsGood (command.MakeBig count output) = (1 ≤ count) × (count ≤ 50000)
IsGood other = Unit {0}
