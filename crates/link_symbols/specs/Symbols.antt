-- The symbols of a linked image as a debugger reads them (System V Application Binary Interface, Object Files: Symbol Table; ELF
-- for the ARM Architecture, symbol values and mapping symbols). Which there are, and their order behind the rule that local ones
-- come first, are this project's.
use Rattle.std.specs.Prelude.{ℕ, suc, ◌+◌, ◌%◌, ◌^◌, Bool, not, ◌&&◌, ◌==◌, if◌then◌else◌, List, [], ◌∷◌, ◌++◌, map, Option, Some, None}
use Rattle.std.specs.List.{flat_map}
use Rattle.sdt_word.specs.Numbers.{flag}
use Rattle.aof_object.specs.declared.records.Area.{Area}
use Rattle.aof_object.specs.declared.records.Object.{Object}
use Rattle.aof_object.specs.declared.records.Symbol.{Symbol}
use Rattle.aof_object.specs.Flags.{is_exported, is_weak, is_zero_initialised}
use Rattle.elf_image.specs.declared.tables.Binding.{Binding}
use Rattle.elf_image.specs.declared.tables.Binding.TheVariants as binding
use Rattle.elf_image.specs.declared.tables.ElfSymbol.{ElfSymbol}
use Rattle.elf_image.specs.declared.tables.Section.{Section}
use Rattle.elf_image.specs.declared.tables.SymbolKind.{SymbolKind}
use Rattle.elf_image.specs.declared.tables.SymbolKind.TheVariants as symbol
use Rattle.elf_image.specs.declared.tables.SymbolPlace.{SymbolPlace}
use Rattle.elf_image.specs.declared.tables.SymbolPlace.TheVariants as place
use Rattle.elf_image.specs.declared.tables.Tables.{Tables}
use Rattle.patch_model.specs.Fields.{Home, Meant, is_thumb_label}
use Rattle.link_model.specs.declared.placing.Placement.{Placement}
use Rattle.link_model.specs.declared.selection.Linked.{Linked}
use Rattle.link_model.specs.RegionValues.{numbers_by}
use Rattle.link_symbols.specs.declared.marks.Content.{Content}
use Rattle.link_symbols.specs.declared.labels.Listed.{Listed}
use Rattle.link_symbols.specs.declared.labels.Listed.TheVariants.{Marks, Locals, Exported}
use Rattle.link_symbols.specs.Marks.{area_at, boot_marks, first_content, is_code_area, label_marks, mark, told_at_start, veneer_marks}
use Rattle.link_symbols.specs.Sections.{place_of}
use Rattle.link_symbols.specs.Shown.{Shown, shown_of}

-- ---- one definition of an object

-- its number, with bit 0 set for a label of Thumb code
abbrev pub final_value : Meant → ℕ
final_value m = (m.number + flag (is_thumb_label m)) % 2 ^ 32

abbrev pub binding_of : ℕ → Binding
binding_of a = if is_exported a then (if is_weak a then binding.Weak else binding.Global) else binding.Local

-- a label of code is a function and another one an object; of a number nothing is told
abbrev pub kind_of : List Object → Bool → Option Home → SymbolKind
kind_of os datum None = symbol.Untyped
kind_of os datum (Some h) = if is_code_area (area_at os h) && not datum then symbol.Function else symbol.Object

-- a label is in the section of its address
abbrev pub place_in : List Section → ℕ → Option Home → SymbolPlace
place_in sections number None = place.Absolute
place_in sections number (Some h) = place_of (number % 2 ^ 32) sections

abbrev pub definition : Shown → Symbol → Meant → ElfSymbol
definition w s m = record {
  name = s.name;
  value = final_value m;
  binding = binding_of s.attributes;
  kind = kind_of w.objects m.datum m.home;
  place = place_in w.sections m.number m.home;
}

-- ---- all of them, in three lists: mapping symbols, local definitions, and exported ones

-- the low bits of the attributes are 1 of a local definition and 3 of an exported one
abbrev pub scoped : Shown → ℕ → Symbol → Meant → List ElfSymbol
scoped w scope s m = if s.attributes % 4 == scope then definition w s m ∷ [] else []

abbrev pub listed : Shown → Listed → Symbol → Meant → List ElfSymbol
listed w Marks s m = label_marks w m
listed w Locals s m = scoped w 1 s m
listed w Exported s m = scoped w 3 s m

-- of the symbols of the object of a number, which are counted from k on
abbrev pub listed_in : Shown → Listed → ℕ → ℕ → List Symbol → List ElfSymbol
listed_in w which object k [] = []
listed_in w which object k (s ∷ symbols) = listed w which s (w.value object k) ++ listed_in w which object (suc k) symbols

-- of objects that are counted from a number on
abbrev pub listed_from : Shown → Listed → ℕ → List Object → List ElfSymbol
listed_from w which object [] = []
listed_from w which object (o ∷ os) = listed_in w which object 0 o.symbols ++ listed_from w which (suc object) os

-- ---- areas: the name of each that isn't empty, and what stands at its start

abbrev pub area_symbol : List Section → List ℕ → ℕ → ElfSymbol
area_symbol sections name base = record {
  name = name;
  value = base % 2 ^ 32;
  binding = binding.Local;
  kind = symbol.Untyped;
  place = place_of (base % 2 ^ 32) sections;
}

abbrev pub start_marks : List Section → Option Content → Area → ℕ → List ElfSymbol
start_marks sections told a base =
    if is_zero_initialised a.attributes then [] else mark sections (first_content a.attributes told) base ∷ []

abbrev pub area_symbols : List Section → Option Content → Area → ℕ → List ElfSymbol
area_symbols sections told a base =
    if a.size == 0 then [] else area_symbol sections a.name base ∷ start_marks sections told a base

-- of the areas of an object of a number, which are counted from k on, where the object's symbols tell of starts
abbrev pub areas_by : Shown → (ℕ → Option Content) → ℕ → ℕ → List Area → List ElfSymbol
areas_by w told object k [] = []
areas_by w told object k (a ∷ areas) =
    area_symbols w.sections (told k) a (w.base_at object k) ++ areas_by w told object (suc k) areas

abbrev pub areas_in : Shown → List Symbol → ℕ → List Area → List ElfSymbol
areas_in w symbols object areas = areas_by w (told_at_start symbols) object 0 areas

-- of objects that are counted from a number on
abbrev pub areas_from : Shown → ℕ → List Object → List ElfSymbol
areas_from w object [] = []
areas_from w object (o ∷ os) = areas_in w o.symbols object o.areas ++ areas_from w (suc object) os

-- ---- the symbols of regions

abbrev pub region_symbol : List ℕ × ℕ → ElfSymbol
region_symbol e = record {
  name = e.0;
  value = e.1 % 2 ^ 32;
  binding = binding.Global;
  kind = symbol.Untyped;
  place = place.Absolute;
}

-- ---- the tables

abbrev pub local_symbols : Shown → Placement → List ElfSymbol
local_symbols w p =
    areas_from w 0 w.objects
    ++ (flat_map (veneer_marks w.sections) p.veneers
    ++ (boot_marks w.sections p.boot
    ++ (listed_from w Marks 0 w.objects ++ listed_from w Locals 0 w.objects)))

abbrev pub global_symbols : Shown → Placement → List ElfSymbol
global_symbols w p = listed_from w Exported 0 w.objects ++ map region_symbol (numbers_by p.boot p.regions)

abbrev pub symbols_by : Shown → Placement → List ElfSymbol
symbols_by w p = local_symbols w p ++ global_symbols w p

-- of a link and its placement, with so many load regions
abbrev pub tables_in : Linked → Placement → ℕ → Tables
tables_in l p loads = record {
  sections = (shown_of l p loads).sections;
  symbols = symbols_by (shown_of l p loads) p;
}
