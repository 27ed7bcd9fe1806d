-- Laws of the tables. This project's.
use Rattle.std.specs.Prelude.{◌≡◌, ℕ, ◌^◌, ◌<◌, true, false, List, ◌∷◌, ◌++◌, length, Some}
use Rattle.std.specs.List.{AllByRecursion}
use Rattle.aof_object.specs.declared.records.Symbol.{Symbol}
use Rattle.aof_object.specs.Flags.{is_definition}
use Rattle.elf_image.specs.declared.tables.ElfSymbol.{ElfSymbol}
use Rattle.elf_image.specs.declared.tables.Tables.{Tables}
use Rattle.elf_image.specs.Symbols.{AreFields}
use Rattle.elf_image.specs.Tables.{is_local, place_number}
use Rattle.link_model.specs.declared.placing.Placement.{Placement}
use Rattle.link_model.specs.declared.selection.Linked.{Linked}
use Rattle.link_model.specs.Meaning.{symbol_of}
use Rattle.link_model.specs.Members.{link_of, objects_in}
use Rattle.link_values.specs.Placed.{values_in}
use Rattle.link_symbols.specs.Symbols.{binding_of, final_value, tables_in}

-- ---- the definitions

-- the tables have a symbol of the definition's name, whose value is the one that fields are patched with
pub record IsListed (l : Linked) (p : Placement) (loads object k : ℕ) (s : Symbol) : Type 0 where
  pub symbol : ElfSymbol
  pub before : List ElfSymbol
  pub after : List ElfSymbol
  pub there : (tables_in l p loads).symbols ≡ before ++ symbol ∷ after
  pub name : symbol.name ≡ s.name
  pub value : symbol.value ≡ final_value ((values_in (link_of l) p object).symbol k)
  pub binding : symbol.binding ≡ binding_of s.attributes

-- of the definition of a number of the linked object of a number
abbrev pub DefinitionsLaw : Type 0
DefinitionsLaw =
    (l : Linked) (p : Placement) (loads object k : ℕ) (s : Symbol)
    → symbol_of (objects_in l.objects) object k ≡ Some s → is_definition s.attributes ≡ true → IsListed l p loads object k s

-- ---- the order

pub record LocalsFirst (symbols : List ElfSymbol) : Type 0 where
  pub locals : List ElfSymbol
  pub others : List ElfSymbol
  pub parts : symbols ≡ locals ++ others
  pub are_local : AllByRecursion (λ s. is_local s.binding ≡ true) locals
  pub are_not : AllByRecursion (λ s. is_local s.binding ≡ false) others

abbrev pub LocalsLaw : Type 0
LocalsLaw = (l : Linked) (p : Placement) (loads : ℕ) → LocalsFirst (tables_in l p loads).symbols

-- ---- the sizes

-- values are words, and sections are counted by half-words, where there are few
pub record Fits (t : Tables) : Type 0 where
  pub values : AllByRecursion (λ s. s.value < 2 ^ 32) t.symbols
  pub places : length t.sections < 0xFEFC → AllByRecursion (λ s. place_number s.place < 2 ^ 16) t.symbols
  pub sections : AllByRecursion AreFields t.sections

abbrev pub FitsLaw : Type 0
FitsLaw = (l : Linked) (p : Placement) (loads : ℕ) → Fits (tables_in l p loads)
