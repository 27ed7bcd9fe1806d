-- What a debugger finds in an executable with symbols: each definition of the linked objects, with its value by the plan (System V
-- Application Binary Interface, Object Files: Symbol Table; ELF for the ARM Architecture).
use Rattle.std.specs.Prelude.{◌≡◌, ℕ, ◌+◌, ◌*◌, ◌<◌, ◌≤◌, true, List, length, Some}
use Rattle.aof_object.specs.declared.records.Symbol.{Symbol}
use Rattle.aof_object.specs.Flags.{is_definition}
use Rattle.elf_image.specs.declared.tables.ElfSymbol.{ElfSymbol}
use Rattle.elf_image.specs.declared.tables.Tables.{Tables}
use Rattle.elf_image.specs.Symbols.{IsSymbol, size_at, type_at}
use Rattle.elf_image.specs.Tables.{named_file}
use Rattle.link_model.specs.declared.images.Image.{Image}
use Rattle.link_model.specs.declared.selection.Linked.{Linked}
use Rattle.link_model.specs.Meaning.{symbol_of}
use Rattle.link_model.specs.Members.{objects_in}
use Rattle.link_laws.specs.Plans.{values_by}
use Rattle.link_symbols.specs.Symbols.{binding_of, final_value}
use Rattle.place_model.specs.Plans.{Plan}
use Rattle.tool_words.specs.declared.command.Container.{Container}
use Rattle.tool_words.specs.declared.command.Container.TheVariants as container

-- the file's section of a number is a table of symbols, and in it is one of the name, behind the empty one, with this value, for
-- others to see as the definition says
pub record IsFound (file : List ℕ) (table : ℕ) (s : Symbol) (final : ℕ) : Type 0 where
  pub kind : type_at file table ≡ 2
  pub number : ℕ
  pub symbol : ElfSymbol
  pub behind : 0 < number
  pub within : 16 * (number + 1) ≤ size_at file table
  pub there : IsSymbol file table number symbol
  pub name : symbol.name ≡ s.name
  pub value : symbol.value ≡ final
  pub binding : symbol.binding ≡ binding_of s.attributes

-- the definition of a number of the linked object of a number; its value by the plan has 1 added for a label of Thumb code
abbrev pub DefinitionsAreFound : List ℕ → ℕ → Plan → Linked → Type 0
DefinitionsAreFound file table plan l =
    (own k : ℕ) (s : Symbol) → symbol_of (objects_in l.objects) own k ≡ Some s → is_definition s.attributes ≡ true
    → IsFound file table s (final_value ((values_by plan l own).symbol k))

-- in the table behind the sections, where symbols are asked for
abbrev pub NamesHold : Container → Image → Tables → Plan → Linked → Type 0
NamesHold (container.Elf true) i t plan l = DefinitionsAreFound (named_file i t) (length t.sections + 1) plan l
NamesHold other i t plan l = Unit {0}
