-- What the symbols of an image are made of: linked objects, the values of their symbols, the addresses of their areas, and the
-- image's sections. This project's.
use Rattle.std.specs.Prelude.{ℕ, List}
use Rattle.aof_object.specs.declared.records.Object.{Object}
use Rattle.elf_image.specs.declared.tables.Section.{Section}
use Rattle.patch_model.specs.Fields.{Meant}
use Rattle.link_model.specs.declared.placing.Placement.{Placement}
use Rattle.link_model.specs.declared.selection.Linked.{Linked}
use Rattle.link_model.specs.Members.{link_of, objects_in}
use Rattle.link_model.specs.Values.{Bases}
use Rattle.link_values.specs.Bases.{base_of}
use Rattle.link_values.specs.Placed.{base_in, values_in}
use Rattle.link_values.specs.Values.{value_in}
use Rattle.link_symbols.specs.declared.marks.SymbolSource.{SymbolSource}
use Rattle.link_symbols.specs.Sections.{sections_in}

-- values and addresses are found by the numbers of an object and of its symbol or its area
pub record Shown : Type 0 where
  pub objects : List Object
  pub value : ℕ → ℕ → Meant
  pub base_at : Bases
  pub sections : List Section

-- of a link and its placement: the values and addresses are those that its fields are patched with
abbrev pub shown_by : Linked → Placement → List Section → Shown
shown_by l p sections = record {
  objects = objects_in l.objects;
  value = λ object k. (values_in (link_of l) p object).symbol k;
  base_at = base_in p;
  sections = sections;
}

-- with so many load regions
abbrev pub shown_of : Linked → Placement → ℕ → Shown
shown_of l p loads = shown_by l p (sections_in loads p.regions)

-- as code has them
abbrev pub shown_in : SymbolSource → Shown
shown_in s = record {
  objects = objects_in s.objects.now;
  value = value_in s.values.now;
  base_at = base_of s.bases.now;
  sections = s.sections.now;
}
