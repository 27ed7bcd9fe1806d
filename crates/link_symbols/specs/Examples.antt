-- Tables that were worked out by hand from the definitions: one region R at 0x8000 with 12 bytes and a zero part of 4, whose area X of
-- code has at 4 an exported function f of Thumb code, and at 8 a local datum d.
use Rattle.std.specs.Prelude.{◌≡◌, false, List, [], ◌∷◌, ◌++◌, replicate, Some, None}
use Rattle.aof_object.specs.declared.records.Area.{Area}
use Rattle.aof_object.specs.declared.records.Object.{Object}
use Rattle.aof_object.specs.declared.records.Symbol.{Symbol}
use Rattle.elf_image.specs.declared.tables.Binding.TheVariants as binding
use Rattle.elf_image.specs.declared.tables.ElfSymbol.{ElfSymbol}
use Rattle.elf_image.specs.declared.tables.Section.{Section}
use Rattle.elf_image.specs.declared.tables.SectionKind.TheVariants as section
use Rattle.elf_image.specs.declared.tables.SymbolKind.TheVariants as symbol
use Rattle.elf_image.specs.declared.tables.SymbolPlace.TheVariants as place
use Rattle.link_model.specs.declared.placing.Placement.{Placement}
use Rattle.link_model.specs.declared.placing.Region.{Region}
use Rattle.link_model.specs.declared.selection.Linked.{Linked}
use Rattle.link_model.specs.RegionNames.{image_base, image_limit}
use Rattle.link_symbols.specs.Symbols.{tables_in}

-- ---- the link and its placement

-- code, at whole words
abbrev pub area : Area
area = record { name = 88 ∷ []; attributes = 0x202; size = 12; bytes = replicate 12 0; relocs = [] }

-- exported, of Thumb code
abbrev pub function : Symbol
function = record { name = 102 ∷ []; attributes = 0x1003; value = 4; area = Some 0 }

-- local, a datum
abbrev pub datum : Symbol
datum = record { name = 100 ∷ []; attributes = 0x101; value = 8; area = Some 0 }

abbrev pub object : Object
object = record { areas = area ∷ []; symbols = function ∷ datum ∷ []; entry = None }

abbrev pub linked : Linked
linked = record {
  objects = (record { name = []; «module» = []; value = object }) ∷ [];
  definitions = (record { name = 102 ∷ []; object = 0; symbol = 0 }) ∷ [];
  entry = record { object = 0; area = 0; offset = 0; thumb = false };
}

abbrev pub region : Region
region = record { name = 82 ∷ []; load_region = 0; load = 0x8000; base = 0x8000; length = 12; zero = 4 }

abbrev pub placement : Placement
placement = record {
  regions = region ∷ [];
  areas = (record { area = record { object = 0; area = 0 }; region = 0; address = 0x8000 }) ∷ [];
  veneers = [];
  boot = None;
}

-- ---- the tables

abbrev pub wanted_sections : List Section
wanted_sections =
    (record { name = 82 ∷ []; kind = section.Bytes; address = 0x8000; offset = 84; size = 12 })
    ∷ (record { name = 82 ∷ 36 ∷ 36 ∷ 90 ∷ 73 ∷ []; kind = section.Zeros; address = 0x800C; offset = 96; size = 4 })
    ∷ []

-- X, $a, $t, $d and d
abbrev pub wanted_locals : List ElfSymbol
wanted_locals =
    (record { name = 88 ∷ []; value = 0x8000; binding = binding.Local; kind = symbol.Untyped; place = place.Section 1 })
    ∷ (record { name = 36 ∷ 97 ∷ []; value = 0x8000; binding = binding.Local; kind = symbol.Untyped; place = place.Section 1 })
    ∷ (record { name = 36 ∷ 116 ∷ []; value = 0x8004; binding = binding.Local; kind = symbol.Untyped; place = place.Section 1 })
    ∷ (record { name = 36 ∷ 100 ∷ []; value = 0x8008; binding = binding.Local; kind = symbol.Untyped; place = place.Section 1 })
    ∷ (record { name = 100 ∷ []; value = 0x8008; binding = binding.Local; kind = symbol.Object; place = place.Section 1 })
    ∷ []

-- f, and the symbols of the region
abbrev pub wanted_globals : List ElfSymbol
wanted_globals =
    (record { name = 102 ∷ []; value = 0x8005; binding = binding.Global; kind = symbol.Function; place = place.Section 1 })
    ∷ (record { name = image_base (82 ∷ []); value = 0x8000; binding = binding.Global; kind = symbol.Untyped; place = place.Absolute })
    ∷ (record { name = image_limit (82 ∷ []); value = 0x8010; binding = binding.Global; kind = symbol.Untyped; place = place.Absolute })
    ∷ []

pub record WorkedExample : Type 0 where
  pub sections : (tables_in linked placement 1).sections ≡ wanted_sections
  pub symbols : (tables_in linked placement 1).symbols ≡ wanted_locals ++ wanted_globals
