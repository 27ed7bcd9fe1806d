-- A report worked out by hand: a program that calls a routine of a library, which is in Thumb code.
use Rattle.std.proofs.Common.{◌≡◌, ℕ, false, true, List, [], ◌∷◌, Some, None, refl}
use Rattle.std.specs.Prelude.{codes}
use Rattle.std.specs.List.{flat_map}
use Rattle.aof_object.specs.declared.records.Area.{Area}
use Rattle.aof_object.specs.declared.records.Object.{Object}
use Rattle.place_model.specs.declared.scatter.Kind.TheVariants as kind
use Rattle.link_model.specs.declared.placing.Placement.{Placement}
use Rattle.link_model.specs.declared.selection.Linked.{Linked}
use Rattle.link_model.specs.declared.selection.Named.{Named}
use Rattle.link_report.specs.Lines.{eight, line}
use Rattle.link_report.specs.Reports.{report_text}

-- code, read-only; with Thumb code; a zero-initialised area
abbrev area : List ℕ → ℕ → ℕ → Area
area name attributes size = record { name = name; attributes = attributes; size = size; bytes = []; relocs = [] }

abbrev program : Named Object
program = record {
  name = codes "main.s";
  «module» = codes "main.o";
  value = record {
    areas = area (codes "main") 0x2202 8 ∷ area (codes "stack") 0x1002 0x400 ∷ [];
    symbols = (record { name = codes "print"; attributes = 2; value = 0; area = None })
        ∷ (record { name = codes "top"; attributes = 3; value = 0x400; area = Some 1 })
        ∷ (record { name = codes "one"; attributes = 7; value = 1; area = None }) ∷ [];
    entry = Some (record { area = 0; offset = 4 });
  };
}

abbrev printer : Named Object
printer = record {
  name = codes "text.alf(print.o)";
  «module» = codes "print.o";
  value = record {
    areas = area (codes "printer") 0x702202 8 ∷ [];
    symbols = (record { name = codes "print"; attributes = 0x1003; value = 2; area = Some 0 }) ∷ [];
    entry = None;
  };
}

abbrev linked : Linked
linked = record {
  objects = program ∷ printer ∷ [];
  definitions = (record { name = codes "top"; object = 0; symbol = 1 }) ∷ (record { name = codes "one"; object = 0; symbol = 2 })
      ∷ (record { name = codes "print"; object = 1; symbol = 0 }) ∷ [];
  entry = record { object = 0; area = 0; offset = 4; thumb = false };
}

abbrev placement : Placement
placement = record {
  regions = (record { name = codes "CODE"; load_region = 0; load = 0; base = 0; length = 0x100; zero = 0 })
      ∷ (record { name = codes "RAM"; load_region = 0; load = 0x100; base = 0x10000; length = 0; zero = 0x400 }) ∷ [];
  areas = (record { area = record { object = 0; area = 0 }; region = 0; address = 0 })
      ∷ (record { area = record { object = 1; area = 0 }; region = 0; address = 8 })
      ∷ (record { area = record { object = 0; area = 1 }; region = 1; address = 0x10000 }) ∷ [];
  veneers = (record {
    veneer = record { region = 0; area = record { object = 1; area = 0 }; offset = 2; thumb = true };
    address = 0x10;
  }) ∷ [];
  boot = Some 0x1C;
}

report_row : report_text (kind.Scatter (record { loads = (record { name = codes "ROM"; base = 0; max = None; regions = [] }) ∷ [] })) 1 linked placement
    ≡ flat_map (λ l. line (l ∷ [])) (
    codes "armsdt report 1"
    ∷ codes "load ROM 00000000 00000100"
    ∷ codes "exec CODE 00000000 00000000 00000100 00000000"
    ∷ codes "area 00000000 00000008 00002202 main.s main"
    ∷ codes "area 00000008 00000008 00702202 text.alf(print.o) printer"
    ∷ codes "veneer 00000010 0000000C THUMB 0000000A text.alf(print.o) printer"
    ∷ codes "start 0000001C 000000E4"
    ∷ codes "exec RAM 00000100 00010000 00000000 00000400"
    ∷ codes "zero 00010000 00000400"
    ∷ codes "area 00010000 00000400 00001002 main.s stack"
    ∷ codes "symbol 00000001 - main.s - one"
    ∷ codes "symbol 0000000A THUMB text.alf(print.o) printer print"
    ∷ codes "symbol 00010400 - main.s stack top"
    ∷ codes "member text.alf(print.o) main.s print"
    ∷ codes "first 00000000 no"
    ∷ codes "entry 00000004 ARM main.s main"
    ∷ codes "end"
    ∷ []
    )
unfolding eight
report_row = refl
