-- Worked links of an object that is entered at the first of two words, MOV R0, #18 and SWI 0x11, and has a word of data
-- and two of zeros: as bytes alone from 0x8000 on, by a description, with a startup code that copies the data, and by a
-- text that is none.
use Rattle.std.proofs.Common.{◌≡◌, ℕ, false, List, [], ◌∷◌, ◌++◌, refl, Some, None, Result, Ok, Err}
use Rattle.std.specs.Prelude.{codes}
use Rattle.std.specs.List.{flat_map}
use Rattle.sdt_word.specs.Bytes.{bytes_of}
use Rattle.sdt_fault.specs.declared.kinds.ScatterKind.TheVariants as fault
use Rattle.sdt_fault.specs.declared.refusal.Refusal.{Refusal}
use Rattle.sdt_fault.specs.declared.refusal.Refusal.TheVariants.{ScatterLine}
use Rattle.boot_code.specs.Startup.{table_list}
use Rattle.boot_code.specs.Words.{boot_list}
use Rattle.link_model.specs.declared.images.Image.{Image}
use Rattle.link_model.specs.declared.images.ImageKind.TheVariants as form
use Rattle.link_model.specs.declared.placing.Region.{Region}
use Rattle.link_model.specs.declared.selection.Named.{Named}
use Rattle.place_model.specs.declared.scatter.Kind.TheVariants as kind
use Rattle.aof_object.specs.declared.records.Object.{Object}
use Rattle.scatter_text.specs.Reading as reading
use Rattle.link_select.specs.Selection.{selection_of}
use Rattle.armlink_core.specs.Images.{linking, scatter_linking}

abbrev words : List ℕ → List ℕ
words ws = flat_map (λ w. bytes_of w 4) ws

abbrev program : List ℕ
program = words (0xE3A00012 ∷ 0xEF000011 ∷ [])

abbrev datum : List ℕ
datum = words (0x12345678 ∷ [])

abbrev objects : List (Named Object)
objects = (record {
  name = codes "t.o";
  «module» = codes "t.o";
  value = record {
    areas = (record { name = codes "z"; attributes = 0x1002; size = 8; bytes = []; relocs = [] })
        ∷ (record { name = codes "d"; attributes = 2; size = 4; bytes = datum; relocs = [] })
        ∷ (record { name = codes "t"; attributes = 0x2202; size = 8; bytes = program; relocs = [] }) ∷ [];
    symbols = [];
    entry = Some (record { area = 2; offset = 0 });
  };
}) ∷ []

abbrev made : Image → Result Image Refusal
made i = Ok i

-- ---- bytes alone

abbrev region : List ℕ → ℕ → ℕ → ℕ → Region
region name base size cleared = record { name = name; load_region = 0; load = base; base = base; length = size; zero = cleared }

abbrev plain_image : Image
plain_image = record {
  kind = form.Plain;
  loads = (record { name = []; base = 0x8000; bytes = program ++ datum }) ∷ [];
  regions = region (codes "RO") 0x8000 8 0 ∷ region (codes "RW") 0x8008 4 0 ∷ region (codes "ZI") 0x800C 0 8 ∷ [];
  start = 0x8000;
  entry = 0x8000;
  call = 0x8000;
  thumb = false;
  bound = 0;
  moves = [];
}

plain_row : linking (kind.Plain 0x8000) None objects ≡ made plain_image
unfolding selection_of
plain_row = refl

-- ---- a description: the startup code's 42 words and its table of 11 stand behind the program

abbrev text : List ℕ
text = codes "ROM 0 { CODE 0 { *(+RO) } DATA 0x10000 { *(+RW, +ZI) } }"

abbrev startup : List ℕ
startup = words (boot_list ++ table_list ((record { source = 220; target = 0x10000; size = 4 }) ∷ []) ((record { base = 0x10004; size = 8 }) ∷ []) 0)

abbrev scatter_image : Image
scatter_image = record {
  kind = form.Scatter;
  loads = (record { name = codes "ROM"; base = 0; bytes = program ++ (startup ++ datum) }) ∷ [];
  regions = region (codes "CODE") 0 220 0
      ∷ (record { name = codes "DATA"; load_region = 0; load = 220; base = 0x10000; length = 4; zero = 8 }) ∷ [];
  start = 8;
  entry = 0;
  call = 0;
  thumb = false;
  bound = 70;
  moves = [];
}

scatter_row : scatter_linking text None objects ≡ made scatter_image
unfolding selection_of reading.shift reading.flaw reading.last
scatter_row = refl

-- ---- a text that is no description

unread_row : scatter_linking (codes "ROM 0 { }") None objects ≡ Err (ScatterLine 1 fault.Empty)
unfolding selection_of reading.shift reading.flaw reading.last
unread_row = refl
