-- The object of the interrupt kit, word by word (SDT 2.50 Reference Guide, ARM Object Format; ARM Architecture Reference
-- Manual, exception vectors and the instructions; vectors, handler, names and attributes are this project's).
use Rattle.std.specs.Prelude.{ℕ, List, [], ◌∷◌, Some, None, codes}
use Rattle.std.specs.List.{flat_map}
use Rattle.sdt_word.specs.Bytes.{bytes_of}
use Rattle.aof_object.specs.declared.records.Area.{Area}
use Rattle.aof_object.specs.declared.records.Object.{Object}
use Rattle.aof_object.specs.declared.records.Reloc.{Reloc}
use Rattle.aof_object.specs.declared.records.Symbol.{Symbol}

-- the vectors, of which the first is left to the linker and that of IRQ leads to the handler; the handler
--     LDR sp,[pc,#0x20]; STMDB sp!,{r0,r1}; LDR r0,[pc,#0x1C]; STR r0,[r0]; LDR r0,[pc,#0x10]
--     LDR r1,[r0]; ADD r1,r1,#1; STR r1,[r0]; LDMIA sp!,{r0,r1}; SUBS pc,lr,#4
-- and its literals: the place of the count word in the work area, and the address that it acknowledges to
abbrev pub vector_words : ℕ → List ℕ
vector_words ack =
    0xEAFFFFFE ∷ 0xEAFFFFFE ∷ 0xEAFFFFFE ∷ 0xEAFFFFFE ∷ 0xEAFFFFFE ∷ 0xEAFFFFFE ∷ 0xEA000000 ∷ 0xEAFFFFFE
    ∷ 0xE59FD020 ∷ 0xE92D0003 ∷ 0xE59F001C ∷ 0xE5800000 ∷ 0xE59F0010
    ∷ 0xE5901000 ∷ 0xE2811001 ∷ 0xE5801000 ∷ 0xE8BD0003 ∷ 0xE25EF004
    ∷ 8 ∷ ack ∷ []

-- the first vector branches to symbol 0; the literal at 0x48 counts from area 1
abbrev pub vector_relocs : List Reloc
vector_relocs = record { offset = 0; word = 0x8F000000 } ∷ record { offset = 0x48; word = 0x82000001 } ∷ []

-- code, read-only, at a multiple of 4
abbrev pub vectors_of : ℕ → Area
vectors_of ack = record {
  name = codes "irq_vectors";
  attributes = 0x2202;
  size = 0x50;
  bytes = flat_map (λ w. bytes_of w 4) (vector_words ack);
  relocs = vector_relocs;
}

-- zero-initialised: two words of stack, and the count word
abbrev pub work_area : Area
work_area = record { name = codes "irq_work"; attributes = 0x1002; size = 12; bytes = []; relocs = [] }

-- a reference, and an exported symbol of the count word
abbrev pub kit_symbols : List Symbol
kit_symbols =
    record { name = codes "Boot$$Start"; attributes = 2; value = 0; area = None }
    ∷ record { name = codes "irq_count"; attributes = 3; value = 8; area = Some 1 } ∷ []

abbrev pub kit_of : ℕ → Object
kit_of ack = record { areas = vectors_of ack ∷ work_area ∷ []; symbols = kit_symbols; entry = None }
