-- The image that an ELF executable is: the file's bytes of each segment at its address, where as many bytes as the segment
-- has in memory are to be memory, entered at the entry (System V Application Binary Interface, Object Files: Program
-- Loading; ELF for the ARM Architecture: bit 0 of the entry tells the state; that a segment whose bytes are fewer than its
-- memory gets no zeros, since memory is 0 before anything is loaded, is this project's). `ElfLoadLaw` says that memory then
-- holds what the file loads (`elf_load`).
use Rattle.std.specs.Prelude.{◌≡◌, ℕ, ◌-◌, ◌%◌, ◌==◌, List, map, take, drop, unwrap_or, Result, Ok}
use Rattle.sdt_fault.specs.declared.refusal.Refusal.{Refusal}
use Rattle.chunk_file.specs.Reading.{◌>>=◌}
use Rattle.elf_image.specs.declared.records.Elf.{Elf}
use Rattle.elf_image.specs.declared.records.Segment.{Segment}
use Rattle.elf_image.specs.Checks.{ReadsElf}
use Rattle.elf_image.specs.Files.{elf_load}
use Rattle.elf_image.specs.Reading.{elf_of}
use Rattle.run_opening.specs.declared.image.Image.{Image}
use Rattle.run_opening.specs.declared.image.Load.{Load}
use Rattle.run_opening.specs.declared.image.Need.{Need}
use Rattle.run_opening.specs.Openings.{loaded}
use Rattle.run_opening.proofs.EvenLemmas.{even_below}
use Rattle.tool_run.specs.Ends.{named_by}

-- the file's bytes of a segment, at its address
abbrev pub file_bytes : List ℕ → Segment → List ℕ
file_bytes b s = take s.file_size (drop s.offset b)

abbrev pub load_of : List ℕ → Segment → Load
load_of b s = record { base = s.address; bytes = file_bytes b s }

-- its memory
abbrev pub need_of : Segment → Need
need_of s = record { base = s.address; size = s.memory_size }

-- the segments, and the entry with bit 0 cleared, in Thumb state where it was set
abbrev pub loaded_elf : List ℕ → Elf → Image
loaded_elf b e = record {
  loads = map (load_of b) e.segments;
  needs = map need_of e.segments;
  start = e.entry - e.entry % 2;
  thumb = e.entry % 2 == 1;
  even = λ thumb. even_below e.entry;
}

-- the image, or the first check of the file that fails
abbrev pub elf_image : List ℕ → List ℕ → Result Image Refusal
elf_image file b = named_by file (elf_of b) >>= λ e. Ok (loaded_elf b e)

-- ---- the law

-- over zeros, the loads make the bytes that the file loads, and leave zeros where it loads none
abbrev pub ElfLoadLaw : Type 0
ElfLoadLaw =
    (b : List ℕ) (e : Elf) → ReadsElf b e
    → (a : ℕ) → loaded (λ x. 0) (loaded_elf b e).loads a ≡ unwrap_or (elf_load b e a) 0
