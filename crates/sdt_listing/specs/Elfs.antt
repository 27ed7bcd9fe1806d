-- The listing of an ELF executable: its entry, and a line for each segment that is loaded. This project's.
use Rattle.std.specs.Prelude.{ℕ, List, [], ◌∷◌, ◌++◌, codes}
use Rattle.std.specs.List.{flat_map}
use Rattle.elf_image.specs.declared.records.Elf.{Elf}
use Rattle.elf_image.specs.declared.records.Segment.{Segment}
use Rattle.sdt_listing.specs.Listings.{line}
use Rattle.sdt_listing.specs.Parts.{eight}

-- a segment's address, its sizes in the file and in memory, and its flags
abbrev pub load_line : Segment → List ℕ
load_line s =
    line (codes "load" ∷ eight s.address ∷ eight s.file_size ∷ eight s.memory_size ∷ eight s.flags ∷ [])

abbrev pub elf_text : Elf → List ℕ
elf_text e =
    line (codes "elf" ∷ [])
    ++ (line (codes "entry" ∷ eight e.entry ∷ [])
    ++ (flat_map load_line e.segments
    ++ line (codes "end" ∷ [])))
