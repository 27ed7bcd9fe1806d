-- The listing of an ARM image file: what its header says, the words of the read-only part behind the header, and the
-- bytes of the read-write part, each with its offset in the file. This project's.
use Rattle.std.specs.Prelude.{ℕ, ◌+◌, ◌-◌, ◌/◌, Bool, if◌then◌else◌, List, [], ◌∷◌, ◌++◌, take, drop, codes}
use Rattle.link_model.specs.declared.images.Aif.{Aif}
use Rattle.sdt_listing.specs.Listings.{data_lines, from, line, word_lines}
use Rattle.sdt_listing.specs.Parts.{eight}

abbrev pub reloc_word : Bool → List ℕ
reloc_word relocatable = if relocatable then codes "yes" else codes "no"

unfoldable pub head_text : Aif → List ℕ
head_text a =
    line (codes "aif" ∷ [])
    ++ (line (codes "base" ∷ eight a.base ∷ [])
    ++ (line (codes "ro" ∷ eight a.ro ∷ [])
    ++ (line (codes "rw" ∷ eight a.rw ∷ [])
    ++ (line (codes "zi" ∷ eight a.zero ∷ [])
    ++ line (codes "reloc" ∷ reloc_word a.relocatable ∷ [])))))

-- the words from offset 0x80 to the end of the read-only part
abbrev pub code_text : ℕ → List ℕ → List ℕ
code_text ro bytes = word_lines bytes (from 32 (ro / 4 - 32))

-- the bytes of the read-write part behind it
abbrev pub rw_part : ℕ → ℕ → List ℕ → List ℕ
rw_part ro rw bytes = take rw (drop ro bytes)

abbrev pub data_text : ℕ → ℕ → List ℕ → List ℕ
data_text ro rw bytes = data_lines ro (rw_part ro rw bytes) (from 0 ((rw + 15) / 16))

abbrev pub aif_text : Aif → List ℕ → List ℕ
aif_text a bytes = head_text a ++ (code_text a.ro bytes ++ (data_text a.ro a.rw bytes ++ line (codes "end" ∷ [])))
