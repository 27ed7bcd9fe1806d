-- The sections of an image's execution regions (System V Application Binary Interface, Object Files: Sections). That there is one
-- for the bytes of each region, and another for its zero part, and their names, are this project's.
use Rattle.std.specs.Prelude.{ℕ, suc, ◌+◌, ◌%◌, ◌^◌, Bool, ◌&&◌, ◌==◌, nat_lt, nat_le, if◌then◌else◌, List, [], ◌∷◌, ◌++◌, codes, Option, Some, None}
use Rattle.std.specs.Option.{option_or}
use Rattle.link_model.specs.declared.placing.Region.{Region}
use Rattle.elf_image.specs.declared.tables.Section.{Section}
use Rattle.elf_image.specs.declared.tables.SectionKind.TheVariants as section
use Rattle.elf_image.specs.declared.tables.SymbolPlace.{SymbolPlace}
use Rattle.elf_image.specs.declared.tables.SymbolPlace.TheVariants as place
use Rattle.elf_image.specs.Files.{first_offset}

-- ---- of a region whose bytes stand at an offset in the file

abbrev pub bytes_section : ℕ → Region → Section
bytes_section offset r = record {
  name = r.name;
  kind = section.Bytes;
  address = r.base % 2 ^ 32;
  offset = offset % 2 ^ 32;
  size = r.length % 2 ^ 32;
}

abbrev pub zeros_name : List ℕ → List ℕ
zeros_name region = region ++ codes "$$ZI"

-- the zero part stands behind the bytes in memory, and has none in the file
abbrev pub zeros_section : ℕ → Region → Section
zeros_section offset r = record {
  name = zeros_name r.name;
  kind = section.Zeros;
  address = (r.base + r.length) % 2 ^ 32;
  offset = (offset + r.length) % 2 ^ 32;
  size = r.zero % 2 ^ 32;
}

-- of what is empty there is none
abbrev pub bytes_sections : ℕ → Region → List Section
bytes_sections offset r = if r.length == 0 then [] else bytes_section offset r ∷ []

abbrev pub zeros_sections : ℕ → Region → List Section
zeros_sections offset r = if r.zero == 0 then [] else zeros_section offset r ∷ []

abbrev pub region_sections : ℕ → Region → List Section
region_sections offset r = bytes_sections offset r ++ zeros_sections offset r

-- of regions whose bytes stand one behind the other from an offset on
abbrev pub sections_from : ℕ → List Region → List Section
sections_from offset [] = []
sections_from offset (r ∷ regions) = region_sections offset r ++ sections_from (offset + r.length) regions

-- of an image with so many load regions, whose bytes stand behind the program headers
abbrev pub sections_in : ℕ → List Region → List Section
sections_in loads regions = sections_from (first_offset loads) regions

-- ---- the section of an address

abbrev pub end_of : Section → ℕ
end_of s = s.address + s.size

abbrev pub holds : ℕ → Section → Bool
holds address s = nat_le s.address address && nat_lt address (end_of s)

abbrev pub ends_at : ℕ → Section → Bool
ends_at address s = end_of s == address

-- the number of the first that passes, where they are counted from k on
abbrev pub number_where : (Section → Bool) → ℕ → List Section → Option ℕ
number_where test k [] = None
number_where test k (s ∷ sections) = if test s then Some k else number_where test (suc k) sections

abbrev pub place_by : Option ℕ → SymbolPlace
place_by None = place.Absolute
place_by (Some k) = place.Section k

-- the section that holds it or, where none does, the one that ends there; else it is at no section's
abbrev pub place_of : ℕ → List Section → SymbolPlace
place_of address sections =
    place_by (option_or (number_where (holds address) 1 sections) (number_where (ends_at address) 1 sections))
