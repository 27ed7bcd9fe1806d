-- What symbols tell of the starts of areas, by an index. This project's.
use Rattle.std.specs.Prelude.{◌≡◌, ℕ, nat_eq, List, Option}
use Rattle.std.specs.declared.hash.FoldHasher.{FoldHasher}
use Rattle.std.specs.declared.hash.BuildHasherDefault.{BuildHasherDefault}
use Rattle.indexmap.specs.IndexMap.{IndexMap, get}
use Rattle.aof_object.specs.declared.records.Symbol.{Symbol}
use Rattle.link_symbols.specs.declared.marks.Content.{Content}
use Rattle.link_symbols.specs.Marks.{told_at_start}

abbrev pub StartIndex : Type 0
StartIndex = IndexMap ℕ Content (BuildHasherDefault FoldHasher)

abbrev pub told_in : StartIndex → ℕ → Option Content
told_in m area = get nat_eq m area

-- each area has what the first of these symbols at its start tells
abbrev pub AreStarts : List Symbol → StartIndex → Type 0
AreStarts symbols m = (area : ℕ) → told_in m area ≡ told_at_start symbols area
