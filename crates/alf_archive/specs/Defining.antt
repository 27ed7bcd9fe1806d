-- Which members define a symbol: those whose own symbol tables export it (SDT 2.50 Reference Guide, ARM
-- Object Library Format). The library's own table, OFL_SYMT, has no part in it.
use Rattle.std.specs.Prelude.{ℕ, if◌then◌else◌, List, [], ◌∷◌}
use Rattle.aof_object.specs.Names.{among}
use Rattle.aof_object.specs.Objects.{exported}
use Rattle.alf_archive.specs.declared.records.Member.{Member}
use Rattle.alf_archive.specs.declared.records.Archive.{Archive}
use Rattle.alf_archive.specs.Numbered.{numbered}

-- the member's number, where its object exports the symbol
abbrev pub number_if_defining : List ℕ → ℕ → Member → List ℕ
number_if_defining symbol i m = if among symbol (exported m.object.symbols) then i ∷ [] else []

abbrev pub defining : List ℕ → Archive → List ℕ
defining symbol a = numbered (number_if_defining symbol) 0 a.members
