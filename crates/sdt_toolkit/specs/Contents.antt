-- What is read for a link: the scatter file's text, if there is one, and what stands under the names, of a source no
-- further than its limit. This project's.
use Rattle.std.specs.Prelude.{◌≡◌, ℕ, ◌^◌, ◌<◌, ◌&&◌, ◌++◌, Bool, true, List, [], ◌∷◌, All, length, Option}
use Rattle.sdt_outside.specs.Files.{Files, IsFound}
use Rattle.armasm_core.specs.Assembling.{most_bytes}
use Rattle.tool_words.specs.declared.command.LinkPlacement.{LinkPlacement}
use Rattle.tool_answers.specs.Inputs.{AreInputs}
use Rattle.sdt_toolkit.specs.declared.contents.Content.{Content}
use Rattle.sdt_toolkit.specs.declared.contents.Content.TheVariants as content
use Rattle.sdt_toolkit.specs.declared.contents.LinkFiles.{LinkFiles}
use Rattle.sdt_toolkit.specs.Inputs.{is_source_name}
use Rattle.sdt_toolkit.specs.Links.{read_by}

-- what was read agrees with what a file holds: it is all of that, or of a source that is too long it tells so
abbrev pub Agrees : Bool → Content → List ℕ → Type 0
Agrees source (content.Whole kept) bytes = kept ≡ bytes
Agrees source content.Long bytes = (source ≡ true) × (most_bytes < length bytes)

abbrev pub AgreesUnder : Bool → List ℕ → Content → List ℕ → Type 0
AgreesUnder sources name c bytes = Agrees (sources && is_source_name name) c bytes

-- the same of files under names
abbrev pub AllAgree : Bool → List (List ℕ) → List Content → List (List ℕ) → Type 0
AllAgree sources [] [] [] = Unit {0}
AllAgree sources (name ∷ names) (c ∷ cs) (bytes ∷ contents) = AgreesUnder sources name c bytes × AllAgree sources names cs contents
AllAgree sources names cs contents = ⊥

abbrev pub IsShort : Content → Type 0
IsShort (content.Whole kept) = length kept < 2 ^ 32
IsShort content.Long = Unit {0}

-- what is kept of a file agrees with what it holds, as far as a store tells that
pub record IsKept (told : Option Files) (source : Bool) (name : List ℕ) (c : Content) : Type 0 where
  pub bytes : List ℕ
  pub found : IsFound told name bytes
  pub agrees : Agrees source c bytes

-- the same of files in order
pub record AreKept (told : Option Files) (sources : Bool) (names : List (List ℕ)) (cs : List Content) : Type 0 where
  pub contents : List (List ℕ)
  pub found : AreInputs told names contents
  pub agree : AllAgree sources names cs contents

-- and of all files of a link
pub record AreFiles (told : Option Files) (sources : Bool) (f : LinkPlacement) (names : List (List ℕ)) (r : LinkFiles) : Type 0 where
  pub inputs : List (List ℕ)
  pub found : AreInputs told (read_by f names) (r.texts ++ inputs)
  pub agree : AllAgree sources names r.contents inputs

-- they are as many as are read
pub record AreCounted (f : LinkPlacement) (names : List (List ℕ)) (r : LinkFiles) : Type 0 where
  pub texts : length r.texts ≡ length (read_by f [])
  pub inputs : length r.contents ≡ length names
  pub short : All IsShort r.contents
