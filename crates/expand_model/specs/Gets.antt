-- Which files a source gets. This project's: told without a list of the lines that are passed, by what the source would
-- expand to if the file were missing.
use Rattle.std.specs.Prelude.{ℕ, List, if◌then◌else◌, Option, None}
use Rattle.asm_model.specs.Forms.{same}
use Rattle.expand_model.specs.Expands.{Expands, MissingFile}
use Rattle.expand_model.specs.Steps.{Sources}

-- these files but one
abbrev pub without : List ℕ → Sources → Sources
without file sources name = if same file name then None else sources name

-- a GET that is reached before the end names the file: were that missing, the source would end there
abbrev pub GetsFile : Sources → ℕ → List ℕ → List ℕ → List ℕ → Type 0
GetsFile sources visits name text file = Expands (without file sources) visits name text (MissingFile file)
