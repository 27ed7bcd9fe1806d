-- The outcome of a line's tokens. This project's.
use Rattle.std.specs.Prelude.{◌≡◌, ℕ, List, Result, Ok, Err}
use Rattle.std.specs.Global.{Vec}
use Rattle.sdt_fault.specs.declared.kinds.LineKind.{LineKind}
use Rattle.sdt_fault.specs.declared.kinds.LineKind.TheVariants.{Syntax}
use Rattle.asm_model.specs.declared.tokens.Token.{Token}
use Rattle.asm_model.specs.Tokens.{NoTokens, Tokens}

-- the tokens of a line, or Syntax where it has none
abbrev pub ScansTo : List ℕ → Result (Vec Token) LineKind → Type 0
ScansTo text (Ok list) = Tokens text list.items
ScansTo text (Err kind) = (kind ≡ Syntax) × NoTokens text
