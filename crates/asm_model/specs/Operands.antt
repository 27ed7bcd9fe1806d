-- Operands: the tokens behind an operation, cut at the commas that stand outside brackets. ARM SDT 2.50 Reference
-- Guide, chapter on the assembler.
use Rattle.std.specs.Prelude.{ℕ, ◌+◌, ◌-◌, List, [], ◌∷◌, ◌++◌, ◌==◌, ◌&&◌, ◌||◌, Bool, if◌then◌else◌, codes}
use Rattle.asm_model.specs.declared.tokens.Token.{Token}
use Rattle.asm_model.specs.Forms.{same}
use Rattle.asm_model.specs.Parts.{piece}

abbrev pub opens : List ℕ → Bool
opens s = same s (codes "(") || (same s (codes "[") || same s (codes "{"))

abbrev pub closes : List ℕ → Bool
closes s = same s (codes ")") || (same s (codes "]") || same s (codes "}"))

-- how many brackets are open behind a token
unfoldable pub depth_behind : ℕ → List ℕ → ℕ
depth_behind depth s = if opens s then depth + 1 else if closes s then depth - 1 else depth

-- tokens at the front of the first operand
abbrev pub lengthened : List Token → List (List Token) → List (List Token)
lengthened front [] = front ∷ []
lengthened front (o ∷ os) = (front ++ o) ∷ os

-- one operand or more, where so many brackets are open
abbrev pub operands_at : List ℕ → ℕ → List Token → List (List Token)
operands_at text depth [] = [] ∷ []
operands_at text depth (t ∷ ts) =
    if depth == 0 && same (piece text t) (codes ",") then [] ∷ operands_at text 0 ts
    else lengthened (t ∷ []) (operands_at text (depth_behind depth (piece text t)) ts)

-- the operands of tokens; no tokens have none
abbrev pub operands : List ℕ → List Token → List (List Token)
operands text [] = []
operands text (t ∷ ts) = operands_at text 0 (t ∷ ts)
