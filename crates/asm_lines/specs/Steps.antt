-- Steps of the code. This project's.
use Rattle.std.specs.Prelude.{◌≡◌, ℕ, ◌<◌, ◌≤◌, List, [], ◌∷◌, length, ◌==◌, Bool, true, false, if◌then◌else◌, Option, None, Some}
use Rattle.std.specs.List.{slice_split}
use Rattle.asm_model.specs.declared.tokens.Due.{Due}
use Rattle.asm_model.specs.declared.tokens.Due.TheVariants.{Label, Operation, Operands, Nothing}
use Rattle.asm_model.specs.declared.tokens.TokenKind.{TokenKind}
use Rattle.asm_model.specs.Tokens.{IsTokenAt, begins_comment, is_operation_sign}

-- the first word of a text with spaces between its words, and the text of the others
abbrev pub Cuts : List ℕ → List ℕ → Option (List ℕ) → Type 0
Cuts text word None = slice_split (λ c. c == 32) text ≡ word ∷ []
Cuts text word (Some behind) =
    (slice_split (λ c. c == 32) text ≡ word ∷ slice_split (λ c. c == 32) behind) × (length behind < length text)

-- the one token at the front, or None where there is none
abbrev pub IsTheToken : Due → List ℕ → Option (TokenKind × ℕ) → Type 0
IsTheToken due rest None = (kind : TokenKind) (n : ℕ) → IsTokenAt due kind n rest → ⊥
IsTheToken due rest (Some t) =
    IsTokenAt due t.0 t.1 rest
    × ((kind : TokenKind) (n : ℕ) → IsTokenAt due kind n rest → (kind ≡ t.0) × (n ≡ t.1))
    × (0 < t.1)
    × (t.1 ≤ length rest)

-- a token and its length, or None where the length is 0
abbrev pub some_token : TokenKind × ℕ → Option (TokenKind × ℕ)
some_token t = if t.1 == 0 then None else Some t

-- whether an operation is due, and its first byte is one by itself
abbrev pub is_sign_due : Due → List ℕ → Bool
is_sign_due Label rest = false
is_sign_due Operation rest = is_operation_sign rest
is_sign_due Operands rest = false
is_sign_due Nothing rest = false

-- whether a line may end behind the blanks before these bytes
abbrev pub ends_at : Due → List ℕ → Bool
ends_at Label front = begins_comment front
ends_at Operation front = begins_comment front
ends_at Operands front = begins_comment front
ends_at Nothing front = true
