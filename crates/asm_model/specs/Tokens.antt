-- The tokens of a line. ARM SDT 2.50 Reference Guide, chapter on the assembler: a label stands in column 1,
-- then come an operation and its operands; that what follows TTL or SUBT is free is this project's.
use Rattle.std.specs.Prelude.{◌≡◌, ℕ, ◌+◌, ◌-◌, ◌<◌, ◌≤◌, nat_lt, ◌==◌, ◌||◌, Bool, true, false, IsTrue, if◌then◌else◌, MatchBool}
use Rattle.std.specs.Prelude.{List, [], ◌∷◌, length, take, drop, codes, map, Option, Some, None}
use Rattle.std.specs.List.{prefix_len}
use Rattle.std.specs.Char.{to_ascii_lowercase}
use Rattle.asm_model.specs.declared.tokens.Token.{Token}
use Rattle.asm_model.specs.declared.tokens.Due.{Due}
use Rattle.asm_model.specs.declared.tokens.Due.TheVariants.{Label, Operation, Operands, Nothing}
use Rattle.asm_model.specs.declared.tokens.TokenKind.{TokenKind}
use Rattle.asm_model.specs.declared.tokens.TokenKind.TheVariants.{Name, Barred, Number, Quoted, Character, Braced, Local, Sign}
use Rattle.asm_model.specs.Forms.{is_blank, form_of, same}
use Rattle.asm_model.specs.Limits.{name_bytes}

-- the first n bytes have the form of the kind, and no longer prefix has the form of any
pub record IsLongest (kind : TokenKind) (n : ℕ) (rest : List ℕ) : Type 0 where
  pub within : n ≤ length rest
  pub form : form_of (take n rest) ≡ Some kind
  pub longest : (m : ℕ) → n < m → m ≤ length rest → form_of (take m rest) ≡ None

-- the bytes that are an operation by themselves: & = %
abbrev pub is_operation_sign : List ℕ → Bool
is_operation_sign [] = false
is_operation_sign (c ∷ cs) = c == 38 || c == 61 || c == 37

-- the token at the front of the rest
abbrev pub IsTokenAt : Due → TokenKind → ℕ → List ℕ → Type 0
IsTokenAt Label kind n rest = IsLongest kind n rest
IsTokenAt Operation kind n rest =
    MatchBool (is_operation_sign rest) ((kind ≡ Sign) × (n ≡ 1)) (IsLongest kind n rest)
IsTokenAt Operands kind n rest = IsLongest kind n rest
IsTokenAt Nothing kind n rest = ⊥

-- whether a word is a name, in any case
abbrev pub is_called : List ℕ → List ℕ → Bool
is_called name word = same (map to_ascii_lowercase word) (map to_ascii_lowercase name)

-- TTL and SUBT
abbrev pub is_free : List ℕ → Bool
is_free word = is_called (codes "TTL") word || is_called (codes "SUBT") word

-- what is due behind a token
abbrev pub due_behind : Due → List ℕ → Due
due_behind Label word = Operation
due_behind Operation word = if is_free word then Nothing else Operands
due_behind Operands word = Operands
due_behind Nothing word = Nothing

-- how many blanks stand at the front
abbrev pub blanks : List ℕ → ℕ
blanks rest = prefix_len is_blank rest

-- nothing, or a comment
abbrev pub begins_comment : List ℕ → Bool
begins_comment [] = true
begins_comment (c ∷ cs) = c == 59

-- nothing but blanks and a comment
abbrev pub is_comment : List ℕ → Bool
is_comment rest = begins_comment (drop (blanks rest) rest)

-- whether the line may end there: with a comment, or with anything where nothing is due
abbrev pub is_end : Due → List ℕ → Bool
is_end Label rest = is_comment rest
is_end Operation rest = is_comment rest
is_end Operands rest = is_comment rest
is_end Nothing rest = true

-- the tokens of the rest of a line, which begins at a place: blanks alone stand before each, and none is left out
abbrev pub TokensFrom : List Token → Due → ℕ → List ℕ → Type 0
TokensFrom [] due place rest = IsTrue (is_end due rest)
TokensFrom (t ∷ ts) due place rest =
    (n : ℕ) × (t.start ≡ place + blanks rest) × (t.end ≡ t.start + n)
    × IsTokenAt due t.kind n (drop (blanks rest) rest)
    × TokensFrom ts (due_behind due (take n (drop (blanks rest) rest))) t.end (drop n (drop (blanks rest) rest))

-- a line that begins with a blank has no label
abbrev pub first_due : List ℕ → Due
first_due [] = Operation
first_due (c ∷ cs) = if is_blank c then Operation else Label

-- the tokens of a line
abbrev pub Tokens : List ℕ → List Token → Type 0
Tokens text ts = TokensFrom ts (first_due text) 0 text

-- a line that has no tokens: at some place no token stands
abbrev pub NoTokens : List ℕ → Type 0
NoTokens text = (ts : List Token) → Tokens text ts → ⊥

-- how many bytes a token has
abbrev pub width : Token → ℕ
width t = t.end - t.start

-- whether a token is a name beyond the limit; bars are no part of a name
abbrev pub is_long : Token → Bool
is_long t = longer_than t.kind (width t)
  where
    longer_than : TokenKind → ℕ → Bool
    longer_than Name n = nat_lt name_bytes n
    longer_than Barred n = nat_lt (name_bytes + 2) n
    longer_than Number n = false
    longer_than Quoted n = false
    longer_than Character n = false
    longer_than Braced n = false
    longer_than Local n = false
    longer_than Sign n = false

-- the tokens of a line, or that it has none
abbrev pub AreTokens : List ℕ → Option (List Token) → Type 0
AreTokens text None = NoTokens text
AreTokens text (Some ts) = Tokens text ts

-- a line has one list of tokens, or none
abbrev pub OneScan : Type 0
OneScan = (text : List ℕ) (a b : Option (List Token)) → AreTokens text a → AreTokens text b → a ≡ b
