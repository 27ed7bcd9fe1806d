-- The label field, the operation and what stands behind it. Of a line that is read the label field is its first token, where
-- the line doesn't begin with a blank, and the operation the next; a line's tokens begin so (`WordsLaw`). ARM SDT 2.50
-- Reference Guide, chapter on the assembler. This project's: of a line that isn't read the same holds as it stands, but that
-- dollars count as bytes of words, and dots in the label field, so that it can be told apart before it is substituted.
use Rattle.std.specs.Prelude.{◌≡◌, ℕ, zero, suc, ◌+◌, List, [], ◌∷◌, length, take, drop, reverse, map, ◌==◌, ◌&&◌, ◌||◌, not, Bool, true, false, if◌then◌else◌, Option, Some, None}
use Rattle.std.specs.List.{prefix_len}
use Rattle.std.specs.Option.{is_some}
use Rattle.asm_model.specs.declared.tokens.Token.{Token}
use Rattle.asm_model.specs.Forms.{is_blank, is_digit, is_word, is_name, is_barred, form_of}
use Rattle.asm_model.specs.Parts.{piece}
use Rattle.asm_model.specs.Says.{between_bars, sentence}
use Rattle.asm_model.specs.Tokens.{Tokens, blanks, is_operation_sign}
use Rattle.expand_model.specs.declared.standing.Standing.{Standing}
use Rattle.expand_model.specs.declared.standing.Standing.TheVariants.{Quoted}
use Rattle.expand_model.specs.Standing.{Byte, before_comment}

pub record Words : Type 0 where
  pub label : List ℕ
  pub operation : List ℕ
  pub behind : List ℕ

-- how many bytes the longest prefix with a form has, of those of at most n bytes; 0 where none has one
abbrev pub longest : ℕ → List ℕ → ℕ
longest zero rest = 0
longest (suc n) rest = if is_some (form_of (take (suc n) rest)) then suc n else longest n rest

-- how many bytes the token at the front has; 0 where none stands there, as in front of a comment
unfoldable pub token_width : List ℕ → ℕ
token_width rest = longest (length rest) rest

-- & = % are operations by themselves; any other is as wide as these tell
abbrev pub sign_or : (List ℕ → ℕ) → List ℕ → ℕ
sign_or width rest = if is_operation_sign rest then 1 else width rest

-- a line that begins with a blank has no label
abbrev pub in_column_1 : (List ℕ → ℕ) → List ℕ → ℕ
in_column_1 width [] = 0
in_column_1 width (c ∷ cs) = if is_blank c then 0 else width (c ∷ cs)

abbrev pub without_blanks : List ℕ → List ℕ
without_blanks rest = drop (blanks rest) rest

-- what stands behind so many bytes and blanks
abbrev pub behind_width : ℕ → List ℕ → List ℕ
behind_width n text = without_blanks (drop n text)

-- the words of a line whose label field and operation are as wide as these tell
abbrev pub words_with : (List ℕ → ℕ) → (List ℕ → ℕ) → List ℕ → Words
words_with label operation text = record {
  label = take (label text) text;
  operation = take (operation (behind_width (label text) text)) (behind_width (label text) text);
  behind = drop (operation (behind_width (label text) text)) (behind_width (label text) text);
}

-- of a line that is read
unfoldable pub words_of : List ℕ → Words
words_of text = words_with (in_column_1 token_width) (sign_or token_width) text

-- ---- lines that aren't read

abbrev pub is_of_operation : ℕ → Bool
is_of_operation c = is_word c || c == 36

abbrev pub is_of_label : ℕ → Bool
is_of_label c = is_of_operation c || c == 46

-- a word of bytes that pass, whose first is no digit, or else a token
abbrev pub raw_width : (ℕ → Bool) → List ℕ → ℕ
raw_width passes [] = 0
raw_width passes (c ∷ cs) =
    if passes c && not (is_digit c) then prefix_len passes cs + 1 else token_width (c ∷ cs)

-- of a line that isn't read
unfoldable pub raw_words_of : List ℕ → Words
raw_words_of text = words_with (in_column_1 (raw_width is_of_label)) (sign_or (raw_width is_of_operation)) text

-- ---- tokens

-- the bytes of a token, where it is there
abbrev pub maybe_piece : List ℕ → Option Token → List ℕ
maybe_piece text None = []
maybe_piece text (Some t) = piece text t

-- the label field and the operation of a line with tokens are those of its tokens
abbrev pub WordsLaw : Type 0
WordsLaw =
    (text : List ℕ) (ts : List Token) → Tokens text ts
    → ((words_of text).label ≡ maybe_piece text (sentence ts).label)
    × ((words_of text).operation ≡ maybe_piece text (sentence ts).operation)

-- ---- names and operands

-- a name, or a name between bars without them
abbrev pub as_name : List ℕ → Option (List ℕ)
as_name s = if is_name s then Some s else if is_barred s then Some (between_bars s) else None

-- what is there, as a list
abbrev pub listed : {A : Type 0} → Option A → List A
listed None = []
listed (Some a) = a ∷ []

abbrev pub is_empty : List ℕ → Bool
is_empty [] = true
is_empty (c ∷ cs) = false

-- without the blanks around it
abbrev pub trimmed : List ℕ → List ℕ
trimmed s = reverse (without_blanks (reverse (without_blanks s)))

-- what stands behind an operation, without the comment and the blanks around it
abbrev pub operand_text : List ℕ → List ℕ
operand_text behind = trimmed (map (λ b. b.0) (before_comment behind))

abbrev pub is_quoted : Standing → Bool
is_quoted Quoted = true
is_quoted _ = false

abbrev pub in_front : ℕ → List (List ℕ) → List (List ℕ)
in_front c [] = (c ∷ []) ∷ []
in_front c (s ∷ ss) = (c ∷ s) ∷ ss

-- bytes as pieces between the commas outside quotes
abbrev pub pieces : List Byte → List (List ℕ)
pieces [] = [] ∷ []
pieces (b ∷ bs) = if b.0 == 44 && not_quoted b.1 then [] ∷ pieces bs else in_front b.0 (pieces bs)
  where
    not_quoted : Standing → Bool
    not_quoted s = if is_quoted s then false else true

-- the arguments behind an operation; none where nothing stands there
unfoldable pub arguments : List ℕ → List (List ℕ)
arguments behind = if is_empty (operand_text behind) then [] else map trimmed (pieces (before_comment behind))
