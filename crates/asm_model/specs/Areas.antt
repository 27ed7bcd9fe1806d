-- The attributes of AREA. ARM SDT 2.50 Reference Guide, chapter on the assembler. Which of them exclude each other is
-- this project's, and so is that an attribute stands once.
use Rattle.std.specs.Prelude.{◌≡◌, ℕ, nat_lt, ◌==◌, ◌&&◌, ◌||◌, not, Bool, false, if◌then◌else◌, MatchBool}
use Rattle.std.specs.Prelude.{List, [], ◌∷◌, ◌++◌, codes, Option, Some, None, Result, Ok, Err, count_by}
use Rattle.std.specs.List.{list_any}
use Rattle.std.specs.Option.{is_some}
use Rattle.sdt_fault.specs.declared.kinds.LineKind.{LineKind}
use Rattle.sdt_fault.specs.declared.kinds.LineKind.TheVariants.{Syntax}
use Rattle.asm_model.specs.declared.tokens.Token.{Token}
use Rattle.asm_model.specs.declared.tokens.TokenKind.{TokenKind}
use Rattle.asm_model.specs.declared.tokens.TokenKind.TheVariants as kind
use Rattle.asm_model.specs.declared.exprs.Expr.{Expr}
use Rattle.asm_model.specs.declared.directives.Attribute.{Attribute}
use Rattle.asm_model.specs.declared.directives.Attribute.TheVariants.{Code, Data, ReadOnly, ReadWrite, NoInit}
use Rattle.asm_model.specs.declared.directives.Attribute.TheVariants.{Interwork, Halfword, Pic, Reentrant, Align}
use Rattle.asm_model.specs.declared.directives.Contents.{Contents}
use Rattle.asm_model.specs.declared.directives.Contents.TheVariants as contents
use Rattle.asm_model.specs.declared.directives.AreaAttributes.{AreaAttributes}
use Rattle.asm_model.specs.Directives.{row_of}
use Rattle.asm_model.specs.Forms.{same}
use Rattle.asm_model.specs.Grammar.{ParsesTokens}
use Rattle.asm_model.specs.Parts.{piece}
use Rattle.asm_model.specs.Readings.{mapped, on_both}

-- the attribute that a word names
unfoldable pub attribute_named : List ℕ → Option Attribute
attribute_named word = row_of word (
    (codes "CODE", Code) ∷ (codes "DATA", Data) ∷ (codes "READONLY", ReadOnly) ∷ (codes "READWRITE", ReadWrite)
    ∷ (codes "NOINIT", NoInit) ∷ (codes "INTERWORK", Interwork) ∷ (codes "HALFWORD", Halfword) ∷ (codes "PIC", Pic)
    ∷ (codes "REENTRANT", Reentrant) ∷ (codes "ALIGN", Align) ∷ [])

-- attributes are told apart by numbers
abbrev pub attribute_code : Attribute → ℕ
attribute_code Code = 0
attribute_code Data = 1
attribute_code ReadOnly = 2
attribute_code ReadWrite = 3
attribute_code NoInit = 4
attribute_code Interwork = 5
attribute_code Halfword = 6
attribute_code Pic = 7
attribute_code Reentrant = 8
attribute_code Align = 9

-- how often an attribute stands among these
abbrev pub occurrences : Attribute → List Attribute → ℕ
occurrences a words = count_by (λ b. attribute_code b == attribute_code a) words

abbrev pub has : Attribute → List Attribute → Bool
has a words = nat_lt 0 (occurrences a words)

-- whether an attribute stands twice
unfoldable pub is_repeated : List Attribute → Bool
is_repeated words =
    list_any (λ a. nat_lt 1 (occurrences a words))
    (Code ∷ Data ∷ ReadOnly ∷ ReadWrite ∷ NoInit ∷ Interwork ∷ Halfword ∷ Pic ∷ Reentrant ∷ Align ∷ [])

-- whether attributes exclude each other: an area is code or data, only data is zero, and only code has the marks of
-- code
unfoldable pub is_contradicting : List Attribute → Bool
is_contradicting words =
    (has Code words && (has Data words || has NoInit words))
    || (not (has Code words) && not (has Data words) && not (has NoInit words))
    || (has ReadOnly words && has ReadWrite words)
    || (not (has Code words) && (has Interwork words || has Halfword words))

-- what an area with these attributes holds
abbrev pub contents_of : List Attribute → Contents
contents_of words = if has Code words then contents.Code else if has NoInit words then contents.Zeroes else contents.Data

-- code is read-only and data read-write unless said
abbrev pub is_read_only : List Attribute → Bool
is_read_only words = if has Code words then not (has ReadWrite words) else has ReadOnly words

-- a word by itself: ALIGN has a number
abbrev pub plain_attribute : Option Attribute → Result (Option Expr) LineKind
plain_attribute None = Ok None
plain_attribute (Some Align) = Err Syntax
plain_attribute (Some _) = Ok None

-- an operand that is one token
abbrev pub word_attribute : TokenKind → List ℕ → Result (Option Expr) LineKind
word_attribute kind.Name s = plain_attribute (attribute_named s)
word_attribute _ s = Err Syntax

-- whether two tokens begin an alignment: ALIGN and an equals sign
abbrev pub begins_alignment : List ℕ → Token → Token → Bool
begins_alignment text t u = is_align (attribute_named (piece text t)) && same (piece text u) (codes "=")
  where
    is_align : Option Attribute → Bool
    is_align None = false
    is_align (Some a) = attribute_code a == 9

-- the attribute that an operand writes
abbrev pub attribute_in : List ℕ → List Token → Option Attribute
attribute_in text [] = None
attribute_in text (t ∷ []) = attribute_named (piece text t)
attribute_in text (t ∷ u ∷ ts) = if begins_alignment text t u then Some Align else None

-- what an option holds, as a list
abbrev pub listed : {A : Type 0} → Option A → List A
listed None = []
listed (Some a) = a ∷ []

-- the attributes that operands write
abbrev pub attributes_in : List ℕ → List (List Token) → List Attribute
attributes_in text [] = []
attributes_in text (o ∷ os) = listed (attribute_in text o) ++ attributes_in text os

-- whether an operand writes none
abbrev pub is_bad_word : List ℕ → List Token → Bool
is_bad_word text o = not (is_some (attribute_in text o))

-- the number of an alignment
abbrev pub alignment : Result Expr LineKind → Result (Option Expr) LineKind
alignment r = mapped Some r

-- what an operand reads as: an alignment's number, where it is one
abbrev pub ReadsAttribute : List ℕ → List Token → Result (Option Expr) LineKind → Type 0
ReadsAttribute text [] r = r ≡ Err Syntax
ReadsAttribute text (t ∷ []) r = r ≡ word_attribute t.kind (piece text t)
ReadsAttribute text (t ∷ u ∷ ts) r =
    MatchBool (begins_alignment text t u)
    ((e : Result Expr LineKind) × ParsesTokens text ts e × (r ≡ alignment e))
    (r ≡ Err Syntax)

-- the numbers of two readings, or the fault of them that is told
abbrev pub joined : Result (Option Expr) LineKind → Result (List Expr) LineKind → Result (List Expr) LineKind
joined a b = on_both (λ e es. listed e ++ es) a b

-- what operands read as: the numbers of all alignments among them
abbrev pub ReadsAttributes : List ℕ → List (List Token) → Result (List Expr) LineKind → Type 0
ReadsAttributes text [] r = r ≡ Ok []
ReadsAttributes text (o ∷ os) r =
    (a : Result (Option Expr) LineKind) × (b : Result (List Expr) LineKind)
    × ReadsAttribute text o a × ReadsAttributes text os b × (r ≡ joined a b)

-- whether a word is no attribute, or words don't agree
abbrev pub has_bad_word : List ℕ → List (List Token) → List Attribute → Bool
has_bad_word text os words = list_any (is_bad_word text) os || is_repeated words || is_contradicting words

-- an area with these attributes and these numbers of alignments; only code has the marks of code
abbrev pub attributes_of : List Attribute → Bool → List Expr → AreaAttributes
attributes_of words bad alignments = record {
  contents = contents_of words;
  read_only = is_read_only words;
  interwork = has Code words && has Interwork words;
  halfword = has Code words && has Halfword words;
  pic = has Pic words;
  reentrant = has Reentrant words;
  alignments = alignments;
  has_bad_word = bad;
}

-- the attributes of an area that operands write
abbrev pub attributes_written : List ℕ → List (List Token) → List Expr → AreaAttributes
attributes_written text os alignments =
    attributes_of (attributes_in text os) (has_bad_word text os (attributes_in text os)) alignments
