-- Steps of the code that reads the attributes of an area. This project's.
use Rattle.std.specs.Prelude.{◌≡◌, ℕ, List, [], ◌∷◌, ◌++◌, ◌||◌, Bool, Option, Some, None, Result}
use Rattle.std.specs.List.{list_any}
use Rattle.sdt_fault.specs.declared.kinds.LineKind.{LineKind}
use Rattle.asm_model.specs.declared.tokens.Token.{Token}
use Rattle.asm_model.specs.declared.exprs.Expr.{Expr}
use Rattle.asm_model.specs.declared.directives.AreaAttributes.{AreaAttributes}
use Rattle.asm_model.specs.declared.directives.Attribute.{Attribute}
use Rattle.asm_model.specs.Areas.{alignment, ReadsAttribute, ReadsAttributes, attributes_in, is_bad_word, is_repeated, is_contradicting, attributes_written, listed}
use Rattle.asm_model.specs.Grammar.{ParsesTokens}
use Rattle.asm_model.specs.Operands.{operands_at}
use Rattle.asm_model.specs.Readings.{mapped, on_both}
use Rattle.asm_expr.specs.declared.areas.Written.{Written}

-- the number behind ALIGN and its equals sign
abbrev pub ReadsAlignment : List ℕ → List Token → Result (Option Expr) LineKind → Type 0
ReadsAlignment text ts r = (e : Result Expr LineKind) × ParsesTokens text ts e × (r ≡ alignment e)

-- the numbers of alignments, with one operand's more
abbrev pub with_alignment : Result (List Expr) LineKind → Result (Option Expr) LineKind → Result (List Expr) LineKind
with_alignment s a = on_both (λ es e. es ++ listed e) s a

-- one operand more
abbrev pub TakesAttribute : List ℕ → List Token → Written → Written → Type 0
TakesAttribute text o old new =
    (new.words.items ≡ old.words.items ++ attributes_in text (o ∷ []))
    × (new.has_other ≡ old.has_other || is_bad_word text o)
    × ((a : Result (Option Expr) LineKind) × ReadsAttribute text o a × (new.alignments ≡ with_alignment old.alignments a))

-- the attributes of operands
abbrev pub IsWritten : List ℕ → List (List Token) → Written → Type 0
IsWritten text os w =
    (w.words.items ≡ attributes_in text os) × (w.has_other ≡ list_any (is_bad_word text) os) × ReadsAttributes text os w.alignments

-- whether a word is no attribute, or words don't agree
abbrev pub has_bad_word_in : List Attribute → Bool → Bool
has_bad_word_in words other = other || is_repeated words || is_contradicting words

-- operands, where there are tokens behind a comma
abbrev pub operands_behind : List ℕ → Option (List Token) → List (List Token)
operands_behind text None = []
operands_behind text (Some ts) = operands_at text 0 ts

-- the attributes of an area, from the operands behind its name
abbrev pub ReadsBehind : List ℕ → List (List Token) → Result AreaAttributes LineKind → Type 0
ReadsBehind text os r =
    (alignments : Result (List Expr) LineKind) × ReadsAttributes text os alignments
    × (r ≡ mapped (attributes_written text os) alignments)
