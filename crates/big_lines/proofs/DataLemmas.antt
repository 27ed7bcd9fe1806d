-- A line of data.
use Rattle.std.proofs.Common.{◌≡◌, ℕ, suc, ◌+◌, ◌-◌, ◌^◌, ◌<◌, ◌≤◌, ◌==◌, List, [], ◌∷◌, length, false, refl, ◌∙◌, ap, arith, rules, Some, None}
use Rattle.std.specs.Prelude.{◌||◌, Ok}
use Rattle.std.specs.Fmt.{decimal}
use Rattle.std.proofs.lemmas.List.{take_all, drop_all}
use Rattle.asm_model.specs.declared.directives.DataItem.TheVariants.{Word}
use Rattle.asm_model.specs.declared.directives.Directive.TheVariants as directive
use Rattle.asm_model.specs.declared.directives.DirectiveLine.TheVariants as line
use Rattle.asm_model.specs.declared.exprs.ExprItem.TheVariants as item
use Rattle.asm_model.specs.declared.exprs.Part.TheVariants.{Operand}
use Rattle.asm_model.specs.declared.tokens.Due.TheVariants as due
use Rattle.asm_model.specs.declared.tokens.Token.{Token}
use Rattle.asm_model.specs.declared.tokens.TokenKind.TheVariants as kind
use Rattle.asm_model.specs.declared.values.Value.TheVariants as value
use Rattle.asm_model.specs.Directives.{directive_named, named_data}
use Rattle.asm_model.specs.Forms.{same}
use Rattle.asm_model.specs.Operands.{operands}
use Rattle.asm_model.specs.Parts.{part_of, part_of_kind, piece}
use Rattle.asm_model.specs.Tokens.{Tokens, TokensFrom}
use Rattle.asm_lines.proofs.FirstLemmas.{letter_best_of}
use Rattle.asm_reading.specs.Says.{SaysBy}
use Rattle.expand_model.specs.Operations.{operation_of, structure_word, variable_word}
use Rattle.big_model.specs.Sources.{data_line}
use Rattle.big_model.specs.Statements.{constant, stated, datum_what}
use Rattle.big_lines.proofs.DigitLemmas.{AreDigits, IsDecimal, decimal_is, number_longest, longest_is, digits_begin, digits_part, digits_no, any_alone, no_dollar, no_end, few_digits}
use Rattle.big_lines.proofs.SayLemmas.{IsLine, flat, one_number, one_operand, by_directive, by_operation_word}

-- ---- tokens

-- digits at the end of a line, behind a blank
pub last_number : (ds : List ℕ) (place : ℕ) → AreDigits ds
    → TokensFrom (record { kind = kind.Number; start = suc place; end = suc place + length ds } ∷ []) due.Operands place (32 ∷ ds)
last_number ds place h =
    rw (digits_begin ds h)
    (length ds, omega arith, refl, number_longest ds h, rw (drop_all (length ds) ds (omega arith)) (search rules))

data_tokens : (ds : List ℕ) → AreDigits ds
    → Tokens (32 ∷ 68 ∷ 67 ∷ 68 ∷ 32 ∷ ds) (record { kind = kind.Name; start = 1; end = 4 } ∷ record { kind = kind.Number; start = 5; end = 5 + length ds }
    ∷ [])
data_tokens ds h = (
  3,
  refl,
  refl,
  longest_is kind.Name 3 (68 ∷ 67 ∷ 68 ∷ 32 ∷ ds) (letter_best_of _ 68 (67 ∷ 68 ∷ 32 ∷ ds) 3 refl refl refl) (omega arith),
  last_number ds 4 h,
)

-- ---- the line

word_named : directive_named (68 ∷ 67 ∷ 68 ∷ []) ≡ Some (directive.Constants Word)
unfolding directive_named named_data
word_named = refl

abbrev dcd : Token
dcd = record { kind = kind.Name; start = 1; end = 4 }

abbrev behind : ℕ → Token
behind n = record { kind = kind.Number; start = 5; end = 5 + n }

data_says : (name : List ℕ) (number k : ℕ) (ds : List ℕ) → k < 2 ^ 32 → IsDecimal k ds
    → SaysBy false (flat name number (32 ∷ 68 ∷ 67 ∷ 68 ∷ 32 ∷ ds)) (Ok (Some (stated name number None (datum_what k))))
data_says name number k ds small d =
    by_directive name number (32 ∷ 68 ∷ 67 ∷ 68 ∷ 32 ∷ ds) (dcd ∷ behind (length ds) ∷ []) None (datum_what k) (data_tokens ds d.are)
    (rw word_named (
      Ok (line.Constants Word (constant k ∷ [])),
      (Ok (constant k ∷ []), rw alone (Ok (constant k), Ok [], one_number (32 ∷ 68 ∷ 67 ∷ 68 ∷ 32 ∷ ds) (behind (length ds)) k part, refl, refl), refl),
      refl,
    ))
    refl
  where
    number_is : piece (32 ∷ 68 ∷ 67 ∷ 68 ∷ 32 ∷ ds) (behind (length ds)) ≡ ds
    number_is = let e : 5 + length ds - 5 ≡ length ds = omega arith in rw e (take_all (length ds) ds (omega arith))

    alone : operands (32 ∷ 68 ∷ 67 ∷ 68 ∷ 32 ∷ ds) (behind (length ds) ∷ []) ≡ (behind (length ds) ∷ []) ∷ []
    alone = one_operand (32 ∷ 68 ∷ 67 ∷ 68 ∷ 32 ∷ ds) (behind (length ds)) (ap (λ (s : List ℕ). same s (44 ∷ [])) number_is ∙ digits_no 44 [] ds d.are refl)

    part : part_of (32 ∷ 68 ∷ 67 ∷ 68 ∷ 32 ∷ ds) (behind (length ds)) ≡ Operand (item.Constant (value.Number k))
    part = ap (part_of_kind kind.Number) number_is ∙ digits_part k ds small d

no_word : operation_of (68 ∷ 67 ∷ 68 ∷ []) ≡ None
unfolding operation_of structure_word variable_word
no_word = refl

pub data_is_line : (name : List ℕ) (number k : ℕ) → k ≤ 50000 → IsLine false (flat name number (data_line k)) (stated name number None (datum_what k))
data_is_line name number k h =
    let d = decimal_is k (omega arith) in
    let few = few_digits k h in
    record {
      says = data_says name number k (decimal k) (omega arith) d;
      state = refl;
      not_local = refl;
      names_none = λ t. refl;
      plain = by_operation_word false (data_line k) (dcd ∷ behind (length (decimal k)) ∷ []) (68 ∷ 67 ∷ 68 ∷ []) (data_tokens (decimal k) d.are) refl no_word
          refl refl
          (any_alone (λ c. c == 36) no_dollar (decimal k) d.are.all) (omega arith);
      clean = any_alone (λ c. c == 10 || c == 13) no_end (decimal k) d.are.all;
      short = omega arith;
    }
