-- A labelled sum.
use Rattle.std.proofs.Common.{◌≡◌, ℕ, suc, ◌+◌, ◌-◌, ◌%◌, ◌^◌, ◌<◌, ◌≤◌, ◌==◌, List, [], ◌∷◌, ◌++◌, length, take, drop, true, false, refl, ◌∙◌, ap, arith, rules, Some, None, drop-drop, nat_lt}
use Rattle.std.specs.Prelude.{◌||◌, Ok}
use Rattle.std.specs.Fmt.{decimal}
use Rattle.std.specs.List.{list_all, list_any, prefix_len}
use Rattle.std.proofs.lemmas.Bool.{cond-true, and_parts, or_right, le-ltb}
use Rattle.std.proofs.lemmas.List.{length-append, take_all, drop_all, take_at, drop_at}
use Rattle.sdt_word.specs.declared.codes.Condition.TheVariants as condition
use Rattle.arm_isa.specs.declared.instr.Operation.TheVariants as operation
use Rattle.asm_model.specs.declared.exprs.ExprItem.TheVariants as item
use Rattle.asm_model.specs.declared.exprs.Part.TheVariants.{Operand}
use Rattle.asm_model.specs.declared.tokens.Due.TheVariants as due
use Rattle.asm_model.specs.declared.tokens.Token.{Token}
use Rattle.asm_model.specs.declared.tokens.TokenKind.{TokenKind}
use Rattle.asm_model.specs.declared.tokens.TokenKind.TheVariants as kind
use Rattle.asm_model.specs.declared.values.Value.TheVariants as value
use Rattle.asm_model.specs.Directives.{directive_named, named_data, named_symbol, named_report, named_variable, named_structure}
use Rattle.asm_model.specs.Forms.{same, is_word, is_digit}
use Rattle.asm_model.specs.Operands.{operands, depth_behind}
use Rattle.asm_model.specs.Parts.{part_of, part_of_kind, piece}
use Rattle.asm_model.specs.Registers.{register_named, numbered_register, special_register, call_register}
use Rattle.asm_model.specs.Says.{SaysDirective}
use Rattle.asm_model.specs.Tokens.{Tokens, TokensFrom, is_long}
use Rattle.asm_lines.specs.Lengths.{best_of}
use Rattle.asm_lines.proofs.FirstLemmas.{letter_best_of}
use Rattle.asm_arm.specs.declared.operands.Second.TheVariants as second
use Rattle.asm_arm.specs.declared.mnemonics.Mnemonic.TheVariants as mnemonic
use Rattle.asm_arm.specs.Mnemonics.{operation_named, data_named, data_stem, condition_named, flags_suffix}
use Rattle.asm_reading.specs.Says.{SaysBy, ReadsArm}
use Rattle.expand_model.specs.Operations.{operation_of, structure_word, variable_word}
use Rattle.big_model.specs.Sources.{step_line, label_of}
use Rattle.big_model.specs.Statements.{constant, stated, step_what}
use Rattle.big_lines.proofs.DigitLemmas.{AreDigits, IsDecimal, decimal_is, number_longest, longest_is, digits_begin, digits_part, digits_no, any_alone, any_joined, no_dollar, no_end, few_digits}
use Rattle.big_lines.proofs.SayLemmas.{IsLine, flat, one_number, by_operation, by_operation_word}
use Rattle.big_lines.proofs.TokenLemmas.{token}

-- ---- pieces

pub piece_from : (text tail : List ℕ) (k : TokenKind) (p i j : ℕ) → drop p text ≡ tail
    → piece text (record { kind = k; start = p + i; end = p + j }) ≡ take (j - i) (drop i tail)
piece_from text tail k p i j e =
    let width : (p + j) - (p + i) ≡ j - i = omega arith in
    let moved : drop (p + i) text ≡ drop i (drop p text) = search (drop-drop) in
    rw (width, moved, e) refl

pub word_run : (ds : List ℕ) (rest : List ℕ) → list_all is_digit ds ≡ true → prefix_len is_word (ds ++ 32 ∷ rest) ≡ length ds
word_run [] rest h = refl
word_run (c ∷ cs) rest h =
    let first = and_parts (is_digit c) (list_all is_digit cs) h in
    let word : is_word c ≡ true = or_right _ _ first.0 in
    let more = word_run cs rest first.1 in
    cond-true (is_word c) _ _ word ∙ omega arith

-- ---- tokens

abbrev behind : ℕ → ℕ → List Token
behind p b =
    token kind.Name (p + 5) (p + 7) ∷ token kind.Sign (p + 7) (p + 8) ∷ token kind.Name (p + 8) (p + 10) ∷ token kind.Sign (p + 10) (p + 11)
    ∷ token kind.Sign (p + 11) (p + 12) ∷ token kind.Number (p + 12) (p + (12 + b)) ∷ []

abbrev pub tail_text : List ℕ → List ℕ
tail_text es = 32 ∷ 65 ∷ 68 ∷ 68 ∷ 32 ∷ 114 ∷ 52 ∷ 44 ∷ 114 ∷ 52 ∷ 44 ∷ 35 ∷ es

comma_best : (cs : List ℕ) → (kind.Sign, 1) ≡ best_of (44 ∷ 114 ∷ 52 ∷ cs)
unfolding best_of
comma_best cs = refl

comma_hash_best : (c : ℕ) (cs : List ℕ) → (kind.Sign, 1) ≡ best_of (44 ∷ 35 ∷ c ∷ cs)
unfolding best_of
comma_hash_best c cs = refl

comma_hash : (es : List ℕ) → AreDigits es → (kind.Sign, 1) ≡ best_of (44 ∷ 35 ∷ es)
comma_hash [] h = absurd (omega (arith, h.some))
comma_hash (c ∷ cs) h = comma_hash_best c cs

hash_best : (c : ℕ) (cs : List ℕ) → (kind.Sign, 1) ≡ best_of (35 ∷ c ∷ cs)
unfolding best_of
hash_best c [] = refl
hash_best c (d ∷ ds) = refl

hash_longest : (es : List ℕ) → AreDigits es → (kind.Sign, 1) ≡ best_of (35 ∷ es)
hash_longest [] h = absurd (omega (arith, h.some))
hash_longest (c ∷ cs) h = hash_best c cs

sum_tail : (p : ℕ) (es : List ℕ) → AreDigits es → TokensFrom (token kind.Name (p + 1) (p + 4) ∷ behind p (length es)) due.Operation p (tail_text es)
sum_tail p es h = (
  3,
  refl,
  omega arith,
  longest_is kind.Name 3 _ (letter_best_of _ 65 (68 ∷ 68 ∷ 32 ∷ 114 ∷ 52 ∷ 44 ∷ 114 ∷ 52 ∷ 44 ∷ 35 ∷ es) 3 refl refl refl) (omega arith),
  (
    2,
    omega arith,
    omega arith,
    longest_is kind.Name 2 _ (letter_best_of _ 114 (52 ∷ 44 ∷ 114 ∷ 52 ∷ 44 ∷ 35 ∷ es) 2 refl refl refl) (omega arith),
    (
      1,
      omega arith,
      omega arith,
      longest_is kind.Sign 1 _ (comma_best (44 ∷ 35 ∷ es)) (omega arith),
      (
        2,
        omega arith,
        omega arith,
        longest_is kind.Name 2 _ (letter_best_of _ 114 (52 ∷ 44 ∷ 35 ∷ es) 2 refl refl refl) (omega arith),
        (
          1,
          omega arith,
          omega arith,
          longest_is kind.Sign 1 _ (comma_hash es h) (omega arith),
          (
            1,
            omega arith,
            omega arith,
            longest_is kind.Sign 1 _ (hash_longest es h) (omega arith),
            rw (digits_begin es h) (length es, omega arith, omega arith, number_longest es h, rw (drop_all (length es) es (omega arith)) (search rules)),
          ),
        ),
      ),
    ),
  ),
)

-- ---- words

no_directive : directive_named (65 ∷ 68 ∷ 68 ∷ []) ≡ None
unfolding directive_named named_data named_symbol named_report named_variable named_structure
no_directive = refl

register_four : register_named (114 ∷ 52 ∷ []) ≡ Some 4
unfolding register_named numbered_register special_register call_register
register_four = refl

sum_named : operation_named (65 ∷ 68 ∷ 68 ∷ []) ≡ Some (mnemonic.Data operation.Add false, condition.Al)
unfolding operation_named data_named data_stem condition_named flags_suffix
sum_named = refl

-- ---- operands

sum_operands : (text : List ℕ) (a b c d e f : Token) → piece text a ≡ 114 ∷ 52 ∷ [] → piece text b ≡ 44 ∷ [] → piece text c ≡ 114 ∷ 52 ∷ []
    → piece text d ≡ 44 ∷ [] → piece text e ≡ 35 ∷ [] → same (piece text f) (44 ∷ []) ≡ false
    → operands text (a ∷ b ∷ c ∷ d ∷ e ∷ f ∷ []) ≡ (a ∷ []) ∷ (c ∷ []) ∷ (e ∷ f ∷ []) ∷ []
unfolding depth_behind
sum_operands text a b c d e f ha hb hc hd he hf = rw (ha, hb, hc, hd, he, hf) refl

sum_reads : (text : List ℕ) (o a b c d e f : Token) (m : ℕ) → o.kind ≡ kind.Name → a.kind ≡ kind.Name → c.kind ≡ kind.Name
    → piece text o ≡ 65 ∷ 68 ∷ 68 ∷ [] → piece text a ≡ 114 ∷ 52 ∷ [] → piece text b ≡ 44 ∷ [] → piece text c ≡ 114 ∷ 52 ∷ []
    → piece text d ≡ 44 ∷ [] → piece text e ≡ 35 ∷ [] → same (piece text f) (44 ∷ []) ≡ false
    → part_of text f ≡ Operand (item.Constant (value.Number m))
    → ReadsArm text o (a ∷ b ∷ c ∷ d ∷ e ∷ f ∷ []) (Ok (step_what m))
sum_reads text o a b c d e f m ko ka kc ho ha hb hc hd he hf part =
    rw (ho, sum_named, sum_operands text a b c d e f ha hb hc hd he hf)
    (Ok (second.Number (constant m)), rw he (Ok (constant m), one_number text f m part, refl), rw (ka, kc, ha, hc, register_four) refl)

-- ---- the line

short : (a b : ℕ) → b - a ≤ 255 → nat_lt 255 (b - a) ≡ false
short a b h = le-ltb 255 (b - a) h

abbrev pub line_text : List ℕ → List ℕ → List ℕ
line_text ds es = 102 ∷ (ds ++ tail_text es)

abbrev line_tokens : List ℕ → List ℕ → List Token
line_tokens ds es =
    token kind.Name 0 (suc (length ds)) ∷ token kind.Name (suc (length ds) + 1) (suc (length ds) + 4) ∷ behind (suc (length ds)) (length es)

tail_at : (ds es : List ℕ) → drop (suc (length ds)) (line_text ds es) ≡ tail_text es
tail_at ds es = drop_at ds (tail_text es) (length ds) refl

tokens_are : (ds es : List ℕ) → AreDigits ds → AreDigits es → Tokens (line_text ds es) (line_tokens ds es)
tokens_are ds es h d =
    let run : suc (length ds) ≡ prefix_len is_word (line_text ds es) = omega (arith, word_run ds (drop 1 (tail_text es)) h.all) in (
      suc (length ds),
      refl,
      omega arith,
      longest_is kind.Name (suc (length ds)) (line_text ds es) (letter_best_of (line_text ds es) 102 (ds ++ tail_text es) (suc (length ds)) refl refl run)
          (omega arith),
      rw (tail_at ds es) (sum_tail (suc (length ds)) es d),
    )

label_piece : (ds es : List ℕ) → piece (line_text ds es) (token kind.Name 0 (suc (length ds))) ≡ 102 ∷ ds
label_piece ds es =
    let e : suc (length ds) - 0 ≡ suc (length ds) = omega arith in
    rw e (ap (λ (s : List ℕ). 102 ∷ s) (take_at ds (tail_text es) (length ds) refl))

operation_piece : (ds es : List ℕ) → piece (line_text ds es) (token kind.Name (suc (length ds) + 1) (suc (length ds) + 4)) ≡ 65 ∷ 68 ∷ 68 ∷ []
operation_piece ds es = piece_from (line_text ds es) (tail_text es) kind.Name (suc (length ds)) 1 4 (tail_at ds es)

none_long : (ds es : List ℕ) → length ds ≤ 200 → list_any is_long (line_tokens ds es) ≡ false
none_long ds es h =
    let p = suc (length ds) in
    rw (short 0 p (omega arith), short (p + 1) (p + 4) (omega arith), short (p + 5) (p + 7) (omega arith), short (p + 8) (p + 10) (omega arith)) refl

operation_reads : (m : ℕ) (ds es : List ℕ) → m < 2 ^ 32 → IsDecimal m es
    → ReadsArm (line_text ds es) (token kind.Name (suc (length ds) + 1) (suc (length ds) + 4)) (behind (suc (length ds)) (length es)) (Ok (step_what m))
operation_reads m ds es small d =
    let p : ℕ = suc (length ds) in
    let at = tail_at ds es in
    let width : (12 + length es) - 12 ≡ length es = omega arith in
    let last : piece (line_text ds es) (token kind.Number (p + 12) (p + (12 + length es))) ≡ es =
    piece_from (line_text ds es) (tail_text es) kind.Number p 12 (12 + length es) at ∙ rw width (take_all (length es) es (omega arith)) in
    sum_reads (line_text ds es) _ _ _ _ _ _ _ m refl refl refl
    (operation_piece ds es)
    (piece_from (line_text ds es) (tail_text es) kind.Name p 5 7 at)
    (piece_from (line_text ds es) (tail_text es) kind.Sign p 7 8 at)
    (piece_from (line_text ds es) (tail_text es) kind.Name p 8 10 at)
    (piece_from (line_text ds es) (tail_text es) kind.Sign p 10 11 at)
    (piece_from (line_text ds es) (tail_text es) kind.Sign p 11 12 at)
    (ap (λ (s : List ℕ). same s (44 ∷ [])) last ∙ digits_no 44 [] es d.are refl)
    (ap (part_of_kind kind.Number) last ∙ digits_part m es small d)

directive_says : (name : List ℕ) (number : ℕ) (ds es : List ℕ) → SaysDirective (flat name number (line_text ds es)) (line_tokens ds es) (Ok None)
directive_says name number ds es = rw (operation_piece ds es, no_directive) refl

step_says : (name : List ℕ) (number m : ℕ) (ds es : List ℕ) → AreDigits ds → length ds ≤ 200 → m < 2 ^ 32 → IsDecimal m es
    → SaysBy false (flat name number (line_text ds es)) (Ok (Some (stated name number (Some (102 ∷ ds)) (step_what m))))
step_says name number m ds es h few small d =
    by_operation name number (line_text ds es) (line_tokens ds es) (Some (102 ∷ ds)) (step_what m) (tokens_are ds es h d.are) (directive_says name number ds es)
    (Ok (step_what m), operation_reads m ds es small d, rw (label_piece ds es) refl) (none_long ds es few)

no_word : operation_of (65 ∷ 68 ∷ 68 ∷ []) ≡ None
unfolding operation_of structure_word variable_word
no_word = refl

pub step_is_line : (name : List ℕ) (number k : ℕ) → k ≤ 50000
    → IsLine false (flat name number (step_line k)) (stated name number (Some (label_of k)) (step_what (k % 256)))
step_is_line name number k h =
    let ds = (decimal_is k (omega arith)).are in
    let d = decimal_is (k % 256) (omega arith) in
    let few = few_digits k h in
    let few_too = few_digits (k % 256) (omega arith) in
    let short : length (step_line k) ≤ 80 = rw length-append (omega arith) in
    record {
      says = step_says name number (k % 256) (decimal k) (decimal (k % 256)) ds (omega arith) (omega arith) d;
      state = refl;
      not_local = refl;
      names_none = λ t. refl;
      plain = by_operation_word false (step_line k) (line_tokens (decimal k) (decimal (k % 256))) (65 ∷ 68 ∷ 68 ∷ [])
          (tokens_are (decimal k) (decimal (k % 256)) ds d.are)
          (operation_piece (decimal k) (decimal (k % 256))) no_word refl refl
          (any_joined (λ c. c == 36) no_dollar (decimal k) (tail_text (decimal (k % 256))) ds.all
          ∙ any_alone (λ c. c == 36) no_dollar (decimal (k % 256)) d.are.all) short;
      clean = any_joined (λ c. c == 10 || c == 13) no_end (decimal k) (tail_text (decimal (k % 256))) ds.all
          ∙ any_alone (λ c. c == 10 || c == 13) no_end (decimal (k % 256)) d.are.all;
      short = short;
    }
