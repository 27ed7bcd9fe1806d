-- The lines of a generated source that don't vary.
use Rattle.std.proofs.Common.{List, [], ◌∷◌, true, false, refl, arith, None}
use Rattle.std.specs.Prelude.{Ok, codes}
use Rattle.asm_model.specs.declared.directives.Contents.TheVariants as contents
use Rattle.asm_model.specs.declared.directives.DirectiveLine.TheVariants as line
use Rattle.asm_model.specs.declared.operands.Register.TheVariants as register_is
use Rattle.asm_model.specs.declared.operands.Shift.TheVariants as shift
use Rattle.asm_model.specs.declared.statements.What.TheVariants as what
use Rattle.asm_model.specs.declared.tokens.Token.{Token}
use Rattle.asm_model.specs.declared.tokens.TokenKind.TheVariants as kind
use Rattle.asm_model.specs.Areas.{attribute_named, is_repeated, is_contradicting}
use Rattle.asm_model.specs.Directives.{directive_named, named_data, named_symbol, named_report, named_variable, named_structure}
use Rattle.asm_model.specs.Operands.{depth_behind}
use Rattle.asm_model.specs.Registers.{register_named, numbered_register, special_register, call_register}
use Rattle.asm_arm.specs.declared.operands.Second.TheVariants as second
use Rattle.asm_arm.specs.Mnemonics.{operation_named, data_named, multiply_named, long_named, moving_named, other_named, float_named, data_stem, condition_named, flags_suffix, multiply_stem, long_stem, transfer_named, block_named, swap_named, transfer_stem, block_stem, swap_stem, plain_named, plain_stem}
use Rattle.asm_lines.specs.Lengths.{best_of}
use Rattle.expand_model.specs.Operations.{operation_of, structure_word, variable_word}
use Rattle.big_model.specs.Statements.{constant, attributes, area_what, clear, give, leave}
use Rattle.big_lines.proofs.SayLemmas.{IsSeen, Line, directive_line, one_number, operation_line, seen}
use Rattle.big_lines.proofs.TokenLemmas.{token}

-- ---- AREA big, CODE, READONLY

abbrev code_tokens : List Token
code_tokens = token kind.Name 1 5 ∷ token kind.Name 6 9 ∷ token kind.Sign 9 10 ∷ token kind.Name 11 15 ∷ token kind.Sign 15 16 ∷ token kind.Name 17 25 ∷ []

code_seen : IsSeen false (codes " AREA big, CODE, READONLY") code_tokens (codes "AREA")
unfolding best_of operation_of structure_word variable_word
code_seen = seen _ _ _ _ 6 refl refl refl refl refl refl refl refl refl (omega arith)

pub code_line : Line false (codes " AREA big, CODE, READONLY") None (area_what (codes "big") contents.Code true)
unfolding directive_named named_data named_symbol named_report named_variable named_structure depth_behind attribute_named is_repeated is_contradicting
code_line =
    directive_line _ _ _ _ None (area_what (codes "big") contents.Code true) code_seen (refl, refl, λ t. refl) (λ name number. (
      Ok (line.Area (codes "big") (attributes contents.Code true)),
      (Ok [], (Ok None, Ok [], refl, (Ok None, Ok [], refl, refl, refl), refl), refl),
      refl,
    ))

-- ---- AREA bigrw, DATA, READWRITE

abbrev data_tokens : List Token
data_tokens = token kind.Name 1 5 ∷ token kind.Name 6 11 ∷ token kind.Sign 11 12 ∷ token kind.Name 13 17 ∷ token kind.Sign 17 18 ∷ token kind.Name 19 28 ∷ []

data_seen : IsSeen false (codes " AREA bigrw, DATA, READWRITE") data_tokens (codes "AREA")
unfolding best_of operation_of structure_word variable_word
data_seen = seen _ _ _ _ 6 refl refl refl refl refl refl refl refl refl (omega arith)

pub data_line : Line false (codes " AREA bigrw, DATA, READWRITE") None (area_what (codes "bigrw") contents.Data false)
unfolding directive_named named_data named_symbol named_report named_variable named_structure depth_behind attribute_named is_repeated is_contradicting
data_line =
    directive_line _ _ _ _ None (area_what (codes "bigrw") contents.Data false) data_seen (refl, refl, λ t. refl) (λ name number. (
      Ok (line.Area (codes "bigrw") (attributes contents.Data false)),
      (Ok [], (Ok None, Ok [], refl, (Ok None, Ok [], refl, refl, refl), refl), refl),
      refl,
    ))

-- ---- ENTRY

abbrev entry_tokens : List Token
entry_tokens = token kind.Name 1 6 ∷ []

entry_seen : IsSeen false (codes " ENTRY") entry_tokens (codes "ENTRY")
unfolding best_of operation_of structure_word variable_word
entry_seen = seen _ _ _ _ 1 refl refl refl refl refl refl refl refl refl (omega arith)

pub entry_line : Line false (codes " ENTRY") None (what.Directive line.Entry)
unfolding directive_named named_data named_symbol named_report named_variable named_structure
entry_line =
    directive_line _ _ _ _ None (what.Directive line.Entry) entry_seen (refl, refl, λ t. refl) (λ name number. (Ok line.Entry, refl, refl))

-- ---- END

abbrev end_tokens : List Token
end_tokens = token kind.Name 1 4 ∷ []

end_seen : IsSeen true (codes " END") end_tokens (codes "END")
unfolding best_of operation_of structure_word variable_word
end_seen = seen _ _ _ _ 1 refl refl refl refl refl refl refl refl refl (omega arith)

pub end_line : Line true (codes " END") None (what.Directive line.End)
unfolding directive_named named_data named_symbol named_report named_variable named_structure
end_line =
    directive_line _ _ _ _ None (what.Directive line.End) end_seen (refl, refl, λ t. refl) (λ name number. (Ok line.End, refl, refl))

-- ---- MOV r4,#0

abbrev clear_tokens : List Token
clear_tokens = token kind.Name 1 4 ∷ token kind.Name 5 7 ∷ token kind.Sign 7 8 ∷ token kind.Sign 8 9 ∷ token kind.Number 9 10 ∷ []

clear_seen : IsSeen false (codes " MOV r4,#0") clear_tokens (codes "MOV")
unfolding best_of operation_of structure_word variable_word
clear_seen = seen _ _ _ _ 5 refl refl refl refl refl refl refl refl refl (omega arith)

pub clear_line : Line false (codes " MOV r4,#0") None clear
unfolding directive_named named_data named_symbol named_report named_variable named_structure operation_named data_named multiply_named long_named moving_named
    other_named float_named data_stem condition_named flags_suffix multiply_stem long_stem transfer_named block_named swap_named transfer_stem block_stem
    swap_stem plain_named plain_stem depth_behind register_named numbered_register special_register call_register
clear_line =
    operation_line _ _ _ _ None clear clear_seen (refl, refl, λ t. refl) (λ name number. refl)
    (λ name number. (
      Ok clear,
      (Ok (second.Number (constant 0)), (Ok (constant 0), one_number (codes " MOV r4,#0") (token kind.Number 9 10) 0 refl, refl), refl),
      refl,
    ))

-- ---- MOV r0,r4

abbrev give_tokens : List Token
give_tokens = token kind.Name 1 4 ∷ token kind.Name 5 7 ∷ token kind.Sign 7 8 ∷ token kind.Name 8 10 ∷ []

give_seen : IsSeen false (codes " MOV r0,r4") give_tokens (codes "MOV")
unfolding best_of operation_of structure_word variable_word
give_seen = seen _ _ _ _ 4 refl refl refl refl refl refl refl refl refl (omega arith)

pub give_line : Line false (codes " MOV r0,r4") None give
unfolding directive_named named_data named_symbol named_report named_variable named_structure operation_named data_named multiply_named long_named moving_named
    other_named float_named data_stem condition_named flags_suffix multiply_stem long_stem transfer_named block_named swap_named transfer_stem block_stem
    swap_stem plain_named plain_stem depth_behind register_named numbered_register special_register call_register
give_line =
    operation_line _ _ _ _ None give give_seen (refl, refl, λ t. refl) (λ name number. refl)
    (λ name number. (Ok give, (Ok (second.Shifted (register_is.Number 4) shift.Unshifted), refl, refl), refl))

-- ---- SWI 0x11

abbrev leave_tokens : List Token
leave_tokens = token kind.Name 1 4 ∷ token kind.Number 5 9 ∷ []

leave_seen : IsSeen false (codes " SWI 0x11") leave_tokens (codes "SWI")
unfolding best_of operation_of structure_word variable_word
leave_seen = seen _ _ _ _ 2 refl refl refl refl refl refl refl refl refl (omega arith)

pub leave_line : Line false (codes " SWI 0x11") None leave
unfolding directive_named named_data named_symbol named_report named_variable named_structure operation_named data_named multiply_named long_named moving_named
    other_named float_named data_stem condition_named flags_suffix multiply_stem long_stem transfer_named block_named swap_named transfer_stem block_stem
    swap_stem plain_named plain_stem depth_behind register_named numbered_register special_register call_register
leave_line =
    operation_line _ _ _ _ None leave leave_seen (refl, refl, λ t. refl) (λ name number. refl)
    (λ name number. (Ok leave, (Ok (constant 17), one_number (codes " SWI 0x11") (token kind.Number 5 9) 17 refl, refl), refl))
