-- The lines of `words.s`, one by one.
use Rattle.std.proofs.Common.{ℕ, List, [], ◌∷◌, true, false, refl, arith, Some, None}
use Rattle.std.specs.Prelude.{Ok, codes}
use Rattle.asm_model.specs.declared.directives.Contents.TheVariants as contents
use Rattle.asm_model.specs.declared.directives.DataItem.TheVariants.{Word}
use Rattle.asm_model.specs.declared.directives.DirectiveLine.TheVariants as line
use Rattle.asm_model.specs.declared.statements.What.TheVariants as what
use Rattle.asm_model.specs.declared.tokens.Token.{Token}
use Rattle.asm_model.specs.declared.tokens.TokenKind.TheVariants as kind
use Rattle.asm_model.specs.Areas.{attribute_named, is_repeated, is_contradicting}
use Rattle.asm_model.specs.Directives.{directive_named, named_data, named_symbol, named_report, named_variable, named_structure}
use Rattle.asm_model.specs.Operands.{depth_behind}
use Rattle.asm_model.specs.Registers.{register_named, numbered_register, special_register, call_register}
use Rattle.asm_arm.specs.declared.operands.Second.TheVariants as second
use Rattle.asm_arm.specs.Mnemonics.{operation_named, data_named, multiply_named, long_named, moving_named, other_named, float_named, data_stem, condition_named, flags_suffix, multiply_stem, long_stem, transfer_named, block_named, swap_named, transfer_stem, block_stem, swap_stem, plain_named, plain_stem}
use Rattle.asm_lines.specs.Lengths.{best_of}
use Rattle.expand_model.specs.Operations.{operation_of, structure_word, variable_word}
use Rattle.big_model.specs.Statements.{constant, attributes, area_what, datum_what}
use Rattle.big_lines.proofs.SayLemmas.{IsSeen, Line, directive_line, one_number, operation_line, seen}
use Rattle.big_lines.proofs.TokenLemmas.{token}
use Rattle.example_laws.specs.Words.{call, find}

-- ---- AREA

abbrev area_text : List ℕ
area_text = codes "        AREA    words, CODE, READONLY   ; each statement takes up one word"

abbrev area_tokens : List Token
area_tokens =
    token kind.Name 8 12 ∷ token kind.Name 16 21 ∷ token kind.Sign 21 22 ∷ token kind.Name 23 27 ∷ token kind.Sign 27 28
    ∷ token kind.Name 29 37 ∷ []

area_seen : IsSeen false area_text area_tokens (codes "AREA")
unfolding best_of operation_of structure_word variable_word
area_seen = seen _ _ _ _ 6 refl refl refl refl refl refl refl refl refl (omega arith)

pub area_line : Line false area_text None (area_what (codes "words") contents.Code true)
unfolding directive_named named_data named_symbol named_report named_variable named_structure depth_behind attribute_named is_repeated is_contradicting
area_line =
    directive_line _ _ _ _ None (area_what (codes "words") contents.Code true) area_seen (refl, refl, λ t. refl) (λ name number. (
      Ok (line.Area (codes "words") (attributes contents.Code true)),
      (Ok [], (Ok None, Ok [], refl, (Ok None, Ok [], refl, refl, refl), refl), refl),
      refl,
    ))

-- ---- ENTRY

abbrev entry_text : List ℕ
entry_text = codes "        ENTRY"

abbrev entry_tokens : List Token
entry_tokens = token kind.Name 8 13 ∷ []

entry_seen : IsSeen false entry_text entry_tokens (codes "ENTRY")
unfolding best_of operation_of structure_word variable_word
entry_seen = seen _ _ _ _ 1 refl refl refl refl refl refl refl refl refl (omega arith)

pub entry_line : Line false entry_text None (what.Directive line.Entry)
unfolding directive_named named_data named_symbol named_report named_variable named_structure
entry_line =
    directive_line _ _ _ _ None (what.Directive line.Entry) entry_seen (refl, refl, λ t. refl) (λ name number. (Ok line.Entry, refl, refl))

-- ---- ADD

abbrev find_text : List ℕ
find_text = codes "        ADD     r0,pc,#4        ; the text: pc is two words further on"

abbrev find_tokens : List Token
find_tokens =
    token kind.Name 8 11 ∷ token kind.Name 16 18 ∷ token kind.Sign 18 19 ∷ token kind.Name 19 21
    ∷ token kind.Sign 21 22 ∷ token kind.Sign 22 23 ∷ token kind.Number 23 24 ∷ []

find_seen : IsSeen false find_text find_tokens (codes "ADD")
unfolding best_of operation_of structure_word variable_word
find_seen = seen _ _ _ _ 7 refl refl refl refl refl refl refl refl refl (omega arith)

pub find_line : Line false find_text None find
unfolding directive_named named_data named_symbol named_report named_variable named_structure operation_named data_named data_stem condition_named flags_suffix
    depth_behind register_named numbered_register special_register call_register
find_line =
    operation_line _ _ _ _ None find find_seen (refl, refl, λ t. refl) (λ name number. refl)
    (λ name number. (
      Ok find,
      (Ok (second.Number (constant 4)), (Ok (constant 4), one_number find_text (token kind.Number 23 24) 4 refl, refl), refl),
      refl,
    ))

-- ---- SWI 0x02

abbrev print_text : List ℕ
print_text = codes "        SWI     0x02            ; prints it"

abbrev print_tokens : List Token
print_tokens = token kind.Name 8 11 ∷ token kind.Number 16 20 ∷ []

print_seen : IsSeen false print_text print_tokens (codes "SWI")
unfolding best_of operation_of structure_word variable_word
print_seen = seen _ _ _ _ 2 refl refl refl refl refl refl refl refl refl (omega arith)

pub print_line : Line false print_text None (call 0x02)
unfolding directive_named named_data named_symbol named_report named_variable named_structure operation_named data_named multiply_named long_named moving_named
    other_named float_named data_stem condition_named flags_suffix multiply_stem long_stem transfer_named block_named swap_named transfer_stem block_stem
    swap_stem plain_named plain_stem depth_behind register_named numbered_register special_register call_register
print_line =
    operation_line _ _ _ _ None (call 0x02) print_seen (refl, refl, λ t. refl) (λ name number. refl)
    (λ name number. (Ok (call 0x02), (Ok (constant 2), one_number print_text (token kind.Number 16 20) 2 refl, refl), refl))

-- ---- SWI 0x11

abbrev leave_text : List ℕ
leave_text = codes "        SWI     0x11            ; ends"

abbrev leave_tokens : List Token
leave_tokens = token kind.Name 8 11 ∷ token kind.Number 16 20 ∷ []

leave_seen : IsSeen false leave_text leave_tokens (codes "SWI")
unfolding best_of operation_of structure_word variable_word
leave_seen = seen _ _ _ _ 2 refl refl refl refl refl refl refl refl refl (omega arith)

pub leave_line : Line false leave_text None (call 0x11)
unfolding directive_named named_data named_symbol named_report named_variable named_structure operation_named data_named multiply_named long_named moving_named
    other_named float_named data_stem condition_named flags_suffix multiply_stem long_stem transfer_named block_named swap_named transfer_stem block_stem
    swap_stem plain_named plain_stem depth_behind register_named numbered_register special_register call_register
leave_line =
    operation_line _ _ _ _ None (call 0x11) leave_seen (refl, refl, λ t. refl) (λ name number. refl)
    (λ name number. (Ok (call 0x11), (Ok (constant 17), one_number leave_text (token kind.Number 16 20) 17 refl, refl), refl))

-- ---- DCD 0x64726F77

abbrev text_text : List ℕ
text_text = codes "text    DCD     0x64726F77      ; w, o, r, d"

abbrev text_tokens : List Token
text_tokens = token kind.Name 0 4 ∷ token kind.Name 8 11 ∷ token kind.Number 16 26 ∷ []

text_seen : IsSeen false text_text text_tokens (codes "DCD")
unfolding best_of operation_of structure_word variable_word
text_seen = seen _ _ _ _ 3 refl refl refl refl refl refl refl refl refl (omega arith)

pub text_line : Line false text_text (Some (codes "text")) (datum_what 0x64726F77)
unfolding directive_named named_data named_symbol named_report named_variable named_structure depth_behind
text_line =
    directive_line _ _ _ _ (Some (codes "text")) (datum_what 0x64726F77) text_seen (refl, refl, λ t. refl) (λ name number. (
      Ok (line.Constants Word (constant 0x64726F77 ∷ [])),
      (
        Ok (constant 0x64726F77 ∷ []),
        (Ok (constant 0x64726F77), Ok [], one_number text_text (token kind.Number 16 26) 0x64726F77 refl, refl, refl),
        refl,
      ),
      refl,
    ))

-- ---- DCD 0x0A73

abbrev rest_text : List ℕ
rest_text = codes "        DCD     0x0A73          ; s, a line feed, and the end"

abbrev rest_tokens : List Token
rest_tokens = token kind.Name 8 11 ∷ token kind.Number 16 22 ∷ []

rest_seen : IsSeen false rest_text rest_tokens (codes "DCD")
unfolding best_of operation_of structure_word variable_word
rest_seen = seen _ _ _ _ 2 refl refl refl refl refl refl refl refl refl (omega arith)

pub rest_line : Line false rest_text None (datum_what 0x0A73)
unfolding directive_named named_data named_symbol named_report named_variable named_structure depth_behind
rest_line =
    directive_line _ _ _ _ None (datum_what 0x0A73) rest_seen (refl, refl, λ t. refl) (λ name number. (
      Ok (line.Constants Word (constant 0x0A73 ∷ [])),
      (
        Ok (constant 0x0A73 ∷ []),
        (Ok (constant 0x0A73), Ok [], one_number rest_text (token kind.Number 16 22) 0x0A73 refl, refl, refl),
        refl,
      ),
      refl,
    ))

-- ---- END

abbrev end_text : List ℕ
end_text = codes "        END"

abbrev end_tokens : List Token
end_tokens = token kind.Name 8 11 ∷ []

end_seen : IsSeen true end_text end_tokens (codes "END")
unfolding best_of operation_of structure_word variable_word
end_seen = seen _ _ _ _ 1 refl refl refl refl refl refl refl refl refl (omega arith)

pub end_line : Line true end_text None (what.Directive line.End)
unfolding directive_named named_data named_symbol named_report named_variable named_structure
end_line =
    directive_line _ _ _ _ None (what.Directive line.End) end_seen (refl, refl, λ t. refl) (λ name number. (Ok line.End, refl, refl))
