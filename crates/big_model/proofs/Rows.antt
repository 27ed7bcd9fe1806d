-- Worked rows: lines, a whole text, and sums.
use Rattle.std.specs.Prelude.{◌≡◌, codes, length, ◌∷◌, []}
use Rattle.std.specs.Fmt.{digits}
use Rattle.std.proofs.Common.{refl}
use Rattle.big_model.specs.Sources.{step_line, data_line, big_text, big_sum}
use Rattle.big_model.specs.Statements.{big_statements}
use Rattle.big_model.specs.Words.{code_words}

step_999 : step_line 999 ≡ codes "f999 ADD r4,r4,#231"
unfolding digits
step_999 = refl

data_999 : data_line 999 ≡ codes " DCD 999"
unfolding digits
data_999 = refl

text_of_two : big_text 2
    ≡ codes
    " AREA big, CODE, READONLY\n ENTRY\n MOV r4,#0\nf0 ADD r4,r4,#0\nf1 ADD r4,r4,#1\n MOV r0,r4\n SWI 0x11\n AREA bigrw, DATA, READWRITE\n DCD 0\n DCD 1\n END\n"
unfolding digits
text_of_two = refl

sum_of_none : big_sum 0 ≡ 0
sum_of_none = refl

sum_of_1000 : big_sum 1000 ≡ 0x1E72C
sum_of_1000 = refl

statements_of_two : length (big_statements (codes "t.s") 2) ≡ 11
unfolding digits
statements_of_two = refl

code_of_two : code_words 2 ≡ 0xE3A04000 ∷ 0xE2844000 ∷ 0xE2844001 ∷ 0xE1A00004 ∷ 0xEF000011 ∷ []
code_of_two = refl
