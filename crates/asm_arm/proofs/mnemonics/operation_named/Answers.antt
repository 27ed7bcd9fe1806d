use Rattle.std.proofs.Common.{◌∙◌, sym, ap, arith}
use Rattle.asm_arm.specs.Stems.{by_rows}
use Rattle.asm_arm.proofs.StemLemmas.{no_word, of_letter, no_rows}
use Rattle.asm_arm.proofs.mnemonics.operation_named.Goals as goal

pub returns-in_default : goal.returns-in_default
returns-in_default c = no_word c.args.word.now c.in_default.ensures.cases

pub returns-in-97 : goal.returns-in-97
returns-in-97 c =
    c.by_rows.ensures
    ∙ of_letter c.args.word.now c.in-Some.letter.now c.in-Some.field-0-1.now 97 c.in-Some.ensures.cases.0 (sym c.to_ascii_lowercase.ensures.value ∙ c.in-97.is)

pub returns-in-98 : goal.returns-in-98
returns-in-98 c =
    c.by_rows-in-98.ensures
    ∙ of_letter c.args.word.now c.in-Some.letter.now c.in-Some.field-0-1.now 98 c.in-Some.ensures.cases.0 (sym c.to_ascii_lowercase.ensures.value ∙ c.in-98.is)

pub returns-in-99 : goal.returns-in-99
returns-in-99 c =
    c.by_rows-in-99.ensures
    ∙ of_letter c.args.word.now c.in-Some.letter.now c.in-Some.field-0-1.now 99 c.in-Some.ensures.cases.0 (sym c.to_ascii_lowercase.ensures.value ∙ c.in-99.is)

pub returns-in-100 : goal.returns-in-100
returns-in-100 c =
    c.by_rows-in-100.ensures
    ∙ of_letter c.args.word.now c.in-Some.letter.now c.in-Some.field-0-1.now 100 c.in-Some.ensures.cases.0 (sym c.to_ascii_lowercase.ensures.value ∙ c.in-100.is)

pub returns-in-101 : goal.returns-in-101
returns-in-101 c =
    c.by_rows-in-101.ensures
    ∙ of_letter c.args.word.now c.in-Some.letter.now c.in-Some.field-0-1.now 101 c.in-Some.ensures.cases.0 (sym c.to_ascii_lowercase.ensures.value ∙ c.in-101.is)

pub returns-in-102 : goal.returns-in-102
returns-in-102 c =
    c.by_rows-in-102.ensures
    ∙ of_letter c.args.word.now c.in-Some.letter.now c.in-Some.field-0-1.now 102 c.in-Some.ensures.cases.0 (sym c.to_ascii_lowercase.ensures.value ∙ c.in-102.is)

pub returns-in-108 : goal.returns-in-108
returns-in-108 c =
    c.by_rows-in-108.ensures
    ∙ of_letter c.args.word.now c.in-Some.letter.now c.in-Some.field-0-1.now 108 c.in-Some.ensures.cases.0 (sym c.to_ascii_lowercase.ensures.value ∙ c.in-108.is)

pub returns-in-109 : goal.returns-in-109
returns-in-109 c =
    c.by_rows-in-109.ensures
    ∙ of_letter c.args.word.now c.in-Some.letter.now c.in-Some.field-0-1.now 109 c.in-Some.ensures.cases.0 (sym c.to_ascii_lowercase.ensures.value ∙ c.in-109.is)

pub returns-in-110 : goal.returns-in-110
returns-in-110 c =
    c.by_rows-in-110.ensures
    ∙ of_letter c.args.word.now c.in-Some.letter.now c.in-Some.field-0-1.now 110 c.in-Some.ensures.cases.0 (sym c.to_ascii_lowercase.ensures.value ∙ c.in-110.is)

pub returns-in-111 : goal.returns-in-111
returns-in-111 c =
    c.by_rows-in-111.ensures
    ∙ of_letter c.args.word.now c.in-Some.letter.now c.in-Some.field-0-1.now 111 c.in-Some.ensures.cases.0 (sym c.to_ascii_lowercase.ensures.value ∙ c.in-111.is)

pub returns-in-112 : goal.returns-in-112
returns-in-112 c =
    c.by_rows-in-112.ensures
    ∙ of_letter c.args.word.now c.in-Some.letter.now c.in-Some.field-0-1.now 112 c.in-Some.ensures.cases.0 (sym c.to_ascii_lowercase.ensures.value ∙ c.in-112.is)

pub returns-in-114 : goal.returns-in-114
returns-in-114 c =
    c.by_rows-in-114.ensures
    ∙ of_letter c.args.word.now c.in-Some.letter.now c.in-Some.field-0-1.now 114 c.in-Some.ensures.cases.0 (sym c.to_ascii_lowercase.ensures.value ∙ c.in-114.is)

pub returns-in-115 : goal.returns-in-115
returns-in-115 c =
    c.by_rows-in-115.ensures
    ∙ of_letter c.args.word.now c.in-Some.letter.now c.in-Some.field-0-1.now 115 c.in-Some.ensures.cases.0 (sym c.to_ascii_lowercase.ensures.value ∙ c.in-115.is)

pub returns-in-116 : goal.returns-in-116
returns-in-116 c =
    c.by_rows-in-116.ensures
    ∙ of_letter c.args.word.now c.in-Some.letter.now c.in-Some.field-0-1.now 116 c.in-Some.ensures.cases.0 (sym c.to_ascii_lowercase.ensures.value ∙ c.in-116.is)

pub returns-in-117 : goal.returns-in-117
returns-in-117 c =
    c.by_rows-in-117.ensures
    ∙ of_letter c.args.word.now c.in-Some.letter.now c.in-Some.field-0-1.now 117 c.in-Some.ensures.cases.0 (sym c.to_ascii_lowercase.ensures.value ∙ c.in-117.is)

pub returns-in-119 : goal.returns-in-119
returns-in-119 c =
    c.by_rows-in-119.ensures
    ∙ of_letter c.args.word.now c.in-Some.letter.now c.in-Some.field-0-1.now 119 c.in-Some.ensures.cases.0 (sym c.to_ascii_lowercase.ensures.value ∙ c.in-119.is)

pub returns-in_default-to_ascii_lowercase : goal.returns-in_default-to_ascii_lowercase
returns-in_default-to_ascii_lowercase c =
    sym (ap (by_rows c.args.word.now)
    (no_rows c.to_ascii_lowercase.result (λ e. omega arith) (λ e. omega arith) (λ e. omega arith) (λ e. omega arith) (λ e. omega arith) (λ e. omega arith)
    (λ e. omega arith) (λ e. omega arith) (λ e. omega arith) (λ e. omega arith) (λ e. omega arith) (λ e. omega arith)
    (λ e. omega arith) (λ e. omega arith) (λ e. omega arith) (λ e. omega arith)))
    ∙ of_letter c.args.word.now c.in-Some.letter.now c.in-Some.field-0-1.now c.to_ascii_lowercase.result c.in-Some.ensures.cases.0
    (sym c.to_ascii_lowercase.ensures.value)
