use Rattle.std.proofs.Common.{◌∙◌, arith}
use Rattle.std.proofs.lemmas.Bool.{ne_eqb}
use Rattle.asm_expr.proofs.DirectiveLemmas.{named, sign_named}
use Rattle.asm_expr.proofs.directive_names.named_at.Goals as goal

pub returns-in-97 : goal.returns-in-97
returns-in-97 c = c.row_of.ensures ∙ named c.args.letter 97 c.args.word.now c.in-97.is c.requires

pub returns-in-99 : goal.returns-in-99
returns-in-99 c = c.row_of-in-99.ensures ∙ named c.args.letter 99 c.args.word.now c.in-99.is c.requires

pub returns-in-100 : goal.returns-in-100
returns-in-100 c = c.row_of-in-100.ensures ∙ named c.args.letter 100 c.args.word.now c.in-100.is c.requires

pub returns-in-101 : goal.returns-in-101
returns-in-101 c = c.row_of-in-101.ensures ∙ named c.args.letter 101 c.args.word.now c.in-101.is c.requires

pub returns-in-102 : goal.returns-in-102
returns-in-102 c = c.row_of-in-102.ensures ∙ named c.args.letter 102 c.args.word.now c.in-102.is c.requires

pub returns-in-103 : goal.returns-in-103
returns-in-103 c = c.row_of-in-103.ensures ∙ named c.args.letter 103 c.args.word.now c.in-103.is c.requires

pub returns-in-105 : goal.returns-in-105
returns-in-105 c = c.row_of-in-105.ensures ∙ named c.args.letter 105 c.args.word.now c.in-105.is c.requires

pub returns-in-107 : goal.returns-in-107
returns-in-107 c = c.row_of-in-107.ensures ∙ named c.args.letter 107 c.args.word.now c.in-107.is c.requires

pub returns-in-108 : goal.returns-in-108
returns-in-108 c = c.row_of-in-108.ensures ∙ named c.args.letter 108 c.args.word.now c.in-108.is c.requires

pub returns-in-109 : goal.returns-in-109
returns-in-109 c = c.row_of-in-109.ensures ∙ named c.args.letter 109 c.args.word.now c.in-109.is c.requires

pub returns-in-110 : goal.returns-in-110
returns-in-110 c = c.row_of-in-110.ensures ∙ named c.args.letter 110 c.args.word.now c.in-110.is c.requires

pub returns-in-111 : goal.returns-in-111
returns-in-111 c = c.row_of-in-111.ensures ∙ named c.args.letter 111 c.args.word.now c.in-111.is c.requires

pub returns-in-114 : goal.returns-in-114
returns-in-114 c = c.row_of-in-114.ensures ∙ named c.args.letter 114 c.args.word.now c.in-114.is c.requires

pub returns-in-115 : goal.returns-in-115
returns-in-115 c = c.row_of-in-115.ensures ∙ named c.args.letter 115 c.args.word.now c.in-115.is c.requires

pub returns-in-116 : goal.returns-in-116
returns-in-116 c = c.row_of-in-116.ensures ∙ named c.args.letter 116 c.args.word.now c.in-116.is c.requires

pub returns-in-119 : goal.returns-in-119
returns-in-119 c = c.row_of-in-119.ensures ∙ named c.args.letter 119 c.args.word.now c.in-119.is c.requires

pub returns-in_default : goal.returns-in_default
returns-in_default c =
    c.row_of-in_default.ensures
    ∙ sign_named c.args.letter c.args.word.now c.requires
    (ne_eqb _ _ (omega arith)) (ne_eqb _ _ (omega arith)) (ne_eqb _ _ (omega arith)) (ne_eqb _ _ (omega arith))
    (ne_eqb _ _ (omega arith)) (ne_eqb _ _ (omega arith)) (ne_eqb _ _ (omega arith)) (ne_eqb _ _ (omega arith))
    (ne_eqb _ _ (omega arith)) (ne_eqb _ _ (omega arith)) (ne_eqb _ _ (omega arith)) (ne_eqb _ _ (omega arith))
    (ne_eqb _ _ (omega arith)) (ne_eqb _ _ (omega arith)) (ne_eqb _ _ (omega arith)) (ne_eqb _ _ (omega arith))
