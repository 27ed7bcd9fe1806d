use Rattle.std.proofs.Common.{◌∙◌, subst, arith}
use Rattle.std.proofs.lemmas.Bool.{ne_eqb}
use Rattle.asm_expr.proofs.RegisterLemmas.{named, not_named}
use Rattle.asm_expr.specs.Beginnings.{BeginsWith}
use Rattle.asm_expr.proofs.registers.named_at.Goals as goal

pub numbered_register-requires : goal.numbered_register-requires
numbered_register-requires c = subst (λ x. BeginsWith x c.args.word.now) c.in-114.is c.requires

pub returns-in-97 : goal.returns-in-97
returns-in-97 c = c.row_of.ensures ∙ named c.args.letter 97 c.args.word.now c.in-97.is c.requires

pub returns-in-118 : goal.returns-in-118
returns-in-118 c = c.row_of-in-118.ensures ∙ named c.args.letter 118 c.args.word.now c.in-118.is c.requires

pub returns-in-115 : goal.returns-in-115
returns-in-115 c = c.row_of-in-115.ensures ∙ named c.args.letter 115 c.args.word.now c.in-115.is c.requires

pub returns-in-102 : goal.returns-in-102
returns-in-102 c = c.row_of-in-102.ensures ∙ named c.args.letter 102 c.args.word.now c.in-102.is c.requires

pub returns-in-105 : goal.returns-in-105
returns-in-105 c = c.row_of-in-105.ensures ∙ named c.args.letter 105 c.args.word.now c.in-105.is c.requires

pub returns-in-108 : goal.returns-in-108
returns-in-108 c = c.row_of-in-108.ensures ∙ named c.args.letter 108 c.args.word.now c.in-108.is c.requires

pub returns-in-112 : goal.returns-in-112
returns-in-112 c = c.row_of-in-112.ensures ∙ named c.args.letter 112 c.args.word.now c.in-112.is c.requires

pub returns-in_default : goal.returns-in_default
returns-in_default c =
    not_named c.args.letter c.args.word.now c.requires
    (ne_eqb _ _ (omega arith)) (ne_eqb _ _ (omega arith)) (ne_eqb _ _ (omega arith)) (ne_eqb _ _ (omega arith))
    (ne_eqb _ _ (omega arith)) (ne_eqb _ _ (omega arith)) (ne_eqb _ _ (omega arith)) (ne_eqb _ _ (omega arith))
