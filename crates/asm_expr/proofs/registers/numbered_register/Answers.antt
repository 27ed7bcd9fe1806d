use Rattle.std.proofs.Common.{refl, ◌∙◌, arith}
use Rattle.asm_expr.proofs.RegisterLemmas.{named, digit_named}
use Rattle.asm_expr.proofs.registers.numbered_register.Goals as goal

pub returns-then-word-ne2 : goal.returns-then-word-ne2
returns-then-word-ne2 c = c.row_of.ensures ∙ named 114 114 c.args.word.now refl c.requires

pub returns-in-48 : goal.returns-in-48
returns-in-48 c = digit_named c.args.word.now 48 _ (omega arith) c.in-48.is c.requires

pub returns-in-49 : goal.returns-in-49
returns-in-49 c = digit_named c.args.word.now 49 _ (omega arith) c.in-49.is c.requires

pub returns-in-50 : goal.returns-in-50
returns-in-50 c = digit_named c.args.word.now 50 _ (omega arith) c.in-50.is c.requires

pub returns-in-51 : goal.returns-in-51
returns-in-51 c = digit_named c.args.word.now 51 _ (omega arith) c.in-51.is c.requires

pub returns-in-52 : goal.returns-in-52
returns-in-52 c = digit_named c.args.word.now 52 _ (omega arith) c.in-52.is c.requires

pub returns-in-53 : goal.returns-in-53
returns-in-53 c = digit_named c.args.word.now 53 _ (omega arith) c.in-53.is c.requires

pub returns-in-54 : goal.returns-in-54
returns-in-54 c = digit_named c.args.word.now 54 _ (omega arith) c.in-54.is c.requires

pub returns-in-55 : goal.returns-in-55
returns-in-55 c = digit_named c.args.word.now 55 _ (omega arith) c.in-55.is c.requires

pub returns-in-56 : goal.returns-in-56
returns-in-56 c = digit_named c.args.word.now 56 _ (omega arith) c.in-56.is c.requires

pub returns-in-57 : goal.returns-in-57
returns-in-57 c = digit_named c.args.word.now 57 _ (omega arith) c.in-57.is c.requires

pub returns-in_default : goal.returns-in_default
returns-in_default c = c.row_of-in_default.ensures ∙ named 114 114 c.args.word.now refl c.requires
