use Rattle.asm_model.specs.Says.{sentence, directive_of}
use Rattle.asm_expr.proofs.SayingLemmas.{one_saying}
use Rattle.asm_expr.proofs.directives.one_directive.Goals as goal

pub returns : goal.returns
returns c flat ts a b p q = one_saying flat (sentence ts) (directive_of flat.text (sentence ts).operation) a b p q
