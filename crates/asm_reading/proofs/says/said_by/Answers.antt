use Rattle.asm_expr.specs.SentenceSteps.{sentence_of}
use Rattle.asm_reading.specs.Says.{ReadsBy}
use Rattle.asm_reading.proofs.SayingLemmas.{directive_said, other_said}
use Rattle.asm_reading.proofs.says.said_by.Goals as goal

pub returns-in-Some : goal.returns-in-Some
returns-in-Some c =
    directive_said (ReadsBy c.args.thumb) c.args.line.now c.args.tokens.now (sentence_of c.parts_of-sentence.result) c.directive_of.result
    c.in-Some.directive c.of_directive.result c.parts_of-sentence.ensures c.directive_of.ensures c.in-Some.is c.of_directive.ensures

pub returns-in-None : goal.returns-in-None
returns-in-None c =
    other_said (ReadsBy c.args.thumb) c.args.line.now c.args.tokens.now (sentence_of c.parts_of-sentence.result) c.directive_of.result
    c.words.result c.parts_of-sentence.ensures c.directive_of.ensures c.in-None.is c.words.ensures
