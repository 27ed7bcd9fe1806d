use Rattle.std.proofs.Common.{map, refl, Some}
use Rattle.asm_model.specs.Parts.{part_of}
use Rattle.asm_expr.specs.Parsing.{parsed}
use Rattle.asm_expr.specs.Steps.{state_of}
use Rattle.asm_expr.proofs.StackLemmas.{taken_step, taken_end}
use Rattle.asm_expr.proofs.read.take_all.Goals as goal

pub tokens-init : goal.tokens-init
tokens-init c = refl

pub tokens-preserved : goal.tokens-preserved
tokens-preserved c =
    taken_step (part_of c.args.text.now) c.args.tokens.now c.tokens.token-index _ c.in_ok-part.part (state_of c.tokens.parser) (state_of c.take.new.self)
    c.in_ok-take.field-0 (parsed (Some (state_of c.args.parser.now)) (map (part_of c.args.text.now) c.args.tokens.now)) c.tokens-test.true
    c.in_ok-part.ensures c.in_ok-take.ensures c.if-not-branch.false c.tokens.invariant

pub returns : goal.returns
returns c =
    taken_end (part_of c.args.text.now) c.args.tokens.now c.tokens.token-index (state_of c.tokens.parser)
    (parsed (Some (state_of c.args.parser.now)) (map (part_of c.args.text.now) c.args.tokens.now)) c.tokens-test.false c.tokens.invariant
