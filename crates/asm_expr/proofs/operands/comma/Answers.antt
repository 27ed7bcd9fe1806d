use Rattle.std.proofs.Common.{arith}
use Rattle.asm_expr.proofs.OperandLemmas.{begins, comma_step, one_deeper}
use Rattle.asm_expr.proofs.operands.comma.Goals as goal

pub tokens-init : goal.tokens-init
tokens-init c = record { cut = begins c.args.text.now 0 c.args.tokens.now; shallow = omega arith; within = omega arith }

pub tokens-preserved : goal.tokens-preserved
tokens-preserved c =
    record {
      cut =
          comma_step c.args.text.now c.args.tokens.now c.tokens.depth c.depth_behind-depth.result c.tokens.place _ c.piece_of-word.result.now c.cuts.result
          c.tokens-test.true c.piece_of-word.ensures c.cuts.ensures c.if-cuts.false c.depth_behind-depth.ensures c.tokens.invariant.cut;
      shallow = omega (arith, one_deeper c.tokens.depth c.piece_of-word.result.now, c.depth_behind-depth.ensures);
      within = omega arith;
    }
