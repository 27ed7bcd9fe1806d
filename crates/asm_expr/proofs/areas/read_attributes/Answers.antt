use Rattle.std.specs.List.{list_any}
use Rattle.asm_model.specs.Areas.{attributes_in, is_bad_word}
use Rattle.asm_model.specs.Operands.{operands_at}
use Rattle.asm_expr.proofs.ReadingLemmas.{words_step, words_end, other_step, other_end, attribute_step, attribute_end}
use Rattle.asm_expr.proofs.areas.read_attributes.Goals as goal

pub returns-in-None : goal.returns-in-None
returns-in-None c =
    let cut = rw c.in-None.is at c.first_operand.ensures in
    let taken = c.in_ok-written.ensures in
    let o = c.first_operand.result.0.now in
    let all = operands_at c.args.text.now 0 c.args.tokens.now in (
      words_end c.args.text.now (attributes_in c.args.text.now all) c.operands.left.now o
          c.operands.written.words.items c.in_ok-written.written.words.items cut taken.0 c.operands.invariant.words,
      other_end c.args.text.now (list_any (is_bad_word c.args.text.now) all) c.operands.left.now o
          c.operands.written.has_other c.in_ok-written.written.has_other cut taken.1 c.operands.invariant.other,
      attribute_end c.args.text.now all c.operands.left.now o
          c.operands.written.alignments c.in_ok-written.written.alignments taken.2.0 cut taken.2.1 taken.2.2 c.operands.invariant.alignments,
    )

pub operands-preserved : goal.operands-preserved
operands-preserved c =
    let cut = rw c.in-Some.is at c.first_operand.ensures in
    let taken = c.in_ok-written.ensures in
    let o = c.first_operand.result.0.now in
    let all = operands_at c.args.text.now 0 c.args.tokens.now in
    record {
      words =
          words_step c.args.text.now (attributes_in c.args.text.now all) c.operands.left.now o c.in-Some.tokens.now
          c.operands.written.words.items c.in_ok-written.written.words.items cut taken.0 c.operands.invariant.words;
      other =
          other_step c.args.text.now (list_any (is_bad_word c.args.text.now) all) c.operands.left.now o c.in-Some.tokens.now
          c.operands.written.has_other c.in_ok-written.written.has_other cut taken.1 c.operands.invariant.other;
      alignments =
          attribute_step c.args.text.now all c.operands.left.now o c.in-Some.tokens.now
          c.operands.written.alignments c.in_ok-written.written.alignments taken.2.0 cut taken.2.1 taken.2.2 c.operands.invariant.alignments;
    }
