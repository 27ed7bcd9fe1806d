use Rattle.asm_variables.proofs.OperandLemmas.{begun, stops, passed}
use Rattle.std.proofs.Common.{◌∙◌, sym}
use Rattle.asm_variables.proofs.operands.width_before_comment.Goals as goal

pub bytes-init : goal.bytes-init
bytes-init c = begun c.args.text.now

pub returns-then-is_comment-clause-bytes : goal.returns-then-is_comment-clause-bytes
returns-then-is_comment-clause-bytes c =
    stops _ _ _ _ c.bytes.invariant c.in-Some.first c.in-Some.rest.now c.in-Some.ensures c.standing_at-begun.result.0 c.standing_at-begun.result.1
    c.standing_at-begun.ensures (sym c.is_comment.ensures ∙ c.if-is_comment.true)

pub bytes-preserved : goal.bytes-preserved
bytes-preserved c =
    passed _ _ _ _ c.bytes.invariant c.in-Some.first c.in-Some.rest.now c.in-Some.ensures c.standing_at-begun.result.0 c.standing_at-begun.result.1
    c.standing_at-begun.ensures (sym c.is_comment.ensures ∙ c.if-is_comment.false)
