use Rattle.std.proofs.Common.{sym, ◌∙◌}
use Rattle.asm_variables.proofs.OperandLemmas.{begun_pieces, pieces_stop, pieces_pass}
use Rattle.asm_variables.proofs.operands.pieces_of.Goals as goal

pub bytes-init : goal.bytes-init
bytes-init c = rw (c.new-pieces.ensures.items, c.new-piece.ensures.items) (begun_pieces c.args.text.now)

pub returns-then-is_comment : goal.returns-then-is_comment
returns-then-is_comment c =
    c.in_ok-end_piece-2.ensures.more
    ∙ pieces_stop _ _ _ _ _ _ c.bytes.invariant c.in-Some.first c.in-Some.rest.now c.in-Some.ensures c.standing_at-begun.result.0
    c.standing_at-begun.result.1 c.standing_at-begun.ensures (sym c.is_comment.ensures ∙ c.if-is_comment.true)

pub bytes-preserved : goal.bytes-preserved
bytes-preserved c =
    pieces_pass _ _ _ _ _ _ c.bytes.invariant c.in-Some.first c.in-Some.rest.now c.in-Some.ensures c.standing_at-begun.result.0
    c.standing_at-begun.result.1 c.standing_at-begun.ensures _ _ (sym c.is_comment.ensures ∙ c.if-is_comment.false) c.in_ok-take_byte.ensures
