use Rattle.std.proofs.Common.{sym, ◌∙◌}
use Rattle.asm_variables.proofs.OperandLemmas.{piece_ended}
use Rattle.asm_variables.proofs.operands.take_byte.Goals as goal

pub returns-then-not-is_quoted : goal.returns-then-not-is_quoted
returns-then-not-is_quoted c =
    piece_ended _ _ _ _ c.args.first c.args.standing c.if-first-eq44.true (sym c.is_quoted.ensures ∙ c.if-not-is_quoted.true)
    c.in_ok-end_piece.ensures.empty c.in_ok-end_piece.ensures.more
