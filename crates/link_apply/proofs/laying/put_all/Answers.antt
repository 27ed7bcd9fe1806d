use Rattle.std.proofs.Common.{sym, ap, ◌∙◌}
use Rattle.std.proofs.lemmas.List.{drop_all}
use Rattle.link_apply.specs.Pieces.{grown_from, pieces_in}
use Rattle.link_apply.proofs.laying.put_all.Goals as goal

pub returns : goal.returns
returns c =
    ap (λ ps. grown_from (pieces_in ps) 0 c.pieces.growing.items) (sym (drop_all c.pieces.piece-index c.args.pieces.now c.pieces-test.false)) ∙ c.pieces.invariant
