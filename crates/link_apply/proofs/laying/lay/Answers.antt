use Rattle.std.proofs.Common.{sym, ◌∙◌}
use Rattle.link_apply.specs.Pieces.{pieces_in}
use Rattle.link_apply.proofs.PieceLemmas.{grown_bytes}
use Rattle.link_apply.proofs.laying.lay.Goals as goal

pub returns : goal.returns
returns c =
    c.in_ok-all.ensures ∙ sym (grown_bytes 0 c.put_all.new.growing.items) ∙ c.in_ok-put_all.ensures ∙ c.in_ok-growing.ensures (pieces_in c.args.pieces.now)
