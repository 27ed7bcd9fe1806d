use Rattle.std.proofs.Common.{ap, ◌+◌, ◌∙◌, arith}
use Rattle.std.specs.Prelude.{vec_len}
use Rattle.link_apply.proofs.PieceLemmas.{zeros_more}
use Rattle.link_apply.proofs.laying.push_zeros.Goals as goal

pub returns : goal.returns
returns c =
    c.in_ok-resize.ensures.items
    ∙ zeros_more c.args.bytes.now.items (vec_len c.args.bytes.now) (c.len.result + c.args.count) c.args.count (omega (arith, c.args.bytes.now.ok.0)) (ap (λ n. n + c.args.count) c.len.ensures)
