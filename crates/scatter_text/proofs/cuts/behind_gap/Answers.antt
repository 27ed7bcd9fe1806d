use Rattle.std.proofs.Common.{◌∙◌, ◌+◌, ◌≤◌, sym, ap, arith, false}
use Rattle.scatter_text.specs.Parts.{parts}
use Rattle.scatter_text.proofs.CutLemmas.{gap_is, line_grows}
use Rattle.scatter_text.proofs.cuts.behind_gap.Goals as goal

pub bytes-preserved : goal.bytes-preserved
bytes-preserved c =
    let grows : c.line_behind-line.result ≤ c.bytes.line + 1 = rw c.line_behind-line.ensures (line_grows c.bytes.line c.in-Some.first.now) in (
      λ depth.
          rw (c.line_behind-line.ensures, c.behind_comment-rest.ensures.value)
          (sym (gap_is depth c.bytes.line c.in-Some.first.now c.in-Some.behind.now (sym c.if-not-is_gap.ensures))
          ∙ ap (λ text. parts false depth c.bytes.line text) (sym c.in-Some.ensures.cases.0)
          ∙ c.bytes.invariant.0 depth),
      omega (arith, grows, c.behind_comment-rest.ensures.shorter, c.in-Some.ensures.cases.1, c.bytes.invariant.1),
      omega (arith, c.behind_comment-rest.ensures.shorter, c.in-Some.ensures.cases.1, c.bytes.invariant.2),
    )
