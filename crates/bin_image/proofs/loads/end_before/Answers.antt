use Rattle.bin_image.proofs.RangeLemmas.{is_less, as_less, not_less}
use Rattle.bin_image.proofs.loads.end_before.Goals as goal

pub returns-in-Some : goal.returns-in-Some
returns-in-Some c =
    let last = (c.range.ensures.in_range tt).3 _ _ c.in-Some.ensures.steps in
    let most = (c.range.ensures.in_range tt).4 _ _ c.in-Some.ensures.steps in (
      c.in-Some.field-0-0.now,
      is_less _ _ last.0.1,
      last.1,
      λ q below has. not_less _ _ (most q (tt, as_less q c.args.address below) has),
    )
