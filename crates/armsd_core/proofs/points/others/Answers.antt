use Rattle.std.proofs.Common.{◌≡◌, ◌∙◌, ◌==◌, ◌++◌, [], ◌∷◌, ℕ, List, get_or, not, ap, sym, arith}
use Rattle.std.proofs.lemmas.List.Elements.{filter_more}
use Rattle.armsd_core.specs.Points.{without}
use Rattle.armsd_core.proofs.points.others.Goals as goal

pub loop-point-preserved : goal.loop-point-preserved
loop-point-preserved c = record {
  kept = c.keep.ensures.items
      ∙ ap (λ (l : List ℕ). l ++ without (get_or c.args.points.now c.loop-point.point-index 0 ∷ []) c.args.a) c.loop-point.invariant.kept
      ∙ sym (filter_more (λ (p : ℕ). not (p == c.args.a)) c.args.points.now c.loop-point.point-index 0 c.loop-point-test.true);
  few = omega (arith, c.loop-point.invariant.few, c.keep.ensures.few);
}
