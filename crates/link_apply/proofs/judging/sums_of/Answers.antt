use Rattle.std.proofs.Common.{refl, sym, ◌∙◌}
use Rattle.link_apply.proofs.SumLemmas.{tells}
use Rattle.link_apply.proofs.judging.sums_of.Goals as goal

pub returns : goal.returns
returns c = record {
  tells = λ values relocs f there unmixed kind. let h = tells values c.args.base relocs f c.args.start there unmixed kind in
      record { added = h.added; subtracted = h.subtracted ∙ sym c.taken_by.ensures.value; symbol = h.symbol };
  added = refl;
  subtracted = c.taken_by.ensures.bound;
}
