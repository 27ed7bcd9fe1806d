use Rattle.std.proofs.Common.{arith}
use Rattle.link_place.specs.Parts.{contents_in}
use Rattle.link_place.proofs.AnswerLemmas.{counts_same, few_groups}
use Rattle.link_place.proofs.placed.layout_of.Goals as goal

pub least_layout-requires-clause-counts : goal.least_layout-requires-clause-counts
least_layout-requires-clause-counts c =
    rw (c.as_slice.ensures.value, c.in_ok-groups.ensures, c.requires.parts) (counts_same c.args.input.now.kind.now (contents_in c.args.input.now))

pub least_layout-requires-clause-few : goal.least_layout-requires-clause-few
least_layout-requires-clause-few c =
    let count = few_groups c.args.input.now.kind.now in
    let loads = c.requires.loads in
    rw (c.as_slice.ensures.value, c.in_ok-groups.ensures) (omega (arith, count, loads))

pub returns : goal.returns
returns c = record {
  layout = rw (c.as_slice.ensures.value, c.in_ok-groups.ensures, c.most_words-most.ensures.most, c.requires.origin, c.requires.parts) at c.in_ok-layout.ensures;
}
