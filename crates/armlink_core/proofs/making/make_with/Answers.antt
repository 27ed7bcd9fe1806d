use Rattle.std.specs.Option.{option_copied}
use Rattle.link_items.specs.LinkedItems.{contents_of}
use Rattle.armlink_core.proofs.ValidLemmas.{are_aligned}
use Rattle.armlink_core.proofs.WithinLemmas.{is_within}
use Rattle.armlink_core.proofs.making.make_with.Goals as goal

pub place-requires-clause-aligned : goal.place-requires-clause-aligned
place-requires-clause-aligned c = are_aligned c.args.linked.objects c.args.assigned.regions c.as_slice.result.now c.requires.objects

pub make_at-requires-clause-within : goal.make_at-requires-clause-within
make_at-requires-clause-within c =
    is_within c.args.kind.now (option_copied c.args.ram) (contents_of c.args.linked.objects c.args.assigned.regions c.as_slice.result.now) c.in_ok-placement.placement c.in_ok-placement.ensures.exact
