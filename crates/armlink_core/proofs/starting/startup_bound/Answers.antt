use Rattle.std.proofs.Common.{arith}
use Rattle.armlink_core.proofs.LoadLemmas.{copies_few, zeros_few}
use Rattle.armlink_core.proofs.starting.startup_bound.Goals as goal

pub copies-copies-requires-clause-few : goal.copies-copies-requires-clause-few
copies-copies-requires-clause-few c = let few = copies_few c.args.regions.now in let h = few.rows in omega (arith, h, c.requires)

pub copies-copies-requires-clause-short : goal.copies-copies-requires-clause-short
copies-copies-requires-clause-short c = let few = copies_few c.args.regions.now in let h = few.words in omega (arith, h, c.requires)

pub zero_parts-parts-requires-clause-few : goal.zero_parts-parts-requires-clause-few
zero_parts-parts-requires-clause-few c = let few = zeros_few c.args.regions.now in let h = few.rows in omega (arith, h, c.requires)

pub zero_parts-parts-requires-clause-short : goal.zero_parts-parts-requires-clause-short
zero_parts-parts-requires-clause-short c = let few = zeros_few c.args.regions.now in let h = few.words in omega (arith, h, c.requires)

pub steps_bound-requires-clause-copies : goal.steps_bound-requires-clause-copies
steps_bound-requires-clause-copies c = let few = copies_few c.args.regions.now in let h = few.rows in omega (arith, h, c.requires)

pub steps_bound-requires-clause-copied : goal.steps_bound-requires-clause-copied
steps_bound-requires-clause-copied c = let few = copies_few c.args.regions.now in let h = few.words in omega (arith, h, c.requires)

pub steps_bound-requires-clause-parts : goal.steps_bound-requires-clause-parts
steps_bound-requires-clause-parts c = let few = zeros_few c.args.regions.now in let h = few.rows in omega (arith, h, c.requires)

pub steps_bound-requires-clause-zeroed : goal.steps_bound-requires-clause-zeroed
steps_bound-requires-clause-zeroed c = let few = zeros_few c.args.regions.now in let h = few.words in omega (arith, h, c.requires)
