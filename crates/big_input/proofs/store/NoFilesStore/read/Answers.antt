use Rattle.std.specs.Ordering.{nat_cmp}
use Rattle.std.specs.Cmp.Lexicographic.{slice_cmp}
use Rattle.std.specs.FinMap.{get-empty}
use Rattle.big_input.proofs.store.NoFilesStore.read.Goals as goal

pub returns-clause-failed : goal.returns-clause-failed
returns-clause-failed c = get-empty (slice_cmp nat_cmp) c.args._name.now
