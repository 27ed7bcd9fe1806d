use Rattle.std.proofs.Common.{◌≡◌, ℕ, cond, List, take, Some}
use Rattle.aof_object.specs.Names.{among}
use Rattle.aof_object.specs.Objects.{exported}
use Rattle.link_select.specs.Index.{number_in}
use Rattle.link_select.proofs.exports.put_each.Given as goal

abbrev pub invariant-loop-symbol : goal.invariant-loop-symbol
invariant-loop-symbol l = (q : List ℕ) → number_in l.index q ≡ cond (among q (exported (take l.symbol-index l.symbols))) (Some l.number) (number_in l.initial.index q)
