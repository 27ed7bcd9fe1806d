use Rattle.std.proofs.Common.{◌≡◌, drop}
use Rattle.link_model.specs.Options.{first_given}
use Rattle.link_select.specs.Regions.{known_by}
use Rattle.link_select.specs.Undefined.{lacking}
use Rattle.link_select.proofs.undefined.first_lacking.Given as goal

abbrev pub invariant-loop-symbol : goal.invariant-loop-symbol
invariant-loop-symbol l = first_given (lacking (known_by l.exports l.regions) l.name) (drop l.symbol-index l.symbols) ≡ first_given (lacking (known_by l.exports l.regions) l.name) l.symbols
