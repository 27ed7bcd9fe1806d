use Rattle.std.proofs.Common.{◌≡◌, drop}
use Rattle.link_model.specs.Options.{first_given}
use Rattle.link_select.specs.Exports.{clash}
use Rattle.link_select.proofs.exports.first_clash.Given as goal

abbrev pub invariant-loop-symbol : goal.invariant-loop-symbol
invariant-loop-symbol l = first_given (clash l.name (drop l.first l.objects)) (drop l.symbol-index l.symbols) ≡ first_given (clash l.name (drop l.first l.objects)) l.symbols
