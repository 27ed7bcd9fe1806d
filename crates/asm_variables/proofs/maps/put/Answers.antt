use Rattle.std.proofs.Common.{refl, ◌∙◌}
use Rattle.asm_variables.proofs.MapLemmas.{bytes_same}
use Rattle.asm_variables.proofs.maps.put.Goals as goal

pub returns : goal.returns
returns g c = λ q. c.in_ok-insert.ensures.updates.0 q ∙ rw (bytes_same c.args.name q) refl
