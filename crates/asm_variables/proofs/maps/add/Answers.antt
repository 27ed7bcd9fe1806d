use Rattle.std.proofs.Common.{◌≡◌, Bool, true, false, cond, ◌||◌, refl, ◌∙◌}
use Rattle.asm_model.specs.Forms.{same}
use Rattle.asm_variables.specs.Maps.{has_name}
use Rattle.asm_variables.proofs.MapLemmas.{bytes_same}
use Rattle.asm_variables.proofs.maps.add.Goals as goal

cond_or : (a b : Bool) → cond a true b ≡ (a || b)
cond_or true b = refl
cond_or false b = refl

pub returns : goal.returns
returns c = λ q. c.in_ok-insert.ensures.updates.0 q ∙ rw (bytes_same c.args.name q) (cond_or (same c.args.name q) (has_name c.args.names.now q))
