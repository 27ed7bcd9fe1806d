use Rattle.std.proofs.Common.{◌≡◌, drop, true}
use Rattle.std.specs.Prelude.{unwrap_or}
use Rattle.std.specs.List.{find}
use Rattle.std.specs.Option.{option_map}
use Rattle.link_apply.specs.Placed.{home_of, leads_to}
use Rattle.armlink_core.proofs.starting.veneer_to.Given as goal

abbrev pub invariant-loop-placed : goal.invariant-loop-placed
invariant-loop-placed l =
    unwrap_or (option_map (λ v. v.address) (find (λ v. leads_to 0 (home_of l.entry) true v.veneer) (drop l.placed-index l.veneers))) 0
    ≡ unwrap_or (option_map (λ v. v.address) (find (λ v. leads_to 0 (home_of l.entry) true v.veneer) l.veneers)) 0
