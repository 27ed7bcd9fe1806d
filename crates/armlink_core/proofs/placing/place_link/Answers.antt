use Rattle.std.proofs.Common.{Ok, refl}
use Rattle.std.specs.Option.{option_copied}
use Rattle.armlink_core.specs.Placing.{as_link, placed_link, placing}
use Rattle.armlink_core.proofs.PlaceLemmas.{fault_on, made_on, placed_err, placed_ok}
use Rattle.armlink_core.proofs.placing.place_link.Goals as goal

pub returns-in-Ok-clause-exact : goal.returns-in-Ok-clause-exact
returns-in-Ok-clause-exact c =
    let k = c.args.kind in
    let ram = option_copied c.args.ram in
    let parts = c.in-Ok.parts in
    made_on c.args.objects.items c.args.archives.items (placing k ram) (placed_link k ram) parts (Ok (as_link k parts)) (λ os e. placed_ok k ram os parts e) c.in-Ok.ensures.exact (Ok (as_link k parts)) refl

pub returns-in-Err-clause-exact : goal.returns-in-Err-clause-exact
returns-in-Err-clause-exact c =
    let k = c.args.kind in
    let ram = option_copied c.args.ram in
    fault_on c.args.objects.items c.args.archives.items (placing k ram) (placed_link k ram) (λ os r e. placed_err k ram os r e) c.in-Err.fault c.in-Err.ensures.exact
