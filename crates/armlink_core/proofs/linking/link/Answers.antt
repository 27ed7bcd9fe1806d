use Rattle.std.specs.Option.{option_copied}
use Rattle.armlink_core.specs.Images.{image_made, linking}
use Rattle.armlink_core.specs.Placing.{placing}
use Rattle.armlink_core.proofs.PlaceLemmas.{fault_on, linked_err, linked_ok, made_on}
use Rattle.armlink_core.proofs.linking.link.Goals as goal

pub returns-in-Ok : goal.returns-in-Ok
returns-in-Ok c =
    let k = c.args.kind.now in
    let ram = option_copied c.args.ram in
    let parts = c.in-Ok.parts in
    record { exact = made_on c.args.objects.items c.args.archives.items (placing k ram) (linking k ram) parts (image_made k parts) (λ os e. linked_ok k ram os parts e) c.in-Ok.ensures.exact c.image_by.result c.image_by.ensures }

pub returns-in-Err : goal.returns-in-Err
returns-in-Err c =
    let k = c.args.kind.now in
    let ram = option_copied c.args.ram in
    record { exact = fault_on c.args.objects.items c.args.archives.items (placing k ram) (linking k ram) (λ os r e. linked_err k ram os r e) c.in-Err.fault c.in-Err.ensures.exact }
