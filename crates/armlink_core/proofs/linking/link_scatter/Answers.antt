use Rattle.std.specs.Option.{option_copied}
use Rattle.armlink_core.specs.Images.{image_made, scatter_linking}
use Rattle.armlink_core.specs.Placing.{placed_scatter}
use Rattle.armlink_core.proofs.PlaceLemmas.{fault_on, made_on, scattered_err, scattered_ok}
use Rattle.armlink_core.proofs.linking.link_scatter.Goals as goal

pub returns-in-Ok : goal.returns-in-Ok
returns-in-Ok c =
    let text = c.args.text.now in
    let ram = option_copied c.args.ram in
    let p = c.in-Ok.placed in
    record { exact = made_on c.args.objects.items c.args.archives.items (placed_scatter text ram) (scatter_linking text ram) p (image_made p.kind p.parts) (λ os e. scattered_ok text ram os p e) c.in-Ok.ensures.exact c.image_by.result c.image_by.ensures }

pub returns-in-Err : goal.returns-in-Err
returns-in-Err c =
    let text = c.args.text.now in
    let ram = option_copied c.args.ram in
    record { exact = fault_on c.args.objects.items c.args.archives.items (placed_scatter text ram) (scatter_linking text ram) (λ os r e. scattered_err text ram os r e) c.in-Err.fault c.in-Err.ensures.exact }
