use Rattle.std.specs.Option.{option_copied}
use Rattle.armlink_core.specs.Placing.{placed_scatter}
use Rattle.armlink_core.specs.Tables.{named_of, named_scatter}
use Rattle.armlink_core.proofs.PlaceLemmas.{fault_on, made_on, named_err, named_ok}
use Rattle.armlink_core.proofs.linking.link_named_scatter.Goals as goal

pub returns-in-Ok-clause-exact : goal.returns-in-Ok-clause-exact
returns-in-Ok-clause-exact c =
    let text = c.args.text.now in
    let ram = option_copied c.args.ram in
    let p = c.in-Ok.placed in
    made_on c.args.objects.items c.args.archives.items (placed_scatter text ram) (named_scatter text ram) p (named_of p) (λ os e. named_ok text ram os p e) c.in-Ok.ensures.exact c.named_by.result c.named_by.ensures.exact

pub returns-in-Err-clause-exact : goal.returns-in-Err-clause-exact
returns-in-Err-clause-exact c =
    let text = c.args.text.now in
    let ram = option_copied c.args.ram in
    fault_on c.args.objects.items c.args.archives.items (placed_scatter text ram) (named_scatter text ram) (λ os r e. named_err text ram os r e) c.in-Err.fault c.in-Err.ensures.exact
