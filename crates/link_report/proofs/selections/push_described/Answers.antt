use Rattle.std.proofs.Common.{flat_map}
use Rattle.place_model.specs.Assignment.{offers_from}
use Rattle.link_items.specs.LinkedItems.{items_in}
use Rattle.link_report.proofs.selections.push_described.Goals as goal

pub returns : goal.returns
returns c =
    let offers = offers_from 0 (flat_map (λ l. l.regions) c.args.loads.now) in
    c.in_ok-push_loads.ensures offers (items_in c.args.objects.now) (c.in_ok-taken.ensures offers c.in_ok-keys.ensures)
