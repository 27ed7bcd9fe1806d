use Rattle.std.proofs.Common.{refl, sym, ◌∙◌}
use Rattle.arm7_transfers.proofs.PickedLemmas.{picked_fits, picked_may, picked_ready, picked_served}
use Rattle.arm7_transfers.proofs.block.gave_at_once.Goals as goal

pub returns-clause-may : goal.returns-clause-may
returns-clause-may g c =
    λ e. picked_may _ c.args.core.now c.args.list c.count-n.result c.args.a c.requires.ready c.count-n.ensures.value c.ranges.a.fits _ _ (c.write_picked.ensures.stored e) c.requires.aligned

pub returns-clause-fits : goal.returns-clause-fits
returns-clause-fits g c =
    λ e. picked_fits _ c.args.core.now c.args.list c.count-n.result c.args.a c.requires.ready c.count-n.ensures.value c.ranges.a.fits _ _ (c.write_picked.ensures.stored e)

pub returns-clause-served : goal.returns-clause-served
returns-clause-served g c =
    λ e. picked_served _ c.args.core.now c.args.list c.count-n.result c.args.a c.requires.ready c.count-n.ensures.value c.ranges.a.fits _ _ (c.write_picked.ensures.stored e)
    _ refl (sym c.lists.ensures ∙ c.if-lists.false) refl c.write_picked.ensures.devices

pub returns-clause-ready : goal.returns-clause-ready
returns-clause-ready g c =
    λ e. picked_ready _ c.args.core.now c.args.list c.count-n.result c.args.a c.requires.ready c.count-n.ensures.value c.ranges.a.fits _ _ (c.write_picked.ensures.stored e) _ refl c.write_picked.ensures.devices
