use Rattle.std.proofs.Common.{false}
use Rattle.link_model.specs.declared.placing.PlacedVeneer.{PlacedVeneer}
use Rattle.link_apply.proofs.DetourLemmas.{veneers_back}
use Rattle.link_apply.proofs.detours.index_veneers.Goals as goal

pub loop-i-preserved : goal.loop-i-preserved
loop-i-preserved c =
    let none : PlacedVeneer = record { veneer = record { region = 0; area = record { object = 0; area = 0 }; offset = 0; thumb = false }; address = 0 } in
    veneers_back c.loop-i.veneers c.put_veneer.new.veneers c.args.placed.now c.loop-i.i none c.loop-i-test.true c.loop-i.auto.i c.loop-i.invariant c.in_ok-put_veneer.ensures
