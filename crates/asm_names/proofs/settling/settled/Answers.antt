use Rattle.std.proofs.Common.{map}
use Rattle.asm_names.specs.Owing.{owed_of}
use Rattle.asm_names.specs.Source.{begun}
use Rattle.asm_names.proofs.SettleLemmas.{settles_more}
use Rattle.asm_names.proofs.settling.settled.Goals as goal

pub places-init : goal.places-init
places-init c = begun

pub places-preserved : goal.places-preserved
places-preserved c =
    settles_more c.args.declared.now (map owed_of c.args.dues.now) c.args.first c.args.places.now c.places.place-index c.places.known c.add_entry.new.names
    c.in_ok-entry.entry c.places-test.true c.places.invariant c.in_ok-entry.ensures c.in_ok-add_entry.ensures
