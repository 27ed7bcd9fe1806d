use Rattle.std.proofs.Common.{refl, map}
use Rattle.run_opening.specs.Banks.{memory_bank}
use Rattle.run_opening.proofs.OpeningLemmas.{ends_for, filled, open_for, usable_for}
use Rattle.run_opening.proofs.filling.fill.Goals as goal

pub prepare-requires-clause-fits : goal.prepare-requires-clause-fits
prepare-requires-clause-fits g c = ends_for c.args.image.now c.as_slice.result.now c.args.image.now.loads c.as_slice.ensures refl (map memory_bank c.args.ranges.now) c.requires.room

pub load_all-requires-clause-open : goal.load_all-requires-clause-open
load_all-requires-clause-open g c = open_for c.args.ranges.now c.as_slice.result.now _ _ c.requires.banks c.in_ok-prepare.ensures.ok

pub load_all-requires-clause-usable : goal.load_all-requires-clause-usable
load_all-requires-clause-usable g c =
    usable_for c.args.image.now c.as_slice.result.now c.as_slice-2.result.now c.as_slice.ensures c.as_slice-2.ensures c.args.ranges.now _ _ c.in_ok-prepare.ensures.ok c.requires.room c.requires.needed

pub returns-clause-ok : goal.returns-clause-ok
returns-clause-ok g c =
    filled c.args.image.now c.as_slice.result.now c.as_slice-2.result.now c.as_slice.ensures c.as_slice-2.ensures (map memory_bank c.args.ranges.now) c.args.rom.now _ _ _ _
    c.in_ok-prepare.ensures.ok c.load_all.ensures c.protect_all.ensures
