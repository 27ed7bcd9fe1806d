use Rattle.std.proofs.Common.{refl}
use Rattle.sdt_word.specs.Numbers.{registers}
use Rattle.arm7_transfers.proofs.BlockParts.{give_refused, give_lacking, give_ran}
use Rattle.arm7_transfers.proofs.block.each_stored.Goals as goal

pub returns-then-not-are_storable-clause-done : goal.returns-then-not-are_storable-clause-done
returns-then-not-are_storable-clause-done g c =
    give_refused c.args.by.user c.args.by.write_back (registers 16 c.args.by.list) c.args.a c.args.by.register c.args.end c.args.core.now _ c.are_storable.result
    c.requires.ready c.are_storable.ensures c.if-not-are_storable.true

pub returns-in-Some-clause-done : goal.returns-in-Some-clause-done
returns-in-Some-clause-done g c = (
  give_lacking c.args.by.user c.args.by.write_back (registers 16 c.args.by.list) c.args.a c.args.by.register c.args.end c.in-Some.address c.args.core.now _ c.are_storable.result
      c.requires.ready c.are_storable.ensures c.if-not-are_storable.false c.in-Some.ensures.more c.in-Some.ensures.least,
  refl,
  refl,
)

pub returns-clause-done : goal.returns-clause-done
returns-clause-done g c =
    give_ran c.args.by.user c.args.by.write_back (registers 16 c.args.by.list) c.args.a c.args.by.register c.args.end c.args.core.now c.set_block_base.new.state _ _ c.are_storable.result
    c.requires.ready c.requires.aligned c.ranges.a.fits c.are_storable.ensures c.if-not-are_storable.false c.in_default.ensures.room c.give_all.ensures.served c.set_block_base.ensures
