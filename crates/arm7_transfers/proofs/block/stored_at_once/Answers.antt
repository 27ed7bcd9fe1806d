use Rattle.std.proofs.Common.{false, refl, sym, true}
use Rattle.sdt_word.specs.Numbers.{registers}
use Rattle.arm7_transfers.proofs.BlockParts.{give_ran}
use Rattle.arm7_transfers.proofs.block.stored_at_once.Goals as goal

pub returns-clause-done : goal.returns-clause-done
returns-clause-done g c = λ _.
    let is = c.if-not-gave_at_once.false in
    give_ran false c.args.write_back (registers 16 c.args.list) c.args.a c.args.rn c.args.end c.args.core.now c.set_block_base.new.state _ _ true
    c.requires.ready c.requires.aligned c.ranges.a.fits (sym (c.gave_at_once.ensures.may is)) refl (c.gave_at_once.ensures.fits is).room (c.gave_at_once.ensures.served is) c.set_block_base.ensures
