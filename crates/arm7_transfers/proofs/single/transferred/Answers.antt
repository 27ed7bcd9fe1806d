use Rattle.arm7_transfers.proofs.SingleLemmas.{transfer_load, transfer_store}
use Rattle.arm7_transfers.proofs.single.transferred.Goals as goal

pub returns-then-load-clause-done : goal.returns-then-load-clause-done
returns-then-load-clause-done g c =
    transfer_load c.args.load c.args.signed c.args.by.pre c.args.by.up c.args.by.write_back c.args.width c.args.by.register c.args.rd c.args.by.offset
    c.args.core.now c.loaded.new.core _ _ c.loaded.result c.operand_at.result c.transfer_address-a.result c.if-load.true c.operand_at.ensures c.transfer_address-a.ensures c.loaded.ensures.done

pub returns-else-load-clause-done : goal.returns-else-load-clause-done
returns-else-load-clause-done g c =
    transfer_store c.args.load c.args.signed c.args.by.pre c.args.by.up c.args.by.write_back c.args.width c.args.by.register c.args.rd c.args.by.offset
    c.args.core.now c.stored.new.core _ _ c.stored.result c.operand_at.result c.transfer_address-a.result c.if-load.false c.operand_at.ensures c.transfer_address-a.ensures c.stored.ensures.done
