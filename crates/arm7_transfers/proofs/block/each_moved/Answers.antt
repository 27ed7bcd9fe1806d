use Rattle.arm7_transfers.proofs.BlockParts.{move_load, move_store}
use Rattle.arm7_transfers.proofs.block.each_moved.Goals as goal

pub returns-then-load-clause-done : goal.returns-then-load-clause-done
returns-then-load-clause-done g c =
    move_load c.args.thumb c.args.load c.args.pre c.args.up c.args.user c.args.write_back c.args.rn c.args.list c.args.core.now c.block_loaded.new.core _ _ c.block_loaded.result
    c.count-n.result c.register-b.result c.block_start.result c.aligned-a.result c.block_end-end.result c.if-load.true c.count-n.ensures.value c.register-b.ensures c.block_start.ensures c.aligned-a.ensures c.block_end-end.ensures c.block_loaded.ensures.done

pub returns-else-load-clause-done : goal.returns-else-load-clause-done
returns-else-load-clause-done g c =
    move_store c.args.thumb c.args.load c.args.pre c.args.up c.args.user c.args.write_back c.args.rn c.args.list c.args.core.now c.each_stored.new.core _ _ c.each_stored.result
    c.count-n.result c.register-b.result c.block_start.result c.aligned-a.result c.block_end-end.result c.if-load.false c.count-n.ensures.value c.register-b.ensures c.block_start.ensures c.aligned-a.ensures c.block_end-end.ensures c.each_stored.ensures.done
