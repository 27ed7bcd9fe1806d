use Rattle.std.proofs.Common.{arith, ◌∙◌, false, refl, sym, true}
use Rattle.sdt_word.specs.Numbers.{registers}
use Rattle.arm7_model.specs.Blocks.{lists}
use Rattle.arm7_transfers.specs.declared.outcome.Outcome.TheVariants as outcome
use Rattle.arm7_transfers.proofs.BlockParts.{move_load, move_store, take_ran, taken_plain}
use Rattle.arm7_transfers.proofs.block.moved_at_once.Goals as goal

pub returns-then-load-clause-done : goal.returns-then-load-clause-done
returns-then-load-clause-done g c = λ e.
    move_load c.args._thumb c.args.load c.args.pre c.args.up false c.args.write_back c.args.rn c.args.list c.args.core.now c.taken_at_once.new.core _ _ outcome.Ran
    c.count-n.result c.register-b.result c.block_start.result c.aligned-a.result c.block_end-end.result c.if-load.true c.count-n.ensures.value c.register-b.ensures c.block_start.ensures c.aligned-a.ensures c.block_end-end.ensures
    (take_ran c.args._thumb false c.args.write_back (registers 16 c.args.list) c.aligned-a.result c.args.rn c.block_end-end.result (lists c.args.list 15) c.args.core.now _
    c.taken_at_once.new.core c.taken_at_once.new.core _ true c.requires.ready (let h = c.aligned-a.ensures in omega arith) (sym (c.taken_at_once.ensures.taken e).0) refl
    (taken_plain false c.args.write_back (registers 16 c.args.list) c.aligned-a.result c.args.rn c.block_end-end.result (lists c.args.list 15) c.args.core.now c.taken_at_once.new.core _ (sym c.lists.ensures ∙ c.if-lists.false) (c.taken_at_once.ensures.taken e).1)
    (c.taken_at_once.ensures.taken e).2 (sym c.lists.ensures ∙ c.if-lists.false) refl)

pub returns-else-load-clause-done : goal.returns-else-load-clause-done
returns-else-load-clause-done g c = λ e.
    move_store c.args._thumb c.args.load c.args.pre c.args.up false c.args.write_back c.args.rn c.args.list c.args.core.now c.stored_at_once.new.core _ _ outcome.Ran
    c.count-n.result c.register-b.result c.block_start-else-load.result c.aligned-a-else-load.result c.block_end-end-else-load.result c.if-load.false c.count-n.ensures.value c.register-b.ensures c.block_start-else-load.ensures c.aligned-a-else-load.ensures c.block_end-end-else-load.ensures (c.stored_at_once.ensures.done e)
