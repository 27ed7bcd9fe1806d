use Rattle.sdt_word.specs.Numbers.{registers}
use Rattle.arm7_model.specs.Blocks.{lists}
use Rattle.arm7_transfers.proofs.BlockParts.{absent_from, no_return, take_odd, take_pc, taken_pc}
use Rattle.arm7_transfers.proofs.block.pc_loaded.Goals as goal

pub returns-then-not-all_loaded-clause-done : goal.returns-then-not-all_loaded-clause-done
returns-then-not-all_loaded-clause-done g c =
    absent_from c.args.thumb c.args.by.user c.args.by.write_back (registers 16 c.args.by.list) c.args.a c.args.by.register c.args.end (lists c.args.by.list 15) c.args.core.now _ _ c.all_loaded.result c.requires.ready c.all_loaded.ensures.there c.if-not-all_loaded.true
    (c.all_loaded.ensures.same c.if-not-all_loaded.true).1

pub returns-then-is_no_return-clause-done : goal.returns-then-is_no_return-clause-done
returns-then-is_no_return-clause-done g c =
    take_odd c.args.thumb c.args.by.user c.args.by.write_back (registers 16 c.args.by.list) c.args.a c.args.by.register c.args.end (lists c.args.by.list 15) c.args.core.now _
    c.all_loaded.new.core _ c.all_loaded.result c.is_no_return.result c.requires.ready c.requires.aligned c.all_loaded.ensures.there c.if-not-all_loaded.false
    (taken_pc c.args.by.user c.args.by.write_back (registers 16 c.args.by.list) c.args.a c.args.by.register c.args.end (lists c.args.by.list 15) c.args.core.now c.all_loaded.new.core _ c.requires.pc (c.all_loaded.ensures.core c.if-not-all_loaded.false))
    (c.all_loaded.ensures.served c.if-not-all_loaded.false) c.requires.pc
    (no_return c.args.thumb c.args.by.user c.all_loaded.new.core c.register.result c.is_no_return.result c.register.ensures c.is_no_return.ensures) c.if-is_no_return.true

pub returns-clause-done : goal.returns-clause-done
returns-clause-done g c =
    take_pc c.args.thumb c.args.by.user c.args.by.write_back (registers 16 c.args.by.list) c.args.a c.args.by.register c.args.end (lists c.args.by.list 15) c.args.core.now _
    c.set_loaded_pc.new.state c.all_loaded.new.core _ c.all_loaded.result c.is_no_return.result c.requires.ready c.requires.aligned c.all_loaded.ensures.there c.if-not-all_loaded.false
    (taken_pc c.args.by.user c.args.by.write_back (registers 16 c.args.by.list) c.args.a c.args.by.register c.args.end (lists c.args.by.list 15) c.args.core.now c.all_loaded.new.core _ c.requires.pc (c.all_loaded.ensures.core c.if-not-all_loaded.false))
    (c.all_loaded.ensures.served c.if-not-all_loaded.false) c.requires.pc
    (no_return c.args.thumb c.args.by.user c.all_loaded.new.core c.register.result c.is_no_return.result c.register.ensures c.is_no_return.ensures) c.if-is_no_return.false c.set_loaded_pc.ensures
