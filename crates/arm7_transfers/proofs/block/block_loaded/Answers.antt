use Rattle.std.proofs.Common.{◌∙◌, sym, refl}
use Rattle.sdt_word.specs.Numbers.{registers}
use Rattle.arm7_model.specs.Blocks.{lists}
use Rattle.arm7_transfers.proofs.BlockParts.{left_absent, take_ran, taken_plain}
use Rattle.arm7_transfers.proofs.block.block_loaded.Goals as goal

pub returns-then-all_loaded-clause-done : goal.returns-then-all_loaded-clause-done
returns-then-all_loaded-clause-done g c =
    take_ran c.args.thumb c.args.by.user c.args.by.write_back (registers 16 c.args.by.list) c.args.a c.args.by.register c.args.end (lists c.args.by.list 15) c.args.core.now _
    c.all_loaded.new.core c.all_loaded.new.core _ c.all_loaded.result c.requires.ready c.requires.aligned c.all_loaded.ensures.there c.if-all_loaded.true
    (taken_plain c.args.by.user c.args.by.write_back (registers 16 c.args.by.list) c.args.a c.args.by.register c.args.end (lists c.args.by.list 15) c.args.core.now c.all_loaded.new.core _ (sym c.lists.ensures ∙ c.if-lists.false) (c.all_loaded.ensures.core c.if-all_loaded.true))
    (c.all_loaded.ensures.served c.if-all_loaded.true) (sym c.lists.ensures ∙ c.if-lists.false) refl

pub returns-else-all_loaded-clause-done : goal.returns-else-all_loaded-clause-done
returns-else-all_loaded-clause-done g c =
    left_absent c.args.thumb c.args.by.user c.args.by.write_back (registers 16 c.args.by.list) c.args.a c.args.by.register c.args.end (lists c.args.by.list 15) c.args.core.now c.all_loaded.new.core _ _ c.all_loaded.result c.requires.ready c.all_loaded.ensures.there c.if-all_loaded.false
    (c.all_loaded.ensures.same c.if-all_loaded.false).0 (c.all_loaded.ensures.same c.if-all_loaded.false).1
