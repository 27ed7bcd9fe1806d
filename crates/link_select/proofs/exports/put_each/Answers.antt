use Rattle.link_select.proofs.ExportLemmas.{exports_more}
use Rattle.link_select.proofs.exports.put_each.Goals as goal

pub loop-symbol-preserved : goal.loop-symbol-preserved
loop-symbol-preserved c =
    exports_more c.args.index.now c.loop-symbol.index c.put_export.new.index c.args.symbols.now c.loop-symbol.symbol-index c.symbol-item.result c.args.number c.loop-symbol-test.true c.symbol-item.is c.loop-symbol.invariant c.in_ok-put_export.ensures
