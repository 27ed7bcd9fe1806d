use Rattle.std.proofs.Common.{[], List, ap, ◌∙◌}
use Rattle.std.specs.List.{flat_map}
use Rattle.std.proofs.lemmas.List.{take_all}
use Rattle.aof_object.specs.declared.records.Symbol.{Symbol}
use Rattle.aof_object.specs.Spelling.{symbol_row}
use Rattle.aof_object.proofs.Lists.{rows_more}
use Rattle.aof_object.proofs.writing.symbol_table.Goals as goal

pub loop-symbol-preserved : goal.loop-symbol-preserved
loop-symbol-preserved c = λ ns t.
    rows_more (symbol_row ns c.args.areas.now) c.args.symbols.now c.loop-symbol.symbol-index c.symbol-item.result [] c.loop-symbol.out.items c.push_symbol.new.out.items c.loop-symbol-test.true c.symbol-item.is (c.loop-symbol.invariant ns t)
    (c.in_ok-push_symbol.ensures ns t)

pub returns : goal.returns
returns c = λ ns t.
    c.loop-symbol.invariant ns t ∙ ap (λ (l : List Symbol). flat_map (symbol_row ns c.args.areas.now) l) (take_all c.loop-symbol.symbol-index c.args.symbols.now c.loop-symbol-test.false)
