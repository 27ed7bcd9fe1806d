use Rattle.std.proofs.Common.{List, take, subst}
use Rattle.std.proofs.lemmas.List.{take_all}
use Rattle.aof_object.specs.Spelling.{gathered, symbol_names}
use Rattle.aof_object.specs.Places.{IsTable}
use Rattle.aof_object.specs.declared.records.Symbol.{Symbol}
use Rattle.aof_object.proofs.TableLemmas.{gathered_more}
use Rattle.aof_object.proofs.table.gather_symbols.Goals as goal

pub loop-symbol-preserved : goal.loop-symbol-preserved
loop-symbol-preserved c = λ ns t.
    rw (gathered_more (λ (x : Symbol). x.name) ns c.args.symbols.now c.loop-symbol.symbol-index c.symbol-item.result c.loop-symbol-test.true c.symbol-item.is)
    (rw (← c.as_slice.ensures) (c.in_ok-gather_name.ensures (gathered ns (symbol_names (take c.loop-symbol.symbol-index c.args.symbols.now))) (c.loop-symbol.invariant ns t)))

pub returns : goal.returns
returns c = λ ns t.
    subst (λ (l : List Symbol). IsTable c.loop-symbol.bytes.items c.loop-symbol.places (gathered ns (symbol_names l))) (take_all c.loop-symbol.symbol-index c.args.symbols.now c.loop-symbol-test.false) (c.loop-symbol.invariant ns t)
