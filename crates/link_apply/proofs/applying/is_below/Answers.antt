use Rattle.std.proofs.Common.{◌<◌, ◌^◌, sym, subst, take, get_or}
use Rattle.std.specs.Prelude.{None, false}
use Rattle.std.proofs.lemmas.List.{take_all}
use Rattle.std.proofs.lemmas.Option.{slice_get-get_or}
use Rattle.link_values.specs.declared.values.SymbolValue.{SymbolValue}
use Rattle.link_apply.specs.Starts.{AreBelow}
use Rattle.link_apply.proofs.PatchingLemmas.{each_more, next_taken}
use Rattle.link_apply.proofs.applying.is_below.Goals as goal

pub loop-symbol-preserved : goal.loop-symbol-preserved
loop-symbol-preserved c =
    let xs = c.args.symbols.now in
    let i = c.loop-symbol.symbol-index in
    let none : SymbolValue = record { number = 0; thumb = false; datum = false; home = None } in
    let there = slice_get-get_or xs i none c.loop-symbol-test.true in
    subst AreBelow (sym (next_taken xs i (get_or xs i none) there))
    (each_more (λ s. s.number < 2 ^ 34) (take i xs) (get_or xs i none) c.loop-symbol.invariant c.if-symbol-ge17179869184.false)

pub returns : goal.returns
returns c = λ _. subst AreBelow (take_all c.loop-symbol.symbol-index c.args.symbols.now c.loop-symbol-test.false) c.loop-symbol.invariant
