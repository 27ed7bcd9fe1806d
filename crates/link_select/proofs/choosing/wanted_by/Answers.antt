use Rattle.std.proofs.Common.{ℕ, Option, ◌++◌, refl, ap, ◌∙◌, arith}
use Rattle.std.specs.List.{filter_map}
use Rattle.std.specs.Option.{option_to_list}
use Rattle.aof_object.specs.declared.records.Symbol.{Symbol}
use Rattle.link_model.specs.Chosen.{asked}
use Rattle.link_select.specs.Search.{supply_of}
use Rattle.link_select.proofs.ListLemmas.{filter_map_step, rest_all, rest_more}
use Rattle.link_select.proofs.choosing.wanted_by.Goals as goal

pub loop-symbol-preserved : goal.loop-symbol-preserved
loop-symbol-preserved c =
    let f : Symbol → Option ℕ = asked (supply_of c.args.supply.now) in
    rest_more {X = Symbol} {Y = ℕ} (λ i ss. filter_map f ss) (λ i s. option_to_list (f s)) (λ i s ss. filter_map_step f s ss) c.args.symbols.now c.loop-symbol.symbol-index c.symbol-item.result
    c.loop-symbol.numbers.items c.push_given.new.numbers.items (filter_map f c.args.symbols.now) c.loop-symbol-test.true c.symbol-item.is
    (c.in_ok-push_given.ensures ∙ ap (λ (o : Option ℕ). c.loop-symbol.numbers.items ++ option_to_list o) c.asked_by.ensures) c.loop-symbol.invariant

pub returns : goal.returns
returns c =
    let f : Symbol → Option ℕ = asked (supply_of c.args.supply.now) in
    rest_all {X = Symbol} {Y = ℕ} (λ i ss. filter_map f ss) (λ i. refl) c.args.symbols.now c.loop-symbol.symbol-index c.loop-symbol.numbers.items (filter_map f c.args.symbols.now)
    (omega (arith, c.loop-symbol-test.false, c.loop-symbol.auto.symbol-index-end)) c.loop-symbol.invariant
