use Rattle.std.proofs.Common.{◌++◌, refl, arith}
use Rattle.aof_object.specs.declared.records.Symbol.{Symbol}
use Rattle.link_model.specs.declared.selection.Definition.{Definition}
use Rattle.link_model.specs.Definitions.{definition_in, definitions_in}
use Rattle.link_select.proofs.ListLemmas.{rest_all, rest_more}
use Rattle.link_select.proofs.selecting.push_definitions.Goals as goal

pub loop-k-preserved : goal.loop-k-preserved
loop-k-preserved c =
    rest_more {X = Symbol} {Y = Definition} (definitions_in c.args.object) (definition_in c.args.object) (λ k s ss. refl) c.args.symbols.now c.loop-k.k c.index-symbols-k.result
    c.loop-k.definitions.items c.push_definition.new.definitions.items (c.args.definitions.now.items ++ definitions_in c.args.object 0 c.args.symbols.now) c.loop-k-test.true c.index-symbols-k.is
    c.in_ok-push_definition.ensures c.loop-k.invariant

pub returns : goal.returns
returns c =
    rest_all {X = Symbol} {Y = Definition} (definitions_in c.args.object) (λ k. refl) c.args.symbols.now c.loop-k.k c.loop-k.definitions.items (c.args.definitions.now.items ++ definitions_in c.args.object 0 c.args.symbols.now)
    (omega (arith, c.loop-k-test.false, c.loop-k.auto.k-end)) c.loop-k.invariant
