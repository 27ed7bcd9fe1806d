use Rattle.std.proofs.Common.{List, ◌++◌, length, refl, ap, ◌∙◌, arith}
use Rattle.std.proofs.lemmas.List.Sums.{get_or-le-sum_by}
use Rattle.aof_object.specs.declared.records.Object.{Object}
use Rattle.aof_object.specs.declared.records.Symbol.{Symbol}
use Rattle.link_model.specs.declared.selection.Definition.{Definition}
use Rattle.link_model.specs.declared.selection.Named.{Named}
use Rattle.link_model.specs.Members.{objects_in}
use Rattle.link_model.specs.Definitions.{definitions_in, definitions_from}
use Rattle.link_select.proofs.ListLemmas.{rest_all, rest_more}
use Rattle.link_select.proofs.selecting.definitions_of.Goals as goal

pub push_definitions-requires : goal.push_definitions-requires
push_definitions-requires c =
    let most = get_or-le-sum_by (λ (o : Named Object). length o.value.symbols) c.args.objects.now c.loop-i.i c.index-objects-i.result c.loop-i-test.true in
    let item = ap (λ (o : Named Object). length o.value.symbols) c.index-objects-i.is in
    let long = ap length c.as_slice-symbols.ensures in
    omega (arith, c.requires.symbols)

pub loop-i-preserved : goal.loop-i-preserved
loop-i-preserved c =
    rest_more {X = Named Object} {Y = Definition} (λ i os. definitions_from i (objects_in os)) (λ i o. definitions_in i 0 o.value.symbols) (λ i o os. refl) c.args.objects.now c.loop-i.i c.index-objects-i.result
    c.loop-i.definitions.items c.push_definitions.new.definitions.items (definitions_from 0 (objects_in c.args.objects.now)) c.loop-i-test.true c.index-objects-i.is
    (c.in_ok-push_definitions.ensures ∙ ap (λ (ds : List Definition). ds ++ definitions_in c.loop-i.i 0 c.as_slice-symbols.result.now) c.in_ok-reserve.ensures.items
    ∙ ap (λ (ss : List Symbol). c.loop-i.definitions.items ++ definitions_in c.loop-i.i 0 ss) c.as_slice-symbols.ensures) c.loop-i.invariant

pub returns : goal.returns
returns c =
    c.from_vec.ensures
    ∙ rest_all {X = Named Object} {Y = Definition} (λ i os. definitions_from i (objects_in os)) (λ i. refl) c.args.objects.now c.loop-i.i c.loop-i.definitions.items (definitions_from 0 (objects_in c.args.objects.now))
    (omega (arith, c.loop-i-test.false, c.loop-i.auto.i-end)) c.loop-i.invariant
