use Rattle.std.proofs.Common.{rules, ◌∙◌, arith}
use Rattle.tool_answers.proofs.InputLemmas.{inputs_step, inputs_fail}
use Rattle.tool_answers.proofs.inputs.read_inputs.Goals as goal

pub loop-name-preserved : goal.loop-name-preserved
loop-name-preserved g c =
    let told = g.S.Store.files c.args.store.now in
    let found = rw c.loop-name.invariant.files at c.in-Ok.ensures.found in
    record {
      found = rw c.in_ok-push-in-Ok.ensures.items (inputs_step told c.args.names.now c.loop-name.contents.items c.loop-name.name-index c.name-item.result c.in-Ok.bytes c.loop-name-test.true c.name-item.is c.loop-name.invariant.found found);
      count = search rules;
      bounded = search rules;
      files = c.read_input.ensures.files ∙ c.loop-name.invariant.files;
      reads = omega (arith, c.read_input.ensures.read_faults, c.loop-name.invariant.reads);
      writes = c.read_input.ensures.write_faults ∙ c.loop-name.invariant.writes;
    }

pub returns-in-Err-clause-end : goal.returns-in-Err-clause-end
returns-in-Err-clause-end g c =
    let is_end = rw c.loop-name.invariant.files at c.in-Err.ensures.end in
    inputs_fail c.in-Err.end (g.S.Store.files c.args.store.now) c.args.names.now c.loop-name.contents.items c.loop-name.name-index c.name-item.result
    (g.S.Store.read_faults c.args.store.now) (g.S.Store.read_faults c.loop-name.store) (g.S.Store.read_faults c.read_input.new.store)
    c.loop-name-test.true c.name-item.is c.loop-name.invariant.reads c.loop-name.invariant.found is_end
