use Rattle.std.proofs.Common.{◌≡◌, ◌≤◌, ◌<◌, ◌^◌, All, length, take}
use Rattle.tool_answers.specs.Inputs.{AreInputs}
use Rattle.tool_answers.proofs.inputs.read_inputs.Given as goal

abbrev pub invariant-loop-name : goal.invariant-loop-name
invariant-loop-name g l = record {
  found : AreInputs (g.S.Store.files l.fn.store) (take l.name-index l.names) l.contents.items;
  count : length l.contents.items ≡ l.name-index;
  bounded : All (λ bytes. length bytes < 2 ^ 32) l.contents.items;
  files : g.S.Store.files l.store ≡ g.S.Store.files l.fn.store;
  reads : g.S.Store.read_faults l.fn.store ≤ g.S.Store.read_faults l.store;
  writes : g.S.Store.write_faults l.store ≡ g.S.Store.write_faults l.fn.store;
}
