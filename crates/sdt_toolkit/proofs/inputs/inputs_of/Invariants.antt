use Rattle.std.proofs.Common.{◌≡◌, ◌≤◌, ℕ, List}
use Rattle.sdt_toolkit.specs.Contents.{AllAgree}
use Rattle.sdt_toolkit.specs.Inputs.{AreValid}
use Rattle.sdt_toolkit.proofs.InputLemmas.{AreBehind}
use Rattle.sdt_toolkit.proofs.inputs.inputs_of.Given as goal

abbrev pub invariant-loop-k : goal.invariant-loop-k
invariant-loop-k g l = record {
  value : (contents : List (List ℕ)) → AllAgree l.sources l.names l.read contents
      → AreBehind (g.S.Store.files l.fn.store) (g.S.Store.read_faults l.fn.store) (g.S.Store.read_faults l.store) l.sources l.names contents l.k l.inputs.items;
  valid : AreValid l.inputs.items;
  files : g.S.Store.files l.store ≡ g.S.Store.files l.fn.store;
  read_faults : g.S.Store.read_faults l.fn.store ≤ g.S.Store.read_faults l.store;
  write_faults : g.S.Store.write_faults l.store ≡ g.S.Store.write_faults l.fn.store;
}
