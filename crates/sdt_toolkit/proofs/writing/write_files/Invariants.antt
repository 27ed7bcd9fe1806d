use Rattle.std.proofs.Common.{◌≡◌, ◌≤◌, take}
use Rattle.tool_answers.specs.Outcomes.{AreWritten}
use Rattle.sdt_toolkit.specs.Links.{outputs}
use Rattle.sdt_toolkit.proofs.writing.write_files.Given as goal

abbrev pub invariant-loop-file : goal.invariant-loop-file
invariant-loop-file g l = record {
  written : AreWritten (g.S.Store.files l.fn.store) (g.S.Store.files l.store) (outputs (take l.file-index l.files));
  reads : g.S.Store.read_faults l.store ≡ g.S.Store.read_faults l.fn.store;
  writes : g.S.Store.write_faults l.fn.store ≤ g.S.Store.write_faults l.store;
}
