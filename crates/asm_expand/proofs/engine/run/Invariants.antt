use Rattle.std.proofs.Common.{◌≡◌, ◌≤◌}
use Rattle.expand_model.specs.States.{started}
use Rattle.expand_model.specs.Steps.{Go, visit_limit}
use Rattle.asm_expand.specs.Leading.{IsLed, IsLedWithout, OfFiles, left}
use Rattle.asm_expand.specs.LineCursors.{cursor_lines}
use Rattle.asm_expand.specs.Saying.{most_flats}
use Rattle.asm_expand.proofs.engine.run.Given as goal

abbrev pub invariant-steps : goal.invariant-steps
invariant-steps g l = record {
  led : OfFiles (g.S.Store.files l.fn.store) (λ sources. IsLed sources (Go (started visit_limit) (cursor_lines l.fn.first)) l.engine l.next);
  without : OfFiles (g.S.Store.files l.fn.store) (λ sources. IsLedWithout sources (Go (started visit_limit) (cursor_lines l.fn.first)) l.engine l.next);
  few : most_flats l.engine.state ≤ visit_limit;
  files : g.S.Store.files l.store ≡ g.S.Store.files l.fn.store;
  reads : g.S.Store.read_faults l.fn.store ≤ g.S.Store.read_faults l.store;
  writes : g.S.Store.write_faults l.store ≡ g.S.Store.write_faults l.fn.store;
}

abbrev pub decreases-steps : goal.decreases-steps
decreases-steps g l = left l.next l.engine
