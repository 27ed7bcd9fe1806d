use Rattle.std.proofs.Common.{arith}
use Rattle.std.proofs.lemmas.Result.{on_ok_weaker, on_err_weaker}
use Rattle.armsd_core.specs.Goes.{Steps}
use Rattle.armsd_core.proofs.DeskLemmas.{again, again_fails, choked, told, told_fails}
use Rattle.armsd_core.proofs.desk.step.Goals as goal

pub returns-in-Some-clause-carried : goal.returns-in-Some-clause-carried
returns-in-Some-clause-carried g c = record {
  ok = on_ok_weaker c.print_end.result (λ got. again (Steps c.args.m.now.state _) c.args.n c.args.notes.now c.args.m.now.state _ c.in-Some.why _ _ c.in-Some.is got) c.print_end.ensures.prints.ok;
  failed = on_err_weaker c.print_end.result (λ h. again_fails (Steps c.args.m.now.state _) c.args.n c.args.notes.now c.args.m.now.state _ c.in-Some.why _ _ _ c.in-Some.is h) c.print_end.ensures.prints.failed;
}

pub returns-in-Some-reason-clause-carried : goal.returns-in-Some-reason-clause-carried
returns-in-Some-reason-clause-carried g c = record {
  ok =
      on_ok_weaker c.tell.result
      (λ got. told (Steps c.args.m.now.state _) c.args.n c.args.notes.now c.tell.new.self c.args.m.now.state c.step_for-made.new.m.state _ _ c.step_for-made.result.reason c.in-Some-reason.why c.step_for-made.result.steps _ _ _ _
      c.in_default.is c.in-Some-reason.is c.tell.ensures.notes (rw c.from.ensures at c.step_for-made.ensures.makes) got)
      c.tell.ensures.prints.ok;
  failed =
      on_err_weaker c.tell.result
      (λ h. told_fails (Steps c.args.m.now.state _) c.args.n c.args.notes.now c.args.m.now.state c.step_for-made.new.m.state _ _ c.step_for-made.result.reason c.in-Some-reason.why c.step_for-made.result.steps _ _ _ _ _ _
      c.in_default.is c.in-Some-reason.is (rw c.from.ensures at c.step_for-made.ensures.makes) (λ rose. omega (arith, c.step_for-made.ensures.faults, rose)) h)
      c.tell.ensures.prints.failed;
}

pub returns-in-None-clause-carried : goal.returns-in-None-clause-carried
returns-in-None-clause-carried g c = record {
  ok = tt;
  failed = choked (Steps c.args.m.now.state _) c.args.n c.args.notes.now c.args.m.now.state c.step_for-made.new.m.state _ _ c.step_for-made.result.reason c.step_for-made.result.steps _ _ _ c.in_default.is c.in-None.is (rw c.from.ensures at c.step_for-made.ensures.makes);
}
