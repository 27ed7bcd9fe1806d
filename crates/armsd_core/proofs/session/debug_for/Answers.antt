use Rattle.std.proofs.Common.{arith}
use Rattle.armsd_core.proofs.SessionLemmas.{begins_with, cuts_up, ends_at, goes_to, has_all_of, left_after, none_made, quits_at, range_at, room_at}
use Rattle.armsd_core.proofs.session.debug_for.Goals as goal

pub commands-init : goal.commands-init
commands-init g c = record {
  way = begins_with c.args.commands.now c.new-notes.result c.args.m.now.state _ _ c.new-notes.ensures;
  left = has_all_of _ c.args.commands.now c.new-notes.result c.new-notes.ensures c.requires.good;
  steps = none_made c.new-notes.result c.new-notes.ensures;
  faults = omega arith;
  valid = c.requires.valid;
  ready = c.requires.ready;
}

pub carry_out-requires-clause-range : goal.carry_out-requires-clause-range
carry_out-requires-clause-range g c =
    range_at c.args.commands.now c.commands.command-index c.command-item.result c.commands.notes.points c.commands-test.true c.command-item.is c.commands.invariant.left

pub carry_out-requires-clause-room : goal.carry_out-requires-clause-room
carry_out-requires-clause-room g c =
    room_at c.args.commands.now c.commands.command-index c.command-item.result c.commands.notes.points c.commands-test.true c.command-item.is c.commands.invariant.left

pub commands-preserved : goal.commands-preserved
commands-preserved g c = record {
  way = goes_to c.args.commands.now _ _ c.commands.command-index c.command-item.result _ _ _ _ c.commands-test.true c.command-item.is c.in_default.not-Quit c.commands.invariant.way c.in-Ok.ensures.carried.ok;
  left = left_after c.args.commands.now c.commands.command-index c.command-item.result c.commands.notes.points c.carry_out.new.notes.points c.commands-test.true c.command-item.is c.commands.invariant.left
      c.carry_out.ensures.grows.points;
  steps = omega (arith, c.commands.invariant.steps, c.carry_out.ensures.grows.steps);
  faults = omega (arith, c.commands.invariant.faults, c.carry_out.ensures.faults);
  valid = c.carry_out.ensures.valid;
  ready = c.carry_out.ensures.ready;
}

pub returns-in-Quit-clause-session : goal.returns-in-Quit-clause-session
returns-in-Quit-clause-session g c =
    quits_at c.args.commands.now _ _ c.commands.command-index c.command-item.result _ _ (Unit {0}) c.commands-test.true c.command-item.is c.in-Quit.is c.commands.invariant.way

pub returns-in-Err-clause-session : goal.returns-in-Err-clause-session
returns-in-Err-clause-session g c =
    cuts_up c.args.commands.now _ _ c.commands.command-index c.command-item.result _ _ _ _ _ _ _ c.commands-test.true c.command-item.is c.in_default.not-Quit
    (λ rose. omega (arith, c.commands.invariant.faults, rose)) c.commands.invariant.way c.in-Err.ensures.carried.failed

pub returns-clause-session : goal.returns-clause-session
returns-clause-session g c = ends_at c.args.commands.now _ _ c.commands.command-index _ _ (Unit {0}) c.commands-test.false c.commands.invariant.way
