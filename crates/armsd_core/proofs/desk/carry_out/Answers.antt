use Rattle.std.proofs.Common.{arith, ap, refl}
use Rattle.std.proofs.lemmas.Result.{on_ok_weaker, on_err_weaker}
use Rattle.armsd_core.specs.declared.command.Command.TheVariants.{Break, Unbreak, Watch, Unwatch, Step, Go, Regs, Mem, Detach, Quit}
use Rattle.armsd_core.specs.Desks.{desk_of}
use Rattle.armsd_core.proofs.CommandLemmas.{bytes_of, done_as, fails_as, grows_break, grows_less, grows_none, most_of, points_set, room_for, steps_of}
use Rattle.armsd_core.proofs.DeskLemmas.{said_so, set_so, unsaid_so}
use Rattle.armsd_core.proofs.desk.carry_out.Goals as goal

pub add-requires : goal.add-requires
add-requires g c = room_for c.args.command c.in-Break.a c.args.notes.now.points c.in-Break.is c.requires.room

pub step-requires-clause-few : goal.step-requires-clause-few
step-requires-clause-few g c = let n = steps_of c.args.command c.in-Step.n c.in-Step.is c.requires.range in omega arith

pub go-requires-clause-few : goal.go-requires-clause-few
go-requires-clause-few g c = let n = most_of c.args.command c.in-Go.n c.in-Go.is c.requires.range in omega arith

pub print_memory-requires-clause-few : goal.print_memory-requires-clause-few
print_memory-requires-clause-few g c = bytes_of c.args.command c.in-Mem.a c.in-Mem.n c.in-Mem.is c.requires.range

-- ---- what was done

pub returns-in-Break-clause-carried : goal.returns-in-Break-clause-carried
returns-in-Break-clause-carried g c = record {
  ok =
      done_as c.args.command (Break c.in-Break.a) _ _ _ _ c.in-Break.is
      (set_so _ _ _ (points_set c.args.notes.now c.args.m.now.state _ _ _ c.add.ensures));
  failed = tt;
}

pub returns-in-Unbreak-clause-carried : goal.returns-in-Unbreak-clause-carried
returns-in-Unbreak-clause-carried g c = record {
  ok =
      done_as c.args.command (Unbreak c.in-Unbreak.a) _ _ _ _ c.in-Unbreak.is
      (set_so _ _ _ (points_set c.args.notes.now c.args.m.now.state _ _ _ c.remove.ensures));
  failed = tt;
}

pub returns-in-Watch-clause-carried : goal.returns-in-Watch-clause-carried
returns-in-Watch-clause-carried g c = record {
  ok = done_as c.args.command (Watch c.in-Watch.range) _ _ _ _ c.in-Watch.is (set_so _ _ _ refl);
  failed = tt;
}

pub returns-in-Unwatch-clause-carried : goal.returns-in-Unwatch-clause-carried
returns-in-Unwatch-clause-carried g c = record {
  ok = done_as c.args.command Unwatch _ _ _ _ c.in-Unwatch.is (set_so _ _ _ refl);
  failed = tt;
}

pub returns-in-Step-clause-carried : goal.returns-in-Step-clause-carried
returns-in-Step-clause-carried g c = record {
  ok = on_ok_weaker c.step.result (λ h. done_as c.args.command (Step c.in-Step.n) _ _ _ _ c.in-Step.is h) c.step.ensures.carried.ok;
  failed = on_err_weaker c.step.result (λ h. fails_as c.args.command (Step c.in-Step.n) _ _ _ _ _ _ c.in-Step.is h) c.step.ensures.carried.failed;
}

pub returns-in-Go-clause-carried : goal.returns-in-Go-clause-carried
returns-in-Go-clause-carried g c = record {
  ok = on_ok_weaker c.go.result (λ h. done_as c.args.command (Go c.in-Go.n) _ _ _ _ c.in-Go.is h) c.go.ensures.carried.ok;
  failed = on_err_weaker c.go.result (λ h. fails_as c.args.command (Go c.in-Go.n) _ _ _ _ _ _ c.in-Go.is h) c.go.ensures.carried.failed;
}

pub returns-in-Regs-clause-carried : goal.returns-in-Regs-clause-carried
returns-in-Regs-clause-carried g c = record {
  ok = on_ok_weaker c.print_registers.result (λ got. done_as c.args.command Regs _ _ _ _ c.in-Regs.is (said_so _ _ _ _ got)) c.print_registers.ensures.prints.ok;
  failed =
      on_err_weaker c.print_registers.result
      (λ h. fails_as c.args.command Regs _ _ _ _ _ _ c.in-Regs.is (unsaid_so _ (desk_of c.args.notes.now c.args.m.now.state _) _ _ _ h)) c.print_registers.ensures.prints.failed;
}

pub returns-in-Mem-clause-carried : goal.returns-in-Mem-clause-carried
returns-in-Mem-clause-carried g c = record {
  ok = on_ok_weaker c.print_memory.result (λ got. done_as c.args.command (Mem c.in-Mem.a c.in-Mem.n) _ _ _ _ c.in-Mem.is (said_so _ _ _ _ got)) c.print_memory.ensures.prints.ok;
  failed =
      on_err_weaker c.print_memory.result
      (λ h. fails_as c.args.command (Mem c.in-Mem.a c.in-Mem.n) _ _ _ _ _ _ c.in-Mem.is (unsaid_so _ (desk_of c.args.notes.now c.args.m.now.state _) _ _ _ h)) c.print_memory.ensures.prints.failed;
}

pub returns-in-Detach-clause-carried : goal.returns-in-Detach-clause-carried
returns-in-Detach-clause-carried g c = record {
  ok = done_as c.args.command (Detach c.in-Detach.i) _ _ _ _ c.in-Detach.is (set_so _ _ _ (ap (desk_of c.args.notes.now c.args.m.now.state) c.detach.ensures.bus));
  failed = tt;
}

pub returns-in-Quit-clause-carried : goal.returns-in-Quit-clause-carried
returns-in-Quit-clause-carried g c = record {
  ok = done_as c.args.command Quit _ _ _ _ c.in-Quit.is (set_so _ _ _ refl);
  failed = tt;
}

-- ---- what it adds

pub returns-in-Break-clause-grows : goal.returns-in-Break-clause-grows
returns-in-Break-clause-grows g c = grows_break c.args.command c.in-Break.a _ _ c.in-Break.is c.add.ensures refl

pub returns-in-Unbreak-clause-grows : goal.returns-in-Unbreak-clause-grows
returns-in-Unbreak-clause-grows g c = grows_less c.args.command c.in-Unbreak.a _ _ c.remove.ensures refl

pub returns-in-Step-clause-grows : goal.returns-in-Step-clause-grows
returns-in-Step-clause-grows g c =
    let n = steps_of c.args.command c.in-Step.n c.in-Step.is c.requires.range in grows_none c.args.command _ _ c.step.ensures.points (omega (arith, c.step.ensures.steps))

pub returns-in-Go-clause-grows : goal.returns-in-Go-clause-grows
returns-in-Go-clause-grows g c =
    let n = most_of c.args.command c.in-Go.n c.in-Go.is c.requires.range in grows_none c.args.command _ _ c.go.ensures.points (omega (arith, c.go.ensures.steps))
