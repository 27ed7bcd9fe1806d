use Rattle.std.proofs.Common.{refl}
use Rattle.sdt_toolkit.specs.Commands.{Commanded}
use Rattle.sdt_toolkit.proofs.commands.carried_out.Goals as goal

pub returns-in-CreateLibrary-clause-commanded : goal.returns-in-CreateLibrary-clause-commanded
unfolding Commanded
returns-in-CreateLibrary-clause-commanded g c =
    let says = rw c.as_slice.ensures at c.create_library.ensures in
    rw (c.in-CreateLibrary.is, c.after-in-CreateLibrary.ensures) (says (g.K.Sink.bytes c.args.sink.now) (g.K.Sink.faults c.args.sink.now), refl)

pub returns-in-Assemble-clause-commanded : goal.returns-in-Assemble-clause-commanded
unfolding Commanded
returns-in-Assemble-clause-commanded g c =
    rw (c.in-Assemble.is, c.after.ensures) (c.assemble_file.ensures (g.K.Sink.bytes c.args.sink.now) (g.K.Sink.faults c.args.sink.now), refl)

pub returns-in-ListMembers-clause-commanded : goal.returns-in-ListMembers-clause-commanded
unfolding Commanded
returns-in-ListMembers-clause-commanded g c =
    rw (c.in-ListMembers.is, c.after-in-ListMembers.ensures) (c.list_members.ensures, refl)

pub returns-in-ExtractMember-clause-commanded : goal.returns-in-ExtractMember-clause-commanded
unfolding Commanded
returns-in-ExtractMember-clause-commanded g c =
    rw (c.in-ExtractMember.is, c.after-in-ExtractMember.ensures) (c.extract_member.ensures (g.K.Sink.bytes c.args.sink.now) (g.K.Sink.faults c.args.sink.now), refl)

pub returns-in-List-clause-commanded : goal.returns-in-List-clause-commanded
unfolding Commanded
returns-in-List-clause-commanded g c =
    rw (c.in-List.is, c.after-in-List.ensures) (c.list_file.ensures, refl)

pub returns-in-Run-clause-commanded : goal.returns-in-Run-clause-commanded
unfolding Commanded
returns-in-Run-clause-commanded g c =
    rw (c.in-Run.is, c.after-in-Run.ensures) c.run.ensures

pub returns-in-Debug-clause-commanded : goal.returns-in-Debug-clause-commanded
unfolding Commanded
returns-in-Debug-clause-commanded g c =
    rw (c.in-Debug.is, c.after-in-Debug.ensures) c.debug.ensures

pub returns-in-Link-clause-commanded : goal.returns-in-Link-clause-commanded
unfolding Commanded
returns-in-Link-clause-commanded g c =
    rw (c.in-Link.is, c.after-in-Link.ensures) (c.link_files.ensures (g.K.Sink.bytes c.args.sink.now) (g.K.Sink.faults c.args.sink.now), refl)

pub returns-in-Build-clause-commanded : goal.returns-in-Build-clause-commanded
unfolding Commanded
returns-in-Build-clause-commanded g c =
    rw (c.in-Build.is, c.after-in-Build.ensures) (c.link_files-in-Build.ensures (g.K.Sink.bytes c.args.sink.now) (g.K.Sink.faults c.args.sink.now), refl)

pub returns-in-Report-clause-commanded : goal.returns-in-Report-clause-commanded
unfolding Commanded
returns-in-Report-clause-commanded g c =
    rw (c.in-Report.is, c.after-in-Report.ensures) (c.print_report.ensures, refl)

pub returns-in-InterruptKit-clause-commanded : goal.returns-in-InterruptKit-clause-commanded
unfolding Commanded
returns-in-InterruptKit-clause-commanded g c =
    rw c.in-InterruptKit.is ((c.write_kit.ensures.says, refl), refl)

pub returns-in-Burn-clause-commanded : goal.returns-in-Burn-clause-commanded
unfolding Commanded
returns-in-Burn-clause-commanded g c =
    rw c.in-Burn.is (c.burn.ensures (g.K.Sink.bytes c.args.sink.now) (g.K.Sink.faults c.args.sink.now), refl)

pub make_big-requires-clause-some : goal.make_big-requires-clause-some
make_big-requires-clause-some g c = (rw c.in-MakeBig.is at c.requires).0

pub make_big-requires-clause-few : goal.make_big-requires-clause-few
make_big-requires-clause-few g c = (rw c.in-MakeBig.is at c.requires).1

pub returns-in-MakeBig-clause-commanded : goal.returns-in-MakeBig-clause-commanded
unfolding Commanded
returns-in-MakeBig-clause-commanded g c =
    rw c.in-MakeBig.is c.make_big.ensures
