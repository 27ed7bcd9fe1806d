use Rattle.std.proofs.Common.{◌≡◌, ℕ, length, subst}
use Rattle.std.specs.Option.{option_copied}
use Rattle.armlink_core.specs.Images.{Links}
use Rattle.sdt_toolkit.specs.Reports.{placed_as, report_as}
use Rattle.sdt_toolkit.proofs.ReportPlans.{reported, unplaced}
use Rattle.sdt_toolkit.proofs.report.report_as.Goals as goal

pub returns-in-Ok : goal.returns-in-Ok
returns-in-Ok c =
    let given : c.len-given.result ≡ length c.args.parts.objects.items = search in
    subst (λ (n : ℕ). Links c.args.parts.objects.items c.args.parts.archives.items (report_as c.args.placement.now c.args.text.now (option_copied c.args.ram) n) c.report-text.result)
    given
    (reported c.args.parts.objects.items c.args.parts.archives.items (placed_as c.args.placement.now c.args.text.now (option_copied c.args.ram)) _ c.in-Ok.placed c.in-Ok.ensures
    c.report-text.result c.report-text.ensures)

pub returns-in-Err : goal.returns-in-Err
returns-in-Err c =
    unplaced c.args.parts.objects.items c.args.parts.archives.items (placed_as c.args.placement.now c.args.text.now (option_copied c.args.ram)) _ c.in-Err.fault c.in-Err.ensures
