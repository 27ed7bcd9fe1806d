use Rattle.sdt_toolkit.proofs.ImageLemmas.{sound_inputs}
use Rattle.sdt_toolkit.proofs.InputLemmas.{valid_archives, valid_objects}
use Rattle.sdt_toolkit.proofs.ReportPlans.{told_report}
use Rattle.sdt_toolkit.proofs.report.report_of.Goals as goal

pub report_within-requires-clause-objects : goal.report_within-requires-clause-objects
report_within-requires-clause-objects c = rw c.in_ok-parts.ensures.objects (valid_objects c.args.inputs.items c.requires.inputs)

pub report_within-requires-clause-archives : goal.report_within-requires-clause-archives
report_within-requires-clause-archives c = rw c.in_ok-parts.ensures.archives (valid_archives c.args.inputs.items c.requires.inputs)

pub returns : goal.returns
returns c =
    let exact = rw (c.in_ok-parts.ensures.objects, c.in_ok-parts.ensures.archives) at c.report_within.ensures in
    let objects = rw (c.as_slice.ensures.value, c.in_ok-parts.ensures.objects) at c.objects_fit.ensures in
    let archives = rw (c.as_slice-2.ensures.value, c.in_ok-parts.ensures.archives) at c.archives_fit.ensures in
    told_report c.images_start.ensures c.args.text.now c.args.ram.now c.args.placement.now c.args.inputs.items c.requires.based
    (sound_inputs c.args.inputs.items c.requires.inputs objects archives) c.report_within.result exact
