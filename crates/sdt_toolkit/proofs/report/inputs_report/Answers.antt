use Rattle.sdt_toolkit.proofs.report.inputs_report.Goals as goal

pub returns : goal.returns
returns c = rw c.into_vec.ensures at c.report_of.ensures
