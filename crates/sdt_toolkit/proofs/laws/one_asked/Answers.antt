use Rattle.sdt_toolkit.proofs.AskLemmas.{one_asked}
use Rattle.sdt_toolkit.proofs.LinkOnce.{one_link_asked}
use Rattle.sdt_toolkit.proofs.ReportLemmas.{one_report_asked}
use Rattle.sdt_toolkit.proofs.laws.one_asked.Goals as goal

pub returns-clause-assembled : goal.returns-clause-assembled
returns-clause-assembled c = one_asked c.one_assembly.ensures

pub returns-clause-linked : goal.returns-clause-linked
returns-clause-linked c = one_link_asked c.one_assembly.ensures c.linked_law.ensures.one

pub returns-clause-reported : goal.returns-clause-reported
returns-clause-reported c = one_report_asked c.one_assembly.ensures c.linked_law.ensures.one
