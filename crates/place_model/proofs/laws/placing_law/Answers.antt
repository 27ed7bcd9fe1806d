use Rattle.place_model.proofs.AssignmentLemmas
use Rattle.place_model.proofs.GapLemmas
use Rattle.place_model.proofs.OrderLemmas
use Rattle.place_model.proofs.PlanLemmas
use Rattle.place_model.proofs.SpanLemmas
use Rattle.place_model.proofs.ToldLemmas
use Rattle.place_model.proofs.laws.placing_law.Goals as goal

pub returns-clause-selections : goal.returns-clause-selections
returns-clause-selections c = AssignmentLemmas.assignment_law

pub returns-clause-gaps : goal.returns-clause-gaps
returns-clause-gaps c = GapLemmas.gap_law

pub returns-clause-table : goal.returns-clause-table
returns-clause-table c = PlanLemmas.table_law

pub returns-clause-whole : goal.returns-clause-whole
returns-clause-whole c = PlanLemmas.whole_law

pub returns-clause-shared : goal.returns-clause-shared
returns-clause-shared c = SpanLemmas.shared_law

pub returns-clause-meetings : goal.returns-clause-meetings
returns-clause-meetings c = SpanLemmas.meeting_law

pub returns-clause-order : goal.returns-clause-order
returns-clause-order c = OrderLemmas.order_law

pub returns-clause-told : goal.returns-clause-told
returns-clause-told c = ToldLemmas.told_law
