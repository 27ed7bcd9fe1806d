use Rattle.armlink_core.proofs.NameLaws.{nameless_scatter_tables, nameless_tables}
use Rattle.armlink_core.proofs.laws.table_names.Goals as goal

pub returns-clause-linked : goal.returns-clause-linked
returns-clause-linked c = nameless_tables

pub returns-clause-scattered : goal.returns-clause-scattered
returns-clause-scattered c = nameless_scatter_tables
