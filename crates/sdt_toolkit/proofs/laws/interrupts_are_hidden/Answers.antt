use Rattle.sdt_toolkit.proofs.RunHidden.{interrupts_are_hidden}
use Rattle.sdt_toolkit.proofs.laws.interrupts_are_hidden.Goals as goal

pub returns : goal.returns
returns c = interrupts_are_hidden c.files_are_read.ensures c.started_exits_alike.ensures
