use Rattle.sdt_toolkit.proofs.RunCommands.{commands_start}
use Rattle.sdt_toolkit.proofs.laws.commands_start.Goals as goal

pub returns : goal.returns
returns c = commands_start c.runs_start.ensures
