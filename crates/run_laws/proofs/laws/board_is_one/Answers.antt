use Rattle.run_laws.proofs.Boards.{board-is-one}
use Rattle.run_laws.proofs.laws.board_is_one.Goals as goal

pub returns : goal.returns
returns c = board-is-one
