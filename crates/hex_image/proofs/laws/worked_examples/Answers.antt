use Rattle.hex_image.proofs.Rows.{worked_examples}
use Rattle.hex_image.proofs.laws.worked_examples.Goals as goal

pub returns : goal.returns
returns c = worked_examples
