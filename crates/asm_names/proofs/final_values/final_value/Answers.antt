use Rattle.std.proofs.Common.{append-nil}
use Rattle.asm_names.proofs.final_values.final_value.Goals as goal

pub returns : goal.returns
returns c = rw append-nil at (rw append-nil at c.value_seen.ensures)
