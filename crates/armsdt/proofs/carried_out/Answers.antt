use Rattle.std.proofs.Common.{map, string_bytes, refl}
use Rattle.armsdt.proofs.Carrying.{carried}
use Rattle.armsdt.proofs.carried_out.Goals as goal

pub returns : goal.returns
returns c = carried (map string_bytes c.args.words.now) c.run_tool.result _ _ _ refl c.run_tool.ensures.commanded
