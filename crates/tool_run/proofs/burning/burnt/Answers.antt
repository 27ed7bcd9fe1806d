use Rattle.tool_run.proofs.BurnLemmas.{pieces_in_space}
use Rattle.tool_run.proofs.burning.burnt.Goals as goal

pub text_of-requires : goal.text_of-requires
text_of-requires c = rw c.in_ok-burn.ensures (pieces_in_space c.args.image.loads c.requires)
