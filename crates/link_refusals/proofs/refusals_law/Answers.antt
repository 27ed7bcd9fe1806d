use Rattle.link_refusals.proofs.RefusalLemmas.{refusals_law}
use Rattle.link_refusals.proofs.refusals_law.Goals as goal

pub returns : goal.returns
returns c =
    refusals_law c.duplicate_law.ensures c.undefined_law.ensures c.placing_law.ensures.meetings c.placing_law.ensures.told c.placing_law.ensures.selections
