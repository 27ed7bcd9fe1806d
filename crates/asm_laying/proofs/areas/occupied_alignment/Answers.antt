use Rattle.std.proofs.Common.{subst, sym}
use Rattle.asm_offsets.specs.Coded.{IsAlignment}
use Rattle.asm_offsets.proofs.ExtentLemmas.{aligned_item}
use Rattle.asm_laying.proofs.areas.occupied_alignment.Goals as goal

pub returns-in-Items-clause-small : goal.returns-in-Items-clause-small
returns-in-Items-clause-small c = subst IsAlignment (sym c.item_alignment.ensures) (aligned_item c.in-Items.item)
