use Rattle.std.proofs.Common.{◌∙◌, sym}
use Rattle.run_opening.proofs.OpeningLemmas.{no_ranges}
use Rattle.run_opening.proofs.opening.all_ranges.Goals as goal

pub returns-then-is_empty-2 : goal.returns-then-is_empty-2
returns-then-is_empty-2 c =
    no_ranges c.args.memory.now c.args.rom.now _ _ (sym c.is_empty.ensures ∙ c.if-is_empty.true) (sym c.is_empty-then-is_empty.ensures ∙ c.if-is_empty-2.true) c.in_ok-from_slice.ensures.items
