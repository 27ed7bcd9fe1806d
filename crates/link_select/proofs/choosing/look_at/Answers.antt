use Rattle.std.proofs.Common.{length, refl, ◌∙◌}
use Rattle.link_select.specs.Search.{supply_of}
use Rattle.link_select.proofs.SearchLemmas.{within_these}
use Rattle.link_select.proofs.choosing.look_at.Goals as goal

pub take_all-requires : goal.take_all-requires
take_all-requires c =
    within_these (supply_of c.args.supply.now) (length c.args.marks.now.items) (length c.args.marks.now.items) c.requires refl c.args.symbols.now c.as_slice.result.now
    (c.as_slice.ensures.value ∙ c.in_ok-numbers.ensures)
