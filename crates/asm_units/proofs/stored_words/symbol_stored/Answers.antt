use Rattle.std.proofs.Common.{◌≡◌, ap, sym, ◌∙◌}
use Rattle.asm_model.specs.Meaning.{named_in, stands_at}
use Rattle.source_model.specs.Contexts.{sees}
use Rattle.source_model.specs.Units.{placed}
use Rattle.asm_units.proofs.stored_words.symbol_stored.Goals as goal

pub returns : goal.returns
returns c = λ c' labels h.
    let found = ap (named_in c.args.symbol) h.names ∙ sym c.find-entry.ensures in
    c.placed.ensures c' labels found h.labels
    ∙ ap (placed c' labels c.args.symbol c.args.plus) (c.place_at-place.ensures (sees c') h.area found)
