use Rattle.link_model.specs.Members.{link_of}
use Rattle.link_model.specs.RegionValues.{region_number}
use Rattle.link_model.specs.Values.{meaning_at}
use Rattle.link_values.specs.Moving.{is_moving}
use Rattle.patch_model.specs.Fields.{is_by_symbol, number_named}
use Rattle.std.proofs.Common.{ℕ, sym, ap, ◌∙◌}
use Rattle.link_shifts.proofs.JudgeLemmas.{by_symbol}
use Rattle.link_shifts.proofs.moving.names_moving.Goals as goal

pub returns-then-is_by_symbol : goal.returns-then-is_by_symbol
returns-then-is_by_symbol c =
    let l = link_of c.args.image.now.linked.now in
    let p = c.args.image.now.placement.now in
    by_symbol (is_by_symbol c.args.reloc) (is_moving l.objects (meaning_at l (region_number l.objects p) c.args.object (number_named c.args.reloc))) c.is_moving.result
    (sym c.is_by_symbol.ensures ∙ c.if-is_by_symbol.true) (c.is_moving.ensures l p c.requires.names ∙ ap (λ (n : ℕ). is_moving l.objects (meaning_at l (region_number l.objects p) c.args.object n)) c.number.ensures)
