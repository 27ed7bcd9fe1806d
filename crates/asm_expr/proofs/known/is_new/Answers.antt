use Rattle.std.proofs.Common.{◌<◌, not, sym, ap, ◌∙◌, subst}
use Rattle.std.specs.Option.{is_some}
use Rattle.std.proofs.lemmas.List.{length-map}
use Rattle.indexmap.specs.Entry.{entry_value}
use Rattle.indexmap.specs.IndexMap.{values}
use Rattle.asm_expr.proofs.KnownLemmas.{has_number}
use Rattle.asm_expr.proofs.known.is_new.Goals as goal

pub returns-in-Occupied : goal.returns-in-Occupied
unfolding entry_value
returns-in-Occupied c =
    let o = c.in-Occupied.field-0 in
    has_number (values o.map.now) o.index (subst (λ n. o.index < n) (sym (length-map o.map.now.entries _)) o.within)
    ∙ ap (λ e. not (is_some (entry_value e))) (sym c.in-Occupied.is)

pub returns-in-Vacant : goal.returns-in-Vacant
unfolding entry_value
returns-in-Vacant c = ap (λ e. not (is_some (entry_value e))) (sym c.in-Vacant.is)
