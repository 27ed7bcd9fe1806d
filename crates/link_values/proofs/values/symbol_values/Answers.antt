use Rattle.std.proofs.Common.{List, map, ap, ◌∙◌}
use Rattle.aof_object.specs.declared.records.Object.{Object}
use Rattle.link_model.specs.declared.selection.Named.{Named}
use Rattle.link_model.specs.Members.{link_of, objects_in}
use Rattle.link_values.specs.declared.values.SymbolValue.{SymbolValue}
use Rattle.link_values.specs.Values.{meant, taken_value, all_values}
use Rattle.link_values.proofs.ValueLemmas.{all_known}
use Rattle.link_values.proofs.values.symbol_values.Goals as goal

pub returns : goal.returns
returns c = record {
  exact =
      all_known (link_of c.args.linked.now) c.args.placement.now c.in_ok-known.known c.from_vec.result c.in_ok-known.ensures
      (ap (λ (l : List (List SymbolValue)). map (map meant) l) c.from_vec.ensures ∙ c.in_ok-values.ensures
      ∙ ap (λ (os : List (Named Object)). all_values (taken_value c.args.placement.now.boot c.in_ok-known.known) 0 (objects_in os)) c.as_slice-objects.ensures);
}
