use Rattle.std.proofs.Common.{◌++◌, flat_map, sym, subst, ap, ◌∙◌}
use Rattle.link_model.specs.Members.{link_of}
use Rattle.link_values.specs.Values.{AreValues}
use Rattle.link_report.specs.Symbols.{by_value, symbol_line}
use Rattle.link_report.proofs.ValueLemmas.{all_valued}
use Rattle.link_report.proofs.symbols.push_symbols.Goals as goal

pub returns : goal.returns
returns c =
    let l = c.args.linked.now in
    let p = c.args.placement.now in
    let values : AreValues (link_of l) p c.as_slice.result.now = subst (AreValues (link_of l) p) (sym c.as_slice.ensures) c.in_ok-values.ensures.exact in
    c.in_ok-push_valued.ensures
    ∙ ap (λ es. c.args.out.now.items ++ flat_map (symbol_line l.objects) (by_value es)) (all_valued l p c.as_slice.result.now values l.definitions)
