-- The values of definitions, as their list has them and as the headline gives them.
use Rattle.std.proofs.Common.{◌≡◌, List, [], ◌∷◌, map, refl, ap, ◌∙◌}
use Rattle.patch_model.specs.Fields.{Meant}
use Rattle.link_model.specs.declared.placing.Placement.{Placement}
use Rattle.link_model.specs.declared.selection.Definition.{Definition}
use Rattle.link_model.specs.declared.selection.Linked.{Linked}
use Rattle.link_model.specs.Members.{link_of}
use Rattle.link_values.specs.declared.values.SymbolValue.{SymbolValue}
use Rattle.link_values.specs.Values.{AreValues}
use Rattle.link_report.specs.Shown.{valued}
use Rattle.link_report.specs.Symbols.{Exported, exported}

abbrev with_value : Definition → Meant → Exported
with_value d m = record { definition = d; value = m }

pub all_valued : (l : Linked) (p : Placement) (values : List (List SymbolValue)) → AreValues (link_of l) p values
    → (ds : List Definition) → map (valued values) ds ≡ map (exported l p) ds
all_valued l p values h [] = refl
all_valued l p values h (d ∷ ds) =
    ap (λ e. e ∷ map (valued values) ds) (ap (with_value d) (h d.object d.symbol))
    ∙ ap (λ es. exported l p d ∷ es) (all_valued l p values h ds)
