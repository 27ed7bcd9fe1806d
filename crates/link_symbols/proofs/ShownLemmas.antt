-- What indexes tell is what the link and its placement tell.
use Rattle.std.proofs.Common.{◌≡◌}
use Rattle.link_model.specs.declared.placing.Placement.{Placement}
use Rattle.link_model.specs.declared.selection.Linked.{Linked}
use Rattle.link_model.specs.Members.{link_of, objects_in}
use Rattle.link_values.specs.Bases.{AreBases}
use Rattle.link_values.specs.Values.{AreValues}
use Rattle.link_symbols.specs.declared.marks.SymbolSource.{SymbolSource}
use Rattle.link_symbols.specs.Shown.{shown_by, shown_in}

pub told_is_shown : (l : Linked) (p : Placement) (s : SymbolSource) → s.objects.now ≡ l.objects → AreValues (link_of l) p s.values.now → AreBases p s.bases.now
    → shown_in s ≡ shown_by l p s.sections.now
told_is_shown l p s objects values bases = λ i. record {
  objects = objects_in (objects i);
  value = λ object k. values object k i;
  base_at = λ object area. bases object area i;
  sections = s.sections.now;
}
