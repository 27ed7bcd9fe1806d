use Rattle.std.proofs.Common.{ℕ, cond, List, Some, ap, ◌∙◌}
use Rattle.std.specs.Str.{bytes_eq}
use Rattle.link_values.specs.declared.extents.Extent.{Extent}
use Rattle.link_values.specs.Index.{found_in}
use Rattle.link_values.specs.Regions.{widened}
use Rattle.link_values.proofs.RegionLemmas.{same_name}
use Rattle.link_values.proofs.extents.widen.Goals as goal

pub returns : goal.returns
returns c = λ q.
    c.in_ok-put.ensures q
    ∙ ap (λ (e : Extent). cond (bytes_eq c.args.name.now q) (Some e) (found_in c.args.index.now q)) (c.widened.ensures ∙ ap (widened c.args.extent) c.find-known.ensures)
    ∙ same_name (λ (n : List ℕ). Some (widened c.args.extent (found_in c.args.index.now n))) c.args.name.now q (found_in c.args.index.now q)
