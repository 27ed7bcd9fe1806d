use Rattle.std.proofs.Common.{ℕ, Bool, List, Option, subst, ap, ◌∙◌}
use Rattle.std.specs.Option.{option_copied}
use Rattle.sdt_fault.specs.declared.refusal.Refusal.{Refusal}
use Rattle.chunk_file.specs.Reading.{Gives}
use Rattle.link_model.specs.Members.{objects_in}
use Rattle.link_model.specs.Options.{first_given}
use Rattle.link_select.specs.Selection.{passes}
use Rattle.link_select.specs.Undefined.{lacking_in}
use Rattle.link_select.proofs.RegionLemmas.{known_same}
use Rattle.link_select.proofs.undefined.refuse_undefined.Goals as goal

pub returns : goal.returns
returns c =
    let same = known_same c.args.exports.now c.in_ok-symbols.symbols (option_copied c.args.regions) (objects_in c.args.objects.now) c.requires c.in_ok-symbols.ensures in
    subst (λ (o : Option Refusal). Gives c.refuse.result (passes o))
    (c.first_undefined-lacking.ensures ∙ ap (λ (known : List ℕ → Bool). first_given (lacking_in known) c.args.objects.now) same) c.refuse.ensures
