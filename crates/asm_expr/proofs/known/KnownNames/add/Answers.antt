use Rattle.std.proofs.Common.{◌≡◌, List, length, not, refl, ap, ◌∙◌, arith}
use Rattle.std.specs.Option.{is_some}
use Rattle.asm_model.specs.declared.names.LaidName.{LaidName}
use Rattle.asm_model.specs.Meaning.{named_in}
use Rattle.asm_expr.specs.Known.{place_in}
use Rattle.asm_expr.proofs.PlaceLemmas.{added, is_new}
use Rattle.asm_expr.proofs.known.KnownNames.add.Goals as goal

pub invariant_of-self-2 : goal.invariant_of-self-2
invariant_of-self-2 c =
    let number : length c.self.inside.entries.items ≡ c.len-place.result = omega arith in
    rw c.in_ok-new.ensures.more
    (added (place_in c.self.inside.places) (place_in c.put.new.places) c.args.entry.name c.len-place.result c.in_ok-new.ensures.noted
    c.self.inside.entries.items c.args.entry c.self.invariant number refl)

pub returns-clause-new : goal.returns-clause-new
returns-clause-new c =
    let name = c.args.entry.name in
    c.in_ok-new.ensures.new ∙ is_new name c.self.inside.entries.items (place_in c.self.inside.places name) (c.self.invariant name)
    ∙ ap (λ (l : List LaidName). not (is_some (named_in name l))) c.self.view_is
