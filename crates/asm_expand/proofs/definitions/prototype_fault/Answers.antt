use Rattle.std.proofs.Common.{Bool, ◌||◌, ap, ◌∙◌}
use Rattle.sdt_fault.specs.declared.kinds.LineKind.TheVariants.{DuplicateName, TooMany}
use Rattle.asm_model.specs.Kinds.{told_kind, kind_if}
use Rattle.asm_model.proofs.SharedLemmas.{told_of_two}
use Rattle.expand_model.specs.Prototypes.{is_macro}
use Rattle.asm_expand.proofs.DefiningLemmas.{known_macro}
use Rattle.asm_expand.proofs.definitions.prototype_fault.Goals as goal

pub returns : goal.returns
returns c =
    λ s r.
    let known = c.contains_key-known.ensures ∙ known_macro _ c.args.prototype.now.name s.macros (r.macros c.args.prototype.now.name) in
    let both =
    c.either.ensures ∙ ap (λ (b : Bool). b || c.in_ok-repeated.repeated) known
    ∙ ap (λ (b : Bool). is_macro s.macros c.args.prototype.now.name || b) c.in_ok-repeated.ensures in
    c.first_told.ensures
    ∙ told_of_two _ _ _ _ (c.kind_if.ensures ∙ ap (λ (b : Bool). told_kind (kind_if b DuplicateName)) both)
    (c.kind_if-2.ensures ∙ ap (λ (b : Bool). told_kind (kind_if b TooMany)) c.has_long.ensures)
