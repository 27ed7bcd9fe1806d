use Rattle.std.proofs.Common.{◌≡◌, ap, ◌∙◌, subst}
use Rattle.std.specs.Prelude.{IfOk}
use Rattle.asm_model.specs.Readings.{and_then}
use Rattle.source_model.specs.Contexts.{from_pc, own_offset, value_of}
use Rattle.source_model.specs.PseudoForms.{long_address}
use Rattle.asm_instructions.specs.Lookups.{context_of}
use Rattle.asm_instructions.proofs.pseudo.far_address.Goals as goal

pub returns : goal.returns
returns c =
    let x = context_of c.args.lookup.now in
    subst (λ r. IfOk c.two.result (λ list. list ≡ r))
    (c.long_address_at.ensures
    ∙ ap (λ o. and_then o (λ at. long_address c.args.condition c.register-to.result (from_pc x at)))
    (c.own_offset-label.ensures ∙ ap (own_offset x) c.in_ok-value.ensures)
    ∙ ap (λ r. and_then (own_offset x (value_of x c.args.target.now)) (λ at. long_address c.args.condition r (from_pc x at)))
    c.register-to.ensures)
    c.two.ensures
