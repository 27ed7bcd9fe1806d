use Rattle.std.proofs.Common.{◌≡◌, sym, ap, ◌∙◌, subst}
use Rattle.asm_model.specs.Readings.{and_then}
use Rattle.source_model.specs.Contexts.{from_pc}
use Rattle.source_model.specs.PseudoForms.{long_address}
use Rattle.asm_instructions.specs.Lookups.{context_of}
use Rattle.asm_instructions.proofs.pseudo.long_address_at.Goals as goal

pub returns : goal.returns
returns c =
    subst
    (λ l. c.long_address.result ≡ and_then l (λ at. long_address c.args.condition c.args.rd (from_pc (context_of c.args.lookup.now) at)))
    (sym c.in_ok-at.was) (c.long_address.ensures ∙ ap (long_address c.args.condition c.args.rd) c.from_pc.ensures)
