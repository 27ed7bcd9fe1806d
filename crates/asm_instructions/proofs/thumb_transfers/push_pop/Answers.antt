use Rattle.std.proofs.Common.{sym, ap, ◌∙◌}
use Rattle.thumb_isa.specs.declared.instr.ThumbInstr.TheVariants as instr
use Rattle.asm_model.specs.Readings.{mapped}
use Rattle.source_model.specs.ThumbForms.{link_bit, listed, one}
use Rattle.asm_instructions.proofs.thumb_transfers.push_pop.Goals as goal

pub returns : goal.returns
returns c =
    ap (λ r. one (mapped (λ p. instr.PushPop c.args.load p.0 p.1) r))
    (sym c.in_ok-link.was
    ∙ c.listed.ensures
    ∙ ap (λ m. listed m c.bits_of.result) c.link_bit.ensures
    ∙ ap (listed (link_bit c.args.load)) c.bits_of.ensures)
