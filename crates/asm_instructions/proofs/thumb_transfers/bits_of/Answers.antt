use Rattle.std.proofs.Common.{ap, ◌∙◌}
use Rattle.source_model.specs.ArmForms.{list_bits}
use Rattle.asm_instructions.specs.Lookups.{context_of}
use Rattle.asm_instructions.proofs.thumb_transfers.bits_of.Goals as goal

pub returns : goal.returns
returns c = c.list_bits.ensures ∙ ap (λ z. list_bits (context_of c.args.lookup.now) z 0 16) c.as_slice.ensures
