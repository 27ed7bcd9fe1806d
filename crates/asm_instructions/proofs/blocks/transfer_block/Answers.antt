use Rattle.std.proofs.Common.{ap, ◌∙◌}
use Rattle.source_model.specs.ArmForms.{list_bits}
use Rattle.asm_instructions.specs.Lookups.{context_of}
use Rattle.asm_instructions.proofs.PlaceLemmas.{block_said}
use Rattle.asm_instructions.proofs.blocks.transfer_block.Goals as goal

pub returns : goal.returns
returns c =
    let x = context_of c.args.lookup.now in
    block_said x c.args.condition c.args.load c.args.mode c.args.rn.now c.args.write_back c.args.list.now c.args.user c.is_block_before.result
    c.is_block_up.result c.register.result c.list_bits.result c.is_block_before.ensures c.is_block_up.ensures c.register.ensures
    (c.list_bits.ensures ∙ ap (λ z. list_bits x z 0 16) c.as_slice.ensures)
