use Rattle.source_model.specs.ArmForms.{list_bits}
use Rattle.asm_instructions.specs.Lookups.{context_of}
use Rattle.asm_instructions.proofs.PlaceLemmas.{bits_step}
use Rattle.asm_instructions.proofs.blocks.list_bits.Goals as goal

pub registers-preserved : goal.registers-preserved
registers-preserved c =
    let x = context_of c.args.lookup.now in
    bits_step x c.args.items.now c.registers.number c.registers.bits c.bit_of-bits.result (list_bits x c.args.items.now 0 16) c.is_listed.result
    c.registers-test.true c.is_listed.ensures c.bit_of-bits.ensures c.registers.invariant.0 c.registers.invariant.1
