use Rattle.std.proofs.Common.{◌≡◌, ◌+◌, ◌-◌, ◌^◌, ◌<◌}
use Rattle.source_model.specs.ArmForms.{list_bits}
use Rattle.asm_instructions.specs.Lookups.{context_of}
use Rattle.asm_instructions.proofs.blocks.list_bits.Given as goal

abbrev pub invariant-registers : goal.invariant-registers
invariant-registers l =
    (l.bits < 2 ^ l.number)
    × (l.bits + list_bits (context_of l.lookup) l.items l.number (16 - l.number) ≡ list_bits (context_of l.lookup) l.items 0 16)
