-- A `&` to the cells holds one to each byte that is made. Assumes `Logic`.
use denote.Param.Shared.{copy_shared}
use denote.Struct.Field.{RawPtr-field, usize-field}
use base.Fraction.{full_share}
use denote.Struct.Laws.{RawPtr-copy, usize-copy, u8-copy}
use denote.Struct.Lending.{of_Lends}
use Rattle.arm7_bus.specs.contracts.block.Cells as C
use Rattle.arm7_bus.proofs.block.Cells.TheLaw.Statement.{statement}
use Rattle.arm7_bus.proofs.BlockLemmas.{cells_lent_laws, Lends-cells}

pub shares : statement
shares = of_Lends C.struct C.the_codes C.the_heap C.the_lent (λ d p. cells_lent_laws d.at d.room d.bytes)
    (copy_shared RawPtr-field RawPtr-copy, (copy_shared usize-field usize-copy, tt))
    (λ M 𝓤 𝓛 d p. Lends-cells 𝓛 (C.the_row).lives ((u8-copy.copied M 𝓤 𝓛).shares full_share (C.the_row).lives) d.at d.room d.bytes)
