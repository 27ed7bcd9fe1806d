-- Each word reads as its instruction.
use Rattle.std.proofs.Common.{arith}
use Rattle.boot_code.specs.Words.{ReadAs, boot_list, zero_code, relocator_list, boot_instructions, zero_instructions, relocator_instructions}

pub boot_reads : ReadAs boot_list boot_instructions
boot_reads =
    (grind arith, (grind arith, (grind arith, (grind arith, (grind arith, (grind arith, (grind arith, (grind arith, (grind arith, (grind arith, (grind arith, (grind arith, (grind arith, (grind arith, (grind arith, (grind arith, (grind arith, (grind arith, (grind arith, (grind arith, (grind arith, (grind arith, (grind arith, (grind arith, (grind arith, (grind arith, (grind arith, (grind arith, (grind arith, (grind arith, (grind arith, (grind arith, (grind arith, (grind arith, (grind arith, (grind arith, (grind arith, (grind arith, (grind arith, (grind arith, (grind arith, (grind arith, tt))))))))))))))))))))))))))))))))))))))))))

pub zero_reads : ReadAs zero_code zero_instructions
zero_reads =
    (grind arith, (grind arith, (grind arith, (grind arith, (grind arith, (grind arith, (grind arith, (grind arith, (grind arith, (grind arith, (grind arith, (grind arith, tt))))))))))))

pub relocator_reads : ReadAs relocator_list relocator_instructions
relocator_reads =
    (grind arith, (grind arith, (grind arith, (grind arith, (grind arith, (grind arith, (grind arith, (grind arith, (grind arith, (grind arith, (grind arith, (grind arith, (grind arith, (grind arith, (grind arith, tt)))))))))))))))
