-- Operands and results as the model has them: a carry and an overflow are bits. This project's.
use Rattle.sdt_word.specs.Numbers.{flag}
use Rattle.arm7_model.specs.Arithmetic.{Computed, Shifted}
use Rattle.arm7_registers.specs.declared.shifter.Operand.{Operand}
use Rattle.arm7_registers.specs.declared.arithmetic.Computation.{Computation}

abbrev pub shifted_of : Operand → Shifted
shifted_of o = record { value = o.value; carry = flag o.carry }

abbrev pub computed_of : Computation → Computed
computed_of o = record { value = o.value; carry = flag o.carry; overflow = flag o.overflow }
