-- The numbers of data-processing operations and of the kinds of half-word transfer (ARM Architecture
-- Reference Manual).
use Rattle.std.specs.Prelude.{ℕ}
use Rattle.arm_isa.specs.declared.instr.HalfKind.{HalfKind}
use Rattle.arm_isa.specs.declared.instr.HalfKind.TheVariants.{Half, SignedByte, SignedHalf}
use Rattle.arm_isa.specs.declared.instr.Operation.{Operation}
use Rattle.arm_isa.specs.declared.instr.Operation.TheVariants.{And, Eor, Sub, Rsb, Add, Adc, Sbc, Rsc, Tst, Teq, Cmp, Cmn, Orr, Mov, Bic, Mvn}

abbrev pub operation_code : Operation → ℕ
operation_code And = 0
operation_code Eor = 1
operation_code Sub = 2
operation_code Rsb = 3
operation_code Add = 4
operation_code Adc = 5
operation_code Sbc = 6
operation_code Rsc = 7
operation_code Tst = 8
operation_code Teq = 9
operation_code Cmp = 10
operation_code Cmn = 11
operation_code Orr = 12
operation_code Mov = 13
operation_code Bic = 14
operation_code Mvn = 15

abbrev pub half_code : HalfKind → ℕ
half_code Half = 1
half_code SignedByte = 2
half_code SignedHalf = 3
