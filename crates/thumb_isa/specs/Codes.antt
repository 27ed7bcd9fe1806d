-- The numbers of operations, shifts and transfers in Thumb instructions (ARM Architecture Reference
-- Manual).
use Rattle.std.specs.Prelude.{ℕ}
use Rattle.thumb_isa.specs.declared.instr.HighOperation.{HighOperation}
use Rattle.thumb_isa.specs.declared.instr.HighOperation.TheVariants.{Add as HighAdd, Cmp as HighCmp, Mov as HighMov, Bx}
use Rattle.thumb_isa.specs.declared.instr.ImmediateOperation.{ImmediateOperation}
use Rattle.thumb_isa.specs.declared.instr.ImmediateOperation.TheVariants.{Mov as ByteMov, Cmp as ByteCmp, Add as ByteAdd, Sub as ByteSub}
use Rattle.thumb_isa.specs.declared.instr.SignedTransfer.{SignedTransfer}
use Rattle.thumb_isa.specs.declared.instr.SignedTransfer.TheVariants.{StoreHalf, LoadSignedByte, LoadHalf, LoadSignedHalf}
use Rattle.thumb_isa.specs.declared.instr.ThumbOperation.{ThumbOperation}
use Rattle.thumb_isa.specs.declared.instr.ThumbOperation.TheVariants.{And, Eor, Lsl, Lsr, Asr, Adc, Sbc, Ror, Tst, Neg, Cmp, Cmn, Orr, Mul, Bic, Mvn}
use Rattle.thumb_isa.specs.declared.instr.ThumbShift.{ThumbShift}
use Rattle.thumb_isa.specs.declared.instr.ThumbShift.TheVariants.{Lsl as ShiftLsl, Lsr as ShiftLsr, Asr as ShiftAsr}

abbrev pub thumb_shift_code : ThumbShift → ℕ
thumb_shift_code ShiftLsl = 0
thumb_shift_code ShiftLsr = 1
thumb_shift_code ShiftAsr = 2

abbrev pub immediate_code : ImmediateOperation → ℕ
immediate_code ByteMov = 0
immediate_code ByteCmp = 1
immediate_code ByteAdd = 2
immediate_code ByteSub = 3

abbrev pub thumb_operation_code : ThumbOperation → ℕ
thumb_operation_code And = 0
thumb_operation_code Eor = 1
thumb_operation_code Lsl = 2
thumb_operation_code Lsr = 3
thumb_operation_code Asr = 4
thumb_operation_code Adc = 5
thumb_operation_code Sbc = 6
thumb_operation_code Ror = 7
thumb_operation_code Tst = 8
thumb_operation_code Neg = 9
thumb_operation_code Cmp = 10
thumb_operation_code Cmn = 11
thumb_operation_code Orr = 12
thumb_operation_code Mul = 13
thumb_operation_code Bic = 14
thumb_operation_code Mvn = 15

abbrev pub high_code : HighOperation → ℕ
high_code HighAdd = 0
high_code HighCmp = 1
high_code HighMov = 2
high_code Bx = 3

-- the two bits that the manual calls H and S
abbrev pub signed_code : SignedTransfer → ℕ
signed_code StoreHalf = 0
signed_code LoadSignedByte = 1
signed_code LoadHalf = 2
signed_code LoadSignedHalf = 3
