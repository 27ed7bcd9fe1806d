-- The numbers of conditions and of kinds of shift in an instruction, and of bytes in an access
-- (ARM Architecture Reference Manual, the condition field and shifter operands).
use Rattle.std.specs.Prelude.{ℕ}
use Rattle.sdt_word.specs.declared.codes.Condition.{Condition}
use Rattle.sdt_word.specs.declared.codes.Condition.TheVariants.{Eq, Ne, Cs, Cc, Mi, Pl, Vs, Vc, Hi, Ls, Ge, Lt, Gt, Le, Al}
use Rattle.sdt_word.specs.declared.codes.ShiftKind.{ShiftKind}
use Rattle.sdt_word.specs.declared.codes.ShiftKind.TheVariants.{Lsl, Lsr, Asr, Ror}
use Rattle.sdt_word.specs.declared.codes.Width.{Width}
use Rattle.sdt_word.specs.declared.codes.Width.TheVariants.{Byte, Half, Word}

abbrev pub condition_code : Condition → ℕ
condition_code Eq = 0
condition_code Ne = 1
condition_code Cs = 2
condition_code Cc = 3
condition_code Mi = 4
condition_code Pl = 5
condition_code Vs = 6
condition_code Vc = 7
condition_code Hi = 8
condition_code Ls = 9
condition_code Ge = 10
condition_code Lt = 11
condition_code Gt = 12
condition_code Le = 13
condition_code Al = 14

abbrev pub shift_code : ShiftKind → ℕ
shift_code Lsl = 0
shift_code Lsr = 1
shift_code Asr = 2
shift_code Ror = 3

abbrev pub bytes_in : Width → ℕ
bytes_in Byte = 1
bytes_in Half = 2
bytes_in Word = 4
