-- The parts of an instruction's text: names, numbers, shifted registers and addresses (SDT 2.50 Reference
-- Guide, chapter on the assembler, instructions). That numbers are hexadecimal, which offsets are left out and
-- how a negative offset of 0 is written elsewhere are this project's. The names are tables, as in the code.
use Rattle.std.specs.Prelude.{ℕ, ◌+◌, ◌*◌, ◌%◌, ◌^◌, ◌==◌, ◌&&◌, not, Bool, true, if◌then◌else◌, List, [], ◌++◌, drop, codes}
use Rattle.std.specs.List.{flat_map}
use Rattle.std.specs.Fmt.{decimal, digits}
use Rattle.sdt_fault.specs.Digits.{hexadecimal_places}
use Rattle.sdt_word.specs.Numbers.{sign_extended}
use Rattle.sdt_word.specs.declared.codes.Condition.{Condition}
use Rattle.sdt_word.specs.declared.codes.Condition.TheVariants.{Eq, Ne, Cs, Cc, Mi, Pl, Vs, Vc, Hi, Ls, Ge, Lt, Gt, Le, Al}
use Rattle.sdt_word.specs.declared.codes.ShiftKind.{ShiftKind}
use Rattle.sdt_word.specs.declared.codes.ShiftKind.TheVariants.{Lsl, Lsr, Asr, Ror}

-- a text that stands only where it applies
abbrev pub mark : Bool → List ℕ → List ℕ
mark b text = if b then text else []

-- ---- names

-- the condition always isn't printed
abbrev pub condition_name : Condition → List ℕ
condition_name Eq = codes "EQ"
condition_name Ne = codes "NE"
condition_name Cs = codes "CS"
condition_name Cc = codes "CC"
condition_name Mi = codes "MI"
condition_name Pl = codes "PL"
condition_name Vs = codes "VS"
condition_name Vc = codes "VC"
condition_name Hi = codes "HI"
condition_name Ls = codes "LS"
condition_name Ge = codes "GE"
condition_name Lt = codes "LT"
condition_name Gt = codes "GT"
condition_name Le = codes "LE"
condition_name Al = []

abbrev pub shift_name : ShiftKind → List ℕ
shift_name Lsl = codes "LSL"
shift_name Lsr = codes "LSR"
shift_name Asr = codes "ASR"
shift_name Ror = codes "ROR"

-- r0 to r12, sp, lr and pc
unfoldable pub register : ℕ → List ℕ
register n =
    if n == 13 then codes "sp" else (
    if n == 14 then codes "lr" else (
    if n == 15 then codes "pc" else codes "r" ++ decimal n))

-- ---- numbers

-- upper-case digits without leading zeros
unfoldable pub hex : ℕ → List ℕ
hex n = codes "0x" ++ digits 16 true n

-- the last eight digits, the highest first, and the last four
unfoldable pub eight : ℕ → List ℕ
eight n = hexadecimal_places 8 n

unfoldable pub four : ℕ → List ℕ
four n = hexadecimal_places 4 n

abbrev pub address : ℕ → List ℕ
address n = codes "0x" ++ eight n

abbrev pub number : ℕ → List ℕ
number n = codes "#" ++ hex n

-- an offset, which is added or taken away
abbrev pub offset : Bool → ℕ → List ℕ
offset up n = if up then number n else codes "#-" ++ hex n

-- ---- operands

-- a register behind others
abbrev pub next : ℕ → List ℕ
next n = codes "," ++ register n

-- the operation with its condition and its suffix, and a space before its operands
abbrev pub spoken : List ℕ → Condition → List ℕ → List ℕ → List ℕ
spoken operation c suffix operands = operation ++ (condition_name c ++ (suffix ++ (codes " " ++ operands)))

-- what the amount 0 of an ARM shift says behind a register
abbrev pub by_zero : ShiftKind → List ℕ
by_zero Lsl = []
by_zero Lsr = codes ",LSR #0x20"
by_zero Asr = codes ",ASR #0x20"
by_zero Ror = codes ",RRX"

abbrev pub by_number : ShiftKind → ℕ → List ℕ
by_number t a = codes "," ++ (shift_name t ++ (codes " " ++ number a))

-- a register shifted by a number, or by a register
unfoldable pub shifted : ℕ → ShiftKind → ℕ → List ℕ
shifted m t a = register m ++ (if a == 0 then by_zero t else by_number t a)

abbrev pub shifted_by : ℕ → ShiftKind → ℕ → List ℕ
shifted_by m t rs = register m ++ (codes "," ++ (shift_name t ++ (codes " " ++ register rs)))

-- ---- addresses

abbrev pub plain : ℕ → List ℕ
plain n = codes "[" ++ (register n ++ codes "]")

-- an offset in the brackets, with a mark where the base is written back, or behind them
unfoldable pub indexed : Bool → Bool → ℕ → List ℕ → List ℕ
indexed pre write_back n by =
    if pre then codes "[" ++ (register n ++ (codes "," ++ (by ++ (codes "]" ++ mark write_back (codes "!")))))
    else plain n ++ (codes "," ++ by)

-- an offset in brackets that is 0, whatever its sign, is left out where nothing is written back
abbrev pub is_left_out : Bool → Bool → ℕ → Bool
is_left_out pre write_back v = pre && (not write_back && v == 0)

unfoldable pub indexed_by : Bool → Bool → Bool → ℕ → ℕ → List ℕ
indexed_by pre up write_back n v =
    if is_left_out pre write_back v then plain n else indexed pre write_back n (offset up v)

-- registers in braces, each of which came with a comma before it
abbrev pub braced : List ℕ → List ℕ
braced names = codes "{" ++ (drop 1 names ++ codes "}")

abbrev pub named : List ℕ → List ℕ
named registers = flat_map next registers

-- ---- words

-- where a displacement of some bits, in units of a size, leads from an address
abbrev pub target : ℕ → ℕ → ℕ → ℕ → ℕ
target from size width d = (from + size * sign_extended d width) % 2 ^ 32

-- a word and a half-word that say no instruction
abbrev pub data_word : ℕ → List ℕ
data_word w = codes "DCD " ++ address w

abbrev pub data_half : ℕ → List ℕ
data_half h = codes "DCW 0x" ++ four h
