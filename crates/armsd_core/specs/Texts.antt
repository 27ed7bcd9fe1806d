-- What a debugger prints: addresses, words and registers in eight upper-case hexadecimal digits, bytes in two lower-case
-- ones, numbers of steps in decimal. This project's.
use Rattle.std.specs.Prelude.{ℕ, zero, suc, ◌/◌, ◌%◌, true, false, List, [], ◌∷◌, ◌++◌, Option, Some, None, codes}
use Rattle.std.specs.Fmt.{decimal, digit_glyph}
use Rattle.sdt_fault.specs.Digits.{hexadecimal_places}
use Rattle.arm7_model.specs.declared.state.ArmState.{ArmState}
use Rattle.arm7_model.specs.Registers.{register}
use Rattle.arm7_bus.specs.States.{Contents}
use Rattle.arm7_run.specs.Strings.{byte_behind}
use Rattle.armsd_core.specs.declared.reason.Reason.{Reason}
use Rattle.armsd_core.specs.declared.reason.Reason.TheVariants as reason

-- a word behind its name
abbrev pub named : List ℕ → ℕ → List ℕ
named name word = name ++ hexadecimal_places 8 word

abbrev pub reason_text : Reason → List ℕ
reason_text reason.Count = codes "count"
reason_text reason.Break = codes "break"
reason_text (reason.Watch a) = named (codes "watch ") a
reason_text reason.Exit = codes "exit"
reason_text (reason.Unpredictable w) = named (codes "unpredictable ") w
reason_text (reason.BadString a) = named (codes "badstring ") a
reason_text (reason.NoFrame a) = named (codes "noframe ") a

-- the line of a Step or a Go: where the machine is, the steps so far, and why it ended
abbrev pub stop_line : ℕ → ℕ → Reason → List ℕ
stop_line pc steps why = named (codes "at ") pc ++ 32 ∷ decimal steps ++ 32 ∷ reason_text why ++ 10 ∷ []

-- the line of a register
abbrev pub register_line : List ℕ → ℕ → List ℕ
register_line name word = name ++ named (codes " ") word ++ 10 ∷ []

-- those of the first registers, and of all, with CPSR behind
abbrev pub first_registers : ArmState → ℕ → List ℕ
first_registers core zero = []
first_registers core (suc k) = first_registers core k ++ register_line (114 ∷ decimal k) (register core k)

unfoldable pub registers_text : ArmState → List ℕ
registers_text core = first_registers core 16 ++ register_line (codes "cpsr") core.cpsr

-- a byte, where a bank has it
abbrev pub byte_text : Option ℕ → List ℕ
byte_text None = codes "--"
byte_text (Some b) = digit_glyph false (b / 16) ∷ digit_glyph false (b % 16) ∷ []

abbrev pub bytes_text : Contents → ℕ → ℕ → List ℕ
bytes_text c a zero = []
bytes_text c a (suc n) = bytes_text c a n ++ byte_text (byte_behind c a n)

-- the line of so many bytes from an address on
unfoldable pub memory_text : Contents → ℕ → ℕ → List ℕ
memory_text c a n = bytes_text c a n ++ 10 ∷ []
