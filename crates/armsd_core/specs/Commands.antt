-- The lines of a debugger's script, each as the command that it spells: a name in lower case and its numbers, with single
-- spaces. This project's.
use Rattle.std.specs.Prelude.{◌≡◌, ℕ, ◌+◌, ◌^◌, ◌==◌, ◌||◌, ◌&&◌, nat_le, Bool, true, false, if◌then◌else◌}
use Rattle.std.specs.Prelude.{List, [], ◌∷◌, Option, Result, Ok, Err, codes, bytes_eq}
use Rattle.std.specs.Option.{option_map_or}
use Rattle.std.specs.List.{list_all, slice_split}
use Rattle.std.proofs.Common.{leb-true, refl}
use Rattle.sdt_fault.specs.declared.kinds.CommandKind.{CommandKind}
use Rattle.sdt_fault.specs.declared.kinds.CommandKind.TheVariants.{Syntax, Number}
use Rattle.armsd_core.specs.declared.command.Command.{Command}
use Rattle.armsd_core.specs.declared.command.Command.TheVariants.{Break, Unbreak, Watch, Unwatch, Step, Go, Regs, Mem, Detach, Quit}
use Rattle.armsd_core.specs.Numerals.{number_of}

abbrev pub Reading : Type 0
Reading = Result Command CommandKind

-- ---- numbers in their ranges

abbrev pub within : ℕ → ℕ → ℕ → Result ℕ CommandKind
within least most n = if nat_le least n && nat_le n most then Ok n else Err Number

-- a number of 32 bits, a number of steps, and one of bytes
abbrev pub word : ℕ → Result ℕ CommandKind
word n = within 0 0xFFFFFFFF n

abbrev pub steps : ℕ → Result ℕ CommandKind
steps n = within 1 1000000000 n

abbrev pub bytes : ℕ → Result ℕ CommandKind
bytes n = within 1 256 n

-- the command of a number
abbrev pub of : (ℕ → Command) → Result ℕ CommandKind → Reading
of make (Ok n) = Ok (make n)
of make (Err k) = Err k

abbrev pub of_both : (ℕ → ℕ → Reading) → Result ℕ CommandKind → Result ℕ CommandKind → Reading
of_both make (Ok a) (Ok b) = make a b
of_both make (Ok a) (Err k) = Err k
of_both make (Err k) other = Err k

-- a range that ends at 2^32 or below
abbrev pub range_by : (base size : ℕ) (ends : Bool) → nat_le (base + size) (2 ^ 32) ≡ ends → Reading
range_by base size true h = Ok (Watch (record { base = base; size = size; in_space = leb-true (base + size) (2 ^ 32) h }))
range_by base size false h = Err Number

abbrev pub range : ℕ → ℕ → Reading
range base size = range_by base size (nat_le (base + size) (2 ^ 32)) refl

-- ---- lines

-- a command of no number, of one, and of two
abbrev pub bare : List ℕ → Reading
bare name =
    if bytes_eq name (codes "unwatch") then Ok Unwatch else (
    if bytes_eq name (codes "regs") then Ok Regs else (
    if bytes_eq name (codes "quit") then Ok Quit else Err Syntax))

abbrev pub one : List ℕ → ℕ → Reading
one name n =
    if bytes_eq name (codes "break") then of Break (word n) else (
    if bytes_eq name (codes "unbreak") then of Unbreak (word n) else (
    if bytes_eq name (codes "step") then of Step (steps n) else (
    if bytes_eq name (codes "go") then of Go (steps n) else (
    if bytes_eq name (codes "detach") then of Detach (word n) else Err Syntax))))

abbrev pub two : List ℕ → ℕ → ℕ → Reading
two name a b =
    if bytes_eq name (codes "watch") then of_both range (word a) (word b) else (
    if bytes_eq name (codes "mem") then of_both (λ x n. Ok (Mem x n)) (word a) (bytes b) else Err Syntax)

abbrev pub with_one : List ℕ → Option ℕ → Reading
with_one name a = option_map_or (one name) a (Err Syntax)

abbrev pub with_two : List ℕ → Option ℕ → Option ℕ → Reading
with_two name a b = option_map_or (λ x. option_map_or (two name x) b (Err Syntax)) a (Err Syntax)

-- the words between single spaces
abbrev pub words_of : List ℕ → List (List ℕ)
words_of line = slice_split (λ b. b == 32) line

abbrev pub by_words : List (List ℕ) → Reading
by_words (name ∷ []) = bare name
by_words (name ∷ a ∷ []) = with_one name (number_of a)
by_words (name ∷ a ∷ b ∷ []) = with_two name (number_of a) (number_of b)
by_words other = Err Syntax

-- the command that a line spells, or the first of what is wrong with it
abbrev pub command_in : List ℕ → Reading
command_in line = by_words (words_of line)

-- space and tab alone
abbrev pub is_blank : List ℕ → Bool
is_blank line = list_all (λ b. b == 32 || b == 9) line
