-- A debugger's script: each line that isn't blank is a command. This project's.
use Rattle.std.specs.Prelude.{◌≡◌, ℕ, ◌+◌, ◌-◌, ◌==◌, ◌≤◌, nat_lt, min, not, if◌then◌else◌}
use Rattle.std.specs.Prelude.{List, [], ◌∷◌, ◌++◌, map, filter, Option, Some, None, Result, Ok, Err}
use Rattle.std.specs.Str.Lines.{lines}
use Rattle.sdt_fault.specs.declared.answer.Fault.{Fault}
use Rattle.sdt_fault.specs.declared.answer.Fault.TheVariants as fault
use Rattle.sdt_fault.specs.declared.kinds.CommandKind.{CommandKind}
use Rattle.sdt_fault.specs.declared.kinds.CommandKind.TheVariants as kind
use Rattle.sdt_fault.specs.declared.refusal.Refusal.{Refusal}
use Rattle.sdt_fault.specs.declared.refusal.Refusal.TheVariants.{BadCommand}
use Rattle.armsd_core.specs.declared.command.Command.{Command}
use Rattle.armsd_core.specs.declared.command.Command.TheVariants.{Break, Watch, Step, Go, Mem, Detach}
use Rattle.armsd_core.specs.Commands.{command_in, is_blank}

-- ---- what a command may be, by those before it: how many more may be Break or Watch, and how many devices are left

abbrev pub flaw : ℕ → ℕ → Command → Option CommandKind
flaw points devices (Break a) = if points == 0 then Some kind.Number else None
flaw points devices (Watch r) = if points == 0 then Some kind.Number else None
flaw points devices (Detach i) = if nat_lt i devices then None else Some kind.NoDevice
flaw points devices other = None

abbrev pub judged_by : Command → Option CommandKind → Result (Option Command) CommandKind
judged_by c None = Ok (Some c)
judged_by c (Some k) = Err k

abbrev pub judged : ℕ → ℕ → Result Command CommandKind → Result (Option Command) CommandKind
judged points devices (Ok c) = judged_by c (flaw points devices c)
judged points devices (Err k) = Err k

-- the command of a line, if it has one, or the first of what is wrong with it
abbrev pub line_of : ℕ → ℕ → List ℕ → Result (Option Command) CommandKind
line_of points devices line = if is_blank line then Ok None else judged points devices (command_in line)

-- ---- the lines in order

abbrev pub points_behind : ℕ → Option Command → ℕ
points_behind points (Some (Break a)) = points - 1
points_behind points (Some (Watch r)) = points - 1
points_behind points other = points

abbrev pub devices_behind : ℕ → Option Command → ℕ
devices_behind devices (Some (Detach i)) = devices - 1
devices_behind devices other = devices

-- the commands, or the number of the first line at fault, and the first of what is wrong with it
abbrev pub Reading : Type 0
Reading = Result (List Command) (ℕ × CommandKind)

abbrev pub listed : Option Command → List Command
listed None = []
listed (Some c) = c ∷ []

abbrev pub onto : List Command → Reading → Reading
onto before (Ok cs) = Ok (before ++ cs)
onto before (Err e) = Err e

abbrev pub behind : ℕ → ℕ → ℕ → (ℕ → ℕ → Reading) → Result (Option Command) CommandKind → Reading
behind line points devices rest (Ok found) = onto (listed found) (rest (points_behind points found) (devices_behind devices found))
behind line points devices rest (Err k) = Err (line, k)

abbrev pub read : ℕ → ℕ → ℕ → List (List ℕ) → Reading
read line points devices [] = Ok []
read line points devices (l ∷ ls) = behind line points devices (λ p d. read (line + 1) p d ls) (line_of points devices l)

-- ---- what the commands of a script are

abbrev pub IsInRange : Command → Type 0
IsInRange (Step n) = (1 ≤ n) × (n ≤ 1000000000)
IsInRange (Go n) = (1 ≤ n) × (n ≤ 1000000000)
IsInRange (Mem a n) = (1 ≤ n) × (n ≤ 256)
IsInRange other = Unit {0}

-- numbers are in their ranges, and each command has no flaw behind those before it
abbrev pub AreGood : ℕ → ℕ → List Command → Type 0
AreGood points devices [] = Unit {0}
AreGood points devices (c ∷ cs) =
    IsInRange c × (flaw points devices c ≡ None) × AreGood (points_behind points (Some c)) (devices_behind devices (Some c)) cs

-- the lines of a text that aren't blank spell these commands, which are good for a bus of so many devices
pub record ReadsScript (text : List ℕ) (devices : ℕ) (commands : List Command) : Type 0 where
  pub spelled : map command_in (filter (λ l. not (is_blank l)) (lines text)) ≡ map {B = Result Command CommandKind} (λ c. Ok c) commands
  pub good : AreGood 64 devices commands

-- lines from 2^32 on are told as 2^32 - 1
abbrev pub told : ℕ → ℕ
told line = min line 0xFFFFFFFF

abbrev pub refusal : Reading → Result (List Command) Refusal
refusal (Ok cs) = Ok cs
refusal (Err (line, k)) = Err (BadCommand [] (told line) k)

-- the commands of a text for a bus of so many devices, or the refusal of its first line at fault
abbrev pub script_of : List ℕ → ℕ → Result (List Command) Refusal
script_of text devices = refusal (read 1 64 devices (lines text))

-- ---- what the code's values mean

-- what a call answers is what reading gives, unless memory was refused
abbrev pub Gives : Result (List Command) Fault → Result (List Command) Refusal → Type 0
Gives (Ok cs) read = read ≡ Ok cs
Gives (Err fault.NoMemory) read = Unit {0}
Gives (Err (fault.Refused r)) read = read ≡ Err r
Gives (Err (fault.ReadFault name)) read = ⊥
