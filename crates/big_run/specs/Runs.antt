-- The run of a generated source's program from its entry: one step a word, the last of them SWI 0x11. Each step fetches its
-- word and accesses nothing else, whatever the interrupt lines are and devices answer. This project's.
use Rattle.std.specs.Prelude.{◌≡◌, ℕ, ◌+◌, ◌*◌, ◌%◌, ◌^◌, ◌<◌, ◌≤◌, true, List, [], ◌∷◌, length}
use Rattle.sdt_word.specs.Bytes.{word}
use Rattle.sdt_word.specs.Numbers.{bit}
use Rattle.sdt_word.specs.declared.codes.Width.TheVariants.{Word}
use Rattle.arm7_model.specs.declared.event.Event.TheVariants as event
use Rattle.arm7_model.specs.Accesses.{Fetch}
use Rattle.arm7_model.specs.Memory.{Board, Bytes, in_memory}
use Rattle.arm7_model.specs.Outcomes.{Stepped}
use Rattle.arm7_model.specs.Registers.{State, IsValidState, register}
use Rattle.arm7_model.specs.Runs.{Input, AreSteps, behind}
use Rattle.arm7_model.specs.Step.{Levels, Step}
use Rattle.big_model.specs.Sources.{big_sum}
use Rattle.big_model.specs.Words.{code_words}

-- these words stand in memory from a on
abbrev pub HoldWords : Board → Bytes → ℕ → List ℕ → Type 0
HoldWords board m a [] = Unit {0}
HoldWords board m a (w ∷ ws) = (in_memory board a 4 ≡ true) × (word m a ≡ w) × HoldWords board m (a + 4) ws

-- a state at the first word of the program with n steps: in ARM state with I and F set, and with the program in memory from a on
pub record IsEntered (n a : ℕ) (board : Board) (s : State) : Type 0 where
  pub valid : IsValidState s
  pub arm : bit s.core.cpsr 5 ≡ 0
  pub fiq_masked : bit s.core.cpsr 6 ≡ 1
  pub irq_masked : bit s.core.cpsr 7 ≡ 1
  pub pc : register s.core 15 ≡ a
  pub whole : a % 4 ≡ 0
  pub room : a + 4 * (n + 3) < 2 ^ 32
  pub code : HoldWords board s.memory a (code_words n)

-- ordinary steps, each of which fetches the next word and accesses nothing else
abbrev pub AreFetches : ℕ → List Stepped → Type 0
AreFetches a [] = Unit {0}
AreFetches a (x ∷ xs) = (x.event ≡ event.Ran) × (x.accesses ≡ Fetch a Word ∷ []) × AreFetches (a + 4) xs

-- the n + 2 steps before SWI 0x11, and that one
pub record IsBigRun (n a : ℕ) (board : Board) (s : State) (steps : List Stepped) (last : Stepped) : Type 0 where
  pub are : (inputs : List Input) → AreSteps board s inputs steps
  pub count : length steps ≡ n + 2
  pub fetches : AreFetches a steps
  pub ends : (lines : Levels) (answers : List ℕ) → Step board (behind s steps) lines answers last
  pub exit : last.event ≡ event.Host 0x11
  pub fetch : last.accesses ≡ Fetch (a + 4 * (n + 2)) Word ∷ []
  pub sum : register last.state.core 4 ≡ big_sum n
  pub memory : last.state.memory ≡ s.memory

abbrev pub BigRuns : Type 0
BigRuns =
    (n a : ℕ) (board : Board) (s : State) → n ≤ 50000 → IsEntered n a board s
    → (steps : List Stepped) × (last : Stepped) × IsBigRun n a board s steps last
