-- What the default bank of a run has room for. This project's.
use Rattle.std.specs.Prelude.{ℕ, ◌+◌, ◌≤◌, List, []}
use Rattle.std.specs.List.{AllByRecursion}
use Rattle.arm7_bus.specs.Meets.{IsNowhere}
use Rattle.run_opening.specs.declared.image.Need.{Need}
use Rattle.run_opening.specs.Banks.{HasFrames, banks_of, is_lacking}

-- what ends at the bank's end or below is memory, and there are frames for it
abbrev pub DefaultBankHasRoom : Type 0
DefaultBankHasRoom =
    (needs : List Need) → AllByRecursion (λ n. n.base + n.size ≤ 0x01000000) needs
    → IsNowhere (is_lacking (banks_of [] []) needs) × HasFrames (banks_of [] []) needs
