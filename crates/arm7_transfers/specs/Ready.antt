-- A bus on which the machine can step. This project's.
use Rattle.std.specs.Prelude.{◌≡◌, ℕ, ◌≤◌, true, false}
use Rattle.arm7_bus.specs.Buses.{IsStarted}
use Rattle.arm7_bus.specs.Meets.{IsNowhere, seats_have, seats_share}
use Rattle.arm7_bus.specs.Paging.{used_count}
use Rattle.arm7_bus.specs.States.{State, bank_has}
use Rattle.arm7_bus.specs.WholeWords.{AreWholeBanks, AreWholeSeats}

-- banks and devices are whole words, and no device meets a bank or another device
pub record IsLaidOut (s : State) : Type 0 where
  pub banks : AreWholeBanks s.contents.banks
  pub devices : AreWholeSeats s.devices
  pub apart : (a : ℕ) → seats_have s.devices a ≡ true → bank_has s.contents.banks a 1 ≡ false
  pub alone : IsNowhere (λ a. seats_share s.devices a)

-- and memory has its pages, no more of them used than there are frames
pub record IsReady (s : State) : Type 0 where
  pub laid_out : IsLaidOut s
  pub started : IsStarted s
  pub room : used_count s.contents.used ≤ s.contents.frames
