-- What the boards of the model are, where a bus makes them. This project's.
use Rattle.std.specs.Prelude.{◌≡◌, ℕ, ◌-◌, ◌%◌, true, false}
use Rattle.arm7_model.specs.Memory.{Board}

-- No address is both memory and a device's, what is read-only is memory, and the bytes of a word are alike.
pub record IsBoard (board : Board) : Type 0 where
  pub apart : (a : ℕ) → board.device a ≡ true → board.memory a ≡ false
  pub protected : (a : ℕ) → board.read_only a ≡ true → board.memory a ≡ true
  pub words_of_memory : (a : ℕ) → board.memory a ≡ board.memory (a - a % 4)
  pub words_of_devices : (a : ℕ) → board.device a ≡ board.device (a - a % 4)
