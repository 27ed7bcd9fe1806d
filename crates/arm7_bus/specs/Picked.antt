-- Words that are stored at once. This project's.
use Rattle.std.specs.Prelude.{◌≡◌, ℕ, ◌+◌, ◌*◌, ◌%◌, ◌≤◌, true, false, List, ◌++◌}
use Rattle.arm7_model.specs.Memory.{store}
use Rattle.arm7_bus.specs.Paging.{page_used_in}
use Rattle.arm7_bus.specs.Picks.{word_places}
use Rattle.arm7_bus.specs.States.{Contents, bank_has, is_protected}

-- n words with these bytes are stored from a on: one bank that isn't protected and one used page have them all
pub record IsPicked (old : Contents) (a n : ℕ) (bytes : List ℕ) (new : Contents) : Type 0 where
  pub has : bank_has old.banks a (4 * n) ≡ true
  pub free : is_protected old.banks a (4 * n) ≡ false
  pub used : page_used_in old.used a ≡ true
  pub within : a % 4096 + 4 * n ≤ 4096
  pub after : new ≡ record old { memory = store old.memory a bytes; stores = old.stores ++ word_places a n }
