-- Words in memory, as lists: what several loads and stores in a row read and write. This project's.
use Rattle.std.specs.Prelude.{ℕ, zero, suc, ◌+◌, ◌%◌, ◌^◌, List, [], ◌∷◌}
use Rattle.sdt_word.specs.Bytes.{bytes_of, word}
use Rattle.sdt_word.specs.declared.codes.Width.TheVariants.{Word}
use Rattle.arm7_model.specs.declared.state.ArmState.{ArmState}
use Rattle.arm7_model.specs.Memory.{Bytes, store}
use Rattle.arm7_model.specs.Registers.{with_register}
use Rattle.arm7_model.specs.Accesses.{Access, Load, Store}

-- the n words from address a on
abbrev pub words_at : Bytes → ℕ → ℕ → List ℕ
words_at m a zero = []
words_at m a (suc n) = word m a ∷ words_at m (a + 4) n

-- the memory with these words from address a on
abbrev pub store_words : Bytes → ℕ → List ℕ → Bytes
store_words m a [] = m
store_words m a (v ∷ vs) = store_words (store m a (bytes_of v 4)) (a + 4) vs

-- the accesses of n loads, and of the stores of these words
abbrev pub loads_at : ℕ → ℕ → List Access
loads_at a zero = []
loads_at a (suc n) = Load a Word ∷ loads_at (a + 4) n

abbrev pub stores_at : ℕ → List ℕ → List Access
stores_at a [] = []
stores_at a (v ∷ vs) = Store a Word (v % 256 ^ 4) ∷ stores_at (a + 4) vs

-- the registers with these words in those listed
abbrev pub with_words : ArmState → List ℕ → List ℕ → ArmState
with_words s [] vs = s
with_words s (k ∷ ks) [] = s
with_words s (k ∷ ks) (v ∷ vs) = with_words (with_register s k v) ks vs
