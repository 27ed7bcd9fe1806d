-- The accesses of a block of words, in order: a word for each register of a list, from an address on. This project's.
use Rattle.std.specs.Prelude.{◌≡◌, ℕ, ◌+◌, ◌/◌, ◌%◌, ◌^◌, ◌==◌, Bool, true, false, ◌&&◌, not, if◌then◌else◌, List, [], ◌∷◌, Option, Some, None}
use Rattle.sdt_word.specs.Bytes.{word_in}
use Rattle.sdt_word.specs.Numbers.{registers}
use Rattle.sdt_word.specs.declared.codes.Width.TheVariants.{Word}
use Rattle.arm7_model.specs.declared.state.ArmState.{ArmState}
use Rattle.arm7_model.specs.Accesses.{Access, Load, Store, next_word}
use Rattle.arm7_model.specs.Blocks.{all_there, with_block_base, with_listed, listed_at}
use Rattle.arm7_bus.specs.declared.memory.Bank.{Bank}
use Rattle.arm7_bus.specs.Buses.{after_read, needs_page}
use Rattle.arm7_bus.specs.States.{State, bank_has}
use Rattle.arm7_transfers.specs.Boards.{board_of}
use Rattle.arm7_transfers.specs.Served.{served, value_at}

abbrev pub loads_of : List ℕ → ℕ → List Access
loads_of [] a = []
loads_of (k ∷ ks) a = Load a Word ∷ loads_of ks (next_word a)

abbrev pub stores_of : Bool → ArmState → List ℕ → ℕ → List Access
stores_of user core [] a = []
stores_of user core (k ∷ ks) a = Store a Word (listed_at user core k % 256 ^ 4) ∷ stores_of user core ks (next_word a)

-- the registers once they are loaded
abbrev pub taken : Bool → List ℕ → ℕ → ArmState → State → ArmState
taken user [] a core s = core
taken user (k ∷ ks) a core s = taken user ks (next_word a) (with_listed user core k (value_at s a Word)) (after_read s a Word)

-- the same from the bytes of a run of memory, from a place on
abbrev pub drawn : Bool → List ℕ → ℕ → ArmState → List ℕ → ArmState
drawn user [] at core bytes = core
drawn user (k ∷ ks) at core bytes = drawn user ks (at + 4) (with_listed user core k (word_in bytes at)) bytes

-- each word of a list is there, the base is written back and then each register loaded, and the loads leave the bus as it was
abbrev pub IsTaken : Bool → ℕ → ℕ → ℕ → ℕ → ArmState → ArmState → State → Type 0
IsTaken write_back rn list a end core core' s =
    (all_there (board_of s) (registers 16 list) a ≡ true)
    × (core' ≡ taken false (registers 16 list) a (with_block_base write_back rn end core) s)
    × (s ≡ served s (loads_of (registers 16 list) a))

-- the addresses of the words that lie in banks
abbrev pub words_in : List Bank → List ℕ → ℕ → List ℕ
words_in banks [] a = []
words_in banks (k ∷ ks) a = if bank_has banks a 4 then a ∷ words_in banks ks (next_word a) else words_in banks ks (next_word a)

-- an address, where there is one, has the page of another
abbrev pub is_page_of : Option ℕ → ℕ → Bool
is_page_of None a = false
is_page_of (Some l) a = l / 4096 == a / 4096

-- how many pages the words need, where the page of the last one that needed one is counted
abbrev pub pages_needed : State → List ℕ → ℕ → Option ℕ → ℕ
pages_needed s [] a last = 0
pages_needed s (k ∷ ks) a last =
    if needs_page s a 4 && not (is_page_of last a) then 1 + pages_needed s ks (next_word a) (Some a)
    else pages_needed s ks (next_word a) last
