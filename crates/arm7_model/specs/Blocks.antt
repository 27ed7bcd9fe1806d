-- Loads and stores of several registers, in rising order at rising addresses
-- (ARM Architecture Reference Manual: LDM and STM, addressing mode 4; PUSH, POP, LDMIA and STMIA).
use Rattle.std.specs.Prelude.{ℕ, ◌+◌, ◌-◌, ◌*◌, ◌%◌, ◌^◌, ◌==◌, Bool, true, ◌&&◌, not, if◌then◌else◌, List, [], ◌∷◌, length}
use Rattle.sdt_word.specs.Numbers.{bit, registers}
use Rattle.sdt_word.specs.declared.codes.Width.TheVariants.{Word}
use Rattle.arm7_model.specs.declared.state.ArmState.{ArmState}
use Rattle.arm7_model.specs.Memory.{Board, is_there, may_store}
use Rattle.arm7_model.specs.Registers.{with_register, with_user_register, user_register, with_pc, restored, register, stored_at}
use Rattle.arm7_model.specs.Accesses.{Working, aligned, next_word, read_at, after_load, after_store}
use Rattle.arm7_model.specs.Outcomes.{Stepped, Under, ran, aborted, given_back}

-- a register stands in the list
abbrev pub lists : ℕ → ℕ → Bool
lists list k = bit list k == 1

-- the lowest address of n words: at or after the base upwards, at or before it downwards
unfoldable pub block_start : Bool → Bool → ℕ → ℕ → ℕ
block_start pre up base n =
    if up then (base + (if pre then 4 else 0)) % 2 ^ 32 else (base + 2 ^ 32 - 4 * n + (if pre then 0 else 4)) % 2 ^ 32

-- the base after n words
unfoldable pub block_end : Bool → ℕ → ℕ → ℕ
block_end up base n = if up then (base + 4 * n) % 2 ^ 32 else (base + 2 ^ 32 - 4 * n) % 2 ^ 32

-- a word for each register of the list is there from address a on, and may be stored
abbrev pub all_there : Board → List ℕ → ℕ → Bool
all_there board [] a = true
all_there board (k ∷ ks) a = is_there board a 4 && all_there board ks (next_word a)

abbrev pub all_may_store : Board → List ℕ → ℕ → Bool
all_may_store board [] a = true
all_may_store board (k ∷ ks) a = may_store board a 4 && all_may_store board ks (next_word a)

-- a register is written, with ^ user mode's
unfoldable pub with_listed : Bool → ArmState → ℕ → ℕ → ArmState
with_listed user s k v = if user then with_user_register s k v else with_register s k v

unfoldable pub listed_at : Bool → ArmState → ℕ → ℕ
listed_at user s k = if user then user_register s k else stored_at s k

-- the registers are loaded one after the other
abbrev pub take_all : Board → Bool → List ℕ → ℕ → Working → Working
take_all board user [] a w = w
take_all board user (k ∷ ks) a w =
    take_all board user ks (next_word a) (record (after_load board w a Word) { core = with_listed user w.core k (read_at board w a Word) })

-- the registers of a core are stored one after the other
abbrev pub give_all : Board → Bool → ArmState → List ℕ → ℕ → Working → Working
give_all board user core [] a w = w
give_all board user core (k ∷ ks) a w =
    give_all board user core ks (next_word a) (after_store board w a Word (listed_at user core k))

-- the base is written back
abbrev pub with_block_base : Bool → ℕ → ℕ → ArmState → ArmState
with_block_base write_back rn v s = if write_back then with_register s rn v else s

-- pc as it was loaded becomes an address; with ^ CPSR has become SPSR before
unfoldable pub with_loaded_pc : Bool → ArmState → ArmState
with_loaded_pc user s = if user then with_pc (restored s) (register s 15) else with_pc s (register s 15)

-- the end of a load: a loaded pc whose low two bits aren't 0 is unpredictable without ^; in Thumb state
-- bit 0 is cleared
unfoldable pub take_end : Under → Bool → Bool → Bool → Working → Stepped
take_end u thumb user loads_pc w =
    if not loads_pc then ran w else
    if not thumb && (not user && not (register w.core 15 % 4 == 0)) then given_back u w else
    ran (record w { core = with_loaded_pc user w.core })

-- with ^ a list without pc names user mode's registers, and one with pc returns from an exception
unfoldable pub block_loaded : Under → Bool → Bool → Bool → List ℕ → ℕ → ℕ → ℕ → Bool → Working → Stepped
block_loaded u thumb user write_back ks a rn end loads_pc w =
    if all_there u.board ks a
    then take_end u thumb user loads_pc
    (take_all u.board (user && not loads_pc) ks a (record w { core = with_block_base write_back rn end w.core }))
    else aborted u w

unfoldable pub block_stored : Under → Bool → Bool → List ℕ → ℕ → ℕ → ℕ → Working → Stepped
block_stored u user write_back ks a rn end w =
    if all_may_store u.board ks a
    then ran (give_all u.board user w.core ks a (record w { core = with_block_base write_back rn end w.core }))
    else aborted u w

-- the whole block: its base is register rn, and its list has n places
unfoldable pub block_moved : Under → Bool → Bool → Bool → Bool → Bool → Bool → ℕ → ℕ → Working → Stepped
block_moved u thumb load pre up user write_back rn list w =
    let ks = registers 16 list in
    let base = register w.core rn in
    let a = aligned (block_start pre up base (length ks)) 4 in
    let end = block_end up base (length ks) in
    if load then block_loaded u thumb user write_back ks a rn end (lists list 15) w
    else block_stored u user write_back ks a rn end w
