-- Loads and stores of one word, half-word or byte, and the swap (ARM Architecture Reference Manual: load
-- and store instructions, addressing modes 2 and 3, SWP). An absent access takes the data abort before
-- anything is done.
use Rattle.std.specs.Prelude.{ℕ, ◌+◌, ◌-◌, ◌*◌, ◌%◌, ◌^◌, ◌==◌, Bool, false, ◌&&◌, ◌||◌, not, if◌then◌else◌}
use Rattle.sdt_word.specs.Numbers.{rotated, sign_extended}
use Rattle.sdt_word.specs.Codes.{bytes_in}
use Rattle.sdt_word.specs.declared.codes.Width.{Width}
use Rattle.sdt_word.specs.declared.codes.Width.TheVariants.{Byte, Half, Word}
use Rattle.arm7_model.specs.declared.state.ArmState.{ArmState}
use Rattle.arm7_model.specs.Memory.{is_there, may_store}
use Rattle.arm7_model.specs.Registers.{with_result, with_register, operand_at, stored_at, register}
use Rattle.arm7_model.specs.Accesses.{Working, aligned, read_at, after_load, after_store}
use Rattle.arm7_model.specs.Outcomes.{Stepped, Under, ran, aborted, given_back}

-- ---- addresses

-- the base with an offset added, or taken away where u is 0
unfoldable pub moved_by : Bool → ℕ → ℕ → ℕ
moved_by up base offset = if up then (base + offset) % 2 ^ 32 else (base + 2 ^ 32 - offset) % 2 ^ 32

-- the address of the access: the moved base before the access, or the base itself
unfoldable pub transfer_address : Bool → Bool → ℕ → ℕ → ℕ
transfer_address pre up base offset = if pre then moved_by up base offset else base

-- the base register is written back with w, and always after the access
unfoldable pub writes_back : Bool → Bool → Bool
writes_back pre write_back = not pre || write_back

unfoldable pub with_base : Bool → Bool → Bool → ℕ → ℕ → ArmState → ArmState
with_base pre up write_back rn offset s =
    if writes_back pre write_back then with_register s rn (moved_by up (operand_at s rn) offset) else s

-- ---- one load

-- what a register gets: a word rotated by the low bits of its address, a byte or half-word with zeros or
-- with its sign
unfoldable pub loaded_value : Bool → Width → ℕ → ℕ → ℕ
loaded_value signed Word a v = rotated v (8 * (a % 4))
loaded_value signed Half a v = if signed then sign_extended v 16 else v
loaded_value signed Byte a v = if signed then sign_extended v 8 else v

-- a loaded pc whose low two bits aren't 0 is unpredictable
unfoldable pub load_end : Under → ℕ → ℕ → Working → Stepped
load_end u rd v w =
    if rd == 15 && not (v % 4 == 0) then given_back u w else ran (record w { core = with_result w.core rd v })

-- register rd is loaded from address a, and the registers have their base written back
unfoldable pub loaded : Under → Bool → Width → ℕ → ℕ → ArmState → Working → Stepped
loaded u signed width a rd core w =
    let at = aligned a (bytes_in width) in
    if is_there u.board at (bytes_in width)
    then load_end u rd (loaded_value signed width a (read_at u.board w at width)) (record (after_load u.board w at width) { core = core })
    else aborted u w

-- ---- one store

-- register rd as it is before the base is written back
unfoldable pub stored : Under → Width → ℕ → ℕ → ArmState → Working → Stepped
stored u width a rd core w =
    let at = aligned a (bytes_in width) in
    if may_store u.board at (bytes_in width)
    then ran (record (after_store u.board w at width (stored_at w.core rd)) { core = core })
    else aborted u w

-- a load or a store with an offset from a base
unfoldable pub transferred : Under → Bool → Bool → Bool → Bool → Bool → Width → ℕ → ℕ → ℕ → Working → Stepped
transferred u load signed pre up write_back width rn rd offset w =
    let a = transfer_address pre up (operand_at w.core rn) offset in
    let core = with_base pre up write_back rn offset w.core in
    if load then loaded u signed width a rd core w else stored u width a rd core w

-- ---- the swap: a load and a store at one address

unfoldable pub swapped : Under → Width → ℕ → ℕ → ℕ → Working → Stepped
swapped u width rn rd rm w =
    let a = register w.core rn in
    let at = aligned a (bytes_in width) in
    let v = loaded_value false width a (read_at u.board w at width) in
    if may_store u.board at (bytes_in width)
    then ran (record (after_store u.board (after_load u.board w at width) at width (register w.core rm)) { core = with_register w.core rd v })
    else aborted u w
