-- Loads and stores, of one and of several registers, leave valid states.
use Rattle.std.proofs.Common.{◌≡◌, ◌≢◌, ℕ, zero, suc, ◌+◌, ◌-◌, ◌*◌, ◌/◌, ◌%◌, ◌^◌, ◌<◌, Bool, true, false, ◌==◌, ◌&&◌, not, nat_lt, if◌then◌else◌, List, [], ◌∷◌, length, refl, sym, ap, subst, ◌∙◌, arith, mod-lt, get_or-set_other}
use Rattle.std.specs.Prelude.{slice_index, slice_set}
use Rattle.std.proofs.lemmas.Bool.{eqb-false}
use Rattle.sdt_word.specs.Numbers.{bit, registers, places_from, kept}
use Rattle.sdt_word.specs.Bytes.{bytes_of, number_of, load}
use Rattle.sdt_word.specs.Codes.{bytes_in}
use Rattle.sdt_word.proofs.BytesLemmas.{get_or-bytes_of-lt, word-lt}
use Rattle.sdt_word.proofs.NumbersLemmas.{rotated-fits}
use Rattle.sdt_word.specs.declared.codes.Width.{Width}
use Rattle.sdt_word.specs.declared.codes.Width.TheVariants.{Byte, Half, Word}
use Rattle.arm7_model.specs.declared.state.ArmState.{ArmState}
use Rattle.arm7_model.specs.Memory.{Bytes, Board, in_memory, is_there, may_store, store}
use Rattle.arm7_model.specs.Registers.{IsValid, IsValidState, register, with_register, with_result, operand_at, stored_at, is_thumb, has_mode, bank_in, saved, restored, with_user_register}
use Rattle.arm7_model.specs.Accesses.{Working, aligned, next_word, read_at, after_load, after_store, memory_after}
use Rattle.arm7_model.specs.Outcomes.{Under, ran, aborted, given_back}
use Rattle.arm7_model.specs.Transfers.{moved_by, transfer_address, writes_back, with_base, loaded_value, load_end, loaded, stored, transferred, swapped}
use Rattle.arm7_model.specs.Blocks.{lists, block_start, block_end, take_all, give_all, all_there, all_may_store, with_listed, listed_at, with_block_base, with_loaded_pc, take_end, block_loaded, block_stored, block_moved}
use Rattle.arm7_model.proofs.MemoryLemmas.{bytes-store}
use Rattle.arm7_model.proofs.ValidRegisters.{IsNearlyValid, nearly, whole, nearly-register, valid-register, valid-pc, valid-result, banked, nearly-cpsr, saved-status, register-small, words-set}
use Rattle.arm7_model.proofs.ValidEffects.{IsGood, ran-good, given_back-good, aborted-good, read-small}

extended-small : (v n : ℕ) (b : Bool) → v < 2 ^ 32 → v + (2 ^ 32 - 2 ^ n) < 2 ^ 32 → (if b then v else v + (2 ^ 32 - 2 ^ n)) < 2 ^ 32
extended-small v n true h k = h
extended-small v n false h k = k

loaded-small : (signed : Bool) (width : Width) (a v : ℕ) → v < 256 ^ bytes_in width → loaded_value signed width a v < 2 ^ 32
unfolding loaded_value
loaded-small signed Word a v h = rotated-fits v (8 * (a % 4)) h (omega arith)
loaded-small true Half a v h = extended-small (v % 2 ^ 16) 16 (nat_lt (v % 2 ^ 16) (2 ^ 15)) (omega arith) (omega arith)
loaded-small false Half a v h = omega arith
loaded-small true Byte a v h = extended-small (v % 2 ^ 8) 8 (nat_lt (v % 2 ^ 8) (2 ^ 7)) (omega arith) (omega arith)
loaded-small false Byte a v h = omega arith

load_end-good : (u : Under) (rd v : ℕ) (w : Working) → IsValidState u.before → IsGood w → v < 2 ^ 32 → IsValidState (load_end u rd v w).state
unfolding load_end
load_end-good u rd v w b g small = go (rd == 15 && not (v % 4 == 0))
  where
    go : (c : Bool) → IsValidState (if c then given_back u w else ran (record w { core = with_result w.core rd v })).state
    go true = given_back-good u w b
    go false = ran-good (record w { core = with_result w.core rd v }) (record { core = valid-result w.core rd v g.core small; memory = g.memory })

pub loaded-good : (u : Under) (signed : Bool) (width : Width) (a rd : ℕ) (core : ArmState) (w : Working) → IsValidState u.before → IsGood w → IsValid core
    → IsValidState (loaded u signed width a rd core w).state
unfolding loaded after_load
loaded-good u signed width a rd core w b g hc = go (is_there u.board (aligned a (bytes_in width)) (bytes_in width))
  where
    at : ℕ
    at = aligned a (bytes_in width)

    v : ℕ
    v = loaded_value signed width a (read_at u.board w (aligned a (bytes_in width)) width)

    small : loaded_value signed width a (read_at u.board w (aligned a (bytes_in width)) width) < 2 ^ 32
    small = loaded-small signed width a (read_at u.board w (aligned a (bytes_in width)) width) (read-small u.board w (aligned a (bytes_in width)) width g)

    go : (c : Bool) → IsValidState (if c then load_end u rd (loaded_value signed width a (read_at u.board w (aligned a (bytes_in width)) width)) (record (after_load u.board w (aligned a (bytes_in width)) width) { core = core })
        else aborted u w).state
    go true = load_end-good u rd _ (record (after_load u.board w (aligned a (bytes_in width)) width) { core = core }) b (record { core = hc; memory = g.memory }) small
    go false = aborted-good u w b g

pub memory-bytes : (board : Board) (m : Bytes) (a : ℕ) (width : Width) (v : ℕ) → ((x : ℕ) → m x < 256) → (x : ℕ) → memory_after board m a width v x < 256
unfolding memory_after
memory-bytes board m a width v h x = go (in_memory board a (bytes_in width))
  where
    go : (c : Bool) → (if c then store m a (bytes_of v (bytes_in width)) else m) x < 256
    go true = bytes-store m a (bytes_of v (bytes_in width)) h (λ k. get_or-bytes_of-lt v (bytes_in width) k) x
    go false = h x

pub stored-good : (u : Under) (width : Width) (a rd : ℕ) (core : ArmState) (w : Working) → IsValidState u.before → IsGood w → IsValid core
    → IsValidState (stored u width a rd core w).state
unfolding stored after_store
stored-good u width a rd core w b g hc = go (may_store u.board (aligned a (bytes_in width)) (bytes_in width))
  where
    go : (c : Bool) → IsValidState (if c then ran (record (after_store u.board w (aligned a (bytes_in width)) width (stored_at w.core rd)) { core = core }) else aborted u w).state
    go true = ran-good (record (after_store u.board w (aligned a (bytes_in width)) width (stored_at w.core rd)) { core = core })
        (record { core = hc; memory = memory-bytes u.board w.memory (aligned a (bytes_in width)) width (stored_at w.core rd) g.memory })
    go false = aborted-good u w b g

moved-small : (up : Bool) (base offset : ℕ) → moved_by up base offset < 2 ^ 32
unfolding moved_by
moved-small true base offset = mod-lt (base + offset) (omega arith)
moved-small false base offset = mod-lt (base + 2 ^ 32 - offset) (omega arith)

base-valid : (pre up write_back : Bool) (rn offset : ℕ) (s : ArmState) → IsValid s → (writes_back pre write_back ≡ true → rn ≢ 15) → IsValid (with_base pre up write_back rn offset s)
unfolding with_base
base-valid pre up write_back rn offset s h other = go (writes_back pre write_back) refl
  where
    go : (c : Bool) → writes_back pre write_back ≡ c → IsValid (if c then with_register s rn (moved_by up (operand_at s rn) offset) else s)
    go true e = valid-register s rn _ h (moved-small up (operand_at s rn) offset) (other e)
    go false e = h

pub transferred-good : (u : Under) (load signed pre up write_back : Bool) (width : Width) (rn rd offset : ℕ) (w : Working) → IsValidState u.before → IsGood w
    → (writes_back pre write_back ≡ true → rn ≢ 15) → IsValidState (transferred u load signed pre up write_back width rn rd offset w).state
unfolding transferred
transferred-good u load signed pre up write_back width rn rd offset w b g other = go load
  where
    core : IsValid (with_base pre up write_back rn offset w.core)
    core = base-valid pre up write_back rn offset w.core g.core other

    go : (c : Bool) → IsValidState (if c then loaded u signed width (transfer_address pre up (operand_at w.core rn) offset) rd (with_base pre up write_back rn offset w.core) w
        else stored u width (transfer_address pre up (operand_at w.core rn) offset) rd (with_base pre up write_back rn offset w.core) w).state
    go true = loaded-good u signed width (transfer_address pre up (operand_at w.core rn) offset) rd (with_base pre up write_back rn offset w.core) w b g core
    go false = stored-good u width (transfer_address pre up (operand_at w.core rn) offset) rd (with_base pre up write_back rn offset w.core) w b g core

pub swapped-good : (u : Under) (width : Width) (rn rd rm : ℕ) (w : Working) → IsValidState u.before → IsGood w → rd ≢ 15 → IsValidState (swapped u width rn rd rm w).state
unfolding swapped after_store after_load
swapped-good u width rn rd rm w b g other = go (may_store u.board (aligned (register w.core rn) (bytes_in width)) (bytes_in width))
  where
    go : (c : Bool) → IsValidState (if c then ran (record (after_store u.board (after_load u.board w (aligned (register w.core rn) (bytes_in width)) width) (aligned (register w.core rn) (bytes_in width)) width (register w.core rm))
        { core = with_register w.core rd (loaded_value false width (register w.core rn) (read_at u.board w (aligned (register w.core rn) (bytes_in width)) width)) }) else aborted u w).state
    go true = ran-good (record (after_store u.board (after_load u.board w (aligned (register w.core rn) (bytes_in width)) width) (aligned (register w.core rn) (bytes_in width)) width (register w.core rm))
        { core = with_register w.core rd (loaded_value false width (register w.core rn) (read_at u.board w (aligned (register w.core rn) (bytes_in width)) width)) })
        (record {
          core = valid-register w.core rd _ g.core (loaded-small false width (register w.core rn) _ (read-small u.board w (aligned (register w.core rn) (bytes_in width)) width g)) other;
          memory = memory-bytes u.board w.memory (aligned (register w.core rn) (bytes_in width)) width (register w.core rm) g.memory;
        })
    go false = aborted-good u w b g

-- ---- several registers

-- the registers of a list are among those of its number
abbrev pub AllIn : (ℕ → Type 0) → List ℕ → Type 0
AllIn P [] = Unit {0}
AllIn P (k ∷ ks) = P k × AllIn P ks

places-set : (k n v : ℕ) → AllIn (λ j. bit v j ≡ 1) (places_from k n v)
places-set k zero v = tt
places-set k (suc n) v = go (bit v k) refl (places-set (suc k) n v)
  where
    one : (b : ℕ) → bit v k ≡ suc b → bit v k ≡ 1
    one b e = let two : 0 < 2 = omega arith in let small : v / 2 ^ k % 2 < 2 = mod-lt (v / 2 ^ k) two in omega arith

    go : (b : ℕ) → bit v k ≡ b → AllIn (λ j. bit v j ≡ 1) (places_from (suc k) n v) → AllIn (λ j. bit v j ≡ 1) (kept b k (places_from (suc k) n v))
    go zero e h = h
    go (suc b) e h = (one b e, h)

not-pc : (v : ℕ) (ks : List ℕ) → lists v 15 ≡ false → AllIn (λ j. bit v j ≡ 1) ks → AllIn (λ j. j ≢ 15) ks
not-pc v [] h all = tt
not-pc v (k ∷ ks) h (first, all) = ((λ e. eqb-false (bit v 15) 1 h (ap (bit v) (sym e) ∙ first)), not-pc v ks h all)

user-nearly : (s : ArmState) (k v : ℕ) → IsNearlyValid s → v < 2 ^ 32 → bank_in s.cpsr ≢ 0 → IsNearlyValid (with_user_register s k v)
unfolding with_user_register
user-nearly s k v h small other = go (k == 13) (k == 14) (nat_lt k 8) (bank_in s.cpsr == 1)
  where
    plain : IsNearlyValid (with_register s k v)
    plain = nearly-register s k v h small

    go : (a b c d : Bool) → IsNearlyValid (
        if a then record s { banks = record s.banks { r13 = slice_set s.banks.r13 0 v } } else
        if b then record s { banks = record s.banks { r14 = slice_set s.banks.r14 0 v } } else
        if c then with_register s k v else
        if d then record s { banks = record s.banks { high = slice_set s.banks.high (k - 8) v } } else with_register s k v)
    go true b c d = record {
      visible = h.visible;
      high = h.high;
      r13 = words-set 6 s.banks.r13 0 v h.r13 small;
      r14 = h.r14;
      no_r13 = get_or-set_other s.banks.r13 0 (bank_in s.cpsr) v 0 other ∙ h.no_r13;
      no_r14 = h.no_r14;
      mode = h.mode;
      status = h.status;
      saved_count = h.saved_count;
      saved_status = h.saved_status;
    }
    go false true c d = record {
      visible = h.visible;
      high = h.high;
      r13 = h.r13;
      r14 = words-set 6 s.banks.r14 0 v h.r14 small;
      no_r13 = h.no_r13;
      no_r14 = get_or-set_other s.banks.r14 0 (bank_in s.cpsr) v 0 other ∙ h.no_r14;
      mode = h.mode;
      status = h.status;
      saved_count = h.saved_count;
      saved_status = h.saved_status;
    }
    go false false true d = plain
    go false false false true = record {
      visible = h.visible;
      high = words-set 5 s.banks.high (k - 8) v h.high small;
      r13 = h.r13;
      r14 = h.r14;
      no_r13 = h.no_r13;
      no_r14 = h.no_r14;
      mode = h.mode;
      status = h.status;
      saved_count = h.saved_count;
      saved_status = h.saved_status;
    }
    go false false false false = plain

-- what a listed register's write keeps
record Keeps (s t : ArmState) : Type 0 where
  cpsr : t.cpsr ≡ s.cpsr
  spsr : t.spsr ≡ s.spsr

listed-keeps : (user : Bool) (s : ArmState) (k v : ℕ) → Keeps s (with_listed user s k v)
unfolding with_listed with_user_register with_register
listed-keeps false s k v = record { cpsr = refl; spsr = refl }
listed-keeps true s k v = go (k == 13) (k == 14) (nat_lt k 8) (bank_in s.cpsr == 1)
  where
    go : (a b c d : Bool) → Keeps s (
        if a then record s { banks = record s.banks { r13 = slice_set s.banks.r13 0 v } } else
        if b then record s { banks = record s.banks { r14 = slice_set s.banks.r14 0 v } } else
        if c then with_register s k v else
        if d then record s { banks = record s.banks { high = slice_set s.banks.high (k - 8) v } } else with_register s k v)
    go true b c d = record { cpsr = refl; spsr = refl }
    go false true c d = record { cpsr = refl; spsr = refl }
    go false false true d = record { cpsr = refl; spsr = refl }
    go false false false true = record { cpsr = refl; spsr = refl }
    go false false false false = record { cpsr = refl; spsr = refl }

listed-pc : (user : Bool) (s : ArmState) (k v : ℕ) → k ≢ 15 → slice_index (with_listed user s k v).r 15 ≡ slice_index s.r 15
unfolding with_listed with_user_register with_register
listed-pc false s k v other = get_or-set_other s.r k 15 v 0 (λ e. other (sym e))
listed-pc true s k v other = go (k == 13) (k == 14) (nat_lt k 8) (bank_in s.cpsr == 1)
  where
    set : slice_index (slice_set s.r k v) 15 ≡ slice_index s.r 15
    set = get_or-set_other s.r k 15 v 0 (λ e. other (sym e))

    go : (a b c d : Bool) → slice_index (
        if a then record s { banks = record s.banks { r13 = slice_set s.banks.r13 0 v } } else
        if b then record s { banks = record s.banks { r14 = slice_set s.banks.r14 0 v } } else
        if c then with_register s k v else
        if d then record s { banks = record s.banks { high = slice_set s.banks.high (k - 8) v } } else with_register s k v).r 15 ≡ slice_index s.r 15
    go true b c d = refl
    go false true c d = refl
    go false false true d = set
    go false false false true = refl
    go false false false false = set

listed-nearly : (user : Bool) (s : ArmState) (k v : ℕ) → IsNearlyValid s → v < 2 ^ 32 → (user ≡ true → bank_in s.cpsr ≢ 0) → IsNearlyValid (with_listed user s k v)
unfolding with_listed
listed-nearly false s k v h small other = nearly-register s k v h small
listed-nearly true s k v h small other = user-nearly s k v h small (other refl)

read-word : (board : Board) (w : Working) (a : ℕ) → ((x : ℕ) → w.memory x < 256) → read_at board w a Word < 2 ^ 32
unfolding read_at
read-word board w a h = go (in_memory board a 4)
  where
    go : (b : Bool) → (if b then number_of (load w.memory a 4) else slice_index w.answers 0 % 256 ^ 4) < 2 ^ 32
    go true = word-lt w.memory a h
    go false = omega arith

-- a load of several registers keeps memory, CPSR and SPSRs, and its registers are words
pub record IsNearlyGood (start : ArmState) (w : Working) : Type 0 where
  pub core : IsNearlyValid w.core
  pub memory : (a : ℕ) → w.memory a < 256
  pub cpsr : w.core.cpsr ≡ start.cpsr
  pub spsr : w.core.spsr ≡ start.spsr

take_all-good : (board : Board) (user : Bool) (ks : List ℕ) (a : ℕ) (start : ArmState) (w : Working) → IsNearlyGood start w → (user ≡ true → bank_in start.cpsr ≢ 0)
    → IsNearlyGood start (take_all board user ks a w)
unfolding after_load read_at
take_all-good board user [] a start w h other = h
take_all-good board user (k ∷ ks) a start w h other =
    let v = read_at board w a Word in
    let next = record (after_load board w a Word) { core = with_listed user w.core k v } in
    let Bank : ℕ → Type 0 = λ c. user ≡ true → bank_in c ≢ 0 in
    let keeps = listed-keeps user w.core k v in
    take_all-good board user ks (next_word a) start next
    (record {
      core = listed-nearly user w.core k v h.core (read-word board w a h.memory) (subst Bank (sym h.cpsr) other);
      memory = h.memory;
      cpsr = keeps.cpsr ∙ h.cpsr;
      spsr = keeps.spsr ∙ h.spsr;
    }) other

take_all-pc : (board : Board) (user : Bool) (ks : List ℕ) (a : ℕ) (w : Working) → AllIn (λ j. j ≢ 15) ks → slice_index (take_all board user ks a w).core.r 15 ≡ slice_index w.core.r 15
unfolding after_load read_at
take_all-pc board user [] a w all = refl
take_all-pc board user (k ∷ ks) a w (first, all) =
    take_all-pc board user ks (next_word a) (record (after_load board w a Word) { core = with_listed user w.core k (read_at board w a Word) }) all
    ∙ listed-pc user w.core k (read_at board w a Word) first

give_all-bytes : (board : Board) (user : Bool) (core : ArmState) (ks : List ℕ) (a : ℕ) (w : Working) → ((x : ℕ) → w.memory x < 256)
    → ((x : ℕ) → (give_all board user core ks a w).memory x < 256) × ((give_all board user core ks a w).core ≡ w.core)
unfolding after_store
give_all-bytes board user core [] a w h = (h, refl)
give_all-bytes board user core (k ∷ ks) a w h =
    give_all-bytes board user core ks (next_word a) (after_store board w a Word (listed_at user core k)) (memory-bytes board w.memory a Word (listed_at user core k) h)

block_base-valid : (write_back : Bool) (rn v : ℕ) (s : ArmState) → IsValid s → v < 2 ^ 32 → rn ≢ 15 → IsValid (with_block_base write_back rn v s)
block_base-valid true rn v s h small other = valid-register s rn v h small other
block_base-valid false rn v s h small other = h

block_base-keeps : (write_back : Bool) (rn v : ℕ) (s : ArmState) → Keeps s (with_block_base write_back rn v s)
unfolding with_register
block_base-keeps true rn v s = record { cpsr = refl; spsr = refl }
block_base-keeps false rn v s = record { cpsr = refl; spsr = refl }

end-small : (up : Bool) (base n : ℕ) → block_end up base n < 2 ^ 32
unfolding block_end
end-small true base n = mod-lt (base + 4 * n) (omega arith)
end-small false base n = mod-lt (base + 2 ^ 32 - 4 * n) (omega arith)

loaded_pc-valid : (user : Bool) (s : ArmState) → IsNearlyValid s → (user ≡ true → has_mode (saved s) ≡ true) → IsValid (with_loaded_pc user s)
unfolding with_loaded_pc restored
loaded_pc-valid true s h mode = valid-pc (restored s) (register s 15) (nearly-cpsr s (saved s) (banked s h) (saved-status s h) (mode refl)) (register-small s 15 h)
loaded_pc-valid false s h mode = valid-pc s (register s 15) h (register-small s 15 h)

-- the whole block: a base other than pc; with ^ a mode with an SPSR and, with pc, one of a mode
pub block_moved-good : (u : Under) (thumb load pre up user write_back : Bool) (rn list : ℕ) (w : Working) → IsValidState u.before → IsGood w → rn ≢ 15
    → (user ≡ true → bank_in w.core.cpsr ≢ 0) → (user ≡ true → load ≡ true → lists list 15 ≡ true → has_mode (saved w.core) ≡ true)
    → IsValidState (block_moved u thumb load pre up user write_back rn list w).state
unfolding block_moved block_loaded block_stored take_end saved
block_moved-good u thumb load pre up user write_back rn list w b g other banks mode = go load refl
  where
    ks : List ℕ
    ks = registers 16 list

    end : ℕ
    end = block_end up (register w.core rn) (length (registers 16 list))

    based : IsValid (with_block_base write_back rn (block_end up (register w.core rn) (length (registers 16 list))) w.core)
    based = block_base-valid write_back rn (block_end up (register w.core rn) (length (registers 16 list))) w.core g.core (end-small up (register w.core rn) (length (registers 16 list))) other

    begun : IsNearlyGood w.core (record w { core = with_block_base write_back rn (block_end up (register w.core rn) (length (registers 16 list))) w.core })
    begun =
        let keeps = block_base-keeps write_back rn (block_end up (register w.core rn) (length (registers 16 list))) w.core in
        record { core = nearly _ based; memory = g.memory; cpsr = keeps.cpsr; spsr = keeps.spsr }

    ended : (l : Bool) → lists list 15 ≡ l → (x : Working) → IsNearlyGood w.core x
        → (l ≡ false → slice_index x.core.r 15 ≡ slice_index (with_block_base write_back rn (block_end up (register w.core rn) (length (registers 16 list))) w.core).r 15)
        → load ≡ true
        → IsValidState (if not l then ran x else if not thumb && (not user && not (register x.core 15 % 4 == 0)) then given_back u x else ran (record x { core = with_loaded_pc user x.core })).state
    ended false e x h pc_same loads =
        let keeps = block_base-keeps write_back rn (block_end up (register w.core rn) (length (registers 16 list))) w.core in
        let Thumb : ℕ → Type 0 = λ c. is_thumb c ≡ true in
        ran-good x (record {
          core = whole x.core h.core (λ t. let same = pc_same refl in rw same (based.even (subst Thumb (h.cpsr ∙ sym keeps.cpsr) t)));
          memory = h.memory;
        })
    ended true e x h pc_same loads = pick (not thumb && (not user && not (register x.core 15 % 4 == 0)))
      where
        mode_kept : user ≡ true → has_mode (slice_index x.core.spsr (bank_in x.core.cpsr - 1)) ≡ true
        mode_kept is_user =
            let Of : ArmState → Type 0 = λ s. has_mode (slice_index s.spsr (bank_in s.cpsr - 1)) ≡ true in
            rw (h.spsr, h.cpsr) (mode is_user loads e)

        pick : (c : Bool) → IsValidState (if c then given_back u x else ran (record x { core = with_loaded_pc user x.core })).state
        pick true = given_back-good u x b
        pick false = ran-good (record x { core = with_loaded_pc user x.core }) (record { core = loaded_pc-valid user x.core h.core mode_kept; memory = h.memory })

    go : (l : Bool) → load ≡ l → IsValidState (if l
        then (if all_there u.board (registers 16 list) (aligned (block_start pre up (register w.core rn) (length (registers 16 list))) 4)
        then take_end u thumb user (lists list 15) (take_all u.board (user && not (lists list 15)) (registers 16 list) (aligned (block_start pre up (register w.core rn) (length (registers 16 list))) 4)
        (record w { core = with_block_base write_back rn (block_end up (register w.core rn) (length (registers 16 list))) w.core }))
        else aborted u w)
        else (if all_may_store u.board (registers 16 list) (aligned (block_start pre up (register w.core rn) (length (registers 16 list))) 4)
        then ran (give_all u.board user w.core (registers 16 list) (aligned (block_start pre up (register w.core rn) (length (registers 16 list))) 4)
        (record w { core = with_block_base write_back rn (block_end up (register w.core rn) (length (registers 16 list))) w.core }))
        else aborted u w)).state
    go true loads = try (all_there u.board (registers 16 list) (aligned (block_start pre up (register w.core rn) (length (registers 16 list))) 4))
      where
        a : ℕ
        a = aligned (block_start pre up (register w.core rn) (length (registers 16 list))) 4

        begin : Working
        begin = record w { core = with_block_base write_back rn (block_end up (register w.core rn) (length (registers 16 list))) w.core }

        only_user : (user && not (lists list 15)) ≡ true → bank_in w.core.cpsr ≢ 0
        only_user h = banks (and_first user (not (lists list 15)) h)
          where
            and_first : (x y : Bool) → (x && y) ≡ true → x ≡ true
            and_first true y h = refl
            and_first false y h = cc

        taken : IsNearlyGood w.core (take_all u.board (user && not (lists list 15)) (registers 16 list) (aligned (block_start pre up (register w.core rn) (length (registers 16 list))) 4)
            (record w { core = with_block_base write_back rn (block_end up (register w.core rn) (length (registers 16 list))) w.core }))
        taken = take_all-good u.board (user && not (lists list 15)) (registers 16 list) _ w.core _ begun only_user

        try : (c : Bool) → IsValidState (if c
            then take_end u thumb user (lists list 15) (take_all u.board (user && not (lists list 15)) (registers 16 list) (aligned (block_start pre up (register w.core rn) (length (registers 16 list))) 4)
            (record w { core = with_block_base write_back rn (block_end up (register w.core rn) (length (registers 16 list))) w.core }))
            else aborted u w).state
        try true = ended (lists list 15) refl _ taken (λ none. take_all-pc u.board (user && not (lists list 15)) (registers 16 list) _ _ (not-pc list (registers 16 list) none (places-set 0 16 list))) loads
        try false = aborted-good u w b g
    go false stores = try (all_may_store u.board (registers 16 list) (aligned (block_start pre up (register w.core rn) (length (registers 16 list))) 4))
      where
        try : (c : Bool) → IsValidState (if c
            then ran (give_all u.board user w.core (registers 16 list) (aligned (block_start pre up (register w.core rn) (length (registers 16 list))) 4)
            (record w { core = with_block_base write_back rn (block_end up (register w.core rn) (length (registers 16 list))) w.core }))
            else aborted u w).state
        try true =
            let both = give_all-bytes u.board user w.core (registers 16 list) (aligned (block_start pre up (register w.core rn) (length (registers 16 list))) 4)
            (record w { core = with_block_base write_back rn (block_end up (register w.core rn) (length (registers 16 list))) w.core }) g.memory in
            let Valid : ArmState → Type 0 = IsValid in
            ran-good _ (record { core = subst Valid (sym both.1) based; memory = both.0 })
        try false = aborted-good u w b g
