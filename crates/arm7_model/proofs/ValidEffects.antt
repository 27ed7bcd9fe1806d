-- Data processing, status registers, exceptions, loads and stores leave valid states.
use Rattle.std.proofs.Common.{◌≡◌, ◌≢◌, ℕ, zero, suc, ◌+◌, ◌*◌, ◌/◌, ◌%◌, ◌^◌, ◌<◌, Bool, true, false, ◌==◌, ◌&&◌, ◌||◌, not, if◌then◌else◌, length, get_or, refl, subst, arith, mod-lt}
use Rattle.std.specs.Prelude.{slice_index}
use Rattle.std.proofs.lemmas.Bool.{eqb-false}
use Rattle.sdt_word.specs.Numbers.{bits}
use Rattle.sdt_word.specs.Bytes.{number_of, load}
use Rattle.sdt_word.specs.Codes.{bytes_in}
use Rattle.sdt_word.proofs.BytesLemmas.{number_of-lt}
use Rattle.sdt_word.specs.declared.codes.Width.{Width}
use Rattle.sdt_word.specs.declared.codes.Width.TheVariants.{Byte, Half, Word}
use Rattle.arm_isa.specs.declared.instr.Operation.{Operation}
use Rattle.arm7_model.specs.declared.state.ArmState.{ArmState}
use Rattle.arm7_model.specs.declared.event.Exception.{Exception}
use Rattle.arm7_model.specs.declared.event.Exception.TheVariants as exception
use Rattle.arm7_model.specs.Memory.{Board, in_memory}
use Rattle.arm7_model.specs.Registers.{IsValid, IsValidState, IsStatus, register, with_register, with_pc, with_result, operand_at, has_mode, mode_named, saved, with_saved, with_cpsr, restored, has_saved}
use Rattle.arm7_model.specs.Arithmetic.{Shifted, Computed, computed, is_comparison, carry_in, overflow_in}
use Rattle.arm7_model.specs.Accesses.{Working, read_at}
use Rattle.arm7_model.specs.Outcomes.{Under, ran, took, raised, aborted, hosted, given_back, entered, entry_status, vector}
use Rattle.arm7_model.specs.Data.{flagged, completed, calculated, multiplied, multiplied_long, long_product, kept_flags, long_flags}
use Rattle.arm7_model.specs.ArmStep.{bad_return}
use Rattle.arm7_model.proofs.ValidRegisters.{IsNearlyValid, nearly, nearly-register, valid-register, valid-at, valid-pc, valid-result, valid-status, valid-flags, banked, nearly-cpsr, nearly-saved, saved-status, register-small, operand-small}
use Rattle.arm7_model.proofs.ValidValues.{FitsShifted, FitsComputed, computed-fits}

-- ---- data processing

flagged-valid : (s : ArmState) (c : Computed) → IsValid s → FitsComputed c → IsValid (flagged s c)
unfolding flagged
flagged-valid s c h f = valid-flags s c.value c.carry c.overflow h f.carry f.overflow

restored-nearly : (s : ArmState) → IsValid s → has_mode (saved s) ≡ true → IsNearlyValid (restored s)
unfolding restored
restored-nearly s h mode = nearly-cpsr s (saved s) (banked s (nearly s h)) (saved-status s (nearly s h)) mode

pub completed-valid : (o : Operation) (set_flags : Bool) (rd : ℕ) (c : Computed) (s : ArmState) → IsValid s → FitsComputed c → bad_return o set_flags rd s ≡ false
    → IsValid (completed o set_flags rd c s)
unfolding completed bad_return
completed-valid o set_flags rd c s h f fine = go (is_comparison o) set_flags (rd == 15) refl (has_saved s) (has_mode (saved s)) refl fine
  where
    go : (comparison flags pc : Bool) → (rd == 15) ≡ pc → (sv md : Bool) → has_mode (saved s) ≡ md → (flags && (pc && (not comparison && (not sv || not md)))) ≡ false
        → IsValid (if comparison then flagged s c else if not flags then with_result s rd c.value else if pc then with_pc (restored s) c.value else with_register (flagged s c) rd c.value)
    go true flags pc e sv md m fine = flagged-valid s c h f
    go false false pc e sv md m fine = valid-result s rd c.value h f.value
    go false true false e sv md m fine = valid-register (flagged s c) rd c.value (flagged-valid s c h f) f.value (eqb-false rd 15 e)
    go false true true e true true m fine = valid-pc (restored s) c.value (restored-nearly s h m) f.value
    go false true true e true false m fine = absurd (wrong fine)
      where
        wrong : true ≡ false → ⊥
        wrong h = cc
    go false true true e false md m fine = absurd (wrong fine)
      where
        wrong : true ≡ false → ⊥
        wrong h = cc

pub calculated-valid : (o : Operation) (set_flags : Bool) (rn rd : ℕ) (x : Shifted) (s : ArmState) → IsValid s → FitsShifted x → bad_return o set_flags rd s ≡ false
    → IsValid (calculated o set_flags rn rd x s)
unfolding calculated
calculated-valid o set_flags rn rd x s h f fine =
    completed-valid o set_flags rd (computed o (operand_at s rn) x.value x.carry s.cpsr) s h
    (computed-fits o (operand_at s rn) x.value x.carry s.cpsr (operand-small s rn (nearly s h)) f.value f.carry) fine

-- ---- multiplies

pub multiplied-valid : (accumulate set_flags : Bool) (rd rn rs rm : ℕ) (s : ArmState) → IsValid s → rd ≢ 15 → IsValid (multiplied accumulate set_flags rd rn rs rm s)
unfolding multiplied
multiplied-valid accumulate set_flags rd rn rs rm s h other = go set_flags
  where
    v : ℕ
    v = (register s rm * register s rs + (if accumulate then register s rn else 0)) % 2 ^ 32

    small : (register s rm * register s rs + (if accumulate then register s rn else 0)) % 2 ^ 32 < 2 ^ 32
    small = mod-lt (register s rm * register s rs + (if accumulate then register s rn else 0)) (omega arith)

    go : (b : Bool) → IsValid (if b then with_register (kept_flags s ((register s rm * register s rs + (if accumulate then register s rn else 0)) % 2 ^ 32)) rd ((register s rm * register s rs + (if accumulate then register s rn else 0)) % 2 ^ 32)
        else with_register s rd ((register s rm * register s rs + (if accumulate then register s rn else 0)) % 2 ^ 32))
    go true = valid-register (kept_flags s _) rd _ (valid-flags s _ (carry_in s.cpsr) (overflow_in s.cpsr) h (omega arith) (omega arith)) small other
    go false = valid-register s rd _ h small other

long-flags : (s : ArmState) (v : ℕ) → IsValid s → v < 2 ^ 64 → IsValid (long_flags s v)
long-flags s v h small = valid-status s _ h (go (v == 0)) (omega arith)
  where
    go : (b : Bool) → v / 2 ^ 63 * 2 ^ 31 + (if b then 1 else 0) * 2 ^ 30 + s.cpsr / 2 ^ 29 % 2 * 2 ^ 29 + s.cpsr / 2 ^ 28 % 2 * 2 ^ 28 + s.cpsr % 2 ^ 28 < 2 ^ 32
    go true = omega arith
    go false = omega arith

pub multiplied_long-valid : (signed accumulate set_flags : Bool) (high low rs rm : ℕ) (s : ArmState) → IsValid s → high ≢ 15 → low ≢ 15
    → IsValid (multiplied_long signed accumulate set_flags high low rs rm s)
unfolding multiplied_long
multiplied_long-valid signed accumulate set_flags high low rs rm s h other_high other_low = go set_flags v (mod-lt _ (omega arith))
  where
    v : ℕ
    v = (long_product signed (register s rm) (register s rs) + (if accumulate then register s high * 2 ^ 32 + register s low else 0)) % 2 ^ 64

    go : (b : Bool) (v : ℕ) → v < 2 ^ 64 → IsValid (with_register (with_register (if b then long_flags s v else s) low (v % 2 ^ 32)) high (v / 2 ^ 32))
    go true v small = valid-register _ high (v / 2 ^ 32) (valid-register (long_flags s v) low (v % 2 ^ 32) (long-flags s v h small) (omega arith) other_low) (omega arith) other_high
    go false v small = valid-register _ high (v / 2 ^ 32) (valid-register s low (v % 2 ^ 32) h (omega arith) other_low) (omega arith) other_high

-- ---- exceptions

entry-status : (e : Exception) (status : ℕ) → IsStatus (entry_status e status)
entry-status e status = record { is_word = small e; reserved = none e }
  where
    small : (e : Exception) → entry_status e status < 2 ^ 32
    small exception.Undefined = omega arith
    small exception.SoftwareInterrupt = omega arith
    small exception.PrefetchAbort = omega arith
    small exception.DataAbort = omega arith
    small exception.Irq = omega arith
    small exception.Fiq = omega arith

    none : (e : Exception) → bits (entry_status e status) 8 20 ≡ 0
    none exception.Undefined = omega arith
    none exception.SoftwareInterrupt = omega arith
    none exception.PrefetchAbort = omega arith
    none exception.DataAbort = omega arith
    none exception.Irq = omega arith
    none exception.Fiq = omega arith

entry-mode : (e : Exception) (status : ℕ) → has_mode (entry_status e status) ≡ true
unfolding has_mode mode_named
entry-mode exception.Undefined status = let n : bits (entry_status exception.Undefined status) 0 5 ≡ 0x1B = omega arith in rw n refl
entry-mode exception.SoftwareInterrupt status = let n : bits (entry_status exception.SoftwareInterrupt status) 0 5 ≡ 0x13 = omega arith in rw n refl
entry-mode exception.PrefetchAbort status = let n : bits (entry_status exception.PrefetchAbort status) 0 5 ≡ 0x17 = omega arith in rw n refl
entry-mode exception.DataAbort status = let n : bits (entry_status exception.DataAbort status) 0 5 ≡ 0x17 = omega arith in rw n refl
entry-mode exception.Irq status = let n : bits (entry_status exception.Irq status) 0 5 ≡ 0x12 = omega arith in rw n refl
entry-mode exception.Fiq status = let n : bits (entry_status exception.Fiq status) 0 5 ≡ 0x11 = omega arith in rw n refl

vector-small : (e : Exception) → vector e < 2 ^ 32
vector-small exception.Undefined = omega arith
vector-small exception.SoftwareInterrupt = omega arith
vector-small exception.PrefetchAbort = omega arith
vector-small exception.DataAbort = omega arith
vector-small exception.Irq = omega arith
vector-small exception.Fiq = omega arith

vector-even : (e : Exception) → vector e % 2 ≡ 0
vector-even exception.Undefined = refl
vector-even exception.SoftwareInterrupt = refl
vector-even exception.PrefetchAbort = refl
vector-even exception.DataAbort = refl
vector-even exception.Irq = refl
vector-even exception.Fiq = refl

pub entered-valid : (e : Exception) (link : ℕ) (s : ArmState) → IsValid s → link < 2 ^ 32 → IsValid (entered e link s)
unfolding entered
entered-valid e link s h small =
    let first = with_cpsr s (entry_status e s.cpsr) in
    let switched : IsNearlyValid (with_cpsr s (entry_status e s.cpsr)) = nearly-cpsr s (entry_status e s.cpsr) (banked s (nearly s h)) (entry-status e s.cpsr) (entry-mode e s.cpsr) in
    let kept : IsNearlyValid (with_saved first s.cpsr) = nearly-saved first s.cpsr switched h.status in
    valid-at (with_register (with_saved first s.cpsr) 14 link) (vector e) (nearly-register (with_saved first s.cpsr) 14 link kept small) (vector-small e) (λ t. vector-even e)

-- ---- the ends of steps

-- an instruction under way with valid registers and bytes in memory
pub record IsGood (w : Working) : Type 0 where
  pub core : IsValid w.core
  pub memory : (a : ℕ) → w.memory a < 256

pub ran-good : (w : Working) → IsGood w → IsValidState (ran w).state
unfolding ran
ran-good w h = record { core = h.core; memory = h.memory }

pub hosted-good : (n : ℕ) (w : Working) → IsGood w → IsValidState (hosted n w).state
unfolding hosted
hosted-good n w h = record { core = h.core; memory = h.memory }

pub took-good : (e : Exception) (link : ℕ) (w : Working) → IsGood w → link < 2 ^ 32 → IsValidState (took e link w).state
unfolding took
took-good e link w h small = record { core = entered-valid e link w.core h.core small; memory = h.memory }

pub raised-good : (e : Exception) (w : Working) → IsGood w → IsValidState (raised e w).state
unfolding raised
raised-good e w h = took-good e (register w.core 15) w h (register-small w.core 15 (nearly w.core h.core))

pub given_back-good : (u : Under) (w : Working) → IsValidState u.before → IsValidState (given_back u w).state
unfolding given_back
given_back-good u w h = h

pub aborted-good : (u : Under) (w : Working) → IsValidState u.before → IsGood w → IsValidState (aborted u w).state
unfolding aborted
aborted-good u w h g = took-good exception.DataAbort ((register u.before.core 15 + 8) % 2 ^ 32) (record w { core = u.before.core }) (record { core = h.core; memory = g.memory }) (omega arith)

-- ---- loads and stores

pub read-small : (board : Board) (w : Working) (a : ℕ) (width : Width) → IsGood w → read_at board w a width < 256 ^ bytes_in width
unfolding read_at
read-small board w a width g = go (in_memory board a (bytes_in width)) width
  where
    bytes : (n : ℕ) → length (load w.memory a n) ≡ n → number_of (load w.memory a n) < 256 ^ n
    bytes n e = let P : ℕ → Type 0 = λ k. number_of (load w.memory a n) < 256 ^ k in subst P e (number_of-lt (load w.memory a n) (λ i. loaded-byte n a i))
      where
        loaded-byte : (n a i : ℕ) → get_or (load w.memory a n) i 0 < 256
        loaded-byte zero a i = omega arith
        loaded-byte (suc n) a zero = g.memory a
        loaded-byte (suc n) a (suc i) = loaded-byte n (suc a) i

    go : (b : Bool) (width : Width) → (if b then number_of (load w.memory a (bytes_in width)) else slice_index w.answers 0 % 256 ^ bytes_in width) < 256 ^ bytes_in width
    go true Byte = bytes 1 refl
    go true Half = bytes 2 refl
    go true Word = bytes 4 refl
    go false Byte = omega arith
    go false Half = omega arith
    go false Word = omega arith
