-- What the rest of the functions on registers make beside other IRQ registers, and how a step ends there.
use Rattle.std.proofs.Common.{◌≡◌, ◌≢◌, ℕ, ◌+◌, ◌-◌, ◌%◌, ◌^◌, ◌==◌, Bool, true, false, List, refl, sym, ap, ◌∙◌, arith, if◌then◌else◌, get_or-set_other}
use Rattle.std.specs.Prelude.{slice_set, nat_lt}
use Rattle.std.proofs.lemmas.List.{set_comm}
use Rattle.sdt_word.specs.Numbers.{bits}
use Rattle.arm7_model.specs.declared.state.ArmState.{ArmState}
use Rattle.arm7_model.specs.declared.event.Exception.{Exception}
use Rattle.arm7_model.specs.declared.event.Exception.TheVariants as exception
use Rattle.arm7_model.specs.Accesses.{Working}
use Rattle.arm7_model.specs.Blocks.{listed_at, with_block_base, with_listed, with_loaded_pc}
use Rattle.arm7_model.specs.Outcomes.{Under, aborted, entered, entry_status, mode_of, raised, took, vector}
use Rattle.arm7_model.specs.Registers.{bank_in, mode_number, register, restored, stored_at, user_register, with_cpsr, with_pc, with_register, with_result, with_saved, with_user_register}
use Rattle.kit_laws.specs.Beside.{Scratch, beside_step, beside_under, besides, with_irq}
use Rattle.kit_laws.proofs.IrqRegisters.{irq-restored, irq-with_cpsr, irq-with_saved, other-bank}

pub irq-with_pc : (k : Scratch) (s : ArmState) (v : ℕ) → with_pc (with_irq k s) v ≡ with_irq k (with_pc s v)
unfolding with_irq with_pc with_register
irq-with_pc k s v = refl

pub irq-with_result : (k : Scratch) (s : ArmState) (n v : ℕ) → with_result (with_irq k s) n v ≡ with_irq k (with_result s n v)
unfolding with_irq with_result with_pc with_register
irq-with_result k s n v = go (n == 15)
  where
    go : (b : Bool) → (if b then with_pc (with_irq k s) v else with_register (with_irq k s) n v) ≡ with_irq k (if b then with_pc s v else with_register s n v)
    go true = refl
    go false = refl

pub irq-stored_at : (k : Scratch) (s : ArmState) (n : ℕ) → stored_at (with_irq k s) n ≡ stored_at s n
unfolding with_irq stored_at register
irq-stored_at k s n = refl

irq-user_register : (k : Scratch) (s : ArmState) (n : ℕ) → user_register (with_irq k s) n ≡ user_register s n
unfolding with_irq user_register stored_at register
irq-user_register k s n =
    rw (get_or-set_other s.banks.r13 2 0 k.r13 0 (omega arith), get_or-set_other s.banks.r14 2 0 k.r14 0 (omega arith)) refl

pub irq-listed_at : (k : Scratch) (user : Bool) (s : ArmState) (n : ℕ) → listed_at user (with_irq k s) n ≡ listed_at user s n
unfolding listed_at
irq-listed_at k true s n = irq-user_register k s n
irq-listed_at k false s n = irq-stored_at k s n

irq-with_user : (k : Scratch) (s : ArmState) (n v : ℕ) → with_user_register (with_irq k s) n v ≡ with_irq k (with_user_register s n v)
unfolding with_irq with_user_register with_register
irq-with_user k s n v =
    rw (set_comm s.banks.r13 2 0 k.r13 v (omega arith), set_comm s.banks.r14 2 0 k.r14 v (omega arith)) (go (n == 13) (n == 14) (nat_lt n 8) (bank_in s.cpsr == 1))
  where
    go : (a b c d : Bool)
        → (if a then with_irq k (record s { banks = record s.banks { r13 = slice_set s.banks.r13 0 v } }) else
        if b then with_irq k (record s { banks = record s.banks { r14 = slice_set s.banks.r14 0 v } }) else
        if c then with_irq k (with_register s n v) else
        if d then with_irq k (record s { banks = record s.banks { high = slice_set s.banks.high (n - 8) v } }) else with_irq k (with_register s n v))
        ≡ with_irq k (if a then record s { banks = record s.banks { r13 = slice_set s.banks.r13 0 v } } else
        if b then record s { banks = record s.banks { r14 = slice_set s.banks.r14 0 v } } else
        if c then with_register s n v else
        if d then record s { banks = record s.banks { high = slice_set s.banks.high (n - 8) v } } else with_register s n v)
    go true b c d = refl
    go false true c d = refl
    go false false true d = refl
    go false false false true = refl
    go false false false false = refl

pub irq-with_listed : (k : Scratch) (user : Bool) (s : ArmState) (n v : ℕ) → with_listed user (with_irq k s) n v ≡ with_irq k (with_listed user s n v)
unfolding with_listed with_register with_irq
irq-with_listed k true s n v = irq-with_user k s n v
irq-with_listed k false s n v = refl

pub listed-cpsr : (user : Bool) (s : ArmState) (n v : ℕ) → (with_listed user s n v).cpsr ≡ s.cpsr
unfolding with_listed with_register with_user_register
listed-cpsr false s n v = refl
listed-cpsr true s n v = go (n == 13) (n == 14) (nat_lt n 8) (bank_in s.cpsr == 1)
  where
    go : (a b c d : Bool)
        → (if a then record s { banks = record s.banks { r13 = slice_set s.banks.r13 0 v } } else
        if b then record s { banks = record s.banks { r14 = slice_set s.banks.r14 0 v } } else
        if c then with_register s n v else
        if d then record s { banks = record s.banks { high = slice_set s.banks.high (n - 8) v } } else with_register s n v).cpsr ≡ s.cpsr
    go true b c d = refl
    go false true c d = refl
    go false false true d = refl
    go false false false true = refl
    go false false false false = refl

pub irq-block_base : (k : Scratch) (write_back : Bool) (n v : ℕ) (s : ArmState) → with_block_base write_back n v (with_irq k s) ≡ with_irq k (with_block_base write_back n v s)
unfolding with_register with_irq
irq-block_base k true n v s = refl
irq-block_base k false n v s = refl

pub block_base-cpsr : (write_back : Bool) (n v : ℕ) (s : ArmState) → (with_block_base write_back n v s).cpsr ≡ s.cpsr
unfolding with_register
block_base-cpsr true n v s = refl
block_base-cpsr false n v s = refl

pub irq-loaded_pc : (k : Scratch) (user : Bool) (s : ArmState) → bank_in s.cpsr ≢ 2 → bank_in (with_loaded_pc user s).cpsr ≢ 2
    → with_loaded_pc user (with_irq k s) ≡ with_irq k (with_loaded_pc user s)
unfolding with_loaded_pc with_pc with_register restored with_cpsr with_irq register
irq-loaded_pc k false s f t = irq-with_pc k s (register s 15)
irq-loaded_pc k true s f t = ap (λ (c : ArmState). with_pc c (register s 15)) (irq-restored k s f t) ∙ irq-with_pc k (restored s) (register s 15)

-- ---- exceptions

pub irq-entered : (k : Scratch) (e : Exception) (link : ℕ) (s : ArmState) → bank_in s.cpsr ≢ 2 → bank_in (entry_status e s.cpsr) ≢ 2
    → entered e link (with_irq k s) ≡ with_irq k (entered e link s)
unfolding entered with_cpsr with_irq with_register
irq-entered k e link s f t =
    let after : ArmState = with_cpsr s (entry_status e s.cpsr) in
    ap (λ (c : ArmState). with_register (with_register c 14 link) 15 (vector e))
    (ap (λ (c : ArmState). with_saved c s.cpsr) (irq-with_cpsr k s (entry_status e s.cpsr) f t)
    ∙ irq-with_saved k after s.cpsr t)

-- no exception but IRQ leads to IRQ mode
entry-mode : (e : Exception) (x : ℕ) → bits (entry_status e x) 0 5 ≡ mode_number (mode_of e)
entry-mode exception.Undefined x = omega arith
entry-mode exception.SoftwareInterrupt x = omega arith
entry-mode exception.PrefetchAbort x = omega arith
entry-mode exception.DataAbort x = omega arith
entry-mode exception.Irq x = omega arith
entry-mode exception.Fiq x = omega arith

pub entry-bank : (e : Exception) (x : ℕ) → mode_number (mode_of e) ≢ 0x12 → bank_in (entry_status e x) ≢ 2
entry-bank e x h = other-bank (entry_status e x) (λ i. h (sym (entry-mode e x) ∙ i))

module _ (work : ℕ) (k : Scratch) (answers : List ℕ) where
  pub took-beside : (e : Exception) (link : ℕ) (w : Working) → bank_in w.core.cpsr ≢ 2 → mode_number (mode_of e) ≢ 0x12
      → took e link (besides work k answers w) ≡ beside_step work k (took e link w)
  unfolding took
  took-beside e link w f other = rw (irq-entered k e link w.core f (entry-bank e w.core.cpsr other)) refl

  pub raised-beside : (e : Exception) (w : Working) → bank_in w.core.cpsr ≢ 2 → mode_number (mode_of e) ≢ 0x12
      → raised e (besides work k answers w) ≡ beside_step work k (raised e w)
  unfolding raised register with_irq
  raised-beside e w f other = took-beside e (register w.core 15) w f other

  pub aborted-beside : (u : Under) (w : Working) → bank_in u.before.core.cpsr ≢ 2
      → aborted (beside_under work k u) (besides work k answers w) ≡ beside_step work k (aborted u w)
  unfolding aborted register with_irq
  aborted-beside u w f = took-beside exception.DataAbort ((register u.before.core 15 + 8) % 2 ^ 32) (record w { core = u.before.core }) f (omega arith)
