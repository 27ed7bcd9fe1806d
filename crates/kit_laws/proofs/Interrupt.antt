-- One interrupt: its taking and the handler's eleven steps lead back beside the state before.
use Rattle.std.proofs.Common.{◌≡◌, ◌≢◌, ℕ, suc, ◌+◌, ◌-◌, ◌%◌, ◌^◌, ◌<◌, ◌≤◌, ◌==◌, Bool, true, false, List, [], ◌∷◌, ◌++◌, Some, length, refl, sym, ap, subst, ◌∙◌, arith, if◌then◌else◌, inl, inr}
use Rattle.std.specs.Prelude.{slice_index, ◌||◌, get_or}
use Rattle.std.proofs.lemmas.List.{set-set, set-get_or}
use Rattle.sdt_word.specs.Bytes.{bytes_of, number_of, word}
use Rattle.sdt_word.proofs.BytesLemmas.{number_of-bytes_of}
use Rattle.arm7_model.specs.declared.state.ArmState.{ArmState}
use Rattle.arm7_model.specs.declared.event.Event.TheVariants as event
use Rattle.arm7_model.specs.declared.event.Exception.TheVariants as exception
use Rattle.arm7_model.specs.Memory.{Board, Bytes, store}
use Rattle.arm7_model.specs.Outcomes.{Stepped, entry_status, took}
use Rattle.arm7_model.specs.Registers.{IsValid, State, as_pc, bank_in, has_mode, is_thumb, register, restored, saved, with_pc, with_register}
use Rattle.arm7_model.specs.Step.{Levels, Step, Unread, beginning, can_fetch, fetches, interrupt, stepped}
use Rattle.arm7_model.proofs.MemoryLemmas.{store-append, store-at, word-store_apart}
use Rattle.arm7_model.proofs.TransferLemmas.{Mapped, Writable}
use Rattle.arm7_model.proofs.Placed.{store_words}
use Rattle.kit_laws.specs.Handler.{IsKit}
use Rattle.kit_laws.specs.Aligned.{IsInHandler}
use Rattle.kit_laws.specs.Beside.{Scratch, beside, with_irq}
use Rattle.kit_laws.proofs.IrqEntry.{Entry, entry, in_handler, irq-bank}
use Rattle.kit_laws.proofs.HandlerSteps.{IsMasked, OneStep, at, step-18, step-20, step-24, step-28, step-2C, step-30, step-34, step-38, step-3C, step-40, step-44}

-- n steps in the handler lead from s to t: IRQ mode until the last
pub data Handles (b : Board) (work ack : ℕ) : ℕ → State → State → Type 0 where
  last : {s : State} (x : Stepped) → OneStep b s x → IsInHandler work ack x → bank_in s.core.cpsr ≡ 2 → Handles b work ack 1 s x.state
  on : {s t : State} {n : ℕ} (x : Stepped) → OneStep b s x → IsInHandler work ack x → bank_in s.core.cpsr ≡ 2 → Handles b work ack n x.state t → Handles b work ack (suc n) s t

-- ---- memory

pub stored-word : (m : Bytes) (a v : ℕ) → v < 2 ^ 32 → word (store m a (bytes_of v 4)) a ≡ v
stored-word m a v small =
    ap number_of (same (bytes_of v 4) refl) ∙ number_of-bytes_of v 4 small
  where
    same : (bs : List ℕ) → length bs ≡ 4 → (store m a bs a ∷ store m a bs (suc a) ∷ store m a bs (suc (suc a)) ∷ store m a bs (suc (suc (suc a))) ∷ [])
        ≡ (get_or bs 0 0 ∷ get_or bs 1 0 ∷ get_or bs 2 0 ∷ get_or bs 3 0 ∷ [])
    same bs n =
        let p0 : store m a bs a ≡ get_or bs 0 0 = ap (store m a bs) (omega arith) ∙ store-at m a bs 0 (omega arith) in
        let p1 : store m a bs (suc a) ≡ get_or bs 1 0 = ap (store m a bs) (omega arith) ∙ store-at m a bs 1 (omega arith) in
        let p2 : store m a bs (suc (suc a)) ≡ get_or bs 2 0 = ap (store m a bs) (omega arith) ∙ store-at m a bs 2 (omega arith) in
        let p3 : store m a bs (suc (suc (suc a))) ≡ get_or bs 3 0 = ap (store m a bs) (omega arith) ∙ store-at m a bs 3 (omega arith) in
        rw (p0, p1, p2, p3) refl

-- what the handler leaves
abbrev pub scratch_of : ℕ → State → Scratch
scratch_of work s = record {
  r13 = work + 8;
  r14 = (register s.core 15 + 4) % 2 ^ 32;
  saved = s.core.cpsr;
  bytes = bytes_of (slice_index s.core.r 0) 4 ++ (bytes_of (slice_index s.core.r 1) 4 ++ bytes_of ((word s.memory (work + 8) + 1) % 2 ^ 32) 4);
  twelve = refl;
}

module _ (b : Board) (work ack : ℕ) (s : State) (kit : IsKit b work ack s.memory) (v : IsValid s.core) (mode : bank_in s.core.cpsr ≢ 2) (fine : can_fetch s.core ≡ true) where
  abbrev link : ℕ
  link = (register s.core 15 + 4) % 2 ^ 32

  abbrev status : ℕ
  status = entry_status exception.Irq s.core.cpsr

  masked : IsMasked (entry_status exception.Irq s.core.cpsr)
  masked = record { arm = omega arith; irq = omega arith }

  pc-same : as_pc s.core.cpsr (register s.core 15) ≡ register s.core 15
  unfolding as_pc can_fetch register
  pc-same = go (is_thumb s.core.cpsr) v.even fine
    where
      pc : ℕ
      pc = slice_index s.core.r 15

      go : (t : Bool) → (t ≡ true → pc % 2 ≡ 0) → (t || pc % 4 == 0) ≡ true → (if t then pc - pc % 2 else pc - pc % 4) ≡ pc
      go true e h = let even = e refl in omega arith
      go false e h = grind arith

  module _ (e : Entry s.core) where
    -- memory behind STM, and behind the count
    abbrev m1 : Bytes
    m1 = store_words s.memory work (e.R 0 ∷ e.R 1 ∷ [])

    abbrev m2 : Bytes
    m2 = store m1 (word m1 0x48) (bytes_of ((word m1 (word m1 0x48) + 1) % 2 ^ 32) 4)

    kept-1 : (x : ℕ) → x + 4 ≤ 0x50 → word m1 x ≡ word s.memory x
    kept-1 x h =
        let low = kit.low in
        word-store_apart (store s.memory work (bytes_of (e.R 0) 4)) (work + 4) (bytes_of (e.R 1) 4) x (inl (omega arith))
        ∙ word-store_apart s.memory work (bytes_of (e.R 0) 4) x (inl (omega arith))

    top : word m1 0x48 ≡ work + 8
    top = kept-1 0x48 (omega arith) ∙ kit.word_48

    count : word m1 (work + 8) ≡ word s.memory (work + 8)
    count =
        word-store_apart (store s.memory work (bytes_of (e.R 0) 4)) (work + 4) (bytes_of (e.R 1) 4) (work + 8) (inr (omega arith))
        ∙ word-store_apart s.memory work (bytes_of (e.R 0) 4) (work + 8) (inr (omega arith))

    whole-2 : m2 ≡ store m1 (work + 8) (bytes_of ((word s.memory (work + 8) + 1) % 2 ^ 32) 4)
    whole-2 = ap (λ (x : ℕ). store m1 x (bytes_of ((word m1 x + 1) % 2 ^ 32) 4)) top ∙ ap (λ (n : ℕ). store m1 (work + 8) (bytes_of ((n + 1) % 2 ^ 32) 4)) count

    kept-2 : (x : ℕ) → x + 4 ≤ 0x50 → word m2 x ≡ word s.memory x
    kept-2 x h =
        let low = kit.low in
        ap (λ (m : Bytes). word m x) whole-2 ∙ word-store_apart m1 (work + 8) (bytes_of ((word s.memory (work + 8) + 1) % 2 ^ 32) 4) x (inl (omega arith)) ∙ kept-1 x h

    small-0 : e.R 0 < 2 ^ 32
    small-0 = rw e.same_0 (v.visible.each 0)

    small-1 : e.R 1 < 2 ^ 32
    small-1 = rw e.same_1 (v.visible.each 1)

    first : word m2 work ≡ e.R 0
    first =
        ap (λ (m : Bytes). word m work) whole-2 ∙ word-store_apart m1 (work + 8) (bytes_of ((word s.memory (work + 8) + 1) % 2 ^ 32) 4) work (inl (omega arith))
        ∙ word-store_apart (store s.memory work (bytes_of (e.R 0) 4)) (work + 4) (bytes_of (e.R 1) 4) work (inl (omega arith))
        ∙ stored-word s.memory work (e.R 0) small-0

    second : word m2 (work + 4) ≡ e.R 1
    second =
        ap (λ (m : Bytes). word m (work + 4)) whole-2 ∙ word-store_apart m1 (work + 8) (bytes_of ((word s.memory (work + 8) + 1) % 2 ^ 32) 4) (work + 4) (inl (omega arith))
        ∙ stored-word (store s.memory work (bytes_of (e.R 0) 4)) (work + 4) (e.R 1) small-1

    memory-is : m2 ≡ store s.memory work (scratch_of work s).bytes
    memory-is =
        let x = bytes_of (slice_index s.core.r 0) 4 in
        let y = bytes_of (slice_index s.core.r 1) 4 in
        let z = bytes_of ((word s.memory (work + 8) + 1) % 2 ^ 32) 4 in
        whole-2
        ∙ ap (λ (n : ℕ). store (store_words s.memory work (n ∷ e.R 1 ∷ [])) (work + 8) z) e.same_0
        ∙ ap (λ (n : ℕ). store (store_words s.memory work (slice_index s.core.r 0 ∷ n ∷ [])) (work + 8) z) e.same_1
        ∙ ap (λ (a : ℕ). store (store (store s.memory work x) (work + 4) y) a z) (omega arith)
        ∙ sym (store-append (store s.memory work x) (work + 4) y z)
        ∙ sym (store-append s.memory work x (y ++ z))

    core-is : (x y : ℕ) → x ≡ e.R 0 → y ≡ e.R 1
        → with_pc (restored (at b e.rest e.R link status masked kit.code x y (work + 8) 0x48 m2).core) (register s.core 15) ≡ with_irq (scratch_of work s) s.core
    unfolding with_pc with_register register with_irq
    core-is x y f g =
        let pc = slice_index s.core.r 15 in
        rw (f, g) (ap (λ (c : ArmState). with_pc c pc) (e.returns (work + 8) link 0x48)
        ∙ rw (pc-same, set-set s.core.r 15 0x48 pc, set-get_or s.core.r 15 0) refl)

    saved-is : (x y sp pc : ℕ) (m : Bytes) → saved (at b e.rest e.R link status masked kit.code x y sp pc m).core ≡ s.core.cpsr
    unfolding saved
    saved-is x y sp pc m = e.saves

    handles : Handles b work ack 11 (record { core = in_handler e.rest e.R e.sp link 0x18 status; memory = s.memory }) (beside work (scratch_of work s) s)
    unfolding register
    handles =
        let irq = irq-bank s.core.cpsr in
        let code = kit.code in
        let ack-is : word m1 0x4C ≡ ack = kept-1 0x4C (omega arith) ∙ kit.word_4c in
        let tops = top in let whole = kit.whole in let high = kit.high in
        let count-mapped : Mapped b (word m1 0x48) 4 = λ i lt. ap b.memory (omega arith) ∙ kit.ram (8 + i) (omega arith) in
        let count-free : Writable b (word m1 0x48) 4 = λ i lt. ap b.read_only (omega arith) ∙ kit.free (8 + i) (omega arith) in
        let small-pc : slice_index s.core.r 15 < 2 ^ 32 = v.visible.each 15 in
        let leaves : record { core = with_pc (restored (at b e.rest e.R link status masked code (word m2 work) (word m2 (work + 4)) (work + 8) 0x48 m2).core) (slice_index s.core.r 15); memory = m2 } ≡ beside work (scratch_of work s) s =
        ap (λ (c : ArmState). record { core = c; memory = m2 }) (core-is (word m2 work) (word m2 (work + 4)) first second)
        ∙ ap (λ (m : Bytes). record { core = with_irq (scratch_of work s) s.core; memory = m }) memory-is in
        subst (Handles b work ack 11 (record { core = in_handler e.rest e.R e.sp link 0x18 status; memory = s.memory })) leaves
        (on _ (step-18 b e.rest e.R link status masked code (e.R 0) (e.R 1) e.sp s.memory kit.word_18) (record { ran = refl; accesses = (tt, tt) }) irq
        (on _ (step-20 b e.rest e.R link status masked code (e.R 0) (e.R 1) e.sp s.memory kit.word_20) (record { ran = refl; accesses = (tt, (tt, tt)) }) irq
        (on _ (step-24 b e.rest e.R link status masked code (e.R 0) (e.R 1) (word s.memory 0x48) work s.memory kit.word_24 kit.word_48 whole high kit.ram kit.free) (record { ran = refl; accesses = (tt, ((refl, inl refl), ((refl, inr (inl refl)), tt))) }) irq
        (on _ (step-28 b e.rest e.R link status masked code (e.R 0) (e.R 1) work m1 (kept-1 0x28 (omega arith) ∙ kit.word_28)) (record { ran = refl; accesses = (tt, (tt, tt)) }) irq
        (on _ (step-2C b e.rest e.R link status masked code (word m1 0x4C) (e.R 1) work m1 (kept-1 0x2C (omega arith) ∙ kit.word_2c)
        (rw ack-is kit.ack_small) (rw ack-is kit.ack_whole) (rw ack-is kit.may) (rw ack-is kit.device)) (record { ran = refl; accesses = (tt, ((refl, inr (inr (inr ack-is))), tt)) }) irq
        (on _ (step-30 b e.rest e.R link status masked code (word m1 0x4C) (e.R 1) work m1 (kept-1 0x30 (omega arith) ∙ kit.word_30)) (record { ran = refl; accesses = (tt, (tt, tt)) }) irq
        (on _ (step-34 b e.rest e.R link status masked code (word m1 0x48) (e.R 1) work m1 (kept-1 0x34 (omega arith) ∙ kit.word_34) (omega arith) (omega arith) count-mapped) (record { ran = refl; accesses = (tt, (tt, tt)) }) irq
        (on _ (step-38 b e.rest e.R link status masked code (word m1 0x48) (word m1 (word m1 0x48)) work m1 (kept-1 0x38 (omega arith) ∙ kit.word_38)) (record { ran = refl; accesses = (tt, tt) }) irq
        (on _ (step-3C b e.rest e.R link status masked code (word m1 0x48) ((word m1 (word m1 0x48) + 1) % 2 ^ 32) work m1 (kept-1 0x3C (omega arith) ∙ kit.word_3c) (omega arith) (omega arith) count-mapped count-free) (record { ran = refl; accesses = (tt, ((refl, inr (inr (inl top))), tt)) }) irq
        (on _ (step-40 b e.rest e.R link status masked code (word m1 0x48) ((word m1 (word m1 0x48) + 1) % 2 ^ 32) work m2 (kept-2 0x40 (omega arith) ∙ kit.word_40) whole high kit.ram) (record { ran = refl; accesses = (tt, (tt, (tt, tt))) }) irq
        (last _ (step-44 b e.rest e.R link status masked code (word m2 work) (word m2 (work + 4)) (work + 8) (slice_index s.core.r 15) m2 (kept-2 0x44 (omega arith) ∙ kit.word_44) irq
        (ap has_mode (saved-is (word m2 work) (word m2 (work + 4)) (work + 8) 0x48 m2) ∙ v.mode) small-pc refl) (record { ran = refl; accesses = (tt, tt) }) irq)))))))))))

  -- the taking, and behind it the handler's steps
  pub taken : (lines : Levels) (answers : List ℕ) → interrupt lines s.core.cpsr ≡ Some exception.Irq
      → (x : Stepped) × Step b s lines answers x × (x.event ≡ event.Took exception.Irq) × (x.accesses ≡ []) × Handles b work ack 11 x.state (beside work (scratch_of work s) s)
  unfolding stepped fetches took register
  taken lines answers up =
      let e = entry s.core v mode in (
        took exception.Irq link (beginning s answers),
        (Unread, (λ f. absurd (never (rw up at f))), sym (rw up refl)),
        refl,
        refl,
        subst (λ (c : ArmState). Handles b work ack 11 (record { core = c; memory = s.memory }) (beside work (scratch_of work s) s)) (sym (e.enters link)) (handles e),
      )
    where
      never : false ≡ true → ⊥
      never h = cc
