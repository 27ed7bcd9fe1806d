-- Code in memory, and what a step of it does, for each instruction that the startup code, the zero-init
-- code, the relocator and an AIF's header are made of. Each lemma leads from the state before a word: a
-- run that goes on from the state after it is a run of one step more.
use Rattle.std.proofs.Common.{◌≡◌, ◌≢◌, ℕ, zero, suc, ◌+◌, ◌-◌, ◌*◌, ◌/◌, ◌%◌, ◌^◌, ◌<◌, ◌≤◌, Bool, true, false, ◌==◌, if◌then◌else◌, List, [], ◌∷◌, length, get_or, refl, sym, ap, subst, ◌∙◌, arith, ◌⊎◌, inl, inr}
use Rattle.std.specs.Prelude.{slice_index}
use Rattle.sdt_word.specs.Numbers.{bit, sign_extended}
use Rattle.sdt_word.specs.Bytes.{bytes_of, number_of, word}
use Rattle.sdt_word.proofs.BytesLemmas.{length-bytes_of, get_or-bytes_of-lt}
use Rattle.sdt_word.specs.declared.codes.Condition.{Condition}
use Rattle.sdt_word.specs.declared.codes.Condition.TheVariants.{Eq, Ne, Cc, Hi, Al}
use Rattle.sdt_word.specs.declared.codes.ShiftKind.TheVariants.{Lsl}
use Rattle.sdt_word.specs.declared.codes.Width.TheVariants.{Word}
use Rattle.arm_isa.specs.declared.instr.ArmInstr.{ArmInstr}
use Rattle.arm_isa.specs.declared.instr.ArmInstr.TheVariants.{SoftwareInterrupt, DataImmediate, DataShifted, TransferImmediate, TransferShifted, TransferBlock, Branch, BranchExchange}
use Rattle.arm_isa.specs.declared.instr.Operation.TheVariants.{Add, Sub, Mov, Cmp, Cmn}
use Rattle.arm_isa.specs.ArmRows.{ReadsArm}
use Rattle.arm7_model.specs.declared.state.ArmState.{ArmState}
use Rattle.arm7_model.specs.declared.event.Event.TheVariants as event
use Rattle.arm7_model.specs.Memory.{Bytes, Board, store}
use Rattle.arm7_model.specs.Registers.{State, register, is_thumb, as_pc}
use Rattle.arm7_model.specs.Arithmetic.{passes, with_flags}
use Rattle.arm7_model.specs.Accesses.{Access, Fetch, Working}
use Rattle.arm7_model.specs.Branches.{status_with_thumb}
use Rattle.arm7_model.specs.ArmStep.{arm_condition, arm_done}
use Rattle.arm7_model.proofs.Opens.{row_opens}
use Rattle.arm7_model.proofs.Steps.{IsQuiet, quiet-with_flags, state_of, arm_step, compared, added}
use Rattle.arm7_model.proofs.Leading.{Leads, here, on, lasting}
use Rattle.arm7_model.proofs.Placed.{store_words, loads_at, stores_at}
use Rattle.arm7_model.proofs.MemoryLemmas.{not-eq, load-same, store-below, store-above, bytes-store}
use Rattle.arm7_model.proofs.TransferLemmas.{Mapped, Writable, in_memory-mapped, loaded-word, stored-word, block_loaded-words, block_stored-words}
use Rattle.sdt_word.proofs.NumbersLemmas.{rotated-none as rotated-zero}
use Rattle.std.proofs.lemmas.Bool.{eqb-false}
use Rattle.boot_code.specs.Startup.{AreMasked, IsEntered}
use Rattle.boot_code.specs.Aif.{HasCode}
use Rattle.boot_code.specs.Words.{ReadAs}
use Rattle.boot_code.specs.Safety.{Lies, IsSafe, AreSafe}

-- ---- code, and the registers while it runs

-- what is around the code: the board, where it may access, and what none of its steps changes
pub record World : Type 1 where
  pub board : Board
  pub Allowed : ℕ → Type 0
  pub rest : ArmState

-- n steps, each of whose accesses is safe, lead from s to a state of which Q holds
abbrev pub Run : World → ℕ → State → (State → Type 0) → Type 0
Run W n s Q = (t : State) × Leads W.board (IsSafe W.Allowed) n s t × Q t

-- memory from lo on, below hi, that a step may access
pub record IsReadable (W : World) (lo hi : ℕ) : Type 0 where
  pub room : hi ≤ 2 ^ 32
  pub mapped : (x : ℕ) → lo ≤ x → x < hi → W.board.memory x ≡ true
  pub allowed : (x : ℕ) → lo ≤ x → x < hi → W.Allowed x

-- code and what it reads, from start to end, as it stands in a memory
pub record Code (W : World) : Type 0 where
  pub origin : Bytes
  pub start : ℕ
  pub end : ℕ
  pub multiple : start % 4 ≡ 0
  pub readable : IsReadable W start end

-- memory that may be written, off the code
pub record IsFree {W : World} (S : Code W) (lo hi : ℕ) : Type 0 where
  pub readable : IsReadable W lo hi
  pub writable : (x : ℕ) → lo ≤ x → x < hi → W.board.read_only x ≡ false
  pub apart : (hi ≤ S.start) ⊎ (S.end ≤ lo)

-- the word at place i of the code reads as this instruction
pub record Reads {W : World} (S : Code W) (i : ℕ) (instruction : ArmInstr) : Type 0 where
  pub inside : S.start + 4 * i + 8 ≤ S.end
  pub reads : ReadsArm (word S.origin (S.start + 4 * i)) instruction

-- what each step keeps: ARM state with the interrupts masked, the code, and that memory holds bytes
pub record Good {W : World} (S : Code W) (status : ℕ) (m : Bytes) : Type 0 where
  pub quiet : IsQuiet status
  pub same : (x : ℕ) → S.start ≤ x → x < S.end → m x ≡ S.origin x
  pub bytes : (x : ℕ) → m x < 256

-- registers r0 to r14
pub record Low : Type 0 where
  pub r0 : ℕ
  pub r1 : ℕ
  pub r2 : ℕ
  pub r3 : ℕ
  pub r4 : ℕ
  pub r5 : ℕ
  pub r6 : ℕ
  pub r7 : ℕ
  pub r8 : ℕ
  pub r9 : ℕ
  pub r10 : ℕ
  pub r11 : ℕ
  pub r12 : ℕ
  pub r13 : ℕ
  pub r14 : ℕ

abbrev pub all_of : Low → ℕ → List ℕ
all_of g pc = g.r0 ∷ g.r1 ∷ g.r2 ∷ g.r3 ∷ g.r4 ∷ g.r5 ∷ g.r6 ∷ g.r7 ∷ g.r8 ∷ g.r9 ∷ g.r10 ∷ g.r11 ∷ g.r12 ∷ g.r13 ∷ g.r14 ∷ pc ∷ []

-- r4 to r11, and these loaded from address x on
abbrev pub listed : Low → List ℕ
listed g = g.r4 ∷ g.r5 ∷ g.r6 ∷ g.r7 ∷ g.r8 ∷ g.r9 ∷ g.r10 ∷ g.r11 ∷ []

abbrev pub eight : Low → Bytes → ℕ → Low
eight g m x =
    let x4 = x + 4 in let x8 = x4 + 4 in let x12 = x8 + 4 in let x16 = x12 + 4 in let x20 = x16 + 4 in let x24 = x20 + 4 in
    record g { r4 = word m x; r5 = word m x4; r6 = word m x8; r7 = word m x12; r8 = word m x16; r9 = word m x20; r10 = word m x24; r11 = word m (x24 + 4) }

abbrev pub placed : World → Low → ℕ → ℕ → Bytes → State
placed W g pc status m = state_of W.rest (all_of g pc) status m

-- n steps lead there from the word at place i, if the state there is good
abbrev pub Go : {W : World} → Code W → ℕ → Low → ℕ → ℕ → Bytes → (State → Type 0) → Type 0
Go {W} S n g i status m Q = Good S status m → Run W n (placed W g (S.start + 4 * i) status m) Q

pub longer : {W : World} {S : Code W} {n k status : ℕ} {m : Bytes} {s : State} {Q : State → Type 0} → n ≡ k → (Good S status m → Run W n s Q) → Good S status m → Run W k s Q
longer e go good = let (t, run, holds) = go good in (t, lasting e run, holds)

-- ---- parts of memory

pub narrowed : {W : World} {lo hi low high : ℕ} → IsReadable W lo hi → lo ≤ low → high ≤ hi → IsReadable W low high
narrowed r above below =
    record { room = omega (arith, r.room); mapped = λ x low high. r.mapped x (omega arith) (omega arith); allowed = λ x low high. r.allowed x (omega arith) (omega arith) }

pub narrowed_free : {W : World} {S : Code W} {lo hi low high : ℕ} → IsFree S lo hi → lo ≤ low → high ≤ hi → IsFree S low high
narrowed_free {S = S} {lo} {hi} {low} {high} f above below =
    record { readable = narrowed f.readable above below; writable = λ x low high. f.writable x (omega arith) (omega arith); apart = go f.apart }
  where
    go : (hi ≤ S.start) ⊎ (S.end ≤ lo) → (high ≤ S.start) ⊎ (S.end ≤ low)
    go (inl h) = inl (omega arith)
    go (inr h) = inr (omega arith)

mapped_at : {W : World} {lo hi : ℕ} (x n : ℕ) → IsReadable W lo hi → lo ≤ x → x + n ≤ hi → Mapped W.board x n
mapped_at x n r low high k lt = r.mapped (x + k) (omega arith) (omega arith)

allowed_at : {W : World} {lo hi : ℕ} (x n : ℕ) → IsReadable W lo hi → lo ≤ x → x + n ≤ hi → Lies W.Allowed x n
allowed_at x n r low high k lt = r.allowed (x + k) (omega arith) (omega arith)

writable_at : {W : World} {S : Code W} {lo hi : ℕ} (x n : ℕ) → IsFree S lo hi → lo ≤ x → x + n ≤ hi → Writable W.board x n
writable_at x n f low high k lt = f.writable (x + k) (omega arith) (omega arith)

safe_loads : {W : World} {lo hi : ℕ} (f x n : ℕ) → IsReadable W lo hi → lo ≤ x → x + 4 * n ≤ hi → AreSafe W.Allowed f (loads_at x n)
safe_loads f x zero r low high = tt
safe_loads f x (suc n) r low high = (allowed_at x 4 r low (omega arith), safe_loads f (x + 4) n r (omega arith) (omega arith))

module _ {W : World} {S : Code W} {lo hi : ℕ} (f : IsFree S lo hi) where
  safe_stores : (i x : ℕ) (vs : List ℕ) → S.start + 4 * i + 12 ≤ S.end → lo ≤ x → x + 4 * length vs ≤ hi → AreSafe W.Allowed (S.start + 4 * i) (stores_at x vs)
  safe_stores i x [] inside low high = tt
  safe_stores i x (v ∷ vs) inside low high = ((allowed_at x 4 f.readable low (omega arith), go f.apart), safe_stores i (x + 4) vs inside (omega arith) (omega arith))
    where
      go : (hi ≤ S.start) ⊎ (S.end ≤ lo) → (x + 4 ≤ S.start + 4 * i) ⊎ (S.start + 4 * i + 12 ≤ x)
      go (inl h) = inl (omega arith)
      go (inr h) = inr (omega arith)

  good_stores : {status : ℕ} (m : Bytes) (x : ℕ) (vs : List ℕ) → lo ≤ x → x + 4 * length vs ≤ hi → Good S status m → Good S status (store_words m x vs)
  good_stores m x [] low high good = good
  good_stores m x (v ∷ vs) low high good =
      good_stores (store m x (bytes_of v 4)) (x + 4) vs (omega arith) (omega arith)
      (record { quiet = good.quiet; same = λ y above below. off y above below f.apart ∙ good.same y above below; bytes = bytes-store m x (bytes_of v 4) good.bytes (λ k. get_or-bytes_of-lt v 4 k) })
    where
      size : length (bytes_of v 4) ≡ 4
      size = length-bytes_of v 4

      off : (y : ℕ) → S.start ≤ y → y < S.end → (hi ≤ S.start) ⊎ (S.end ≤ lo) → store m x (bytes_of v 4) y ≡ m y
      off y above below (inl h) = store-above m x (bytes_of v 4) y (omega (arith, size))
      off y above below (inr h) = store-below m x (bytes_of v 4) y (omega arith)

-- a word of the code, or of what it reads
pub still : {W : World} {S : Code W} {status : ℕ} {m : Bytes} (x : ℕ) → Good S status m → S.start ≤ x → x + 4 ≤ S.end → word m x ≡ word S.origin x
still {S = S} {m = m} x good low high = ap number_of (load-same m S.origin x x 4 (λ k lt. good.same (x + k) (omega arith) (omega arith)))

-- ---- conditions

abbrev pub Holds : Condition → ℕ → Type 0
Holds Eq status = bit status 30 ≡ 1
Holds Ne status = bit status 30 ≡ 0
Holds Cc status = bit status 29 ≡ 0
Holds Hi status = (bit status 29 ≡ 1) × (bit status 30 ≡ 0)
Holds Al status = Unit {0}
Holds _ status = ⊥

abbrev pub Fails : Condition → ℕ → Type 0
Fails Eq status = bit status 30 ≡ 0
Fails Ne status = bit status 30 ≡ 1
Fails Cc status = bit status 29 ≡ 1
Fails Hi status = (bit status 29 ≡ 0) ⊎ (bit status 30 ≡ 1)
Fails _ status = ⊥

passed : (c : Condition) (status : ℕ) → Holds c status → passes c status ≡ true
unfolding passes
passed Eq status h = rw h refl
passed Ne status h = rw h refl
passed Cc status h = rw h refl
passed Hi status (c, z) = rw (c, z) refl
passed Al status h = refl
passed _ status h = absurd h

failed : (c : Condition) (status : ℕ) → Fails c status → passes c status ≡ false
unfolding passes
failed Eq status h = rw h refl
failed Ne status h = rw h refl
failed Cc status h = rw h refl
failed Hi status h = go h
  where
    go : (bit status 29 ≡ 0) ⊎ (bit status 30 ≡ 1) → passes Hi status ≡ false
    go (inl c) = rw c refl
    go (inr z) = grind arith
failed _ status h = absurd h

-- ---- instructions, and what they make of the registers

-- data processing: where pc is the next word's address, the registers and CPSR after it
pub data Computes : ArmInstr → Condition → (ℕ → Low → Low) → (ℕ → Low → ℕ) → Type 0 where
  -- MOV r0,r0
  nothing : Computes (DataShifted Al Mov false 0 0 0 Lsl 0) Al (λ pc g. g) (λ status g. status)
  -- ADD r0,pc,#k and ADD r2,pc,#k
  address_0 : {k : ℕ} → Computes (DataImmediate Al Add false 15 0 0 k) Al (λ pc g. record g { r0 = ((pc + 4) % 4294967296 + k + 0) % 4294967296 }) (λ status g. status)
  address_2 : {k : ℕ} → Computes (DataImmediate Al Add false 15 2 0 k) Al (λ pc g. record g { r2 = ((pc + 4) % 4294967296 + k + 0) % 4294967296 }) (λ status g. status)
  -- SUB r0,lr,#k
  back : {k : ℕ} → Computes (DataImmediate Al Sub false 14 0 0 k) Al (λ pc g. record g { r0 = (g.r14 + (4294967295 - k) + 1) % 4294967296 }) (λ status g. status)
  -- ADD r3,r3,#k
  add : {k : ℕ} → Computes (DataImmediate Al Add false 3 3 0 k) Al (λ pc g. record g { r3 = (g.r3 + k + 0) % 4294967296 }) (λ status g. status)
  -- ADD r1,r1,r3 and ADD r2,r2,r3
  add_1 : Computes (DataShifted Al Add false 1 1 0 Lsl 3) Al (λ pc g. record g { r1 = (g.r1 + g.r3 + 0) % 4294967296 }) (λ status g. status)
  add_2 : Computes (DataShifted Al Add false 2 2 0 Lsl 3) Al (λ pc g. record g { r2 = (g.r2 + g.r3 + 0) % 4294967296 }) (λ status g. status)
  -- ADD r0,r0,r1 and ADD r0,r0,r2
  add_01 : Computes (DataShifted Al Add false 0 0 0 Lsl 1) Al (λ pc g. record g { r0 = (g.r0 + g.r1 + 0) % 4294967296 }) (λ status g. status)
  add_02 : Computes (DataShifted Al Add false 0 0 0 Lsl 2) Al (λ pc g. record g { r0 = (g.r0 + g.r2 + 0) % 4294967296 }) (λ status g. status)
  -- ADDNE r4,r4,r1
  add_shift : Computes (DataShifted Ne Add false 4 4 0 Lsl 1) Ne (λ pc g. record g { r4 = (g.r4 + g.r1 + 0) % 4294967296 }) (λ status g. status)
  -- MOV r1,#0 and MOV r4,#0
  clear_1 : Computes (DataImmediate Al Mov false 0 1 0 0) Al (λ pc g. record g { r1 = 0 }) (λ status g. status)
  clear_4 : Computes (DataImmediate Al Mov false 0 4 0 0) Al (λ pc g. record g { r4 = 0 }) (λ status g. status)
  -- SUBS r3,r3,#k and SUBS r1,r0,r1
  count : {c : Condition} {k : ℕ} → Computes (DataImmediate c Sub true 3 3 0 k) c (λ pc g. record g { r3 = (g.r3 + (4294967295 - k) + 1) % 4294967296 }) (λ status g. compared status g.r3 k)
  shift : Computes (DataShifted Al Sub true 0 1 0 Lsl 1) Al (λ pc g. record g { r1 = (g.r0 + (4294967295 - g.r1) + 1) % 4294967296 }) (λ status g. compared status g.r0 g.r1)
  -- CMP r3,#k and CMP r2,r1
  compare : {k : ℕ} → Computes (DataImmediate Al Cmp true 3 0 0 k) Al (λ pc g. g) (λ status g. compared status g.r3 k)
  compare_targets : Computes (DataShifted Al Cmp true 2 0 0 Lsl 1) Al (λ pc g. g) (λ status g. compared status g.r2 g.r1)
  -- CMN r3,#k
  compare_negative : {k : ℕ} → Computes (DataImmediate Al Cmn true 3 0 0 k) Al (λ pc g. g) (λ status g. added status g.r3 k)

-- a load of n words: its address, and the registers after it from a memory and an address
pub data Loads : ArmInstr → Condition → ℕ → (ℕ → Low → ℕ) → (Low → Bytes → ℕ → Low) → Type 0 where
  -- LDR r4,[r1],#4 and LDR r4,[r1,#-4]!
  load_up : Loads (TransferImmediate Al false true false false true 1 4 4) Al 1 (λ pc g. g.r1) (λ g m x. record g { r1 = (g.r1 + 4) % 4294967296; r4 = word m x })
  load_down : Loads (TransferImmediate Al true false false true true 1 4 4) Al 1 (λ pc g. (g.r1 + 4294967296 - 4) % 4294967296) (λ g m x. record g { r1 = (g.r1 + 4294967296 - 4) % 4294967296; r4 = word m x })
  -- LDR r3,[r2],#4
  load_next : Loads (TransferImmediate Al false true false false true 2 3 4) Al 1 (λ pc g. g.r2) (λ g m x. record g { r2 = (g.r2 + 4) % 4294967296; r3 = word m x })
  -- LDR r0,[r0,#k], LDR r1,[r0,#k], LDR r2,[r0,#k] and LDR r3,[r0,#k]
  load_0 : {k : ℕ} → Loads (TransferImmediate Al true true false false true 0 0 k) Al 1 (λ pc g. (g.r0 + k) % 4294967296) (λ g m x. record g { r0 = word m x })
  load_1 : {k : ℕ} → Loads (TransferImmediate Al true true false false true 0 1 k) Al 1 (λ pc g. (g.r0 + k) % 4294967296) (λ g m x. record g { r1 = word m x })
  load_2 : {k : ℕ} → Loads (TransferImmediate Al true true false false true 0 2 k) Al 1 (λ pc g. (g.r0 + k) % 4294967296) (λ g m x. record g { r2 = word m x })
  load_3 : {k : ℕ} → Loads (TransferImmediate Al true true false false true 0 3 k) Al 1 (λ pc g. (g.r0 + k) % 4294967296) (λ g m x. record g { r3 = word m x })
  -- LDRNE r4,[r0,r3]
  load_named : Loads (TransferShifted Ne true true false false true 0 4 0 Lsl 3) Ne 1 (λ pc g. (g.r0 + g.r3) % 4294967296) (λ g m x. record g { r4 = word m x })
  -- LDR r12,[pc]
  load_entry : Loads (TransferImmediate Al true true false false true 15 12 0) Al 1 (λ pc g. ((pc + 4) % 4294967296 + 0) % 4294967296) (λ g m x. record g { r12 = word m x })
  -- LDMIA r1!,{r4 to r11} and LDMDB r1!,{r4 to r11}
  take_up : Loads (TransferBlock Al false true false true true 1 0x0FF0) Al 8 (λ pc g. (g.r1 + 0) % 4294967296) (λ g m x. record (eight g m x) { r1 = (g.r1 + 32) % 4294967296 })
  take_down : Loads (TransferBlock Al true false false true true 1 0x0FF0) Al 8 (λ pc g. (g.r1 + 4294967296 - 32 + 0) % 4294967296) (λ g m x. record (eight g m x) { r1 = (g.r1 + 4294967296 - 32) % 4294967296 })
  -- LDMIA r0!,{r1,r2,r3} and LDMIA r0!,{r2,r3}
  take_three : Loads (TransferBlock Al false true false true true 0 0x000E) Al 3 (λ pc g. (g.r0 + 0) % 4294967296) (λ g m x. record g { r0 = (g.r0 + 12) % 4294967296; r1 = word m x; r2 = word m (x + 4); r3 = word m (x + 4 + 4) })
  take_two : Loads (TransferBlock Al false true false true true 0 0x000C) Al 2 (λ pc g. (g.r0 + 0) % 4294967296) (λ g m x. record g { r0 = (g.r0 + 8) % 4294967296; r2 = word m x; r3 = word m (x + 4) })

-- a store of words: its address, the words, and the registers after it
pub data Stores : ArmInstr → Condition → (Low → ℕ) → (Low → List ℕ) → (Low → Low) → Type 0 where
  -- STR r4,[r2],#4 and STR r4,[r2,#-4]!
  store_up : Stores (TransferImmediate Al false true false false false 2 4 4) Al (λ g. g.r2) (λ g. g.r4 ∷ []) (λ g. record g { r2 = (g.r2 + 4) % 4294967296 })
  store_down : Stores (TransferImmediate Al true false false true false 2 4 4) Al (λ g. (g.r2 + 4294967296 - 4) % 4294967296) (λ g. g.r4 ∷ []) (λ g. record g { r2 = (g.r2 + 4294967296 - 4) % 4294967296 })
  -- STRNE r1,[r0],#4
  store_zero : Stores (TransferImmediate Ne false true false false false 0 1 4) Ne (λ g. g.r0) (λ g. g.r1 ∷ []) (λ g. record g { r0 = (g.r0 + 4) % 4294967296 })
  -- STR r0,[r0,#k] and STR r2,[r0,#k]
  store_0 : {k : ℕ} → Stores (TransferImmediate Al true true false false false 0 0 k) Al (λ g. (g.r0 + k) % 4294967296) (λ g. g.r0 ∷ []) (λ g. g)
  store_2 : {k : ℕ} → Stores (TransferImmediate Al true true false false false 0 2 k) Al (λ g. (g.r0 + k) % 4294967296) (λ g. g.r2 ∷ []) (λ g. g)
  -- STRNE r4,[r0,r3]
  store_named : Stores (TransferShifted Ne true true false false false 0 4 0 Lsl 3) Ne (λ g. (g.r0 + g.r3) % 4294967296) (λ g. g.r4 ∷ []) (λ g. g)
  -- STMIA r2!,{r4 to r11} and STMDB r2!,{r4 to r11}
  give_up : Stores (TransferBlock Al false true false true false 2 0x0FF0) Al (λ g. (g.r2 + 0) % 4294967296) listed (λ g. record g { r2 = (g.r2 + 32) % 4294967296 })
  give_down : Stores (TransferBlock Al true false false true false 2 0x0FF0) Al (λ g. (g.r2 + 4294967296 - 32 + 0) % 4294967296) listed (λ g. record g { r2 = (g.r2 + 4294967296 - 32) % 4294967296 })

-- ---- one step

abbrev working : World → Low → ℕ → ℕ → ℕ → Bytes → List ℕ → Working
working W g pc next status m answers = record { core = (placed W g next status m).core; memory = m; answers = answers; accesses = Fetch pc Word ∷ [] }

-- after BX: pc is the entry, in the state that its bit 0 says
entered : (W : World) (g : Low) (v status : ℕ) (m : Bytes) {entry : ℕ} {final : Bytes} → IsQuiet status → v ≡ entry → m ≡ final → entry % 4 ≢ 2
    → let s = status_with_thumb (v % 2) status in IsEntered entry final (placed W g (as_pc s v) s m)
unfolding register is_thumb as_pc status_with_thumb
entered W g v status m {entry} q e same fair =
    let bit_t : bit (status / 2 ^ 6 * 2 ^ 6 + entry % 2 * 2 ^ 5 + status % 2 ^ 5) 5 ≡ entry % 2 = omega arith in
    record { pc = rw (e, bit_t) (go (entry % 2 == 1) refl); thumb = rw (e, bit_t) refl; memory = same; masked = masked }
  where
    masked : AreMasked (let s = status_with_thumb (v % 2) status in placed W g (as_pc s v) s m)
    masked = record { fiq = omega (arith, q.fiq_masked); irq = omega (arith, q.irq_masked) }

    go : (b : Bool) → (entry % 2 == 1) ≡ b → (if b then entry - entry % 2 else entry - entry % 4) ≡ entry - entry % 2
    go true h = refl
    go false h = let odd = eqb-false (entry % 2) 1 h in omega (arith, fair)

flags : {W : World} {S : Code W} {status : ℕ} {m : Bytes} (a b c : ℕ) → Good S status m → Good S (with_flags status a b c) m
flags {status = status} a b c good = record { quiet = quiet-with_flags status a b c good.quiet; same = good.same; bytes = good.bytes }

-- the instruction at place i leads to the state s, with these accesses after its fetch
abbrev Does : {W : World} → Code W → ℕ → Low → ℕ → Bytes → ArmInstr → State → List Access → Type 0
Does {W} S i g status m instruction s more =
    Good S status m → (answers : List ℕ)
    → arm_done (record { board = W.board; before = placed W g (S.start + 4 * i) status m; word = word S.origin (S.start + 4 * i) }) instruction
    (working W g (S.start + 4 * i) (S.start + 4 * (i + 1)) status m answers)
    ≡ record { state = s; event = event.Ran; accesses = Fetch (S.start + 4 * i) Word ∷ more }

module _ {W : World} {S : Code W} {n i status : ℕ} {g : Low} {m : Bytes} {Q : State → Type 0} where
  step : {instruction : ArmInstr} {s : State} (more : List Access) → Reads S i instruction → AreSafe W.Allowed (S.start + 4 * i) more → Does S i g status m instruction s more
      → (Good S status m → Run W n s Q) → Go S (suc n) g i status m Q
  step {instruction} {s} more w safe does next good =
      let pc = S.start + 4 * i in
      let inside = w.inside in let room = S.readable.room in
      let whole : pc % 4 ≡ 0 = omega (arith, S.multiple) in
      let after : (pc + 4) % 4294967296 ≡ S.start + 4 * (i + 1) = omega arith in
      let (t, run, holds) = next good in (
        t,
        on (record { state = s; event = event.Ran; accesses = Fetch pc Word ∷ more })
            (arm_step W.board W.rest (all_of g pc) status m pc (word S.origin pc) instruction _ good.quiet refl whole
            (in_memory-mapped W.board pc 4 (mapped_at pc 4 S.readable (omega arith) (omega arith))) (still pc good (omega arith) (omega arith)) w.reads
            (λ answers. rw after (does good answers)))
            refl (allowed_at pc 4 S.readable (omega arith) (omega arith), safe) run,
        holds,
      )

  -- an instruction whose condition fails
  pub skip : {instruction : ArmInstr} → Reads S i instruction → Fails (arm_condition instruction) status
      → Go S n g (i + 1) status m Q → Go S (suc n) g i status m Q
  unfolding row_opens
  skip {instruction} w h = step [] w tt (λ good answers. rw (failed (arm_condition instruction) status h) refl)

  -- B, to the word at place j
  pub branch : {c : Condition} {d j : ℕ} {target : ArmInstr} → Reads S i (Branch c false d) → Reads S j target → Holds c status → (4 * i + 8 + 4 * sign_extended d 24) % 2 ^ 32 ≡ 4 * j
      → Go S n g j status m Q → Go S (suc n) g i status m Q
  unfolding row_opens
  branch {c} {d} {j} w v h e = step [] w tt (λ good answers.
      let below = v.inside in let room = S.readable.room in
      let goal : ((S.start + 4 * (i + 1) + 4) % 4294967296 + 4 * sign_extended d 24) % 4294967296 ≡ S.start + 4 * j = omega arith in
      rw (passed c status h, good.quiet.arm, goal) refl)

  -- BL forwards, to another address
  pub link : {k target : ℕ} → Reads S i (Branch Al true k) → k < 2 ^ 23 → target ≡ S.start + 4 * i + 8 + 4 * k → target < 2 ^ 32
      → (Good S status m → Run W n (placed W (record g { r14 = S.start + 4 * (i + 1) }) target status m) Q) → Go S (suc n) g i status m Q
  unfolding row_opens
  link {k} {target} w small e fits = step [] w tt (λ good answers.
      let extended : sign_extended k 24 ≡ k = grind arith in
      let goal : ((S.start + 4 * (i + 1) + 4) % 4294967296 + 4 * k) % 4294967296 ≡ target = omega arith in
      rw (good.quiet.arm, extended, goal) refl)

  -- MOV pc,lr
  pub return : {c : Condition} → Reads S i (DataShifted c Mov false 0 15 0 Lsl 14) → Holds c status → g.r14 % 4 ≡ 0
      → (Good S status m → Run W n (placed W g g.r14 status m) Q) → Go S (suc n) g i status m Q
  unfolding row_opens
  return {c} w h whole = step [] w tt (λ good answers.
      let same : g.r14 - g.r14 % 4 ≡ g.r14 = omega arith in
      rw (passed c status h, good.quiet.arm, same) refl)

  -- words that are read, and that are written
  taken : {instruction : ArmInstr} {h : Low} {lo hi : ℕ} (x k : ℕ) → Reads S i instruction → IsReadable W lo hi → lo ≤ x → x + 4 * k ≤ hi → x % 4 ≡ 0
      → (x - x % 4 ≡ x → x + 4 * k ≤ 2 ^ 32 → Mapped W.board x (4 * k) → Does S i g status m instruction (placed W h (S.start + 4 * (i + 1)) status m) (loads_at x k))
      → Go S n h (i + 1) status m Q → Go S (suc n) g i status m Q
  taken x k w r low high whole does = step (loads_at x k) w (safe_loads (S.start + 4 * i) x k r low high) (does (omega arith) (omega (arith, r.room)) (mapped_at x (4 * k) r low high))

  written : {instruction after : ArmInstr} {h : Low} {lo hi : ℕ} (x : ℕ) (vs : List ℕ) → Reads S i instruction → Reads S (i + 1) after → IsFree S lo hi → lo ≤ x → x + 4 * length vs ≤ hi → x % 4 ≡ 0
      → (x - x % 4 ≡ x → x + 4 * length vs ≤ 2 ^ 32 → Mapped W.board x (4 * length vs) → Writable W.board x (4 * length vs)
      → Does S i g status m instruction (placed W h (S.start + 4 * (i + 1)) status (store_words m x vs)) (stores_at x vs))
      → Go S n h (i + 1) status (store_words m x vs) Q → Go S (suc n) g i status m Q
  written x vs w next_word f low high whole does next =
      step (stores_at x vs) w (safe_stores f i x vs (omega (arith, next_word.inside)) low high)
      (does (omega arith) (omega (arith, f.readable.room)) (mapped_at x (4 * length vs) f.readable low high) (writable_at x (4 * length vs) f low high)) (λ good. next (good_stores f m x vs low high good))

  pub computes : {instruction : ArmInstr} {c : Condition} {f : ℕ → Low → Low} {h : ℕ → Low → ℕ} → Reads S i instruction → Computes instruction c f h → Holds c status
      → Go S n (f (S.start + 4 * (i + 1)) g) (i + 1) (h status g) m Q → Go S (suc n) g i status m Q
  unfolding row_opens
  computes w nothing h next = step [] w tt (λ good answers. refl) next
  computes w (address_0 {k}) h next = step [] w tt (λ good answers. rw (good.quiet.arm, rotated-zero k) refl) next
  computes w (address_2 {k}) h next = step [] w tt (λ good answers. rw (good.quiet.arm, rotated-zero k) refl) next
  computes w (back {k}) h next = step [] w tt (λ good answers. rw (rotated-zero k) refl) next
  computes w (add {k}) h next = step [] w tt (λ good answers. rw (rotated-zero k) refl) next
  computes w add_1 h next = step [] w tt (λ good answers. refl) next
  computes w add_2 h next = step [] w tt (λ good answers. refl) next
  computes w add_01 h next = step [] w tt (λ good answers. refl) next
  computes w add_02 h next = step [] w tt (λ good answers. refl) next
  computes w add_shift h next = step [] w tt (λ good answers. rw h refl) next
  computes w clear_1 h next = step [] w tt (λ good answers. refl) next
  computes w clear_4 h next = step [] w tt (λ good answers. refl) next
  computes w (count {c} {k}) h next = step [] w tt (λ good answers. rw (passed c status h, rotated-zero k) refl) (λ good. next (flags _ _ _ good))
  computes w shift h next = step [] w tt (λ good answers. refl) (λ good. next (flags _ _ _ good))
  computes w (compare {k}) h next = step [] w tt (λ good answers. rw (rotated-zero k) refl) (λ good. next (flags _ _ _ good))
  computes w compare_targets h next = step [] w tt (λ good answers. refl) (λ good. next (flags _ _ _ good))
  computes w (compare_negative {k}) h next = step [] w tt (λ good answers. rw (rotated-zero k) refl) (λ good. next (flags _ _ _ good))

  pub loads : {instruction : ArmInstr} {c : Condition} {k x lo hi : ℕ} {a : ℕ → Low → ℕ} {f : Low → Bytes → ℕ → Low} → Reads S i instruction → Loads instruction c k a f → Holds c status
      → a (S.start + 4 * (i + 1)) g ≡ x → IsReadable W lo hi → lo ≤ x → x + 4 * k ≤ hi → x % 4 ≡ 0
      → Go S n (f g m x) (i + 1) status m Q → Go S (suc n) g i status m Q
  unfolding row_opens
  loads {x = x} w load_up h e r low high whole = taken x 1 w r low high whole (λ same room mapped good answers. rw e (loaded-word _ x 4 _ _ whole mapped refl))
  loads {x = x} w load_down h e r low high whole = taken x 1 w r low high whole (λ same room mapped good answers. rw e (loaded-word _ x 4 _ _ whole mapped refl))
  loads {x = x} w load_next h e r low high whole = taken x 1 w r low high whole (λ same room mapped good answers. rw e (loaded-word _ x 3 _ _ whole mapped refl))
  loads {x = x} w load_0 h e r low high whole = taken x 1 w r low high whole (λ same room mapped good answers. rw e (loaded-word _ x 0 _ _ whole mapped refl))
  loads {x = x} w load_1 h e r low high whole = taken x 1 w r low high whole (λ same room mapped good answers. rw e (loaded-word _ x 1 _ _ whole mapped refl))
  loads {x = x} w load_2 h e r low high whole = taken x 1 w r low high whole (λ same room mapped good answers. rw e (loaded-word _ x 2 _ _ whole mapped refl))
  loads {x = x} w load_3 h e r low high whole = taken x 1 w r low high whole (λ same room mapped good answers. rw e (loaded-word _ x 3 _ _ whole mapped refl))
  loads {x = x} w load_named h e r low high whole = taken x 1 w r low high whole (λ same room mapped good answers. rw (h, e) (loaded-word _ x 4 _ _ whole mapped refl))
  loads {x = x} w load_entry h e r low high whole = taken x 1 w r low high whole (λ same room mapped good answers. rw (good.quiet.arm, e) (loaded-word _ x 12 _ _ whole mapped refl))
  loads {x = x} w take_up h e r low high whole = taken x 8 w r low high whole (λ same room mapped good answers. rw (e, same) (block_loaded-words _ true (4 ∷ 5 ∷ 6 ∷ 7 ∷ 8 ∷ 9 ∷ 10 ∷ 11 ∷ []) x 1 _ _ room mapped))
  loads {x = x} w take_down h e r low high whole = taken x 8 w r low high whole (λ same room mapped good answers. rw (e, same) (block_loaded-words _ true (4 ∷ 5 ∷ 6 ∷ 7 ∷ 8 ∷ 9 ∷ 10 ∷ 11 ∷ []) x 1 _ _ room mapped))
  loads {x = x} w take_three h e r low high whole = taken x 3 w r low high whole (λ same room mapped good answers. rw (e, same) (block_loaded-words _ true (1 ∷ 2 ∷ 3 ∷ []) x 0 _ _ room mapped))
  loads {x = x} w take_two h e r low high whole = taken x 2 w r low high whole (λ same room mapped good answers. rw (e, same) (block_loaded-words _ true (2 ∷ 3 ∷ []) x 0 _ _ room mapped))

  pub stores : {instruction after : ArmInstr} {c : Condition} {a : Low → ℕ} {vs : Low → List ℕ} {f : Low → Low} {x lo hi : ℕ} → Reads S i instruction → Reads S (i + 1) after → Stores instruction c a vs f → Holds c status
      → a g ≡ x → IsFree S lo hi → lo ≤ x → x + 4 * length (vs g) ≤ hi → x % 4 ≡ 0
      → Go S n (f g) (i + 1) status (store_words m x (vs g)) Q → Go S (suc n) g i status m Q
  unfolding row_opens
  stores {x = x} w v store_up h e f low high whole = written x (g.r4 ∷ []) w v f low high whole (λ same room mapped writable good answers. rw e (stored-word _ x 4 _ _ whole mapped writable))
  stores {x = x} w v store_down h e f low high whole = written x (g.r4 ∷ []) w v f low high whole (λ same room mapped writable good answers. rw e (stored-word _ x 4 _ _ whole mapped writable))
  stores {x = x} w v store_zero h e f low high whole = written x (g.r1 ∷ []) w v f low high whole (λ same room mapped writable good answers. rw (h, e) (stored-word _ x 1 _ _ whole mapped writable))
  stores {x = x} w v store_0 h e f low high whole = written x (g.r0 ∷ []) w v f low high whole (λ same room mapped writable good answers. rw e (stored-word _ x 0 _ _ whole mapped writable))
  stores {x = x} w v store_2 h e f low high whole = written x (g.r2 ∷ []) w v f low high whole (λ same room mapped writable good answers. rw e (stored-word _ x 2 _ _ whole mapped writable))
  stores {x = x} w v store_named h e f low high whole = written x (g.r4 ∷ []) w v f low high whole (λ same room mapped writable good answers. rw (h, e) (stored-word _ x 4 _ _ whole mapped writable))
  stores {x = x} w v give_up h e f low high whole = written x (listed g) w v f low high whole (λ same room mapped writable good answers. rw (e, same) (block_stored-words _ true (4 ∷ 5 ∷ 6 ∷ 7 ∷ 8 ∷ 9 ∷ 10 ∷ 11 ∷ []) x 2 _ _ room mapped writable))
  stores {x = x} w v give_down h e f low high whole = written x (listed g) w v f low high whole (λ same room mapped writable good answers. rw (e, same) (block_stored-words _ true (4 ∷ 5 ∷ 6 ∷ 7 ∷ 8 ∷ 9 ∷ 10 ∷ 11 ∷ []) x 2 _ _ room mapped writable))

-- BX r0 and BX r12, to the entry
pub enter_0 : {W : World} {S : Code W} {i status entry : ℕ} {g : Low} {m final : Bytes} → Reads S i (BranchExchange Al 0) → g.r0 ≡ entry → m ≡ final → entry % 4 ≢ 2 → Go S 1 g i status m (IsEntered entry final)
unfolding row_opens
enter_0 {W} {status = status} {g = g} {m} w e same fair =
    step [] w tt (λ good answers. let other = not-eq (g.r0 % 4) 2 (λ h. fair (ap (λ (v : ℕ). v % 4) (sym e) ∙ h)) in rw other refl) (λ good. (_, here, entered W g g.r0 status m good.quiet e same fair))

pub enter_12 : {W : World} {S : Code W} {i status entry : ℕ} {g : Low} {m final : Bytes} → Reads S i (BranchExchange Al 12) → g.r12 ≡ entry → m ≡ final → entry % 4 ≢ 2 → Go S 1 g i status m (IsEntered entry final)
unfolding row_opens
enter_12 {W} {status = status} {g = g} {m} w e same fair =
    step [] w tt (λ good answers. let other = not-eq (g.r12 % 4) 2 (λ h. fair (ap (λ (v : ℕ). v % 4) (sym e) ∙ h)) in rw other refl) (λ good. (_, here, entered W g g.r12 status m good.quiet e same fair))

-- ---- the registers at the start

abbrev low_of : List ℕ → Low
low_of l = let k = slice_index l in record { r0 = k 0; r1 = k 1; r2 = k 2; r3 = k 3; r4 = k 4; r5 = k 5; r6 = k 6; r7 = k 7; r8 = k 8; r9 = k 9; r10 = k 10; r11 = k 11; r12 = k 12; r13 = k 13; r14 = k 14 }

abbrev tabulated : (ℕ → ℕ) → ℕ → List ℕ
tabulated f zero = []
tabulated f (suc n) = f 0 ∷ tabulated (λ k. f (suc k)) n

listed_all : (l : List ℕ) → l ≡ tabulated (slice_index l) (length l)
listed_all [] = refl
listed_all (x ∷ l) = ap (λ (r : List ℕ). x ∷ r) (listed_all l)

-- a run from the registers written out is one from the state
pub begun : (board : Board) (Allowed : ℕ → Type 0) (s : State) (pc : ℕ) {n : ℕ} {Q : State → Type 0} → length s.core.r ≡ 16 → register s.core 15 ≡ pc
    → let W : World = record { board = board; Allowed = Allowed; rest = s.core } in ((g : Low) → Run W n (placed W g pc s.core.cpsr s.memory) Q) → Run W n s Q
unfolding register
begun board Allowed s pc {n} {Q} sixteen at run =
    let W : World = record { board = board; Allowed = Allowed; rest = s.core } in
    let From : List ℕ → Type 0 = λ r. Run W n (state_of s.core r s.core.cpsr s.memory) Q in
    let all : s.core.r ≡ tabulated (slice_index s.core.r) 16 = listed_all s.core.r ∙ ap (tabulated (slice_index s.core.r)) sixteen in
    subst From (sym (all ∙ ap (all_of (low_of s.core.r)) at)) (run (low_of s.core.r))

-- ---- the words of the code

reads_at : (ws : List ℕ) (is : List ArmInstr) (i : ℕ) → ReadAs ws is → i < length ws → ReadsArm (get_or ws i 0) (get_or is i (SoftwareInterrupt Al 0))
reads_at [] is i reads lt = absurd (omega arith)
reads_at (w ∷ ws) [] i reads lt = absurd reads
reads_at (w ∷ ws) (j ∷ is) zero reads lt = reads.0
reads_at (w ∷ ws) (j ∷ is) (suc i) reads lt = reads_at ws is i reads.1 (omega arith)

-- a word of this value reads as the instruction
pub word_reads : {W : World} (S : Code W) (i v : ℕ) {instruction : ArmInstr} → word S.origin (S.start + 4 * i) ≡ v → S.start + 4 * i + 8 ≤ S.end → ReadsArm v instruction → Reads S i instruction
word_reads S i v {instruction} same room reads = let At : ℕ → Type 0 = λ v. ReadsArm v instruction in record { inside = room; reads = subst At (sym same) reads }

-- each word of a list that stands at the start reads as the instruction in its place
pub code_reads : {W : World} (S : Code W) (ws : List ℕ) (is : List ArmInstr) (k : ℕ) → ReadAs ws is → HasCode S.origin (S.start + 4 * k) ws → S.start + 4 * k + 4 * length ws + 4 ≤ S.end
    → (i j : ℕ) → j ≡ k + i → i < length ws → Reads S j (get_or is i (SoftwareInterrupt Al 0))
code_reads S ws is k reads has room i j e lt = word_reads S j (get_or ws i 0) (ap (word S.origin) (omega arith) ∙ has i lt) (omega arith) (reads_at ws is i reads lt)
