-- States beside one another: what they share, and that scratch over scratch is the last.
use Rattle.std.proofs.Common.{◌≡◌, ◌≢◌, ℕ, ◌+◌, ◌-◌, ◌%◌, ◌^◌, ◌<◌, ◌≤◌, ◌==◌, Bool, true, false, List, [], ◌∷◌, ◌++◌, length, refl, sym, ap, subst, ◌∙◌, arith, ◌⊎◌, inl, inr, get_or-set_other, eq-eqb, cond}
use Rattle.std.specs.Prelude.{slice_index}
use Rattle.std.specs.List.{AllByRecursion}
use Rattle.std.proofs.Math.Path.{fun_ext}
use Rattle.std.proofs.lemmas.List.{set-set, set-get_or}
use Rattle.sdt_word.specs.Codes.{bytes_in}
use Rattle.sdt_word.specs.Numbers.{bits}
use Rattle.sdt_word.specs.Bytes.{bytes_of, load, number_of, word}
use Rattle.sdt_word.proofs.BytesLemmas.{get_or-load, length-load}
use Rattle.arm7_model.specs.declared.state.ArmState.{ArmState}
use Rattle.arm7_model.specs.Accesses.{Access, Fetch, Load, Store, memory_after}
use Rattle.arm7_model.specs.Memory.{Board, Bytes, in_memory, store}
use Rattle.arm7_model.specs.Registers.{State, bank_in, mode_in, mode_named}
use Rattle.arm7_model.specs.Step.{Instruction, Levels, fetched, stepped}
use Rattle.arm7_model.proofs.MemoryLemmas.{below_or_not, load-same, not-eq, store-above, store-append, store-below, store-in}
use Rattle.kit_laws.specs.Handler.{IsKit}
use Rattle.kit_laws.specs.Beside.{Scratch, beside, with_irq}
use Rattle.kit_laws.specs.Rules.{IsOwn}
use Rattle.kit_laws.specs.Struck.{Agree, in_irq}
use Rattle.kit_laws.proofs.Added.{moved}
use Rattle.kit_laws.proofs.BesideMemory.{off-store}
use Rattle.kit_laws.proofs.Interrupt.{scratch_of, stored-word}
use Rattle.kit_laws.proofs.IrqRegisters.{other-bank}
use Rattle.kit_laws.proofs.StepAdded.{step-adds}

irq-twice : (k l : Scratch) (s : ArmState) → with_irq l (with_irq k s) ≡ with_irq l s
unfolding with_irq
irq-twice k l s = rw (set-set s.banks.r13 2 k.r13 l.r13, set-set s.banks.r14 2 k.r14 l.r14, set-set s.spsr 1 k.saved l.saved) refl

store-twice : (m : Bytes) (work : ℕ) (xs ys : List ℕ) → length xs ≡ length ys → store (store m work xs) work ys ≡ store m work ys
store-twice m work xs ys n = fun_ext (λ x. go x (below_or_not x work) (below_or_not x (work + length ys)))
  where
    go : (x : ℕ) → (x < work) ⊎ (work ≤ x) → (x < work + length ys) ⊎ (work + length ys ≤ x) → store (store m work xs) work ys x ≡ store m work ys x
    go x (inl h) _ = store-below (store m work xs) work ys x h ∙ store-below m work xs x h ∙ sym (store-below m work ys x h)
    go x (inr h) (inl l) = store-in (store m work xs) work ys x h l ∙ sym (store-in m work ys x h l)
    go x (inr h) (inr l) = store-above (store m work xs) work ys x l ∙ store-above m work xs x (omega arith) ∙ sym (store-above m work ys x l)

pub beside-twice : (work : ℕ) (k l : Scratch) (s : State) → beside work l (beside work k s) ≡ beside work l s
beside-twice work k l s =
    ap (λ (c : ArmState). record { core = c; memory = store (store s.memory work k.bytes) work l.bytes }) (irq-twice k l s.core)
    ∙ ap (λ (m : Bytes). record { core = with_irq l s.core; memory = m }) (store-twice s.memory work k.bytes l.bytes (k.twelve ∙ sym l.twelve))

-- a state stands beside itself
abbrev pub own_scratch : ℕ → State → Scratch
own_scratch work s = record {
  r13 = slice_index s.core.banks.r13 2;
  r14 = slice_index s.core.banks.r14 2;
  saved = slice_index s.core.spsr 1;
  bytes = load s.memory work 12;
  twelve = length-load s.memory work 12;
}

store-loaded : (m : Bytes) (work n : ℕ) → store m work (load m work n) ≡ m
store-loaded m work n = fun_ext (λ x. go x (below_or_not x work) (below_or_not x (work + n)))
  where
    size : length (load m work n) ≡ n
    size = length-load m work n

    go : (x : ℕ) → (x < work) ⊎ (work ≤ x) → (x < work + n) ⊎ (work + n ≤ x) → store m work (load m work n) x ≡ m x
    go x (inl h) _ = store-below m work (load m work n) x h
    go x (inr h) (inl l) = store-in m work (load m work n) x h (omega (arith, size)) ∙ get_or-load m work n (x - work) (omega arith) ∙ ap m (omega arith)
    go x (inr h) (inr l) = store-above m work (load m work n) x (omega (arith, size))

pub beside-self : (work : ℕ) (s : State) → beside work (own_scratch work s) s ≡ s
unfolding with_irq
beside-self work s =
    ap (λ (m : Bytes). record { core = with_irq (own_scratch work s) s.core; memory = m }) (store-loaded s.memory work 12)
    ∙ rw (set-get_or s.core.banks.r13 2 0, set-get_or s.core.banks.r14 2 0, set-get_or s.core.spsr 1 0) refl

pub agree-beside : (work : ℕ) (k : Scratch) (p : State) → Agree work p (beside work k p)
unfolding with_irq
agree-beside work k p = record {
  visible = refl;
  cpsr = refl;
  high = refl;
  r13 = λ i h. get_or-set_other p.core.banks.r13 2 i k.r13 0 h;
  r14 = λ i h. get_or-set_other p.core.banks.r14 2 i k.r14 0 h;
  saved = λ i h. get_or-set_other p.core.spsr 1 i k.saved 0 h;
  memory = λ x h. off-store p.memory work k x h;
}

-- the count word is one of the scratch bytes
pub count-same : (work : ℕ) (k : Scratch) (m n : Bytes) → word (store m work k.bytes) (work + 8) ≡ word (store n work k.bytes) (work + 8)
count-same work k m n =
    let twelve = k.twelve in
    ap number_of (load-same (store m work k.bytes) (store n work k.bytes) (work + 8) (work + 8) 4 (λ i lt.
    store-in m work k.bytes (work + 8 + i) (omega arith) (omega arith) ∙ sym (store-in n work k.bytes (work + 8 + i) (omega arith) (omega arith))))

pub count-next : (work : ℕ) (s : State) → word (store s.memory work (scratch_of work s).bytes) (work + 8) ≡ (word s.memory (work + 8) + 1) % 2 ^ 32
count-next work s =
    let m = s.memory in
    let x = bytes_of (slice_index s.core.r 0) 4 in
    let y = bytes_of (slice_index s.core.r 1) 4 in
    let v = (word m (work + 8) + 1) % 2 ^ 32 in
    ap (λ (n : Bytes). word n (work + 8))
    (store-append m work x (y ++ bytes_of v 4) ∙ store-append (store m work x) (work + 4) y (bytes_of v 4)
    ∙ ap (λ (a : ℕ). store (store (store m work x) (work + 4) y) a (bytes_of v 4)) (omega arith))
    ∙ stored-word (store (store m work x) (work + 4) y) (work + 8) v (omega arith)

-- ---- the handler's words stay

pub kit-same : {b : Board} {work ack : ℕ} {m : Bytes} (n : Bytes) → IsKit b work ack m → ((x : ℕ) → x < 0x50 → n x ≡ m x) → IsKit b work ack n
kit-same {m = m} n kit same =
    let at : (a : ℕ) → a + 4 ≤ 0x50 → word n a ≡ word m a = λ (a : ℕ) (h : a + 4 ≤ 0x50). ap number_of (load-same n m a a 4 (λ i lt. same (a + i) (omega arith))) in
    record {
      whole = kit.whole;
      low = kit.low;
      high = kit.high;
      ack_whole = kit.ack_whole;
      ack_small = kit.ack_small;
      code = kit.code;
      ram = kit.ram;
      free = kit.free;
      may = kit.may;
      device = kit.device;
      word_18 = at 0x18 (omega arith) ∙ kit.word_18;
      word_20 = at 0x20 (omega arith) ∙ kit.word_20;
      word_24 = at 0x24 (omega arith) ∙ kit.word_24;
      word_28 = at 0x28 (omega arith) ∙ kit.word_28;
      word_2c = at 0x2C (omega arith) ∙ kit.word_2c;
      word_30 = at 0x30 (omega arith) ∙ kit.word_30;
      word_34 = at 0x34 (omega arith) ∙ kit.word_34;
      word_38 = at 0x38 (omega arith) ∙ kit.word_38;
      word_3c = at 0x3C (omega arith) ∙ kit.word_3c;
      word_40 = at 0x40 (omega arith) ∙ kit.word_40;
      word_44 = at 0x44 (omega arith) ∙ kit.word_44;
      word_48 = at 0x48 (omega arith) ∙ kit.word_48;
      word_4c = at 0x4C (omega arith) ∙ kit.word_4c;
    }

pub kit-beside : {b : Board} {work ack : ℕ} (k : Scratch) (p : State) → IsKit b work ack p.memory → IsKit b work ack (beside work k p).memory
kit-beside {work = work} k p kit = let low = kit.low in kit-same (store p.memory work k.bytes) kit (λ x h. store-below p.memory work k.bytes x (omega arith))

moved-low : (b : Board) (work : ℕ) (accesses : List Access) (m : Bytes) (x : ℕ) → AllByRecursion (IsOwn b work) accesses → x < 0x50 → moved b m accesses x ≡ m x
unfolding memory_after
moved-low b work [] m x own h = refl
moved-low b work (Fetch a w ∷ rest) m x own h = moved-low b work rest m x own.1 h
moved-low b work (Load a w ∷ rest) m x own h = moved-low b work rest m x own.1 h
moved-low b work (Store a w v ∷ rest) m x own h = moved-low b work rest (cond (in_memory b a (bytes_in w)) (store m a (bytes_of v (bytes_in w))) m) x own.1 h ∙ go (in_memory b a (bytes_in w))
  where
    go : (c : Bool) → cond c (store m a (bytes_of v (bytes_in w))) m x ≡ m x
    go true = let high = own.0.1 in store-below m a (bytes_of v (bytes_in w)) x (omega arith)
    go false = refl

-- a step of own accesses leaves vectors and handler
pub low-kept : (b : Board) (work : ℕ) (s : State) (lines : Levels) (answers : List ℕ) (i : Instruction) → AllByRecursion (IsOwn b work) (stepped b s lines answers i).accesses
    → (x : ℕ) → x < 0x50 → (stepped b s lines answers i).state.memory x ≡ s.memory x
low-kept b work s lines answers i own x h =
    let adds = step-adds b s lines i (fetched b s answers) in
    ap (λ (m : Bytes). m x) (adds.memory answers (λ f. refl))
    ∙ moved-low b work adds.made s.memory x (subst (AllByRecursion (IsOwn b work)) (adds.accesses answers (λ f. refl)) own) h

-- ---- IRQ mode

pub bank-irq : (x : ℕ) → bits x 0 5 ≡ 0x12 → bank_in x ≡ 2
unfolding bank_in mode_in mode_named
bank-irq x e = rw e refl

pub in-irq : (s : State) → bank_in s.core.cpsr ≡ 2 → in_irq s ≡ true
in-irq s h = go (bits s.core.cpsr 0 5 == 0x12) refl
  where
    go : (c : Bool) → (bits s.core.cpsr 0 5 == 0x12) ≡ c → (bits s.core.cpsr 0 5 == 0x12) ≡ true
    go true e = e
    go false e = absurd (other-bank s.core.cpsr (λ i. never (sym e ∙ eq-eqb (bits s.core.cpsr 0 5) 0x12 i)) h)
      where
        never : false ≡ true → ⊥
        never h = cc

pub out-of-irq : (s : State) → bank_in s.core.cpsr ≢ 2 → in_irq s ≡ false
out-of-irq s h = not-eq (bits s.core.cpsr 0 5) 0x12 (λ e. h (bank-irq s.core.cpsr e))
