-- A relocatable AIF boots from every address, and one that isn't from its own: its header's calls in
-- turn, and the memory at the end.
use Rattle.std.proofs.Common.{◌≡◌, ℕ, suc, ◌+◌, ◌-◌, ◌*◌, ◌/◌, ◌%◌, ◌^◌, ◌<◌, ◌≤◌, Bool, true, false, ◌==◌, ◌||◌, if◌then◌else◌, cond, List, [], ◌∷◌, length, refl, sym, ap, subst, ◌∙◌, arith, ◌⊎◌, inl, inr, Some, None, ltb-true}
use Rattle.sdt_word.specs.Bytes.{bytes_of, number_of, word}
use Rattle.sdt_word.proofs.BytesLemmas.{length-bytes_of}
use Rattle.sdt_word.specs.declared.codes.Condition.TheVariants.{Al}
use Rattle.arm_isa.specs.declared.instr.ArmInstr.TheVariants.{BranchExchange, TransferImmediate}
use Rattle.arm_isa.specs.ArmRows.{ReadsArm}
use Rattle.arm7_model.specs.Memory.{Bytes, Board, store}
use Rattle.arm7_model.specs.Registers.{State, register, is_thumb}
use Rattle.arm7_model.proofs.Leading.{here, lasting}
use Rattle.arm7_model.proofs.Steps.{IsQuiet}
use Rattle.arm7_model.proofs.MemoryLemmas.{word-store_apart, load-same, store-below, store-above, store-in, below_or_not}
use Rattle.boot_code.specs.Words.{relocator_list, relocator_instructions}
use Rattle.boot_code.specs.Startup.{zeros, IsEntered}
use Rattle.boot_code.specs.Boots.{ByteMap, InRanges, CanStart, BootsIn, covers}
use Rattle.boot_code.specs.Aif.{Offsets, relocated, marked, moved_image, started_image, clear_steps, aif_steps, IsHeader, IsRelocatable, IsFixed, HasVeneer, IsFixedLoadable, FixedAifIsExact, FixedAifVeneerIsExact, FixedAifBoots, FixedAifVeneerBoots, file_at, shifted_file, aif_written, IsLoadable, AifIsExact, AifVeneerIsExact, AifBoots, AifVeneerBoots, aif_bound}
use Rattle.boot_code.proofs.Ordinary.{booted_by}
use Rattle.boot_code.proofs.WordsRead.{relocator_reads}
use Rattle.boot_code.proofs.ViewLemmas.{length-zeros, covers-inside, covers-true, covers-false, covers-off, apart_store}
use Rattle.boot_code.proofs.CodeSteps.{World, Run, IsReadable, Code, Good, Low, placed, longer, narrowed, word_reads, code_reads, begun, link, enter_12, still, computes, loads}
use Rattle.boot_code.proofs.CodeSteps.Computes.{nothing}
use Rattle.boot_code.proofs.CodeSteps.Loads.{load_entry}
use Rattle.boot_code.proofs.AifRuns.{From, from, reads_link, reads_nothing, relocator_run, clear_run}

reads_veneer_load : ReadsArm 0xE59FC000 (TransferImmediate Al true true false false true 15 12 0)
reads_veneer_load = grind arith

reads_veneer_exchange : ReadsArm 0xE12FFF1C (BranchExchange Al 12)
reads_veneer_exchange = grind arith

-- the entry in ARM state
entered_arm : (W : World) (g : Low) (status entry : ℕ) (m : Bytes) → entry % 2 ≡ 0 → IsQuiet status → IsEntered entry m (placed W g entry status m)
unfolding register is_thumb
entered_arm W g status entry m even q = record {
  pc = omega arith;
  thumb = rw (q.arm, even) refl;
  memory = refl;
  masked = record { fiq = q.fiq_masked; irq = q.irq_masked };
}

-- ---- what the calls leave alone

-- a word of the header, off the two that are marked
marked-word : (m : Bytes) (b x : ℕ) → (x + 4 ≤ b + 4) ⊎ (b + 8 ≤ x) → (x + 4 ≤ b + 40) ⊎ (b + 44 ≤ x) → word (marked m b) x ≡ word m x
marked-word m b x off_call off_base = word-store_apart (store m (b + 40) (bytes_of b 4)) (b + 4) (bytes_of 0xE1A00000 4) x (beside 4 off_call) ∙ word-store_apart m (b + 40) (bytes_of b 4) x (beside 40 off_base)
  where
    beside : (o : ℕ) → (x + 4 ≤ b + o) ⊎ (b + (o + 4) ≤ x) → (x + 4 ≤ b + o) ⊎ (b + o + 4 ≤ x)
    beside o (inl h) = inl h
    beside o (inr h) = inr (omega arith)

relocated-word : (m : Bytes) (b d limit : ℕ) (offsets : List ℕ) (x : ℕ) → Offsets limit offsets → x + 4 ≤ b + 128 → word (relocated m b d offsets) x ≡ word m x
relocated-word m b d limit [] x fits h = refl
relocated-word m b d limit (o ∷ offsets) x (o_whole, o_low, o_high, fits) h =
    relocated-word (store m (b + o) (bytes_of ((word m (b + o) + d) % 4294967296) 4)) b d limit offsets x fits h
    ∙ word-store_apart m (b + o) (bytes_of ((word m (b + o) + d) % 4294967296) 4) x (inl (omega arith))

moved-word : (m : Bytes) (b base limit : ℕ) (offsets : List ℕ) (x : ℕ) → Offsets limit offsets → x + 4 ≤ b + 128
    → (x + 4 ≤ b + 4) ⊎ (b + 8 ≤ x) → (x + 4 ≤ b + 40) ⊎ (b + 44 ≤ x) → word (moved_image m b base offsets) x ≡ word m x
moved-word m b base limit offsets x fits h off_call off_base = go (b == base)
  where
    go : (c : Bool) → word (if c then marked m b else relocated (marked m b) b ((b + 4294967296 - base) % 4294967296) offsets) x ≡ word m x
    go true = marked-word m b x off_call off_base
    go false = relocated-word (marked m b) b _ limit offsets x fits h ∙ marked-word m b x off_call off_base

moved_header : (k : Bytes) (b parts zero_size base e : ℕ) (offsets : List ℕ) → Offsets parts offsets → IsHeader k b parts zero_size e → IsHeader (moved_image k b base offsets) b parts zero_size e
moved_header k b parts zero_size base e offsets fits h =
    let still : (x : ℕ) → x + 4 ≤ b + 128 → (x + 4 ≤ b + 4) ⊎ (b + 8 ≤ x) → (x + 4 ≤ b + 40) ⊎ (b + 44 ≤ x) → word (moved_image k b base offsets) x ≡ word k x =
    λ x high call place. moved-word k b base parts offsets x fits high call place in
    record {
      parts_whole = h.parts_whole;
      parts_low = h.parts_low;
      parts_small = h.parts_small;
      zero_whole = h.zero_whole;
      zero_small = h.zero_small;
      entry_whole = h.entry_whole;
      entry_low = h.entry_low;
      entry_high = h.entry_high;
      entry_near = h.entry_near;
      nothing = still b (omega arith) (inl (omega arith)) (inl (omega arith)) ∙ h.nothing;
      clear_call = still (b + 8) (omega arith) (inr (omega arith)) (inl (omega arith)) ∙ h.clear_call;
      entry_call = still (b + 12) (omega arith) (inr (omega arith)) (inl (omega arith)) ∙ h.entry_call;
      sizes = omega (arith, still (b + 20) (omega arith) (inr (omega arith)) (inl (omega arith)), still (b + 24) (omega arith) (inr (omega arith)) (inl (omega arith)), h.sizes);
      zero_word = still (b + 32) (omega arith) (inr (omega arith)) (inl (omega arith)) ∙ h.zero_word;
      clear_code = λ i lt. still (b + 64 + 4 * i) (omega arith) (inr (omega arith)) (inr (omega arith)) ∙ h.clear_code i lt;
    }

-- ---- the memory m with the bytes of k from b on, n of them; what the calls write lies there

abbrev merged : Bytes → Bytes → ℕ → ℕ → Bytes
merged m k b n x = if covers b n x then k x else m x

merged-in : (m k : Bytes) (b n x : ℕ) → b ≤ x → x < b + n → merged m k b n x ≡ k x
merged-in m k b n x low high = rw (covers-inside b n x low high) refl

merged-off : (m k : Bytes) (b n x : ℕ) → (x < b) ⊎ (b + n ≤ x) → merged m k b n x ≡ m x
merged-off m k b n x off = rw (covers-off b n x off) refl

merged-same : (m k : Bytes) (b n : ℕ) → ((x : ℕ) → b ≤ x → x < b + n → m x ≡ k x) → m ≡ merged m k b n
merged-same m k b n h i x = go (covers b n x) refl i
  where
    go : (c : Bool) → covers b n x ≡ c → m x ≡ (if c then k x else m x)
    go true e = let inside = covers-true b n x e in h x inside.0 inside.1
    go false e = refl

store-same : (m k : Bytes) (a : ℕ) (bs : List ℕ) (x : ℕ) → m x ≡ k x → store m a bs x ≡ store k a bs x
store-same m k a [] x h = h
store-same m k a (v ∷ bs) x h = ap (λ (y : ℕ). cond (x == a) v y) (store-same m k (suc a) bs x h)

store-merged : (m k : Bytes) (b n a : ℕ) (bs : List ℕ) → b ≤ a → a + length bs ≤ b + n → store (merged m k b n) a bs ≡ merged m (store k a bs) b n
store-merged m k b n a bs low high i x = go (covers b n x) refl i
  where
    aside : (x < b) ⊎ (b + n ≤ x) → (x < a) ⊎ (a + length bs ≤ x)
    aside (inl h) = inl (omega arith)
    aside (inr h) = inr (omega arith)

    go : (c : Bool) → covers b n x ≡ c → store (merged m k b n) a bs x ≡ (if c then store k a bs x else m x)
    go true e = store-same (merged m k b n) k a bs x (rw e refl)
    go false e = apart_store (merged m k b n) a bs x (aside (covers-false b n x e)) ∙ rw e refl

word-merged : (m k : Bytes) (b n x : ℕ) → b ≤ x → x + 4 ≤ b + n → word (merged m k b n) x ≡ word k x
word-merged m k b n x low high = ap number_of (load-same (merged m k b n) k x x 4 (λ i lt. merged-in m k b n (x + i) (omega arith) (omega arith)))

marked-merged : (m k : Bytes) (b n : ℕ) → 128 ≤ n → marked (merged m k b n) b ≡ merged m (marked k b) b n
marked-merged m k b n low =
    ap (λ (f : Bytes). store f (b + 4) (bytes_of 0xE1A00000 4)) (store-merged m k b n (b + 40) (bytes_of b 4) (omega arith) (omega (arith, length-bytes_of b 4)))
    ∙ store-merged m (store k (b + 40) (bytes_of b 4)) b n (b + 4) (bytes_of 0xE1A00000 4) (omega arith) (omega arith)

relocated-merged : (m k : Bytes) (b d n : ℕ) (offsets : List ℕ) → Offsets n offsets → relocated (merged m k b n) b d offsets ≡ merged m (relocated k b d offsets) b n
relocated-merged m k b d n [] fits = refl
relocated-merged m k b d n (o ∷ offsets) (o_whole, o_low, o_high, fits) =
    let v = (word k (b + o) + d) % 4294967296 in
    let size = length-bytes_of v 4 in
    ap (λ (w : ℕ). relocated (store (merged m k b n) (b + o) (bytes_of ((w + d) % 4294967296) 4)) b d offsets) (word-merged m k b n (b + o) (omega arith) (omega arith))
    ∙ ap (λ (f : Bytes). relocated f b d offsets) (store-merged m k b n (b + o) (bytes_of v 4) (omega arith) (omega arith))
    ∙ relocated-merged m (store k (b + o) (bytes_of v 4)) b d n offsets fits

moved-merged : (m k : Bytes) (b base n : ℕ) (offsets : List ℕ) → 128 ≤ n → Offsets n offsets → moved_image (merged m k b n) b base offsets ≡ merged m (moved_image k b base offsets) b n
moved-merged m k b base n offsets low fits = go (b == base)
  where
    go : (c : Bool) → (if c then marked (merged m k b n) b else relocated (marked (merged m k b n) b) b ((b + 4294967296 - base) % 4294967296) offsets)
        ≡ merged m (if c then marked k b else relocated (marked k b) b ((b + 4294967296 - base) % 4294967296) offsets) b n
    go true = marked-merged m k b n low
    go false = ap (λ (f : Bytes). relocated f b ((b + 4294967296 - base) % 4294967296) offsets) (marked-merged m k b n low) ∙ relocated-merged m (marked k b) b _ n offsets fits

-- ---- a file in the memory

-- its parts and its zero part have their place in the view, and the zero part is written
record IsLaid (file : List ℕ) (parts zero_size b : ℕ) (written : ℕ → Bool) (view : ByteMap) : Type 0 where
  whole : b % 4 ≡ 0
  low : 128 ≤ parts
  file_room : b + length file ≤ 2 ^ 32
  zero_room : b + parts + zero_size ≤ 2 ^ 32
  fits : parts ≤ length file
  complete : (x : ℕ) → b ≤ x → x < b + parts + zero_size → (v : ℕ) × (view x ≡ Some v)
  free : (x : ℕ) → b + parts ≤ x → x < b + parts + zero_size → written x ≡ true

module _ (file : List ℕ) (parts zero_size b : ℕ) (written : ℕ → Bool) (view : ByteMap) (l : IsLaid file parts zero_size b written view)
    (board : Board) (s : State) (c : CanStart (file_at file b) view written b board s) where
  abbrev W : World
  W = record { board = board; Allowed = InRanges (file_at file b) view; rest = s.core }

  abbrev k : Bytes
  k = shifted_file file b

  in_file : (x : ℕ) → b ≤ x → x < b + length file → file_at file b x ≡ Some (k x)
  in_file x low high = rw (covers-inside b (length file) x low high) refl

  stands : (x : ℕ) → b ≤ x → x < b + length file → s.memory x ≡ k x
  stands x low high = (c.loaded x (k x) (in_file x low high)).1

  from_file : IsReadable W b (b + length file)
  from_file = record { room = l.file_room; mapped = λ x low high. (c.loaded x (k x) (in_file x low high)).0; allowed = λ x low high. inl (k x, in_file x low high) }

  in_view : IsReadable W b (b + parts + zero_size)
  in_view = record { room = l.zero_room; mapped = λ x low high. let (v, at) = l.complete x low high in c.there x v at; allowed = λ x low high. inr (l.complete x low high) }

  all_same : s.memory ≡ merged s.memory k b parts
  all_same = merged-same s.memory k b parts (λ x low high. stands x low (omega (arith, l.fits)))

  head_readable : IsReadable W b (b + 128)
  head_readable = narrowed from_file (omega arith) (omega (arith, l.low, l.fits))

  -- the header's first two words
  abbrev head : Code W
  head = record { origin = k; start = b; end = b + 128; multiple = l.whole; readable = head_readable }

  good : Good head s.core.cpsr s.memory
  good = record { quiet = record { arm = c.arm; fiq_masked = c.fiq_masked; irq_masked = c.irq_masked }; same = λ x low high. stands x low (omega (arith, l.low, l.fits)); bytes = c.valid.memory }

  -- n steps lead to the third word, with the memory m
  abbrev Begins : ℕ → Bytes → Type 1
  Begins n m = (g : Low) (j : ℕ) (Q : State → Type 0) → From W j (b + 8) m Q → Run W (n + j) (placed W g (b + 0) s.core.cpsr s.memory) Q

  fixed_begins : {e : ℕ} → IsFixed k b parts zero_size e → Begins 2 s.memory
  fixed_begins i g j Q next =
      longer (omega arith)
      (computes (word_reads head 0 0xE1A00000 (ap (word k) (omega arith) ∙ i.header.nothing) (omega arith) reads_nothing) nothing tt
      (computes (word_reads head 1 0xE1A00000 i.no_call (omega arith) reads_nothing) nothing tt
      (λ good. next _ _ _ _ good.quiet good.bytes refl refl))) good

  relocator_whole : parts % 4 ≡ 0 → (b + parts) % 4 ≡ 0
  relocator_whole h = omega (arith, l.whole)

  relocator_readable : IsReadable W (b + parts) (b + length file)
  relocator_readable = narrowed from_file (omega arith) (omega arith)

  abbrev relocator : parts % 4 ≡ 0 → Code W
  relocator h = record { origin = k; start = b + parts; end = b + length file; multiple = relocator_whole h; readable = relocator_readable }

  moved_begins : (base : ℕ) {e : ℕ} (offsets : List ℕ) → IsRelocatable k b parts zero_size base e offsets → length file ≡ parts + 60 + 4 * length offsets + 4 → ((x : ℕ) → b ≤ x → x < b + parts → written x ≡ true)
      → Begins (2 + (if b == base then 7 else 15 + 6 * length offsets)) (moved_image s.memory b base offsets)
  moved_begins base offsets i size may g j Q next =
      let h = i.header in let low = h.parts_low in let small = h.parts_small in let parts_whole = h.parts_whole in let room = l.file_room in let whole = l.whole in
      let R = relocator parts_whole in
      longer (omega arith)
      (computes (word_reads head 0 0xE1A00000 (ap (word k) (omega arith) ∙ h.nothing) (omega arith) reads_nothing) nothing tt
      (link {k = (parts - 12) / 4} {target = b + parts + 0} (word_reads head 1 _ i.move_call (omega arith) (reads_link ((parts - 12) / 4) (omega arith))) (omega arith) (omega arith) (omega arith)
      (λ good. relocator_run {S = R} (λ i' lt. code_reads R relocator_list relocator_instructions 0 relocator_reads (λ j lt. ap (word k) (omega arith) ∙ i.move_code j lt) (omega arith) i' i' (omega arith) (ltb-true i' 15 lt)) b parts refl parts_whole low
      (record { readable = narrowed from_file (omega arith) (omega arith); writable = λ x low high. c.writable x (may x low high); apart = inl (omega arith) })
      base offsets refl (still {S = head} b good (omega arith) (omega arith) ∙ h.nothing) (still {S = head} (b + 40) good (omega arith) (omega arith) ∙ i.base_word) i.base_small (omega arith) i.list_fits i.list_words next
      (record { quiet = good.quiet; same = λ x above below. stands x (omega arith) below; bytes = good.bytes })))) good

  -- the image x stands in the memory m when the header's second call has returned
  module _ (e : ℕ) (x m : Bytes) (same : m ≡ merged s.memory x b parts) (i : IsHeader x b parts zero_size e) where
    abbrev final : Bytes
    final = store m (b + parts) (zeros zero_size)

    size : length (zeros zero_size) ≡ zero_size
    size = length-zeros zero_size

    inside : (y : ℕ) → b ≤ y → y < b + parts + zero_size → final y ≡ store x (b + parts) (zeros zero_size) y
    inside y low high = go (below_or_not y (b + parts))
      where
        go : (y < b + parts) ⊎ (b + parts ≤ y) → final y ≡ store x (b + parts) (zeros zero_size) y
        go (inl lt) = store-same m x (b + parts) (zeros zero_size) y (ap (λ (f : Bytes). f y) same ∙ merged-in s.memory x b parts y low lt)
        go (inr le) = store-in m (b + parts) (zeros zero_size) y le (omega (arith, size)) ∙ sym (store-in x (b + parts) (zeros zero_size) y le (omega (arith, size)))

    outside : (y : ℕ) → view y ≡ None → final y ≡ s.memory y
    outside y none = go (below_or_not y b) (below_or_not y (b + parts + zero_size))
      where
        no_value : (v : ℕ) → None ≡ Some v → ⊥
        no_value v h = cc

        go : (y < b) ⊎ (b ≤ y) → (y < b + parts + zero_size) ⊎ (b + parts + zero_size ≤ y) → final y ≡ s.memory y
        go (inl lt) _ = store-below m (b + parts) (zeros zero_size) y (omega arith) ∙ ap (λ (f : Bytes). f y) same ∙ merged-off s.memory x b parts y (inl lt)
        go (inr le) (inr high) = store-above m (b + parts) (zeros zero_size) y (omega (arith, size)) ∙ ap (λ (f : Bytes). f y) same ∙ merged-off s.memory x b parts y (inr (omega arith))
        go (inr le) (inl lt) = let (v, at) = l.complete y le lt in absurd (no_value v (sym none ∙ at))

    booted : (n total extra entry : ℕ) → n + (clear_steps zero_size + suc extra) ≡ total
        → ((y v : ℕ) → view y ≡ Some v → (b ≤ y) × (y < b + parts + zero_size) × (store x (b + parts) (zeros zero_size) y ≡ v))
        → Begins n m → From W extra (b + e) final (IsEntered entry final) → BootsIn total (file_at file b) view entry board s
    booted n total extra entry steps shows begins enters inputs =
        let low = l.low in
        let (t, run, entered) = begun board (InRanges (file_at file b) view) s (b + 0) c.valid.core.visible.count (c.pc ∙ omega arith) (λ g. begins g _ _
        (clear_run b l.whole x parts zero_size e i in_view (λ y low high. ap (λ (f : Bytes). f y) same ∙ merged-in s.memory x b parts y (omega arith) (omega arith))
        (record { readable = narrowed in_view (omega arith) (omega arith); writable = λ y low high. c.writable y (l.free y low high); apart = inr (omega arith) }) enters)) in
        booted_by (lasting steps run) entered.masked (λ accesses safe. record {
          pc = entered.pc;
          thumb = entered.thumb;
          shown = λ y v h. let at = shows y v h in ap (λ (f : Bytes). f y) entered.memory ∙ inside y at.0 at.1 ∙ at.2;
          elsewhere = λ y none. ap (λ (f : Bytes). f y) entered.memory ∙ outside y none;
          safe = safe;
        }) inputs

    -- the entry in ARM state, and by a veneer
    straight : From W 0 (b + e) final (IsEntered (b + e) final)
    straight = from W (b + e) refl (λ g status q bytes. let whole = l.whole in let e_whole = i.entry_whole in (_, here, entered_arm W g status (b + e) _ (omega arith) q))

    by_veneer : (entry : ℕ) → HasVeneer (store x (b + parts) (zeros zero_size)) b parts e entry → From W 2 (b + e) final (IsEntered entry final)
    by_veneer entry v =
        let e_whole = i.entry_whole in let room = v.fits in let whole = l.whole in
        let S : Code W = record { origin = store x (b + parts) (zeros zero_size); start = b + e; end = b + e + 12; multiple = omega arith; readable = narrowed in_view (omega arith) (omega arith) } in
        from W (b + e + 0) (omega arith) (λ g status q bytes.
        loads {S = S} {x = b + e + 8} (word_reads S 0 0xE59FC000 (ap (word S.origin) (omega arith) ∙ v.load_word) (omega arith) reads_veneer_load) load_entry tt (omega arith) S.readable (omega arith) (omega arith) (omega arith)
        (λ good. enter_12 (word_reads S 1 0xE12FFF1C v.exchange_word (omega arith) reads_veneer_exchange) (still {S = S} (b + e + 8) good (omega arith) (omega arith) ∙ v.target) refl v.fair good)
        (record { quiet = q; same = λ y low high. inside y (omega arith) (omega arith); bytes = bytes }))

-- ---- a relocatable image

module _ (file : List ℕ) (parts zero_size base e : ℕ) (offsets : List ℕ) (b : ℕ) (view : ByteMap) (l : IsLoadable file parts zero_size base e offsets b view)
    (board : Board) (s : State) (c : CanStart (file_at file b) view (aif_written file b parts zero_size) b board s) where
  free : (x : ℕ) → b ≤ x → x < b + parts + zero_size → aif_written file b parts zero_size x ≡ true
  free x low high = go (below_or_not x (b + length file))
    where
      or_true : (p : Bool) → (p || true) ≡ true
      or_true true = refl
      or_true false = refl

      go : (x < b + length file) ⊎ (b + length file ≤ x) → aif_written file b parts zero_size x ≡ true
      go (inl lt) = rw (covers-inside b (length file) x low lt) refl
      go (inr le) = rw (covers-inside (b + parts) zero_size x (omega (arith, l.size)) (omega arith)) (or_true (covers b (length file) x))

  laid : IsLaid file parts zero_size b (aif_written file b parts zero_size) view
  laid = record {
    whole = l.whole;
    low = l.image.header.parts_low;
    file_room = l.file_room;
    zero_room = l.zero_room;
    fits = omega (arith, l.size);
    complete = l.shows.whole;
    free = λ x low high. free x (omega arith) high;
  }

  image_same : moved_image s.memory b base offsets ≡ merged s.memory (moved_image (shifted_file file b) b base offsets) b parts
  image_same =
      ap (λ (f : Bytes). moved_image f b base offsets) (all_same file parts zero_size b _ view laid board s c)
      ∙ moved-merged s.memory (shifted_file file b) b base parts offsets l.image.header.parts_low l.image.list_fits

  header : IsHeader (moved_image (shifted_file file b) b base offsets) b parts zero_size e
  header = moved_header (shifted_file file b) b parts zero_size base e offsets l.image.list_fits l.image.header

  exactly : (extra entry : ℕ) → From (W file parts zero_size b _ view laid board s c) extra (b + e) (started_image s.memory b parts zero_size base offsets) (IsEntered entry (started_image s.memory b parts zero_size base offsets))
      → BootsIn (aif_steps b base zero_size (length offsets) + extra) (file_at file b) view entry board s
  exactly extra entry enters =
      booted file parts zero_size b _ view laid board s c e _ _ image_same header (2 + (if b == base then 7 else 15 + 6 * length offsets)) _ extra entry (omega arith) l.shows.inside
      (moved_begins file parts zero_size b _ view laid board s c base offsets l.image l.size (λ x low high. free x low (omega arith))) enters

  in_arm : BootsIn (aif_steps b base zero_size (length offsets) + 0) (file_at file b) view (b + e) board s
  in_arm = exactly 0 (b + e) (straight file parts zero_size b _ view laid board s c e _ _ image_same header)

  through_veneer : (entry : ℕ) → HasVeneer (started_image (shifted_file file b) b parts zero_size base offsets) b parts e entry → BootsIn (aif_steps b base zero_size (length offsets) + 2) (file_at file b) view entry board s
  through_veneer entry v = exactly 2 entry (by_veneer file parts zero_size b _ view laid board s c e _ _ image_same header entry v)

pub aif_is_exact : AifIsExact
aif_is_exact file parts zero_size base e offsets b view l board s c =
    let In : ℕ → Type 0 = λ k. BootsIn k (file_at file b) view (b + e) board s in
    subst In (omega arith) (in_arm file parts zero_size base e offsets b view l board s c)

pub aif_veneer_is_exact : AifVeneerIsExact
aif_veneer_is_exact file parts zero_size base e entry offsets b view l v board s c = through_veneer file parts zero_size base e offsets b view l board s c entry v

steps-bound : (b base zero_size k : ℕ) → aif_steps b base zero_size k + 2 ≤ aif_bound k zero_size
steps-bound b base zero_size k = go (b == base) (zero_size == 0)
  where
    go : (c z : Bool) → 3 + (if c then 7 else 15 + 6 * k) + (if z then 1 else 10 + 3 * (zero_size / 4)) + 2 ≤ 32 + 7 * k + 4 * (zero_size / 4)
    go true true = omega arith
    go true false = omega arith
    go false true = omega arith
    go false false = omega arith

pub aif_boots : AifBoots
aif_boots file parts zero_size base e offsets view loads b whole file_room zero_room board s c =
    (aif_steps b base zero_size (length offsets), omega (arith, steps-bound b base zero_size (length offsets)), aif_is_exact file parts zero_size base e offsets b (view b) (loads b whole file_room zero_room) board s c)

pub aif_veneer_boots : AifVeneerBoots
aif_veneer_boots file parts zero_size base e offsets view entry loads veneers b whole file_room zero_room board s c = (
  aif_steps b base zero_size (length offsets) + 2,
  steps-bound b base zero_size (length offsets),
  aif_veneer_is_exact file parts zero_size base e (entry b) offsets b (view b) (loads b whole file_room zero_room) (veneers b whole file_room zero_room) board s c,
)

-- ---- an image that isn't relocatable

module _ (file : List ℕ) (parts zero_size e b : ℕ) (view : ByteMap) (l : IsFixedLoadable file parts zero_size e b view)
    (board : Board) (s : State) (c : CanStart (file_at file b) view (covers (b + parts) zero_size) b board s) where
  fixed_laid : IsLaid file parts zero_size b (covers (b + parts) zero_size) view
  fixed_laid = record {
    whole = l.whole;
    low = l.image.header.parts_low;
    file_room = omega (arith, l.size, l.room);
    zero_room = l.room;
    fits = omega (arith, l.size);
    complete = l.complete;
    free = covers-inside (b + parts) zero_size;
  }

  fixed_same : s.memory ≡ merged s.memory (shifted_file file b) b parts
  fixed_same = all_same file parts zero_size b _ view fixed_laid board s c

  fixed_exactly : (extra entry : ℕ) → From (W file parts zero_size b _ view fixed_laid board s c) extra (b + e) (store s.memory (b + parts) (zeros zero_size)) (IsEntered entry (store s.memory (b + parts) (zeros zero_size)))
      → BootsIn (3 + clear_steps zero_size + extra) (file_at file b) view entry board s
  fixed_exactly extra entry enters =
      booted file parts zero_size b _ view fixed_laid board s c e _ _ fixed_same l.image.header 2 _ extra entry (omega arith) l.inside (fixed_begins file parts zero_size b _ view fixed_laid board s c l.image) enters

  fixed_in_arm : BootsIn (3 + clear_steps zero_size + 0) (file_at file b) view (b + e) board s
  fixed_in_arm = fixed_exactly 0 (b + e) (straight file parts zero_size b _ view fixed_laid board s c e _ _ fixed_same l.image.header)

  -- the veneer is the file's, below the zero part
  fixed_through_veneer : (entry : ℕ) → HasVeneer (shifted_file file b) b parts e entry → BootsIn (3 + clear_steps zero_size + 2) (file_at file b) view entry board s
  fixed_through_veneer entry v =
      let room = v.fits in
      let off : (x : ℕ) → x + 4 ≤ b + parts → word (store (shifted_file file b) (b + parts) (zeros zero_size)) x ≡ word (shifted_file file b) x = λ x low. word-store_apart (shifted_file file b) (b + parts) (zeros zero_size) x (inl low) in
      fixed_exactly 2 entry (by_veneer file parts zero_size b _ view fixed_laid board s c e _ _ fixed_same l.image.header entry
      (record { fits = v.fits; load_word = off (b + e) (omega arith) ∙ v.load_word; exchange_word = off (b + e + 4) (omega arith) ∙ v.exchange_word; target = off (b + e + 8) (omega arith) ∙ v.target; fair = v.fair }))

pub fixed_aif_is_exact : FixedAifIsExact
fixed_aif_is_exact file parts zero_size e b view l board s c =
    let In : ℕ → Type 0 = λ k. BootsIn k (file_at file b) view (b + e) board s in
    subst In (omega arith) (fixed_in_arm file parts zero_size e b view l board s c)

pub fixed_aif_veneer_is_exact : FixedAifVeneerIsExact
fixed_aif_veneer_is_exact file parts zero_size e entry b view l v board s c = fixed_through_veneer file parts zero_size e b view l board s c entry v

fixed-bound : (zero_size : ℕ) → 3 + clear_steps zero_size + 2 ≤ aif_bound 0 zero_size
fixed-bound zero_size = go (zero_size == 0)
  where
    go : (z : Bool) → 3 + (if z then 1 else 10 + 3 * (zero_size / 4)) + 2 ≤ 32 + 4 * (zero_size / 4)
    go true = omega arith
    go false = omega arith

pub fixed_aif_boots : FixedAifBoots
fixed_aif_boots file parts zero_size e b view l board s c =
    (3 + clear_steps zero_size, omega (arith, fixed-bound zero_size), fixed_aif_is_exact file parts zero_size e b view l board s c)

pub fixed_aif_veneer_boots : FixedAifVeneerBoots
fixed_aif_veneer_boots file parts zero_size e entry b view l v board s c =
    (3 + clear_steps zero_size + 2, fixed-bound zero_size, fixed_aif_veneer_is_exact file parts zero_size e entry b view l v board s c)
