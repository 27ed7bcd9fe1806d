-- The runs of the relocator and of the zero-init code, and an AIF's header around them.
use Rattle.std.proofs.Common.{◌≡◌, ◌≢◌, ℕ, zero, suc, ◌+◌, ◌-◌, ◌*◌, ◌/◌, ◌%◌, ◌^◌, ◌<◌, ◌≤◌, Bool, true, false, ◌==◌, if◌then◌else◌, nat_lt, List, [], ◌∷◌, ◌++◌, length, get_or, refl, sym, ap, ap₂, subst, ◌∙◌, arith, inl, eqb-true, ltb-true}
use Rattle.std.proofs.lemmas.Bool.{eqb-false}
use Rattle.sdt_word.specs.Numbers.{bit}
use Rattle.sdt_word.specs.Bytes.{bytes_of, word}
use Rattle.sdt_word.specs.declared.codes.Condition.TheVariants.{Al}
use Rattle.sdt_word.specs.declared.codes.ShiftKind.TheVariants.{Lsl}
use Rattle.arm_isa.specs.declared.instr.ArmInstr.TheVariants.{Branch, DataShifted, SoftwareInterrupt}
use Rattle.arm_isa.specs.declared.instr.Operation.TheVariants.{Mov}
use Rattle.arm_isa.specs.ArmRows.{ReadsArm}
use Rattle.arm7_model.specs.Memory.{Bytes, store}
use Rattle.arm7_model.specs.Registers.{State}
use Rattle.arm7_model.specs.ArmStep.{arm_condition}
use Rattle.arm7_model.proofs.Steps.{IsQuiet, compared, added, compared-equal, compared-other, added-zero, added-other}
use Rattle.arm7_model.proofs.MemoryLemmas.{word-store_apart, store-below}
use Rattle.boot_code.specs.Words.{zero_code, zero_instructions, relocator_instructions}
use Rattle.boot_code.specs.Startup.{HasWords, zeros}
use Rattle.boot_code.specs.Aif.{Offsets, marked, relocated, moved_image, clear_steps, IsHeader}
use Rattle.boot_code.proofs.WordsRead.{zero_reads}
use Rattle.boot_code.proofs.CodeSteps.{World, Run, IsReadable, Code, IsFree, Reads, Low, placed, Go, longer, narrowed, narrowed_free, still, word_reads, code_reads, skip, branch, link, return, computes, loads, stores}
use Rattle.boot_code.proofs.CodeSteps.Computes.{nothing, address_2, count, compare, compare_negative, add_01, add_02, add_shift, clear_1, back, shift}
use Rattle.boot_code.proofs.CodeSteps.Loads.{load_next, load_1, load_2, load_3, load_named}
use Rattle.boot_code.proofs.CodeSteps.Stores.{store_zero, store_0, store_2, store_named}
use Rattle.boot_code.proofs.BootLoops.{fill}

-- n steps lead on from the word at pc, with this memory
abbrev pub From : World → ℕ → ℕ → Bytes → (State → Type 0) → Type 0
From W n pc m Q = (g : Low) (status at : ℕ) (k : Bytes) → IsQuiet status → ((x : ℕ) → k x < 256) → at ≡ pc → k ≡ m → Run W n (placed W g at status k) Q

pub from : (W : World) {n : ℕ} {m : Bytes} {Q : State → Type 0} {pc : ℕ} (place : ℕ) → pc ≡ place
    → ((g : Low) (status : ℕ) → IsQuiet status → ((x : ℕ) → m x < 256) → Run W n (placed W g place status m) Q) → From W n pc m Q
from W {n} {m} {Q} {pc} place there run g status at k q bytes e same =
    let At : ℕ → Type 0 = λ x. Run W n (placed W g x status k) Q in
    let Over : Bytes → Type 0 = λ x. ((y : ℕ) → x y < 256) → Run W n (placed W g place status x) Q in
    subst At (sym (e ∙ there)) (subst Over (sym same) (run g status q) bytes)

pub reads_link : (k : ℕ) → k < 2 ^ 23 → ReadsArm (0xEB000000 + k) (Branch Al true k)
reads_link k h = grind arith

pub reads_nothing : ReadsArm 0xE1A00000 (DataShifted Al Mov false 0 0 0 Lsl 0)
reads_nothing = grind arith

-- ---- the relocator, at b + limit, for an image at b

module _ {W : World} {S : Code W} (w : (i : ℕ) → nat_lt i 15 ≡ true → Reads S i (get_or relocator_instructions i (SoftwareInterrupt Al 0)))
    (b limit : ℕ) (place : S.start ≡ b + limit) (limit_whole : limit % 4 ≡ 0) (low : 128 ≤ limit) (f : IsFree S b S.start) where
  -- the list: each word named gets the shift
  list_run : (d : ℕ) (offsets : List ℕ) (p : ℕ) {n status : ℕ} {g : Low} {m : Bytes} {Q : State → Type 0}
      → S.start + 60 ≤ p → p % 4 ≡ 0 → p + 4 * length offsets + 4 ≤ S.end → d < 2 ^ 32 → g.r0 ≡ b → g.r1 ≡ d → g.r2 ≡ p → g.r14 ≡ b + 8
      → Offsets limit offsets → HasWords S.origin p (offsets ++ 0xFFFFFFFF ∷ []) → From W n (b + 8) (relocated m b d offsets) Q
      → Go S (6 * length offsets + 7 + n) g 8 status m Q
  unfolding arm_condition
  list_run d [] p {g = g} {m} above p_whole below small e0 e1 e2 e14 fits (last, _) next good =
      let room = S.readable.room in let multiple = S.multiple in
      let is_last = still g.r2 good (omega arith) (omega arith) ∙ ap (word S.origin) e2 ∙ last in
      let z : (status : ℕ) → bit (added status (word m g.r2) 1) 30 ≡ 1 = λ status. added-zero status (word m g.r2) 1 (omega arith) (omega arith) (omega arith) in
      longer (omega arith)
      (loads (w 8 refl) load_next tt refl S.readable (omega arith) (omega arith) (omega arith)
      (computes (w 9 refl) compare_negative tt
      (skip (w 10 refl) (z _)
      (skip (w 11 refl) (z _)
      (skip (w 12 refl) (z _)
      (skip (w 13 refl) (z _)
      (return (w 14 refl) tt (omega arith)
      (λ good'. next _ _ _ _ good'.quiet good'.bytes e14 refl)))))))) good
  list_run d (o ∷ offsets) p {status = status} {g} {m} above p_whole below small e0 e1 e2 e14 (o_whole, o_low, o_high, fits) (first, later) next good =
      let room = S.readable.room in let multiple = S.multiple in
      let named = still g.r2 good (omega arith) (omega arith) ∙ ap (word S.origin) e2 ∙ first in
      let z : bit (added status (word m g.r2) 1) 30 ≡ 0 = added-other status (word m g.r2) 1 (omega arith) (omega arith) (omega arith) (λ h. omega arith) in
      longer (omega arith)
      (loads (w 8 refl) load_next tt refl S.readable (omega arith) (omega arith) (omega arith)
      (computes (w 9 refl) compare_negative tt
      (loads {x = b + o} (w 10 refl) load_named z (omega arith) f.readable (omega arith) (omega arith) (omega arith)
      (computes (w 11 refl) add_shift z
      (stores {x = b + o} (w 12 refl) (w 13 refl) store_named z (omega arith) f (omega arith) (omega arith) (omega arith)
      (branch (w 13 refl) (w 8 refl) z refl
      (list_run d offsets (p + 4) (omega arith) (omega arith) (omega arith) small e0 e1 (omega arith) e14 fits later
      (λ g' s at k q bytes e same. next g' s at k q bytes e (same ∙ ap (λ (v : ℕ). relocated (store m (b + o) (bytes_of v 4)) b d offsets) (omega arith)))))))))) good

  -- the header is marked as moved
  begins : (base : ℕ) {n status : ℕ} {g : Low} {m : Bytes} {Q : State → Type 0} → g.r14 ≡ b + 8 → word m b ≡ 0xE1A00000 → word m (b + 40) ≡ base → base < 2 ^ 32
      → ((h : Low) (k : Bytes) (flags : ℕ) → h.r0 ≡ b → h.r1 ≡ (b + 2 ^ 32 - base) % 2 ^ 32 → h.r14 ≡ b + 8 → k ≡ marked m b → (b ≡ base → bit flags 30 ≡ 1) → (b ≢ base → bit flags 30 ≡ 0)
      → Go S n h 6 flags k Q)
      → Go S (6 + n) g 0 status m Q
  begins base {g = g} {m} e14 first based small next =
      let room = S.readable.room in let multiple = S.multiple in
      let r = (g.r14 + 4294967287 + 1) % 4294967296 in
      let is_b : r ≡ b = omega arith in
      let m1 = store m (b + 40) (bytes_of r 4) in
      let still_first : word m1 b ≡ 0xE1A00000 = word-store_apart m (b + 40) (bytes_of r 4) b (inl (omega arith)) ∙ first in
      longer (omega arith)
      (computes (w 0 refl) back tt
      (loads {x = b + 40} (w 1 refl) load_1 tt (omega arith) f.readable (omega arith) (omega arith) (omega arith)
      (computes (w 2 refl) shift tt
      (stores {x = b + 40} (w 3 refl) (w 4 refl) store_0 tt (omega arith) f (omega arith) (omega arith) (omega arith)
      (loads {x = b} (w 4 refl) load_2 tt (omega arith) f.readable (omega arith) (omega arith) (omega arith)
      (stores {x = b + 4} (w 5 refl) (w 6 refl) store_2 tt (omega arith) f (omega arith) (omega arith) (omega arith)
      (next _ _ _ is_b (omega arith) e14
      (ap (λ (v : ℕ). store m1 (b + 4) (bytes_of v 4)) still_first ∙ ap (λ (v : ℕ). store (store m (b + 40) (bytes_of v 4)) (b + 4) (bytes_of 0xE1A00000 4)) is_b)
      (λ same. compared-equal _ r (word m (b + 40)) (omega arith) (omega arith) (omega arith))
      (λ other. compared-other _ r (word m (b + 40)) (omega arith) (omega arith) (λ h. other (omega arith))))))))))

  pub relocator_run : (base : ℕ) (offsets : List ℕ) {n status : ℕ} {g : Low} {m : Bytes} {Q : State → Type 0}
      → g.r14 ≡ b + 8 → word m b ≡ 0xE1A00000 → word m (b + 40) ≡ base → base < 2 ^ 32 → S.start + 60 + 4 * length offsets + 4 ≤ S.end → Offsets limit offsets → HasWords S.origin (S.start + 60) (offsets ++ 0xFFFFFFFF ∷ [])
      → From W n (b + 8) (moved_image m b base offsets) Q → Go S ((if b == base then 7 else 15 + 6 * length offsets) + n) g 0 status m Q
  unfolding arm_condition
  relocator_run base offsets {n} {status} {g} {m} {Q} e14 first based small below fits words = go (b == base) refl
    where
      go : (c : Bool) → (b == base) ≡ c → From W n (b + 8) (if c then marked m b else relocated (marked m b) b ((b + 4294967296 - base) % 4294967296) offsets) Q → Go S ((if c then 7 else 15 + 6 * length offsets) + n) g 0 status m Q
      go true h next =
          let multiple = S.multiple in
          longer (omega arith)
          (begins base e14 first based small (λ g' k flags e0 e1 e14' same z _.
          return (w 6 refl) (z (eqb-true b base h)) (omega arith) (λ good'. next _ _ _ _ good'.quiet good'.bytes e14' same)))
      go false h next =
          let room = S.readable.room in let multiple = S.multiple in
          longer (omega arith)
          (begins base e14 first based small (λ g' k flags e0 e1 e14' same _ z.
          skip (w 6 refl) (z (eqb-false b base h))
          (computes (w 7 refl) address_2 tt
          (list_run ((b + 4294967296 - base) % 4294967296) offsets (S.start + 60) (omega arith) (omega arith) below (omega arith) e0 e1 (omega arith) e14' fits words
          (λ g s at k q bytes e same'. next g s at k q bytes e (same' ∙ ap (λ (m : Bytes). relocated m b ((b + 4294967296 - base) % 4294967296) offsets) same))))))

-- ---- the zero-init code, in a header at b

module _ {W : World} {S : Code W} (w : (i : ℕ) → nat_lt i 12 ≡ true → Reads S (14 + i) (get_or zero_instructions i (SoftwareInterrupt Al 0))) (b : ℕ) (place : S.start ≡ b + 8) (high : b + 36 ≤ S.end) where
  zero_loop : (j : ℕ) {n status : ℕ} {g : Low} {m : Bytes} {Q : State → Type 0}
      → g.r3 ≡ 4 * suc j → g.r3 < 2 ^ 32 → g.r1 ≡ 0 → g.r0 % 4 ≡ 0 → IsFree S g.r0 (g.r0 + g.r3) → g.r14 ≡ b + 12 → bit status 30 ≡ 0
      → From W n (b + 12) (store m g.r0 (zeros g.r3)) Q → Go S (3 * suc j + 1 + n) g 22 status m Q
  unfolding arm_condition
  zero_loop zero {g = g} {m} e small none whole f e14 z next =
      let multiple = S.multiple in
      longer (omega arith)
      (stores (w 8 refl) (w 9 refl) store_zero z refl f (omega arith) (omega arith) whole
      (computes (w 9 refl) count z
      (skip (w 10 refl) (compared-equal _ g.r3 4 small (omega arith) e)
      (return (w 11 refl) tt (omega arith)
      (λ good'. next _ _ _ _ good'.quiet good'.bytes e14 (fill m g.r1 g.r0 g.r3 _ 0 none refl e))))))
  zero_loop (suc j) {status = status} {g} {m} e small none whole f e14 z next =
      let room = f.readable.room in
      let again : bit (compared status g.r3 4) 30 ≡ 0 = compared-other status g.r3 4 small (omega arith) (λ h. omega arith) in
      longer (omega arith)
      (stores (w 8 refl) (w 9 refl) store_zero z refl f (omega arith) (omega arith) whole
      (computes (w 9 refl) count z
      (branch (w 10 refl) (w 8 refl) again refl
      (zero_loop j (omega arith) (omega arith) none (omega arith) (narrowed_free f (omega arith) (omega arith)) e14 again
      (λ g' s at k q bytes e' same. next g' s at k q bytes e' (same ∙ fill m g.r1 g.r0 g.r3 _ _ none (omega arith) (omega arith)))))))

  -- the zero part behind parts of two sizes
  zero_run : (parts zero_size : ℕ) {n status : ℕ} {g : Low} {m : Bytes} {Q : State → Type 0}
      → g.r14 ≡ b + 12 → word S.origin (b + 20) + word S.origin (b + 24) ≡ parts → word S.origin (b + 32) ≡ zero_size
      → parts % 4 ≡ 0 → 0 < zero_size → zero_size % 4 ≡ 0 → zero_size < 2 ^ 32 → IsFree S (b + parts) (b + parts + zero_size)
      → From W n (b + 12) (store m (b + parts) (zeros zero_size)) Q → Go S (9 + 3 * (zero_size / 4) + n) g 14 status m Q
  zero_run parts zero_size {g = g} {m} e14 sizes counted parts_whole some zero_whole small f next good =
      let room = f.readable.room in let multiple = S.multiple in
      let first = still (b + 20) good (omega arith) (omega arith) in
      let second = still (b + 24) good (omega arith) (omega arith) in
      let size : word m (b + 32) ≡ zero_size = still (b + 32) good (omega arith) (omega arith) ∙ counted in
      longer (omega arith)
      (computes (w 0 refl) back tt
      (loads {x = b + 20} (w 1 refl) load_1 tt (omega arith) S.readable (omega arith) (omega arith) (omega arith)
      (loads {x = b + 24} (w 2 refl) load_2 tt (omega arith) S.readable (omega arith) (omega arith) (omega arith)
      (loads {x = b + 32} (w 3 refl) load_3 tt (omega arith) S.readable (omega arith) (omega arith) (omega arith)
      (computes (w 4 refl) add_01 tt
      (computes (w 5 refl) add_02 tt
      (computes (w 6 refl) clear_1 tt
      (computes (w 7 refl) compare tt
      (zero_loop (zero_size / 4 - 1) (omega arith) (omega arith) refl (omega arith) (narrowed_free f (omega arith) (omega arith)) e14
      (compared-other _ (word m (b + 32)) 0 (omega arith) (omega arith) (λ h. omega arith))
      (λ g' s at k q bytes e same. next g' s at k q bytes e (same ∙ ap₂ (λ (t c : ℕ). store m t (zeros c)) (omega arith) size))))))))))) good

-- ---- the header's two last calls, over a memory with these words from b + 8 on

module _ {W : World} (b : ℕ) (whole : b % 4 ≡ 0) (x : Bytes) (parts zero_size e : ℕ) (i : IsHeader x b parts zero_size e) (readable : IsReadable W b (b + parts + zero_size)) where
  room : b + parts + zero_size ≤ 4294967296
  room = readable.room

  pub called_whole : (b + 8) % 4 ≡ 0
  called_whole = omega arith

  pub called_readable : IsReadable W (b + 8) (b + 128)
  called_readable = narrowed readable (omega arith) (omega (arith, i.parts_low))

  abbrev pub called : Code W
  called = record { origin = x; start = b + 8; end = b + 128; multiple = called_whole; readable = called_readable }

  -- a memory in which they stand
  abbrev pub Stands : Bytes → Type 0
  Stands m = (y : ℕ) → b + 8 ≤ y → y < b + 128 → m y ≡ x y

  entry_run : {n : ℕ} {m : Bytes} {Q : State → Type 0} → Stands m → From W n (b + e) m Q → From W (suc n) (b + 12) m Q
  entry_run same next = from W (b + 8 + 4) (omega arith) (λ g status q bytes.
      let near = i.entry_near in let high = i.entry_high in let low = i.entry_low in let e_whole = i.entry_whole in
      link {S = called} {k = (e - 20) / 4} {target = b + e} (word_reads called 1 _ (ap (word x) (omega arith) ∙ i.entry_call) (omega arith) (reads_link ((e - 20) / 4) (omega arith))) (omega arith) (omega arith) (omega arith)
      (λ good. next _ _ _ _ good.quiet good.bytes refl refl)
      (record { quiet = q; same = same; bytes = bytes }))

  pub clear_run : {n : ℕ} {m : Bytes} {Q : State → Type 0} → Stands m → IsFree called (b + parts) (b + parts + zero_size)
      → From W n (b + e) (store m (b + parts) (zeros zero_size)) Q → From W (clear_steps zero_size + suc n) (b + 8) m Q
  clear_run {n} {m} {Q} same f next = from W (b + 8 + 0) (omega arith) (λ g status q bytes. go (zero_size == 0) refl g status (record { quiet = q; same = same; bytes = bytes }))
    where
      zero_words : (i : ℕ) → nat_lt i 12 ≡ true → Reads called (14 + i) (get_or zero_instructions i (SoftwareInterrupt Al 0))
      zero_words j lt = code_reads called zero_code zero_instructions 14 zero_reads (λ j lt. ap (word x) (omega arith) ∙ i.clear_code j lt) (omega arith) j (14 + j) refl (ltb-true j 12 lt)

      go : (c : Bool) → (zero_size == 0) ≡ c → (g : Low) (status : ℕ) → Go called ((if c then 1 else 10 + 3 * (zero_size / 4)) + suc n) g 0 status m Q
      go true h g status =
          let Call : Bool → Type 0 = λ c. word x (b + 8) ≡ (if c then 0xE1A00000 else 0xEB00000C) in
          longer (omega arith)
          (computes (word_reads called 0 _ (ap (word x) (omega arith) ∙ subst Call h i.clear_call) (omega arith) reads_nothing) nothing tt
          (λ good. entry_run same (λ g s at k q bytes e' same'. next g s at k q bytes e' (same' ∙ ap (λ (z : ℕ). store m (b + parts) (zeros z)) (sym (eqb-true zero_size 0 h)))) _ _ _ _ good.quiet good.bytes (omega arith) refl))
      go false h g status =
          let Call : Bool → Type 0 = λ c. word x (b + 8) ≡ (if c then 0xE1A00000 else 0xEB00000C) in
          let some = eqb-false zero_size 0 h in let low = i.parts_low in
          longer (omega arith)
          (link {k = 12} {target = b + 8 + 56} (word_reads called 0 _ (ap (word x) (omega arith) ∙ subst Call h i.clear_call) (omega arith) (reads_link 12 (omega arith))) (omega arith) (omega arith) (omega arith)
          (zero_run {S = called} zero_words b refl (omega arith) parts zero_size (omega arith) i.sizes i.zero_word i.parts_whole (omega (arith, some)) i.zero_whole i.zero_small f
          (entry_run (λ y above below. store-below m (b + parts) (zeros zero_size) y (omega arith) ∙ same y above below) next)))
