-- The rows of a placement boot: the startup code with their table leads from every permitted state to
-- the entry, in exactly the steps that they take, and the memory is then the view.
use Rattle.std.proofs.Common.{◌≡◌, ◌≢◌, ℕ, zero, suc, ◌+◌, ◌-◌, ◌*◌, ◌/◌, ◌%◌, ◌^◌, ◌<◌, ◌≤◌, Bool, true, false, ◌==◌, nat_lt, if◌then◌else◌, List, [], ◌∷◌, ◌++◌, length, get_or, refl, ap, subst, ◌∙◌, arith, ◌⊎◌, inl, inr, Some, length-append, ltb-true}
use Rattle.std.specs.Prelude.{slice_index}
use Rattle.std.proofs.Math.ListN.{get_or-append}
use Rattle.sdt_word.specs.Bytes.{bytes_of, number_of, word}
use Rattle.sdt_word.proofs.BytesLemmas.{number_of-bytes_of}
use Rattle.arm7_model.specs.Memory.{Bytes, Board}
use Rattle.arm7_model.specs.Registers.{State}
use Rattle.arm7_model.specs.ArmStep.{arm_condition}
use Rattle.arm7_model.proofs.Steps.{compared-equal, compared-other}
use Rattle.arm7_model.proofs.MemoryLemmas.{load-same, not-eq}
use Rattle.boot_code.specs.declared.rows.CopyRow.{CopyRow}
use Rattle.boot_code.specs.declared.rows.ZeroRow.{ZeroRow}
use Rattle.boot_code.specs.Words.{boot_list, boot_instructions}
use Rattle.boot_code.specs.Startup.{HasWords, copy_words, zero_words, table_list, copied, cleared, copied_words, zeroed_words, copies_steps, parts_steps, startup_steps, IsEntered}
use Rattle.boot_code.specs.Laws.{StartupIsExact, StartupBoots, bound_of, written_by}
use Rattle.boot_code.specs.Boots.{ByteMap, InRanges, CanStart, BootsIn, HoldsWord, HoldsWords, AllCopies, AllParts, CopyPlaced, ZeroPlaced, Places, moved, zeroed}
use Rattle.boot_code.proofs.Ordinary.{booted_by}
use Rattle.boot_code.proofs.WordsRead.{boot_reads}
use Rattle.boot_code.proofs.CodeSteps.{World, Code, IsReadable, IsFree, Good, Low, Go, code_reads, longer, still, narrowed_free, begun, skip, branch, enter_0, computes, loads}
use Rattle.boot_code.proofs.CodeSteps.Computes.{address_0, compare, clear_4}
use Rattle.boot_code.proofs.CodeSteps.Loads.{load_0, take_three, take_two}
use Rattle.boot_code.proofs.BootLoops.{Copying, IsBoot, Head, Parts, copy_row, clears}
use Rattle.boot_code.proofs.ViewLemmas.{cleared-at, copied-at, moved-some, zeroed-some, moved-outside, zeroed-outside}

-- ---- words in the memory

words-after : (m : Bytes) (p : ℕ) (xs ys : List ℕ) → HasWords m p (xs ++ ys) → HasWords m (p + 4 * length xs) ys
words-after m p [] ys h = let At : ℕ → Type 0 = λ k. HasWords m k ys in subst At (omega arith) h
words-after m p (x ∷ xs) ys (first, later) = let At : ℕ → Type 0 = λ k. HasWords m k ys in subst At (omega arith) (words-after m (p + 4) xs ys later)

-- ---- the rows

module _ {W : World} {S : Code W} (w : IsBoot S) (files view : ByteMap) (written : ℕ → Bool) (a e : ℕ)
    (copying : (r : CopyRow) → CopyPlaced files view written a e r → Copying S r.source r.target r.size)
    (free : (r : ZeroRow) → ZeroPlaced view written a e r → IsFree S r.base (r.base + r.size)) where
  -- the end of the copies: a row of zeros
  copies_end : (p : ℕ) {n : ℕ} {m : Bytes} {Q : State → Type 0} → word S.origin (p + 4 + 4) ≡ 0 → S.start ≤ p → p + 12 < S.end → p % 4 ≡ 0
      → Parts w n (p + 4 + 4 + 4) m Q → Head w (4 + n) p m Q
  copies_end p none low high whole next g status k at same good =
      let room = S.readable.room in
      let is_none = still (g.r0 + 4 + 4) good (omega arith) (omega arith) ∙ ap (λ (x : ℕ). word S.origin (x + 4 + 4)) at ∙ none in
      longer (omega arith)
      (loads {x = g.r0} (w 1 refl) take_three tt (omega arith) S.readable (omega arith) (omega arith) (omega arith)
      (computes (w 2 refl) compare tt
      (branch (w 3 refl) (w 32 refl) (compared-equal _ _ 0 (omega arith) (omega arith) is_none) refl
      (computes (w 32 refl) clear_4 tt
      (next _ _ _ (omega arith) refl same))))) good

  copies_run : (rows : List CopyRow) (tail : List ℕ) (p : ℕ) {n : ℕ} {m : Bytes} {Q : State → Type 0}
      → AllCopies (CopyPlaced files view written a e) rows → HasWords S.origin p (copy_words rows ++ tail)
      → S.start ≤ p → p + 4 * length (copy_words rows ++ tail) ≤ S.end → 0 < length tail → p % 4 ≡ 0
      → Head w n (p + 4 * length (copy_words rows)) (copied m rows) Q → Head w (copies_steps rows + n) p m Q
  copies_run [] tail p fits words low high more whole next g status k at same = longer (omega arith) (next g status k (omega arith) same)
  copies_run (r ∷ rows) tail p (f, fits) words low high more whole next g status k at same =
      let some = f.some in let small = f.small in let c_whole = f.words in let s_room = f.source_room in let t_room = f.target_room in
      let other : (r.size == 0) ≡ false = not-eq r.size 0 (λ z. omega arith) in
      let (e1, (e2, (e3, later))) = rw other at words in
      let inside = rw other at high in
      let all = length-append (copy_words rows) tail in
      longer (omega arith)
      (copy_row w r.source r.target r.size p e1 e2 e3 low (omega arith) whole some c_whole (omega arith) (omega arith) (omega arith) (copying r f)
      (copies_run rows tail (p + 4 + 4 + 4) fits later (omega arith) (omega arith) more (omega arith)
      (λ g' f' k' at' same'. (rw other at next) g' f' k' (omega arith) same')) g status k at same)

  parts_end : (p entry : ℕ) {m : Bytes} → HasWords S.origin p (0 ∷ 0 ∷ entry ∷ []) → S.start ≤ p → p + 12 ≤ S.end → p % 4 ≡ 0 → entry % 4 ≢ 2
      → Parts w 5 p m (IsEntered entry m)
  parts_end p entry (w0, (w1, (w2, _))) low high whole fair g status k at none same good =
      let room = S.readable.room in
      let is_none = still (g.r0 + 4) good (omega arith) (omega arith) ∙ ap (λ (x : ℕ). word S.origin (x + 4)) at ∙ w1 in
      let here : (g.r0 + 8) % 4294967296 ≡ p + 4 + 4 = omega arith in
      let is_entry = still ((g.r0 + 8) % 4294967296) good (omega arith) (omega arith) ∙ ap (word S.origin) here ∙ w2 in
      loads {x = g.r0} (w 33 refl) take_two tt (omega arith) S.readable (omega arith) (omega arith) (omega arith)
      (computes (w 34 refl) compare tt
      (branch (w 35 refl) (w 40 refl) (compared-equal _ _ 0 (omega arith) (omega arith) is_none) refl
      (loads {x = (g.r0 + 8) % 4294967296} (w 40 refl) load_0 tt (omega arith) S.readable (omega arith) (omega arith) (omega arith)
      (enter_0 (w 41 refl) is_entry same fair)))) good

  parts_run : (rows : List ZeroRow) (entry p : ℕ) {m : Bytes} → AllParts (ZeroPlaced view written a e) rows → HasWords S.origin p (zero_words rows ++ (0 ∷ 0 ∷ entry ∷ []))
      → S.start ≤ p → p + 4 * length (zero_words rows ++ (0 ∷ 0 ∷ entry ∷ [])) ≤ S.end → p % 4 ≡ 0 → entry % 4 ≢ 2
      → Parts w (parts_steps rows + 5) p m (IsEntered entry (cleared m rows))
  unfolding arm_condition
  parts_run [] entry p fits words low high whole fair g status k at none same good = parts_end p entry words low (omega arith) whole fair g status k at none same good
  parts_run (r ∷ rows) entry p {m} (f, fits) words low high whole fair g status k at none same good =
      let some = f.some in let small = f.small in let c_whole = f.words in let t_room = f.room in let t_whole = f.whole in
      let other : (r.size == 0) ≡ false = not-eq r.size 0 (λ z. omega arith) in
      let (e1, (e2, later)) = rw other at words in
      let inside = rw other at high in
      let all = length-append (zero_words rows) (0 ∷ 0 ∷ entry ∷ []) in
      let room = S.readable.room in
      let b_is : word k g.r0 ≡ r.base = still g.r0 good (omega arith) (omega arith) ∙ ap (word S.origin) at ∙ e1 in
      let c_is : word k (g.r0 + 4) ≡ r.size = still (g.r0 + 4) good (omega arith) (omega arith) ∙ ap (λ (x : ℕ). word S.origin (x + 4)) at ∙ e2 in
      longer (omega arith)
      (loads {x = g.r0} (w 33 refl) take_two tt (omega arith) S.readable (omega arith) (omega arith) (omega arith)
      (computes (w 34 refl) compare tt
      (skip (w 35 refl) (compared-other _ (word k (g.r0 + 4)) 0 (omega arith) (omega arith) (λ z. omega arith))
      (clears w (r.size / 4 - 1) (omega arith) (omega arith) none (omega arith) (narrowed_free (free r f) (omega arith) (omega arith)) (omega arith)
      (λ g' f' k' at' none' same'. parts_run rows entry (p + 4 + 4) fits later (omega arith) (omega arith) (omega arith) fair g' f' k' at' none' (same' ∙ rw (b_is, c_is, same) refl)))))) good

  -- the startup code with its table reaches the entry in exactly these steps
  startup_run : (copies : List CopyRow) (parts : List ZeroRow) (entry : ℕ) {status : ℕ} {g : Low} {m : Bytes}
      → AllCopies (CopyPlaced files view written a e) copies → AllParts (ZeroPlaced view written a e) parts → entry % 4 ≢ 2
      → HasWords S.origin (S.start + 168) (table_list copies parts entry) → S.end ≡ S.start + 168 + 4 * length (table_list copies parts entry)
      → Go S (startup_steps copies parts) g 0 status m (IsEntered entry (cleared (copied m copies) parts))
  startup_run copies parts entry copy_fits part_fits fair words size =
      let end = 0 ∷ 0 ∷ entry ∷ [] in
      let tail = 0 ∷ 0 ∷ 0 ∷ (zero_words parts ++ end) in
      let whole = S.multiple in let room = S.readable.room in
      let all = length-append (copy_words copies) tail in
      let some = length-append (zero_words parts) end in
      let (w0, (w1, (w2, later))) = words-after S.origin (S.start + 168) (copy_words copies) tail words in
      longer (omega arith)
      (computes (w 0 refl) address_0 tt
      (copies_run copies tail (S.start + 168) copy_fits words (omega arith) (omega arith) (omega arith) (omega arith)
      (copies_end _ w2 (omega arith) (omega arith) (omega arith)
      (parts_run parts entry _ part_fits later (omega arith) (omega arith) (omega arith) fair)) _ _ _ (omega arith) refl))

-- ---- a placement

word-held : (files : ByteMap) (m : Bytes) (p w : ℕ) → ((x b : ℕ) → files x ≡ Some b → m x ≡ b) → HoldsWord files p w → word m p ≡ w
word-held files m p w held h =
    ap number_of (load-same m (λ k. get_or (bytes_of w 4) k 0) p 0 4
    (λ k lt. held (p + k) (get_or (bytes_of w 4) k 0) (h.each k lt) ∙ ap (λ (j : ℕ). get_or (bytes_of w 4) j 0) (omega arith)))
    ∙ number_of-bytes_of w 4 h.is_word

words-held : (files : ByteMap) (m : Bytes) (p : ℕ) (ws : List ℕ) → ((x b : ℕ) → files x ≡ Some b → m x ≡ b) → HoldsWords files p ws → HasWords m p ws
words-held files m p [] held h = tt
words-held files m p (w ∷ ws) held (first, later) = (word-held files m p w held first, words-held files m (p + 4) ws held later)

held-at : (files : ByteMap) (p : ℕ) (ws : List ℕ) (i : ℕ) → HoldsWords files p ws → i < length ws → HoldsWord files (p + 4 * i) (get_or ws i 0)
held-at files p [] i h lt = absurd (omega arith)
held-at files p (w ∷ ws) zero h lt = let At : ℕ → Type 0 = λ k. HoldsWord files k w in subst At (omega arith) h.0
held-at files p (w ∷ ws) (suc i) h lt = let At : ℕ → Type 0 = λ k. HoldsWord files k (get_or ws i 0) in subst At (omega arith) (held-at files (p + 4) ws i h.1 (omega arith))

-- each address of the words has a byte in the files
inside : (files : ByteMap) (p : ℕ) (ws : List ℕ) (x : ℕ) → HoldsWords files p ws → p ≤ x → x < p + 4 * length ws → (b : ℕ) × (files x ≡ Some b)
inside files p ws x h low high =
    let word_held = held-at files p ws ((x - p) / 4) h (omega arith) in
    (slice_index (bytes_of (get_or ws ((x - p) / 4) 0) 4) ((x - p) % 4), ap files (omega arith) ∙ word_held.each ((x - p) % 4) (omega arith))

module _ (files view : ByteMap) (written : ℕ → Bool) (copies : List CopyRow) (parts : List ZeroRow) (entry a : ℕ) (p : Places files view written copies parts entry a)
    (board : Board) (s : State) (c : CanStart files view written a board s) where
  held : (x b : ℕ) → files x ≡ Some b → s.memory x ≡ b
  held x b h = (c.loaded x b h).1

  abbrev world : World
  world = record { board = board; Allowed = InRanges files view; rest = s.core }

  abbrev area : List ℕ
  area = boot_list ++ table_list copies parts entry

  area_words : HasWords s.memory a area
  area_words = words-held files s.memory a area held p.area

  counted : length area ≡ 42 + length (table_list copies parts entry)
  counted = length-append boot_list (table_list copies parts entry)

  area_readable : IsReadable world a (a + 4 * length area)
  area_readable = record {
    room = p.room;
    mapped = λ x low high. let (b, at) = inside files a area x p.area low high in (c.loaded x b at).0;
    allowed = λ x low high. inl (inside files a area x p.area low high);
  }

  abbrev code : Code world
  code = record { origin = s.memory; start = a; end = a + 4 * length area; multiple = p.multiple; readable = area_readable }

  boot : IsBoot code
  boot i h =
      let some : 1 ≤ length (table_list copies parts entry) =
      omega (arith, length-append (copy_words copies) (0 ∷ 0 ∷ 0 ∷ (zero_words parts ++ (0 ∷ 0 ∷ entry ∷ [])))) in
      code_reads code boot_list boot_instructions 0 boot_reads
      (λ i lt. ap (word s.memory) (omega arith) ∙ word-held files s.memory (a + 4 * i) (get_or area i 0) held (held-at files a area i p.area (omega (arith, counted))) ∙ get_or-append boot_list (table_list copies parts entry) 0 i lt)
      (omega (arith, counted, some)) i i (omega arith) (ltb-true i 42 h)

  off : (b n : ℕ) → (b + n ≤ a) ⊎ (a + (a + 4 * length area - a) ≤ b) → (b + n ≤ a) ⊎ (a + 4 * length area ≤ b)
  off b n (inl h) = inl h
  off b n (inr h) = inr (omega arith)

  to_view : (b n : ℕ) → b + n ≤ 2 ^ 32 → ((k : ℕ) → k < n → (v : ℕ) × (view (b + k) ≡ Some v)) → ((k : ℕ) → k < n → written (b + k) ≡ true) → (b + n ≤ a) ⊎ (a + (a + 4 * length area - a) ≤ b) → IsFree code b (b + n)
  to_view b n room shown may apart = record {
    readable = record {
      room = room;
      mapped = λ x low high. let (v, at) = shown (x - b) (omega arith) in c.there x v (ap view (omega arith) ∙ at);
      allowed = λ x low high. let (v, at) = shown (x - b) (omega arith) in inr (v, ap view (omega arith) ∙ at);
    };
    writable = λ x low high. c.writable x (ap written (omega arith) ∙ may (x - b) (omega arith));
    apart = off b n apart;
  }

  copying : (r : CopyRow) → CopyPlaced files view written a (a + 4 * length area) r → Copying code r.source r.target r.size
  copying r h = record {
    source_whole = h.source_whole;
    target_whole = h.target_whole;
    from = record {
      room = h.source_room;
      mapped = λ x low high. let (b, at) = h.from_files (x - r.source) (omega arith) in (c.loaded x b (ap files (omega arith) ∙ at)).0;
      allowed = λ x low high. let (b, at) = h.from_files (x - r.source) (omega arith) in inl (b, ap files (omega arith) ∙ at);
    };
    to = to_view r.target r.size h.target_room h.to_view h.to_written h.off_area;
  }

  free : (r : ZeroRow) → ZeroPlaced view written a (a + 4 * length area) r → IsFree code r.base (r.base + r.size)
  free r h = to_view r.base r.size h.room h.in_view h.to_written h.off_area

  -- the memory at the end
  final : (x : ℕ) → cleared (copied s.memory copies) parts x ≡ zeroed 0 (moved s.memory copies) parts x
  final x = cleared-at (copied s.memory copies) parts x ∙ ap (λ (f : Bytes). zeroed 0 f parts x) (λ i y. copied-at s.memory copies y p.in_order i)

  pub boots_in : BootsIn (startup_steps copies parts) files view entry board s
  boots_in inputs =
      let good : Good code s.core.cpsr s.memory = record { quiet = record { arm = c.arm; fiq_masked = c.fiq_masked; irq_masked = c.irq_masked }; same = λ x low high. refl; bytes = c.valid.memory } in
      let (t, run, entered) = begun board (InRanges files view) s (a + 0) c.valid.core.visible.count (c.pc ∙ omega arith)
      (λ g. startup_run boot files view written a (a + 4 * length area) copying free copies parts entry p.each_copy p.each_part p.fair
      (words-after s.memory a boot_list (table_list copies parts entry) area_words) (omega (arith, counted)) good) in
      booted_by run entered.masked (λ accesses safe. record {
        pc = entered.pc;
        thumb = entered.thumb;
        shown = λ x b h. ap (λ (m : Bytes). m x) entered.memory ∙ final x ∙ zeroed-some (moved files copies) (moved s.memory copies) parts x b (moved-some files s.memory copies x b held) (p.shows x b h);
        elsewhere = λ x none.
            ap (λ (m : Bytes). m x) entered.memory ∙ final x ∙ zeroed-outside view written a _ (moved s.memory copies) parts x none p.each_part
            ∙ moved-outside files view written a _ s.memory copies x none p.each_copy;
        safe = safe;
      }) inputs

-- ---- the law, and the bound

row-bound : (c : ℕ) (d b : Bool) → (if d then 6 + 5 * (c / 32) else 9 + 5 * (c / 32) + 4 * (c % 32 / 4)) + (if b then 2 else 0) ≤ 16 + 4 * (c / 4)
row-bound c true true = omega arith
row-bound c true false = omega arith
row-bound c false true = omega arith
row-bound c false false = omega arith

copies-bound : (rows : List CopyRow) → copies_steps rows ≤ 16 * length rows + 4 * copied_words rows
copies-bound [] = omega arith
copies-bound (r ∷ rows) = let rest = copies-bound rows in let row = row-bound r.size (r.size % 32 / 4 == 0) (nat_lt r.source r.target) in omega arith

parts-bound : (rows : List ZeroRow) → parts_steps rows ≤ 12 * length rows + 3 * zeroed_words rows
parts-bound [] = omega arith
parts-bound (r ∷ rows) = let rest = parts-bound rows in omega arith

pub startup-bound : (copies : List CopyRow) (parts : List ZeroRow) → startup_steps copies parts ≤ bound_of copies parts
startup-bound copies parts = omega (arith, copies-bound copies, parts-bound parts)

pub startup_is_exact : StartupIsExact
startup_is_exact = boots_in

pub startup_boots : StartupBoots
startup_boots files view copies parts entry a p board s c =
    (startup_steps copies parts, startup-bound copies parts, startup_is_exact files view (written_by copies parts) copies parts entry a p board s c)
