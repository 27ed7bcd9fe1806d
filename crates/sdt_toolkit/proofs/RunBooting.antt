-- A linked image, as a run by its map, of its ELF executable or of its ARM image file has it: it is one that starts.
use Rattle.std.proofs.Common.{◌≡◌, ◌⊎◌, inl, inr, ℕ, ◌+◌, ◌-◌, ◌%◌, ◌^◌, ◌<◌, ◌≤◌, Bool, true, false, cond, ◌==◌, ◌||◌, List, [], ◌∷◌, length, map, Option, Some, None, Ok, Err, eq-eqb, refl, sym, ap, ◌∙◌, subst, arith}
use Rattle.std.specs.Prelude.{nat_lt, slice_index, unwrap_or}
use Rattle.std.specs.List.{AllByRecursion}
use Rattle.std.proofs.lemmas.Bool.Decides.{nat_tests}
use Rattle.sdt_word.specs.Numbers.{flag}
use Rattle.sdt_fault.specs.declared.kinds.FileKind.TheVariants as file_kind
use Rattle.sdt_fault.specs.declared.refusal.Refusal.TheVariants.{BadImage}
use Rattle.arm7_model.proofs.MemoryLemmas.{below_or_not, store-in}
use Rattle.arm7_bus.specs.Seats.{has_access}
use Rattle.boot_code.specs.Aif.{file_at}
use Rattle.boot_code.specs.Boots.{Boots, ByteMap, covers}
use Rattle.boot_code.proofs.ViewLemmas.{covers-true}
use Rattle.boot_code.specs.Maps.{map_of}
use Rattle.chunk_file.specs.Grammar.{AreBytes}
use Rattle.place_model.proofs.ListLemmas.{all_map}
use Rattle.place_model.specs.declared.scatter.Kind.TheVariants as kind
use Rattle.link_model.specs.declared.images.Image.{Image}
use Rattle.aif_image.specs.Checks.{Sized}
use Rattle.aif_image.specs.Files.{aif_file, aif_record, can_move, parts_size, ro_size, rw_size, zero_size}
use Rattle.elf_image.specs.declared.records.Elf.{Elf}
use Rattle.elf_image.specs.declared.records.Segment.{Segment}
use Rattle.elf_image.specs.Checks.{IsSegment, ReadsElf}
use Rattle.elf_image.specs.Files as elf
use Rattle.elf_image.specs.Files.{bytes_in, elf_load}
use Rattle.run_opening.specs.declared.image.Image.{Image as RunImage}
use Rattle.run_opening.specs.declared.image.Load.{Load}
use Rattle.run_opening.specs.declared.image.Need.{Need}
use Rattle.run_opening.specs.Openings.{loaded}
use Rattle.tool_run.specs.Aifs.{base_for, loaded_aif}
use Rattle.tool_run.specs.Elfs.{ElfLoadLaw, loaded_elf, need_of}
use Rattle.tool_run.proofs.ElfLemmas.{are_loaded, memory_length}
use Rattle.sdt_toolkit.specs.RunImages.{CanRun, is_needed, load_of, region_need}
use Rattle.sdt_toolkit.specs.Runs.{BootsTo, CanBoot, aif_booting, elf_booting, entry_of, map_booting, written_there}
use Rattle.sdt_toolkit.specs.Starting.{CanLoad, FitsAt, ReachesEntry, entered_at, is_movable, segments_of, written_in}
use Rattle.sdt_toolkit.proofs.RunLoads.{inside, load_needed, loaded_at, loaded_bytes}

-- the image reaches its entry, and can be run
pub record Reaches (i : Image) (view : ByteMap) : Type 0 where
  pub boots : BootsTo i view (written_in i)
  pub can : CanRun i view

-- ---- by its map

pub map_can : (i : Image) (view : ByteMap) → Reaches i view → CanBoot (map_booting i view)
map_can i view r = record {
  boots = r.boots;
  arm = refl;
  small = loaded_bytes (λ a. 0) (map load_of i.loads) (λ y. omega arith) (all_map (λ (l : Load). AreBytes l.bytes) load_of i.loads r.can.bytes);
  holds = λ x v e. loaded_at (λ a. 0) [] i.loads x v (r.can.filed [] refl refl).map.apart e;
  needed = λ x v e. load_needed i.loads (map region_need i.regions) x v e;
}

-- ---- of its ELF executable

-- what the file loads is needed
segments_needed : (file : List ℕ) (ss : List Segment) (x v : ℕ) → AllByRecursion (IsSegment (length file)) ss → map_of (map (elf.loaded file) ss) x ≡ Some v
    → is_needed (map need_of ss) x ≡ true
segments_needed file [] x v all e = absurd (let bad : ◌≡◌ {A = Option ℕ} None (Some v) = e in cc)
segments_needed file (s ∷ ss) x v all e = go (covers s.address (length (bytes_in file s)) x) refl e (segments_needed file ss x v all.1)
  where
    go : (c : Bool) → covers s.address (length (bytes_in file s)) x ≡ c → cond c (Some (slice_index (bytes_in file s) (x - s.address))) (map_of (map (elf.loaded file) ss) x) ≡ Some v
        → (map_of (map (elf.loaded file) ss) x ≡ Some v → is_needed (map need_of ss) x ≡ true) → is_needed (map need_of (s ∷ ss)) x ≡ true
    go true f h rest =
        let there : has_access s.address s.memory_size x 1 ≡ true =
        subst (λ (n : ℕ). has_access s.address n x 1 ≡ true) (memory_length file s all.0) (inside s.address (length (bytes_in file s)) x f) in
        rw there refl
    go false f h rest = either (has_access s.address s.memory_size x 1) (rest h)
      where
        either : (a : Bool) → is_needed (map need_of ss) x ≡ true → (a || is_needed (map need_of ss) x) ≡ true
        either true p = refl
        either false p = p

pub even : (n : ℕ) → n % 4 ≡ 0 → (n % 2 == 1) ≡ false
even n h = let low : n % 2 ≡ 0 = omega arith in rw low refl

pub whole : (n : ℕ) → n % 4 ≡ 0 → n - n % 2 ≡ n
whole n h = omega arith

module _ (law : ElfLoadLaw) (i : Image) (view : ByteMap) (file : List ℕ) (e : Elf) (reads : ReadsElf file e) (entry : e.entry ≡ i.start) (loads : elf_load file e ≡ map_of (segments_of i)) (r : Reaches i view) where
  aligned : e.entry % 4 ≡ 0
  aligned = ap (λ (n : ℕ). n % 4) entry ∙ (r.can.filed [] refl refl).map.start_aligned

  start : (loaded_elf file e).start ≡ i.start
  start = whole e.entry aligned ∙ entry

  -- memory holds the load regions
  byte : (x : ℕ) → loaded (λ a. 0) (loaded_elf file e).loads x ≡ unwrap_or (map_of (segments_of i) x) 0
  byte x = law file e reads x ∙ ap (λ (m : ByteMap). unwrap_or (m x) 0) loads

  small : (x : ℕ) → unwrap_or (map_of (segments_of i) x) 0 < 256
  small x = go (map_of (segments_of i) x) refl
    where
      go : (o : Option ℕ) → map_of (segments_of i) x ≡ o → unwrap_or o 0 < 256
      go (Some v) f = let m = map_can i view r in subst (λ (n : ℕ). n < 256) (m.holds x v f) (m.small x)
      go None f = omega arith

  pub elf_can : CanBoot (elf_booting i view file e)
  elf_can = record {
    boots = subst (λ (n : ℕ). Boots (map_of (segments_of i)) view (written_in i) n i.bound (entry_of i)) (sym start) r.boots;
    arm = even e.entry aligned;
    small = λ x. subst (λ (n : ℕ). n < 256) (sym (byte x)) (small x);
    holds = λ x v f. byte x ∙ ap (λ (o : Option ℕ). unwrap_or o 0) f;
    needed = λ x v f. segments_needed file e.segments x v (are_loaded file e reads).0 (ap (λ (m : ByteMap). m x) loads ∙ f);
  }

-- ---- of its ARM image file

has_one : (base size x : ℕ) → base ≤ x → x + 1 ≤ base + size → has_access base size x 1 ≡ true
has_one base size x lo hi = grind (arith, nat_tests)

some_same : (a b : ℕ) → Some a ≡ Some b → a ≡ b
some_same a b e = cc

or_later : (a b : Bool) → b ≡ true → (a || b) ≡ true
or_later true b e = refl
or_later false b e = e

or_first : (a b : Bool) → a ≡ true → (a || b) ≡ true
or_first a b e = rw e refl

-- the zero part, wherever it is told
zero_there : (n m : Need) (x : ℕ) (c : Bool) → has_access n.base n.size x 1 ≡ true → has_access m.base m.size x 1 ≡ true → has_access (cond c n m).base (cond c n m).size x 1 ≡ true
zero_there n m x true h k = h
zero_there n m x false h k = k

module _ (base : ℕ) (relocatable : Bool) (i : Image) (views : ℕ → ByteMap) (to : ℕ) (can : CanLoad (kind.Aif base relocatable) i views) (fits : FitsAt (kind.Aif base relocatable) i to) where
  abbrev file : List ℕ
  file = aif_file i

  abbrev run : RunImage
  run = loaded_aif to (aif_record i) file

  sizes : parts_size i.regions ≤ length file
  sizes =
      let s = can.reads.checked Sized in
      let within = s.within in
      let ro = can.reads.ro in
      let rw0 = can.reads.rw in
      omega (arith, within, ro, rw0)

  file_needed : (x : ℕ) → to ≤ x → x + 1 ≤ to + length file → is_needed run.needs x ≡ true
  file_needed x lo hi = or_first _ _ (has_one to (length file) x lo hi)

  zero_needed : (x : ℕ) → to + parts_size i.regions ≤ x → x < to + parts_size i.regions + zero_size i.regions → is_needed run.needs x ≡ true
  zero_needed x lo hi =
      let low : to + (ro_size i.regions + rw_size i.regions) ≤ x = lo in
      let high : x < to + (ro_size i.regions + rw_size i.regions) + zero_size i.regions = hi in
      or_later (has_access to (length file) x 1) _
      (or_first _ _ (zero_there (record { base = to + (ro_size i.regions + rw_size i.regions); size = zero_size i.regions })
      (record { base = to; size = ro_size i.regions + rw_size i.regions + zero_size i.regions }) x (nat_lt (to + (ro_size i.regions + rw_size i.regions)) (2 ^ 32))
      (has_one (to + (ro_size i.regions + rw_size i.regions)) (zero_size i.regions) x low (omega (arith, high)))
      (has_one to (ro_size i.regions + rw_size i.regions + zero_size i.regions) x (omega (arith, low)) (omega (arith, high)))))

  pub aif_ranged : (x v : ℕ) → views to x ≡ Some v → is_needed run.needs x ≡ true
  aif_ranged x v e = go (below_or_not x (to + parts_size i.regions))
    where
      go : (x < to + parts_size i.regions) ⊎ (to + parts_size i.regions ≤ x) → is_needed run.needs x ≡ true
      go (inl low) = let within = can.within to fits x v e in let all = sizes in file_needed x within.0 (omega (arith, low, all))
      go (inr high) = zero_needed x high (can.within to fits x v e).1

  held : (x v : ℕ) → file_at file to x ≡ Some v → (to ≤ x) × (x < to + length file) × (slice_index file (x - to) ≡ v)
  held x v e = go (covers to (length file) x) refl e
    where
      go : (c : Bool) → covers to (length file) x ≡ c → cond c (Some (slice_index file (x - to))) None ≡ Some v → (to ≤ x) × (x < to + length file) × (slice_index file (x - to) ≡ v)
      go true f h = let (lo, hi) = covers-true to (length file) x f in (lo, hi, some_same _ v h)
      go false f h = absurd (let bad : ◌≡◌ {A = Option ℕ} None (Some v) = h in cc)

  pub aif_can : Boots (file_at file to) (views to) (written_there (kind.Aif base relocatable) i to) to i.bound (entered_at (kind.Aif base relocatable) i to)
      → CanBoot (aif_booting (kind.Aif base relocatable) i views to)
  aif_can boots = record {
    boots = boots;
    arm = refl;
    small = loaded_bytes (λ a. 0) run.loads (λ y. omega arith) (can.bytes, tt);
    holds = λ x v e. let (lo, hi, is) = held x v e in store-in (λ a. 0) to file x lo hi ∙ is;
    needed = λ x v e. let (lo, hi, is) = held x v e in file_needed x lo (omega (arith, hi));
  }

pub aif_boots : (base : ℕ) (relocatable : Bool) (i : Image) (views : ℕ → ByteMap) (to : ℕ) → ReachesEntry (kind.Aif base relocatable) i views → FitsAt (kind.Aif base relocatable) i to
    → Boots (file_at (aif_file i) to) (views to) (written_there (kind.Aif base relocatable) i to) to i.bound (entered_at (kind.Aif base relocatable) i to)
aif_boots base true i views to reaches fits = reaches.0 to fits.whole fits.file fits.zero
aif_boots base false i views to reaches fits =
    subst (λ (n : ℕ). Boots (file_at (aif_file i) n) (views n) (covers (n + parts_size i.regions) (zero_size i.regions)) n i.bound (i.entry + flag i.thumb)) (sym fits) reaches.0

pub aif_load : (base : ℕ) (relocatable : Bool) (i : Image) (views : ℕ → ByteMap) → ReachesEntry (kind.Aif base relocatable) i views → CanLoad (kind.Aif base relocatable) i views
aif_load base true i views reaches = reaches.1
aif_load base false i views reaches = reaches.1

-- where it may stand
pub aif_based : (base : ℕ) (relocatable : Bool) (i : Image) (views : ℕ → ByteMap) (to : ℕ) (out : List ℕ) (at : Option ℕ) → CanLoad (kind.Aif base relocatable) i views
    → FitsAt (kind.Aif base relocatable) i to → (at ≡ Some to) ⊎ ((at ≡ None) × (to ≡ i.start)) → base_for out at (aif_record i) ≡ Ok to
aif_based base relocatable i views to out at can fits (inr (none, own)) =
    ap (λ (o : Option ℕ). base_for out o (aif_record i)) none ∙ ap Ok (sym own)
aif_based base relocatable i views to out at can fits (inl some) =
    ap (λ (o : Option ℕ). base_for out o (aif_record i)) some
    ∙ ap (λ (b : Bool). cond b (Ok to) (Err (BadImage out 4 file_kind.FixedBase))) (may relocatable can.moves fits)
  where
    may : (r : Bool) → can_move i.kind ≡ is_movable (kind.Aif base r) → FitsAt (kind.Aif base r) i to → (can_move i.kind || to == i.start) ≡ true
    may true e f = or_first (can_move i.kind) (to == i.start) e
    may false e f = or_later (can_move i.kind) (to == i.start) (eq-eqb to i.start f)
