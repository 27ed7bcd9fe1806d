-- Regions that are sound, that keep apart and of which the first holds the startup code give the startup code's
-- premises.
use Rattle.std.proofs.Common.{◌≡◌, ◌≢◌, ℕ, zero, suc, ◌+◌, ◌-◌, ◌*◌, ◌%◌, ◌^◌, ◌<◌, ◌≤◌, inl, inr, Bool, true, false, cond, not, List, [], ◌∷◌, ◌++◌, length, length-append, map, refl, sym, ap, subst, ◌∙◌, arith, eqb-true, Some, None}
use Rattle.std.specs.Prelude.{slice_get, is_some, nat_lt}
use Rattle.std.specs.List.{filter, list_any, AllByRecursion}
use Rattle.sdt_word.specs.Bytes.{bytes_of}
use Rattle.sdt_word.proofs.BytesLemmas.{length-bytes_of}
use Rattle.base_lemmas.proofs.BaseLemmas.{all_weaker, both_true, or_true, true_or, same}
use Rattle.boot_code.specs.Startup.{table_list}
use Rattle.boot_code.specs.Words.{boot_list}
use Rattle.boot_code.specs.Boots.{ByteMap, AllCopies, AllParts, AreApart, CopyPlaced, ZeroPlaced, OffLater, InOrder, Places, HoldsWords, covers, moved, zeroed}
use Rattle.boot_code.specs.Laws.{written_by}
use Rattle.boot_code.proofs.ViewLemmas.{covers-inside}
use Rattle.boot_code.specs.Maps.{Holds, bytes_of_words}
use Rattle.boot_code.proofs.MapLemmas.{words}
use Rattle.place_model.specs.Plans.{Planned, length_of, zero_base_of, zero_length_of, execution_size, is_root, is_copied, is_cleared, copy_row, zero_row}
use Rattle.place_model.specs.Faults.{shared, execution_span, source_span, target_span}
use Rattle.place_model.specs.Laws.{IsWholeRegion}
use Rattle.place_model.proofs.ListLemmas.{all_at, all_indexed, Pairs, pairs_at, pairs_filter}
use Rattle.place_model.proofs.SpanLemmas.{apart, lt-true}
use Rattle.image_model.specs.Views.{is_executed}
use Rattle.image_laws.proofs.MovedLemmas.{copies_in, parts_in, copies_all, parts_all, any_copied, any_cleared, moved_shows}
use Rattle.image_laws.proofs.RowLemmas.{Brings, IsZeros, table-length, AreCopyWords, ArePartWords, startup-fits}

-- ---- one region

-- it is whole words and lies in memory, the files have its bytes where it is loaded, and the view shows them
pub record Sound (files view : ByteMap) (r : Planned) : Type 0 where
  pub whole : IsWholeRegion r
  pub load_room : r.load + length_of r ≤ 2 ^ 32
  pub room : r.base + execution_size r ≤ 2 ^ 32
  pub small : execution_size r ≤ 2 ^ 26
  pub brings : (k : ℕ) → k < length_of r → files (r.load + k) ≡ view (r.base + k)
  pub shows : (k : ℕ) → k < length_of r → (b : ℕ) × (view (r.base + k) ≡ Some b)
  pub zeros : (k : ℕ) → k < zero_length_of r → view (zero_base_of r + k) ≡ Some 0

copied_some : (r : Planned) → is_copied r ≡ true → 0 < length_of r
copied_some r h = lt-true 0 (length_of r) (both_true (not (is_root r)) (nat_lt 0 (length_of r)) h).1

cleared_some : (r : Planned) → is_cleared r ≡ true → 0 < zero_length_of r
cleared_some r h = lt-true 0 (zero_length_of r) h

copy_placed : (files view : ByteMap) (written : ℕ → Bool) (a e : ℕ) (r : Planned) → Sound files view r → is_copied r ≡ true
    → ((x : ℕ) → covers r.base (length_of r) x ≡ true → written x ≡ true) → AreApart r.base (length_of r) a (e - a) → CopyPlaced files view written a e (copy_row r)
copy_placed files view written a e r s copied may off =
    let some = copied_some r copied in let small = s.small in let room = s.room in
    record {
      some = some;
      small = omega arith;
      words = s.whole.loaded;
      source_whole = s.whole.load;
      target_whole = s.whole.base;
      source_room = s.load_room;
      target_room = omega arith;
      from_files = λ k lt. let (b, shown) = s.shows k lt in (b, s.brings k lt ∙ shown);
      to_view = s.shows;
      to_written = λ k lt. may (r.base + k) (covers-inside r.base (length_of r) (r.base + k) (omega arith) (omega arith));
      off_area = off;
    }

part_placed : (files view : ByteMap) (written : ℕ → Bool) (a e : ℕ) (r : Planned) → Sound files view r → is_cleared r ≡ true
    → ((x : ℕ) → covers (zero_base_of r) (zero_length_of r) x ≡ true → written x ≡ true) → AreApart (zero_base_of r) (zero_length_of r) a (e - a) → ZeroPlaced view written a e (zero_row r)
part_placed files view written a e r s cleared may off =
    let some = cleared_some r cleared in let small = s.small in let room = s.room in
    let whole_base = s.whole.base in let whole_length = s.whole.loaded in
    record {
      some = some;
      small = omega arith;
      words = s.whole.cleared;
      whole = omega (arith, whole_base, whole_length);
      room = omega arith;
      in_view = λ k lt. (0, s.zeros k lt);
      to_written = λ k lt. may (zero_base_of r + k) (covers-inside (zero_base_of r) (zero_length_of r) (zero_base_of r + k) (omega arith) (omega arith));
      off_area = off;
    }

-- ---- copies in order

off_later : (q : Planned) (qs : List Planned) → 0 < length_of q → AllByRecursion (λ r. 0 < length_of r) qs
    → AllByRecursion (λ r. shared (target_span q) (source_span r) ≡ None) qs → AllByRecursion (λ r. shared (execution_span q) (execution_span r) ≡ None) qs
    → AllCopies (OffLater (copy_row q)) (map copy_row qs)
off_later q [] some all sources targets = tt
off_later q (r ∷ qs) some all sources targets = (
  record {
    source = apart (target_span q) (source_span r) sources.0 some all.0;
    target = inner (apart (execution_span q) (execution_span r) targets.0 (omega arith) (let other = all.0 in omega arith));
  },
  off_later q qs some all.1 sources.1 targets.1,
)
  where
    inner : AreApart q.base (execution_size q) r.base (execution_size r) → AreApart q.base (length_of q) r.base (length_of r)
    inner (inl h) = inl (omega arith)
    inner (inr h) = inr (omega arith)

rows_in_order : (qs : List Planned) → AllByRecursion (λ r. 0 < length_of r) qs → Pairs (λ r l. shared (target_span r) (source_span l) ≡ None) qs
    → Pairs (λ r l. shared (execution_span r) (execution_span l) ≡ None) qs → InOrder (map copy_row qs)
rows_in_order [] all sources targets = tt
rows_in_order (q ∷ qs) all sources targets = (off_later q qs all.0 all.1 sources.0 targets.0, rows_in_order qs all.1 sources.1 targets.1)

all_copied : (rs : List Planned) → AllByRecursion (λ r. 0 < length_of r) (filter is_copied rs)
all_copied [] = tt
all_copied (r ∷ rs) = go (is_copied r) refl (all_copied rs)
  where
    go : (b : Bool) → is_copied r ≡ b → AllByRecursion (λ q. 0 < length_of q) (filter is_copied rs) → AllByRecursion (λ q. 0 < length_of q) (cond b (r ∷ filter is_copied rs) (filter is_copied rs))
    go true e rest = (copied_some r e, rest)
    go false e rest = rest

-- ---- all of them

bytes_length : (ws : List ℕ) → length (bytes_of_words ws) ≡ 4 * length ws
bytes_length [] = refl
bytes_length (w ∷ ws) = let rest = bytes_length ws in omega (arith, length-append (bytes_of w 4) (bytes_of_words ws), length-bytes_of w 4, rest)

pub record AreJoined (rs : List Planned) (files view : ByteMap) (a table entry : ℕ) : Type 0 where
  pub sound : AllByRecursion (Sound files view) rs
  pub domain : (x : ℕ) → is_some (view x) ≡ list_any (is_executed x) rs
  pub apart : Pairs (λ r l. shared (execution_span r) (execution_span l) ≡ None) rs
  pub conflicts : Pairs (λ r l. shared (target_span r) (source_span l) ≡ None) (filter is_copied rs)
  -- the first region holds the startup code, with room for its table, and isn't copied
  pub first : Planned
  pub at : slice_get rs 0 ≡ Some first
  pub root : is_root first ≡ true
  pub above : first.base ≤ a
  pub below : a + 4 * (42 + table) ≤ first.base + length_of first
  pub multiple : a % 4 ≡ 0
  pub holds : Holds view a (bytes_of_words (boot_list ++ table_list (copies_in rs) (parts_in rs) entry))
  pub fits : 3 * length (copies_in rs) + 2 * length (parts_in rs) + 6 ≤ table
  pub entry_small : entry < 2 ^ 32
  pub entry_fair : entry % 4 ≢ 2

module _ (rs : List Planned) (files view : ByteMap) (a table entry : ℕ) (j : AreJoined rs files view a table entry) where
  abbrev startup : List ℕ
  startup = boot_list ++ table_list (copies_in rs) (parts_in rs) entry

  abbrev end : ℕ
  end = a + 4 * length startup

  startup_size : length startup ≤ 42 + table
  startup_size =
      let fits = j.fits in
      omega (arith, fits, length-append boot_list (table_list (copies_in rs) (parts_in rs) entry), table-length (copies_in rs) (parts_in rs) entry)

  first_sound : Sound files view j.first
  first_sound = all_at (Sound files view) rs 0 j.first j.sound j.at

  first_root : j.first.load ≡ j.first.base
  first_root = eqb-true j.first.load j.first.base j.root

  first_not_copied : is_copied j.first ≡ true → ⊥
  first_not_copied h = absurd (go (is_root j.first) j.root (both_true (not (is_root j.first)) (nat_lt 0 (length_of j.first)) h).0)
    where
      go : (b : Bool) → b ≡ true → not b ≡ true → ⊥
      go true e n = absurd cc
      go false e n = absurd cc

  -- a later region is off the first
  off_first : (i : ℕ) (r : Planned) → slice_get rs (suc i) ≡ Some r → 0 < execution_size r → AreApart j.first.base (execution_size j.first) r.base (execution_size r)
  off_first i r at some =
      let below = j.below in let above = j.above in
      apart (execution_span j.first) (execution_span r) (pairs_at (λ q l. shared (execution_span q) (execution_span l) ≡ None) rs 0 (suc i) j.first r j.apart (omega arith) j.at at) (omega (arith, below, above)) some

  copy_off : (i : ℕ) (r : Planned) → slice_get rs i ≡ Some r → is_copied r ≡ true → AreApart r.base (length_of r) a (end - a)
  copy_off zero r at copied = let e : j.first ≡ r = same j.first r (sym j.at ∙ at) in absurd (first_not_copied (ap is_copied e ∙ copied))
  copy_off (suc i) r at copied = let some = copied_some r copied in go (off_first i r at (omega arith))
    where
      go : AreApart j.first.base (execution_size j.first) r.base (execution_size r) → AreApart r.base (length_of r) a (end - a)
      go (inl h) = let size = startup_size in let below = j.below in inr (omega (arith, size, below, h))
      go (inr h) = let above = j.above in inl (omega (arith, above, h))

  part_off : (i : ℕ) (r : Planned) → slice_get rs i ≡ Some r → is_cleared r ≡ true → AreApart (zero_base_of r) (zero_length_of r) a (end - a)
  part_off zero r at cleared =
      let e : j.first ≡ r = same j.first r (sym j.at ∙ at) in
      let size = startup_size in let below = j.below in
      let Off : Planned → Type 0 = λ q. AreApart (zero_base_of q) (zero_length_of q) a (end - a) in
      subst Off e (inr (omega (arith, size, below)))
  part_off (suc i) r at cleared = let some = cleared_some r cleared in go (off_first i r at (omega arith))
    where
      go : AreApart j.first.base (execution_size j.first) r.base (execution_size r) → AreApart (zero_base_of r) (zero_length_of r) a (end - a)
      go (inl h) = let size = startup_size in let below = j.below in inr (omega (arith, size, below, h))
      go (inr h) = let above = j.above in inl (omega (arith, above, h))

  abbrev written : ℕ → Bool
  written = written_by (copies_in rs) (parts_in rs)

  each_copy : AllCopies (CopyPlaced files view written a end) (copies_in rs)
  each_copy = copies_all (CopyPlaced files view written a end) rs (all_indexed (λ r. is_copied r ≡ true → CopyPlaced files view written a end (copy_row r)) rs
      (λ i r at copied. copy_placed files view written a end r (all_at (Sound files view) rs i r j.sound at) copied
      (λ x inside. true_or (list_any (λ c. covers c.target c.size x) (copies_in rs)) (list_any (λ c. covers c.base c.size x) (parts_in rs)) (any_copied rs i r x at copied inside))
      (copy_off i r at copied)))

  each_part : AllParts (ZeroPlaced view written a end) (parts_in rs)
  each_part = parts_all (ZeroPlaced view written a end) rs (all_indexed (λ r. is_cleared r ≡ true → ZeroPlaced view written a end (zero_row r)) rs
      (λ i r at cleared. part_placed files view written a end r (all_at (Sound files view) rs i r j.sound at) cleared
      (λ x inside. or_true (list_any (λ c. covers c.target c.size x) (copies_in rs)) (list_any (λ c. covers c.base c.size x) (parts_in rs)) (any_cleared rs i r x at cleared inside))
      (part_off i r at cleared)))

  -- the words of the startup code in the files
  copy_words_small : AllCopies AreCopyWords (copies_in rs)
  copy_words_small = copies_all AreCopyWords rs (all_indexed (λ r. is_copied r ≡ true → AreCopyWords (copy_row r)) rs
      (λ i r at copied.
      let s = all_at (Sound files view) rs i r j.sound at in
      let some = copied_some r copied in let small = s.small in let load_room = s.load_room in let room = s.room in
      record { source = omega (arith, some, load_room); target = omega (arith, some, room); size = omega (arith, small) }))

  part_words_small : AllParts ArePartWords (parts_in rs)
  part_words_small = parts_all ArePartWords rs (all_indexed (λ r. is_cleared r ≡ true → ArePartWords (zero_row r)) rs
      (λ i r at cleared.
      let s = all_at (Sound files view) rs i r j.sound at in
      let some = cleared_some r cleared in let small = s.small in let room = s.room in
      record { base = omega (arith, some, room); size = omega (arith, small) }))

  in_files : Holds files a (bytes_of_words startup)
  in_files k lt =
      let size = startup_size in let below = j.below in let above = j.above in let count = bytes_length startup in
      let here : a + k ≡ j.first.load + (a + k - j.first.base) = omega (arith, above, first_root) in
      let there : j.first.base + (a + k - j.first.base) ≡ a + k = omega (arith, above) in
      ap files here ∙ first_sound.brings (a + k - j.first.base) (omega (arith, size, below, count, lt)) ∙ ap view there ∙ j.holds k lt

  area : HoldsWords files a startup
  area = words files a startup (startup-fits (copies_in rs) (parts_in rs) entry copy_words_small part_words_small j.entry_small) in_files

  shows : (x b : ℕ) → view x ≡ Some b → zeroed (Some 0) (moved files (copies_in rs)) (parts_in rs) x ≡ Some b
  shows = moved_shows rs files view
      (all_weaker (Sound files view) (λ r. Brings files view (copy_row r)) (λ r s. s.brings) rs j.sound)
      (all_weaker (Sound files view) (λ r. IsZeros view (zero_row r)) (λ r s. s.zeros) rs j.sound)
      j.domain

  pub joined_places : Places files view written (copies_in rs) (parts_in rs) entry a
  joined_places =
      let size = startup_size in let below = j.below in let room = first_sound.room in
      record {
        multiple = j.multiple;
        room = omega (arith, size, below, room);
        area = area;
        each_copy = each_copy;
        each_part = each_part;
        in_order = rows_in_order (filter is_copied rs) (all_copied rs) j.conflicts (pairs_filter (λ r l. shared (execution_span r) (execution_span l) ≡ None) is_copied rs j.apart);
        shows = shows;
        fair = j.entry_fair;
      }
