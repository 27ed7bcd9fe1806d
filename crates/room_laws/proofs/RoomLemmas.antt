-- What the default bank has room for: its 4,096 pages are all that such needs touch.
use Rattle.std.proofs.Common.{◌≡◌, ℕ, zero, suc, ◌+◌, ◌-◌, ◌*◌, ◌^◌, ◌<◌, ◌≤◌, Bool, true, false, cond, List, [], ◌∷◌, map, refl, ◌∙◌, arith, nat_lt, ◌⊎◌, inl, inr}
use Rattle.std.specs.Prelude.{◌&&◌, max, min, nat_le, not}
use Rattle.std.specs.List.{AllByRecursion, list_any, range_with_len}
use Rattle.std.proofs.lemmas.List.Sums.{sum_by-cons}
use Rattle.std.proofs.lemmas.List.FromFn.{get_or-map-range_with_len, length-map-range_with_len}
use Rattle.arm7_model.proofs.MemoryLemmas.{below_or_not}
use Rattle.arm7_bus.specs.declared.memory.Bank.{Bank}
use Rattle.arm7_bus.specs.Paging.{used_count}
use Rattle.arm7_bus.specs.Seats.{has_access}
use Rattle.arm7_bus.specs.States.{bank_has}
use Rattle.arm7_bus.specs.Touches.{IsRun, range_touches}
use Rattle.arm7_bus.proofs.EdgeLemmas.{run_more, run_none, run_touched, run_untouched, same_behind, same_within}
use Rattle.arm7_bus.proofs.TestLemmas.{touched_none}
use Rattle.run_opening.specs.declared.image.Need.{Need}
use Rattle.run_opening.specs.Banks.{HasFrames, banks_of, frames_of, is_lacking, lacks}
use Rattle.room_laws.specs.Rooms.{DefaultBankHasRoom}

abbrev bank : List Bank
bank = banks_of [] []

abbrev IsBelow : Need → Type 0
IsBelow n = n.base + n.size ≤ 0x01000000

-- ---- memory

has_all : (base size a : ℕ) → base + size ≤ 0x01000000 → (has_access base size a 1 && not (bank_has bank a 1)) ≡ false
has_all base size a h = grind arith

none_lacks : (n : Need) (a : ℕ) → IsBelow n → lacks bank n a ≡ false
none_lacks n a h =
    let low : nat_le (n.base + n.size) (2 ^ 32) ≡ true = grind arith in
    rw low (has_all n.base n.size a h)

none_lacking : (needs : List Need) (a : ℕ) → AllByRecursion IsBelow needs → is_lacking bank needs a ≡ false
none_lacking [] a h = refl
none_lacking (n ∷ ns) a (one, h) = rw (none_lacks n a one, none_lacking ns a h) refl

-- ---- pages

untouched : (base size page : ℕ) → base + size ≤ 0x01000000 → 4096 ≤ page → range_touches base size page ≡ false
untouched base size page h high = not_less (max base (4096 * page)) (min (base + size) (4096 * page + 4096)) (omega arith)
  where
    not_less : (x y : ℕ) → y ≤ x → nat_lt x y ≡ false
    not_less x y h = grind arith

abbrev touched : List Need → ℕ → Bool
touched needs page = list_any (λ (n : Need). range_touches n.base n.size page) needs

none_touched : (needs : List Need) (page : ℕ) → AllByRecursion IsBelow needs → 4096 ≤ page → touched needs page ≡ false
none_touched [] page h high = refl
none_touched (n ∷ ns) page (one, h) high = rw (untouched n.base n.size page one high, none_touched ns page h high) refl

counted : (f : ℕ → Bool) (a n : ℕ) → ((page : ℕ) → 4096 ≤ page → f page ≡ false) → used_count (map f (range_with_len a n)) ≤ 4096 - a
counted f a zero h = omega arith
counted f a (suc n) h = go (f a) refl (below_or_not a 4096) (counted f (a + 1) n h)
  where
    go : (b : Bool) → f a ≡ b → (a < 4096) ⊎ (4096 ≤ a) → used_count (map f (range_with_len (a + 1) n)) ≤ 4096 - (a + 1)
        → used_count (map f (range_with_len a (suc n))) ≤ 4096 - a
    go true e (inl lt) more = rw e (omega (arith, more, sum_by-cons (λ (u : Bool). cond u 1 0) true (map f (range_with_len (a + 1) n))))
    go true e (inr le) more = absurd (let k = h a le in cc)
    go false e side more = rw e (omega (arith, more, sum_by-cons (λ (u : Bool). cond u 1 0) false (map f (range_with_len (a + 1) n))))

of_run : IsRun bank 0 4096
of_run = run_more (record { range = record { base = 0; size = 0x01000000; in_space = omega arith }; read_only = false }) [] 0 4096 4096 4096
    (λ x low high. same_within 0 0x01000000 0 x (omega arith) low (omega arith)) (run_none 0 4096) (omega arith) (omega arith)

behind_run : IsRun bank 4096 1048576
behind_run = run_more (record { range = record { base = 0; size = 0x01000000; in_space = omega arith }; read_only = false }) [] 4096 1048576 1048576 1048576
    (λ x low high. same_behind 0 0x01000000 4096 x (omega arith) low) (run_none 4096 1048576) (omega arith) (omega arith)

frames : frames_of bank ≡ 4096
frames =
    let inside = run_touched bank 0 4096 (omega arith) of_run refl in
    let all = run_untouched bank 4096 1048576 (omega arith) behind_run refl in
    let none = touched_none bank in
    omega arith

-- the number of pages is a variable here, so that no list of them is made
has_frames : (pages : ℕ) → pages ≡ 1048576 → (needs : List Need) → AllByRecursion IsBelow needs → HasFrames bank needs
has_frames pages e needs h = record {
  used = map (touched needs) (range_with_len 0 pages);
  are_used = record {
    pages = length-map-range_with_len (touched needs) 0 pages ∙ e;
    each = λ page lt. get_or-map-range_with_len (touched needs) 0 pages page page false (omega (arith, e, lt)) (omega arith);
  };
  enough = let few = counted (touched needs) 0 pages (λ page high. none_touched needs page h high) in let all = frames in omega arith;
}

pub default_bank_has_room : DefaultBankHasRoom
default_bank_has_room needs h = (record { none = λ a. none_lacking needs a h }, has_frames 1048576 refl needs h)
