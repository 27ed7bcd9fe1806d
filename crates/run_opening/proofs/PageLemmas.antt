-- Pages that are used for one need after another.
use Rattle.std.proofs.Common.{◌≡◌, ℕ, zero, suc, ◌+◌, ◌-◌, ◌*◌, ◌/◌, ◌<◌, ◌≤◌, Bool, true, false, ◌||◌, List, [], ◌∷◌, ◌++◌, length, get_or, map, take, drop, refl, sym, ap, ◌∙◌, subst, arith}
use Rattle.std.specs.Prelude.{◌&&◌, nat_le, nat_lt, min, max}
use Rattle.std.specs.List.{list_any, AllByRecursion}
use Rattle.std.proofs.lemmas.List.{get_or-set_same, get_or-set_other}
use Rattle.std.proofs.lemmas.Bool.Decides.{nat_tests}
use Rattle.arm7_bus.specs.declared.memory.Bank.{Bank}
use Rattle.arm7_bus.specs.Paging.{used_count}
use Rattle.arm7_bus.specs.Buses.{IsNew}
use Rattle.arm7_bus.specs.Seats.{Seat}
use Rattle.arm7_bus.specs.States.{Contents, State, IsStart, claimed, pages_of}
use Rattle.sdt_word.specs.declared.ranges.Range32.{Range32}
use Rattle.arm7_bus.specs.Touches.{range_touches}
use Rattle.arm7_bus.proofs.ClaimLemmas.{claimed_length, claimed_within}
use Rattle.run_opening.specs.declared.image.Need.{Need}
use Rattle.arm7_transfers.proofs.BoardLemmas.{same-bool}
use Rattle.run_opening.specs.Banks.{AreUsed, LacksFrames, frames_of, memory_bank}
use Rattle.run_opening.proofs.RoomLemmas.{take_all}
use Rattle.run_opening.specs.Fills.{EndsBelow, IsPrepared, claimed_all, with_banks, with_used}
use Rattle.arm7_bus.proofs.MeetLemmas.{or_true}
use Rattle.arm7_bus.proofs.TickLemmas.{or_false}

-- the last page of a range is one
pages_in : (base size : ℕ) → base + size ≤ 4294967296 → base / 4096 + pages_of base size ≤ 1048576
pages_in base zero le = omega arith
pages_in base (suc size) le = omega arith

-- ---- how many are used

pub one_grows : (us : List Bool) (n : Need) → length us ≡ 1048576 → EndsBelow n → used_count us ≤ used_count (claimed us (n.base / 4096) (pages_of n.base n.size))
one_grows us n len e = claimed_within us (n.base / 4096) 0 (pages_of n.base n.size) (omega arith) (let w = pages_in n.base n.size e.end in omega arith)

pub all_length : (us : List Bool) (ns : List Need) → length (claimed_all us ns) ≡ length us
all_length us [] = refl
all_length us (n ∷ ns) = all_length (claimed us (n.base / 4096) (pages_of n.base n.size)) ns ∙ claimed_length us (n.base / 4096) (pages_of n.base n.size)

pub all_grow : (us : List Bool) (ns : List Need) → length us ≡ 1048576 → AllByRecursion EndsBelow ns → used_count us ≤ used_count (claimed_all us ns)
all_grow us [] len e = omega arith
all_grow us (n ∷ ns) len e =
    let a = one_grows us n len e.0 in
    let b = all_grow (claimed us (n.base / 4096) (pages_of n.base n.size)) ns (claimed_length us (n.base / 4096) (pages_of n.base n.size) ∙ len) e.1 in
    omega arith

-- ---- which are used

abbrev among : ℕ → ℕ → ℕ → Bool
among first n p = nat_le first p && nat_lt p (first + n)

among_none : (first p : ℕ) → among first 0 p ≡ false
among_none first p = grind (arith, nat_tests)

among_last : (first n p : ℕ) → p ≡ first + n → among first (suc n) p ≡ true
among_last first n p e = grind (arith, nat_tests)

among_other : (first n p : ℕ) → (p ≡ first + n → ⊥) → among first (suc n) p ≡ among first n p
among_other first n p e = grind (arith, nat_tests)

or_assoc : (x y z : Bool) → (x || y || z) ≡ (x || (y || z))
or_assoc true y z = refl
or_assoc false y z = refl

pages_next : (us : List Bool) (first n p : ℕ) → first + n < length us → get_or (claimed us first n) p false ≡ (get_or us p false || among first n p)
    → get_or (claimed us first (suc n)) p false ≡ (get_or us p false || among first (suc n) p)
pages_next us first n p lt h = go (nat_lt p (first + n)) (nat_lt (first + n) p) refl refl
  where
    other : (p ≡ first + n → ⊥) → get_or (claimed us first (suc n)) p false ≡ (get_or us p false || among first (suc n) p)
    other e = get_or-set_other (claimed us first n) (first + n) p true false e ∙ h ∙ ap (λ (x : Bool). get_or us p false || x) (sym (among_other first n p e))

    here : p ≡ first + n → get_or (claimed us first (suc n)) p false ≡ (get_or us p false || among first (suc n) p)
    here e =
        let len = claimed_length us first n in
        ap (λ (q : ℕ). get_or (claimed us first (suc n)) q false) e
        ∙ get_or-set_same (claimed us first n) (first + n) true false (omega arith)
        ∙ sym (ap (λ (x : Bool). get_or us p false || x) (among_last first n p e) ∙ or_true (get_or us p false))

    below : (a b : ℕ) → nat_lt a b ≡ true → a ≡ b → ⊥
    below a b e k = grind (arith, nat_tests)

    above : (a b : ℕ) → nat_lt b a ≡ true → a ≡ b → ⊥
    above a b e k = grind (arith, nat_tests)

    equal : (a b : ℕ) → nat_lt a b ≡ false → nat_lt b a ≡ false → a ≡ b
    equal a b e f = grind (arith, nat_tests)

    go : (x y : Bool) → nat_lt p (first + n) ≡ x → nat_lt (first + n) p ≡ y → get_or (claimed us first (suc n)) p false ≡ (get_or us p false || among first (suc n) p)
    go true y e f = other (below p (first + n) e)
    go false true e f = other (above p (first + n) f)
    go false false e f = here (equal p (first + n) e f)

pages_used : (us : List Bool) (first n p : ℕ) → first + n ≤ length us → get_or (claimed us first n) p false ≡ (get_or us p false || among first n p)
pages_used us first zero p le = rw (among_none first p) (sym (or_false (get_or us p false)))
pages_used us first (suc n) p le = pages_next us first n p (omega arith) (pages_used us first n p (omega arith))

-- those of a range are those that it touches
to_touch : (base size p n : ℕ) → n ≡ (base + size) / 4096 + 1 - base / 4096 → base / 4096 ≤ p → p < base / 4096 + n → max base (4096 * p) < min (base + suc size) (4096 * p + 4096)
to_touch base size p n e lo hi = omega arith

from_touch : (base size p n : ℕ) → n ≡ (base + size) / 4096 + 1 - base / 4096 → max base (4096 * p) < min (base + suc size) (4096 * p + 4096) → (base / 4096 ≤ p) × (p < base / 4096 + n)
from_touch base size p n e lt = (omega arith, omega arith)

among_low : (first n p : ℕ) → among first n p ≡ true → first ≤ p
among_low first n p e = grind (arith, nat_tests)

among_high : (first n p : ℕ) → among first n p ≡ true → p < first + n
among_high first n p e = grind (arith, nat_tests)

among_from : (first n p : ℕ) → first ≤ p → p < first + n → among first n p ≡ true
among_from first n p lo hi = grind (arith, nat_tests)

less : (a b : ℕ) → a < b → nat_lt a b ≡ true
less a b lt = grind (arith, nat_tests)

less_from : (a b : ℕ) → nat_lt a b ≡ true → a < b
less_from a b e = grind (arith, nat_tests)

not_less : (a b : ℕ) → b ≤ a → nat_lt a b ≡ false
not_less a b le = grind (arith, nat_tests)

touched : (base size p : ℕ) → among (base / 4096) (pages_of base size) p ≡ range_touches base size p
touched base zero p = among_none (base / 4096) p ∙ sym (not_less (max base (4096 * p)) (min (base + 0) (4096 * p + 4096)) (omega arith))
touched base (suc size) p =
    same-bool (among (base / 4096) (pages_of base (suc size)) p) (range_touches base (suc size) p)
    (λ e. less (max base (4096 * p)) (min (base + suc size) (4096 * p + 4096)) (to_touch base size p (pages_of base (suc size)) refl (among_low (base / 4096) (pages_of base (suc size)) p e) (among_high (base / 4096) (pages_of base (suc size)) p e)))
    (λ e. let h = from_touch base size p (pages_of base (suc size)) refl (less_from (max base (4096 * p)) (min (base + suc size) (4096 * p + 4096)) e) in
    among_from (base / 4096) (pages_of base (suc size)) p h.0 h.1)

all_used : (us : List Bool) (ns : List Need) (p : ℕ) → length us ≡ 1048576 → AllByRecursion EndsBelow ns
    → get_or (claimed_all us ns) p false ≡ (get_or us p false || list_any (λ n. range_touches n.base n.size p) ns)
all_used us [] p len e = sym (or_false (get_or us p false))
all_used us (n ∷ ns) p len e =
    all_used (claimed us (n.base / 4096) (pages_of n.base n.size)) ns p (claimed_length us (n.base / 4096) (pages_of n.base n.size) ∙ len) e.1
    ∙ ap (λ (x : Bool). x || list_any (λ (n : Need). range_touches n.base n.size p) ns)
    (pages_used us (n.base / 4096) (pages_of n.base n.size) p (let w = pages_in n.base n.size e.0.end in omega arith)
    ∙ ap (λ (x : Bool). get_or us p false || x) (touched n.base n.size p))
    ∙ or_assoc (get_or us p false) (range_touches n.base n.size p) (list_any (λ (n : Need). range_touches n.base n.size p) ns)

pub are_used : (us : List Bool) (ns : List Need) → length us ≡ 1048576 → ((p : ℕ) → get_or us p false ≡ false) → AllByRecursion EndsBelow ns → AreUsed (claimed_all us ns) ns
are_used us ns len none e = record {
  pages = all_length us ns ∙ len;
  each = λ p lt. all_used us ns p len e ∙ ap (λ (x : Bool). x || list_any (λ (n : Need). range_touches n.base n.size p) ns) (none p);
}

-- ---- one need after another

pub still_started : (s t : State) (base size : ℕ) → t ≡ with_used s (claimed s.contents.used (base / 4096) (pages_of base size)) → length s.contents.used ≡ 1048576 → length t.contents.used ≡ 1048576
still_started s t base size e len = ap (λ (x : State). length x.contents.used) e ∙ claimed_length s.contents.used (base / 4096) (pages_of base size) ∙ len

pub still_room : (s t : State) (base size : ℕ) → t ≡ with_used s (claimed s.contents.used (base / 4096) (pages_of base size)) → used_count (claimed s.contents.used (base / 4096) (pages_of base size)) ≤ s.contents.frames
    → used_count t.contents.used ≤ t.contents.frames
still_room s t base size e le = subst (λ (x : State). used_count x.contents.used ≤ x.contents.frames) (sym e) le

pub too_many : (us : List Bool) (frames : ℕ) (all : List Need) (d : Need) → 1 ≤ length all → length us ≡ 1048576 → AllByRecursion EndsBelow all
    → frames < used_count (claimed us ((get_or all 0 d).base / 4096) (pages_of (get_or all 0 d).base (get_or all 0 d).size)) → frames < used_count (claimed_all us all)
too_many us frames [] d le len e lt = absurd (omega arith)
too_many us frames (n ∷ ns) d le len e lt =
    let g = all_grow (claimed us (n.base / 4096) (pages_of n.base n.size)) ns (claimed_length us (n.base / 4096) (pages_of n.base n.size) ∙ len) e.1 in
    omega arith

pub prepared : (ranges : List Range32) (needs : List Need) (seats : List Seat) (s t u v : State) → IsNew seats s → AllByRecursion EndsBelow needs
    → t ≡ with_banks s (s.contents.banks ++ map memory_bank ranges) → IsStart t.contents u.contents → u.devices ≡ t.devices
    → v ≡ with_used u (claimed_all u.contents.used needs) → used_count (claimed_all u.contents.used needs) ≤ u.contents.frames → IsPrepared (map memory_bank ranges) needs seats v
prepared ranges needs seats s t u v n e added start same claims room = record {
  banks_are = ap (λ (x : State). x.contents.banks) claims ∙ start.banks ∙ ap (λ (x : State). x.contents.banks) added ∙ ap (λ (bs : List Bank). bs ++ map memory_bank ranges) n.banks;
  memory = λ a. ap (λ (x : State). x.contents.memory a) claims ∙ ap (λ (m : ℕ → ℕ). m a) start.memory ∙ ap (λ (x : State). x.contents.memory a) added ∙ n.memory a;
  used = subst (λ (x : State). AreUsed x.contents.used needs) (sym claims) (are_used u.contents.used needs start.pages start.unused e);
  room = subst (λ (x : State). used_count x.contents.used ≤ x.contents.frames) (sym claims) room;
  frames = ap (λ (x : State). x.contents.frames) claims ∙ start.frames ∙ ap (λ (bs : List Bank). frames_of bs) (ap (λ (x : State). x.contents.banks) added ∙ ap (λ (bs : List Bank). bs ++ map memory_bank ranges) n.banks);
  stores = ap (λ (x : State). x.contents.stores) claims ∙ start.stores ∙ ap (λ (x : State). x.contents.stores) added ∙ n.stores;
  devices = ap (λ (x : State). x.devices) claims ∙ same ∙ ap (λ (x : State). x.devices) added ∙ n.devices;
}

pub unprepared : (ranges : List Range32) (needs : List Need) (seats : List Seat) (s t : State) (u : Contents) → IsNew seats s → AllByRecursion EndsBelow needs
    → t ≡ with_banks s (s.contents.banks ++ map memory_bank ranges) → IsStart t.contents u
    → u.frames < used_count (claimed_all u.used needs) → LacksFrames (map memory_bank ranges) needs
unprepared ranges needs seats s t u n e added start few = record {
  used = claimed_all u.used needs;
  are_used = are_used u.used needs start.pages start.unused e;
  too_many = subst (λ (f : ℕ). f < used_count (claimed_all u.used needs))
      (start.frames ∙ ap (λ (bs : List Bank). frames_of bs) (ap (λ (x : State). x.contents.banks) added ∙ ap (λ (bs : List Bank). bs ++ map memory_bank ranges) n.banks)) few;
}

pub rest_fits : (all : List Need) → 1 ≤ length all → AllByRecursion EndsBelow all → AllByRecursion EndsBelow (take (length all - 1) (drop 1 all))
rest_fits [] le e = absurd (omega arith)
rest_fits (n ∷ ns) le e =
    let k : suc (length ns) - 1 ≡ length ns = omega arith in
    rw k (subst (λ (xs : List Need). AllByRecursion EndsBelow xs) (sym (take_all ns)) e.1)
