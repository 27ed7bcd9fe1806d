-- From the ranges of the banks to the banks, and from a bus that was filled to the opening of a run.
use Rattle.std.proofs.Common.{◌≡◌, ℕ, zero, suc, ◌+◌, ◌*◌, ◌/◌, ◌^◌, ◌<◌, ◌≤◌, Bool, true, false, not, ◌||◌, List, [], ◌∷◌, ◌++◌, length, map, Result, Ok, Err, refl, sym, ap, ◌∙◌, subst, arith, le-leb}
use Rattle.std.specs.Prelude.{◌&&◌, ◌==◌, cond, nat_le, nat_lt, max, min, IfErr, IfOk}
use Rattle.std.specs.Coded.{le_prop}
use Rattle.std.specs.List.{list_any, AllByRecursion}
use Rattle.std.proofs.lemmas.Bool.Decides.{nat_tests}
use Rattle.sdt_word.specs.declared.ranges.Range32.{Range32}
use Rattle.sdt_fault.specs.declared.answer.Fault.{Fault}
use Rattle.sdt_fault.specs.declared.answer.Fault.TheVariants as fault
use Rattle.sdt_fault.specs.declared.refusal.Refusal.{Refusal}
use Rattle.sdt_fault.specs.declared.refusal.Refusal.TheVariants.{BankOverlap, NoRoom, TooLarge}
use Rattle.arm7_bus.specs.declared.memory.Bank.{Bank}
use Rattle.arm7_bus.specs.Meets.{IsLeast, IsNowhere, seats_have, seats_share}
use Rattle.arm7_bus.specs.Seats.{Seat, has_access}
use Rattle.arm7_bus.specs.Paging.{used_count}
use Rattle.arm7_bus.specs.Protection.{protected_bank}
use Rattle.arm7_bus.specs.States.{State, bank_has, protected_at}
use Rattle.arm7_bus.specs.WholeWords.{AreWholeBanks, AreWholeSeats}
use Rattle.arm7_model.specs.Memory as memory
use Rattle.arm7_transfers.specs.Ready.{IsReady}
use Rattle.arm7_bus.specs.Touches.{pages_touched, range_touches}
use Rattle.run_opening.specs.declared.image.Image.{Image}
use Rattle.run_opening.specs.declared.image.Load.{Load}
use Rattle.run_opening.specs.declared.image.Need.{Need}
use Rattle.run_opening.specs.Banks.{AreUsed, IsBank, IsDefect, IsRoomy, LacksFrames, banks_of, banks_share, frames_of, is_lacking, lacks, memory_bank, rom_bank, two_have}
use Rattle.run_opening.specs.Fills.{EndsBelow, IsFilled, IsOpen, IsPrepared, IsUnprepared, IsUsable, LacksPages, after_loads, protected_all, ranges_of, with_banks}
use Rattle.run_opening.specs.Openings.{AreNeeded, IsClosed, IsNeeded, IsOpening, loaded}
use Rattle.arm7_model.proofs.ValidThumb.{never as false-true}
use Rattle.arm7_transfers.proofs.BoardLemmas.{low-end as access_base, high-end as access_end}

-- ---- banks by their ranges alone

abbrev pub plain : List Bank → List Bank
plain bs = map memory_bank (map (λ (b : Bank). b.range) bs)

has_plain : (bs : List Bank) (a n : ℕ) → bank_has (plain bs) a n ≡ bank_has bs a n
has_plain [] a n = refl
has_plain (b ∷ bs) a n = ap (λ (x : Bool). has_access b.range.base b.range.size a n || x) (has_plain bs a n)

share_plain : (bs : List Bank) (a : ℕ) → banks_share (plain bs) a ≡ banks_share bs a
share_plain [] a = refl
share_plain (b ∷ bs) a = rw (has_plain bs a 1, share_plain bs a) refl

pub two_plain : (bs : List Bank) (seats : List Seat) → two_have (plain bs) seats ≡ two_have bs seats
two_plain bs seats = λ i a. at a i
  where
    at : (a : ℕ) → two_have (plain bs) seats a ≡ two_have bs seats a
    at a = rw (has_plain bs a 1, share_plain bs a) refl

pub lacking_plain : (bs : List Bank) (needs : List Need) → is_lacking (plain bs) needs ≡ is_lacking bs needs
lacking_plain bs needs = λ i a. ap (λ (x : Bool). list_any (λ (n : Need). cond (nat_le (n.base + n.size) (2 ^ 32)) (has_access n.base n.size a 1 && not x) (a == n.base)) needs) (has_plain bs a 1) i

any_plain : (bs : List Bank) (p : ℕ) → list_any (λ (b : Bank). range_touches b.range.base b.range.size p) (plain bs) ≡ list_any (λ (b : Bank). range_touches b.range.base b.range.size p) bs
any_plain [] p = refl
any_plain (b ∷ bs) p = ap (λ (x : Bool). range_touches b.range.base b.range.size p || x) (any_plain bs p)

touched_plain : (bs : List Bank) (n : ℕ) → pages_touched (plain bs) n ≡ pages_touched bs n
unfolding pages_touched
touched_plain bs zero = refl
touched_plain bs (suc n) = rw (touched_plain bs n, any_plain bs n) refl

pub frames_plain : (bs : List Bank) → frames_of (plain bs) ≡ frames_of bs
frames_plain bs = ap (λ (n : ℕ). min 65536 n) (touched_plain bs 1048576)

lacks_plain : (bs : List Bank) (needs : List Need) → LacksFrames (plain bs) needs → LacksFrames bs needs
lacks_plain bs needs l = record { used = l.used; are_used = l.are_used; too_many = subst (λ (f : ℕ). f < used_count l.used) (frames_plain bs) l.too_many }

ranges_append : (bs cs : List Bank) → map (λ (b : Bank). b.range) (bs ++ cs) ≡ map (λ (b : Bank). b.range) bs ++ map (λ (b : Bank). b.range) cs
ranges_append [] cs = refl
ranges_append (b ∷ bs) cs = ap (λ (rs : List Range32). b.range ∷ rs) (ranges_append bs cs)

memory_ranges : (rs : List Range32) → map (λ (b : Bank). b.range) (map memory_bank rs) ≡ rs
memory_ranges [] = refl
memory_ranges (r ∷ rs) = ap (λ (xs : List Range32). r ∷ xs) (memory_ranges rs)

rom_ranges : (rs : List Range32) → map (λ (b : Bank). b.range) (map rom_bank rs) ≡ rs
rom_ranges [] = refl
rom_ranges (r ∷ rs) = ap (λ (xs : List Range32). r ∷ xs) (rom_ranges rs)

both_ranges : (memory rom : List Range32) → map (λ (b : Bank). b.range) (map memory_bank memory ++ map rom_bank rom) ≡ memory ++ rom
both_ranges memory rom = ranges_append (map memory_bank memory) (map rom_bank rom) ∙ rw (memory_ranges memory, rom_ranges rom) refl

pub of_ranges : (memory rom : List Range32) → map (λ (b : Bank). b.range) (banks_of memory rom) ≡ ranges_of memory rom
of_ranges [] [] = refl
of_ranges [] (r ∷ rom) = both_ranges [] (r ∷ rom)
of_ranges (m ∷ memory) rom = both_ranges (m ∷ memory) rom

pub defect_plain : (bs : List Bank) (seats : List Seat) (needs : List Need) (r : Refusal) → IsDefect (plain bs) seats needs r → IsDefect bs seats needs r
defect_plain bs seats needs (BankOverlap a) h = subst (λ (t : ℕ → Bool). IsLeast t a) (two_plain bs seats) h
defect_plain bs seats needs (NoRoom a) h =
    (subst (λ (t : ℕ → Bool). IsNowhere t) (two_plain bs seats) h.0, subst (λ (t : ℕ → Bool). IsLeast t a) (lacking_plain bs needs) h.1)
defect_plain bs seats needs (TooLarge quantity limit) h =
    (h.0, h.1, subst (λ (t : ℕ → Bool). IsNowhere t) (two_plain bs seats) h.2, subst (λ (t : ℕ → Bool). IsNowhere t) (lacking_plain bs needs) h.3, lacks_plain bs needs h.4)
defect_plain bs seats needs other h = h

-- ---- truth values

or_cases : {A : Type 0} (x y : Bool) → (x || y) ≡ true → (x ≡ true → A) → (y ≡ true → A) → A
or_cases true y e f g = f refl
or_cases false y e f g = g e

or_right : (x y : Bool) → y ≡ true → (x || y) ≡ true
or_right true y e = refl
or_right false y e = e

or_left : (x y : Bool) → x ≡ true → (x || y) ≡ true
or_left true y e = refl
or_left false y e = false-true e

none_left : (x y : Bool) → (x || y) ≡ false → x ≡ false
none_left true y e = false-true (sym e)
none_left false y e = refl

none_right : (x y : Bool) → (x || y) ≡ false → y ≡ false
none_right true y e = false-true (sym e)
none_right false y e = e

not_false : (x y : Bool) → (x && not y) ≡ false → x ≡ true → y ≡ true
not_false true true e f = refl
not_false true false e f = false-true (sym e)
not_false false y e f = false-true f

not_both : (x y : Bool) → (x && y) ≡ false → y ≡ true → x ≡ false
not_both true true e f = false-true (sym e)
not_both true false e f = false-true f
not_both false y e f = refl

-- ---- banks that become protected

abbrev pub protected_by : List Range32 → Bank → Bank
protected_by [] b = b
protected_by (r ∷ rs) b = protected_by rs (protected_bank r b)

abbrev any_same : List Range32 → Range32 → Bool
any_same rs q = list_any (λ (r : Range32). q.base == r.base && q.size == r.size) rs

none_protected : (rs : List Range32) → protected_all rs [] ≡ []
none_protected [] = refl
none_protected (r ∷ rs) = none_protected rs

next_protected : (rs : List Range32) (b : Bank) (bs : List Bank) → protected_all rs (b ∷ bs) ≡ protected_by rs b ∷ protected_all rs bs
next_protected [] b bs = refl
next_protected (r ∷ rs) b bs = next_protected rs (protected_bank r b) (map (protected_bank r) bs)

one_protected : (r q : Range32) (t : Bool) → (q.base == r.base && q.size == r.size) ≡ t → protected_bank r (memory_bank q) ≡ cond t (rom_bank q) (memory_bank q)
one_protected r q t e = rw e refl

stays_protected : (r q : Range32) → protected_bank r (rom_bank q) ≡ rom_bank q
stays_protected r q = go (q.base == r.base && q.size == r.size) refl
  where
    go : (t : Bool) → (q.base == r.base && q.size == r.size) ≡ t → protected_bank r (rom_bank q) ≡ rom_bank q
    go true e = rw e refl
    go false e = rw e refl

kept : (rs : List Range32) (q : Range32) → any_same rs q ≡ false → protected_by rs (memory_bank q) ≡ memory_bank q
kept [] q e = refl
kept (r ∷ rs) q e =
    ap (protected_by rs) (one_protected r q false (none_left (q.base == r.base && q.size == r.size) (any_same rs q) e)) ∙ kept rs q (none_right (q.base == r.base && q.size == r.size) (any_same rs q) e)

rom_kept : (rs : List Range32) (q : Range32) → protected_by rs (rom_bank q) ≡ rom_bank q
rom_kept [] q = refl
rom_kept (r ∷ rs) q = ap (protected_by rs) (stays_protected r q) ∙ rom_kept rs q

becomes : (rs : List Range32) (q : Range32) → any_same rs q ≡ true → protected_by rs (memory_bank q) ≡ rom_bank q
becomes [] q e = false-true e
becomes (r ∷ rs) q e = go (q.base == r.base && q.size == r.size) refl e (becomes rs q)
  where
    go : (t : Bool) → (q.base == r.base && q.size == r.size) ≡ t → (t || any_same rs q) ≡ true → (any_same rs q ≡ true → protected_by rs (memory_bank q) ≡ rom_bank q)
        → protected_by rs (protected_bank r (memory_bank q)) ≡ rom_bank q
    go true h e f = ap (protected_by rs) (one_protected r q true h) ∙ rom_kept rs q
    go false h e f = ap (protected_by rs) (one_protected r q false h) ∙ f e

each_rom : (rs qs : List Range32) → AllByRecursion (λ (q : Range32). any_same rs q ≡ true) qs → protected_all rs (map memory_bank qs) ≡ map rom_bank qs
each_rom rs [] a = none_protected rs
each_rom rs (q ∷ qs) a =
    next_protected rs (memory_bank q) (map memory_bank qs) ∙ rw (becomes rs q a.0, each_rom rs qs a.1) refl

each_memory : (rs ms : List Range32) (bs : List Bank) → AllByRecursion (λ (m : Range32). any_same rs m ≡ false) ms
    → protected_all rs (map memory_bank ms ++ bs) ≡ map memory_bank ms ++ protected_all rs bs
each_memory rs [] bs a = refl
each_memory rs (m ∷ ms) bs a =
    next_protected rs (memory_bank m) (map memory_bank ms ++ bs) ∙ rw (kept rs m a.0, each_memory rs ms bs a.1) refl

same_self : (q : Range32) → (q.base == q.base && q.size == q.size) ≡ true
same_self q = both q.base q.size
  where
    both : (a b : ℕ) → (a == a && b == b) ≡ true
    both a b = grind (arith, nat_tests)

selves : (rs qs : List Range32) → ((q : Range32) → any_same qs q ≡ true → any_same rs q ≡ true) → AllByRecursion (λ (q : Range32). any_same rs q ≡ true) qs
selves rs [] f = tt
selves rs (q ∷ qs) f = (
  f q (or_left (q.base == q.base && q.size == q.size) (any_same qs q) (same_self q)),
  selves rs qs (λ x e. f x (or_right (x.base == q.base && x.size == q.size) (any_same qs x) e)),
)

-- ---- memory that meets no read-only bank

first_byte : (q r : Range32) → (q.base == r.base && q.size == r.size) ≡ true → 0 < q.size → has_access r.base r.size q.base 1 ≡ true
first_byte q r e lt = go q.base q.size r.base r.size e lt
  where
    go : (a n b m : ℕ) → (a == b && n == m) ≡ true → 0 < n → has_access b m a 1 ≡ true
    go a n b m e lt = grind (arith, nat_tests)

own_byte : (a n : ℕ) → 0 < n → has_access a n a 1 ≡ true
own_byte a n lt = grind (arith, nat_tests)

rom_has : (rom : List Range32) (q : Range32) → any_same rom q ≡ true → 0 < q.size → bank_has (map rom_bank rom) q.base 1 ≡ true
rom_has [] q e lt = false-true e
rom_has (r ∷ rom) q e lt =
    or_cases (q.base == r.base && q.size == r.size) (any_same rom q) e
    (λ h. or_left (has_access r.base r.size q.base 1) (bank_has (map rom_bank rom) q.base 1) (first_byte q r h lt))
    (λ h. or_right (has_access r.base r.size q.base 1) (bank_has (map rom_bank rom) q.base 1) (rom_has rom q h lt))

has_behind : (bs cs : List Bank) (a : ℕ) → bank_has cs a 1 ≡ true → bank_has (bs ++ cs) a 1 ≡ true
has_behind [] cs a e = e
has_behind (b ∷ bs) cs a e = or_right (has_access b.range.base b.range.size a 1) (bank_has (bs ++ cs) a 1) (has_behind bs cs a e)

apart : (memory rom : List Range32) → AllByRecursion IsBank memory → ((a : ℕ) → banks_share (map memory_bank memory ++ map rom_bank rom) a ≡ false)
    → AllByRecursion (λ (m : Range32). any_same rom m ≡ false) memory
apart [] rom banks none = tt
apart (m ∷ ms) rom banks none = (
  go (any_same rom m) refl,
  apart ms rom banks.1 (λ a. none_right (has_access m.base m.size a 1 && bank_has (map memory_bank ms ++ map rom_bank rom) a 1) (banks_share (map memory_bank ms ++ map rom_bank rom) a) (none a)),
)
  where
    go : (t : Bool) → any_same rom m ≡ t → any_same rom m ≡ false
    go false e = e
    go true e =
        let behind = has_behind (map memory_bank ms) (map rom_bank rom) m.base (rom_has rom m e banks.0.some) in
        let two = none_left (has_access m.base m.size m.base 1 && bank_has (map memory_bank ms ++ map rom_bank rom) m.base 1) (banks_share (map memory_bank ms ++ map rom_bank rom) m.base) (none m.base) in
        false-true (sym (not_both (has_access m.base m.size m.base 1) (bank_has (map memory_bank ms ++ map rom_bank rom) m.base 1) two behind) ∙ own_byte m.base m.size banks.0.some)

map_append : (rs qs : List Range32) → map memory_bank (rs ++ qs) ≡ map memory_bank rs ++ map memory_bank qs
map_append [] qs = refl
map_append (r ∷ rs) qs = ap (λ (bs : List Bank). memory_bank r ∷ bs) (map_append rs qs)

both_protected : (memory rom : List Range32) → AllByRecursion IsBank memory → ((a : ℕ) → banks_share (map memory_bank memory ++ map rom_bank rom) a ≡ false)
    → protected_all rom (map memory_bank (memory ++ rom)) ≡ map memory_bank memory ++ map rom_bank rom
both_protected memory rom banks none =
    ap (protected_all rom) (map_append memory rom)
    ∙ each_memory rom memory (map memory_bank rom) (apart memory rom banks none)
    ∙ ap (λ (bs : List Bank). map memory_bank memory ++ bs) (each_rom rom rom (selves rom rom (λ q e. e)))

pub protected_is : (memory rom : List Range32) → AllByRecursion IsBank memory → ((a : ℕ) → banks_share (banks_of memory rom) a ≡ false)
    → protected_all rom (map memory_bank (ranges_of memory rom)) ≡ banks_of memory rom
protected_is [] [] banks none = refl
protected_is [] (r ∷ rom) banks none = both_protected [] (r ∷ rom) banks none
protected_is (m ∷ memory) rom banks none = both_protected (m ∷ memory) rom banks none

-- ---- whole words

are_banks_in : (rs qs : List Range32) → AllByRecursion IsBank rs → AllByRecursion IsBank qs → AllByRecursion IsBank (rs ++ qs)
are_banks_in [] qs a b = b
are_banks_in (r ∷ rs) qs a b = (a.0, are_banks_in rs qs a.1 b)

pub are_banks : (memory rom : List Range32) → AllByRecursion IsBank memory → AllByRecursion IsBank rom → AllByRecursion IsBank (ranges_of memory rom)
are_banks [] [] a b = (record { base = omega arith; size = omega arith; some = omega arith }, tt)
are_banks [] (r ∷ rom) a b = b
are_banks (m ∷ memory) rom a b = are_banks_in (m ∷ memory) rom a b

whole_plain : (rs : List Range32) → AllByRecursion IsBank rs → AreWholeBanks (map memory_bank rs)
whole_plain [] a = tt
whole_plain (r ∷ rs) a = ((a.0.base, a.0.size), whole_plain rs a.1)

whole_back : (bs : List Bank) → AreWholeBanks (plain bs) → AreWholeBanks bs
whole_back [] w = tt
whole_back (b ∷ bs) w = (w.0, whole_back bs w.1)

free_plain : (rs : List Range32) (a : ℕ) → protected_at (map memory_bank rs) a ≡ false
free_plain [] a = refl
free_plain (r ∷ rs) a = free_plain rs a

-- ---- what is needed is memory

lacks_base : (bs : List Bank) (n : Need) → 2 ^ 32 < n.base + n.size → lacks bs n n.base ≡ true
lacks_base bs n lt = rw (above (n.base + n.size) (2 ^ 32) lt) (same n.base)
  where
    above : (a b : ℕ) → b < a → nat_le a b ≡ false
    above a b lt = grind (arith, nat_tests)

    same : (a : ℕ) → (a == a) ≡ true
    same a = grind (arith, nat_tests)

ends_of : (bs : List Bank) (n : Need) → ((a : ℕ) → lacks bs n a ≡ false) → n.base + n.size ≤ 4294967296
ends_of bs n none = go (nat_le (n.base + n.size) 4294967296) refl
  where
    go : (t : Bool) → nat_le (n.base + n.size) 4294967296 ≡ t → n.base + n.size ≤ 4294967296
    go true e = grind (arith, nat_tests)
    go false e = false-true (sym (none n.base) ∙ lacks_base bs n (over (n.base + n.size) e))
      where
        over : (a : ℕ) → nat_le a 4294967296 ≡ false → 2 ^ 32 < a
        over a e = grind (arith, nat_tests)

pub ends_below : (bs : List Bank) (needs : List Need) → IsNowhere (is_lacking bs needs) → AllByRecursion EndsBelow needs
ends_below bs [] none = tt
ends_below bs (n ∷ ns) none = (
  record { end = ends_of bs n (λ a. none_left (lacks bs n a) (is_lacking bs ns a) (none.none a)) },
  ends_below bs ns (record { none = λ a. none_right (lacks bs n a) (is_lacking bs ns a) (none.none a) }),
)

-- a byte of an access in a need is memory, in a page that the need touches, and it is below 2^32
record IsIn (bs : List Bank) (needs : List Need) (a n x : ℕ) : Type 0 where
  bank : bank_has bs x 1 ≡ true
  page : list_any (λ (m : Need). range_touches m.base m.size (x / 4096)) needs ≡ true
  below : a + n ≤ 4294967296

lacks_within : (bs : List Bank) (n : Need) (x : ℕ) → n.base + n.size ≤ 4294967296 → lacks bs n x ≡ (has_access n.base n.size x 1 && not (bank_has bs x 1))
lacks_within bs n x le = rw (le-leb (n.base + n.size) (2 ^ 32) le) refl

inner : (base size a n x : ℕ) → has_access base size a n ≡ true → a ≤ x → x < a + n → has_access base size x 1 ≡ true
inner base size a n x e lo hi = grind (arith, nat_tests)

touches : (base size x : ℕ) → base ≤ x → x < base + size → range_touches base size (x / 4096) ≡ true
touches base size x lo hi = less (max base (4096 * (x / 4096))) (min (base + size) (4096 * (x / 4096) + 4096)) (omega arith)
  where
    less : (a b : ℕ) → a < b → nat_lt a b ≡ true
    less a b lt = grind (arith, nat_tests)

one_in : (bs : List Bank) (m : Need) (a n x : ℕ) → m.base + m.size ≤ 4294967296 → lacks bs m x ≡ false → has_access m.base m.size a n ≡ true → a ≤ x → x < a + n
    → IsIn bs (m ∷ []) a n x
one_in bs m a n x le none e lo hi =
    let base = access_base m.base m.size a n e in
    let end = access_end m.base m.size a n e in
    record {
      bank = not_false (has_access m.base m.size x 1) (bank_has bs x 1) (sym (lacks_within bs m x le) ∙ none) (inner m.base m.size a n x e lo hi);
      page = or_left (range_touches m.base m.size (x / 4096)) false (touches m.base m.size x (omega arith) (omega arith));
      below = omega arith;
    }

is_in : (bs : List Bank) (needs : List Need) (a n x : ℕ) → AllByRecursion EndsBelow needs → is_lacking bs needs x ≡ false
    → list_any (λ (m : Need). has_access m.base m.size a n) needs ≡ true → a ≤ x → x < a + n → IsIn bs needs a n x
is_in bs [] a n x ends none e lo hi = false-true e
is_in bs (m ∷ ms) a n x ends none e lo hi =
    let rest : list_any (λ (m : Need). has_access m.base m.size a n) ms ≡ true → IsIn bs ms a n x = λ h. is_in bs ms a n x ends.1 (none_right (lacks bs m x) (is_lacking bs ms x) none) h lo hi in
    or_cases {A = IsIn bs (m ∷ ms) a n x} (has_access m.base m.size a n) (list_any (λ (m : Need). has_access m.base m.size a n) ms) e
    (λ h. let i = one_in bs m a n x ends.0.end (none_left (lacks bs m x) (is_lacking bs ms x) none) h lo hi in
    record { bank = i.bank; page = or_left (range_touches m.base m.size (x / 4096)) (list_any (λ (m : Need). range_touches m.base m.size (x / 4096)) ms) (or_cases (range_touches m.base m.size (x / 4096)) false i.page (λ t. t) false-true); below = i.below })
    (λ h. let i = rest h in
    record { bank = i.bank; page = or_right (range_touches m.base m.size (x / 4096)) (list_any (λ (m : Need). range_touches m.base m.size (x / 4096)) ms) i.page; below = i.below })

one_usable : (ranges : List Range32) (needs : List Need) (seats : List Seat) (s : State) (l : Load) → IsPrepared (map memory_bank ranges) needs seats s → IsNowhere (is_lacking (map memory_bank ranges) needs)
    → IsNeeded needs l → IsUsable s.contents l.base (length l.bytes)
one_usable ranges needs seats s l p none needed =
    let at : (x : ℕ) → l.base ≤ x → x < l.base + length l.bytes → IsIn (map memory_bank ranges) needs l.base (length l.bytes) x =
    λ x lo hi. is_in (map memory_bank ranges) needs l.base (length l.bytes) x (ends_below (map memory_bank ranges) needs none) (none.none x) (needed.within (omega (arith, lo, hi))) lo hi in
    record {
      bank = λ x lo hi. ap (λ (bs : List Bank). bank_has bs x 1) p.banks_are ∙ (at x lo hi).bank;
      page = λ x lo hi. let i = at x lo hi in let b = i.below in p.used.each (x / 4096) (omega (arith, lo, hi, b)) ∙ i.page;
      below = λ some. (at l.base (omega arith) (omega (arith, some))).below;
    }

pub usable : (ranges : List Range32) (needs : List Need) (seats : List Seat) (s : State) (loads : List Load) → IsPrepared (map memory_bank ranges) needs seats s → IsNowhere (is_lacking (map memory_bank ranges) needs)
    → AllByRecursion (IsNeeded needs) loads → AllByRecursion (λ (l : Load). IsUsable s.contents l.base (length l.bytes)) loads
usable ranges needs seats s [] p none needed = tt
usable ranges needs seats s (l ∷ ls) p none needed = (one_usable ranges needs seats s l p none needed.0, usable ranges needs seats s ls p none needed.1)

pub open_for : (ranges : List Range32) (needs : List Need) (seats : List Seat) (s : State) → AllByRecursion IsBank ranges → IsPrepared (map memory_bank ranges) needs seats s → IsOpen s
open_for ranges needs seats s banks p = record {
  started = p.used.pages;
  quiet = p.stores;
  whole = subst (λ (bs : List Bank). AreWholeBanks bs) (sym p.banks_are) (whole_plain ranges banks);
  free = λ a. ap (λ (bs : List Bank). protected_at bs a) p.banks_are ∙ free_plain ranges a;
}

-- ---- the bus that was filled

module _ (image : Image) (needs : List Need) (loads : List Load) (en : needs ≡ image.needs) (el : loads ≡ image.loads) where
  pub ends_for : (bs : List Bank) → IsNowhere (is_lacking bs image.needs) → AllByRecursion EndsBelow needs
  ends_for bs none = ends_below bs needs (subst (λ (ns : List Need). IsNowhere (is_lacking bs ns)) (sym en) none)

  pub usable_for : (ranges : List Range32) (seats : List Seat) (s : State) → IsPrepared (map memory_bank ranges) needs seats s → IsNowhere (is_lacking (map memory_bank ranges) image.needs)
      → AreNeeded image → AllByRecursion (λ (l : Load). IsUsable s.contents l.base (length l.bytes)) loads
  usable_for ranges seats s p none needed =
      subst (λ (ls : List Load). AllByRecursion (λ (l : Load). IsUsable s.contents l.base (length l.bytes)) ls) (sym el)
      (usable ranges image.needs seats s image.loads (subst (λ (ns : List Need). IsPrepared (map memory_bank ranges) ns seats s) en p) none needed)

  pub filled : (banks : List Bank) (rom : List Range32) (seats : List Seat) (s t u : State) → IsPrepared banks needs seats s → t ≡ after_loads s loads
      → u ≡ with_banks t (protected_all rom t.contents.banks) → IsFilled banks (protected_all rom banks) image seats u
  filled banks rom seats s t u p e k =
      let is : u ≡ with_banks (after_loads s loads) (protected_all rom s.contents.banks) = k ∙ ap (λ (x : State). with_banks x (protected_all rom x.contents.banks)) e in
      record {
        banks_are = ap (λ (x : State). x.contents.banks) is ∙ ap (protected_all rom) p.banks_are;
        memory = ap (λ (x : State). x.contents.memory) is ∙ ap (λ (m : memory.Bytes). loaded m loads) (λ i a. p.memory a i) ∙ ap (λ (ls : List Load). loaded (λ a. 0) ls) el;
        used = subst (λ (ns : List Need). AreUsed u.contents.used ns) en (subst (λ (x : State). AreUsed x.contents.used needs) (sym is) p.used);
        room = subst (λ (x : State). used_count x.contents.used ≤ x.contents.frames) (sym is) p.room;
        frames = ap (λ (x : State). x.contents.frames) is ∙ p.frames;
        stores = ap (λ (x : State). x.contents.stores) is ∙ p.stores;
        devices = ap (λ (x : State). x.devices) is ∙ p.devices;
      }

-- ---- the opening

module _ (memory rom rs : List Range32) (e : rs ≡ ranges_of memory rom) (image : Image) (seats : List Seat) (mb : AllByRecursion IsBank memory) (rb : AllByRecursion IsBank rom)
    (two : IsNowhere (two_have (map memory_bank rs) seats)) (room : IsNowhere (is_lacking (map memory_bank rs) image.needs)) where
  plain_is : map memory_bank rs ≡ plain (banks_of memory rom)
  plain_is = ap (λ (xs : List Range32). map memory_bank xs) (e ∙ sym (of_ranges memory rom))

  two_is : IsNowhere (two_have (banks_of memory rom) seats)
  two_is = subst (λ (t : ℕ → Bool). IsNowhere t) (ap (λ (bs : List Bank). two_have bs seats) plain_is ∙ two_plain (banks_of memory rom) seats) two

  room_is : IsNowhere (is_lacking (banks_of memory rom) image.needs)
  room_is = subst (λ (t : ℕ → Bool). IsNowhere t) (ap (λ (bs : List Bank). is_lacking bs image.needs) plain_is ∙ lacking_plain (banks_of memory rom) image.needs) room

  shares_none : (a : ℕ) → banks_share (banks_of memory rom) a ≡ false
  shares_none a = none_left (banks_share (banks_of memory rom) a) (seats_share seats a) (none_left (banks_share (banks_of memory rom) a || seats_share seats a) (bank_has (banks_of memory rom) a 1 && seats_have seats a) (two_is.none a))

  seats_none : (a : ℕ) → seats_share seats a ≡ false
  seats_none a = none_right (banks_share (banks_of memory rom) a) (seats_share seats a) (none_left (banks_share (banks_of memory rom) a || seats_share seats a) (bank_has (banks_of memory rom) a 1 && seats_have seats a) (two_is.none a))

  both_none : (a : ℕ) → seats_have seats a ≡ true → bank_has (banks_of memory rom) a 1 ≡ false
  both_none a h = not_both (bank_has (banks_of memory rom) a 1) (seats_have seats a)
      (none_right (banks_share (banks_of memory rom) a || seats_share seats a) (bank_has (banks_of memory rom) a 1 && seats_have seats a) (two_is.none a)) h

  frames_are : (n : ℕ) → n ≡ frames_of (map memory_bank rs) → n ≡ frames_of (banks_of memory rom)
  frames_are n f = f ∙ ap (λ (bs : List Bank). frames_of bs) plain_is ∙ frames_plain (banks_of memory rom)

  banks_are : (bs : List Bank) → bs ≡ protected_all rom (map memory_bank rs) → bs ≡ banks_of memory rom
  banks_are bs f = f ∙ ap (λ (xs : List Range32). protected_all rom (map memory_bank xs)) e ∙ protected_is memory rom mb shares_none

  pub opened : (s : State) → IsFilled (map memory_bank rs) (protected_all rom (map memory_bank rs)) image seats s → IsOpening (banks_of memory rom) image seats s
  opened s f = record {
    banks_are = banks_are s.contents.banks f.banks_are;
    memory = f.memory;
    used = f.used;
    frames = frames_are s.contents.frames f.frames;
    stores = f.stores;
    devices = f.devices;
  }

  pub roomy : (s : State) → IsFilled (map memory_bank rs) (protected_all rom (map memory_bank rs)) image seats s → IsRoomy (banks_of memory rom) seats image.needs
  roomy s f = record {
    apart = two_is;
    room = room_is;
    frames = record {
      used = s.contents.used;
      are_used = f.used;
      enough = subst (λ (n : ℕ). used_count s.contents.used ≤ n) (frames_are s.contents.frames f.frames) f.room;
    };
  }

  pub ready : AreWholeSeats seats → (s : State) → IsFilled (map memory_bank rs) (protected_all rom (map memory_bank rs)) image seats s → IsReady s
  ready whole s f = record {
    laid_out = record {
      banks = subst (λ (bs : List Bank). AreWholeBanks bs) (sym (banks_are s.contents.banks f.banks_are))
          (whole_back (banks_of memory rom) (subst (λ (bs : List Bank). AreWholeBanks bs) (ap (λ (xs : List Range32). map memory_bank xs) (sym (of_ranges memory rom))) (whole_plain (ranges_of memory rom) (are_banks memory rom mb rb))));
      devices = subst (λ (ds : List Seat). AreWholeSeats ds) (sym f.devices) whole;
      apart = λ a h. ap (λ (bs : List Bank). bank_has bs a 1) (banks_are s.contents.banks f.banks_are) ∙ both_none a (sym (ap (λ (ds : List Seat). seats_have ds a) f.devices) ∙ h);
      alone = record { none = λ a. ap (λ (ds : List Seat). seats_share ds a) f.devices ∙ seats_none a };
    };
    started = f.used.pages;
    room = f.room;
  }

  lacking_pages : (r : Refusal) → LacksPages (map memory_bank rs) image.needs r → IsDefect (banks_of memory rom) seats image.needs r
  lacking_pages (TooLarge quantity limit) h =
      (h.0, h.1, two_is, room_is, lacks_plain (banks_of memory rom) image.needs (subst (λ (bs : List Bank). LacksFrames bs image.needs) plain_is h.2))
  lacking_pages other h = absurd h

  pub unfilled : (f : Fault) → IsUnprepared (map memory_bank rs) image.needs f → IsClosed (banks_of memory rom) seats image f
  unfilled (fault.Refused r) h = lacking_pages r h
  unfilled (fault.ReadFault name) h = h
  unfilled fault.NoMemory h = h

placed : (memory rom rs : List Range32) (needs : List Need) (image : Image) (seats : List Seat) (r : Refusal) → rs ≡ ranges_of memory rom → needs ≡ image.needs
    → IsDefect (map memory_bank rs) seats needs r → IsDefect (banks_of memory rom) seats image.needs r
placed memory rom rs needs image seats r e en h =
    defect_plain (banks_of memory rom) seats image.needs r
    (subst (λ (bs : List Bank). IsDefect bs seats image.needs r) (ap (λ (xs : List Range32). map memory_bank xs) (e ∙ sym (of_ranges memory rom)))
    (subst (λ (ns : List Need). IsDefect (map memory_bank rs) seats ns r) en h))

pub misplaced : (memory rom rs : List Range32) (needs : List Need) (image : Image) (told seats : List Seat) (r : Refusal) → rs ≡ ranges_of memory rom → needs ≡ image.needs → told ≡ seats
    → IsDefect (map memory_bank rs) told needs r → IsDefect (banks_of memory rom) seats image.needs r
misplaced memory rom rs needs image told seats r e en es h =
    subst (λ (ds : List Seat). IsDefect (banks_of memory rom) ds image.needs r) es (placed memory rom rs needs image told r e en h)

pub if_ok : {A B : Type 0} {P Q : A → Type 0} (r : Result A B) → ((a : A) → P a → Q a) → IfOk r P → IfOk r Q
if_ok (Ok a) f h = f a h
if_ok (Err e) f h = tt

pub if_err : {A B : Type 0} {P Q : B → Type 0} (r : Result A B) → ((e : B) → P e → Q e) → IfErr r P → IfErr r Q
if_err (Ok a) f h = tt
if_err (Err e) f h = f e h

-- ---- the ranges of all banks

pub no_ranges : (memory rom rs : List Range32) (h : 0 + 16777216 ≤ 4294967296) → (length memory == 0) ≡ true → (length rom == 0) ≡ true
    → rs ≡ record { base = 0; size = 16777216; in_space = h } ∷ [] → rs ≡ ranges_of memory rom
no_ranges [] [] rs h e f is = is ∙ ap (λ (k : 0 + 16777216 ≤ 4294967296). by k ∷ []) (le_prop h (omega arith))
  where
    by : 0 + 16777216 ≤ 4294967296 → Range32
    by k = record { base = 0; size = 16777216; in_space = k }
no_ranges (m ∷ memory) rom rs h e f is = absurd (some (length memory) e)
  where
    some : (n : ℕ) → (suc n == 0) ≡ true → ⊥
    some n e = grind (arith, nat_tests)
no_ranges [] (r ∷ rom) rs h e f is = absurd (some (length rom) f)
  where
    some : (n : ℕ) → (suc n == 0) ≡ true → ⊥
    some n e = grind (arith, nat_tests)
