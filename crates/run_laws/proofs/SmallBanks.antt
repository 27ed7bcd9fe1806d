-- Banks that touch no more pages than there are frames: each page that a store can use has one.
use Rattle.std.proofs.Common.{◌≡◌, ◌≢◌, ℕ, zero, suc, ◌+◌, ◌*◌, ◌/◌, ◌^◌, ◌<◌, ◌≤◌, ◌==◌, Bool, true, false, not, ◌||◌, List, [], ◌∷◌, length, get_or, set, take, Option, None, Some, is_some, refl, sym, ap, ◌∙◌, subst, arith, cond, eqb-true}
use Rattle.std.specs.Prelude.{◌&&◌, nat_le, nat_lt, min, max}
use Rattle.std.specs.List.{list_any}
use Rattle.std.proofs.lemmas.Bool.Decides.{nat_tests}
use Rattle.std.proofs.lemmas.List.{get_or-set_other, length-set, take_all}
use Rattle.std.proofs.lemmas.List.Sums.{count_by_more_no, count_by_more_yes}
use Rattle.sdt_word.specs.declared.codes.Width.{Width}
use Rattle.sdt_word.specs.declared.codes.Width.TheVariants.{Byte, Half, Word}
use Rattle.sdt_word.specs.Codes.{bytes_in}
use Rattle.arm7_model.specs.declared.state.ArmState.{ArmState}
use Rattle.arm7_model.specs.declared.event.Event.{Event}
use Rattle.arm7_model.specs.declared.event.Event.TheVariants as event
use Rattle.arm7_model.specs.Accesses.{Access, Fetch, Load, Store}
use Rattle.arm7_model.specs.Outcomes.{Stepped}
use Rattle.arm7_bus.specs.declared.memory.Bank.{Bank}
use Rattle.arm7_bus.specs.declared.memory.BusFault.{BusFault}
use Rattle.arm7_bus.specs.Buses.{after_read, after_tick, after_write}
use Rattle.arm7_bus.specs.Meets.{IsNowhere}
use Rattle.arm7_bus.specs.Paging.{used_count}
use Rattle.arm7_bus.specs.Seats.{Seat, changed_at, device_at, has_access, lines_up, seat_written}
use Rattle.arm7_bus.specs.States.{Contents, State, after_store, bank_has, noted, store_fault, store_leaves}
use Rattle.arm7_bus.specs.Touches.{pages_touched, range_touches}
use Rattle.arm7_transfers.specs.Frames.{has_frames, stored_to, used_with}
use Rattle.arm7_transfers.specs.Boards.{board_of, over}
use Rattle.arm7_transfers.specs.Served.{answers_to, served}
use Rattle.arm7_transfers.proofs.BoardLemmas.{contents-read}
use Rattle.arm7_transfers.proofs.DoneLemmas.{fits}
use Rattle.arm7_core.specs.Machines.{Ends, IsStep, levels}
use Rattle.arm7_run.specs.Runs.{Leads, goes, stays}
use Rattle.run_opening.specs.declared.image.Image.{Image}
use Rattle.run_opening.specs.declared.image.Need.{Need}
use Rattle.run_opening.specs.Banks.{AreUsed, IsRoomy, is_lacking, lacks}
use Rattle.run_opening.specs.Openings.{IsOpening}
use Rattle.run_laws.specs.Laws.{SmallBanksHaveFrames, SmallBanksHaveRoom}
use Rattle.kit_laws.proofs.Events.{step-frames}

-- ---- pages

abbrev touches : List Bank → ℕ → Bool
touches banks page = list_any (λ b. range_touches b.range.base b.range.size page) banks

less : (a b : ℕ) → a < b → nat_lt a b ≡ true
less a b lt = grind (arith, nat_tests)

less-from : (a b : ℕ) → nat_lt a b ≡ true → a < b
less-from a b e = grind (arith, nat_tests)

from-base : (base size a n : ℕ) → has_access base size a n ≡ true → base ≤ a
from-base base size a n e = grind (arith, nat_tests)

to-end : (base size a n : ℕ) → has_access base size a n ≡ true → a + n ≤ base + size
to-end base size a n e = grind (arith, nat_tests)

access-in : (base size a n p : ℕ) → p ≡ a / 4096 → 0 < n → base ≤ a → a + n ≤ base + size → max base (4096 * p) < min (base + size) (4096 * p + 4096)
access-in base size a n p e some lo hi = omega arith

access-touches : (base size a n p : ℕ) → p ≡ a / 4096 → 0 < n → has_access base size a n ≡ true → range_touches base size p ≡ true
access-touches base size a n p e some h = less _ _ (access-in base size a n p e some (from-base base size a n h) (to-end base size a n h))

or-left : (x y : Bool) → x ≡ true → (x || y) ≡ true
or-left x y e = rw e refl

or-right : (x y : Bool) → y ≡ true → (x || y) ≡ true
or-right true y e = refl
or-right false y e = e

or-cases : (x y : Bool) {C : Type 0} → (x ≡ true → C) → (y ≡ true → C) → (x || y) ≡ true → C
or-cases true y f g e = f refl
or-cases false y f g e = g e

not-left : (x y : Bool) → (x || y) ≡ false → x ≡ false
not-left true y e = e
not-left false y e = refl

not-right : (x y : Bool) → (x || y) ≡ false → y ≡ false
not-right true y e = absurd cc
not-right false y e = e

-- the page of an access in a bank is one that the banks touch
bank-touches : (banks : List Bank) (a n p : ℕ) → p ≡ a / 4096 → 0 < n → bank_has banks a n ≡ true → touches banks p ≡ true
bank-touches [] a n p is some e = e
bank-touches (b ∷ bs) a n p is some e =
    or-cases (has_access b.range.base b.range.size a n) (bank_has bs a n)
    (λ h. or-left (range_touches b.range.base b.range.size p) (touches bs p) (access-touches b.range.base b.range.size a n p is some h))
    (λ h. or-right (range_touches b.range.base b.range.size p) (touches bs p) (bank-touches bs a n p is some h)) e

-- ---- the used pages are among those that the banks touch

pub record AreTouched (banks : List Bank) (used : List Bool) : Type 0 where
  pub pages : length used ≡ 1048576
  pub each : (page : ℕ) → page < 1048576 → get_or used page false ≡ true → touches banks page ≡ true

count-one : (banks : List Bank) (used : List Bool) (n : ℕ) → AreTouched banks used → n < 1048576 → used_count (take n used) ≤ pages_touched banks n
    → (b : Bool) → get_or used n false ≡ b → used_count (take (n + 1) used) ≤ pages_touched banks n + cond (touches banks n) 1 0
count-one banks used n t lt before true e =
    let c = count_by_more_yes (λ (u : Bool). u) used n false (let p = t.pages in omega arith) e in
    rw (t.each n lt e) (omega (arith, before, c))
count-one banks used n t lt before false e =
    let c = count_by_more_no (λ (u : Bool). u) used n false (let p = t.pages in omega arith) e in
    omega (arith, before, c)

count-to : (banks : List Bank) (used : List Bool) (n : ℕ) → AreTouched banks used → n ≤ 1048576 → used_count (take n used) ≤ pages_touched banks n
unfolding pages_touched
count-to banks used zero t le = omega arith
count-to banks used (suc n) t le =
    let more : suc n ≡ n + 1 = omega arith in
    rw more (count-one banks used n t (omega arith) (count-to banks used n t (omega arith)) (get_or used n false) refl)

count : (banks : List Bank) (used : List Bool) → AreTouched banks used → used_count used ≤ pages_touched banks 1048576
count banks used t =
    subst (λ (us : List Bool). used_count us ≤ pages_touched banks 1048576) (take_all 1048576 used (let p = t.pages in omega arith))
    (count-to banks used 1048576 t (omega arith))

set-touched : (banks : List Bank) (used : List Bool) (p : ℕ) → AreTouched banks used → touches banks p ≡ true → AreTouched banks (set used p true)
set-touched banks used p t h = record { pages = length-set used p true ∙ t.pages; each = λ q lt e. go q lt e (q == p) refl }
  where
    differ : (q : ℕ) → (q == p) ≡ false → q ≢ p
    differ q e = grind (arith, nat_tests)

    go : (q : ℕ) → q < 1048576 → get_or (set used p true) q false ≡ true → (b : Bool) → (q == p) ≡ b → touches banks q ≡ true
    go q lt e true k = ap (touches banks) (eqb-true q p k) ∙ h
    go q lt e false k = t.each q lt (sym (get_or-set_other used p q true false (differ q k)) ∙ e)

some-bytes : (width : Width) → 0 < bytes_in width
some-bytes Byte = omega arith
some-bytes Half = omega arith
some-bytes Word = omega arith

with-store : (banks : List Bank) (used : List Bool) (a n : ℕ) (rest : List ℕ) → AreTouched banks used → 0 < n
    → ((us : List Bool) → AreTouched banks us → AreTouched banks (used_with us rest))
    → (b : Bool) → bank_has banks a n ≡ b → AreTouched banks (used_with used (cond b (a ∷ rest) rest))
with-store banks used a n rest t some more true e = more (set used (a / 4096) true) (set-touched banks used (a / 4096) t (bank-touches banks a n (a / 4096) refl some e))
with-store banks used a n rest t some more false e = more used t

with-stored : (banks : List Bank) (used : List Bool) (xs : List Access) → AreTouched banks used → AreTouched banks (used_with used (stored_to banks xs))
with-stored banks used [] t = t
with-stored banks used (Fetch a width ∷ rest) t = with-stored banks used rest t
with-stored banks used (Load a width ∷ rest) t = with-stored banks used rest t
with-stored banks used (Store a width v ∷ rest) t =
    with-store banks used a (bytes_in width) (stored_to banks rest) t (some-bytes width) (λ us. with-stored banks us rest) (bank_has banks a (bytes_in width)) refl

-- ---- frames for all of them

pub record HasAll (c : Contents) : Type 0 where
  pub touched : AreTouched c.banks c.used
  pub frames : pages_touched c.banks 1048576 ≤ c.frames

pub frames-for : (s : State) (xs : List Access) → HasAll s.contents → has_frames s xs ≡ true
frames-for s xs h =
    let c = count s.contents.banks (used_with s.contents.used (stored_to s.contents.banks xs)) (with-stored s.contents.banks s.contents.used xs h.touched) in
    fits _ _ (omega (arith, c, h.frames))

pub all-read : (s : State) (a : ℕ) (width : Width) → HasAll s.contents → HasAll (after_read s a width).contents
all-read s a width h = subst (λ (c : Contents). HasAll c) (sym (contents-read s a width)) h

pub all-write : (s : State) (a : ℕ) (width : Width) (v : ℕ) → HasAll s.contents → HasAll (after_write s a width v).contents
all-write s a width v h = go (bank_has s.contents.banks a (bytes_in width)) refl (is_some (device_at s.devices a (bytes_in width)))
  where
    left : (o : Option BusFault) → bank_has s.contents.banks a (bytes_in width) ≡ true → HasAll (store_leaves o s.contents (after_store s.contents a width v))
    left None e = record {
      touched = set-touched s.contents.banks s.contents.used (a / 4096) h.touched (bank-touches s.contents.banks a (bytes_in width) (a / 4096) refl (some-bytes width) e);
      frames = h.frames;
    }
    left (Some fault) e = h

    go : (b : Bool) → bank_has s.contents.banks a (bytes_in width) ≡ b → (d : Bool)
        → HasAll (cond b (record s { contents = store_leaves (store_fault s.contents a (bytes_in width)) s.contents (after_store s.contents a width v) })
        (cond d (record { contents = noted s.contents a (bytes_in width); devices = changed_at (seat_written a width v) a (bytes_in width) s.devices }) s)).contents
    go true e d = left (store_fault s.contents a (bytes_in width)) e
    go false e true = record { touched = h.touched; frames = h.frames }
    go false e false = h

pub all-served : (s : State) (xs : List Access) → HasAll s.contents → HasAll (served s xs).contents
all-served s [] h = h
all-served s (Fetch a width ∷ rest) h = all-served (after_read s a width) rest (all-read s a width h)
all-served s (Load a width ∷ rest) h = all-served (after_read s a width) rest (all-read s a width h)
all-served s (Store a width v ∷ rest) h = all-served (after_write s a width v) rest (all-write s a width v h)

-- ---- steps and runs

all-step : (core : ArmState) (s : State) (e : Event) (core' : ArmState) (s' : State) → HasAll s.contents → IsStep core s e core' s'
    → HasAll s'.contents × ((a : ℕ) → e ≡ event.NoFrame a → ⊥)
all-step core s e core' s' h m =
    let t = after_tick s in
    let now : HasAll t.contents = record { touched = h.touched; frames = h.frames } in
    let (same, state, bus) = subst (λ (b : Bool). Ends b core t m.first e core' s') (frames-for t m.first.accesses now) m.ends in
    let (i, reads, is) = m.step in (
      subst (λ (x : State). HasAll x.contents) (sym bus) (all-served t m.first.accesses now),
      λ a k. step-frames (board_of t) (over core t) (levels (lines_up t.devices)) (answers_to t m.first.accesses) i a
          (sym (ap (λ (x : Stepped). x.event) is) ∙ sym same ∙ k),
    )

all-lead : (core : ArmState) (s : State) (n : ℕ) (text : List ℕ) (core' : ArmState) (s' : State) → HasAll s.contents → Leads core s n text core' s' → HasAll s'.contents
all-lead core s zero text core' s' h stays = h
all-lead core s (suc n) whole core' s' h (goes {text = text} piece {core1 = core1} {s1 = s1} e before step on) =
    (all-step core1 s1 e core' s' (all-lead core s n text core1 s1 h before) step).0

-- ---- the opening

lacks-none : (banks : List Bank) (n : Need) (ns : List Need) → IsNowhere (is_lacking banks (n ∷ ns)) → IsNowhere (lacks banks n) × IsNowhere (is_lacking banks ns)
lacks-none banks n ns room = (
  record { none = λ a. not-left (lacks banks n a) (is_lacking banks ns a) (room.none a) },
  record { none = λ a. not-right (lacks banks n a) (is_lacking banks ns a) (room.none a) },
)

-- the first address that a need has in a page that it touches
in-need : (base size p a : ℕ) → a ≡ max base (4096 * p) → max base (4096 * p) < min (base + size) (4096 * p + 4096) → (base ≤ a) × (a + 1 ≤ base + size) × (p ≡ a / 4096)
in-need base size p a e lt = (omega arith, omega arith, omega arith)

has-one : (base size a : ℕ) → base ≤ a → a + 1 ≤ base + size → has_access base size a 1 ≡ true
has-one base size a lo hi = grind (arith, nat_tests)

same-number : (a : ℕ) → (a == a) ≡ true
same-number a = grind (arith, nat_tests)

lacks-not : (x y : Bool) → x ≡ true → (x && not y) ≡ false → y ≡ true
lacks-not true true e f = refl
lacks-not true false e f = absurd cc
lacks-not false y e f = absurd cc

one-page : (banks : List Bank) (n : Need) (p a : ℕ) → a ≡ max n.base (4096 * p) → range_touches n.base n.size p ≡ true
    → (has_access n.base n.size a 1 && not (bank_has banks a 1)) ≡ false → touches banks p ≡ true
one-page banks n p a e h none =
    let (lo, hi, page) = in-need n.base n.size p a e (less-from _ _ h) in
    bank-touches banks a 1 p page (omega arith) (lacks-not (has_access n.base n.size a 1) (bank_has banks a 1) (has-one n.base n.size a lo hi) none)

one-need : (banks : List Bank) (n : Need) (p : ℕ) → IsNowhere (lacks banks n) → range_touches n.base n.size p ≡ true → touches banks p ≡ true
one-need banks n p room h = go (nat_le (n.base + n.size) (2 ^ 32)) room.none
  where
    go : (b : Bool) → ((x : ℕ) → cond b (has_access n.base n.size x 1 && not (bank_has banks x 1)) (x == n.base) ≡ false) → touches banks p ≡ true
    go true none = one-page banks n p (max n.base (4096 * p)) refl h (none (max n.base (4096 * p)))
    go false none = let e : true ≡ false = sym (same-number n.base) ∙ none n.base in absurd cc

need-touches : (banks : List Bank) (needs : List Need) (p : ℕ) → IsNowhere (is_lacking banks needs)
    → list_any (λ n. range_touches n.base n.size p) needs ≡ true → touches banks p ≡ true
need-touches banks [] p room e = absurd cc
need-touches banks (n ∷ ns) p room e =
    let (first, rest) = lacks-none banks n ns room in
    or-cases (range_touches n.base n.size p) (list_any (λ (m : Need). range_touches m.base m.size p) ns)
    (one-need banks n p first) (need-touches banks ns p rest) e

used-touched : (banks : List Bank) (needs : List Need) (used : List Bool) → IsNowhere (is_lacking banks needs) → AreUsed used needs → AreTouched banks used
used-touched banks needs used room u = record { pages = u.pages; each = λ p lt e. need-touches banks needs p room (sym (u.each p lt) ∙ e) }

-- ---- the laws

pub small-banks-have-room : SmallBanksHaveRoom
small-banks-have-room banks seats needs quantity limit few (q, l, apart, room, lacks) =
    let c = count banks lacks.used (used-touched banks needs lacks.used room lacks.are_used) in
    let m = lacks.too_many in
    absurd (omega (arith, c, m, few))

pub opened-with-all : (banks : List Bank) (seats : List Seat) (image : Image) (s : State) → pages_touched banks 1048576 ≤ 65536 → IsRoomy banks seats image.needs
    → IsOpening banks image seats s → HasAll s.contents
opened-with-all banks seats image s few roomy opening =
    let touched = subst (λ (bs : List Bank). AreTouched bs s.contents.used) (sym opening.banks_are) (used-touched banks image.needs s.contents.used roomy.room opening.used) in
    let enough : pages_touched banks 1048576 ≤ s.contents.frames = let f = opening.frames in omega (arith, f, few) in
    record { touched = touched; frames = subst (λ (bs : List Bank). pages_touched bs 1048576 ≤ s.contents.frames) (sym opening.banks_are) enough }

pub small-banks-have-frames : SmallBanksHaveFrames
small-banks-have-frames banks seats image most core s a made text core' s' few roomy opening run =
    let all = opened-with-all banks seats image s few roomy opening in
    let (below, count_is, step) = run.ends in
    (all-step run.core1 run.s1 (event.NoFrame a) core' s' (all-lead core s run.count text run.core1 run.s1 all run.leads) step).1 a refl
