-- The board of a bus: what it says of an aligned access is what the bus says, and accesses leave it as it is.
use Rattle.std.proofs.Common.{◌≡◌, ℕ, zero, suc, ◌+◌, ◌%◌, ◌^◌, ◌<◌, ◌≤◌, Bool, true, false, not, ◌||◌, List, [], ◌∷◌, ◌++◌, Option, Some, None, is_some, refl, sym, ap, ◌∙◌, arith, cond}
use Rattle.std.specs.Prelude.{◌&&◌, nat_le}
use Rattle.sdt_word.specs.declared.codes.Width.{Width}
use Rattle.sdt_word.specs.declared.codes.Width.TheVariants.{Byte, Half, Word}
use Rattle.sdt_word.specs.Codes.{bytes_in}
use Rattle.arm7_model.specs.declared.state.ArmState.{ArmState}
use Rattle.arm7_model.specs.Memory.{all_from, in_memory, is_there, may_store}
use Rattle.arm7_model.specs.Accesses.{Access, Fetch, Load, read_at, answers_after, after_load, after_fetch}
use Rattle.arm7_model.proofs.MemoryLemmas.{all-from}
use Rattle.arm7_bus.specs.declared.memory.Bank.{Bank}
use Rattle.arm7_bus.specs.Buses.{after_read, has_whole}
use Rattle.arm7_bus.specs.Meets.{seats_have}
use Rattle.arm7_bus.specs.Seats.{Seat, has_access, device_at, seat_answer}
use Rattle.arm7_bus.specs.States.{State, bank_has, is_protected}
use Rattle.arm7_bus.specs.WholeWords.{IsWhole, AreWholeBanks, AreWholeSeats}
use Rattle.arm7_transfers.specs.Boards.{board_of, working}
use Rattle.arm7_transfers.specs.Ready.{IsReady}
use Rattle.arm7_transfers.specs.Served.{given, value_at}
use Rattle.arm7_bus.proofs.MeetLemmas.{and_left as and-left, and_right as and-right}
use Rattle.arm7_model.proofs.ValidThumb.{never as false-true}

-- ---- truth values

pub same-bool : (p q : Bool) → (p ≡ true → q ≡ true) → (q ≡ true → p ≡ true) → p ≡ q
same-bool true q f g = sym (f refl)
same-bool false true f g = g refl
same-bool false false f g = refl

reaches : (base size a n : ℕ) → base ≤ a → a + n ≤ base + size → has_access base size a n ≡ true
reaches base size a n low high = grind arith

pub low-end : (base size a n : ℕ) → has_access base size a n ≡ true → base ≤ a
low-end base size a n h = let e = and-left (nat_le base a) (nat_le (a + n) (base + size)) h in grind arith

pub high-end : (base size a n : ℕ) → has_access base size a n ≡ true → a + n ≤ base + size
high-end base size a n h = let e = and-right (nat_le base a) (nat_le (a + n) (base + size)) h in grind arith

outer : (base size a k : ℕ) (width : Width) → base % 4 ≡ 0 → size % 4 ≡ 0 → a % bytes_in width ≡ 0 → k < bytes_in width
    → base ≤ a + k → a + k + 1 ≤ base + size → (base ≤ a) × (a + bytes_in width ≤ base + size)
outer base size a k Byte b s h lt low high = (omega arith, omega arith)
outer base size a k Half b s h lt low high = (omega arith, omega arith)
outer base size a k Word b s h lt low high = (omega arith, omega arith)

whole-access : (base size a k : ℕ) (width : Width) → IsWhole base size → a % bytes_in width ≡ 0 → k < bytes_in width
    → has_access base size (a + k) 1 ≡ has_access base size a (bytes_in width)
whole-access base size a k width w h lt = same-bool (has_access base size (a + k) 1) (has_access base size a (bytes_in width))
    (λ e. let o = outer base size a k width w.0 w.1 h lt (low-end base size (a + k) 1 e) (high-end base size (a + k) 1 e) in
    reaches base size a (bytes_in width) o.0 o.1)
    (λ e. let low = low-end base size a (bytes_in width) e in let high = high-end base size a (bytes_in width) e in
    reaches base size (a + k) 1 (omega arith) (omega arith))

-- ---- all banks and all devices

pub bank-whole : (banks : List Bank) (a k : ℕ) (width : Width) → AreWholeBanks banks → a % bytes_in width ≡ 0 → k < bytes_in width
    → bank_has banks (a + k) 1 ≡ bank_has banks a (bytes_in width)
bank-whole [] a k width w h lt = refl
bank-whole (b ∷ bs) a k width w h lt =
    let first = whole-access b.range.base b.range.size a k width w.0 h lt in
    let rest = bank-whole bs a k width w.1 h lt in
    rw (first, rest) refl

pub seat-whole : (ds : List Seat) (a k : ℕ) (width : Width) → AreWholeSeats ds → a % bytes_in width ≡ 0 → k < bytes_in width
    → seats_have ds (a + k) ≡ is_some (device_at ds a (bytes_in width))
seat-whole [] a k width w h lt = refl
seat-whole (d ∷ ds) a k width w h lt =
    let first = whole-access d.base d.size a k width w.0 h lt in
    let rest = seat-whole ds a k width w.1 h lt in
    rw (first, rest) (one (has_access d.base d.size a (bytes_in width)) (device_at ds a (bytes_in width)))
  where
    one : (b : Bool) (o : Option Seat) → (b || is_some o) ≡ is_some (cond b (Some d) o)
    one true o = refl
    one false o = refl

all-same : (p : ℕ → Bool) (a n : ℕ) (v : Bool) → 0 < n → ((k : ℕ) → k < n → p (a + k) ≡ v) → all_from p a n ≡ v
all-same p a n true lt h = all-from p a n h
all-same p a zero false lt h = absurd (omega arith)
all-same p a (suc n) false lt h =
    let first : p a ≡ false = ap p (omega arith) ∙ h 0 (omega arith) in
    rw first refl

pub some-bytes : (width : Width) → 0 < bytes_in width
some-bytes Byte = omega arith
some-bytes Half = omega arith
some-bytes Word = omega arith

pub memory-whole : (s : State) (a : ℕ) (width : Width) → IsReady s → a % bytes_in width ≡ 0
    → in_memory (board_of s) a (bytes_in width) ≡ bank_has s.contents.banks a (bytes_in width)
unfolding in_memory board_of
memory-whole s a width r h =
    all-same (λ x. bank_has s.contents.banks x 1) a (bytes_in width) (bank_has s.contents.banks a (bytes_in width)) (some-bytes width)
    (λ k lt. bank-whole s.contents.banks a k width r.laid_out.banks h lt)

or-if : (b d : Bool) → (b || d) ≡ cond b true d
or-if true d = refl
or-if false d = refl

pub there-whole : (s : State) (a : ℕ) (width : Width) → IsReady s → a % bytes_in width ≡ 0
    → is_there (board_of s) a (bytes_in width) ≡ has_whole s a (bytes_in width)
unfolding is_there board_of
there-whole s a width r h =
    let memory = all-same (λ x. bank_has s.contents.banks x 1) a (bytes_in width) (bank_has s.contents.banks a (bytes_in width)) (some-bytes width)
    (λ k lt. bank-whole s.contents.banks a k width r.laid_out.banks h lt) in
    let device = all-same (λ x. seats_have s.devices x) a (bytes_in width) (is_some (device_at s.devices a (bytes_in width))) (some-bytes width)
    (λ k lt. seat-whole s.devices a k width r.laid_out.devices h lt) in
    rw (memory, device) (or-if (bank_has s.contents.banks a (bytes_in width)) (is_some (device_at s.devices a (bytes_in width))))

pub may-whole : (s : State) (a : ℕ) (width : Width) → IsReady s → a % bytes_in width ≡ 0
    → may_store (board_of s) a (bytes_in width) ≡ (has_whole s a (bytes_in width) && not (is_protected s.contents.banks a (bytes_in width)))
unfolding may_store is_there board_of
may-whole s a width r h = ap (λ (b : Bool). b && not (is_protected s.contents.banks a (bytes_in width))) (there-whole s a width r h)

-- ---- reads

contents-by : (b : Bool) (s t : State) → t.contents ≡ s.contents → (cond b s t).contents ≡ s.contents
contents-by true s t e = refl
contents-by false s t e = e

pub contents-read : (s : State) (a : ℕ) (width : Width) → (after_read s a width).contents ≡ s.contents
contents-read s a width = contents-by (bank_has s.contents.banks a (bytes_in width)) s (record s { devices = _ }) refl

small-answer : (d : Seat) (a : ℕ) (width : Width) → seat_answer a width d % 256 ^ bytes_in width ≡ seat_answer a width d
small-answer d a Byte = omega arith
small-answer d a Half = omega arith
small-answer d a Word = omega arith

-- a read over a bus finds what the bus answers, and takes no more answers than its devices give
pub reads : (s : State) (a : ℕ) (width : Width) (core : ArmState) (later : List ℕ) (before : List Access) → IsReady s → a % bytes_in width ≡ 0
    → has_whole s a (bytes_in width) ≡ true
    → (read_at (board_of s) (working core s (given s a width ++ later) before) a width ≡ value_at s a width)
    × (answers_after (board_of s) (working core s (given s a width ++ later) before) a width ≡ later)
unfolding read_at answers_after
reads s a width core later before r h w = go (bank_has s.contents.banks a (bytes_in width)) refl (device_at s.devices a (bytes_in width)) refl
  where
    go : (b : Bool) → bank_has s.contents.banks a (bytes_in width) ≡ b → (o : Option Seat) → device_at s.devices a (bytes_in width) ≡ o
        → (read_at (board_of s) (working core s (given s a width ++ later) before) a width ≡ value_at s a width)
        × (answers_after (board_of s) (working core s (given s a width ++ later) before) a width ≡ later)
    go true e o f = let m = memory-whole s a width r h ∙ e in (rw (m, e) refl, rw (m, e) refl)
    go false e None f = false-true (rw (e, f) at w)
    go false e (Some d) f = let m = memory-whole s a width r h ∙ e in (rw (m, e, f) (small-answer d a width), rw (m, e, f) refl)

pub loads : (s : State) (a : ℕ) (width : Width) (core : ArmState) (later : List ℕ) (before : List Access) → IsReady s → a % bytes_in width ≡ 0
    → has_whole s a (bytes_in width) ≡ true
    → after_load (board_of s) (working core s (given s a width ++ later) before) a width
    ≡ working core (after_read s a width) later (before ++ Load a width ∷ [])
unfolding after_load
loads s a width core later before r h w =
    rw ((reads s a width core later before r h w).1, contents-read s a width) refl

pub fetches-word : (s : State) (a : ℕ) (width : Width) (core : ArmState) (later : List ℕ) (before : List Access) → IsReady s → a % bytes_in width ≡ 0
    → has_whole s a (bytes_in width) ≡ true
    → after_fetch (board_of s) (working core s (given s a width ++ later) before) a width
    ≡ working core (after_read s a width) later (before ++ Fetch a width ∷ [])
unfolding after_fetch
fetches-word s a width core later before r h w =
    rw ((reads s a width core later before r h w).1, contents-read s a width) refl
