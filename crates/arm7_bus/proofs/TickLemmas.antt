-- Devices that take a step one after another.
use Rattle.std.proofs.Common.{◌≡◌, ℕ, zero, suc, ◌<◌, Bool, true, false, ◌||◌, List, [], ◌∷◌, length, get_or, set, map, refl, sym, ap, ◌∙◌, arith}
use Rattle.sdt_outside.specs.declared.device.DeviceState.{DeviceState}
use Rattle.sdt_outside.specs.declared.device.Lines.{Lines}
use Rattle.sdt_outside.specs.Devices.{ticked, lines_of}
use Rattle.arm7_bus.specs.Seats.{Seat, seats_by, seat_ticked, lines_up, ticked_at, lines_at}

-- the first i devices took a step, and the lines that they raise
abbrev pub ticked_below : ℕ → List Seat → List Seat
ticked_below zero ds = ds
ticked_below (suc i) [] = []
ticked_below (suc i) (d ∷ ds) = seat_ticked d ∷ ticked_below i ds

abbrev pub irq_below : ℕ → List Seat → Bool
irq_below zero ds = false
irq_below (suc i) [] = false
irq_below (suc i) (d ∷ ds) = (lines_of (ticked d.state)).irq || irq_below i ds

abbrev pub fiq_below : ℕ → List Seat → Bool
fiq_below zero ds = false
fiq_below (suc i) [] = false
fiq_below (suc i) (d ∷ ds) = (lines_of (ticked d.state)).fiq || fiq_below i ds

pub or_false : (x : Bool) → (x || false) ≡ x
or_false true = refl
or_false false = refl

or_assoc : (x y z : Bool) → (x || (y || z)) ≡ (x || y || z)
or_assoc true y z = refl
or_assoc false y z = refl

-- one more device
pub next_ticked : (ds : List Seat) (i : ℕ) → ticked_at i (ticked_below i ds) ≡ ticked_below (suc i) ds
next_ticked [] zero = refl
next_ticked [] (suc i) = refl
next_ticked (d ∷ ds) zero = refl
next_ticked (d ∷ ds) (suc i) = ap (λ (ss : List Seat). seat_ticked d ∷ ss) (next_ticked ds i)

pub next_irq : (ds : List Seat) (i : ℕ) → irq_below (suc i) ds ≡ (irq_below i ds || (lines_at i (ticked_below (suc i) ds)).irq)
next_irq [] zero = refl
next_irq [] (suc i) = refl
next_irq (d ∷ ds) zero = or_false (lines_of (ticked d.state)).irq
next_irq (d ∷ ds) (suc i) = ap (λ (b : Bool). (lines_of (ticked d.state)).irq || b) (next_irq ds i) ∙ or_assoc (lines_of (ticked d.state)).irq (irq_below i ds) (lines_at i (ticked_below (suc i) ds)).irq

pub next_fiq : (ds : List Seat) (i : ℕ) → fiq_below (suc i) ds ≡ (fiq_below i ds || (lines_at i (ticked_below (suc i) ds)).fiq)
next_fiq [] zero = refl
next_fiq [] (suc i) = refl
next_fiq (d ∷ ds) zero = or_false (lines_of (ticked d.state)).fiq
next_fiq (d ∷ ds) (suc i) = ap (λ (b : Bool). (lines_of (ticked d.state)).fiq || b) (next_fiq ds i) ∙ or_assoc (lines_of (ticked d.state)).fiq (fiq_below i ds) (lines_at i (ticked_below (suc i) ds)).fiq

-- all devices
pub all_ticked : (ds : List Seat) → ticked_below (length ds) ds ≡ map seat_ticked ds
all_ticked [] = refl
all_ticked (d ∷ ds) = ap (λ (ss : List Seat). seat_ticked d ∷ ss) (all_ticked ds)

pub all_irq : (ds : List Seat) → irq_below (length ds) ds ≡ (lines_up (map seat_ticked ds)).irq
all_irq [] = refl
all_irq (d ∷ ds) = ap (λ (b : Bool). (lines_of (ticked d.state)).irq || b) (all_irq ds)

pub all_fiq : (ds : List Seat) → fiq_below (length ds) ds ≡ (lines_up (map seat_ticked ds)).fiq
all_fiq [] = refl
all_fiq (d ∷ ds) = ap (λ (b : Bool). (lines_of (ticked d.state)).fiq || b) (all_fiq ds)

-- the halfway point: the first i of the old devices took a step
pub record IsHalfway (old now : List Seat) (i : ℕ) (irq fiq : Bool) : Type 0 where
  pub seats : now ≡ ticked_below i old
  pub irq_is : irq ≡ irq_below i old
  pub fiq_is : fiq ≡ fiq_below i old

pub at_next : (old now new : List Seat) (i j : ℕ) (irq fiq irq' fiq' : Bool) (lines : Lines) → IsHalfway old now i irq fiq → j ≡ suc i
    → new ≡ ticked_at i now → lines ≡ lines_at i new → irq' ≡ (irq || lines.irq) → fiq' ≡ (fiq || lines.fiq) → IsHalfway old new j irq' fiq'
at_next old now new i j irq fiq irq' fiq' lines h e n l x y =
    let s : new ≡ ticked_below (suc i) old = n ∙ ap (λ (ss : List Seat). ticked_at i ss) h.seats ∙ next_ticked old i in
    record {
      seats = rw e s;
      irq_is = rw (e, x, l, s, h.irq_is) (sym (next_irq old i));
      fiq_is = rw (e, y, l, s, h.fiq_is) (sym (next_fiq old i));
    }

pub at_end : (old now : List Seat) (i : ℕ) (irq fiq : Bool) → IsHalfway old now i irq fiq → i ≡ length old
    → (now ≡ map seat_ticked old) × (irq ≡ (lines_up now).irq) × (fiq ≡ (lines_up now).fiq)
at_end old now i irq fiq h e =
    let s : now ≡ map seat_ticked old = rw e at h.seats ∙ all_ticked old in
    (s, rw s ((rw e at h.irq_is) ∙ all_irq old), rw s ((rw e at h.fiq_is) ∙ all_fiq old))

pub both_lines : (irq fiq : Bool) (lines : Lines) → irq ≡ lines.irq → fiq ≡ lines.fiq → ◌≡◌ {A = Lines} (record { irq = irq; fiq = fiq }) lines
both_lines irq fiq lines e f = rw (e, f) refl

-- two devices, one after the other
both_halfway : (old now new : List Seat) (first second : Lines) (irq fiq : Bool) → now ≡ ticked_at 0 old → new ≡ ticked_at 1 now
    → first ≡ lines_at 0 now → second ≡ lines_at 1 new → irq ≡ (first.irq || second.irq) → fiq ≡ (first.fiq || second.fiq) → IsHalfway old new 2 irq fiq
both_halfway old now new first second irq fiq n m l k x y =
    let start : IsHalfway old old 0 false false = record { seats = refl; irq_is = refl; fiq_is = refl } in
    at_next old now new 1 2 first.irq first.fiq irq fiq second (at_next old old now 0 1 false false first.irq first.fiq first start refl n l refl refl) refl m k x y

pub two_ticked : (old now new : List Seat) → now ≡ ticked_at 0 old → new ≡ ticked_at 1 now → length old ≡ 2 → new ≡ map seat_ticked old
two_ticked old now new n m e =
    let both = both_halfway old now new (lines_at 0 now) (lines_at 1 new) _ _ n m refl refl refl refl in
    (at_end old new 2 _ _ both (sym e)).0

pub two_lines : (old now new : List Seat) (first second both : Lines) → now ≡ ticked_at 0 old → new ≡ ticked_at 1 now → length old ≡ 2
    → first ≡ lines_at 0 now → second ≡ lines_at 1 new → both.irq ≡ (first.irq || second.irq) → both.fiq ≡ (first.fiq || second.fiq) → both ≡ lines_up new
two_lines old now new first second both n m e l k x y =
    let end = at_end old new 2 both.irq both.fiq (both_halfway old now new first second both.irq both.fiq n m l k x y) (sym e) in
    both_lines both.irq both.fiq (lines_up new) end.1 end.2

module _ {B : Type 0} (base size : B → ℕ) (state : B → DeviceState) (touched : B → ℕ) where
  abbrev seat : B → Seat
  seat b = record { base = base b; size = size b; state = state b; touches = touched b }

  set_ticked : (xs : List B) (i : ℕ) (d y : B) → i < length xs → d ≡ get_or xs i d → seat y ≡ seat_ticked (seat d)
      → seats_by base size state touched (set xs i y) ≡ ticked_at i (seats_by base size state touched xs)
  set_ticked [] i d y lt e s = absurd (omega arith)
  set_ticked (x ∷ xs) zero d y lt e s = ap (λ (z : Seat). z ∷ seats_by base size state touched xs) (s ∙ ap (λ (b : B). seat_ticked (seat b)) e)
  set_ticked (x ∷ xs) (suc i) d y lt e s = ap (λ (ss : List Seat). seat x ∷ ss) (set_ticked xs i d y (omega arith) e s)

  set_lines : (xs : List B) (i : ℕ) (y : B) → i < length xs → lines_at i (seats_by base size state touched (set xs i y)) ≡ lines_of (state y)
  set_lines [] i y lt = absurd (omega arith)
  set_lines (x ∷ xs) zero y lt = refl
  set_lines (x ∷ xs) (suc i) y lt = set_lines xs i y (omega arith)

-- the same, with the list first
pub set_ticked_in : {B : Type 0} (xs : List B) (base size : B → ℕ) (state : B → DeviceState) (touched : B → ℕ) (i : ℕ) (d y : B)
    → i < length xs → d ≡ get_or xs i d → base y ≡ base d → size y ≡ size d → state y ≡ ticked (state d) → touched y ≡ touched d
    → seats_by base size state touched (set xs i y) ≡ ticked_at i (seats_by base size state touched xs)
set_ticked_in xs base size state touched i d y lt e p q r t = set_ticked base size state touched xs i d y lt e (rw (p, q, r, t) refl)

pub set_lines_in : {B : Type 0} (xs : List B) (base size : B → ℕ) (state : B → DeviceState) (touched : B → ℕ) (i : ℕ) (y : B)
    → i < length xs → lines_at i (seats_by base size state touched (set xs i y)) ≡ lines_of (state y)
set_lines_in xs base size state touched i y lt = set_lines base size state touched xs i y lt

pub seats_length : {B : Type 0} (xs : List B) (base size : B → ℕ) (state : B → DeviceState) (touched : B → ℕ)
    → length (seats_by base size state touched xs) ≡ length xs
seats_length [] base size state touched = refl
seats_length (x ∷ xs) base size state touched = ap suc (seats_length xs base size state touched)
