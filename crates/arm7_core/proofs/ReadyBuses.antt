-- How a bus comes to be ready, and stays so: by each call that builds or changes it.
use Rattle.std.proofs.Common.{◌≡◌, ℕ, zero, suc, ◌/◌, ◌≤◌, Bool, true, false, ◌||◌, List, [], ◌∷◌, ◌++◌, map, refl, sym, ap, ◌∙◌, subst, arith}
use Rattle.std.specs.Prelude.{◌&&◌, ◌==◌, cond, remove}
use Rattle.sdt_word.specs.declared.ranges.Range32.{Range32}
use Rattle.arm7_bus.specs.declared.memory.Bank.{Bank}
use Rattle.arm7_bus.specs.Buses.{IsNew, after_bank, after_claim, after_detach, after_forget, after_protect}
use Rattle.arm7_bus.specs.Meets.{IsNowhere, seats_have, seats_share}
use Rattle.arm7_bus.specs.Overlaps.{range_shares}
use Rattle.arm7_bus.specs.Paging.{used_count}
use Rattle.arm7_bus.specs.Protection.{protected_bank}
use Rattle.arm7_bus.specs.Seats.{Seat, has_access}
use Rattle.arm7_bus.specs.States.{State, IsStart, bank_has, pages_of}
use Rattle.arm7_bus.specs.WholeWords.{IsWhole, AreWholeBanks, AreWholeSeats}
use Rattle.arm7_bus.proofs.ClaimLemmas.{claimed_length}
use Rattle.arm7_transfers.specs.Ready.{IsReady, IsLaidOut}
use Rattle.arm7_bus.proofs.MeetLemmas.{or_true as or-true}
use Rattle.arm7_model.proofs.ValidThumb.{never as false-true}

pub laid_out-new : (seats : List Seat) (s : State) → IsNew seats s → AreWholeSeats seats → IsNowhere (λ a. seats_share seats a) → IsLaidOut s
laid_out-new seats s n whole alone = record {
  banks = subst (λ (bs : List Bank). AreWholeBanks bs) (sym n.banks) tt;
  devices = subst (λ (ds : List Seat). AreWholeSeats ds) (sym n.devices) whole;
  apart = λ a h. ap (λ (bs : List Bank). bank_has bs a 1) n.banks;
  alone = record { none = λ a. ap (λ (ds : List Seat). seats_share ds a) n.devices ∙ alone.none a };
}

-- ---- one more bank

banks-more : (bs : List Bank) (b : Bank) → AreWholeBanks bs → IsWhole b.range.base b.range.size → AreWholeBanks (bs ++ b ∷ [])
banks-more [] b w h = (h, tt)
banks-more (x ∷ bs) b w h = (w.0, banks-more bs b w.1 h)

bank-more : (bs : List Bank) (b : Bank) (a : ℕ) → bank_has (bs ++ b ∷ []) a 1 ≡ (bank_has bs a 1 || has_access b.range.base b.range.size a 1)
bank-more [] b a = or-none (has_access b.range.base b.range.size a 1)
  where
    or-none : (x : Bool) → (x || false) ≡ x
    or-none true = refl
    or-none false = refl
bank-more (x ∷ bs) b a = go (has_access x.range.base x.range.size a 1) (bank-more bs b a)
  where
    go : (h : Bool) → bank_has (bs ++ b ∷ []) a 1 ≡ (bank_has bs a 1 || has_access b.range.base b.range.size a 1)
        → (h || bank_has (bs ++ b ∷ []) a 1) ≡ (h || bank_has bs a 1 || has_access b.range.base b.range.size a 1)
    go true e = refl
    go false e = e

not-shared : (x y z : Bool) → (x && y || x && z) ≡ false → z ≡ true → x ≡ false
not-shared true true z e h = false-true (sym e)
not-shared true false true e h = false-true (sym e)
not-shared true false false e h = false-true h
not-shared false y z e h = refl

pub laid_out-bank : (s : State) (r : Range32) → IsLaidOut s → IsWhole r.base r.size → IsNowhere (range_shares r s) → IsLaidOut (after_bank s r)
laid_out-bank s r l whole apart = record {
  banks = banks-more s.contents.banks (record { range = r; read_only = false }) l.banks whole;
  devices = l.devices;
  apart = λ a h. bank-more s.contents.banks (record { range = r; read_only = false }) a
      ∙ rw (l.apart a h, not-shared (has_access r.base r.size a 1) (bank_has s.contents.banks a 1) (seats_have s.devices a) (apart.none a) h) refl;
  alone = l.alone;
}

-- ---- the start of memory

pub ready-start : (s t : State) → IsLaidOut s → IsStart s.contents t.contents → t.devices ≡ s.devices → IsReady t
ready-start s t l start same = record {
  laid_out = record {
    banks = subst (λ (bs : List Bank). AreWholeBanks bs) (sym start.banks) l.banks;
    devices = subst (λ (ds : List Seat). AreWholeSeats ds) (sym same) l.devices;
    apart = λ a h. ap (λ (bs : List Bank). bank_has bs a 1) start.banks ∙ l.apart a (sym (ap (λ (ds : List Seat). seats_have ds a) same) ∙ h);
    alone = record { none = λ a. ap (λ (ds : List Seat). seats_share ds a) same ∙ l.alone.none a };
  };
  started = start.pages;
  room = let n = start.count in omega arith;
}

-- ---- protection

protected-same : (r : Range32) (b : Bank) (t : Bool) → (cond t (record b { read_only = true }) b).range ≡ b.range
protected-same r b true = refl
protected-same r b false = refl

range-kept : (r : Range32) (b : Bank) → (protected_bank r b).range ≡ b.range
range-kept r b = protected-same r b (b.range.base == r.base && b.range.size == r.size)

whole-protected : (r : Range32) (bs : List Bank) → AreWholeBanks bs → AreWholeBanks (map (protected_bank r) bs)
whole-protected r [] w = tt
whole-protected r (b ∷ bs) w = (subst (λ (x : Range32). IsWhole x.base x.size) (sym (range-kept r b)) w.0, whole-protected r bs w.1)

has-protected : (r : Range32) (bs : List Bank) (a : ℕ) → bank_has (map (protected_bank r) bs) a 1 ≡ bank_has bs a 1
has-protected r [] a = refl
has-protected r (b ∷ bs) a =
    ap (λ (x : Range32). has_access x.base x.size a 1 || bank_has (map (protected_bank r) bs) a 1) (range-kept r b)
    ∙ ap (λ (x : Bool). has_access b.range.base b.range.size a 1 || x) (has-protected r bs a)

pub ready-protect : (s : State) (r : Range32) → IsReady s → IsReady (after_protect s r)
ready-protect s r ready = record {
  laid_out = record {
    banks = whole-protected r s.contents.banks ready.laid_out.banks;
    devices = ready.laid_out.devices;
    apart = λ a h. has-protected r s.contents.banks a ∙ ready.laid_out.apart a h;
    alone = ready.laid_out.alone;
  };
  started = ready.started;
  room = ready.room;
}

-- ---- pages that are used, and stores that are forgotten

pub ready-claim : (s : State) (r : Range32) → IsReady s → used_count (after_claim s r).contents.used ≤ s.contents.frames → IsReady (after_claim s r)
ready-claim s r ready few = record {
  laid_out = record { banks = ready.laid_out.banks; devices = ready.laid_out.devices; apart = ready.laid_out.apart; alone = ready.laid_out.alone };
  started = claimed_length s.contents.used (r.base / 4096) (pages_of r.base r.size) ∙ ready.started;
  room = few;
}

pub ready-forget : (s : State) → IsReady s → IsReady (after_forget s)
ready-forget s ready = record {
  laid_out = record { banks = ready.laid_out.banks; devices = ready.laid_out.devices; apart = ready.laid_out.apart; alone = ready.laid_out.alone };
  started = ready.started;
  room = ready.room;
}

-- ---- a device that is taken out

whole-removed : (ds : List Seat) (i : ℕ) → AreWholeSeats ds → AreWholeSeats (remove ds i)
whole-removed [] zero w = tt
whole-removed [] (suc i) w = tt
whole-removed (d ∷ ds) zero w = w.1
whole-removed (d ∷ ds) (suc i) w = (w.0, whole-removed ds i w.1)

have-removed : (ds : List Seat) (i a : ℕ) → seats_have (remove ds i) a ≡ true → seats_have ds a ≡ true
have-removed [] zero a h = h
have-removed [] (suc i) a h = h
have-removed (d ∷ ds) zero a h = rw h (or-true (has_access d.base d.size a 1))
have-removed (d ∷ ds) (suc i) a h = go (has_access d.base d.size a 1) h (have-removed ds i a)
  where
    go : (x : Bool) → (x || seats_have (remove ds i) a) ≡ true → (seats_have (remove ds i) a ≡ true → seats_have ds a ≡ true) → (x || seats_have ds a) ≡ true
    go true h f = refl
    go false h f = f h

none-removed : (ds : List Seat) (i a : ℕ) → seats_have ds a ≡ false → seats_have (remove ds i) a ≡ false
none-removed ds i a h = go (seats_have (remove ds i) a) refl
  where
    go : (x : Bool) → seats_have (remove ds i) a ≡ x → seats_have (remove ds i) a ≡ false
    go true e = false-true (sym h ∙ have-removed ds i a e)
    go false e = e

and-or-none : (x y z : Bool) → (x && y || z) ≡ false → z ≡ false
and-or-none x y true e = absurd (never (sym (or-true (x && y)) ∙ e))
  where
    never : true ≡ false → ⊥
    never e = cc
and-or-none x y false e = refl

share-removed : (ds : List Seat) (i a : ℕ) → seats_share ds a ≡ false → seats_share (remove ds i) a ≡ false
share-removed [] zero a h = h
share-removed [] (suc i) a h = h
share-removed (d ∷ ds) zero a h = and-or-none (has_access d.base d.size a 1) (seats_have ds a) (seats_share ds a) h
share-removed (d ∷ ds) (suc i) a h =
    go (has_access d.base d.size a 1) (seats_have ds a) refl h (share-removed ds i a (and-or-none (has_access d.base d.size a 1) (seats_have ds a) (seats_share ds a) h))
  where
    go : (x y : Bool) → seats_have ds a ≡ y → (x && seats_have ds a || seats_share ds a) ≡ false → seats_share (remove ds i) a ≡ false → (x && seats_have (remove ds i) a || seats_share (remove ds i) a) ≡ false
    go true true e h f = absurd (never (rw e at h))
      where
        never : true ≡ false → ⊥
        never e = cc
    go true false e h f = rw (none-removed ds i a e, f) refl
    go false y e h f = f

pub ready-detach : (s : State) (i : ℕ) → IsReady s → IsReady (after_detach s i)
ready-detach s i ready = record {
  laid_out = record {
    banks = ready.laid_out.banks;
    devices = whole-removed s.devices i ready.laid_out.devices;
    apart = λ a h. ready.laid_out.apart a (have-removed s.devices i a h);
    alone = record { none = λ a. share-removed s.devices i a (ready.laid_out.alone.none a) };
  };
  started = ready.started;
  room = ready.room;
}

-- a bus that was made, got one bank, and whose memory was started
pub ready_built : (seats : List Seat) (r : Range32) (s t u : State) → IsNew seats s → AreWholeSeats seats → IsNowhere (λ a. seats_share seats a) → IsWhole r.base r.size → IsNowhere (range_shares r s)
    → t ≡ after_bank s r → IsStart t.contents u.contents → u.devices ≡ t.devices → IsReady u
ready_built seats r s t u new whole alone words apart after start same =
    ready-start t u (subst (λ (x : State). IsLaidOut x) (sym after) (laid_out-bank s r (laid_out-new seats s new whole alone) words apart)) start same

pub ready_forgotten : (s t : State) → t ≡ after_forget s → IsReady s → IsReady t
ready_forgotten s t e r = subst (λ (x : State). IsReady x) (sym e) (ready-forget s r)

pub ready_begun : (r : Range32) (s t u : State) → IsLaidOut s → IsWhole r.base r.size → IsNowhere (range_shares r s)
    → t ≡ after_bank s r → IsStart t.contents u.contents → u.devices ≡ t.devices → IsReady u
ready_begun r s t u laid_out words apart after start same =
    ready-start t u (subst (λ (x : State). IsLaidOut x) (sym after) (laid_out-bank s r laid_out words apart)) start same
