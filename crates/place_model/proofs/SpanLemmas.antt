-- Ranges that meet, and what it says that none is told.
use Rattle.std.proofs.Common.{◌≡◌, ℕ, zero, suc, ◌+◌, ◌-◌, ◌^◌, ◌<◌, ◌≤◌, ◌⊎◌, inl, inr, min, max, Bool, true, false, nat_lt, if◌then◌else◌, List, [], ◌∷◌, refl, subst, arith, Option, Some, None}
use Rattle.std.specs.Prelude.{slice_get}
use Rattle.std.specs.Option.{option_map, option_or}
use Rattle.std.proofs.lemmas.Bool.{cases_lt}
use Rattle.sdt_fault.specs.declared.refusal.Refusal.TheVariants.{Overfull}
use Rattle.boot_code.specs.Boots.{AreApart}
use Rattle.place_model.specs.Faults.{Span, Meeting, Move, shared, met_by, first_meeting, Judged, above, overfull, above_maximum}
use Rattle.place_model.specs.Laws.{IsLeastShared, SharedLaw, OfMeeting, MeetingLaw}
use Rattle.place_model.proofs.ListLemmas.{Pairs, pairs_indexed}

pub lt-false : (a b : ℕ) → nat_lt a b ≡ false → b ≤ a
lt-false a b h = grind (arith)

pub lt-true : (a b : ℕ) → nat_lt a b ≡ true → a < b
lt-true a b h = grind (arith)

pub shared_law : SharedLaw
shared_law s t = go (nat_lt (max s.base t.base) (min (s.base + s.size) (t.base + t.size))) refl
  where
    go : (b : Bool) → nat_lt (max s.base t.base) (min (s.base + s.size) (t.base + t.size)) ≡ b → IsLeastShared s t (if b then Some (max s.base t.base) else None)
    go true h =
        let lt = lt-true (max s.base t.base) (min (s.base + s.size) (t.base + t.size)) h in (
          record { from_base = omega arith; below_end = omega arith },
          record { from_base = omega arith; below_end = omega arith },
          λ x p q. let a = p.from_base in let b = q.from_base in omega arith,
        )
    go false h = λ x p q.
        let le = lt-false (max s.base t.base) (min (s.base + s.size) (t.base + t.size)) h in
        let a = p.from_base in let b = q.from_base in let c = p.below_end in let d = q.below_end in omega arith

pub apart : (s t : Span) → shared s t ≡ None → 0 < s.size → 0 < t.size → AreApart s.base s.size t.base t.size
apart s t none some other = go (nat_lt (max s.base t.base) (min (s.base + s.size) (t.base + t.size))) refl none
  where
    side : min (s.base + s.size) (t.base + t.size) ≤ max s.base t.base → (t.base < s.base + s.size) ⊎ (s.base + s.size ≤ t.base) → AreApart s.base s.size t.base t.size
    side le (inl h) = inr (omega arith)
    side le (inr h) = inl h

    go : (b : Bool) → nat_lt (max s.base t.base) (min (s.base + s.size) (t.base + t.size)) ≡ b → (if b then Some (max s.base t.base) else None) ≡ None → AreApart s.base s.size t.base t.size
    go true h n = absurd (cc)
    go false h n = side (lt-false (max s.base t.base) (min (s.base + s.size) (t.base + t.size)) h) (cases_lt t.base (s.base + s.size))

-- ---- nothing is told

pub or_none : {X : Type 0} (o p : Option X) → option_or o p ≡ None → (o ≡ None) × (p ≡ None)
or_none None p h = (refl, h)
or_none (Some x) p h = absurd (cc)

pub map_none : {X Y : Type 0} (f : X → Y) (o : Option X) → option_map f o ≡ None → o ≡ None
map_none f None h = refl
map_none f (Some x) h = absurd (cc)

-- the first of some moves whose source a range meets
pub record IsMet (s : Span) (ms : List Move) (told : Meeting) : Type 0 where
  pub place : ℕ
  pub other : Move
  pub at : slice_get ms place ≡ Some other
  pub address : shared s other.read ≡ Some told.address
  pub first_name : told.first ≡ s.name
  pub second_name : told.second ≡ other.read.name
  pub none_before : (l : ℕ) (n : Move) → slice_get ms l ≡ Some n → l < place → shared s n.read ≡ None

abbrev OfMet : Span → List Move → Option Meeting → Type 0
OfMet s ms None = (l : ℕ) (n : Move) → slice_get ms l ≡ Some n → shared s n.read ≡ None
OfMet s ms (Some told) = IsMet s ms told

none_met : (s : Span) (m : Move) (ms : List Move) → shared s m.read ≡ None → OfMet s ms None → (l : ℕ) (n : Move) → slice_get (m ∷ ms) l ≡ Some n → shared s n.read ≡ None
none_met s m ms none all zero n at = let e : m ≡ n = cc in rw (← e) none
none_met s m ms none all (suc l) n at = all l n at

met_later : (s : Span) (m : Move) (ms : List Move) (o : Option Meeting) → shared s m.read ≡ None → OfMet s ms o → OfMet s (m ∷ ms) o
met_later s m ms None none all = none_met s m ms none all
met_later s m ms (Some told) none h = record {
  place = suc h.place;
  other = h.other;
  at = h.at;
  address = h.address;
  first_name = h.first_name;
  second_name = h.second_name;
  none_before = λ l n at lt. before l n at lt;
}
  where
    before : (l : ℕ) (n : Move) → slice_get (m ∷ ms) l ≡ Some n → l < suc h.place → shared s n.read ≡ None
    before zero n at lt = let e : m ≡ n = cc in rw (← e) none
    before (suc l) n at lt = h.none_before l n at (omega arith)

met_law : (s : Span) (ms : List Move) → OfMet s ms (met_by s ms)
met_law s [] = λ l n at. absurd cc
met_law s (m ∷ ms) = go (shared s m.read) refl (met_law s ms)
  where
    go : (o : Option ℕ) → shared s m.read ≡ o → OfMet s ms (met_by s ms)
        → OfMet s (m ∷ ms) (option_or (option_map (λ a. record { first = s.name; second = m.read.name; address = a }) o) (met_by s ms))
    go None e rest = met_later s m ms (met_by s ms) e rest
    go (Some a) e rest = record { place = 0; other = m; at = refl; address = e; first_name = refl; second_name = refl; none_before = λ l n at lt. absurd (omega arith) }

no_pair : (m : Move) (ms : List Move) → OfMet m.written ms None → OfMeeting ms None → (k l : ℕ) (x y : Move) → k < l → slice_get (m ∷ ms) k ≡ Some x → slice_get (m ∷ ms) l ≡ Some y
    → shared x.written y.read ≡ None
no_pair m ms none all zero zero x y lt at to = absurd (omega arith)
no_pair m ms none all zero (suc l) x y lt at to = let e : m ≡ x = cc in rw (← e) (none l y to)
no_pair m ms none all (suc k) zero x y lt at to = absurd (omega arith)
no_pair m ms none all (suc k) (suc l) x y lt at to = all k l x y (omega arith) at to

pairs_later : (m : Move) (ms : List Move) (o : Option Meeting) → OfMet m.written ms None → OfMeeting ms o → OfMeeting (m ∷ ms) o
pairs_later m ms None none all = no_pair m ms none all
pairs_later m ms (Some told) none h = record {
  earlier = suc h.earlier;
  later = suc h.later;
  one = h.one;
  other = h.other;
  order = let lt = h.order in omega arith;
  one_at = h.one_at;
  other_at = h.other_at;
  address = h.address;
  first_name = h.first_name;
  second_name = h.second_name;
  none_before = λ k l x y lt at to side. before k l x y lt at to side;
}
  where
    before : (k l : ℕ) (x y : Move) → k < l → slice_get (m ∷ ms) k ≡ Some x → slice_get (m ∷ ms) l ≡ Some y
        → (k < suc h.earlier) ⊎ ((k ≡ suc h.earlier) × (l < suc h.later)) → shared x.written y.read ≡ None
    before zero zero x y lt at to side = absurd (omega arith)
    before zero (suc l) x y lt at to side = let e : m ≡ x = cc in rw (← e) (none l y to)
    before (suc k) zero x y lt at to side = absurd (omega arith)
    before (suc k) (suc l) x y lt at to (inl side) = h.none_before k l x y (omega arith) at to (inl (omega arith))
    before (suc k) (suc l) x y lt at to (inr side) = let a = side.0 in let b = side.1 in h.none_before k l x y (omega arith) at to (inr (omega arith, omega arith))

pub meeting_law : MeetingLaw
meeting_law [] = λ k l m n lt at to. absurd cc
meeting_law (m ∷ ms) = go (met_by m.written ms) (met_law m.written ms) (meeting_law ms)
  where
    go : (o : Option Meeting) → OfMet m.written ms o → OfMeeting ms (first_meeting ms) → OfMeeting (m ∷ ms) (option_or o (first_meeting ms))
    go None none rest = pairs_later m ms (first_meeting ms) none rest
    go (Some told) h rest = record {
      earlier = 0;
      later = suc h.place;
      one = m;
      other = h.other;
      order = omega arith;
      one_at = refl;
      other_at = h.at;
      address = h.address;
      first_name = h.first_name;
      second_name = h.second_name;
      none_before = λ k l x y lt at to side. before k l x y lt at to side;
    }
      where
        before : (k l : ℕ) (x y : Move) → k < l → slice_get (m ∷ ms) k ≡ Some x → slice_get (m ∷ ms) l ≡ Some y → (k < 0) ⊎ ((k ≡ 0) × (l < suc h.place)) → shared x.written y.read ≡ None
        before zero zero x y lt at to side = absurd (omega arith)
        before zero (suc l) x y lt at to (inl side) = absurd (omega arith)
        before zero (suc l) x y lt at to (inr side) = let b = side.1 in let e : m ≡ x = cc in rw (← e) (h.none_before l y to (omega arith))
        before (suc k) l x y lt at to (inl side) = absurd (omega arith)
        before (suc k) l x y lt at to (inr side) = let a = side.0 in absurd (omega arith)

-- where no pair is told
pub meeting_none : (ms : List Move) → first_meeting ms ≡ None → Pairs (λ m n. shared m.written n.read ≡ None) ms
meeting_none ms h = pairs_indexed (λ m n. shared m.written n.read ≡ None) ms (subst (OfMeeting ms) h (meeting_law ms))

-- what isn't too large has its declared maximum, and ends with memory
pub not_overfull : (j : Judged) → overfull j ≡ None → (above_maximum j j.maximum ≡ None) × (above j (2 ^ 32 - j.base) ≡ None) × (j.base ≤ 2 ^ 32)
not_overfull j h = go (nat_lt (2 ^ 32) j.base) refl h
  where
    go : (b : Bool) → nat_lt (2 ^ 32) j.base ≡ b → (if b then Some (Overfull j.name j.size 0) else option_or (above_maximum j j.maximum) (above j (2 ^ 32 - j.base))) ≡ None
        → (above_maximum j j.maximum ≡ None) × (above j (2 ^ 32 - j.base) ≡ None) × (j.base ≤ 2 ^ 32)
    go true high none = absurd (cc)
    go false high none = let both = or_none (above_maximum j j.maximum) (above j (2 ^ 32 - j.base)) none in (both.0, both.1, lt-false (2 ^ 32) j.base high)

pub in_memory : (j : Judged) → overfull j ≡ None → j.base + j.size ≤ 2 ^ 32
in_memory j h = let (declared, memory, begins) = not_overfull j h in go (nat_lt (2 ^ 32 - j.base) j.size) refl memory begins
  where
    go : (b : Bool) → nat_lt (2 ^ 32 - j.base) j.size ≡ b → (if b then Some (Overfull j.name j.size (2 ^ 32 - j.base)) else None) ≡ None → j.base ≤ 2 ^ 32 → j.base + j.size ≤ 2 ^ 32
    go true low none begins = absurd (cc)
    go false low none begins = let most = lt-false (2 ^ 32 - j.base) j.size low in omega arith
