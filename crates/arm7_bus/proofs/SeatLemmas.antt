-- The device that has an access, by its place in the list.
use Rattle.std.proofs.Common.{◌≡◌, ℕ, zero, suc, ◌+◌, ◌<◌, Bool, true, false, List, [], ◌∷◌, length, get_or, set, Option, Some, None, refl, sym, ap, ◌∙◌, subst, arith}
use Rattle.std.specs.Prelude.{remove}
use Rattle.sdt_outside.specs.declared.device.DeviceState.{DeviceState}
use Rattle.arm7_bus.specs.Seats.{Seat, first_place, has_access, seats_by, device_at, changed_at}

module _ {B : Type 0} (base size : B → ℕ) (state : B → DeviceState) (touched : B → ℕ) (a n : ℕ) where
  abbrev has : B → Bool
  has b = has_access (base b) (size b) a n

  abbrev seat : B → Seat
  seat b = record { base = base b; size = size b; state = state b; touches = touched b }

  -- the one at this place has the access, and it is the one that answers and changes
  pub record IsFound (xs : List B) (i : ℕ) : Type 0 where
    pub within : i < length xs
    pub access : (d : B) → d ≡ get_or xs i d → has d ≡ true
    pub device : (d : B) → d ≡ get_or xs i d → device_at (seats_by base size state touched xs) a n ≡ Some (seat d)
    pub changed : (change : Seat → Seat) (d y : B) → d ≡ get_or xs i d → seat y ≡ change (seat d)
        → seats_by base size state touched (set xs i y) ≡ changed_at change a n (seats_by base size state touched xs)

  pub record IsMissing (xs : List B) : Type 0 where
    pub device : device_at (seats_by base size state touched xs) a n ≡ None
    pub changed : (change : Seat → Seat) → changed_at change a n (seats_by base size state touched xs) ≡ seats_by base size state touched xs

  first_found : (x : B) (xs : List B) → has x ≡ true → IsFound (x ∷ xs) 0
  first_found x xs h = record {
    within = omega arith;
    access = λ d v. ap has v ∙ h;
    device = λ d v. rw h (ap (λ (b : B). Some (seat b)) (sym v));
    changed = λ change d y v e. rw h (ap (λ (s : Seat). s ∷ seats_by base size state touched xs) (e ∙ ap (λ (b : B). change (seat b)) v));
  }

  next_found : (x : B) (xs : List B) (i : ℕ) → has x ≡ false → IsFound xs i → IsFound (x ∷ xs) (suc i)
  next_found x xs i h f = record {
    within = let w = f.within in omega arith;
    access = f.access;
    device = λ d v. rw h (f.device d v);
    changed = λ change d y v e. rw h (ap (λ (ss : List Seat). seat x ∷ ss) (f.changed change d y v e));
  }

  none-some : (i : ℕ) → None ≡ Some i → ⊥
  none-some i e = cc

  some-some : (i k : ℕ) → Some i ≡ Some k → i ≡ k
  some-some i k e = cc

  some-none : (i : ℕ) → Some i ≡ None → ⊥
  some-none i e = cc

  found_in : (x : B) (xs : List B) (i : ℕ) (b : Bool) (o : Option ℕ) → has x ≡ b → first_place has xs ≡ o
      → ((k : ℕ) → first_place has xs ≡ Some k → IsFound xs k) → first_place has (x ∷ xs) ≡ Some i → IsFound (x ∷ xs) i
  found_in x xs i true o h p rest e = subst (λ (k : ℕ). IsFound (x ∷ xs) k) (some-some 0 i (rw h at e)) (first_found x xs h)
  found_in x xs i false None h p rest e = absurd (none-some i (rw (h, p) at e))
  found_in x xs i false (Some k) h p rest e =
      let next : suc k ≡ i = omega (arith, some-some (k + 1) i (rw (h, p) at e)) in
      subst (λ (j : ℕ). IsFound (x ∷ xs) j) next (next_found x xs k h (rest k p))

  pub found_at : (xs : List B) (i : ℕ) → first_place has xs ≡ Some i → IsFound xs i
  found_at [] i e = absurd (none-some i e)
  found_at (x ∷ xs) i e = found_in x xs i (has x) (first_place has xs) refl refl (λ k p. found_at xs k p) e

  missing_in : (x : B) (xs : List B) (b : Bool) (o : Option ℕ) → has x ≡ b → first_place has xs ≡ o
      → (first_place has xs ≡ None → IsMissing xs) → first_place has (x ∷ xs) ≡ None → IsMissing (x ∷ xs)
  missing_in x xs true o h p rest e = absurd (some-none 0 (rw h at e))
  missing_in x xs false (Some k) h p rest e = absurd (some-none (k + 1) (rw (h, p) at e))
  missing_in x xs false None h p rest e =
      let m = rest p in
      record { device = rw h m.device; changed = λ change. rw h (ap (λ (ss : List Seat). seat x ∷ ss) (m.changed change)) }

  pub missing_from : (xs : List B) → first_place has xs ≡ None → IsMissing xs
  missing_from [] e = record { device = refl; changed = λ change. refl }
  missing_from (x ∷ xs) e = missing_in x xs (has x) (first_place has xs) refl refl (λ p. missing_from xs p) e

  pub same_seat : (y : B) (s : Seat) → base y ≡ s.base → size y ≡ s.size → state y ≡ s.state → touched y ≡ s.touches → seat y ≡ s
  same_seat y s p q r t = rw (p, q, r, t) refl

-- the same, with the list first
pub found_in_list : {B : Type 0} (xs : List B) (base size : B → ℕ) (state : B → DeviceState) (touched : B → ℕ) (a n i : ℕ)
    → first_place (λ (b : B). has_access (base b) (size b) a n) xs ≡ Some i → IsFound base size state touched a n xs i
found_in_list xs base size state touched a n i e = found_at base size state touched a n xs i e

pub missing_in_list : {B : Type 0} (xs : List B) (base size : B → ℕ) (state : B → DeviceState) (touched : B → ℕ) (a n : ℕ)
    → first_place (λ (b : B). has_access (base b) (size b) a n) xs ≡ None → IsMissing base size state touched a n xs
missing_in_list xs base size state touched a n e = missing_from base size state touched a n xs e

pub seat_is : {B : Type 0} (y : B) (base size : B → ℕ) (state : B → DeviceState) (touched : B → ℕ) (s : Seat)
    → base y ≡ s.base → size y ≡ s.size → state y ≡ s.state → touched y ≡ s.touches
    → seat base size state touched 0 0 y ≡ s
seat_is y base size state touched s = same_seat base size state touched 0 0 y s

pub along : {A C : Type 0} {x y : A} → x ≡ y → (f : A → C) → f x ≡ f y
along e f = ap f e

-- the seats without the device at a place
pub seats_remove : {B : Type 0} (xs : List B) (base size : B → ℕ) (state : B → DeviceState) (touched : B → ℕ) (i : ℕ)
    → seats_by base size state touched (remove xs i) ≡ remove (seats_by base size state touched xs) i
seats_remove [] base size state touched zero = refl
seats_remove [] base size state touched (suc i) = refl
seats_remove (x ∷ xs) base size state touched zero = refl
seats_remove (x ∷ xs) base size state touched (suc i) =
    ap (λ (ss : List Seat). seat base size state touched 0 0 x ∷ ss) (seats_remove xs base size state touched i)
