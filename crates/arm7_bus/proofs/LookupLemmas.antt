-- A bank that has an access, by its place; and what it protects, where the banks share no address.
use Rattle.std.proofs.Common.{◌≡◌, ℕ, zero, suc, ◌+◌, ◌<◌, ◌≤◌, Bool, true, false, ◌||◌, List, [], ◌∷◌, ◌++◌, length, get_or, map, take, drop, Option, Some, None, refl, sym, ap, ◌∙◌, subst, arith, add-one}
use Rattle.std.specs.Prelude.{◌&&◌, if◌then◌else◌}
use Rattle.std.proofs.lemmas.List.{append-nil, length-map, take_all}
use Rattle.std.proofs.Math.Seq.{drop-length}
use Rattle.std.proofs.lemmas.List.Folds.{list_any-append, list_any_at}
use Rattle.sdt_word.specs.declared.ranges.Range32.{Range32}
use Rattle.arm7_bus.specs.declared.memory.Bank.{Bank}
use Rattle.arm7_bus.specs.Lookups.{AreApartBanks, IsBankAt, banks_meet}
use Rattle.arm7_bus.specs.Meets.{IsFound, IsNowhere, lesser_of}
use Rattle.arm7_bus.specs.Protection.{protected_bank}
use Rattle.arm7_bus.specs.Seats.{has_access}
use Rattle.arm7_bus.specs.States.{bank_has, is_protected, protected_at}
use Rattle.arm7_bus.proofs.TickLemmas.{or_false}

-- ---- places

same_at : (bs : List Bank) (i : ℕ) (x y : Bank) → i < length bs → get_or bs i x ≡ get_or bs i y
same_at [] i x y lt = absurd (omega arith)
same_at (b ∷ bs) zero x y lt = refl
same_at (b ∷ bs) (suc i) x y lt = same_at bs i x y (omega arith)

-- what is so of the bank that was found at a place
pub bank_at : (bs : List Bank) (i a n : ℕ) (x : Bank) → i < length bs → x ≡ get_or bs i x → has_access x.range.base x.range.size a n ≡ true → IsBankAt bs i a n
bank_at bs i a n x lt e h = record {
  within = lt;
  access = λ b f. ap (λ (c : Bank). has_access c.range.base c.range.size a n) (f ∙ same_at bs i b x lt ∙ sym e) ∙ h;
}

-- the bank at the first place, and at a later one
pub at_first : (b : Bank) (bs : List Bank) (a n : ℕ) → has_access b.range.base b.range.size a n ≡ true → IsBankAt (b ∷ bs) 0 a n
at_first b bs a n h = record {
  within = omega arith;
  access = λ x e. ap (λ (c : Bank). has_access c.range.base c.range.size a n) e ∙ h;
}

pub at_later : (b : Bank) (bs : List Bank) (i j a n : ℕ) → IsBankAt bs i a n → j ≡ i + 1 → IsBankAt (b ∷ bs) j a n
at_later b bs i j a n h e = subst (λ (k : ℕ). IsBankAt (b ∷ bs) k a n) (sym (e ∙ add-one i)) later where
  later : IsBankAt (b ∷ bs) (suc i) a n
  later = record {
    within = let w = h.within in omega arith;
    access = λ x f. h.access x f;
  }

any_there : (bs : List Bank) (i a n : ℕ) → IsBankAt bs i a n → (b : Bank) → bank_has bs a n ≡ true
any_there bs i a n h b =
    let x : Bank = get_or bs i b in
    list_any_at (λ (c : Bank). has_access c.range.base c.range.size a n) bs i x h.within
    (h.access (get_or bs i x) (same_at bs i x (get_or bs i x) h.within))

pub has_at : (bs : List Bank) (i a n : ℕ) → IsBankAt bs i a n → bank_has bs a n ≡ true
has_at [] i a n h = absurd (let w = h.within in omega arith)
has_at (b ∷ bs) i a n h = any_there (b ∷ bs) i a n h b

-- ---- banks that share no address

-- of the first bank, and of the others
head_apart : (x y z : Bool) → (x && y || z) ≡ false → x ≡ true → y ≡ false
head_apart true true z f h = absurd (cc)
head_apart true false z f h = refl
head_apart false y z f h = absurd (cc)

rest_apart : (x y z : Bool) → (x && y || z) ≡ false → z ≡ false
rest_apart true true z f = absurd (cc)
rest_apart true false z f = f
rest_apart false y z f = f

first_apart : (b : Bank) (bs : List Bank) (a : ℕ) → AreApartBanks (b ∷ bs) → has_access b.range.base b.range.size a 1 ≡ true → bank_has bs a 1 ≡ false
first_apart b bs a p h = head_apart (has_access b.range.base b.range.size a 1) (bank_has bs a 1) (banks_meet bs a) (p.none a) h

others_apart : (b : Bank) (bs : List Bank) → AreApartBanks (b ∷ bs) → AreApartBanks bs
others_apart b bs p = record { none = λ a. rest_apart (has_access b.range.base b.range.size a 1) (bank_has bs a 1) (banks_meet bs a) (p.none a) }

joined : (c x y z w : Bool) → (c && x || y) ≡ false → (z && (c || x)) ≡ false → w ≡ false → (c && (x || (z || false)) || w) ≡ false
joined true true y z w e f g = absurd (cc)
joined true false y true w e f g = absurd (cc)
joined true false y false w e f g = g
joined false x y z w e f g = g

rest_of : (x y z : Bool) → (x && (y || z)) ≡ false → (x && z) ≡ false
rest_of true true z f = absurd (cc)
rest_of true false z f = f
rest_of false y z f = refl

more_at : (bs : List Bank) (b : Bank) (a : ℕ) → banks_meet bs a ≡ false → (has_access b.range.base b.range.size a 1 && bank_has bs a 1) ≡ false → banks_meet (bs ++ b ∷ []) a ≡ false
more_at [] b a e f = head_none (has_access b.range.base b.range.size a 1) where
  head_none : (x : Bool) → (x && false || false) ≡ false
  head_none true = refl
  head_none false = refl
more_at (c ∷ bs) b a e f =
    rw (list_any-append (λ (d : Bank). has_access d.range.base d.range.size a 1) bs (b ∷ []))
    (joined (has_access c.range.base c.range.size a 1) (bank_has bs a 1) (banks_meet bs a) (has_access b.range.base b.range.size a 1) (banks_meet (bs ++ b ∷ []) a) e f
    (more_at bs b a (rest_apart (has_access c.range.base c.range.size a 1) (bank_has bs a 1) (banks_meet bs a) e)
    (rest_of (has_access b.range.base b.range.size a 1) (has_access c.range.base c.range.size a 1) (bank_has bs a 1) f)))

pub apart_none : AreApartBanks []
apart_none = record { none = λ a. refl }

pub apart_more : (bs : List Bank) (b : Bank) → AreApartBanks bs
    → IsNowhere (λ a. has_access b.range.base b.range.size a 1 && bank_has bs a 1) → AreApartBanks (bs ++ b ∷ [])
apart_more bs b p e = record { none = λ a. more_at bs b a (p.none a) (e.none a) }

range_kept : (r : Range32) (b : Bank) → (protected_bank r b).range ≡ b.range
range_kept r b = grind arith

has_kept : (r : Range32) (bs : List Bank) (a : ℕ) → bank_has (map (protected_bank r) bs) a 1 ≡ bank_has bs a 1
has_kept r [] a = refl
has_kept r (b ∷ bs) a = rw (range_kept r b, has_kept r bs a) refl

pub apart_pushed : (bs new : List Bank) (r : Range32) (b : Bool) → AreApartBanks bs → IsNowhere (λ a. has_access r.base r.size a 1 && bank_has bs a 1)
    → new ≡ (if b then bs ++ record { range = r; read_only = false } ∷ [] else bs) → AreApartBanks new
apart_pushed bs new r true p n e = subst (λ (xs : List Bank). AreApartBanks xs) (sym e) (apart_more bs (record { range = r; read_only = false }) p n)
apart_pushed bs new r false p n e = subst (λ (xs : List Bank). AreApartBanks xs) (sym e) p

meet_kept : (r : Range32) (bs : List Bank) (a : ℕ) → banks_meet (map (protected_bank r) bs) a ≡ banks_meet bs a
meet_kept r [] a = refl
meet_kept r (b ∷ bs) a = rw (range_kept r b, has_kept r bs a, meet_kept r bs a) refl

pub apart_kept : (r : Range32) (bs : List Bank) → AreApartBanks bs → AreApartBanks (map (protected_bank r) bs)
apart_kept r bs p = record { none = λ a. meet_kept r bs a ∙ p.none a }

pub protected_items : (r : Range32) (bs new : List Bank) (n : ℕ) → new ≡ map (protected_bank r) bs → n ≡ length bs
    → take n (new ++ drop (length new) bs) ≡ map (protected_bank r) bs
protected_items r bs new n e len =
    let k : length new ≡ length bs = ap length e ∙ length-map bs (protected_bank r) in
    let none : drop (length new) bs ≡ [] = ap (λ (i : ℕ). drop i bs) k ∙ drop-length bs in
    let whole : take n (new ++ drop (length new) bs) ≡ new = ap (λ (xs : List Bank). take n (new ++ xs)) none ∙ ap (take n) (append-nil new) ∙ take_all n new (omega arith) in
    whole ∙ e

pub apart_protected : (r : Range32) (bs new : List Bank) (n : ℕ) → AreApartBanks bs → new ≡ map (protected_bank r) bs → n ≡ length bs
    → AreApartBanks (take n (new ++ drop (length new) bs))
apart_protected r bs new n p e len = subst (λ (xs : List Bank). AreApartBanks xs) (sym (protected_items r bs new n e len)) (apart_kept r bs p)

-- where the lesser of two is nowhere, the first is
pub nowhere_first : (p : ℕ → Bool) (o u w : Option ℕ) → IsFound p o → w ≡ lesser_of o u → w ≡ None → IsNowhere p
nowhere_first p None u w f e h = f
nowhere_first p (Some x) None w f e h = absurd (cc)
nowhere_first p (Some x) (Some y) w f e h = absurd (cc)

-- ---- protection

pub unprotected : (bs : List Bank) (a : ℕ) → bank_has bs a 1 ≡ false → protected_at bs a ≡ false
unprotected [] a e = refl
unprotected (b ∷ bs) a e = both b.read_only (has_access b.range.base b.range.size a 1) (bank_has bs a 1) (protected_at bs a) e (unprotected bs a) where
  both : (r x y z : Bool) → (x || y) ≡ false → (y ≡ false → z ≡ false) → (r && x || z) ≡ false
  both r true y z e f = absurd (cc)
  both true false y z e f = f e
  both false false y z e f = f e

-- the byte lies in the bank at a place, so that bank decides
decides : (bs : List Bank) (i a : ℕ) (x : Bank) → AreApartBanks bs → i < length bs → x ≡ get_or bs i x → has_access x.range.base x.range.size a 1 ≡ true
    → protected_at bs a ≡ x.read_only
decides [] i a x p lt e h = absurd (omega arith)
decides (b ∷ bs) zero a x p lt e h =
    rw (← e, h, unprotected bs a (first_apart b bs a p (ap (λ (c : Bank). has_access c.range.base c.range.size a 1) (sym e) ∙ h))) (last x.read_only) where
      last : (r : Bool) → (r && true || false) ≡ r
      last true = refl
      last false = refl
decides (b ∷ bs) (suc i) a x p lt e h =
    rw (outside (has_access b.range.base b.range.size a 1) refl) (first b.read_only (protected_at bs a) ∙ decides bs i a x (others_apart b bs p) (omega arith) e h) where
      outside : (v : Bool) → has_access b.range.base b.range.size a 1 ≡ v → has_access b.range.base b.range.size a 1 ≡ false
      outside true f = absurd (let n = first_apart b bs a p f in let y = has_at bs i a 1 (bank_at bs i a 1 x (omega arith) e h) in cc)
      outside false f = f

      first : (r z : Bool) → (r && false || z) ≡ z
      first true z = refl
      first false z = refl

pub bytes_decide : (bs : List Bank) (a n : ℕ) (r : Bool) → 1 ≤ n → ((x : ℕ) → a ≤ x → x < a + n → protected_at bs x ≡ r) → is_protected bs a n ≡ r
bytes_decide bs a zero r lt f = absurd (omega arith)
bytes_decide bs a (suc zero) r lt f = rw (f a (omega arith) (omega arith)) (or_false r)
bytes_decide bs a (suc (suc n)) r lt f =
    rw (f a (omega arith) (omega arith), bytes_decide bs (suc a) (suc n) r (omega arith) (λ x low high. f x (omega arith) (omega arith))) (twice r) where
      twice : (v : Bool) → (v || v) ≡ v
      twice true = refl
      twice false = refl

part : (base size a n x : ℕ) → has_access base size a n ≡ true → a ≤ x → x < a + n → has_access base size x 1 ≡ true
part base size a n x h low high = grind arith

-- the bank that was found protects the access or doesn't
pub protected_by : (bs : List Bank) (i a n : ℕ) (x : Bank) → AreApartBanks bs → IsBankAt bs i a n → 1 ≤ n → x ≡ get_or bs i x → x.read_only ≡ is_protected bs a n
protected_by bs i a n x p h lt e =
    sym (bytes_decide bs a n x.read_only lt (λ y low high. decides bs i y x p h.within e (part x.range.base x.range.size a n y (h.access x e) low high)))
