-- Where things begin: at the least address that their alignment allows, and at whole words.
use Rattle.std.proofs.Common.{◌≡◌, ℕ, zero, suc, ◌+◌, ◌-◌, ◌*◌, ◌/◌, ◌%◌, ◌^◌, ◌<◌, ◌≤◌, ◌⊎◌, inl, inr, Bool, true, false, List, [], ◌∷◌, ◌++◌, refl, ap, subst, ◌∙◌, arith}
use Rattle.std.specs.List.{AllByRecursion}
use Rattle.std.proofs.Math.Nat.{mul-mod_left, mod_self, mod-eq_of_lt, mul-le-mul_right, pow-suc}
use Rattle.std.proofs.lemmas.Nat.{div-add-mod', mod_below}
use Rattle.std.proofs.lemmas.Bool.{cases_lt}
use Rattle.patch_model.specs.Fields.{Home}
use Rattle.place_model.specs.Items.{Item}
use Rattle.place_model.specs.Things.{Thing, Header, AnArea, AVeneer, Startup, alignment_of, size_of, gap, start_of, extent}
use Rattle.place_model.specs.Laws.{GapLaw, IsWholeItem}

-- no gap, or what is left of a multiple
gap_is : (m x : ℕ) → 0 < m → ((x % m ≡ 0) × ((m - x % m) % m ≡ 0)) ⊎ ((m - x % m) % m + x % m ≡ m)
gap_is m x h = go (x % m) (mod_below x m h)
  where
    go : (r : ℕ) → r < m → ((r ≡ 0) × ((m - r) % m ≡ 0)) ⊎ ((m - r) % m + r ≡ m)
    go zero lt = let e : m - 0 ≡ m = omega arith in inl (refl, ap (λ (k : ℕ). k % m) e ∙ mod_self m)
    go (suc r) lt = let small : m - suc r < m = omega arith in let e : (m - suc r) % m ≡ m - suc r = mod-eq_of_lt small in inr (omega arith)

allowed : (origin m at : ℕ) → origin ≤ at → 0 < m → (at + gap origin m at - origin) % m ≡ 0
allowed origin m at low h = go (gap_is m (at - origin) h)
  where
    go : (((at - origin) % m ≡ 0) × ((m - (at - origin) % m) % m ≡ 0)) ⊎ ((m - (at - origin) % m) % m + (at - origin) % m ≡ m)
        → (at + (m - (at - origin) % m) % m - origin) % m ≡ 0
    go (inl (whole, none)) = let e : at + (m - (at - origin) % m) % m - origin ≡ at - origin = omega arith in ap (λ (k : ℕ). k % m) e ∙ whole
    go (inr rest) =
        let all = div-add-mod' (at - origin) m in
        let e : at + (m - (at - origin) % m) % m - origin ≡ ((at - origin) / m + 1) * m = omega arith in
        ap (λ (k : ℕ). k % m) e ∙ mul-mod_left ((at - origin) / m + 1) m

least : (origin m at y : ℕ) → origin ≤ at → 0 < m → at ≤ y → (y - origin) % m ≡ 0 → at + gap origin m at ≤ y
least origin m at y low h behind whole = go (gap_is m (at - origin) h) (cases_lt ((at - origin) / m) ((y - origin) / m))
  where
    go : (((at - origin) % m ≡ 0) × ((m - (at - origin) % m) % m ≡ 0)) ⊎ ((m - (at - origin) % m) % m + (at - origin) % m ≡ m)
        → ((at - origin) / m < (y - origin) / m) ⊎ ((y - origin) / m ≤ (at - origin) / m) → at + (m - (at - origin) % m) % m ≤ y
    go (inl (none, zero_gap)) other = omega arith
    go (inr rest) (inl more) =
        let all = div-add-mod' (at - origin) m in
        let that = div-add-mod' (y - origin) m in
        let grown : ((at - origin) / m + 1) * m ≤ (y - origin) / m * m = mul-le-mul_right m (omega arith) in
        omega arith
    go (inr rest) (inr fewer) =
        let all = div-add-mod' (at - origin) m in
        let that = div-add-mod' (y - origin) m in
        let below : (m - (at - origin) % m) % m < m = mod_below (m - (at - origin) % m) m h in
        let grown : (y - origin) / m * m ≤ (at - origin) / m * m = mul-le-mul_right m fewer in
        absurd (omega arith)

pub gap_law : GapLaw
gap_law = record { allowed = allowed; least = least }

-- ---- whole words

rest-whole : (m x : ℕ) → m % 4 ≡ 0 → x % 4 ≡ 0 → (x % m) % 4 ≡ 0
rest-whole m x hm hx =
    let j : ℕ = m / 4 in
    let whole : m ≡ 4 * (m / 4) = omega arith in
    let all = div-add-mod' x m in
    let Same : ℕ → Type 0 = λ k. x / m * k + x % m ≡ x in
    let split : x / m * (4 * (m / 4)) + x % m ≡ x = subst Same whole all in
    omega (arith, split)

pub gap-whole : (origin m at : ℕ) → 0 < m → m % 4 ≡ 0 → origin % 4 ≡ 0 → at % 4 ≡ 0 → gap origin m at % 4 ≡ 0
gap-whole origin m at h hm ho ha = go (gap_is m (at - origin) h) (rest-whole m (at - origin) hm (omega arith))
  where
    go : (((at - origin) % m ≡ 0) × ((m - (at - origin) % m) % m ≡ 0)) ⊎ ((m - (at - origin) % m) % m + (at - origin) % m ≡ m)
        → ((at - origin) % m) % 4 ≡ 0 → ((m - (at - origin) % m) % m) % 4 ≡ 0
    go (inl (none, zero_gap)) rest = omega arith
    go (inr all) rest = omega arith

-- a thing of whole words
pub record IsWhole (t : Thing) : Type 0 where
  pub positive : 0 < alignment_of t
  pub alignment : alignment_of t % 4 ≡ 0
  pub size : size_of t % 4 ≡ 0

power-whole : (n : ℕ) → 2 ≤ n → (0 < 2 ^ n) × (2 ^ n % 4 ≡ 0)
power-whole zero h = absurd (omega arith)
power-whole (suc zero) h = absurd (omega arith)
power-whole (suc (suc zero)) h = (omega arith, refl)
power-whole (suc (suc (suc n))) h = let (low, whole) = power-whole (suc (suc n)) (omega arith) in let e : 2 ^ suc (suc (suc n)) ≡ 2 ^ suc (suc n) * 2 = pow-suc 2 (suc (suc n)) in (omega arith, omega arith)

pub whole_area : (i : Item) → IsWholeItem i → IsWhole (AnArea i)
whole_area i h = let (low, whole) = power-whole (i.attributes % 256) h.alignment in record { positive = low; alignment = whole; size = h.size }

pub whole_header : IsWhole Header
whole_header = record { positive = omega arith; alignment = refl; size = refl }

pub whole_veneer : (target : Home) (thumb : Bool) → IsWhole (AVeneer target thumb)
whole_veneer target true = record { positive = omega arith; alignment = refl; size = refl }
whole_veneer target false = record { positive = omega arith; alignment = refl; size = refl }

pub whole_startup : (words : ℕ) → IsWhole (Startup words)
whole_startup words = record { positive = omega arith; alignment = refl; size = omega arith }

pub extent-whole : (origin at : ℕ) (ts : List Thing) → origin % 4 ≡ 0 → at % 4 ≡ 0 → AllByRecursion IsWhole ts → extent origin at ts % 4 ≡ 0
extent-whole origin at [] ho ha all = refl
extent-whole origin at (t ∷ ts) ho ha (first, all) =
    let aligned = gap-whole origin (alignment_of t) at first.positive first.alignment ho ha in
    let whole = first.size in
    let rest = extent-whole origin (start_of origin at t + size_of t) ts ho (omega arith) all in
    omega arith

pub extent-append : (origin at : ℕ) (xs ys : List Thing) → extent origin at (xs ++ ys) ≡ extent origin at xs + extent origin (at + extent origin at xs) ys
extent-append origin at [] ys = let e : at + 0 ≡ at = omega arith in omega (arith, ap (λ (k : ℕ). extent origin k ys) e)
extent-append origin at (x ∷ xs) ys =
    let rest = extent-append origin (start_of origin at x + size_of x) xs ys in
    let e : start_of origin at x + size_of x + extent origin (start_of origin at x + size_of x) xs ≡ at + extent origin at (x ∷ xs) = omega arith in
    let same = ap (λ (k : ℕ). extent origin k ys) e in
    omega (arith, rest, same)
