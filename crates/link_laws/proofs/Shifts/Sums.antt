-- Sums of directives where what they name is moved.
use Rattle.std.proofs.Common.{◌≡◌, ℕ, ◌+◌, ◌-◌, ◌*◌, ◌/◌, ◌%◌, ◌^◌, ◌≤◌, Bool, true, false, not, ◌&&◌, cond, List, [], ◌∷◌, refl, ap, ◌∙◌, arith}
use Rattle.std.specs.Prelude.{count_by}
use Rattle.std.specs.List.{AllByRecursion}
use Rattle.std.proofs.lemmas.List.Sums.{sum_by-cons}
use Rattle.sdt_word.specs.Numbers.{flag}
use Rattle.aof_object.specs.declared.records.Reloc.{Reloc}
use Rattle.patch_model.specs.Fields.{Values, is_relative, value_named, mark_of, added, taken}
use Rattle.patch_model.specs.Patched.{total}

-- ---- plain numbers

-- what is added moves so often, what is taken away so much less often
pub total_moves : (old a t b B M R s : ℕ) → M ≡ R + s → b ≤ 2 ^ 32
    → total old (a + B * M) (t + B * R) ≡ (total old (a + b * M) (t + b * R) + (B + 2 ^ 32 - b) % 2 ^ 32 * s) % 2 ^ 32
total_moves old a t b B M R s e low =
    let d : ℕ = B + 2 ^ 32 - b in
    let by_b : b * M ≡ b * R + b * s = ap (λ n. b * n) e ∙ omega arith in
    let by_B : B * M ≡ B * R + B * s = ap (λ n. B * n) e ∙ omega arith in
    let split : d ≡ d % 2 ^ 32 + 2 ^ 32 * (d / 2 ^ 32) = omega arith in
    let times : d * s ≡ d % 2 ^ 32 * s + 2 ^ 32 * (d / 2 ^ 32 * s) = ap (λ n. n * s) split ∙ omega arith in
    let far : d * s + b * s ≡ B * s + 2 ^ 32 * s = sums d b B s (omega arith) in
    go (b * M) (b * R) (b * s) (B * M) (B * R) (B * s) (d * s) (d % 2 ^ 32 * s) (d / 2 ^ 32 * s) by_b by_B times far
  where
    sums : (d b B s : ℕ) → d + b ≡ B + 2 ^ 32 → d * s + b * s ≡ B * s + 2 ^ 32 * s
    sums d b B s h = omega arith ∙ ap (λ n. n * s) h ∙ omega arith

    go : (bM bR bs BM BR Bs ds ms ks : ℕ) → bM ≡ bR + bs → BM ≡ BR + Bs → ds ≡ ms + 2 ^ 32 * ks → ds + bs ≡ Bs + 2 ^ 32 * s
        → total old (a + BM) (t + BR) ≡ (total old (a + bM) (t + bR) + ms) % 2 ^ 32
    go bM bR bs BM BR Bs ds ms ks one two three four = omega arith

-- ---- counts

step : (p : Reloc → Bool) (r : Reloc) (rs : List Reloc) → count_by p (r ∷ rs) ≡ cond (p r) 1 0 + count_by p rs
step p r rs = sum_by-cons (λ x. cond (p x) 1 0) r rs

-- what moves and what is relative, by what is gained and lost
pub gained_and_lost : (moving : Reloc → Bool) (rs : List Reloc)
    → count_by moving rs + count_by (λ r. is_relative r && not (moving r)) rs ≡ count_by is_relative rs + count_by (λ r. not (is_relative r) && moving r) rs
gained_and_lost moving [] = refl
gained_and_lost moving (r ∷ rs) =
    let one = step moving r rs in
    let two = step (λ x. is_relative x && not (moving x)) r rs in
    let three = step is_relative r rs in
    let four = step (λ x. not (is_relative x) && moving x) r rs in
    let here = each (moving r) (is_relative r) in
    let rest = gained_and_lost moving rs in
    omega (arith, one, two, three, four, here, rest)
  where
    each : (m b : Bool) → cond m 1 0 + cond (b && not m) 1 0 ≡ cond b 1 0 + cond (not b && m) 1 0
    each true true = refl
    each true false = refl
    each false true = refl
    each false false = refl

-- ---- what directives add and take away

-- the value is another by so much, if it moves at all
pub record IsMovedIn (moving : Reloc → Bool) (by : ℕ) (v w : Values) (r : Reloc) : Type 0 where
  pub named : value_named w r ≡ value_named v r + by * cond (moving r) 1 0
  pub mark : mark_of w r ≡ mark_of v r

pub added_moves : (moving : Reloc → Bool) (by : ℕ) (v w : Values) (rs : List Reloc) → AllByRecursion (IsMovedIn moving by v w) rs
    → added w rs ≡ added v rs + by * count_by moving rs
added_moves moving by v w [] all = omega arith
added_moves moving by v w (r ∷ rs) (h, all) =
    let rest = added_moves moving by v w rs all in
    let named = h.named in
    let mark = h.mark in
    let times : by * count_by moving (r ∷ rs) ≡ by * cond (moving r) 1 0 + by * count_by moving rs = ap (λ n. by * n) (step moving r rs) ∙ omega arith in
    omega (arith, rest, named, mark, times)

pub taken_moves : (base by : ℕ) (rs : List Reloc) → taken (base + by) rs ≡ taken base rs + by * count_by is_relative rs
taken_moves base by [] = omega arith
taken_moves base by (r ∷ rs) =
    let rest = taken_moves base by rs in
    let times : by * count_by is_relative (r ∷ rs) ≡ by * cond (is_relative r) 1 0 + by * count_by is_relative rs = ap (λ n. by * n) (step is_relative r rs) ∙ omega arith in
    let here : (base + by) * flag (is_relative r) ≡ base * flag (is_relative r) + by * cond (is_relative r) 1 0 = each (is_relative r) in
    omega (arith, rest, times, here)
  where
    each : (b : Bool) → (base + by) * flag b ≡ base * flag b + by * cond b 1 0
    each true = omega arith
    each false = omega arith
