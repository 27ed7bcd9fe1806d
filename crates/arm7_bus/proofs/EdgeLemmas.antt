-- Pages between two edges of the banks: the banks touch all of them, or none.
use Rattle.std.proofs.Common.{◌≡◌, ℕ, zero, suc, ◌+◌, ◌-◌, ◌*◌, ◌/◌, ◌<◌, ◌≤◌, true, false, List, [], ◌∷◌, refl, sym, ◌∙◌, arith}
use Rattle.std.specs.Prelude.{max, min, nat_lt}
use Rattle.std.specs.List.{list_any}
use Rattle.arm7_bus.specs.declared.memory.Bank.{Bank}
use Rattle.arm7_bus.specs.Touches.{IsRun, range_touches, pages_touched}

not_less : (x y : ℕ) → y ≤ x → nat_lt x y ≡ false
not_less x y h = grind arith

less : (x y : ℕ) → x < y → nat_lt x y ≡ true
less x y h = grind arith

outside : (base size x : ℕ) → min (base + size) (4096 * x + 4096) ≤ max base (4096 * x) → range_touches base size x ≡ false
outside base size x h = not_less (max base (4096 * x)) (min (base + size) (4096 * x + 4096)) h

inside : (base size x : ℕ) → base / 4096 ≤ x → x < (base + suc size + 4095) / 4096 → range_touches base (suc size) x ≡ true
inside base size x low high = less (max base (4096 * x)) (min (base + suc size) (4096 * x + 4096)) (omega arith)

pub same_before : (base size page x : ℕ) → page ≤ x → x < base / 4096 → range_touches base size x ≡ range_touches base size page
same_before base size page x low high = outside base size x (omega arith) ∙ sym (outside base size page (omega arith))

pub same_within : (base size page x : ℕ) → base / 4096 ≤ page → page ≤ x → x < (base + size + 4095) / 4096 → range_touches base size x ≡ range_touches base size page
same_within base zero page x from low high = outside base 0 x (omega arith) ∙ sym (outside base 0 page (omega arith))
same_within base (suc size) page x from low high = inside base size x (omega arith) high ∙ sym (inside base size page from (omega arith))

pub same_behind : (base size page x : ℕ) → (base + size + 4095) / 4096 ≤ page → page ≤ x → range_touches base size x ≡ range_touches base size page
same_behind base size page x end low = outside base size x (omega arith) ∙ sym (outside base size page (omega arith))

-- one more bank
pub run_more : (b : Bank) (bs : List Bank) (page e f n : ℕ) → ((x : ℕ) → page ≤ x → x < e → range_touches b.range.base b.range.size x ≡ range_touches b.range.base b.range.size page)
    → IsRun bs page f → n ≤ e → n ≤ f → IsRun (b ∷ bs) page n
run_more b bs page e f n h r le lf = record { same = λ x low high. rw (h x low (omega arith), r.same x low (omega arith)) refl }

pub run_none : (page n : ℕ) → IsRun [] page n
run_none page n = record { same = λ x low high. refl }

all_touched : (banks : List Bank) (page k : ℕ) → ((x : ℕ) → page ≤ x → x < page + k → list_any (λ (b : Bank). range_touches b.range.base b.range.size x) banks ≡ true)
    → pages_touched banks (page + k) ≡ pages_touched banks page + k
unfolding pages_touched
all_touched banks page zero h = let s : page + 0 ≡ page = omega arith in rw s (omega arith)
all_touched banks page (suc k) h =
    let s : page + suc k ≡ suc (page + k) = omega arith in
    let before = all_touched banks page k (λ x low high. h x low (omega arith)) in
    rw (s, h (page + k) (omega arith) (omega arith)) (omega (arith, before))

none_touched : (banks : List Bank) (page k : ℕ) → ((x : ℕ) → page ≤ x → x < page + k → list_any (λ (b : Bank). range_touches b.range.base b.range.size x) banks ≡ false)
    → pages_touched banks (page + k) ≡ pages_touched banks page
unfolding pages_touched
none_touched banks page zero h = let s : page + 0 ≡ page = omega arith in rw s refl
none_touched banks page (suc k) h =
    let s : page + suc k ≡ suc (page + k) = omega arith in
    let before = none_touched banks page k (λ x low high. h x low (omega arith)) in
    rw (s, h (page + k) (omega arith) (omega arith)) (omega (arith, before))

pub run_touched : (banks : List Bank) (page edge : ℕ) → page ≤ edge → IsRun banks page edge
    → list_any (λ (b : Bank). range_touches b.range.base b.range.size page) banks ≡ true → (edge - page) + pages_touched banks page ≡ pages_touched banks edge
run_touched banks page edge le r t =
    let s : page + (edge - page) ≡ edge = omega arith in
    let all = rw s at (all_touched banks page (edge - page) (λ x low high. r.same x low (omega arith) ∙ t)) in
    omega (arith, all)

pub run_untouched : (banks : List Bank) (page edge : ℕ) → page ≤ edge → IsRun banks page edge
    → list_any (λ (b : Bank). range_touches b.range.base b.range.size page) banks ≡ false → pages_touched banks page ≡ pages_touched banks edge
run_untouched banks page edge le r t =
    let s : page + (edge - page) ≡ edge = omega arith in
    sym (rw s at (none_touched banks page (edge - page) (λ x low high. r.same x low (omega arith) ∙ t)))
