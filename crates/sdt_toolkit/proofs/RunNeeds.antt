-- The addresses that an image needs: each is memory of the banks, in a used page, below 2^32.
use Rattle.std.proofs.Common.{◌≡◌, ℕ, ◌+◌, ◌*◌, ◌/◌, ◌^◌, ◌<◌, ◌≤◌, Bool, true, false, not, ◌||◌, List, [], ◌∷◌, refl, sym, ◌∙◌, arith, le-leb}
use Rattle.std.specs.Prelude.{◌&&◌, nat_lt, max, min}
use Rattle.std.specs.List.{list_any, AllByRecursion}
use Rattle.std.proofs.lemmas.Bool.Decides.{nat_tests}
use Rattle.std.proofs.lemmas.List.{get_or_default, same_lists}
use Rattle.arm7_bus.specs.declared.memory.Bank.{Bank}
use Rattle.arm7_bus.specs.Meets.{IsNowhere}
use Rattle.arm7_bus.specs.Paging.{page_used_in}
use Rattle.arm7_bus.specs.Seats.{has_access}
use Rattle.arm7_bus.specs.States.{bank_has}
use Rattle.arm7_bus.specs.Touches.{range_touches}
use Rattle.run_opening.specs.declared.image.Need.{Need}
use Rattle.run_opening.specs.Banks.{AreUsed, is_lacking, lacks}
use Rattle.run_opening.specs.Fills.{EndsBelow}
use Rattle.run_opening.proofs.OpeningLemmas.{ends_below}
use Rattle.sdt_toolkit.specs.RunImages.{is_needed}

false_true : {A : Type 0} → false ≡ true → A
false_true e = absurd (let bad : false ≡ true = e in cc)

pub none_left : (x y : Bool) → (x || y) ≡ false → x ≡ false
none_left true y e = false_true (sym e)
none_left false y e = refl

pub none_right : (x y : Bool) → (x || y) ≡ false → y ≡ false
none_right true y e = false_true (sym e)
none_right false y e = e

record IsThere (banks : List Bank) (needs : List Need) (x : ℕ) : Type 0 where
  pub bank : bank_has banks x 1 ≡ true
  pub page : list_any (λ (n : Need). range_touches n.base n.size (x / 4096)) needs ≡ true
  pub below : x < 4294967296

touches : (base size x : ℕ) → has_access base size x 1 ≡ true → range_touches base size (x / 4096) ≡ true
touches base size x e = less (max base (4096 * (x / 4096))) (min (base + size) (4096 * (x / 4096) + 4096)) (let (lo, hi) = at in omega arith)
  where
    less : (a b : ℕ) → a < b → nat_lt a b ≡ true
    less a b lt = grind (arith, nat_tests)

    at : (base ≤ x) × (x + 1 ≤ base + size)
    at = (grind (arith, nat_tests), grind (arith, nat_tests))

high : (base size x : ℕ) → has_access base size x 1 ≡ true → x + 1 ≤ base + size
high base size x e = grind (arith, nat_tests)

within : (banks : List Bank) (n : Need) (x : ℕ) → n.base + n.size ≤ 2 ^ 32 → lacks banks n x ≡ (has_access n.base n.size x 1 && not (bank_has banks x 1))
within banks n x le = rw (le-leb (n.base + n.size) (2 ^ 32) le) refl

has_bank : (a b : Bool) → a ≡ true → (a && not b) ≡ false → b ≡ true
has_bank true true e f = refl
has_bank true false e f = false_true (sym f)
has_bank false b e f = false_true e

there : (banks : List Bank) (needs : List Need) (x : ℕ) → AllByRecursion EndsBelow needs → is_lacking banks needs x ≡ false → is_needed needs x ≡ true → IsThere banks needs x
there banks [] x ends none e = false_true e
there banks (n ∷ ns) x (end, ends) none e = go (has_access n.base n.size x 1) refl e (there banks ns x ends (none_right (lacks banks n x) (is_lacking banks ns x) none))
  where
    go : (b : Bool) → has_access n.base n.size x 1 ≡ b → (b || is_needed ns x) ≡ true → (is_needed ns x ≡ true → IsThere banks ns x) → IsThere banks (n ∷ ns) x
    go true f h more = record {
      bank = has_bank (has_access n.base n.size x 1) (bank_has banks x 1) f (sym (within banks n x end.end) ∙ none_left (lacks banks n x) (is_lacking banks ns x) none);
      page = rw (touches n.base n.size x f) refl;
      below = let top = high n.base n.size x f in let room = end.end in omega arith;
    }
    go false f h more = let t = more h in record { bank = t.bank; page = either (range_touches n.base n.size (x / 4096)) t.page; below = t.below }
      where
        either : (a : Bool) → list_any (λ (m : Need). range_touches m.base m.size (x / 4096)) ns ≡ true → (a || list_any (λ (m : Need). range_touches m.base m.size (x / 4096)) ns) ≡ true
        either true p = refl
        either false p = p

module _ (banks : List Bank) (needs : List Need) (room : IsNowhere (is_lacking banks needs)) where
  pub needed_bank : (x : ℕ) → is_needed needs x ≡ true → bank_has banks x 1 ≡ true
  needed_bank x e = (there banks needs x (ends_below banks needs room) (room.none x) e).bank

  pub needed_page : (used : List Bool) (x : ℕ) → AreUsed used needs → is_needed needs x ≡ true → page_used_in used x ≡ true
  needed_page used x u e =
      let t = there banks needs x (ends_below banks needs room) (room.none x) e in
      let below = t.below in
      u.each (x / 4096) (omega arith) ∙ t.page

-- ---- used pages are one list

pub same_used : (us vs : List Bool) (needs : List Need) → AreUsed us needs → AreUsed vs needs → us ≡ vs
same_used us vs needs u v =
    let pages = u.pages in let others = v.pages in
    same_lists us vs (pages ∙ sym others)
    (λ k d lt. get_or_default us k d false lt ∙ (let below : k < 1048576 = omega arith in u.each k below ∙ sym (v.each k below)) ∙ sym (get_or_default vs k d false (omega arith)))
