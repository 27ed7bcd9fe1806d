-- A stable sort puts exported names in order.
use Rattle.std.proofs.Common.{◌≡◌, ℕ, zero, suc, ◌<◌, Bool, true, false, cond, not, nat_lt, if◌then◌else◌, List, [], ◌∷◌, length, get_or, map, filter, refl, sym, ap, ◌∙◌, arith, inl, inr, suc-le-suc, zero-le}
use Rattle.std.specs.Ordering.{is_lt, nat_cmp}
use Rattle.std.specs.Cmp.{IsStrictWeakOrder}
use Rattle.std.specs.List.{AllByRecursion}
use Rattle.std.specs.List.Sorted.{ties, IsSortedBy, IsStableBy}
use Rattle.std.proofs.lemmas.Bool.{cases_Bool, and_parts, not-true, cond-true, cond-false}
use Rattle.std.proofs.lemmas.Bool.Decides.{nat_tests}
use Rattle.std.proofs.lemmas.Cmp.{nat_cmp_total}
use Rattle.std.proofs.lemmas.List.Sorted.{sorted_far, ranks_by}
use Rattle.list_lemmas.proofs.StableSort.{put, ordered, ordered_from_sort}
use Rattle.link_report.specs.declared.symbols.Listed.{Listed}
use Rattle.link_report.specs.Shown.{shown}
use Rattle.link_report.specs.Symbols.{put_in, by_value}

-- ---- by value

abbrev pub is_below : Listed → Listed → Bool
is_below k l = is_lt (nat_cmp k.value.number l.value.number)

pub below_ranks : IsStrictWeakOrder is_below
below_ranks = ranks_by nat_cmp_total (λ k. k.value.number)

is_less : (a b : ℕ) → is_lt (nat_cmp a b) ≡ nat_lt a b
is_less a b = grind (arith, nat_tests)

put_shown : (k : Listed) (ks : List Listed) → map shown (put is_below k ks) ≡ put_in (shown k) (map shown ks)
put_shown k [] = refl
put_shown k (l ∷ ls) = go (is_below l k) refl (put_shown k ls)
  where
    go : (b : Bool) → is_below l k ≡ b → map shown (put is_below k ls) ≡ put_in (shown k) (map shown ls)
        → map shown (if b then l ∷ put is_below k ls else k ∷ l ∷ ls) ≡ put_in (shown k) (map shown (l ∷ ls))
    go true e rest = let later : nat_lt l.value.number k.value.number ≡ true = sym (is_less l.value.number k.value.number) ∙ e in rw later (ap (λ ms. shown l ∷ ms) rest)
    go false e rest = let first : nat_lt l.value.number k.value.number ≡ false = sym (is_less l.value.number k.value.number) ∙ e in rw first refl

ordered_shown : (ks : List Listed) → map shown (ordered is_below ks) ≡ by_value (map shown ks)
ordered_shown [] = refl
ordered_shown (k ∷ ks) = put_shown k (ordered is_below ks) ∙ ap (put_in (shown k)) (ordered_shown ks)

pub by_value_from_sort : (xs ys : List Listed) → IsSortedBy is_below ys → IsStableBy is_below xs ys → map shown ys ≡ by_value (map shown xs)
by_value_from_sort xs ys up stable = ap (map shown) (ordered_from_sort is_below below_ranks xs ys up stable) ∙ ordered_shown xs
