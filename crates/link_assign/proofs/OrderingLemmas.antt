-- A stable sort puts the areas of a region in order.
use Rattle.std.proofs.Common.{◌≡◌, ℕ, zero, suc, ◌<◌, Bool, true, false, cond, not, ◌&&◌, ◌==◌, nat_lt, if◌then◌else◌, List, [], ◌∷◌, length, get_or, map, filter, refl, sym, ap, ◌∙◌, arith, inl, inr, suc-le-suc, zero-le}
use Rattle.std.specs.declared.cmp.Ordering.{Ordering}
use Rattle.std.specs.declared.cmp.Ordering.TheVariants.{Less, Equal, Greater}
use Rattle.std.specs.Ordering.{is_lt, is_le, nat_cmp, ordering_then, ordering_reverse}
use Rattle.std.specs.Cmp.{IsStrictWeakOrder, IsTotalOrder}
use Rattle.std.specs.Cmp.Lexicographic.{slice_cmp}
use Rattle.std.specs.List.{AllByRecursion}
use Rattle.std.specs.List.Sorted.{ties, IsSortedBy, IsStableBy}
use Rattle.std.proofs.lemmas.Bool.{cases_Bool, and_parts, not-true, cond-true, cond-false}
use Rattle.std.proofs.lemmas.Bool.Decides.{nat_tests}
use Rattle.std.proofs.lemmas.Cmp.{nat_cmp_total, nat_list_cmp_total, on_total, then_total}
use Rattle.std.proofs.lemmas.List.Sorted.{sorted_far, ranks_by}
use Rattle.list_lemmas.proofs.StableSort.{put, ordered, ordered_from_sort}
use Rattle.place_model.specs.Assignment.{Kept as Placed, order_number, may_precede, put_in, in_order}
use Rattle.link_assign.specs.declared.keeping.Kept.{Kept}
use Rattle.link_assign.specs.Ordering.{compared}
use Rattle.link_assign.specs.Shown.{shown_kept}

-- ---- by number, then by name

pub compared_total : IsTotalOrder compared
compared_total = then_total (on_total order_number nat_cmp_total) (on_total (λ k. k.item.name) nat_list_cmp_total)

abbrev pub is_below : Kept → Kept → Bool
is_below k l = is_lt (compared (shown_kept k) (shown_kept l))

pub below_ranks : IsStrictWeakOrder is_below
below_ranks = ranks_by compared_total shown_kept

le_not_lt : (r s : Ordering) → r ≡ ordering_reverse s → is_le r ≡ not (is_lt s)
le_not_lt r Less e = rw e refl
le_not_lt r Equal e = rw e refl
le_not_lt r Greater e = rw e refl

by_number : (a b : ℕ) (r s : Ordering) → is_le r ≡ not (is_lt s) → (if nat_lt a b then true else a == b && is_le r) ≡ not (is_lt (ordering_then (nat_cmp b a) s))
by_number a b r s e = grind (arith, nat_tests)

precedes : (k l : Placed) → may_precede k l ≡ not (is_lt (compared l k))
precedes k l =
    by_number (order_number k) (order_number l) (slice_cmp nat_cmp k.item.name l.item.name) (slice_cmp nat_cmp l.item.name k.item.name)
    (le_not_lt (slice_cmp nat_cmp k.item.name l.item.name) (slice_cmp nat_cmp l.item.name k.item.name) (nat_list_cmp_total.antisymm k.item.name l.item.name))

put_shown : (k : Kept) (ks : List Kept) → map shown_kept (put is_below k ks) ≡ put_in (shown_kept k) (map shown_kept ks)
put_shown k [] = refl
put_shown k (l ∷ ls) = go (is_below l k) refl (put_shown k ls)
  where
    go : (b : Bool) → is_below l k ≡ b → map shown_kept (put is_below k ls) ≡ put_in (shown_kept k) (map shown_kept ls)
        → map shown_kept (if b then l ∷ put is_below k ls else k ∷ l ∷ ls) ≡ put_in (shown_kept k) (map shown_kept (l ∷ ls))
    go true e rest = let later : may_precede (shown_kept k) (shown_kept l) ≡ false = precedes (shown_kept k) (shown_kept l) ∙ ap not e in rw later (ap (λ ms. shown_kept l ∷ ms) rest)
    go false e rest = let first : may_precede (shown_kept k) (shown_kept l) ≡ true = precedes (shown_kept k) (shown_kept l) ∙ ap not e in rw first refl

ordered_shown : (ks : List Kept) → map shown_kept (ordered is_below ks) ≡ in_order (map shown_kept ks)
ordered_shown [] = refl
ordered_shown (k ∷ ks) = put_shown k (ordered is_below ks) ∙ ap (put_in (shown_kept k)) (ordered_shown ks)

pub in_order_from_sort : (xs ys : List Kept) → IsSortedBy is_below ys → IsStableBy is_below xs ys → map shown_kept ys ≡ in_order (map shown_kept xs)
in_order_from_sort xs ys up stable = ap (map shown_kept) (ordered_from_sort is_below below_ranks xs ys up stable) ∙ ordered_shown xs
